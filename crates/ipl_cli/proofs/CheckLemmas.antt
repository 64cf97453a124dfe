-- A check of a chip: what its end leaves, what a note leaves of that, and when it ends so.
use Rattle.std.proofs.Common.{◌≡◌, ◌≢◌, ℕ, List, Option, Some, Result, Ok, Err, refl, ap, subst, sym, arith}
use Rattle.std.specs.Prelude.{OnOk, OnErr, IfErr}
use Rattle.chip_trait.specs.Told.{Told, Beside, FailsToSay, Rose, SayCounts}
use Rattle.ipl_base.specs.Places.{IsGeometry}
use Rattle.ipl_base.specs.declared.fault.ChipFault.TheVariants.{ReadFault, Stopped, Damaged, Malformed, WornOut}
use Rattle.ipl_base.specs.declared.fault.ImageFault.{ImageFault}
use Rattle.ipl_base.specs.declared.fault.ImageFault.TheVariants as image
use Rattle.ipl_model.specs.State.{Map}
use Rattle.ipl_meaning.specs.Legible.{whole}
use Rattle.unit_io.specs.Reads.{OfContents}
use Rattle.restart.specs.Looks.{OnlyReads}
use Rattle.store_trait.specs.Onward.{Further}
use Rattle.store_trait.proofs.OnwardLemmas.{onward_said, further_onward}
use Rattle.image_check.specs.Checked.{IsCheckCause, IsUnwell}
use Rattle.command_line.specs.declared.asked.Request.TheVariants.{Check}
use Rattle.command_line.specs.declared.end.End.{End}
use Rattle.command_line.specs.Ends.{fault_status}
use Rattle.command_line.specs.declared.end.End.TheVariants.{Words, Chip, OutOfMemory, Script, Output, TooLong}
use Rattle.ipl_cli.specs.Adds.{AddsLawful}
use Rattle.ipl_cli.specs.Ending.{Ending, IsLeftAlone, but_noted}
use Rattle.ipl_cli.specs.Checks.{records_line, HoldsAsMany, IsSaid, CountsRecords, Unwell, CheckedCause, CheckLeaves}
use Rattle.ipl_cli.specs.Top.{IsStray, HoldsRecords, IsCalm, RequestCause, EndCause}
use Rattle.ipl_cli.proofs.LawfulLemmas.{adds_said, adds_unsaid}

-- ---- a note says nothing

module _ (old mid : Told) (noted : Option (List ℕ)) where
  cause_noted : (e : ImageFault) → IsCheckCause e old mid → IsCheckCause e old (but_noted mid noted)
  cause_noted image.Geometry c = tt
  cause_noted image.NotFormatted c = tt
  cause_noted (image.Missing u) c = tt
  cause_noted (image.Chip ReadFault) c = c
  cause_noted (image.Chip Stopped) c = absurd c
  cause_noted (image.Chip (Damaged p s stored computed)) c = c
  cause_noted (image.Chip (Malformed p s)) c = tt
  cause_noted (image.Chip (WornOut n)) c = absurd c
  cause_noted image.Spent c = absurd c
  cause_noted (image.NoSpare n) c = tt
  cause_noted image.TooManyNumbers c = absurd c

  pub checked_cause : (e : ImageFault) → CheckedCause e old mid → CheckedCause e old (but_noted mid noted)
  checked_cause e c = record { cause = cause_noted e c.cause; unwell = c.unwell }

  counted_noted : {Says : List ℕ → Told → Told → Type 0} → CountsRecords Says old mid
      → CountsRecords Says old (but_noted mid noted)
  counted_noted l = record {
    records = l.records;
    holds = l.holds;
    read = l.read;
    reads = l.reads;
    said = l.said;
    says = l.says;
    noted = ap (λ (t : Told). but_noted t noted) l.noted;
  }

  unwell_noted : (e : ImageFault) → Unwell e old mid → Unwell e old (but_noted mid noted)
  unwell_noted e l = record {
    read = l.read;
    reads = l.reads;
    noted = ap (λ (t : Told). but_noted t noted) l.noted;
    unwell = l.unwell;
    other = λ misfit. ap (λ (t : Told). but_noted t noted) (l.other misfit);
  }

  pub check_left : (ending : Ending) → CheckLeaves ending old mid
      → CheckLeaves ending old (but_noted mid noted)
  check_left (Ok u) l = counted_noted l
  check_left (Err Words) l = absurd l
  check_left (Err (Chip e)) l = unwell_noted e l
  check_left (Err OutOfMemory) l = ap (λ (t : Told). but_noted t noted) l
  check_left (Err Script) l = absurd l
  check_left (Err Output) l = counted_noted l
  check_left (Err TooLong) l = absurd l

-- ---- by the status

module _ (old new : Told) where
  pub checked_chip : (e : ImageFault) → CheckedCause e old new → fault_status e ≡ 3
      → Rose old.read_faults new.read_faults
  checked_chip image.Geometry c is = absurd (omega (arith, is))
  checked_chip image.NotFormatted c is = absurd (omega (arith, is))
  checked_chip (image.Missing u) c is = absurd (omega (arith, is))
  checked_chip (image.Chip ReadFault) c is = c.cause
  checked_chip (image.Chip Stopped) c is = absurd c.cause
  checked_chip (image.Chip (Damaged p s stored computed)) c is = absurd (omega (arith, is))
  checked_chip (image.Chip (Malformed p s)) c is = absurd (omega (arith, is))
  checked_chip (image.Chip (WornOut n)) c is = absurd c.cause
  checked_chip image.Spent c is = absurd c.cause
  checked_chip (image.NoSpare n) c is = absurd (omega (arith, is))
  checked_chip image.TooManyNumbers c is = absurd (omega (arith, is))

  pub checked_worn : (e : ImageFault) → CheckedCause e old new → fault_status e ≡ 10 → ⊥
  checked_worn image.Geometry c is = omega (arith, is)
  checked_worn image.NotFormatted c is = omega (arith, is)
  checked_worn (image.Missing u) c is = omega (arith, is)
  checked_worn (image.Chip ReadFault) c is = omega (arith, is)
  checked_worn (image.Chip Stopped) c is = c.cause
  checked_worn (image.Chip (Damaged p s stored computed)) c is = omega (arith, is)
  checked_worn (image.Chip (Malformed p s)) c is = omega (arith, is)
  checked_worn (image.Chip (WornOut n)) c is = c.cause
  checked_worn image.Spent c is = c.cause
  checked_worn (image.NoSpare n) c is = omega (arith, is)
  checked_worn image.TooManyNumbers c is = omega (arith, is)

  pub checked_spent : (e : ImageFault) → CheckedCause e old new → fault_status e ≡ 9 → ⊥
  checked_spent image.Geometry c is = omega (arith, is)
  checked_spent image.NotFormatted c is = omega (arith, is)
  checked_spent (image.Missing u) c is = omega (arith, is)
  checked_spent (image.Chip ReadFault) c is = omega (arith, is)
  checked_spent (image.Chip Stopped) c is = c.cause
  checked_spent (image.Chip (Damaged p s stored computed)) c is = omega (arith, is)
  checked_spent (image.Chip (Malformed p s)) c is = omega (arith, is)
  checked_spent (image.Chip (WornOut n)) c is = c.cause
  checked_spent image.Spent c is = c.cause
  checked_spent (image.NoSpare n) c is = omega (arith, is)
  checked_spent image.TooManyNumbers c is = omega (arith, is)

  -- at 4 what the chip held stands for no records
  pub checked_stray : (e : ImageFault) → CheckedCause e old new → fault_status e ≡ 4 → IsStray old
  checked_stray e c is = λ x told m stands.
      (c.unwell (λ same. omega (arith, is, ap fault_status same)) x told).stray m stands

-- ---- completeness

module _ (old new : Told) (calm : IsCalm old new) (holds : (m : Map) × HoldsRecords old.places (whole m) old) where
  unread : (e : ImageFault) → e ≢ image.Chip ReadFault → CheckedCause e old new → ⊥
  unread e other c = (c.unwell other holds.1.contents holds.1.told).stray holds.0 holds.1.stands

  pub checked_never : (e : ImageFault) → CheckedCause e old new → ⊥
  checked_never image.Geometry c = unread image.Geometry (λ is. cc) c
  checked_never image.NotFormatted c = unread image.NotFormatted (λ is. cc) c
  checked_never (image.Missing u) c = unread (image.Missing u) (λ is. cc) c
  checked_never (image.Chip ReadFault) c = calm.reads c.cause
  checked_never (image.Chip Stopped) c = c.cause
  checked_never (image.Chip (Damaged p s stored computed)) c = unread (image.Chip (Damaged p s stored computed)) (λ is. cc) c
  checked_never (image.Chip (Malformed p s)) c = unread (image.Chip (Malformed p s)) (λ is. cc) c
  checked_never (image.Chip (WornOut n)) c = c.cause
  checked_never image.Spent c = c.cause
  checked_never (image.NoSpare n) c = unread (image.NoSpare n) (λ is. cc) c
  checked_never image.TooManyNumbers c = c.cause

-- ---- what a check did

module _ (old mid new : Told) (records : ℕ) (result : Result (Unit {0}) End) where
  pub checked_leaves : HoldsAsMany records old → OnlyReads old mid
      → OnOk result (IsSaid (records_line records) mid new) → OnErr result (FailsToSay (records_line records) mid new)
      → IfErr result (λ end. end ≡ Output) → CheckLeaves result old new
  checked_leaves = left_by result
    where
      counted : {Says : List ℕ → Told → Told → Type 0} → HoldsAsMany records old → OnlyReads old mid
          → Says (records_line records) mid new → CountsRecords Says old new
      counted holds reads says = record {
        records = records;
        holds = holds;
        read = mid;
        reads = reads;
        said = new;
        says = says;
        noted = refl;
      }

      left_by : (r : Result (Unit {0}) End) → HoldsAsMany records old → OnlyReads old mid
          → OnOk r (IsSaid (records_line records) mid new) → OnErr r (FailsToSay (records_line records) mid new)
          → IfErr r (λ end. end ≡ Output) → CheckLeaves r old new
      left_by (Ok u) holds reads said unsaid is = counted {Says = IsSaid} holds reads said
      left_by (Err e) holds reads said unsaid is =
          subst (λ (f : End). CheckLeaves (Err f) old new) (sym is) (counted {Says = FailsToSay} holds reads unsaid)

pub checked_end : (old mid new : Told) (result : Result (Unit {0}) End) → OnlyReads old mid
    → IfErr result (λ end. end ≡ Output) → OnErr result (Rose mid.beside.say_faults new.beside.say_faults)
    → EndCause (Some Check) result old new
checked_end old mid new (Ok u) reads is rose = tt
checked_end old mid new (Err e) reads is rose =
    subst (λ (f : End). RequestCause Check f old new) (sym is)
    (subst (λ (b : Beside). Rose b.say_faults new.beside.say_faults) reads.counts.beside rose)

pub said_further : (mid new : Told) (records : ℕ) (result : Result (Unit {0}) End)
    → OnOk result (IsSaid (records_line records) mid new) → OnErr result (FailsToSay (records_line records) mid new)
    → SayCounts mid new → Further mid new
said_further mid new records (Ok u) said unsaid counts = further_onward mid new (onward_said mid new said.places counts)
said_further mid new records (Err e) said unsaid counts = further_onward mid new (onward_said mid new unsaid.places counts)

pub said_adds : (mid new : Told) (records : ℕ) (result : Result (Unit {0}) End)
    → OnOk result (IsSaid (records_line records) mid new) → OnErr result (FailsToSay (records_line records) mid new)
    → AddsLawful mid new
said_adds mid new records (Ok u) said unsaid = adds_said (records_line records) mid new said
said_adds mid new records (Err e) said unsaid = adds_unsaid (records_line records) mid new unsaid

untouched_is : (old new : Told) → new ≡ old → IsLeftAlone old new
untouched_is old new is = subst (λ (t : Told). t ≡ but_noted old t.beside.noted) (sym is) refl

pub unwell_leaves : (old new : Told) (fault : ImageFault) → OnlyReads old new
    → (fault ≢ image.Chip ReadFault → OfContents old (λ x. IsUnwell x old.places fault))
    → (¬ IsGeometry old.places → new ≡ old) → Unwell fault old new
unwell_leaves old new fault reads unwell other = record {
  read = new;
  reads = reads;
  noted = refl;
  unwell = unwell;
  other = λ misfit. untouched_is old new (other misfit);
}
