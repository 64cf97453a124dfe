-- The records of a page, written out from its frame.
use Rattle.std.proofs.Common.{◌≡◌, ℕ, [], Option, Some, Result, Ok, Err, refl, sym, ◌∙◌, ap, subst, arith}
use Rattle.std.specs.Prelude.{IsSome}
use Rattle.std.specs.Option.{option_map, option_map_or}
use Rattle.chip_trait.specs.Told.{Told}
use Rattle.log_records.specs.View.{Versioned, Spells}
use Rattle.ipl_base.specs.declared.fault.ChipFault.{ChipFault}
use Rattle.ipl_base.specs.declared.fault.ChipFault.TheVariants.{ReadFault, Stopped, Damaged, Malformed, WornOut}
use Rattle.ipl_meaning.specs.Tables.{Places, StatusTable, Tables}
use Rattle.unit_io.specs.Accounts.{Accounts}
use Rattle.restart.specs.Passes.{RenewCause}
use Rattle.buffer_pool.specs.Holding.{KeepsPins}
use Rattle.buffer_pool.proofs.HoldingLemmas.{rest_stays}
use Rattle.store_laws.specs.Frames.{PageFrame, Frames, logs_of, with_frame_at, with_frame_log}
use Rattle.store_laws.specs.Advances.{KeepsState}
use Rattle.page_frames.specs.Causes.{WritingCause}
use Rattle.page_frames.specs.RecordLaws.{frames_out}
use Rattle.page_frames.specs.Leaving.{LeavesWritten}
use Rattle.page_frames.specs.Writing.{WritesOut, WritesOutInSteps}
use Rattle.page_frames.proofs.KeepLemmas.{writings_keep_states}
use Rattle.page_frames.specs.Changes.{FrameChanges, IsClearedFrame}
use Rattle.page_frames.specs.declared.pages.Pages.{Pages}
use Rattle.page_frames.specs.Pages.{tables_in, frames_in, ArePagesReady, Upholds, PageCause, emptied, frames_after}
use Rattle.page_frames.proofs.FrameLemmas.{emptied_there}
use Rattle.page_frames.proofs.HeldLemmas.{some_of}
use Rattle.page_frames.proofs.TableLemmas.{tables_uphold}

-- ---- causes

out_cause : (after : Places) (t : Tables) (u : ℕ) (fault : ChipFault) (old new : Told)
    → WritingCause after t u fault old new → RenewCause after fault old new
out_cause after t u ReadFault old new rose = rose
out_cause after t u Stopped old new rose = rose
out_cause after t u (Damaged p s stored computed) old new is = (is.1, is.2)
out_cause after t u (Malformed p s) old new cause = tt
out_cause after t u (WornOut n) old new worn = worn

out_accounts : (after : Places) (t : Tables) (u : ℕ) (result : Result (Unit {0}) ChipFault)
    (old new : Told) → Accounts (WritingCause after t u) result old new
    → Accounts (PageCause after) result old new
out_accounts after t u (Ok v) old new did = record { counts = did.counts; cause = tt }
out_accounts after t u (Err e) old new did =
    record { counts = did.counts; cause = out_cause after t u e old new did.cause }

-- ---- the state is kept

frames_then : {T E : Type 0} (result : Result T E) (frames : Frames) (u page : ℕ) (f : PageFrame)
    → frames u page ≡ Some f → frames_out result frames u page f ≡ frames_after result frames u page
frames_then (Ok v) frames u page f there =
    ap (with_frame_at frames u page) (sym (ap (option_map (λ g. with_frame_log g [])) there))
frames_then (Err e) frames u page f there = refl

out_keeps : (t after : Tables) (frames : Frames) (u page : ℕ) (payload : Versioned)
    (old new : Told) (result : Result (Unit {0}) ChipFault) → IsSome (frames u page)
    → Spells payload (logs_of frames u page)
    → WritesOut old.places u payload t after old result new
    → WritesOutInSteps old.places payload t after old result new
    → Accounts (WritingCause after.places t u) result old new
    → KeepsState t frames old result after (frames_after result frames u page) new
out_keeps t after frames u page payload old new result there spelled tells steps accounts =
    let (f, is) = some_of (frames u page) there in
    subst (λ (later : Frames). KeepsState t frames old result after later new)
    (frames_then result frames u page f is)
    (writings_keep_states t after frames u page f payload old new result is
    (subst (Spells payload) (ap (λ (o : Option PageFrame). option_map_or (λ g. g.log) o []) is) spelled)
    tells steps accounts.cause)

-- ---- not done

pub out_failed : (u page : ℕ) (payload : Versioned) (old new : Pages) (e : ChipFault)
    (before after : Told) → ArePagesReady before.places old → new.pool ≡ old.pool
    → IsSome (frames_in old u page) → Spells payload (logs_of (frames_in old) u page)
    → WritesOut before.places u payload (tables_in old) (tables_in new) before (Err e) after
    → WritesOutInSteps before.places payload (tables_in old) (tables_in new) before (Err e) after
    → LeavesWritten 14 (WritingCause new.parts.directory (tables_in old) u) (tables_in old)
    (tables_in new) (Err e) before after
    → Upholds {T = Unit {0}} 14 old before (Err e) new after
out_failed u page payload old new e before after ready same there spelled tells steps leaves =
    let holds = leaves.holds in
    tables_uphold 14 old new (Err e) before after ready same holds.known holds.units holds.active
    (ap (λ (it : StatusTable). it.most) holds.status)
    (out_keeps (tables_in old) (tables_in new) (frames_in old) u page payload before after
    (Err e) there spelled tells steps leaves.accounts) leaves.tidy leaves.wears leaves.draws
    (out_accounts new.parts.directory (tables_in old) u (Err e) before after leaves.accounts)

-- ---- done

-- the frame of the page has no records
pub cleared_frames : (old new : Frames) (u page : ℕ) → FrameChanges IsClearedFrame old new u page
    → new ≡ emptied old u page
cleared_frames old new u page did =
    did.frames ∙ ap (with_frame_at old u page) (ap Some did.changes
    ∙ sym (ap (option_map (λ g. with_frame_log g [])) did.there))

pub out_done : (u page : ℕ) (payload : Versioned) (old new : Pages) (before after : Told)
    → ArePagesReady before.places old → Spells payload (logs_of (frames_in old) u page)
    → FrameChanges IsClearedFrame (frames_in old) (frames_in new) u page → KeepsPins old.pool new.pool
    → WritesOut before.places u payload (tables_in old) (tables_in new) before (Ok tt) after
    → WritesOutInSteps before.places payload (tables_in old) (tables_in new) before (Ok tt) after
    → LeavesWritten 14 (WritingCause new.parts.directory (tables_in old) u) (tables_in old)
    (tables_in new) (Ok tt) before after
    → Upholds {T = Unit {0}} 14 old before (Ok tt) new after
out_done u page payload old new before after ready spelled did pins tells steps leaves =
    let is = cleared_frames (frames_in old) (frames_in new) u page did in
    let holds = leaves.holds in record {
      keeps = subst (λ (later : Frames). KeepsState {T = Unit {0}} {E = ChipFault} (tables_in old)
          (frames_in old) before (Ok tt) (tables_in new) later after) (sym is)
          (out_keeps (tables_in old) (tables_in new) (frames_in old) u page payload before after
          (Ok tt) (subst IsSome (sym did.there) refl) spelled tells steps leaves.accounts);
      tidy = leaves.tidy;
      wears = leaves.wears;
      ready = record {
        known = holds.known;
        within = λ v q f there.
            let was = emptied_there (frames_in old) u page v q f
            (ap (λ (F : Frames). F v q) (sym is) ∙ there) in
            let low = ready.within v q was.0 was.1 in
            omega (arith, low, holds.units);
        rest = rest_stays old.pool new.pool pins ready.rest;
      };
      units = holds.units;
      room = ap (λ (it : StatusTable). it.most) holds.status;
      active = holds.active;
      pins = pins;
      least = leaves.draws.0;
      drawn = leaves.draws.1;
      accounts = out_accounts new.parts.directory (tables_in old) u (Ok tt) before after
          leaves.accounts;
    }
