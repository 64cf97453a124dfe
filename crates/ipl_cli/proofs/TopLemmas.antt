-- What the end of the program says.
use Rattle.std.proofs.Common.{◌≡◌, ◌≢◌, ◌⊎◌, ◌==◌, ℕ, Bool, true, false, Some, None, Result, Ok, Err, inl, inr, refl, sym, ◌∙◌, ap, subst, arith}
use Rattle.chip_trait.specs.Told.{History, Told, Counts, Rose, Grew, IsConsistent}
use Rattle.ipl_base.specs.Places.{IsGeometry, IsSpared}
use Rattle.ipl_base.specs.declared.fault.ChipFault.TheVariants.{ReadFault, Stopped, Damaged, Malformed, WornOut}
use Rattle.ipl_base.specs.declared.fault.ImageFault.{ImageFault}
use Rattle.ipl_base.specs.declared.fault.ImageFault.TheVariants as image
use Rattle.ipl_base.specs.declared.fault.FormatFault.{FormatFault}
use Rattle.ipl_base.specs.declared.fault.FormatFault.TheVariants as format
use Rattle.ipl_meaning.specs.Chart.{chart_of}
use Rattle.ipl_meaning.proofs.CauseLemmas.{faults_are_caused}
use Rattle.restart.specs.Fresh.{Formats}
use Rattle.restart.proofs.LookLemmas.{reads_none}
use Rattle.script_run.specs.Goes.{ReadsAll}
use Rattle.script_store.specs.Worn.{WearsOut}
use Rattle.command_line.specs.declared.asked.Request.{Request}
use Rattle.command_line.specs.declared.asked.Request.TheVariants.{Format, Run, Serial, Check, Trial, Records}
use Rattle.command_line.specs.Ends.{status_of, fault_status}
use Rattle.command_line.specs.declared.end.End.TheVariants.{Words, Chip, OutOfMemory, Script, Output, TooLong}
use Rattle.ipl_cli.specs.Ending.{AskedFor, AsksOpened, AsksFormatted, AsksAnew, AsksToLook, AtStatus, Ending, IsLeftAlone, but_noted, format_end, status_at, units_beside, AsksOpenedBy, AsksOpenedWith, AsksFormattedBy}
use Rattle.ipl_cli.specs.Trials.{TrialLeaves}
use Rattle.ipl_cli.specs.Checks.{CheckLeaves}
use Rattle.ipl_cli.specs.Lists.{ListLeaves}
use Rattle.ipl_cli.specs.Views.{ViewsTold, OnlyViews, OnlyHears, SerialLeaves}
use Rattle.restart.specs.Looks.{AreTooMany, numbers_in}
use Rattle.ipl_cli.specs.Top.{HasFault, IsStray, IsLaidWell, LaidCause, UsedUpCause, FindsWorn, WearsAsAsked, StrayCause, OpenedCause, FormatCause, AnewCause, FormattedCause, ChipCause, IsTooLong, EndCause, RunsOpened, RunsFormatted, LaysOut, OnlyLooks, EndsAtFault, FormatLeaves, FormattedLeaves, OpenedLeaves, EndLeaves, Ends, RefusesFaults, StrayCause, SpentCause, LacksUnits, LacksRoom, EndsUnfit, UntouchedOrRuns, IsCalm, Suffices, EndsInTime}
use Rattle.ipl_cli.proofs.EndLemmas.{stopped_early, untouched_runs}
use Rattle.ipl_cli.proofs.WornLemmas.{format_finds}
use Rattle.ipl_cli.proofs.StartLemmas.{stands_well, again_is_later}
use Rattle.ipl_cli.proofs.ViewLemmas.{untouched_hears, hears_views, hears_only}
use Rattle.ipl_cli.proofs.CheckLemmas.{checked_chip, checked_worn, checked_spent, checked_stray}
use Rattle.ipl_cli.proofs.StatusLemmas.{chip_status, above_zero, not_zero}
use Rattle.ipl_cli.proofs.CalmLemmas.{stray_unfit, spent_unfit, anew_silent, complete_by}

-- ---- a format that fails

untouched : (old new : Told) → new ≡ old → IsLeftAlone old new
untouched old new is = subst (λ (t : Told). t ≡ but_noted old t.beside.noted) (sym is) refl

-- memory was wanting for the words
pub no_memory : (asked : AskedFor) (t : Told) → EndLeaves asked (Err OutOfMemory) t t
no_memory None t = refl
no_memory (Some (Format spares)) t = refl
no_memory (Some (Run frames sessions numbers true closes)) t = refl
no_memory (Some (Run frames sessions numbers false closes)) t = refl
no_memory (Some (Serial sessions)) t = untouched_hears t t refl
no_memory (Some Check) t = refl
no_memory (Some Records) t = refl
no_memory (Some (Trial seed count frames sessions numbers)) t = refl

abbrev failed : FormatFault → Result (Unit {0}) FormatFault
failed fault = Err fault

pub failed_format : (spares : ℕ) (old new : Told) → Counts old new → (fault : FormatFault)
    → (failed fault ≡ failed format.Geometry → new ≡ old)
    → (failed fault ≡ failed format.Stopped → Rose old.write_faults new.write_faults)
    → ((p : ℕ) → failed fault ≡ failed (format.Worn p) → Rose old.worn_erases new.worn_erases)
    → ((h : History)
    → Formats {A = Unit {0}} old.places (units_beside old.places spares) h old (Err fault) new)
    → FormatLeaves spares (Err (format_end fault)) old new
failed_format spares old new counts format.Geometry same rose worn formats =
    untouched old new (same refl)
failed_format spares old new counts format.Stopped same rose worn formats =
    stopped_early (units_beside old.places spares) format.Stopped old new counts (rose refl) formats
failed_format spares old new counts (format.Worn p) same rose worn formats =
    stopped_early (units_beside old.places spares) (format.Worn p) old new counts (worn p refl)
    formats

-- and why it fails
pub failed_cause : (spares : ℕ) (old new : Told) (fault : FormatFault)
    → (failed fault ≡ failed format.Geometry → ¬ IsSpared old.places spares)
    → (failed fault ≡ failed format.Stopped → Rose old.write_faults new.write_faults)
    → ((p : ℕ) → failed fault ≡ failed (format.Worn p) → Rose old.worn_erases new.worn_erases)
    → ((h : History)
    → Formats {A = Unit {0}} old.places (units_beside old.places spares) h old (Err fault) new)
    → EndCause (Some (Format spares)) (Err (format_end fault)) old new
failed_cause spares old new format.Geometry other rose worn formats = other refl
failed_cause spares old new format.Stopped other rose worn formats = rose refl
failed_cause spares old new (format.Worn p) other rose worn formats = record {
  one = refl;
  rose = worn p refl;
  found = format_finds old new old.places (units_beside old.places spares) p formats;
}

-- ---- by the status

untouched_looks : (old new : Told) → IsLeftAlone old new → OnlyLooks old new
untouched_looks old new is = record { read = old; reads = reads_none old; noted = is }

none_is_some : {X : Type 0} {x : X} → None ≡ Some x → ⊥
none_is_some e = cc

module _ (old new : Told) where
  opened_by : {sessions : ℕ} (ending : Ending) → OpenedLeaves sessions ending old new → RunsOpened sessions old new ending
  opened_by (Ok u) l = l.runs
  opened_by (Err Words) l = absurd l
  opened_by (Err (Chip e)) l = l.runs
  opened_by (Err OutOfMemory) l = untouched_runs old new l
  opened_by (Err Script) l = l.runs
  opened_by (Err Output) l = l.runs
  opened_by (Err TooLong) l = l.runs

  at_fault : (e ended : ImageFault) → EndsAtFault e ended
      → (fault_status ended ≡ fault_status e) ⊎ (fault_status ended ≡ 3) ⊎ (fault_status ended ≡ 5)
  at_fault e ended (inl same) = inl (ap fault_status same)
  at_fault e ended (inr read) = inr (inl (ap fault_status read))

  laid_never : IsLaidWell old → (e : ImageFault) → HasFault old e → ⊥
  laid_never laid e has = none_is_some (sym (laid has.contents has.told) ∙ has.fault)

  -- a fault of which the cause is known
  too_many : (numbers : ℕ) (e ended : ImageFault) → HasFault old e → OpenedCause numbers ended old new
      → ended ≡ image.TooManyNumbers → AreTooMany numbers (numbers_in old.places) old
  too_many numbers e ended has cause is = elim (subst (λ (f : ImageFault). OpenedCause numbers f old new) is cause) [
    | inl many ↦ many
    | inr again ↦ absurd (laid_never again.laid e has)
  ]

  refuses_at : (numbers : ℕ) (e ended : ImageFault) → HasFault old e → OpenedCause numbers ended old new
      → EndsAtFault e ended ⊎ (ended ≡ image.TooManyNumbers)
      → (fault_status ended ≡ fault_status e) ⊎ (fault_status ended ≡ 3) ⊎ (fault_status ended ≡ 5)
      ⊎ ((fault_status ended ≡ 4) × AreTooMany numbers (numbers_in old.places) old)
  refuses_at numbers e ended has cause (inl at) = elim (at_fault e ended at) [
    | inl same ↦ inl same
    | inr other ↦ elim other [
      | inl read ↦ inr (inl read)
      | inr memory ↦ inr (inr (inl memory))
    ]
  ]
  refuses_at numbers e ended has cause (inr is) =
      inr (inr (inr (ap fault_status is, too_many numbers e ended has cause is)))

  refuses_by : (frames sessions numbers : ℕ) (closes : Bool) (ending : Ending)
      → EndCause (Some (Run frames sessions numbers false closes)) ending old new → OpenedLeaves sessions ending old new
      → RefusesFaults numbers old new (status_at ending)
  refuses_by frames sessions numbers closes (Ok u) c l e has = absurd (laid_never l.laid e has)
  refuses_by frames sessions numbers closes (Err Words) c l e has = absurd l
  refuses_by frames sessions numbers closes (Err (Chip ended)) c l e has =
      let is = l.refused e has in (is.0, refuses_at numbers e ended has c is.1)
  refuses_by frames sessions numbers closes (Err OutOfMemory) c l e has = (untouched_looks old new l, inr (inr (inl refl)))
  refuses_by frames sessions numbers closes (Err Script) c l e has = absurd (laid_never l.laid e has)
  refuses_by frames sessions numbers closes (Err Output) c l e has = absurd (laid_never l.laid e has)
  refuses_by frames sessions numbers closes (Err TooLong) c l e has = absurd (laid_never l.laid e has)

  abbrev Opened : Type 0
  Opened = IsLaidWell old × IsGeometry old.places

  laid_by : (sessions : ℕ) (ending : Ending) → OpenedLeaves sessions ending old new
      → (status_at ending ≡ 0) ⊎ (status_at ending ≡ 6) ⊎ (status_at ending ≡ 7) ⊎
      (status_at ending ≡ 8) → Opened
  laid_by sessions (Ok u) l is = (l.laid, l.fits)
  laid_by sessions (Err Words) l is = absurd l
  laid_by sessions (Err (Chip e)) l is = absurd (omega (arith, is, chip_status e))
  laid_by sessions (Err OutOfMemory) l is = absurd (omega (arith, is))
  laid_by sessions (Err Script) l is = (l.laid, l.fits)
  laid_by sessions (Err Output) l is = (l.laid, l.fits)
  laid_by sessions (Err TooLong) l is = (l.laid, l.fits)

  formatted_by : {sessions : ℕ} (ending : Ending) → FormattedLeaves sessions ending old new → status_at ending ≡ 0
      → RunsFormatted sessions old new (Ok tt)
  formatted_by (Ok u) l is = l.0
  formatted_by (Err end) l is = absurd (omega (arith, is, above_zero end))

  -- at the end of the script all of it was read
  opened_read : (sessions : ℕ) (ending : Ending) → OpenedLeaves sessions ending old new → status_at ending ≡ 0
      → ReadsAll old new
  opened_read sessions (Ok u) l is = l.read refl
  opened_read sessions (Err end) l is = absurd (omega (arith, is, above_zero end))

  formatted_read : (sessions : ℕ) (ending : Ending) → FormattedLeaves sessions ending old new → status_at ending ≡ 0
      → ReadsAll old new
  formatted_read sessions (Ok u) l is = l.1
  formatted_read sessions (Err end) l is = absurd (omega (arith, is, above_zero end))

  part_by : {sessions : ℕ} (ending : Ending) → FormattedLeaves sessions ending old new
      → (status_at ending ≡ 6) ⊎ (status_at ending ≡ 7) ⊎ (status_at ending ≡ 8)
      → RunsFormatted sessions old new ending
  part_by (Ok u) l is = absurd (omega (arith, is))
  part_by (Err Words) l is = absurd l
  part_by (Err (Chip e)) l is = absurd (omega (arith, is, chip_status e))
  part_by (Err OutOfMemory) l is = absurd (omega (arith, is))
  part_by (Err Script) l is = l
  part_by (Err Output) l is = l
  part_by (Err TooLong) l is = l

  stops_by : {sessions : ℕ} (ending : Ending) → FormattedLeaves sessions ending old new
      → (status_at ending ≡ 3) ⊎ (status_at ending ≡ 4) ⊎ (status_at ending ≡ 9)
      ⊎ (status_at ending ≡ 10) → UntouchedOrRuns sessions old new ending
  stops_by (Ok u) l is = absurd (omega (arith, is))
  stops_by (Err Words) l is = absurd l
  stops_by (Err (Chip e)) (inl other) is = inl (other.0, other.2)
  stops_by (Err (Chip e)) (inr ran) is = inr ran.1
  stops_by (Err OutOfMemory) l is = absurd (omega (arith, is))
  stops_by (Err Script) l is = absurd (omega (arith, is))
  stops_by (Err Output) l is = absurd (omega (arith, is))
  stops_by (Err TooLong) l is = absurd (omega (arith, is))

  formats_by : (spares : ℕ) (ending : Ending) → FormatLeaves spares ending old new
      → status_at ending ≡ 0 → LaysOut spares old new true
  formats_by spares (Ok u) l is = l
  formats_by spares (Err end) l is = absurd (omega (arith, is, above_zero end))

  views_by : {sessions : ℕ} (ending : Ending) → SerialLeaves sessions ending old new
      → ViewsTold sessions old new (status_at ending == 0)
  views_by (Ok u) l = l.0
  views_by (Err Words) l = absurd l
  views_by {sessions} (Err (Chip e)) l = subst (ViewsTold sessions old new)
      (sym (not_zero (fault_status e) (above_zero (Chip e)))) (hears_views old new
      (untouched_hears old new l))
  views_by (Err OutOfMemory) l = hears_views old new l
  views_by (Err Script) l = l.0
  views_by (Err Output) l = l.0
  views_by (Err TooLong) l = l.0

  only_views_by : (sessions : ℕ) (ending : Ending) → SerialLeaves sessions ending old new → OnlyViews old new
  only_views_by sessions (Ok u) l = l.1
  only_views_by sessions (Err Words) l = absurd l
  only_views_by sessions (Err (Chip e)) l = hears_only old new (untouched_hears old new l)
  only_views_by sessions (Err OutOfMemory) l = hears_only old new l
  only_views_by sessions (Err Script) l = l.1
  only_views_by sessions (Err Output) l = l.1
  only_views_by sessions (Err TooLong) l = l.1

  -- contents that have a fault, but that their numbers are used up, stand for no map
  laid_image : (e : ImageFault) → fault_status e ≡ 4 → LaidCause e old → StrayCause old
  laid_image e is (inl first) = inl (λ x told m stands.
      let spent = stands_well old.places (chart_of x) m stands e (first x told) in
      omega (arith, is, ap fault_status spent))
  laid_image e is (inr met) = inr (again_is_later old met)

  -- a status of a fault of the chip is that of an image, or a count rose, or numbers are used up
  opened_image : (numbers : ℕ) (e : ImageFault) → OpenedCause numbers e old new → fault_status e ≡ 4
      → StrayCause old ⊎ AreTooMany numbers (numbers_in old.places) old
  opened_image numbers image.Geometry c is = inl (laid_image image.Geometry is c)
  opened_image numbers image.NotFormatted c is = inl (laid_image image.NotFormatted is c)
  opened_image numbers (image.Missing u) c is = inl (laid_image (image.Missing u) is c)
  opened_image numbers (image.Chip ReadFault) c is = absurd (omega (arith, is))
  opened_image numbers (image.Chip Stopped) c is = absurd (omega (arith, is))
  opened_image numbers (image.Chip (Damaged p s stored computed)) c is = inl c.1
  opened_image numbers (image.Chip (Malformed p s)) c is = inl c
  opened_image numbers (image.Chip (WornOut n)) c is = absurd (omega (arith, is))
  opened_image numbers image.Spent c is = absurd (omega (arith, is))
  opened_image numbers (image.NoSpare n) c is = inl (laid_image (image.NoSpare n) is c)
  opened_image numbers image.TooManyNumbers (inl many) is = inr many
  opened_image numbers image.TooManyNumbers (inr met) is = inl (inr (again_is_later old met))

  -- a read or a write of the chip failed
  abbrev CallFailed : Type 0
  CallFailed = Rose old.read_faults new.read_faults ⊎ Rose old.write_faults new.write_faults

  opened_chip : (numbers : ℕ) (e : ImageFault) → OpenedCause numbers e old new → fault_status e ≡ 3 → CallFailed
  opened_chip numbers image.Geometry c is = absurd (omega (arith, is))
  opened_chip numbers image.NotFormatted c is = absurd (omega (arith, is))
  opened_chip numbers (image.Missing u) c is = absurd (omega (arith, is))
  opened_chip numbers (image.Chip ReadFault) c is = inl c
  opened_chip numbers (image.Chip Stopped) c is = inr c
  opened_chip numbers (image.Chip (Damaged p s stored computed)) c is = absurd (omega (arith, is))
  opened_chip numbers (image.Chip (Malformed p s)) c is = absurd (omega (arith, is))
  opened_chip numbers (image.Chip (WornOut n)) c is = absurd (omega (arith, is))
  opened_chip numbers image.Spent c is = absurd (omega (arith, is))
  opened_chip numbers (image.NoSpare n) c is = absurd (omega (arith, is))
  opened_chip numbers image.TooManyNumbers c is = absurd (omega (arith, is))

  spent_first : UsedUpCause old → SpentCause old
  spent_first (inl first) = inl (λ x told. faults_are_caused (chart_of x) old.places image.Spent
      (first x told))
  spent_first (inr met) = inr met

  opened_spent : (numbers : ℕ) (e : ImageFault) → OpenedCause numbers e old new → fault_status e ≡ 9 → SpentCause old
  opened_spent numbers image.Geometry c is = absurd (omega (arith, is))
  opened_spent numbers image.NotFormatted c is = absurd (omega (arith, is))
  opened_spent numbers (image.Missing u) c is = absurd (omega (arith, is))
  opened_spent numbers (image.Chip ReadFault) c is = absurd (omega (arith, is))
  opened_spent numbers (image.Chip Stopped) c is = absurd (omega (arith, is))
  opened_spent numbers (image.Chip (Damaged p s stored computed)) c is = absurd (omega (arith, is))
  opened_spent numbers (image.Chip (Malformed p s)) c is = absurd (omega (arith, is))
  opened_spent numbers (image.Chip (WornOut n)) c is = absurd (omega (arith, is))
  opened_spent numbers image.Spent c is = spent_first c
  opened_spent numbers (image.NoSpare n) c is = absurd (omega (arith, is))
  opened_spent numbers image.TooManyNumbers c is = absurd (omega (arith, is))

  -- a format meets no fault of what the chip holds
  format_image : (spares : ℕ) (e : ImageFault) → FormatCause spares e old new
      → (fault_status e ≡ 4 → ¬ IsSpared old.places spares) × (fault_status e ≡ 3 → Rose old.write_faults
      new.write_faults) × (fault_status e ≢ 9)
  format_image spares image.Geometry c = (
    λ is. c,
    λ is. absurd (omega (arith, is)),
    λ is. omega
        (arith, is),
  )
  format_image spares image.NotFormatted c = absurd c
  format_image spares (image.Missing u) c = absurd c
  format_image spares (image.Chip ReadFault) c = absurd c
  format_image spares (image.Chip Stopped) c = (
    λ is. absurd (omega (arith, is)),
    λ is. c,
    λ is. omega
        (arith, is),
  )
  format_image spares (image.Chip (Damaged p s stored computed)) c = absurd c
  format_image spares (image.Chip (Malformed p s)) c = absurd c
  format_image spares (image.Chip (WornOut n)) c = (
    λ is. absurd (omega (arith, is)),
    λ is. absurd (omega (arith, is)),
    λ is. omega
        (arith, is),
  )
  format_image spares image.Spent c = absurd c
  format_image spares (image.NoSpare n) c = absurd c
  format_image spares image.TooManyNumbers c = absurd c

  -- a run over a chip that was formatted meets one only where it isn't told, or a call failed
  formatted_image : (e : ImageFault) → FormattedCause e old new → fault_status e ≡ 4
      → (¬ IsGeometry old.places) ⊎ AnewCause old
  formatted_image image.Geometry c is = c
  formatted_image image.NotFormatted c is = inr c
  formatted_image (image.Missing u) c is = inr c
  formatted_image (image.Chip ReadFault) c is = absurd (omega (arith, is))
  formatted_image (image.Chip Stopped) c is = absurd (omega (arith, is))
  formatted_image (image.Chip (Damaged p s stored computed)) c is = inr c.1
  formatted_image (image.Chip (Malformed p s)) c is = inr c
  formatted_image (image.Chip (WornOut n)) c is = absurd (omega (arith, is))
  formatted_image image.Spent c is = absurd (omega (arith, is))
  formatted_image (image.NoSpare n) c is = inr c
  formatted_image image.TooManyNumbers c is = inr c

  formatted_chip : (e : ImageFault) → FormattedCause e old new → fault_status e ≡ 3
      → CallFailed
  formatted_chip image.Geometry c is = absurd (omega (arith, is))
  formatted_chip image.NotFormatted c is = absurd (omega (arith, is))
  formatted_chip (image.Missing u) c is = absurd (omega (arith, is))
  formatted_chip (image.Chip ReadFault) c is = inl c
  formatted_chip (image.Chip Stopped) c is = inr c
  formatted_chip (image.Chip (Damaged p s stored computed)) c is = absurd (omega (arith, is))
  formatted_chip (image.Chip (Malformed p s)) c is = absurd (omega (arith, is))
  formatted_chip (image.Chip (WornOut n)) c is = absurd (omega (arith, is))
  formatted_chip image.Spent c is = absurd (omega (arith, is))
  formatted_chip (image.NoSpare n) c is = absurd (omega (arith, is))
  formatted_chip image.TooManyNumbers c is = absurd (omega (arith, is))

  formatted_spent : (e : ImageFault) → FormattedCause e old new → fault_status e ≡ 9
      → AnewCause old
  formatted_spent image.Geometry c is = absurd (omega (arith, is))
  formatted_spent image.NotFormatted c is = absurd (omega (arith, is))
  formatted_spent (image.Missing u) c is = absurd (omega (arith, is))
  formatted_spent (image.Chip ReadFault) c is = absurd (omega (arith, is))
  formatted_spent (image.Chip Stopped) c is = absurd (omega (arith, is))
  formatted_spent (image.Chip (Damaged p s stored computed)) c is = absurd (omega (arith, is))
  formatted_spent (image.Chip (Malformed p s)) c is = absurd (omega (arith, is))
  formatted_spent (image.Chip (WornOut n)) c is = absurd (omega (arith, is))
  formatted_spent image.Spent c is = c
  formatted_spent (image.NoSpare n) c is = absurd (omega (arith, is))
  formatted_spent image.TooManyNumbers c is = absurd (omega (arith, is))

  -- the status of worn places
  opened_worn : (numbers : ℕ) (e : ImageFault) → OpenedCause numbers e old new → fault_status e ≡ 10
      → Rose old.worn_erases new.worn_erases × WearsOut old new
  opened_worn numbers image.Geometry c is = absurd (omega (arith, is))
  opened_worn numbers image.NotFormatted c is = absurd (omega (arith, is))
  opened_worn numbers (image.Missing u) c is = absurd (omega (arith, is))
  opened_worn numbers (image.Chip ReadFault) c is = absurd (omega (arith, is))
  opened_worn numbers (image.Chip Stopped) c is = absurd (omega (arith, is))
  opened_worn numbers (image.Chip (Damaged p s stored computed)) c is = absurd (omega (arith, is))
  opened_worn numbers (image.Chip (Malformed p s)) c is = absurd (omega (arith, is))
  opened_worn numbers (image.Chip (WornOut n)) c is = (c.rose, c.wears)
  opened_worn numbers image.Spent c is = absurd (omega (arith, is))
  opened_worn numbers (image.NoSpare n) c is = absurd (omega (arith, is))
  opened_worn numbers image.TooManyNumbers c is = absurd (omega (arith, is))

  format_worn : (spares : ℕ) (e : ImageFault) → FormatCause spares e old new → fault_status e ≡ 10
      → Rose old.worn_erases new.worn_erases × FindsWorn old new
  format_worn spares image.Geometry c is = absurd (omega (arith, is))
  format_worn spares image.NotFormatted c is = absurd c
  format_worn spares (image.Missing u) c is = absurd c
  format_worn spares (image.Chip ReadFault) c is = absurd c
  format_worn spares (image.Chip Stopped) c is = absurd (omega (arith, is))
  format_worn spares (image.Chip (Damaged p s stored computed)) c is = absurd c
  format_worn spares (image.Chip (Malformed p s)) c is = absurd c
  format_worn spares (image.Chip (WornOut n)) c is = (c.rose, c.found)
  format_worn spares image.Spent c is = absurd c
  format_worn spares (image.NoSpare n) c is = absurd c
  format_worn spares image.TooManyNumbers c is = absurd c

  formatted_worn : (e : ImageFault) → FormattedCause e old new → fault_status e ≡ 10
      → Rose old.worn_erases new.worn_erases × FindsWorn old new
  formatted_worn image.Geometry c is = absurd (omega (arith, is))
  formatted_worn image.NotFormatted c is = absurd (omega (arith, is))
  formatted_worn (image.Missing u) c is = absurd (omega (arith, is))
  formatted_worn (image.Chip ReadFault) c is = absurd (omega (arith, is))
  formatted_worn (image.Chip Stopped) c is = absurd (omega (arith, is))
  formatted_worn (image.Chip (Damaged p s stored computed)) c is = absurd (omega (arith, is))
  formatted_worn (image.Chip (Malformed p s)) c is = absurd (omega (arith, is))
  formatted_worn (image.Chip (WornOut n)) c is = (c.rose, c.found)
  formatted_worn image.Spent c is = absurd (omega (arith, is))
  formatted_worn (image.NoSpare n) c is = absurd (omega (arith, is))
  formatted_worn image.TooManyNumbers c is = absurd (omega (arith, is))

-- ---- by the words

module _ (asked : AskedFor) (old new : Told) (status : ℕ) (e : Ends asked old new status) where
  leaves_of : (request : Request) → asked ≡ Some request → EndLeaves (Some request) e.ending old new
  leaves_of request is = subst (λ (a : AskedFor). EndLeaves a e.ending old new) is e.leaves

  pub end_opened : (sessions : ℕ) → AsksOpenedBy sessions asked → AtStatus (RunsOpened sessions old new) status
  end_opened sessions (frames, numbers, closes, is) = (
    e.ending,
    e.status_is,
    opened_by old new e.ending
        (leaves_of (Run frames sessions numbers false closes) is),
  )

  pub end_refuses : (numbers : ℕ) → AsksOpenedWith numbers asked → RefusesFaults numbers old new status
  end_refuses numbers (frames, sessions, closes, is) = subst (RefusesFaults numbers old new) (sym e.status_is)
      (refuses_by old new frames sessions numbers closes e.ending
      (subst (λ (a : AskedFor). EndCause a e.ending old new) is e.cause)
      (leaves_of (Run frames sessions numbers false closes) is))

  pub end_laid : AsksOpened asked → (status ≡ 0) ⊎ (status ≡ 6) ⊎ (status ≡ 7) ⊎ (status ≡ 8)
      → IsLaidWell old × IsGeometry old.places
  end_laid (sessions, (frames, numbers, closes, is)) at = laid_by old new sessions e.ending (leaves_of (Run frames sessions numbers false closes) is)
      (rw e.status_is at at)

  pub end_read : AsksOpened asked ⊎ AsksFormatted asked → status ≡ 0 → ReadsAll old new
  end_read (inl (sessions, (frames, numbers, closes, is))) at = opened_read old new sessions e.ending (leaves_of (Run frames sessions numbers false closes) is)
      (sym e.status_is ∙ at)
  end_read (inr (sessions, (frames, numbers, closes, is))) at = formatted_read old new sessions e.ending (leaves_of (Run frames sessions numbers true closes) is)
      (sym e.status_is ∙ at)

  pub end_formatted : (sessions : ℕ) → AsksFormattedBy sessions asked → status ≡ 0 → RunsFormatted sessions old new (Ok tt)
  end_formatted sessions (frames, numbers, closes, is) at = formatted_by old new e.ending (leaves_of (Run frames sessions numbers true closes) is)
      (sym e.status_is ∙ at)

  pub end_part : (sessions : ℕ) → AsksFormattedBy sessions asked → (status ≡ 6) ⊎ (status ≡ 7) ⊎ (status ≡ 8)
      → AtStatus (RunsFormatted sessions old new) status
  end_part sessions (frames, numbers, closes, is) at = (
    e.ending,
    e.status_is,
    part_by old new e.ending
        (leaves_of (Run frames sessions numbers true closes) is) (rw e.status_is at at),
  )

  pub end_stops : (sessions : ℕ) → AsksFormattedBy sessions asked
      → (status ≡ 3) ⊎ (status ≡ 4) ⊎ (status ≡ 9) ⊎ (status ≡ 10)
      → AtStatus (UntouchedOrRuns sessions old new) status
  end_stops sessions (frames, numbers, closes, is) at = (
    e.ending,
    e.status_is,
    stops_by old new e.ending
        (leaves_of (Run frames sessions numbers true closes) is) (rw e.status_is at at),
  )

  pub end_trials : (seed count frames sessions numbers : ℕ) → asked ≡ Some (Trial seed count frames sessions numbers)
      → AtStatus (λ ending. TrialLeaves sessions seed count ending old new) status
  end_trials seed count frames sessions numbers is = (e.ending, e.status_is, leaves_of (Trial seed count frames sessions numbers) is)

  pub end_formats : (spares : ℕ) → asked ≡ Some (Format spares) → status ≡ 0
      → LaysOut spares old new true
  end_formats spares is at = formats_by old new spares e.ending (leaves_of (Format spares) is)
      (sym e.status_is ∙ at)

  pub end_checks : asked ≡ Some Check → AtStatus (λ ending. CheckLeaves ending old new) status
  end_checks is = (e.ending, e.status_is, leaves_of Check is)

  pub end_lists : asked ≡ Some Records → AtStatus (λ ending. ListLeaves ending old new) status
  end_lists is = (e.ending, e.status_is, leaves_of Records is)

  pub end_views : (sessions : ℕ) → asked ≡ Some (Serial sessions) → ViewsTold sessions old new (status == 0)
  end_views sessions is = subst (λ (n : ℕ). ViewsTold sessions old new (n == 0)) (sym e.status_is) (views_by old new
      e.ending (leaves_of (Serial sessions) is))

  pub end_only_views : (sessions : ℕ) → asked ≡ Some (Serial sessions) → OnlyViews old new
  end_only_views sessions is = only_views_by old new sessions e.ending (leaves_of (Serial sessions) is)

-- ---- by the status alone

module _ (old new : Told) where
  early_by : (asked : AskedFor) (ending : Ending) → EndCause asked ending old new
      → EndLeaves asked ending old new → status_at ending ≡ 2 → IsLeftAlone old new
  early_by None ending c l is = l
  early_by (Some request) (Ok u) c l is = absurd (omega (arith, is))
  early_by (Some request) (Err Words) c l is = absurd c
  early_by (Some request) (Err (Chip e)) c l is = absurd (omega (arith, is, chip_status e))
  early_by (Some request) (Err OutOfMemory) c l is = absurd (omega (arith, is))
  early_by (Some request) (Err Script) c l is = absurd (omega (arith, is))
  early_by (Some request) (Err Output) c l is = absurd (omega (arith, is))
  early_by (Some request) (Err TooLong) c l is = absurd (omega (arith, is))

  abbrev Wanting : AskedFor → Type 0
  Wanting asked = OnlyHears old new × (((sessions : ℕ) → asked ≢ Some (Serial sessions)) → IsLeftAlone old new)

  wanting_untouched : (asked : AskedFor) → IsLeftAlone old new → Wanting asked
  wanting_untouched asked l = (untouched_hears old new l, λ apart. l)

  wanting_by : (asked : AskedFor) (ending : Ending) → EndCause asked ending old new
      → EndLeaves asked ending old new → status_at ending ≡ 5 → Wanting asked
  wanting_by None ending c l is = wanting_untouched None l
  wanting_by (Some request) (Ok u) c l is = absurd (omega (arith, is))
  wanting_by (Some request) (Err Words) c l is = absurd c
  wanting_by (Some request) (Err (Chip e)) c l is = absurd (omega (arith, is, chip_status e))
  wanting_by (Some (Format spares)) (Err OutOfMemory) c l is = wanting_untouched
      (Some (Format spares)) l
  wanting_by (Some (Run frames sessions numbers true closes)) (Err OutOfMemory) c l is = wanting_untouched
      (Some (Run frames sessions numbers true closes)) l
  wanting_by (Some (Run frames sessions numbers false closes)) (Err OutOfMemory) c l is = wanting_untouched
      (Some (Run frames sessions numbers false closes)) l
  wanting_by (Some (Trial seed count frames sessions numbers)) (Err OutOfMemory) c l is = wanting_untouched
      (Some (Trial seed count frames sessions numbers)) l
  wanting_by (Some (Serial sessions)) (Err OutOfMemory) c l is = (l, λ apart. absurd (apart sessions refl))
  wanting_by (Some Check) (Err OutOfMemory) c l is = wanting_untouched (Some Check) l
  wanting_by (Some Records) (Err OutOfMemory) c l is = wanting_untouched (Some Records) l
  wanting_by (Some request) (Err Script) c l is = absurd (omega (arith, is))
  wanting_by (Some request) (Err Output) c l is = absurd (omega (arith, is))
  wanting_by (Some request) (Err TooLong) c l is = absurd (omega (arith, is))

  -- another number of places was left alone, and one of which no unit was left
  abbrev IsMisfit : AskedFor → Type 0
  IsMisfit asked = (¬ IsGeometry old.places) ⊎ LacksUnits asked old

  format_other : (spares : ℕ) (e : ImageFault) → FormatCause spares e old new
      → FormatLeaves spares (Err (Chip e)) old new → fault_status e ≡ 4 → IsLeftAlone old new
  format_other spares image.Geometry c l is = l
  format_other spares image.NotFormatted c l is = absurd c
  format_other spares (image.Missing u) c l is = absurd c
  format_other spares (image.Chip ReadFault) c l is = absurd c
  format_other spares (image.Chip Stopped) c l is = absurd (omega (arith, is))
  format_other spares (image.Chip (Damaged p s stored computed)) c l is = absurd c
  format_other spares (image.Chip (Malformed p s)) c l is = absurd c
  format_other spares (image.Chip (WornOut n)) c l is = absurd (omega (arith, is))
  format_other spares image.Spent c l is = absurd c
  format_other spares (image.NoSpare n) c l is = absurd c
  format_other spares image.TooManyNumbers c l is = absurd c

  formatted_other : {sessions : ℕ} (e : ImageFault) → FormattedLeaves sessions (Err (Chip e)) old new
      → ¬ IsGeometry old.places → IsLeftAlone old new
  formatted_other e (inl other) misfit = other.2
  formatted_other e (inr ran) misfit = absurd (misfit ran.0)

  trial_other : {sessions : ℕ} (seed count : ℕ) (e : ImageFault) → TrialLeaves sessions seed count (Err (Chip e)) old new
      → ¬ IsGeometry old.places → IsLeftAlone old new
  trial_other seed count e (inl other) misfit = other.2
  trial_other seed count e (inr tried) misfit = absurd (misfit tried.0)

  -- where no format is asked for the number of places is another one
  outside : (request : Request) → ((spares : ℕ) → Some request ≡ Some (Format spares) → ⊥)
      → IsMisfit (Some request) → ¬ IsGeometry old.places
  outside request apart (inl misfit) = misfit
  outside request apart (inr (spares, is, lacks)) = absurd (apart spares is)

  chip_other : (request : Request) (e : ImageFault) → ChipCause request e old new
      → EndLeaves (Some request) (Err (Chip e)) old new → fault_status e ≡ 4
      → IsMisfit (Some request) → IsLeftAlone old new
  chip_other (Format spares) e c l is misfit = format_other spares e c l is
  chip_other (Run frames sessions numbers true closes) e c l is misfit =
      formatted_other e l (outside (Run frames sessions numbers true closes) (λ spares same. cc) misfit)
  chip_other (Run frames sessions numbers false closes) e c l is misfit =
      l.other (outside (Run frames sessions numbers false closes) (λ spares same. cc) misfit)
  chip_other (Serial sessions) e c l is misfit = l
  chip_other Check e c l is misfit = l.other (outside Check (λ spares same. cc) misfit)
  chip_other Records e c l is misfit = l.other (outside Records (λ spares same. cc) misfit)
  chip_other (Trial seed count frames sessions numbers) e c l is misfit = trial_other seed count e l
      (outside (Trial seed count frames sessions numbers) (λ spares same. cc) misfit)

  other_by : (asked : AskedFor) (ending : Ending) → EndCause asked ending old new
      → EndLeaves asked ending old new → status_at ending ≡ 4 → IsMisfit asked
      → IsLeftAlone old new
  other_by None ending c l is misfit = l
  other_by (Some request) (Ok u) c l is misfit = absurd (omega (arith, is))
  other_by (Some request) (Err Words) c l is misfit = absurd c
  other_by (Some request) (Err (Chip e)) c l is misfit = chip_other request e c l is misfit
  other_by (Some request) (Err OutOfMemory) c l is misfit = absurd (omega (arith, is))
  other_by (Some request) (Err Script) c l is misfit = absurd (omega (arith, is))
  other_by (Some request) (Err Output) c l is misfit = absurd (omega (arith, is))
  other_by (Some request) (Err TooLong) c l is misfit = absurd (omega (arith, is))

  -- words that aren't valid, and no memory for them
  none_status : (ending : Ending) → EndCause None ending old new
      → (status_at ending ≡ 2) ⊎ (status_at ending ≡ 5)
  none_status (Ok u) c = absurd c
  none_status (Err end) (inl is) = inl (ap status_of is)
  none_status (Err end) (inr is) = inr (ap status_of is)

  words_by : (asked : AskedFor) (ending : Ending) → EndCause asked ending old new
      → status_at ending ≡ 2 → asked ≡ None
  words_by None ending c is = refl
  words_by (Some request) (Ok u) c is = absurd (omega (arith, is))
  words_by (Some request) (Err Words) c is = absurd c
  words_by (Some request) (Err (Chip e)) c is = absurd (omega (arith, is, chip_status e))
  words_by (Some request) (Err OutOfMemory) c is = absurd (omega (arith, is))
  words_by (Some request) (Err Script) c is = absurd (omega (arith, is))
  words_by (Some request) (Err Output) c is = absurd (omega (arith, is))
  words_by (Some request) (Err TooLong) c is = absurd (omega (arith, is))

  -- what ends with a fault of the chip, by the request
  chip_by : (request : Request) (e : ImageFault) → ChipCause request e old new → fault_status e ≡ 3
      → CallFailed old new
  chip_by (Format spares) e c is = inr ((format_image old new spares e c).1 is)
  chip_by (Run frames sessions numbers true closes) e c is = formatted_chip old new e c is
  chip_by (Run frames sessions numbers false closes) e c is = opened_chip old new numbers e c is
  chip_by (Trial seed count frames sessions numbers) e c is = formatted_chip old new e c is
  chip_by (Serial sessions) e c is = absurd (omega (arith, is, ap fault_status c.0))
  chip_by Check e c is = inl (checked_chip old new e c is)
  chip_by Records e c is = inl (checked_chip old new e c is)

  worn_by : (request : Request) (e : ImageFault) → ChipCause request e old new → fault_status e ≡ 10
      → Rose old.worn_erases new.worn_erases × WearsAsAsked (Some request) old new
  worn_by (Format spares) e c is = format_worn old new spares e c is
  worn_by (Run frames sessions numbers true closes) e c is = formatted_worn old new e c is
  worn_by (Run frames sessions numbers false closes) e c is = opened_worn old new numbers e c is
  worn_by (Trial seed count frames sessions numbers) e c is = formatted_worn old new e c is
  worn_by (Serial sessions) e c is = absurd (omega (arith, is, ap fault_status c.0))
  worn_by Check e c is = absurd (checked_worn old new e c is)
  worn_by Records e c is = absurd (checked_worn old new e c is)

  abbrev Imaged : AskedFor → Type 0
  Imaged asked = (¬ IsGeometry old.places) ⊎ LacksUnits asked old
      ⊎ (AsksOpened asked × StrayCause old) ⊎ (AsksAnew asked × AnewCause old)
      ⊎ LacksRoom asked old ⊎ (AsksToLook asked × IsStray old)

  image_by : (request : Request) (e : ImageFault) → ChipCause request e old new → fault_status e ≡ 4
      → Imaged (Some request)
  image_by (Format spares) e c is =
      inr (inl (spares, refl, (format_image old new spares e c).0 is))
  image_by (Run frames sessions numbers true closes) e c is = elim (formatted_image old new e c is) [
    | inl other ↦ inl other
    | inr anew ↦ inr (inr (inr (inl (inl (sessions, (frames, numbers, closes, refl)), anew))))
  ]
  image_by (Trial seed count frames sessions numbers) e c is = elim (formatted_image old new e c is) [
    | inl other ↦ inl other
    | inr anew ↦ inr (inr (inr (inl (inr (seed, count, frames, sessions, numbers, refl), anew))))
  ]
  image_by (Run frames sessions numbers false closes) e c is = elim (opened_image old new numbers e c is) [
    | inl stray ↦ inr (inr (inl ((sessions, (frames, numbers, closes, refl)), stray)))
    | inr many ↦ inr (inr (inr (inr (inl (numbers, (frames, sessions, closes, refl), many)))))
  ]
  image_by (Serial sessions) e c is = inl c.1
  image_by Check e c is = inr (inr (inr (inr (inr (inl refl, checked_stray old new e c is)))))
  image_by Records e c is = inr (inr (inr (inr (inr (inr refl, checked_stray old new e c is)))))

  abbrev Spends : AskedFor → Type 0
  Spends asked = (AsksOpened asked × SpentCause old) ⊎ (AsksAnew asked × AnewCause old)

  spent_by : (request : Request) (e : ImageFault) → ChipCause request e old new → fault_status e ≡ 9
      → Spends (Some request)
  spent_by (Format spares) e c is = absurd ((format_image old new spares e c).2 is)
  spent_by (Run frames sessions numbers true closes) e c is = inr (inl (sessions, (frames, numbers, closes, refl)), formatted_spent old new e c is)
  spent_by (Trial seed count frames sessions numbers) e c is = inr (
    inr (seed, count, frames, sessions, numbers, refl),
    formatted_spent
        old new e c is,
  )
  spent_by (Run frames sessions numbers false closes) e c is = inl ((sessions, (frames, numbers, closes, refl)), opened_spent old new numbers e c is)
  spent_by (Serial sessions) e c is = absurd (omega (arith, is, ap fault_status c.0))
  spent_by Check e c is = absurd (checked_spent old new e c is)
  spent_by Records e c is = absurd (checked_spent old new e c is)

  -- a status of a fault of the chip comes with one
  fault_by : (n : ℕ) → n ≢ 0 → n ≢ 2 → n ≢ 5 → n ≢ 6 → n ≢ 7 → n ≢ 8
      → (asked : AskedFor) (ending : Ending) → EndCause asked ending old new → status_at ending ≡ n
      → (request : Request) × (e : ImageFault) × (asked ≡ Some request) × (fault_status e ≡ n) ×
      ChipCause request e old new
  fault_by n a b d f g h None ending c is = absurd (omega (arith, none_status ending c, is, b, d))
  fault_by n a b d f g h (Some request) (Ok u) c is = absurd (omega (arith, is, a))
  fault_by n a b d f g h (Some request) (Err Words) c is = absurd c
  fault_by n a b d f g h (Some request) (Err (Chip e)) c is = (request, e, refl, is, c)
  fault_by n a b d f g h (Some request) (Err OutOfMemory) c is = absurd (omega (arith, is, d))
  fault_by n a b d f g h (Some request) (Err Script) c is = absurd (omega (arith, is, f))
  fault_by n a b d f g h (Some request) (Err Output) c is = absurd (omega (arith, is, g))
  fault_by n a b d f g h (Some request) (Err TooLong) c is = absurd (omega (arith, is, h))

  script_by : (asked : AskedFor) (ending : Ending) → EndCause asked ending old new
      → status_at ending ≡ 6 → Rose old.beside.script_faults new.beside.script_faults
  script_by None ending c is = absurd (omega (arith, none_status ending c, is))
  script_by (Some request) (Ok u) c is = absurd (omega (arith, is))
  script_by (Some request) (Err Words) c is = absurd c
  script_by (Some request) (Err (Chip e)) c is = absurd (omega (arith, is, chip_status e))
  script_by (Some request) (Err OutOfMemory) c is = absurd (omega (arith, is))
  script_by (Some (Format spares)) (Err Script) c is = absurd c
  script_by (Some (Run frames sessions numbers formats closes)) (Err Script) c is = c
  script_by (Some (Serial sessions)) (Err Script) c is = c
  script_by (Some Check) (Err Script) c is = absurd c
  script_by (Some Records) (Err Script) c is = absurd c
  script_by (Some (Trial seed count frames sessions numbers)) (Err Script) c is = absurd c
  script_by (Some request) (Err Output) c is = absurd (omega (arith, is))
  script_by (Some request) (Err TooLong) c is = absurd (omega (arith, is))

  output_by : (asked : AskedFor) (ending : Ending) → EndCause asked ending old new
      → status_at ending ≡ 7 → Rose old.beside.say_faults new.beside.say_faults
  output_by None ending c is = absurd (omega (arith, none_status ending c, is))
  output_by (Some request) (Ok u) c is = absurd (omega (arith, is))
  output_by (Some request) (Err Words) c is = absurd c
  output_by (Some request) (Err (Chip e)) c is = absurd (omega (arith, is, chip_status e))
  output_by (Some request) (Err OutOfMemory) c is = absurd (omega (arith, is))
  output_by (Some request) (Err Script) c is = absurd (omega (arith, is))
  output_by (Some request) (Err Output) c is = c
  output_by (Some request) (Err TooLong) c is = absurd (omega (arith, is))

  long_by : (asked : AskedFor) (ending : Ending) → EndCause asked ending old new
      → status_at ending ≡ 8 → IsTooLong old new
  long_by None ending c is = absurd (omega (arith, none_status ending c, is))
  long_by (Some request) (Ok u) c is = absurd (omega (arith, is))
  long_by (Some request) (Err Words) c is = absurd c
  long_by (Some request) (Err (Chip e)) c is = absurd (omega (arith, is, chip_status e))
  long_by (Some request) (Err OutOfMemory) c is = absurd (omega (arith, is))
  long_by (Some request) (Err Script) c is = absurd (omega (arith, is))
  long_by (Some request) (Err Output) c is = absurd (omega (arith, is))
  long_by (Some (Format spares)) (Err TooLong) c is = absurd c
  long_by (Some (Run frames sessions numbers formats closes)) (Err TooLong) c is = c
  long_by (Some (Serial sessions)) (Err TooLong) c is = c
  long_by (Some Check) (Err TooLong) c is = absurd c
  long_by (Some Records) (Err TooLong) c is = absurd c
  long_by (Some (Trial seed count frames sessions numbers)) (Err TooLong) c is = absurd c

-- ---- as it was asked

module _ (asked : AskedFor) (old new : Told) (status : ℕ) (e : Ends asked old new status) where
  pub end_early : status ≡ 2 → IsLeftAlone old new
  end_early at = early_by old new asked e.ending e.cause e.leaves (sym e.status_is ∙ at)

  pub end_wanting : status ≡ 5 → OnlyHears old new × (((sessions : ℕ) → asked ≢ Some (Serial sessions)) → IsLeftAlone old new)
  end_wanting at = wanting_by old new asked e.ending e.cause e.leaves (sym e.status_is ∙ at)

  pub end_other : status ≡ 4 → (¬ IsGeometry old.places) ⊎ LacksUnits asked old
      → IsLeftAlone old new
  end_other at = other_by old new asked e.ending e.cause e.leaves (sym e.status_is ∙ at)

  pub end_words : status ≡ 2 → asked ≡ None
  end_words at = words_by old new asked e.ending e.cause (sym e.status_is ∙ at)

  pub end_chip : status ≡ 3 → CallFailed old new
  end_chip at =
      let (request, fault, is, at_3, cause) = fault_by old new 3 (omega arith) (omega arith)
      (omega arith) (omega arith) (omega arith) (omega arith) asked e.ending e.cause
      (sym e.status_is ∙ at) in
      chip_by old new request fault cause at_3

  worn_at_10 : status ≡ 10 → Rose old.worn_erases new.worn_erases × WearsAsAsked asked old new
  worn_at_10 at =
      let (request, fault, is, at_10, cause) = fault_by old new 10 (omega arith) (omega arith)
      (omega arith) (omega arith) (omega arith) (omega arith) asked e.ending e.cause
      (sym e.status_is ∙ at) in
      let (rose, wears) = worn_by old new request fault cause at_10 in
      (rose, subst (λ (a : AskedFor). WearsAsAsked a old new) (sym is) wears)

  pub end_worn : status ≡ 10 → Rose old.worn_erases new.worn_erases
  end_worn at = (worn_at_10 at).0

  pub end_worn_out : status ≡ 10 → WearsAsAsked asked old new
  end_worn_out at = (worn_at_10 at).1

  pub end_image : status ≡ 4 → Imaged old new asked
  end_image at =
      let (request, fault, is, at_4, cause) = fault_by old new 4 (omega arith) (omega arith)
      (omega arith) (omega arith) (omega arith) (omega arith) asked e.ending e.cause
      (sym e.status_is ∙ at) in
      subst (Imaged old new) (sym is) (image_by old new request fault cause at_4)

  pub end_spent : status ≡ 9 → (AsksOpened asked × SpentCause old) ⊎ (AsksAnew asked × AnewCause old)
  end_spent at =
      let (request, fault, is, at_9, cause) = fault_by old new 9 (omega arith) (omega arith)
      (omega arith) (omega arith) (omega arith) (omega arith) asked e.ending e.cause
      (sym e.status_is ∙ at) in
      subst (λ (a : AskedFor). (AsksOpened a × SpentCause old) ⊎ (AsksAnew a × AnewCause old)) (sym is) (spent_by old new request fault cause at_9)

  -- at 4 and 9 what the chip held was at fault
  unfit_at_4 : IsConsistent old → Imaged old new asked → IsGeometry old.places
      → EndsUnfit asked old
  unfit_at_4 consistent (inl other) fits = absurd (other fits)
  unfit_at_4 consistent (inr (inl lacks)) fits = inr (inr (inl lacks))
  unfit_at_4 consistent (inr (inr (inl (asks, stray)))) fits =
      inl (asks, stray_unfit old consistent stray)
  unfit_at_4 consistent (inr (inr (inr (inr (inl many))))) fits = inr (inr (inr (inl many)))
  unfit_at_4 consistent (inr (inr (inr (inr (inr stray))))) fits = inr (inr (inr (inr stray)))
  unfit_at_4 consistent (inr (inr (inr (inl (asks, anew))))) fits =
      inr (inl (asks, anew_silent old consistent anew))

  unfit_at_9 : IsConsistent old → (AsksOpened asked × SpentCause old)
      ⊎ (AsksAnew asked × AnewCause old) → EndsUnfit asked old
  unfit_at_9 consistent (inl (asks, spent)) = inl (asks, spent_unfit old consistent spent)
  unfit_at_9 consistent (inr (asks, anew)) = inr (inl (asks, anew_silent old consistent anew))

  pub end_unfit : IsConsistent old → (status ≡ 4) ⊎ (status ≡ 9) → IsGeometry old.places
      → EndsUnfit asked old
  end_unfit consistent (inl at) fits = unfit_at_4 consistent (end_image at) fits
  end_unfit consistent (inr at) fits = unfit_at_9 consistent (end_spent at)

  pub end_script : status ≡ 6 → Rose old.beside.script_faults new.beside.script_faults
  end_script at = script_by old new asked e.ending e.cause (sym e.status_is ∙ at)

  pub end_output : status ≡ 7 → Rose old.beside.say_faults new.beside.say_faults
  end_output at = output_by old new asked e.ending e.cause (sym e.status_is ∙ at)

  pub end_long : status ≡ 8 → Grew old.beside.script_bytes 4294967295 new.beside.script_bytes
  end_long at = (long_by old new asked e.ending e.cause (sym e.status_is ∙ at)).grew

  pub end_invalid : asked ≡ None → (status ≡ 2) ⊎ (status ≡ 5)
  end_invalid is = rw e.status_is (none_status old new e.ending (subst (λ (a : AskedFor). EndCause a
      e.ending old new) is e.cause))

  pub end_completes : IsConsistent old → (request : Request) → asked ≡ Some request
      → Suffices request old → IsCalm old new → EndsInTime old new
      → (status ≡ 0) ⊎ (status ≡ 5) ⊎ (status ≡ 10)
  end_completes consistent request is holds calm time = rw e.status_is (complete_by old new
      consistent calm request holds time e.ending (subst (λ (a : AskedFor). EndCause a e.ending old
      new) is e.cause))
