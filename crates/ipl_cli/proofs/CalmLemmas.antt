-- What a chip held at which a run ended with 4 or 9, and how a run ends where nothing fails.
use Rattle.std.proofs.Common.{◌≡◌, ◌⊎◌, ◌^◌, ℕ, true, false, Some, Ok, Err, inl, inr, refl, arith}
use Rattle.std.proofs.lemmas.Bool.{cases_lt}
use Rattle.chip_trait.specs.Told.{Told, IsConsistent}
use Rattle.ipl_base.specs.Places.{IsGeometry, IsSpared}
use Rattle.ipl_base.specs.declared.fault.ChipFault.TheVariants.{ReadFault, Stopped, Damaged, Malformed, WornOut}
use Rattle.ipl_base.specs.declared.fault.ImageFault.{ImageFault}
use Rattle.ipl_base.specs.declared.fault.ImageFault.TheVariants as image
use Rattle.ipl_meaning.specs.Legible.{whole}
use Rattle.ipl_meaning.specs.Chart.{chart_of}
use Rattle.ipl_meaning.specs.Faults.{greatest_found}
use Rattle.restart.specs.RenewalChains.{starts_at}
use Rattle.restart.proofs.ChainLemmas.{images_rest}
use Rattle.command_line.specs.declared.asked.Request.{Request}
use Rattle.command_line.specs.declared.asked.Request.TheVariants.{Format, Run, Serial, Check, Trial, Records}
use Rattle.command_line.specs.Ends.{fault_status}
use Rattle.command_line.specs.declared.end.End.TheVariants.{Words, Chip, OutOfMemory, Script, Output, TooLong}
use Rattle.ipl_cli.specs.Ending.{Ending, status_at}
use Rattle.ipl_cli.specs.Top.{RestsWithNumbersLeft, HasRoomFor, StrayCause, OpenedCause, FormatCause, AnewCause, FormattedCause, ChipCause, IsTooLong, EndCause, StrayCause, SpentCause, IsMetLater, IsUnfit, IsSilent, IsCalm, IsTold, Suffices, EndsInTime}
use Rattle.ipl_cli.proofs.StartLemmas.{opened_excused}
use Rattle.ipl_cli.proofs.CheckLemmas.{checked_never}
use Rattle.ipl_cli.proofs.RecordLemmas.{steady_start}

-- ---- what a chip held at which a run ended with 4 or 9

module _ (old : Told) (consistent : IsConsistent old) where
  met_unfit : IsMetLater old → IsUnfit old
  met_unfit met x told m stands = elim (cases_lt (greatest_found (chart_of x) old.places) (2 ^ 62)) [
    | inl low ↦ absurd (met.unsound (record {
      map = m;
      history = starts_at x;
      steady = steady_start x old consistent told;
      rests = images_rest old.places (whole m) x stands;
      left = low;
    }))
    | inr high ↦ high
  ]

  pub stray_unfit : StrayCause old → IsUnfit old
  stray_unfit (inl stray) = λ x told m stands. absurd (stray x told m stands)
  stray_unfit (inr met) = met_unfit met

  pub spent_unfit : SpentCause old → IsUnfit old
  spent_unfit (inl spent) = λ x told m stands. let high = spent x told in omega (arith, high)
  spent_unfit (inr met) = met_unfit met

  pub anew_silent : AnewCause old → IsSilent old
  anew_silent anew x told = anew (starts_at x) (steady_start x old consistent told)

-- ---- completeness

module _ (old new : Told) (consistent : IsConsistent old) (calm : IsCalm old new) where
  -- no other fault of the chip ends it than that too many places are worn
  format_ends : (spares : ℕ) → IsSpared old.places spares → (e : ImageFault)
      → FormatCause spares e old new → fault_status e ≡ 10
  format_ends spares fits image.Geometry c = absurd (c fits)
  format_ends spares fits image.NotFormatted c = absurd c
  format_ends spares fits (image.Missing u) c = absurd c
  format_ends spares fits (image.Chip ReadFault) c = absurd c
  format_ends spares fits (image.Chip Stopped) c = absurd (calm.writes c)
  format_ends spares fits (image.Chip (Damaged p s stored computed)) c = absurd c
  format_ends spares fits (image.Chip (Malformed p s)) c = absurd c
  format_ends spares fits (image.Chip (WornOut n)) c = refl
  format_ends spares fits image.Spent c = absurd c
  format_ends spares fits (image.NoSpare n) c = absurd c
  format_ends spares fits image.TooManyNumbers c = absurd c

  anew_never : IsTold old → ¬ AnewCause old
  anew_never told anew = anew (starts_at told.contents)
      (steady_start told.contents old consistent told.told)

  geometry_never : IsTold old → ¬ ((¬ IsGeometry old.places) ⊎ AnewCause old)
  geometry_never told (inl other) = other told.fits
  geometry_never told (inr anew) = anew_never told anew

  formatted_ends : IsTold old → (e : ImageFault) → FormattedCause e old new → fault_status e ≡ 10
  formatted_ends told image.Geometry c = absurd (geometry_never told c)
  formatted_ends told image.NotFormatted c = absurd (anew_never told c)
  formatted_ends told (image.Missing u) c = absurd (anew_never told c)
  formatted_ends told (image.Chip ReadFault) c = absurd (calm.reads c)
  formatted_ends told (image.Chip Stopped) c = absurd (calm.writes c)
  formatted_ends told (image.Chip (Damaged p s stored computed)) c = absurd (anew_never told c.1)
  formatted_ends told (image.Chip (Malformed p s)) c = absurd (anew_never told c)
  formatted_ends told (image.Chip (WornOut n)) c = refl
  formatted_ends told image.Spent c = absurd (anew_never told c)
  formatted_ends told (image.NoSpare n) c = absurd (anew_never told c)
  formatted_ends told image.TooManyNumbers c = absurd (anew_never told c)

  opened_ends : (numbers : ℕ) → RestsWithNumbersLeft old → HasRoomFor numbers old → (e : ImageFault)
      → OpenedCause numbers e old new → fault_status e ≡ 10
  opened_ends numbers sound fits e c = elim (opened_excused old sound numbers fits e new c) [
    | inl read ↦ absurd (calm.reads read)
    | inr other ↦ elim other [
      | inl written ↦ absurd (calm.writes written)
      | inr worn ↦ worn
    ]
  ]

  chip_ends : (request : Request) → Suffices request old → (e : ImageFault)
      → ChipCause request e old new → fault_status e ≡ 10
  chip_ends (Format spares) holds e c = format_ends spares holds e c
  chip_ends (Run frames sessions numbers true closes) holds e c = formatted_ends holds e c
  chip_ends (Run frames sessions numbers false closes) holds e c = opened_ends numbers holds.0 holds.1 e c
  chip_ends (Serial sessions) holds e c = absurd (c.1 holds)
  chip_ends Check holds e c = absurd (checked_never old new calm holds e c)
  chip_ends Records holds e c = absurd (checked_never old new calm holds e c)
  chip_ends (Trial seed count frames sessions numbers) holds e c = formatted_ends holds e c

  never_long : EndsInTime old new → ¬ IsTooLong old new
  never_long (inl short) long = omega (arith, short, long.grew.at_least)
  never_long (inr (source, told, short)) long = let many = long.told source told in omega
      (arith, short, many)

  pub complete_by : (request : Request) → Suffices request old → EndsInTime old new → (ending : Ending)
      → EndCause (Some request) ending old new
      → (status_at ending ≡ 0) ⊎ (status_at ending ≡ 5) ⊎ (status_at ending ≡ 10)
  complete_by request holds time (Ok u) c = inl refl
  complete_by request holds time (Err Words) c = absurd c
  complete_by request holds time (Err (Chip e)) c = inr (inr (chip_ends request holds e c))
  complete_by request holds time (Err OutOfMemory) c = inr (inl refl)
  complete_by (Format spares) holds time (Err Script) c = absurd c
  complete_by (Run frames sessions numbers formats closes) holds time (Err Script) c = absurd (calm.script c)
  complete_by (Serial sessions) holds time (Err Script) c = absurd (calm.script c)
  complete_by Check holds time (Err Script) c = absurd c
  complete_by Records holds time (Err Script) c = absurd c
  complete_by (Trial seed count frames sessions numbers) holds time (Err Script) c = absurd c
  complete_by request holds time (Err Output) c = absurd (calm.says c)
  complete_by (Format spares) holds time (Err TooLong) c = absurd c
  complete_by (Run frames sessions numbers formats closes) holds time (Err TooLong) c = absurd (never_long time c)
  complete_by (Serial sessions) holds time (Err TooLong) c = absurd (never_long time c)
  complete_by Check holds time (Err TooLong) c = absurd c
  complete_by Records holds time (Err TooLong) c = absurd c
  complete_by (Trial seed count frames sessions numbers) holds time (Err TooLong) c = absurd c
