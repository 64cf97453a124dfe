-- A unit that is where it was, though its records weren't written out.
use Rattle.std.proofs.Common.{◌≡◌, ◌≢◌, ◌<◌, ℕ, length, Some, Result, Err, sym, ◌∙◌, subst}
use Rattle.chip_trait.specs.Story.{Contents}
use Rattle.chip_trait.specs.Told.{Told}
use Rattle.ipl_base.specs.Calls.{IsFailedCall}
use Rattle.ipl_base.specs.declared.fault.ChipFault.{ChipFault}
use Rattle.ipl_base.specs.declared.fault.ChipFault.TheVariants.{Stopped}
use Rattle.ipl_meaning.specs.Chart.{chart_of}
use Rattle.ipl_meaning.specs.Layout.{Layout}
use Rattle.ipl_meaning.specs.Mirrors.{Mirrors}
use Rattle.ipl_meaning.specs.Tables.{Tables}
use Rattle.unit_io.specs.Charts.{Charts}
use Rattle.selective_merge.proofs.FaultLemmas.{fault_stopped}
use Rattle.selective_merge.specs.Merging.{FailsAsMerge, StaysMirrored}
use Rattle.selective_merge.proofs.CompleteLemmas.{fails_complete}
use Rattle.page_frames.specs.InPlace.{IsInPlace, StaysInPlace, StaysUntouched}
use Rattle.page_frames.specs.Leaving.{FailsByUnit}

module _ (t : Tables) (u : ℕ) (after : Tables) where
  pub in_place_stopped : (e : ChipFault) → e ≡ Stopped → IsInPlace t u after e
  in_place_stopped e is = λ held. absurd (held (subst IsFailedCall (sym is) tt))

  -- no room was made
  pub unplaced_stays : (places : ℕ) (old new : Told) (e : ChipFault) → u < length t.places.current
      → (e ≢ Stopped → Charts (StaysMirrored places t after) old new) → (x : Contents)
      → old.contents ≡ Some x → (it : Layout) → Mirrors places (chart_of x) it t
      → IsInPlace t u after e
  unplaced_stays places old new e low stays x told it mirrors = λ held.
      let (y, there, still) = stays (λ is. held (subst IsFailedCall (sym is) tt)) x told in
      let unit = subst (λ (n : ℕ). u < n) mirrors.directory.units low in
      (still it mirrors).0.directory.current u unit ∙ sym (mirrors.directory.current u unit)

-- ---- why they weren't written out

-- what is wrong with the unit says also when it doesn't fail
pub fails_by_unit : (t : Tables) (u : ℕ) (after : Tables) (result : Result (Unit {0}) ChipFault)
    (old new : Told) → FailsAsMerge old.places t u result old
    → StaysInPlace old.places t u after result old → StaysUntouched t u after result old new
    → FailsByUnit t u after result old new
fails_by_unit t u after result old new fault stays untouched = record {
  fault = fault;
  complete = fails_complete old.places t u result old fault;
  stays = stays;
  untouched = untouched;
}

-- a write failed
pub stopped_fails : (t : Tables) (u : ℕ) (after : Tables) (e : ChipFault) (old new : Told) → e ≡ Stopped
    → FailsByUnit t u after (Err e) old new
stopped_fails t u after e old new is =
    fails_by_unit t u after (Err e) old new (λ x there it mirrors. fault_stopped _ e is)
    (λ x there it mirrors. in_place_stopped t u after e is)
    (λ x there it mirrors held. absurd (held (subst IsFailedCall (sym is) tt)))
