-- A chip that tells its contents goes on telling them.
use Rattle.std.proofs.Common.{◌≡◌, ◌∙◌, ℕ, Some, Result, Ok, Err, sym, subst}
use Rattle.chip_trait.specs.Story.{Contents}
use Rattle.chip_trait.specs.Told.{Told}
use Rattle.ipl_base.specs.declared.fault.ChipFault.{ChipFault}
use Rattle.ipl_meaning.specs.Chart.{Chart, chart_of}
use Rattle.ipl_meaning.specs.Layout.{Layout}
use Rattle.ipl_meaning.specs.Mirrors.{Mirrors}
use Rattle.ipl_meaning.specs.Tables.{Tables}
use Rattle.selective_merge.specs.Throughout.{ChartsThroughout}
use Rattle.unit_io.specs.Charts.{Charts}
use Rattle.restart.specs.Passes.{HasRenewed, HasStopped, TellsChart, PassEnds, GoesOnTelling, RenewsTold}
use Rattle.restart.proofs.PreserveLemmas.{same_told}

-- ---- calls

-- the same contents are told
pub goes_on_same : (result : Result (Unit {0}) ChipFault) (old new : Told)
    → new.contents ≡ old.contents → GoesOnTelling result old new
goes_on_same (Ok v) old new same = λ x told. (x, same ∙ told, tt)
goes_on_same (Err e) old new same = λ soft x told. (x, same ∙ told, tt)

-- a call that says more of them
pub goes_on_from : (F : Unit {0} → Chart → Chart → Type 0) (G : Chart → Chart → Type 0)
    (result : Result (Unit {0}) ChipFault) (old new : Told)
    → ChartsThroughout F G result old new → GoesOnTelling result old new
goes_on_from F G (Ok v) old new tells = λ x told.
    let (y, there, is) = tells x told in (y, there, tt)
goes_on_from F G (Err e) old new tells = λ soft x told.
    let (y, there, is) = tells soft x told in (y, there, tt)

-- a call that was done, and then another
pub goes_on_then : (result : Result (Unit {0}) ChipFault) (old mid new : Told)
    → GoesOnTelling (Ok tt) old mid → GoesOnTelling result mid new → GoesOnTelling result old new
goes_on_then (Ok v) old mid new first next = λ x told.
    let (y, there, is) = first x told in next y there
goes_on_then (Err e) old mid new first next = λ soft x told.
    let (y, there, is) = first x told in next soft y there

-- ---- the renewal

-- what is told for each layout is told of the same chart
pub told_of_each : (Is : Layout → Chart → Type 0) (F : Layout → Chart → Chart → Type 0)
    (old new : Told) → Charts (λ c y. Unit {0}) old new
    → ((x : Contents) (it : Layout) → old.contents ≡ Some x → Is it (chart_of x)
    → TellsChart (F it (chart_of x)) new)
    → Charts (λ c y. (it : Layout) → Is it c → F it c y) old new
told_of_each Is F old new goes_on says x told =
    let (y, there, any) = goes_on x told in (
      y,
      there,
      λ it is. let (z, also, has) = says x it told is in
          subst (λ (w : Contents). F it (chart_of x) (chart_of w))
          (same_told z y (sym also ∙ there)) has,
    )

pub renews_told : (places : ℕ) (t after : Tables) (old : Told)
    (result : Result (Unit {0}) ChipFault) (new : Told) → GoesOnTelling result old new
    → ((x : Contents) (it : Layout) → old.contents ≡ Some x → Mirrors places (chart_of x) it t
    → PassEnds places (chart_of x) it t result new after
    (TellsChart (HasRenewed places (chart_of x) it t after) new))
    → RenewsTold places t after old result new
renews_told places t after old (Ok v) new goes_on ends =
    told_of_each (λ it c. Mirrors places c it t) (λ it c y. HasRenewed places c it t after y) old
    new goes_on ends
renews_told places t after old (Err e) new goes_on ends = λ soft.
    told_of_each (λ it c. Mirrors places c it t) (λ it c y. HasStopped places c it t after y) old
    new (goes_on soft) (λ x it told mirrors. ends x it told mirrors soft)
