-- A commit sector leaves the header of its place as it is.
use Rattle.std.proofs.Common.{◌≤◌, ◌==◌, ◌&&◌, ℕ, inl, inr, refl, ap, ◌∙◌, arith}
use Rattle.std.proofs.lemmas.Bool.{cases_Bool, and_parts, eqb-true}
use Rattle.chip_trait.specs.Told.{Told}
use Rattle.ipl_format.specs.Sector.{Sector}
use Rattle.ipl_meaning.specs.Chart.{Chart, chart_of}
use Rattle.unit_io.specs.Charts.{Charts, Gains}
use Rattle.txn_status.specs.Adding.{KeepsFirstAt}

first_stays : (p s : ℕ) (sector : Sector) (c y : Chart) → 1 ≤ s → Gains p s sector c y
    → KeepsFirstAt p c y
first_stays p s sector c y behind gains = elim (cases_Bool ((p == p) && (s == 0))) [
  | inl at ↦ let none = eqb-true s 0 (and_parts _ _ at).1 in absurd (omega (arith, none, behind))
  | inr apart ↦ ap (λ (k : Chart). k p 0) gains ∙ rw apart refl
]

pub firsts_stay : (p s : ℕ) (sector : Sector) (old new : Told) → 1 ≤ s
    → Charts (Gains p s sector) old new → Charts (KeepsFirstAt p) old new
firsts_stay p s sector old new behind gains x told =
    let (y, there, gained) = gains x told in
    (y, there, first_stays p s sector (chart_of x) (chart_of y) behind gained)
