-- Places of one kind are not of another.
use Rattle.std.proofs.Common.{◌≡◌, ◌≢◌, ℕ, ◌<◌, Some, None, inl, inr, sym, ◌∙◌, ap, arith, eqb, ◌&&◌}
use Rattle.std.proofs.lemmas.Bool.{cases_Bool, and_parts, eqb-true}
use Rattle.chip_trait.specs.Chart.{with_sector}
use Rattle.ipl_format.specs.Sector.{Sector}
use Rattle.ipl_meaning.specs.Chart.{Chart, IsOverflow}
use Rattle.ipl_meaning.specs.Layout.{Layout, Laid}

-- where nothing is put there is nothing still
pub none_still : (c : Chart) (p s : ℕ) (sector : Sector) (q t : ℕ) → c q t ≡ None → (q ≡ p → t ≢ s) → with_sector c p s sector q t ≡ None
none_still c p s sector q t none apart = elim (cases_Bool (eqb p q && eqb s t)) [
  | inl at ↦ let both = and_parts _ _ at in absurd (apart (sym (eqb-true _ _ both.0)) (sym (eqb-true _ _ both.1)))
  | inr elsewhere ↦ rw elsewhere none
]

-- where something is there is something still
pub some_still : (c : Chart) (p s : ℕ) (sector : Sector) (q t : ℕ) → c q t ≢ None → with_sector c p s sector q t ≢ None
some_still c p s sector q t some none = elim (cases_Bool (eqb p q && eqb s t)) [
  | inl at ↦ let here : Some sector ≡ None = rw at at none in cc here
  | inr elsewhere ↦ some (rw elsewhere at none)
]

module _ (places : ℕ) (c : Chart) (it : Layout) (laid : Laid places c it) where
  pub homes_apart : (u v : ℕ) → u < it.count → v < it.count → (it.units u).home ≡ (it.units v).home → u ≡ v
  homes_apart u v low less same =
      let one = (laid.each u low).chosen in
      let other = (laid.each v less).chosen in
      let both : Some (it.units u).head ≡ Some (it.units v).head = sym one.here ∙ ap (λ (p : ℕ). c p 0) same ∙ other.here in
      let head : (it.units u).head ≡ (it.units v).head = cc both in
      sym one.fits.1 ∙ ap (λ (z : Sector). z.unit) head ∙ other.fits.1

  pub home_not_over : (u : ℕ) → u < it.count → ¬ IsOverflow c (it.units u).home
  home_not_over u low over =
      let one = (laid.each u low).chosen in
      let both : Some (it.units u).head ≡ Some over.0 = sym one.here ∙ over.1 in
      let head : (it.units u).head ≡ over.0 = cc both in
      omega (arith, one.fits.0, over.2, ap (λ (z : Sector). z.kind) head)

  pub home_not_status : (u : ℕ) → u < it.count → (it.units u).home ≢ it.status
  home_not_status u low same =
      let one = (laid.each u low).chosen in
      let both : Some (it.units u).head ≡ Some it.head = sym one.here ∙ ap (λ (p : ℕ). c p 0) same ∙ laid.chosen.here in
      let head : (it.units u).head ≡ it.head = cc both in
      omega (arith, one.fits.0, laid.chosen.fits, ap (λ (z : Sector). z.kind) head)

  pub status_not_over : ¬ IsOverflow c it.status
  status_not_over over =
      let both : Some it.head ≡ Some over.0 = sym laid.chosen.here ∙ over.1 in
      let head : it.head ≡ over.0 = cc both in
      omega (arith, laid.chosen.fits, over.2, ap (λ (z : Sector). z.kind) head)
