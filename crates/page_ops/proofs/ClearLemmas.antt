-- Slots of a page that are emptied, one after the other.
use Rattle.std.proofs.Common.{◌≡◌, ◌≢◌, ◌≤◌, ◌<◌, ◌+◌, ℕ, Bool, true, false, List, Option, None, refl, sym, ◌∙◌, ap, subst, inl, inr, arith}
use Rattle.std.specs.Prelude.{◌==◌, if◌then◌else◌, slice_index, slice_set}
use Rattle.std.proofs.lemmas.Bool.{cases_eq}
use Rattle.std.proofs.lemmas.List.{get_or-set_same, get_or-set_other}
use Rattle.ipl_base.specs.declared.limits.TheConstants.{VERSION}
use Rattle.ipl_format.specs.Page.{Slots, IsPage, value_in}

-- what a slot is left with
abbrev pub cleared : List ℕ → Slots → ℕ → Option (List ℕ)
cleared counts old slot = if slice_index counts slot == 0 then value_in old slot else None

-- slots below i are emptied where one is still to come, and the others are as they were
pub record AreCleared (counts : List ℕ) (i : ℕ) (old now : Slots) : Type 0 where
  pub page : IsPage VERSION now
  pub done : (slot : ℕ) → slot < i → value_in now slot ≡ cleared counts old slot
  pub ahead : (slot : ℕ) → i ≤ slot → value_in now slot ≡ value_in old slot

module _ {counts : List ℕ} {i : ℕ} {old now : Slots} (so : AreCleared counts i old now) where
  -- one slot more, whatever became of it
  one_more : {next : Slots} → IsPage VERSION next → value_in next i ≡ cleared counts old i
      → ((slot : ℕ) → slot ≢ i → value_in next slot ≡ value_in now slot)
      → AreCleared counts (i + 1) old next
  one_more {next} page here others = record {
    page = page;
    done = λ slot low. elim (cases_eq slot i) [
      | inl same ↦
          subst (λ (k : ℕ). value_in next k ≡ cleared counts old k) (sym same) here
      | inr other ↦ others slot other ∙ so.done slot (omega (arith, low, other))
    ];
    ahead = λ slot high. others slot (λ same. omega (arith, same, high))
        ∙ so.ahead slot (omega (arith, high));
  }

  -- it stays
  pub one_stays : (slice_index counts i == 0) ≡ true → AreCleared counts (i + 1) old now
  one_stays none =
      one_more so.page
      (so.ahead i (omega arith)
      ∙ sym (ap (λ (b : Bool). if b then value_in old i else None) none))
      (λ slot other. refl)

  -- it is emptied
  pub one_emptied : {next : Slots} → i < 64 → (slice_index counts i == 0) ≡ false
      → IsPage VERSION next → next ≡ slice_set now i None → AreCleared counts (i + 1) old next
  one_emptied {next} low some page is =
      one_more page
      (ap (λ (p : Slots). value_in p i) is
      ∙ get_or-set_same now i None None (omega (arith, low, so.page.slots))
      ∙ sym (ap (λ (b : Bool). if b then value_in old i else None) some))
      (λ slot other. ap (λ (p : Slots). value_in p slot) is
      ∙ get_or-set_other now i slot None None other)
