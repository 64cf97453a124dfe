-- A map that has given values on the slots of a page.
use Rattle.std.proofs.Common.{◌≡◌, ◌≢◌, ◌≤◌, ◌<◌, ◌+◌, ◌*◌, ℕ, zero, suc, List, Option, Some, None, true, false, inl, inr, refl, sym, ◌∙◌, ap, arith}
use Rattle.std.specs.Cmp.{nat_cmp_total}
use Rattle.std.specs.FinMap.{get, insert, empty, get-empty, get-insert}
use Rattle.std.specs.Ordering.{nat_cmp, eq_by_cmp}
use Rattle.std.proofs.lemmas.Bool.{cases_eq, cond-true, cond-false}
use Rattle.std.proofs.lemmas.Bool.Decides.{nat_tests}
use Rattle.ipl_model.specs.State.{Map}
use Rattle.ipl_meaning.specs.Values.{Values}
use Rattle.ipl_meaning.specs.Stands.{page_in}

-- ---- one name

same : (q k : ℕ) → q ≡ k → eq_by_cmp nat_cmp q k ≡ true
same q k is = grind (arith, nat_tests)

other : (q k : ℕ) → q ≢ k → eq_by_cmp nat_cmp q k ≡ false
other q k is = grind (arith, nat_tests)

-- the name has this value, or it is left as it was
abbrev put : Map → ℕ → Option (List ℕ) → Map
put m k None = m
put m k (Some value) = insert m k value

put_here : (m : Map) (k : ℕ) (o : Option (List ℕ)) → get m k ≡ None → get (put m k o) k ≡ o
put_here m k None none = none
put_here m k (Some value) none =
    get-insert nat_cmp_total m k value k ∙ cond-true _ (Some value) (get m k) (same k k refl)

put_other : (m : Map) (k q : ℕ) (o : Option (List ℕ)) → q ≢ k → get (put m k o) q ≡ get m q
put_other m k q None apart = refl
put_other m k q (Some value) apart =
    get-insert nat_cmp_total m k value q ∙ cond-false _ (Some value) (get m q) (other q k apart)

-- ---- the first names from one on

abbrev slots_map : ℕ → Values → ℕ → Map
slots_map from now zero = empty
slots_map from now (suc n) = put (slots_map from now n) (from + n) (now n)

none_behind : (from : ℕ) (now : Values) (n q : ℕ) → from + n ≤ q
    → get (slots_map from now n) q ≡ None
none_behind from now zero q behind = get-empty nat_cmp q
none_behind from now (suc n) q behind =
    put_other (slots_map from now n) (from + n) q (now n) (λ is. omega (arith, is, behind))
    ∙ none_behind from now n q (omega (arith, behind))

has_slot : (from : ℕ) (now : Values) (n k : ℕ) → k < n
    → get (slots_map from now n) (from + k) ≡ now k
has_slot from now zero k low = absurd (omega (arith, low))
has_slot from now (suc n) k low = elim (cases_eq k n) [
  | inl at ↦ ap (λ (i : ℕ). get (put (slots_map from now n) (from + n) (now n)) (from + i)) at
      ∙ (put_here (slots_map from now n) (from + n) (now n)
      (none_behind from now n (from + n) (omega arith)) ∙ ap now (sym at))
  | inr apart ↦
      put_other (slots_map from now n) (from + n) (from + k) (now n)
      (λ is. omega (arith, is, apart))
      ∙ has_slot from now n k (omega (arith, low, apart))
]

-- ---- a page

abbrev pub page_map : ℕ → ℕ → Values → Map
page_map u page now = slots_map (960 * u + 64 * page) now 64

pub page_has : (u page : ℕ) (now : Values) (slot : ℕ) → slot < 64
    → page_in (page_map u page now) u page slot ≡ now slot
page_has u page now slot less = has_slot (960 * u + 64 * page) now 64 slot less
