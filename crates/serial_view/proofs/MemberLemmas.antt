-- The entries of a map of open sessions, each found under its number; and the peaks that their writes leave.
use Rattle.std.proofs.Common.{◌≡◌, ◌⊎◌, inl, inr, ℕ, ◌+◌, ◌≤◌, Bool, true, false, cond, ◌&&◌, ◌||◌, List, [], ◌∷◌, Some, refl, sym, ◌∙◌, ap, subst, arith}
use Rattle.std.specs.Prelude.{T}
use Rattle.std.specs.List.{flat_map, list_any}
use Rattle.std.specs.Ordering.{nat_cmp, eq_by_cmp, is_lt}
use Rattle.std.specs.FinMap.{get, insert, entries, get-entries, entries_sorted}
use Rattle.std.specs.FinMap.Entries as es
use Rattle.std.proofs.lemmas.Bool.{cases_eq, eq-eqb}
use Rattle.std.proofs.lemmas.Bool.Decides.{nat_tests}
use Rattle.ipl_base.specs.Sizes.{size_in_page}
use Rattle.ipl_model.specs.State.{Write, Session, last_write}
use Rattle.ipl_model.specs.Peaks.{peaks_of}
use Rattle.ipl_model.proofs.RulePeakLemmas.{one_more, more_than, last_most, found_most, by_number}
use Rattle.serial_view.proofs.SessionLemmas.{Sessions, written, same_some, get_inserted, get_other}

-- ---- entries

is_so : (b : Bool) → T b → b ≡ true
is_so true p = refl
is_so false p = absurd p

both_so : (a b : Bool) → T (a && b) → (T a) × (T b)
both_so true b p = (tt, p)
both_so false b p = absurd p

below_none : (k : ℕ) (all : List (ℕ × Session)) → T (es.below_all nat_cmp k all) → (t : ℕ) (y : Session)
    → es.find nat_cmp t all ≡ Some y → eq_by_cmp nat_cmp t k ≡ false
below_none k [] below t y found = absurd (cc)
below_none k (e ∷ all) below t y found = go (λ b f. below_none k all b t y f) (cases_eq t e.0)
  where
    parts : (T (is_lt (nat_cmp k e.0))) × (T (es.below_all nat_cmp k all))
    parts = both_so _ _ below

    go : (T (es.below_all nat_cmp k all) → es.find nat_cmp t all ≡ Some y → eq_by_cmp nat_cmp t k ≡ false)
        → (t ≡ e.0) ⊎ (t ≡ e.0 → ⊥) → eq_by_cmp nat_cmp t k ≡ false
    go later (inl same) =
        let less : is_lt (nat_cmp k e.0) ≡ true = is_so _ parts.0 in
        grind (arith, nat_tests)
    go later (inr other) =
        let apart : eq_by_cmp nat_cmp t e.0 ≡ false = grind (arith, nat_tests) in
        later parts.1
        (ap (λ (b : Bool). cond b (Some e.1) (es.find nat_cmp t all)) (sym apart) ∙ found)

module _ (P : ℕ × Session → Bool) where
  none_listed : (all : List (ℕ × Session)) → T (es.is_sorted nat_cmp all)
      → ((t : ℕ) (y : Session) → es.find nat_cmp t all ≡ Some y → P (t, y) ≡ false) → list_any P all ≡ false
  none_listed [] sorted none = refl
  none_listed (e ∷ all) sorted none =
      let parts = both_so (es.below_all nat_cmp e.0 all) (es.is_sorted nat_cmp all) sorted in
      let itself : eq_by_cmp nat_cmp e.0 e.0 ≡ true = grind (arith, nat_tests) in
      let head : P (e.0, e.1) ≡ false =
      none e.0 e.1 (ap (λ (b : Bool). cond b (Some e.1) (es.find nat_cmp e.0 all)) itself) in
      let rest : list_any P all ≡ false = none_listed all parts.1 (λ t y found.
      none t y (ap (λ (b : Bool). cond b (Some e.1) (es.find nat_cmp t all)) (below_none e.0 all parts.0 t y found) ∙ found)) in
      ap (λ (b : Bool). b || list_any P all) head ∙ rest

  -- where no open session passes the test, no entry does
  pub none_passes : (f : Sessions) → ((t : ℕ) (y : Session) → get f t ≡ Some y → P (t, y) ≡ false)
      → list_any P (entries f) ≡ false
  none_passes f none = none_listed (entries f) (entries_sorted f) (λ t y found. none t y (get-entries f t ∙ found))

-- ---- the peaks that their writes leave

-- all their writes
abbrev pub all_of : Sessions → List Write
all_of f = flat_map (λ e. e.1.writes) (entries f)

-- the sessions of the one are sessions of the other
abbrev pub PartOf : Sessions → Sessions → Type 0
PartOf f g = (t : ℕ) (y : Session) → get f t ≡ Some y → get g t ≡ Some y

own_part : (f : Sessions) (t n : ℕ) (y : Session) → get f t ≡ Some y → peaks_of y.writes n ≤ peaks_of (all_of f) n
own_part f t n y found = found_most t (entries f) y n (sym (get-entries f t) ∙ found)

-- some of the sessions leave no more
pub part_less : (f g : Sessions) (n : ℕ) → PartOf f g → peaks_of (all_of f) n ≤ peaks_of (all_of g) n
part_less f g n part = by_number f n _ (λ t y found. own_part g t n y (part t y found))

-- nor does one with less in another's place
pub inserted_less : (f : Sessions) (s : ℕ) (x y : Session) (n : ℕ) → peaks_of x.writes n ≤ peaks_of y.writes n
    → peaks_of (all_of (insert f s x)) n ≤ peaks_of (all_of (insert f s y)) n
inserted_less f s x y n less = by_number (insert f s x) n _ (λ t z found. go t z found (cases_eq t s))
  where
    own : peaks_of y.writes n ≤ peaks_of (all_of (insert f s y)) n
    own = own_part (insert f s y) s n y (get_inserted f s y)

    go : (t : ℕ) (z : Session) → get (insert f s x) t ≡ Some z → (t ≡ s) ⊎ (t ≡ s → ⊥)
        → peaks_of z.writes n ≤ peaks_of (all_of (insert f s y)) n
    go t z found (inl same) =
        let is_x : x ≡ z = same_some x z (sym (ap (get (insert f s x)) same ∙ get_inserted f s x) ∙ found) in
        subst (λ (w : Session). peaks_of w.writes n ≤ peaks_of (all_of (insert f s y)) n) is_x
        (omega (arith, less, own))
    go t z found (inr other) =
        own_part (insert f s y) t n z (get_other f s t y other ∙ sym (get_other f s t x other) ∙ found)

-- a write more in a session leaves what it leaves by itself
pub with_write_less : (f : Sessions) (s : ℕ) (x : Session) (w : Write) (n : ℕ)
    → peaks_of (w ∷ all_of (insert f s x)) n ≤ peaks_of (all_of (insert f s (written x w))) n
with_write_less f s x w n =
    one_more w (all_of (insert f s x)) n _ (λ same. omega (arith, its same, own))
    (inserted_less f s x (written x w) n (more_than w x.writes n))
  where
    own : peaks_of (w ∷ x.writes) n ≤ peaks_of (all_of (insert f s (written x w))) n
    own = own_part (insert f s (written x w)) s n (written x w) (get_inserted f s (written x w))

    its : w.0 ≡ n → 1 + size_in_page w.1 ≤ peaks_of (w ∷ x.writes) n
    its same = last_most (w ∷ x.writes) n w.1
        (ap (λ (b : Bool). cond b (Some w.1) (last_write x.writes n)) (eq-eqb w.0 n same))
