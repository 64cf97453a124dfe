-- Sessions in numbered slots, and the map of those that are open.
use Rattle.std.proofs.Common.{◌≡◌, inl, inr, ℕ, zero, suc, ◌+◌, ◌<◌, ◌==◌, Bool, true, false, T, not, ◌&&◌, cond, List, [], ◌∷◌, ◌++◌, length, drop, set, get_or, Option, Some, None, refl, sym, ◌∙◌, ap, subst, arith, get_or-set_other, get_or-set_same}
use Rattle.std.specs.Prelude.{find}
use Rattle.std.specs.Cmp.{nat_cmp_total}
use Rattle.std.specs.FinMap.{get, insert, remove, empty, entries, get-empty, get-insert, get-remove, get-from_entries, get-from_sorted, entries-from_sorted, from_sorted, same_map, nat_cmp-IsAntisymmetric}
use Rattle.std.specs.FinMap.Entries as es
use Rattle.std.specs.List.{flat_map}
use Rattle.std.specs.Option.{option_map, option_map_or}
use Rattle.std.specs.Ordering.{nat_cmp, eq_by_cmp, is_lt}
use Rattle.std.proofs.lemmas.Bool.{cases_eq}
use Rattle.std.proofs.lemmas.Bool.Decides.{nat_tests}
use Rattle.std.proofs.Math.Seq.{drop-cons}
use Rattle.ipl_model.specs.State.{Session, Write}
use Rattle.ipl_model.specs.Slots.{open_from, opened}

abbrev Slots : Type 0
Slots = List (Option Session)

-- ---- the list of open sessions

is_above : (i j : ℕ) → i < j → is_lt (nat_cmp i j) ≡ true
is_above i j lt = grind (arith, nat_tests)

below : (i j : ℕ) (slots : Slots) → i < j → es.below_all nat_cmp i (open_from j slots) ≡ true
below i j [] lt = refl
below i j (None ∷ slots) lt = below i (suc j) slots (omega arith)
below i j (Some session ∷ slots) lt = ap (λ (b : Bool). b && es.below_all nat_cmp i (open_from (suc j) slots)) (is_above i j lt) ∙ below i (suc j) slots (omega arith)

rising : (i : ℕ) (slots : Slots) → es.is_sorted nat_cmp (open_from i slots) ≡ true
rising i [] = refl
rising i (None ∷ slots) = rising (suc i) slots
rising i (Some session ∷ slots) = ap (λ (b : Bool). b && es.is_sorted nat_cmp (open_from (suc i) slots)) (below i (suc i) slots (omega arith)) ∙ rising (suc i) slots

-- the entries of the open sessions are in that order
pub entries-opened : (slots : Slots) → entries (opened slots) ≡ open_from 0 slots
entries-opened slots =
    let is_rising = subst (λ (b : Bool). T b) (sym (rising 0 slots)) tt in
    ap entries (same_map nat_cmp_total nat_cmp-IsAntisymmetric (opened slots) (from_sorted (open_from 0 slots))
    (λ q. get-from_entries nat_cmp_total (open_from 0 slots) q ∙ sym (get-from_sorted nat_cmp (open_from 0 slots) q is_rising)))
    ∙ entries-from_sorted nat_cmp (open_from 0 slots) is_rising

-- ---- a session by its number

found_below : (i j : ℕ) (slots : Slots) → i < j → es.find nat_cmp i (open_from j slots) ≡ None
found_below i j [] lt = refl
found_below i j (None ∷ slots) lt = found_below i (suc j) slots (omega arith)
found_below i j (Some session ∷ slots) lt =
    let other : eq_by_cmp nat_cmp i j ≡ false = grind (arith, nat_tests) in
    ap (λ (b : Bool). cond b (Some session) (es.find nat_cmp i (open_from (suc j) slots))) other ∙ found_below i (suc j) slots (omega arith)

found_from : (i q : ℕ) (slots : Slots) → es.find nat_cmp (i + q) (open_from i slots) ≡ get_or slots q None
found_from i q [] = refl
found_from i zero (None ∷ slots) = found_below (i + 0) (suc i) slots (omega arith)
found_from i zero (Some session ∷ slots) =
    let same : eq_by_cmp nat_cmp (i + 0) i ≡ true = grind (arith, nat_tests) in
    ap (λ (b : Bool). cond b (Some session) (es.find nat_cmp (i + 0) (open_from (suc i) slots))) same
found_from i (suc q) (None ∷ slots) =
    let next : i + suc q ≡ suc i + q = omega arith in
    ap (λ (n : ℕ). es.find nat_cmp n (open_from (suc i) slots)) next ∙ found_from (suc i) q slots
found_from i (suc q) (Some session ∷ slots) =
    let other : eq_by_cmp nat_cmp (i + suc q) i ≡ false = grind (arith, nat_tests) in
    let next : i + suc q ≡ suc i + q = omega arith in
    ap (λ (b : Bool). cond b (Some session) (es.find nat_cmp (i + suc q) (open_from (suc i) slots))) other
    ∙ ap (λ (n : ℕ). es.find nat_cmp n (open_from (suc i) slots)) next ∙ found_from (suc i) q slots

pub opened_at : (slots : Slots) (q : ℕ) → get (opened slots) q ≡ get_or slots q None
opened_at slots q =
    let whole : 0 + q ≡ q = omega arith in
    get-from_entries nat_cmp_total (open_from 0 slots) q ∙ ap (λ (n : ℕ). es.find nat_cmp n (open_from 0 slots)) (sym whole) ∙ found_from 0 q slots

-- ---- a slot that is set

pub get_or-set : {X : Type 0} (slots : List (Option X)) (s : ℕ) (o : Option X) (q : ℕ) → s < length slots → get_or (set slots s o) q None ≡ cond (eq_by_cmp nat_cmp q s) o (get_or slots q None)
get_or-set slots s o q within = elim (cases_eq q s) [
  | inl same ↦
      let yes : eq_by_cmp nat_cmp q s ≡ true = grind (arith, nat_tests) in
      ap (λ (k : ℕ). get_or (set slots s o) k None) same ∙ get_or-set_same slots s o None within ∙ sym (ap (λ (b : Bool). cond b o (get_or slots q None)) yes)
  | inr other ↦
      let no : eq_by_cmp nat_cmp q s ≡ false = grind (arith, nat_tests) in
      get_or-set_other slots s q o None other ∙ sym (ap (λ (b : Bool). cond b o (get_or slots q None)) no)
]

pub opened-set_some : (slots : Slots) (s : ℕ) (session : Session) → s < length slots → opened (set slots s (Some session)) ≡ insert (opened slots) s session
opened-set_some slots s session within = same_map nat_cmp_total nat_cmp-IsAntisymmetric _ _ (λ q.
    opened_at (set slots s (Some session)) q ∙ get_or-set slots s (Some session) q within
    ∙ sym (get-insert nat_cmp_total (opened slots) s session q ∙ ap (cond (eq_by_cmp nat_cmp q s) (Some session)) (opened_at slots q)))

pub opened-set_none : (slots : Slots) (s : ℕ) → s < length slots → opened (set slots s None) ≡ remove (opened slots) s
opened-set_none slots s within = same_map nat_cmp_total nat_cmp-IsAntisymmetric _ _ (λ q.
    opened_at (set slots s None) q ∙ get_or-set slots s None q within
    ∙ sym (get-remove nat_cmp_total (opened slots) s q ∙ ap (cond (eq_by_cmp nat_cmp q s) None) (opened_at slots q)))

-- where no slot has a session, none is open
pub opened_none : (slots : Slots) → ((q : ℕ) → get_or slots q None ≡ None) → opened slots ≡ empty
opened_none slots closed = same_map nat_cmp_total nat_cmp-IsAntisymmetric _ _ (λ q. opened_at slots q ∙ closed q ∙ sym (get-empty nat_cmp q))

-- ---- the slots from one on

from_slot : (i : ℕ) (slots : Slots) (o : Option Session) → i < length slots → get_or slots i None ≡ o → open_from i (drop i slots) ≡ open_from i (o ∷ drop (suc i) slots)
from_slot i slots o within is = ap (open_from i) (drop-cons slots i None within ∙ ap (λ (x : Option Session). x ∷ drop (suc i) slots) is)

-- the first open session but s that passes a test, from slot i on
abbrev pub first_from : ℕ → (Session → Bool) → ℕ → Slots → Option (ℕ × Session)
first_from s test i slots = find (λ e. not (e.0 == s) && test e.1) (open_from i (drop i slots))

pub first_later : (s : ℕ) (test : Session → Bool) (i : ℕ) (slots : Slots) (o : Option Session) → i < length slots → get_or slots i None ≡ o
    → (not (i == s) && option_map_or test o false) ≡ false → first_from s test i slots ≡ first_from s test (suc i) slots
first_later s test i slots None within is fails = ap (find (λ e. not (e.0 == s) && test e.1)) (from_slot i slots None within is)
first_later s test i slots (Some session) within is fails =
    ap (find (λ e. not (e.0 == s) && test e.1)) (from_slot i slots (Some session) within is)
    ∙ ap (λ (b : Bool). cond b (Some (i, session)) (first_from s test (suc i) slots)) fails

pub first_here : (s : ℕ) (test : Session → Bool) (i : ℕ) (slots : Slots) (o : Option Session) → i < length slots → get_or slots i None ≡ o
    → (not (i == s) && option_map_or test o false) ≡ true → option_map (λ e. e.0) (first_from s test i slots) ≡ Some i
first_here s test i slots None within is holds = absurd (cc (never (not (i == s)), holds))
  where
    never : (b : Bool) → (b && false) ≡ false
    never true = refl
    never false = refl
first_here s test i slots (Some session) within is holds =
    ap (λ (es : List (ℕ × Session)). option_map (λ e. e.0) (find (λ e. not (e.0 == s) && test e.1) es)) (from_slot i slots (Some session) within is)
    ∙ ap (λ (b : Bool). option_map (λ e. e.0) (cond b (Some (i, session)) (first_from s test (suc i) slots))) holds

-- ---- all writes

-- the writes of the open sessions from slot i on
abbrev pub writes_from : ℕ → Slots → List Write
writes_from i slots = flat_map (λ e. e.1.writes) (open_from i (drop i slots))

pub writes_next : (i : ℕ) (slots : Slots) (o : Option Session) → i < length slots → get_or slots i None ≡ o
    → writes_from i slots ≡ option_map_or (λ session. session.writes) o [] ++ writes_from (suc i) slots
writes_next i slots None within is = ap (flat_map (λ e. e.1.writes)) (from_slot i slots None within is)
writes_next i slots (Some session) within is = ap (flat_map (λ e. e.1.writes)) (from_slot i slots (Some session) within is)
