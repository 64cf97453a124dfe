-- How many names that sessions wrote pass a test, and what a change of one slot does to that.
use Rattle.std.proofs.Common.{◌≡◌, ◌≢◌, ◌⊎◌, inl, inr, ℕ, suc, ◌+◌, ◌<◌, ◌≤◌, ◌==◌, Bool, true, false, not, ◌&&◌, ◌||◌, cond, List, [], ◌∷◌, ◌++◌, map, reverse, length, set, get_or, Option, Some, None, refl, sym, ◌∙◌, ap, arith, get_or-set_other}
use Rattle.std.specs.Prelude.{find}
use Rattle.std.specs.List.{flat_map, count_by, sum_by}
use Rattle.std.specs.Option.{option_map, option_map_or}
use Rattle.std.proofs.lemmas.Bool.{cases_eq, cases_lt}
use Rattle.std.proofs.lemmas.Bool.Decides.{nat_tests}
use Rattle.std.proofs.lemmas.List.{map-append, length-reverse, get_or_past}
use Rattle.std.proofs.lemmas.List.Sums.{sum_by-set, sum_by-append, get_or-le-sum_by}
use Rattle.ipl_model.specs.State as rules
use Rattle.record_locks.specs.Held.{Held, SessionSlots, held_at, written_of, is_among}
use Rattle.ipl_model.specs.Slots.{open_from}
use Rattle.record_locks.specs.Standing.{state_of, slot_of, session_of, write_of}
use Rattle.record_locks.specs.Locks.{AreSoundSlots, OneWriter, total, written_in}
use Rattle.record_locks.proofs.NameLemmas.{count_of_reversed, written_once, counted_once, not_counted, among_reversed}
use Rattle.ipl_model.proofs.RuleSlotLemmas.{entries-opened}
use Rattle.record_locks.proofs.StandingLemmas.{writes_at}

pub total_set : (p : ℕ → Bool) (slots : SessionSlots) (s : ℕ) (o : Option Held) → s < length slots → total p (set slots s o) + written_in p (get_or slots s None) ≡ total p slots + written_in p o
total_set p slots s o within = sum_by-set (written_in p) slots s o None within

-- ---- a name more

pub one_more : (p : ℕ → Bool) (names : List ℕ) (n : ℕ) → count_by p (names ++ n ∷ []) ≡ count_by p names + cond (p n) 1 0
one_more p names n =
    let one : sum_by (λ y. cond (p y) 1 0) (n ∷ []) ≡ cond (p n) 1 0 = omega arith in
    sum_by-append (λ y. cond (p y) 1 0) names (n ∷ []) ∙ omega (arith, one)

-- ---- all names that are written

pub total_cons : (p : ℕ → Bool) (o : Option Held) (slots : SessionSlots) → total p (o ∷ slots) ≡ written_in p o + total p slots
total_cons p o slots =
    let one : sum_by (written_in p) (o ∷ []) ≡ written_in p o = omega arith in
    sum_by-append (written_in p) (o ∷ []) slots ∙ omega (arith, one)

all_names : SessionSlots → List ℕ
all_names [] = []
all_names (o ∷ slots) = reverse (option_map_or (λ h. h.written) o []) ++ all_names slots

writes_all : (i : ℕ) (slots : SessionSlots) → flat_map (λ e. e.1.writes) (open_from i (map slot_of slots)) ≡ map write_of (all_names slots)
unfolding all_names
writes_all i [] = refl
writes_all i (None ∷ slots) = writes_all (suc i) slots
writes_all i (Some h ∷ slots) =
    ap (λ (ws : List rules.Write). map write_of (reverse h.written) ++ ws) (writes_all (suc i) slots) ∙ sym (map-append write_of (reverse h.written) (all_names slots))

count_all : (p : ℕ → Bool) (slots : SessionSlots) → count_by p (all_names slots) ≡ total p slots
unfolding all_names
count_all p [] = refl
count_all p (o ∷ slots) =
    let names = option_map_or (λ h. h.written) o [] in
    sum_by-append (λ y. cond (p y) 1 0) (reverse names) (all_names slots) ∙ (λ i. count_of_reversed p names i + count_all p slots i)
    ∙ sym (total_cons p o slots)

-- no session wrote more names that pass than all together
pub part_of_total : (p : ℕ → Bool) (slots : SessionSlots) (s : ℕ) → written_in p (held_at slots s) ≤ total p slots
part_of_total p slots s = elim (cases_lt s (length slots)) [
  | inl within ↦ get_or-le-sum_by (written_in p) slots s None within
  | inr past ↦
      let none : written_in p (held_at slots s) ≡ 0 = ap (written_in p) (get_or_past slots s None past) in
      omega (arith, none)
]

-- how many names a session wrote
pub names_counted : (slots : SessionSlots) (s : ℕ) → AreSoundSlots slots → length (rules.written_names (rules.writes_of (state_of slots) s)) ≡ length (written_of slots s)
names_counted slots s sound =
    ap (λ (ws : List rules.Write). length (rules.written_names ws)) (writes_at slots s)
    ∙ ap length (written_once (reverse (written_of slots s)) once)
    ∙ length-reverse (written_of slots s)
  where
    once : (n : ℕ) → count_by (λ k. k == n) (reverse (written_of slots s)) ≤ 1
    once n = omega (arith, count_of_reversed (λ k. k == n) (written_of slots s), part_of_total (λ k. k == n) slots s, sound.once n)

-- ---- a name that nobody wrote

-- a test that fails, and a search that goes on
goes_on : {X : Type 0} (b : Bool) (x : X) (rest : Option X) → cond b (Some x) rest ≡ None → (b ≡ false) × (rest ≡ None)
goes_on true x rest is = absurd (cc is)
goes_on false x rest is = (refl, is)

either : (a b : Bool) → (a || b) ≡ false → a ≡ false
either true b is = is
either false b is = refl

others_clear : (s n i : ℕ) (slots : SessionSlots) → find (λ e. not (e.0 == s) && (rules.has_written e.1 n || rules.has_shared e.1 n)) (open_from i (map slot_of slots)) ≡ None
    → ((j : ℕ) → i + j ≡ s → is_among n (written_of slots j) ≡ false) → total (λ k. k == n) slots ≡ 0
others_clear s n i [] none own = refl
others_clear s n i (None ∷ slots) none own =
    let rest = others_clear s n (suc i) slots none (λ j is. own (suc j) (omega arith)) in
    omega (arith, total_cons (λ k. k == n) None slots, rest)
others_clear s n i (Some h ∷ slots) none own =
    let parts = goes_on (not (i == s) && (rules.has_written (session_of h) n || rules.has_shared (session_of h) n)) (i, session_of h) _ none in
    let rest = others_clear s n (suc i) slots parts.1 (λ j is. own (suc j) (omega arith)) in
    let here : count_by (λ k. k == n) h.written ≡ 0 = not_counted h.written n (unwritten (cases_eq i s) parts.0) in
    omega (arith, total_cons (λ k. k == n) (Some h) slots, rest, here)
  where
    unwritten : (i ≡ s) ⊎ (i ≢ s) → (not (i == s) && (rules.has_written (session_of h) n || rules.has_shared (session_of h) n)) ≡ false → is_among n h.written ≡ false
    unwritten (inl same) fails = own 0 (omega (arith, same))
    unwritten (inr other) fails =
        let no : (i == s) ≡ false = grind (arith, nat_tests) in
        let tests = ap (λ (b : Bool). not b && (rules.has_written (session_of h) n || rules.has_shared (session_of h) n)) no in
        sym (among_reversed h.written n) ∙ either (rules.has_written (session_of h) n) (rules.has_shared (session_of h) n) (sym tests ∙ fails)

pub nobody_wrote : (slots : SessionSlots) (s n : ℕ) → rules.holder_for_write (state_of slots) s n ≡ None → is_among n (written_of slots s) ≡ false → total (λ k. k == n) slots ≡ 0
unfolding state_of
nobody_wrote slots s n none new =
    others_clear s n 0 slots
    (not_found (find (λ e. not (e.0 == s) && (rules.has_written e.1 n || rules.has_shared e.1 n)) (open_from 0 (map slot_of slots)))
    (ap (λ (es : List (ℕ × rules.Session)). option_map (λ e. e.0) (find (λ e. not (e.0 == s) && (rules.has_written e.1 n || rules.has_shared e.1 n)) es)) (sym (entries-opened (map slot_of slots))) ∙ none))
    (λ j is. let here : j ≡ s = omega (arith, is) in ap (λ (k : ℕ). is_among n (written_of slots k)) here ∙ new)
  where
    not_found : (o : Option (ℕ × rules.Session)) → option_map (λ e. e.0) o ≡ None → o ≡ None
    not_found None is = refl
    not_found (Some e) is = absurd (cc is)

-- ---- what callers may know

pub one_writer : (slots : SessionSlots) → AreSoundSlots slots → OneWriter slots
one_writer slots sound s t n by_s by_t = by_order (cases_eq s t)
  where
    counted_s : 1 ≤ written_in (λ k. k == n) (held_at slots s)
    counted_s = counted_once (written_of slots s) n by_s

    counted_t : 1 ≤ written_in (λ k. k == n) (held_at slots t)
    counted_t = counted_once (written_of slots t) n by_t

    -- two sessions would count twice
    by_order : (s ≡ t) ⊎ (s ≢ t) → s ≡ t
    by_order (inl same) = same
    by_order (inr other) = elim (cases_lt s (length slots)) [
      | inl within ↦
          let kept : get_or (set slots s None) t None ≡ held_at slots t = get_or-set_other slots s t None None (λ e. other (sym e)) in
          absurd (omega (arith, total_set (λ k. k == n) slots s None within, part_of_total (λ k. k == n) (set slots s None) t, ap (written_in (λ k. k == n)) kept, counted_s, counted_t, sound.once n))
      | inr past ↦
          let none : written_in (λ k. k == n) (held_at slots s) ≡ 0 = ap (written_in (λ k. k == n)) (get_or_past slots s None past) in
          absurd (omega (arith, none, counted_s))
    ]
