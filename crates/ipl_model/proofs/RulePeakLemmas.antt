-- The peaks that open sessions' writes leave, before and after operations.
use Rattle.std.proofs.Common.{◌≡◌, inl, inr, ℕ, ◌+◌, ◌<◌, ◌≤◌, ◌==◌, Bool, true, false, cond, List, [], ◌∷◌, ◌++◌, Option, Some, None, ◌&&◌, T, refl, sym, ◌∙◌, ap, subst, arith}
use Rattle.std.specs.Cmp.{nat_cmp_total}
use Rattle.std.specs.FinMap.{FinMap, get, insert, remove, empty, entries, get-entries, get-remove, get-empty, entries_sorted, entries-insert}
use Rattle.std.specs.FinMap.Entries as es
use Rattle.std.specs.List.{flat_map}
use Rattle.std.specs.Option.{option_map_or}
use Rattle.std.specs.Ordering.{nat_cmp, eq_by_cmp, is_lt}
use Rattle.std.proofs.Common.{Ordering, Less, Equal, Greater}
use Rattle.std.proofs.Math.Nat.{le-max_left, le-max_right, max-le}
use Rattle.std.proofs.lemmas.Bool.{cases_Bool}
use Rattle.std.proofs.lemmas.Bool.Decides.{nat_tests}
use Rattle.ipl_base.specs.Sizes.{size_in_page}
use Rattle.ipl_model.specs.State.{Write, Session, State, last_write, writes_of, pending_writes}
use Rattle.ipl_model.specs.Operations.{after_share, after_write, after_restart}
use Rattle.ipl_model.specs.Refusals.{is_new_share}
use Rattle.ipl_model.specs.Peaks.{peaks_of}

pub le_trans : {a b c : ℕ} → a ≤ b → b ≤ c → a ≤ c
le_trans ab bc = omega (arith, ab, bc)

-- ---- the greatest of lists of writes

pub one_more : (w : Write) (older : List Write) (n k : ℕ) → (w.0 ≡ n → 1 + size_in_page w.1 ≤ k) → peaks_of older n ≤ k → peaks_of (w ∷ older) n ≤ k
one_more w older n k here rest = elim (cases_Bool (w.0 == n)) [
  | inl same ↦ rw same (max-le (here (named w.0 n same)) rest)
  | inr other ↦ rw other rest
]
  where
    named : (a b : ℕ) → (a == b) ≡ true → a ≡ b
    named a b is = grind (arith, nat_tests)

pub more_than : (w : Write) (older : List Write) (n : ℕ) → peaks_of older n ≤ peaks_of (w ∷ older) n
more_than w older n = elim (cases_Bool (w.0 == n)) [
  | inl same ↦ rw same (le-max_right _ _)
  | inr other ↦ rw other (omega arith)
]

pub joined_most : (xs ys : List Write) (n k : ℕ) → peaks_of xs n ≤ k → peaks_of ys n ≤ k → peaks_of (xs ++ ys) n ≤ k
joined_most [] ys n k left right = right
joined_most (w ∷ xs) ys n k left right =
    let rest = joined_most xs ys n k (omega (arith, left, more_than w xs n)) right in
    one_more w (xs ++ ys) n k (λ same. omega (arith, left, first w xs n same)) rest
  where
    first : (w : Write) (xs : List Write) (n : ℕ) → w.0 ≡ n → 1 + size_in_page w.1 ≤ peaks_of (w ∷ xs) n
    first w xs n same = let is : (w.0 == n) ≡ true = grind (arith, nat_tests, same) in rw is (le-max_left _ _)

left_part : (xs ys : List Write) (n : ℕ) → peaks_of xs n ≤ peaks_of (xs ++ ys) n
left_part [] ys n = omega arith
left_part (w ∷ xs) ys n =
    let rest = left_part xs ys n in
    elim (cases_Bool (w.0 == n)) [
      | inl same ↦ rw same (max-le (le-max_left _ _) (omega (arith, rest, le-max_right (1 + size_in_page w.1) (peaks_of (xs ++ ys) n))))
      | inr other ↦ rw other rest
    ]

right_part : (xs ys : List Write) (n : ℕ) → peaks_of ys n ≤ peaks_of (xs ++ ys) n
right_part [] ys n = omega arith
right_part (w ∷ xs) ys n = let rest = right_part xs ys n in omega (arith, rest, more_than w (xs ++ ys) n)

pub last_most : (ws : List Write) (n : ℕ) (change : Option (List ℕ)) → last_write ws n ≡ Some change → 1 + size_in_page change ≤ peaks_of ws n
last_most [] n change is = absurd (cc is)
last_most (w ∷ older) n change is = elim (cases_Bool (w.0 == n)) [
  | inl same ↦
      let here : Some w.1 ≡ Some change = rw same at is in
      let size : size_in_page w.1 ≡ size_in_page change = ap (λ (o : Option (Option (List ℕ))). option_map_or size_in_page o 0) here in
      rw same (omega (arith, size, le-max_left (1 + size_in_page w.1) (peaks_of older n)))
  | inr other ↦ rw other (last_most older n change (rw other at is))
]

-- ---- all sessions

abbrev written : List (ℕ × Session) → List Write
written entries = flat_map (λ e. e.1.writes) entries

put_most : (s : ℕ) (v : Session) (all : List (ℕ × Session)) (n k : ℕ) → peaks_of v.writes n ≤ k → peaks_of (written all) n ≤ k
    → peaks_of (written (es.put nat_cmp s v all)) n ≤ k
put_most s v [] n k new old = joined_most v.writes [] n k new (omega arith)
put_most s v (e ∷ all) n k new old =
    let own : peaks_of e.1.writes n ≤ k = omega (arith, old, left_part e.1.writes (written all) n) in
    let others : peaks_of (written all) n ≤ k = omega (arith, old, right_part e.1.writes (written all) n) in
    by_place (nat_cmp s e.0) own others (put_most s v all n k new others)
  where
    by_place : (o : Ordering) → peaks_of e.1.writes n ≤ k → peaks_of (written all) n ≤ k
        → peaks_of (written (es.put nat_cmp s v all)) n ≤ k
        → peaks_of (written (es.by_order o ((s, v) ∷ e ∷ all) ((e.0, v) ∷ all) (e ∷ es.put nat_cmp s v all))) n ≤ k
    by_place Less own others rest = joined_most v.writes (written (e ∷ all)) n k new old
    by_place Equal own others rest = joined_most v.writes (written all) n k new others
    by_place Greater own others rest = joined_most e.1.writes (written (es.put nat_cmp s v all)) n k own rest

pub found_most : (s : ℕ) (all : List (ℕ × Session)) (v : Session) (n : ℕ) → es.find nat_cmp s all ≡ Some v → peaks_of v.writes n ≤ peaks_of (written all) n
found_most s [] v n is = absurd (cc is)
found_most s (e ∷ all) v n is = elim (cases_Bool (eq_by_cmp nat_cmp s e.0)) [
  | inl here ↦
      let same : Some e.1 ≡ Some v = rw here at is in
      let writes : e.1.writes ≡ v.writes = ap (λ (o : Option Session). option_map_or (λ session. session.writes) o []) same in
      subst (λ (ws : List Write). peaks_of ws n ≤ peaks_of (written (e ∷ all)) n) writes (left_part e.1.writes (written all) n)
  | inr later ↦
      let rest = found_most s all v n (rw later at is) in
      omega (arith, rest, right_part e.1.writes (written all) n)
]

-- a session put in the place of another
pub inserted_most : (state : State) (s : ℕ) (v : Session) (n k : ℕ) → peaks_of v.writes n ≤ k → peaks_of (pending_writes state) n ≤ k
    → peaks_of (written (entries (insert state.sessions s v))) n ≤ k
inserted_most state s v n k new old =
    subst (λ (all : List (ℕ × Session)). peaks_of (written all) n ≤ k) (sym (entries-insert nat_cmp_total state.sessions s v))
    (put_most s v (entries state.sessions) n k new old)

both_parts : (a b : Bool) → T (a && b) → T a × T b
both_parts true b h = (tt, h)
both_parts false b h = absurd h

as_true : (b : Bool) → T b → b ≡ true
as_true true h = refl
as_true false h = absurd h

rises : (x y : ℕ) → is_lt (nat_cmp x y) ≡ true → x < y
rises x y is = grind (arith, nat_tests)

ties : (x : ℕ) → eq_by_cmp nat_cmp x x ≡ true
ties x = grind (arith, nat_tests)

tied : (q x : ℕ) → eq_by_cmp nat_cmp q x ≡ true → q ≡ x
tied q x is = grind (arith, nat_tests)

apart : (q x : ℕ) → q < x → eq_by_cmp nat_cmp q x ≡ false
apart q x low = grind (arith, nat_tests)

not_below : (x q : ℕ) (all : List (ℕ × Session)) → T (es.below_all nat_cmp x all) → q ≤ x → es.find nat_cmp q all ≡ None
not_below x q [] below low = refl
not_below x q (e ∷ all) below low =
    let parts = both_parts _ _ below in
    let above : x < e.0 = rises x e.0 (as_true _ parts.0) in
    let rest = not_below x q all parts.1 low in
    let other : eq_by_cmp nat_cmp q e.0 ≡ false = apart q e.0 (omega (arith, low, above)) in
    rw other rest

-- each session is found under its number
each_found : (all : List (ℕ × Session)) (n k : ℕ) → T (es.is_sorted nat_cmp all) → ((q : ℕ) (v : Session) → es.find nat_cmp q all ≡ Some v → peaks_of v.writes n ≤ k) → peaks_of (written all) n ≤ k
each_found [] n k sorted each = omega arith
each_found (e ∷ all) n k sorted each =
    let parts = both_parts _ _ sorted in
    let own : peaks_of e.1.writes n ≤ k = each e.0 e.1 (rw (ties e.0) refl) in
    let rest = each_found all n k parts.1 (λ q v is. each q v (later parts.0 q v is)) in
    joined_most e.1.writes (written all) n k own rest
  where
    later : T (es.below_all nat_cmp e.0 all) → (q : ℕ) (v : Session) → es.find nat_cmp q all ≡ Some v → es.find nat_cmp q (e ∷ all) ≡ Some v
    later below q v is = elim (cases_Bool (eq_by_cmp nat_cmp q e.0)) [
      | inl here ↦ absurd (let none = not_below e.0 q all below (omega (arith, tied q e.0 here)) in let clash = sym none ∙ is in cc clash)
      | inr other ↦ rw other is
    ]

pub by_number : (sessions : FinMap nat_cmp Session) (n k : ℕ) → ((q : ℕ) (v : Session) → get sessions q ≡ Some v → peaks_of v.writes n ≤ k) → peaks_of (written (entries sessions)) n ≤ k
by_number sessions n k each = each_found (entries sessions) n k (entries_sorted sessions) (λ q v is. each q v (get-entries sessions q ∙ is))

pub removed_most : (sessions : FinMap nat_cmp Session) (s n : ℕ) → peaks_of (written (entries (remove sessions s))) n ≤ peaks_of (written (entries sessions)) n
removed_most sessions s n = by_number (remove sessions s) n _ (λ q v is. by_key q v (sym (get-remove nat_cmp_total sessions s q) ∙ is))
  where
    by_key : (q : ℕ) (v : Session) → cond (eq_by_cmp nat_cmp q s) None (get sessions q) ≡ Some v → peaks_of v.writes n ≤ peaks_of (written (entries sessions)) n
    by_key q v is = elim (cases_Bool (eq_by_cmp nat_cmp q s)) [
      | inl gone ↦ absurd (let clash = rw gone at is in cc clash)
      | inr there ↦ found_most q (entries sessions) v n (sym (get-entries sessions q) ∙ rw there at is)
    ]

pub own_most : (state : State) (s n : ℕ) → peaks_of (writes_of state s) n ≤ peaks_of (pending_writes state) n
own_most state s n = by_session (get state.sessions s) refl
  where
    by_session : (o : Option Session) → get state.sessions s ≡ o → peaks_of (option_map_or (λ session. session.writes) o []) n ≤ peaks_of (pending_writes state) n
    by_session None is = omega arith
    by_session (Some v) is = found_most s (entries state.sessions) v n (sym (get-entries state.sessions s) ∙ is)

-- ---- operations

-- after a write no name has more than with it
pub with_write : (state : State) (s : ℕ) (w : Write) (n : ℕ) → peaks_of (pending_writes (after_write state s w)) n ≤ peaks_of (w ∷ pending_writes state) n
with_write state s w n = by_session (get state.sessions s) refl
  where
    by_session : (o : Option Session) → get state.sessions s ≡ o
        → peaks_of (pending_writes (option_map_or (λ session. record state { sessions = insert state.sessions s (record session { writes = w ∷ session.writes }) }) o state)) n
        ≤ peaks_of (w ∷ pending_writes state) n
    by_session None is = more_than w (pending_writes state) n
    by_session (Some v) is =
        let own = found_most s (entries state.sessions) v n (sym (get-entries state.sessions s) ∙ is) in
        inserted_most state s (record v { writes = w ∷ v.writes }) n _ (pushed v own) (more_than w (pending_writes state) n)
      where
        pushed : (v : Session) → peaks_of v.writes n ≤ peaks_of (pending_writes state) n → peaks_of (w ∷ v.writes) n ≤ peaks_of (w ∷ pending_writes state) n
        pushed v own = elim (cases_Bool (w.0 == n)) [
          | inl same ↦ rw same (max-le (le-max_left _ _) (omega (arith, own, le-max_right (1 + size_in_page w.1) (peaks_of (pending_writes state) n))))
          | inr other ↦ rw other own
        ]

pub shared_less : (state : State) (s n k : ℕ) → peaks_of (pending_writes (after_share state s n)) k ≤ peaks_of (pending_writes state) k
shared_less state s n k = by_new (is_new_share state s n) _ (by_session (get state.sessions s) refl)
  where
    by_new : (b : Bool) (after : State) → peaks_of (pending_writes after) k ≤ peaks_of (pending_writes state) k → peaks_of (pending_writes (cond b after state)) k ≤ peaks_of (pending_writes state) k
    by_new true after less = less
    by_new false after less = omega arith

    by_session : (o : Option Session) → get state.sessions s ≡ o
        → peaks_of (pending_writes (option_map_or (λ session. record state { sessions = insert state.sessions s (record session { shared = n ∷ session.shared }) }) o state)) k ≤ peaks_of (pending_writes state) k
    by_session None is = omega arith
    by_session (Some v) is =
        let own = found_most s (entries state.sessions) v k (sym (get-entries state.sessions s) ∙ is) in
        inserted_most state s (record v { shared = n ∷ v.shared }) k _ own (omega arith)

pub none_left : (state : State) (k : ℕ) → peaks_of (pending_writes (after_restart state)) k ≤ peaks_of (pending_writes state) k
none_left state k = by_number empty k _ (λ q v is. absurd (let clash = sym (get-empty nat_cmp q) ∙ is in cc clash))
