-- Commits of several sessions, one after the other.
use Rattle.std.proofs.Common.{◌≡◌, ◌≢◌, ◌⊎◌, inl, inr, ℕ, zero, suc, ◌+◌, ◌-◌, ◌<◌, ◌≤◌, ◌==◌, Bool, true, false, cond, not, ◌||◌, List, [], ◌∷◌, Option, Some, None, refl, sym, ◌∙◌, ap, subst, arith}
use Rattle.std.specs.Prelude.{nat_le, is_some, filter, length}
use Rattle.std.specs.Cmp.{nat_cmp_total}
use Rattle.std.specs.List.{Contains, list_any, find, range_with_len}
use Rattle.std.specs.FinMap.{get, get-remove}
use Rattle.std.specs.Option.{option_map_or}
use Rattle.std.specs.Ordering.{nat_cmp, eq_by_cmp}
use Rattle.std.proofs.lemmas.Bool.{cases_eq, or_parts, leb-false, lt-leb, both_ways, eq-eqb, eqb-true}
use Rattle.std.proofs.lemmas.Bool.Decides.{nat_tests}
use Rattle.ipl_model.specs.State.{Write, Session, State, Limits, is_open_session, writes_of, last_write, with_writes}
use Rattle.ipl_model.specs.Refusals.{Test, first_of, refuses_batch, is_twice, least_twice, twice}
use Rattle.ipl_base.specs.declared.fault.Refusal.TheVariants.{BadSession, NotOpen}
use Rattle.ipl_model.specs.Operations.{after_commit, after_batch}
use Rattle.ipl_model.specs.RuleLaws.{BatchesNameOnce, BatchesWrite, BatchesKeep}
use Rattle.ipl_model.proofs.SeenLemmas.{get-with_writes}

-- ---- lists

pub first_in : (s : ℕ) (ss : List ℕ) → Contains (s ∷ ss) s
first_in s ss = (zero, omega arith, refl)

pub later_in : (s : ℕ) (ss : List ℕ) (t : ℕ) → Contains ss t → Contains (s ∷ ss) t
later_in s ss t at = (suc at.0, omega (arith, at.1), at.2)

pub first_or_later : (s : ℕ) (ss : List ℕ) (t : ℕ) → Contains (s ∷ ss) t → (s ≡ t) ⊎ Contains ss t
first_or_later s ss t (zero, low, e) = inl e
first_or_later s ss t (suc k, low, e) = inr (k, omega (arith, low), e)

pub any_fails : (p : ℕ → Bool) (ss : List ℕ) (t : ℕ) → list_any p ss ≡ false → Contains ss t → p t ≡ false
any_fails p [] t e at = absurd (omega (arith, at.1))
any_fails p (s ∷ ss) t e at =
    let parts = or_parts (p s) (list_any p ss) e in
    elim (first_or_later s ss t at) [
      | inl same ↦ subst (λ (k : ℕ). p k ≡ false) same parts.0
      | inr later ↦ any_fails p ss t parts.1 later
    ]

none_found : (p : ℕ → Bool) (a n k : ℕ) → is_some (find p (range_with_len a n)) ≡ false → a ≤ k → k < a + n → p k ≡ false
none_found p a zero k e low high = absurd (omega (arith, low, high))
none_found p a (suc n) k e low high = go (p a) refl e (λ f l. none_found p (a + 1) n k f l (omega (arith, high)))
  where
    go : (b : Bool) → p a ≡ b → is_some (cond b (Some a) (find p (range_with_len (a + 1) n))) ≡ false
        → (is_some (find p (range_with_len (a + 1) n)) ≡ false → a + 1 ≤ k → p k ≡ false) → p k ≡ false
    go true is f later = absurd (cc)
    go false is f later = elim (cases_eq a k) [
      | inl same ↦ subst (λ (j : ℕ). p j ≡ false) same is
      | inr other ↦ later f (omega (arith, low, other))
    ]

-- the first that passes among the numbers from a to below n is a, or the first from a + 1 on
pub found_from : (p : ℕ → Bool) (a n : ℕ) → a < n
    → find p (range_with_len a (n - a)) ≡ cond (p a) (Some a) (find p (range_with_len (a + 1) (n - (a + 1))))
found_from p a n low =
    let more : n - a ≡ suc (n - (a + 1)) = omega arith in
    ap (λ (k : ℕ). find p (range_with_len a k)) more

-- ---- what isn't refused

head_fails : (t : Test) (tests : List Test) → first_of (t ∷ tests) ≡ None → (t.0 ≡ false) × (first_of tests ≡ None)
head_fails t tests none = go t.0 none
  where
    go : (b : Bool) → cond b (Some t.1) (first_of tests) ≡ None → (b ≡ false) × (first_of tests ≡ None)
    go true none = absurd (cc)
    go false none = (refl, none)

open_then : (b : Bool) → not b ≡ false → b ≡ true
open_then true e = refl
open_then false e = absurd (cc)

pub batches_name_once : BatchesNameOnce
batches_name_once limits state ss passes =
    let third_test : Test = (list_any (λ s. not (is_open_session state s)) ss, NotOpen) in
    let second_test : Test = twice (least_twice limits ss) in
    let first_test : Test = (list_any (λ s. nat_le limits.sessions s) ss, BadSession) in
    let first : (first_test.0 ≡ false) × (first_of (second_test ∷ third_test ∷ []) ≡ None) =
    head_fails first_test (second_test ∷ third_test ∷ []) passes in
    let second : (second_test.0 ≡ false) × (first_of (third_test ∷ []) ≡ None) =
    head_fails second_test (third_test ∷ []) first.1 in
    let third : (third_test.0 ≡ false) × (first_of [] ≡ None) = head_fails third_test [] second.1 in
    let within : (s : ℕ) → Contains ss s → s < limits.sessions =
    λ s at. leb-false limits.sessions s (any_fails (λ s. nat_le limits.sessions s) ss s first.0 at) in
    record {
      within = within;
      once = λ s at. none_found (is_twice ss) 0 limits.sessions s second.0 (omega arith) (omega (arith, within s at));
      opens = λ s at. open_then (is_open_session state s) (any_fails (λ s. not (is_open_session state s)) ss s third.0 at);
    }

-- ---- what a session wrote, after another commit

abbrev writes_in : Option Session → List Write
writes_in o = option_map_or (λ session. session.writes) o []

module _ (state : State) (s n : ℕ) where
  pub closed_writes : writes_of (after_commit state s) s ≡ []
  closed_writes =
      let here : eq_by_cmp nat_cmp s s ≡ true = grind (arith, nat_tests) in
      ap writes_in (get-remove nat_cmp_total state.sessions s s ∙ ap (λ (b : Bool). cond b None (get state.sessions s)) here)

  pub other_writes : (t : ℕ) → t ≢ s → writes_of (after_commit state s) t ≡ writes_of state t
  other_writes t other =
      let apart : eq_by_cmp nat_cmp t s ≡ false = grind (arith, nat_tests) in
      ap writes_in (get-remove nat_cmp_total state.sessions s t ∙ ap (λ (b : Bool). cond b None (get state.sessions t)) apart)

  -- it is none where it was none, or where the session is the one that commits
  still_none : (t : ℕ) → (t ≢ s → last_write (writes_of state t) n ≡ None) → last_write (writes_of (after_commit state s) t) n ≡ None
  still_none t none = elim (cases_eq t s) [
    | inl same ↦ ap (λ (k : ℕ). last_write (writes_of (after_commit state s) k) n) same ∙ ap (λ (ws : List Write). last_write ws n) closed_writes
    | inr other ↦ ap (λ (ws : List Write). last_write ws n) (other_writes t other) ∙ none other
  ]

  record_then : (o : Option (Option (List ℕ))) → last_write (writes_of state s) n ≡ o
      → get (after_commit state s).map n ≡ option_map_or (λ c. c) o (get state.map n)
  record_then o is =
      get-with_writes (writes_of state s) state.map n
      ∙ ap (λ (o : Option (Option (List ℕ))). option_map_or (λ c. c) o (get state.map n)) is

pub batches_keep : BatchesKeep
batches_keep state [] n none = refl
batches_keep state (s ∷ ss) n none =
    batches_keep (after_commit state s) ss n (λ t at. still_none state s n t (λ other. none t (later_in s ss t at)))
    ∙ record_then state s n None (none s (first_in s ss))

pub batches_write : BatchesWrite
batches_write state [] s n change at is alone = absurd (omega (arith, at.1))
batches_write state (u ∷ ss) s n change at is alone = elim (cases_eq s u) [
  | inl same ↦
      let its : last_write (writes_of state u) n ≡ Some change = ap (λ (k : ℕ). last_write (writes_of state k) n) (sym same) ∙ is in
      batches_keep (after_commit state u) ss n (λ t there. still_none state u n t (λ other.
      alone t (later_in u ss t there) (λ e. other (e ∙ same))))
      ∙ record_then state u n (Some change) its
  | inr other ↦
      elim (first_or_later u ss s at) [
        | inl same ↦ absurd (other (sym same))
        | inr later ↦
            batches_write (after_commit state u) ss s n change later
            (ap (λ (ws : List Write). last_write ws n) (other_writes state u n s other) ∙ is)
            (λ t there differs. still_none state u n t (λ k. alone t (later_in u ss t there) differs))
      ]
]

-- ---- the same in another state

-- what a batch makes of the records depends on the records and on its sessions alone
pub same_records : (f g : State) (ss : List ℕ) → f.map ≡ g.map
    → ((t : ℕ) → Contains ss t → get f.sessions t ≡ get g.sessions t) → (after_batch f ss).map ≡ (after_batch g ss).map
same_records f g [] maps same = maps
same_records f g (s ∷ ss) maps same =
    same_records (after_commit f s) (after_commit g s) ss
    (with_same (same s (first_in s ss)))
    (λ t at. get-remove nat_cmp_total f.sessions s t
    ∙ ap (λ (o : Option Session). cond (eq_by_cmp nat_cmp t s) None o) (same t (later_in s ss t at))
    ∙ sym (get-remove nat_cmp_total g.sessions s t))
  where
    with_same : get f.sessions s ≡ get g.sessions s → (after_commit f s).map ≡ (after_commit g s).map
    with_same e =
        ap (λ (o : Option Session). with_writes (writes_in o) f.map) e
        ∙ ap (with_writes (writes_in (get g.sessions s))) maps

-- ---- each once

-- no number stands twice
abbrev pub Distinct : List ℕ → Type 0
Distinct [] = Unit {0}
Distinct (s ∷ ss) = (Contains ss s → ⊥) × Distinct ss

counts : (s : ℕ) (ss : List ℕ) → Contains ss s → 1 ≤ length (filter (λ t. t == s) ss)
counts s [] at = absurd (omega (arith, at.1))
counts s (u ∷ ss) at = go (u == s) refl (first_or_later u ss s at) (counts s ss)
  where
    go : (b : Bool) → (u == s) ≡ b → (u ≡ s) ⊎ Contains ss s → (Contains ss s → 1 ≤ length (filter (λ t. t == s) ss))
        → 1 ≤ length (cond b (u ∷ filter (λ t. t == s) ss) (filter (λ t. t == s) ss))
    go true is which rest = omega arith
    go false is (inl same) rest = absurd (both_ways (u == s) is (eq-eqb u s same))
    go false is (inr later) rest = rest later

twice_then : (s : ℕ) (ss : List ℕ) → is_twice (s ∷ ss) s ≡ false → Contains ss s → ⊥
twice_then s ss once at = go (s == s) refl (leb-false 2 (length (filter (λ t. t == s) (s ∷ ss))) once) (counts s ss at)
  where
    go : (b : Bool) → (s == s) ≡ b → length (cond b (s ∷ filter (λ t. t == s) ss) (filter (λ t. t == s) ss)) < 2
        → 1 ≤ length (filter (λ t. t == s) ss) → ⊥
    go true is less one = omega (arith, less, one)
    go false is less one = both_ways (s == s) is (eq-eqb s s refl)

still_once : (u t : ℕ) (ss : List ℕ) → is_twice (u ∷ ss) t ≡ false → is_twice ss t ≡ false
still_once u t ss once = lt-leb 2 (length (filter (λ k. k == t) ss)) (go (u == t) (leb-false 2 (length (filter (λ k. k == t) (u ∷ ss))) once))
  where
    go : (b : Bool) → length (cond b (u ∷ filter (λ k. k == t) ss) (filter (λ k. k == t) ss)) < 2
        → length (filter (λ k. k == t) ss) < 2
    go true less = omega (arith, less)
    go false less = less

pub distinct : (ss : List ℕ) → ((s : ℕ) → Contains ss s → is_twice ss s ≡ false) → Distinct ss
distinct [] once = tt
distinct (s ∷ ss) once =
    (twice_then s ss (once s (first_in s ss)), distinct ss (λ t at. still_once s t ss (once t (later_in s ss t at))))

-- ---- nothing is open after a batch of all that is open

pub any_listed : (ss : List ℕ) (q : ℕ) → list_any (λ t. t == q) ss ≡ true → Contains ss q
any_listed [] q e = absurd (cc)
any_listed (s ∷ ss) q e = go (s == q) refl e (any_listed ss q)
  where
    go : (b : Bool) → (s == q) ≡ b → (b || list_any (λ t. t == q) ss) ≡ true → (list_any (λ t. t == q) ss ≡ true → Contains ss q)
        → Contains (s ∷ ss) q
    go true is e rest = (zero, omega arith, eqb-true s q is)
    go false is e rest = later_in s ss q (rest e)

pub closes : (ss : List ℕ) (state : State) (q : ℕ) → (get state.sessions q ≡ None) ⊎ Contains ss q
    → get (after_batch state ss).sessions q ≡ None
closes [] state q (inl none) = none
closes [] state q (inr at) = absurd (omega (arith, at.1))
closes (s ∷ ss) state q why = closes ss (after_commit state s) q (elim why [
  | inl none ↦ inl (removed ∙ ap (λ (o : Option Session). cond (eq_by_cmp nat_cmp q s) None o) none ∙ same (eq_by_cmp nat_cmp q s))
  | inr at ↦ elim (first_or_later s ss q at) [
    | inl here ↦
        let is : eq_by_cmp nat_cmp q s ≡ true = grind (arith, nat_tests) in
        inl (removed ∙ ap (λ (b : Bool). cond b None (get state.sessions q)) is)
    | inr later ↦ inr later
  ]
])
  where
    removed : get (after_commit state s).sessions q ≡ cond (eq_by_cmp nat_cmp q s) None (get state.sessions q)
    removed = get-remove nat_cmp_total state.sessions s q

    same : (b : Bool) → cond {A = Option Session} b None None ≡ None
    same true = refl
    same false = refl

-- ---- refusals

pub any_alike : (p r : ℕ → Bool) (ss : List ℕ) → ((t : ℕ) → Contains ss t → p t ≡ r t) → list_any p ss ≡ list_any r ss
any_alike p r [] same = refl
any_alike p r (s ∷ ss) same =
    ap (λ (b : Bool). b || list_any p ss) (same s (first_in s ss))
    ∙ ap (λ (b : Bool). r s || b) (any_alike p r ss (λ t at. same t (later_in s ss t at)))

-- a batch is refused alike where its sessions are open alike
pub refused_alike : (limits : Limits) (f g : State) (ss : List ℕ)
    → ((t : ℕ) → Contains ss t → get f.sessions t ≡ get g.sessions t) → refuses_batch limits f ss ≡ refuses_batch limits g ss
refused_alike limits f g ss same =
    ap (λ (b : Bool). first_of ((list_any (λ s. nat_le limits.sessions s) ss, BadSession) ∷ twice (least_twice limits ss) ∷ (b, NotOpen) ∷ []))
    (any_alike (λ s. not (is_open_session f s)) (λ s. not (is_open_session g s)) ss (λ t at. ap (λ (o : Option Session). not (is_some o)) (same t at)))
