-- The numbers of those of some sessions that wrote something.
use Rattle.std.proofs.Common.{◌≡◌, ◌≢◌, ℕ, ◌≤◌, ◌<◌, ◌+◌, Bool, true, false, eqb, List, [], ◌∷◌, ◌++◌, map, length, take, get_or, Contains, Option, Some, None, refl, sym, ◌∙◌, ap, subst, arith}
use Rattle.std.specs.Option.{option_map_or}
use Rattle.std.proofs.lemmas.Bool.{eqb-true, eq-eqb}
use Rattle.std.proofs.lemmas.List.{take_more, length-append, length-take-le, append-nil, append_assoc}
use Rattle.ipl_base.specs.declared.name.Name.{Name}
use Rattle.ipl_model.proofs.RuleBatchLemmas.{first_in, later_in}
use Rattle.record_locks.specs.Held.{SessionSlots, number_of, written_of, written_by, writer_number, writer_numbers}
use Rattle.store_laws.specs.Refusals.{IsOpenSession}
use Rattle.store_laws.proofs.BatchLemmas.{none_written, no_numbers}

-- ---- one session more

-- the numbers of some sessions, and then those of others
writers_append : (slots : SessionSlots) (a b : List ℕ)
    → writer_numbers slots (a ++ b) ≡ writer_numbers slots a ++ writer_numbers slots b
writers_append slots [] b = refl
writers_append slots (s ∷ a) b =
    ap (λ (l : List ℕ). writer_number (written_of slots s) (number_of slots s) ++ l)
    (writers_append slots a b)
    ∙ sym (append_assoc (writer_number (written_of slots s) (number_of slots s))
    (writer_numbers slots a) (writer_numbers slots b))

-- so are the first of the sessions, and then the next one
writers_more : (slots : SessionSlots) (ss : List ℕ) (i : ℕ) → i < length ss
    → writer_numbers slots (take (i + 1) ss) ≡ writer_numbers slots (take i ss)
    ++ writer_number (written_of slots (get_or ss i 0)) (number_of slots (get_or ss i 0))
writers_more slots ss i within =
    ap (writer_numbers slots) (take_more ss i 0 within)
    ∙ writers_append slots (take i ss) (get_or ss i 0 ∷ [])
    ∙ ap (λ (l : List ℕ). writer_numbers slots (take i ss) ++ l)
    (append-nil (writer_number (written_of slots (get_or ss i 0)) (number_of slots (get_or ss i 0))))

module _ (slots : SessionSlots) (ss : List ℕ) (i : ℕ) (tids : List ℕ) (within : i < length ss)
    (so_far : tids ≡ writer_numbers slots (take i ss)) where
  -- the next one adds none
  pub none_joins : writer_number (written_of slots (get_or ss i 0)) (number_of slots (get_or ss i 0))
      ≡ [] → tids ≡ writer_numbers slots (take (i + 1) ss)
  none_joins none =
      so_far ∙ sym (append-nil (writer_numbers slots (take i ss)))
      ∙ ap (λ (l : List ℕ). writer_numbers slots (take i ss) ++ l) (sym none)
      ∙ sym (writers_more slots ss i within)

  -- or its own
  pub writer_joins : (tid : ℕ)
      → writer_number (written_of slots (get_or ss i 0)) (number_of slots (get_or ss i 0))
      ≡ tid ∷ [] → tids ++ tid ∷ [] ≡ writer_numbers slots (take (i + 1) ss)
  writer_joins tid own =
      ap (λ (l : List ℕ). l ++ tid ∷ []) so_far
      ∙ ap (λ (l : List ℕ). writer_numbers slots (take i ss) ++ l) (sym own)
      ∙ sym (writers_more slots ss i within)

-- ---- a session's number, where it wrote something

module _ (names : List Name) (written : List ℕ) (o : Option ℕ) (b : Bool)
    (are : map (λ (n : Name). n.0) names ≡ written) (is : b ≡ eqb (length names) 0) where
  -- it wrote nothing
  pub idle_number : b ≡ true → writer_number written o ≡ []
  idle_number empty = subst (λ (l : List ℕ). writer_number l o ≡ []) are (by_names names is)
    where
      by_names : (l : List Name) → b ≡ eqb (length l) 0
          → writer_number (map (λ (n : Name). n.0) l) o ≡ []
      by_names [] none = refl
      by_names (n ∷ l) none =
          let counted = eqb-true (length (n ∷ l)) 0 (sym none ∙ empty) in
          absurd (omega (arith, counted))

  -- it wrote something
  pub own_number : b ≡ false → writer_number written o ≡ option_map_or (λ tid. tid ∷ []) o []
  own_number some =
      subst (λ (l : List ℕ). writer_number l o ≡ option_map_or (λ tid. tid ∷ []) o []) are
      (by_names names o is)
    where
      by_names : (l : List Name) (o : Option ℕ) → b ≡ eqb (length l) 0
          → writer_number (map (λ (n : Name). n.0) l) o ≡ option_map_or (λ tid. tid ∷ []) o []
      by_names [] o none =
          let counted : true ≡ false =
          sym (eq-eqb (length {A = Name} []) 0 refl) ∙ (sym none ∙ some) in absurd (cc counted)
      by_names (n ∷ l) None none = refl
      by_names (n ∷ l) (Some tid) none = refl

-- ---- how many

-- a session has one number at most
one_at_most : (names : List ℕ) (o : Option ℕ) → length (writer_number names o) ≤ 1
one_at_most [] o = omega arith
one_at_most (n ∷ names) None = omega arith
one_at_most (n ∷ names) (Some tid) = omega arith

-- there are no more numbers than sessions
few_writers : (slots : SessionSlots) (ss : List ℕ) → length (writer_numbers slots ss) ≤ length ss
few_writers slots [] = omega arith
few_writers slots (s ∷ ss) =
    omega (
      arith,
      length-append (writer_number (written_of slots s) (number_of slots s))
          (writer_numbers slots ss),
      one_at_most (written_of slots s) (number_of slots s),
      few_writers slots ss,
    )

-- so there is room for one more before the last session
pub room_for_writer : (slots : SessionSlots) (ss : List ℕ) (i : ℕ) (tids : List ℕ) → i < length ss
    → length ss ≤ 32 → tids ≡ writer_numbers slots (take i ss) → length tids < 32
room_for_writer slots ss i tids within few so_far =
    omega (
      arith,
      within,
      few,
      few_writers slots (take i ss),
      length-take-le i ss (omega (arith, within)),
      ap length so_far,
    )

-- ---- sessions that wrote nothing

-- where they wrote nothing there is no number
none_written_none : (slots : SessionSlots) (ss : List ℕ) → written_by slots ss ≡ []
    → writer_numbers slots ss ≡ []
none_written_none slots ss none = no_numbers slots ss (λ s at. none_written slots ss s none at)

-- and where open sessions have none, they wrote nothing
no_writer_none : (slots : SessionSlots) (ss : List ℕ)
    → ((s : ℕ) → Contains ss s → IsOpenSession slots s) → writer_numbers slots ss ≡ []
    → written_by slots ss ≡ []
no_writer_none slots [] opens none = refl
no_writer_none slots (s ∷ ss) opens none =
    let mine = opens s (first_in s ss) in
    by_names (written_of slots s)
    (no_writer_none slots ss (λ t at. opens t (later_in s ss t at)))
    (subst (λ (o : Option ℕ). writer_number (written_of slots s) o ++ writer_numbers slots ss ≡ [])
    mine.number_is none)
  where
    by_names : (names : List ℕ) → (writer_numbers slots ss ≡ [] → written_by slots ss ≡ [])
        → writer_number names (Some (opens s (first_in s ss)).number) ++ writer_numbers slots ss ≡ []
        → names ++ written_by slots ss ≡ []
    by_names [] others rest = others rest
    by_names (n ∷ names) others rest = absurd (cc rest)

-- ---- as a commit tests it

module _ (slots : SessionSlots) (ss tids : List ℕ) (are : tids ≡ writer_numbers slots ss) (b : Bool)
    (is : b ≡ eqb (length tids) 0) where
  -- no number: open sessions wrote nothing
  pub wrote_nothing : ((s : ℕ) → Contains ss s → IsOpenSession slots s) → b ≡ true
      → written_by slots ss ≡ []
  wrote_nothing opens empty = no_writer_none slots ss opens (sym are ∙ is_empty tids is)
    where
      is_empty : (l : List ℕ) → b ≡ eqb (length l) 0 → l ≡ []
      is_empty [] none = refl
      is_empty (n ∷ l) none =
          let counted = eqb-true (length (n ∷ l)) 0 (sym none ∙ empty) in
          absurd (omega (arith, counted))

  -- some number: they wrote something
  pub wrote_some : b ≡ false → written_by slots ss ≢ []
  wrote_some some none =
      let empty = are ∙ none_written_none slots ss none in
      let counted : true ≡ false =
      sym (eq-eqb (length tids) 0 (ap length empty)) ∙ (sym is ∙ some) in absurd (cc counted)
