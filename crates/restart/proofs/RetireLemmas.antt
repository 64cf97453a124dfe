-- Places that are listed as retired: those that are free are retired.
use Rattle.std.proofs.Common.{◌≡◌, ◌≢◌, ◌⊎◌, inl, inr, ◌≤◌, ◌<◌, ◌+◌, ◌-◌, ◌*◌, ◌/◌, ℕ, suc, true, nat_lt, ◌==◌, List, [], ◌∷◌, length, drop, get_or, Option, Some, None, All, refl, sym, ◌∙◌, ap, subst, arith, length-set}
use Rattle.std.specs.List.{Contains}
use Rattle.std.proofs.lemmas.Bool.{cases_Bool, cases_eq, false≢true, cond-true, cond-false}
use Rattle.std.proofs.lemmas.List.Elements.{All-head, All-tail}
use Rattle.ipl_format.specs.Header.{AreRetired, IsWithin}
use Rattle.ipl_format.specs.Numbers.{word_at}
use Rattle.ipl_format.specs.Sector.{Sector}
use Rattle.ipl_meaning.specs.Tables.{Places, IsFree, inserted}
use Rattle.number_set.proofs.NumberLemmas.{contains_cons, contains_here, contains_there}
use Rattle.unit_layout.specs.Retired.{words_within, words_in, may_be_retired}
use Rattle.unit_layout.proofs.WordLemmas.{next_word}
use Rattle.unit_layout.proofs.StatusLemmas.{are_retired}
use Rattle.unit_directory.specs.Free.{put_aside, IsReadyToTake}
use Rattle.unit_directory.proofs.AsideLemmas.{free_but, free_still, ready_places_stay}
use Rattle.unit_directory.proofs.RetiredLemmas.{inserted_has, inserted_keeps, inserted_from}
use Rattle.restart.specs.Kept.{listed_in, retired_of}
use Rattle.restart.specs.Filled.{with_aside, with_all_aside}

-- ---- one place

aside_free : (it : Places) (p : ℕ) → IsFree it p → with_aside it p ≡ put_aside it p
aside_free it p free = cond-false (get_or it.in_use p true) it (put_aside it p) free

aside_used : (it : Places) (p : ℕ) → get_or it.in_use p true ≡ true → with_aside it p ≡ it
aside_used it p used = cond-true (get_or it.in_use p true) it (put_aside it p) used

-- what is the same, whichever places are retired
pub record KeepsUnitsOf (it after : Places) : Type 0 where
  pub current : after.current ≡ it.current
  pub all : length after.in_use ≡ length it.in_use
  pub erases : after.erases ≡ it.erases
  pub written : after.written ≡ it.written
  pub generations : after.generations ≡ it.generations
  pub masks : after.masks ≡ it.masks

-- what one place that is retired where it is free makes of the directory
pub record IsOneAside (it : Places) (p : ℕ) (after : Places) : Type 0 where
  pub free : (q : ℕ) → IsFree after q → IsFree it q × (q ≢ p)
  pub still : (q : ℕ) → IsFree it q → q ≢ p → IsFree after q
  pub retired : (q : ℕ) → Contains after.retired q → Contains it.retired q ⊎ ((q ≡ p) × IsFree it q)
  pub before : (q : ℕ) → Contains it.retired q → Contains after.retired q
  pub listed : IsFree it p → Contains after.retired p
  pub ready : IsReadyToTake it → IsReadyToTake after
  pub keeps : KeepsUnitsOf it after

pub one_aside : (it : Places) (p : ℕ) → IsOneAside it p (with_aside it p)
one_aside it p = elim (cases_Bool (get_or it.in_use p true)) [
  | inl used ↦ subst (IsOneAside it p) (sym (aside_used it p used)) (record {
    free = λ q is. (is, λ same. false≢true (sym (subst (IsFree it) same is) ∙ used));
    still = λ q is other. is;
    retired = λ q has. inl has;
    before = λ q has. has;
    listed = λ is. absurd (false≢true (sym is ∙ used));
    ready = λ before. before;
    keeps = record { current = refl; all = refl; erases = refl; written = refl; generations = refl; masks = refl };
  })
  | inr free ↦ subst (IsOneAside it p) (sym (aside_free it p free)) (record {
    free = λ q is. let was = free_but it p q is in (was.1, was.0);
    still = λ q is other. free_still it p q other is;
    retired = λ q has. elim (inserted_from p it.retired q has) [
      | inl this ↦ inr (sym this, subst (IsFree it) this free)
      | inr before ↦ inl before
    ];
    before = λ q has. inserted_keeps p it.retired q has;
    listed = λ is. inserted_has p it.retired;
    ready = λ before. (ready_places_stay it p before free).ready;
    keeps = record { current = refl; all = length-set it.in_use p true; erases = refl; written = refl; generations = refl; masks = refl };
  })
]

-- ---- all that are listed

-- of the free places those that are listed are retired, and the others are free still
pub record AreAside (it : Places) (listed : List ℕ) (after : Places) : Type 0 where
  pub free : (q : ℕ) → IsFree after q → IsFree it q × ¬ Contains listed q
  pub still : (q : ℕ) → IsFree it q → ¬ Contains listed q → IsFree after q
  pub retired : (q : ℕ) → Contains after.retired q → Contains it.retired q ⊎ (Contains listed q × IsFree it q)
  pub before : (q : ℕ) → Contains it.retired q → Contains after.retired q
  pub listed_are : (q : ℕ) → Contains listed q → IsFree it q → Contains after.retired q
  pub either : (q : ℕ) → IsFree it q → IsFree after q ⊎ Contains after.retired q
  pub ready : IsReadyToTake it → IsReadyToTake after
  pub keeps : KeepsUnitsOf it after

pub all_aside : (it : Places) (listed : List ℕ) → AreAside it listed (with_all_aside it listed)
all_aside it [] = record {
  free = λ q is. (is, λ has. let within = has.1 in omega (arith, within));
  still = λ q is other. is;
  retired = λ q has. inl has;
  before = λ q has. has;
  listed_are = λ q has is. absurd (let within = has.1 in omega (arith, within));
  either = λ q is. inl is;
  ready = λ before. before;
  keeps = record { current = refl; all = refl; erases = refl; written = refl; generations = refl; masks = refl };
}
all_aside it (p ∷ listed) =
    let one = one_aside it p in
    let rest = all_aside (with_aside it p) listed in record {
      free = λ q is.
          let later = rest.free q is in
          let first = one.free q later.0 in (
            first.0,
            λ has. elim (contains_cons p listed q has) [
              | inl this ↦ first.1 (sym this)
              | inr behind ↦ later.1 behind
            ],
          );
      still = λ q is other. rest.still q
          (one.still q is (λ same. other (subst (Contains (p ∷ listed)) (sym same) (contains_here p listed))))
          (λ behind. other (contains_there p listed q behind));
      retired = λ q has. elim (rest.retired q has) [
        | inl earlier ↦ elim (one.retired q earlier) [
          | inl before ↦ inl before
          | inr this ↦ inr (subst (Contains (p ∷ listed)) (sym this.0) (contains_here p listed), this.1)
        ]
        | inr behind ↦ inr (contains_there p listed q behind.0, (one.free q behind.1).0)
      ];
      before = λ q has. rest.before q (one.before q has);
      listed_are = λ q has is. elim (cases_eq q p) [
        | inl same ↦ rest.before q (subst (Contains (with_aside it p).retired) (sym same) (one.listed (subst (IsFree it) same is)))
        | inr other ↦ elim (contains_cons p listed q has) [
          | inl this ↦ absurd (other (sym this))
          | inr behind ↦ rest.listed_are q behind (one.still q is other)
        ]
      ];
      either = λ q is. elim (cases_eq q p) [
        | inl same ↦ inr (rest.before q (subst (Contains (with_aside it p).retired) (sym same) (one.listed (subst (IsFree it) same is))))
        | inr other ↦ rest.either q (one.still q is other)
      ];
      ready = λ before. rest.ready (one.ready before);
      keeps = record {
        current = rest.keeps.current ∙ one.keeps.current;
        all = rest.keeps.all ∙ one.keeps.all;
        erases = rest.keeps.erases ∙ one.keeps.erases;
        written = rest.keeps.written ∙ one.keeps.written;
        generations = rest.keeps.generations ∙ one.keeps.generations;
        masks = rest.keeps.masks ∙ one.keeps.masks;
      };
    }

-- ---- where they are listed

-- the places in the bytes that a sector lists
pub listed_words : (o : Option Sector) → words_in (listed_in o) ≡ retired_of o
listed_words None = refl
listed_words (Some sector) = refl

-- those that may be retired
pub may_retire : (places units : ℕ) (bytes listed : List ℕ) → words_in bytes ≡ listed → may_be_retired places units listed ≡ true
    → AreRetired 3 places units (words_in bytes)
may_retire places units bytes listed same may =
    are_retired 3 places units (words_in bytes) (λ before. absurd (omega (arith, before))) (ap (may_be_retired places units) same ∙ may)

pub listed_within : (places units : ℕ) (listed : List ℕ) → may_be_retired places units listed ≡ true → All (IsWithin places) listed
listed_within places units listed may = (are_retired 3 places units listed (λ before. absurd (omega (arith, before))) may).within

-- so many places are left, from the i-th on
abbrev pub left_from : ℕ → ℕ → List ℕ → List ℕ
left_from count i bytes = words_within (count - i) (drop (4 * i) bytes)

-- at first all of them
pub all_left : (bytes : List ℕ) → left_from (length bytes / 4) 0 bytes ≡ words_in bytes
all_left bytes = let none : length bytes / 4 - 0 ≡ length bytes / 4 = omega arith in ap (λ (n : ℕ). words_within n bytes) none

-- the next one is followed by the others
pub next_left : (count i : ℕ) (bytes : List ℕ) → i < count
    → left_from count i bytes ≡ word_at (4 * i) bytes ∷ left_from count (i + 1) bytes
next_left count i bytes low =
    let one : count - i ≡ suc (count - (i + 1)) = omega arith in
    ap (λ (n : ℕ). words_within n (drop (4 * i) bytes)) one ∙ next_word (count - (i + 1)) i bytes

-- it is a place of the chip
pub next_within : (places count i : ℕ) (bytes : List ℕ) → i < count → All (IsWithin places) (left_from count i bytes)
    → (word_at (4 * i) bytes < places) × All (IsWithin places) (left_from count (i + 1) bytes)
next_within places count i bytes low each =
    let these = subst (All (IsWithin places)) (next_left count i bytes low) each in (
      All-head (IsWithin places) (word_at (4 * i) bytes) (left_from count (i + 1) bytes) these,
      All-tail (IsWithin places) (word_at (4 * i) bytes) (left_from count (i + 1) bytes) these,
    )

-- and once it is retired, those behind it are left
pub next_aside : (count i : ℕ) (bytes : List ℕ) (it now whole : Places) → i < count → now ≡ with_aside it (word_at (4 * i) bytes)
    → with_all_aside it (left_from count i bytes) ≡ whole → with_all_aside now (left_from count (i + 1) bytes) ≡ whole
next_aside count i bytes it now whole low is so_far =
    ap (λ (d : Places). with_all_aside d (left_from count (i + 1) bytes)) is
    ∙ (ap (with_all_aside it) (sym (next_left count i bytes low)) ∙ so_far)

-- at the end none is left
pub none_left : (count i : ℕ) (bytes : List ℕ) (it whole : Places) → count ≤ i → with_all_aside it (left_from count i bytes) ≡ whole → it ≡ whole
none_left count i bytes it whole high so_far =
    let none : count - i ≡ 0 = omega arith in
    ap (λ (n : ℕ). with_all_aside it (words_within n (drop (4 * i) bytes))) (sym none) ∙ so_far

-- one place more is retired at most
pub one_more_at_most : (it : Places) (p : ℕ) → length (with_aside it p).retired ≤ length it.retired + 1
one_more_at_most it p = elim (cases_Bool (get_or it.in_use p true)) [
  | inl used ↦ let same = ap (λ (d : Places). length d.retired) (aside_used it p used) in omega (arith, same)
  | inr free ↦
      let same = ap (λ (d : Places). length d.retired) (aside_free it p free) in
      let more = at_most p it.retired in omega (arith, same, more)
]
  where
    at_most : (p : ℕ) (l : List ℕ) → length (inserted p l) ≤ length l + 1
    at_most p [] = omega arith
    at_most p (q ∷ l) = elim (cases_Bool (nat_lt p q)) [
      | inl less ↦ rw less (omega arith)
      | inr more ↦ elim (cases_Bool (p == q)) [
        | inl same ↦ rw (more, same) (omega arith)
        | inr other ↦ let rest = at_most p l in rw (more, other) (omega (arith, rest))
      ]
    ]
