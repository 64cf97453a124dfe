-- One spot in an overflow place, and one overflow place, as an opening lists them.
use Rattle.std.proofs.Common.{◌≡◌, ◌<◌, ◌+◌, ◌*◌, ℕ, zero, suc, Bool, true, false, ◌&&◌, ◌==◌, inl, inr, List, [], ◌∷◌, length, map, get_or, Option, Some, None, refl, sym, ◌∙◌, ap, ap₂, subst, arith}
use Rattle.std.specs.Option.{option_map}
use Rattle.std.specs.List.{Contains, AllPairs, list_any}
use Rattle.std.proofs.lemmas.List.{length-map, get_or-map}
use Rattle.std.proofs.lemmas.Bool.{cases_Bool, eqb-true, eq-eqb, and_parts, and_from, or_cases, or_left, or_right, cond-true}
use Rattle.std.proofs.lemmas.Option.{cond_some, same_Some}
use Rattle.ipl_meaning.specs.Last.{is_number}
use Rattle.ipl_meaning.specs.Tables.{place_of}
use Rattle.ipl_meaning.specs.Mirrors.{AreApart}
use Rattle.ipl_meaning.proofs.MirrorLemmas.{map_contains}
use Rattle.ipl_meaning.specs.First.{passes, all_below, count_below}
use Rattle.ipl_meaning.specs.Live.{Mark}
use Rattle.ipl_meaning.proofs.BelowLemmas.{all_has, all_from}
use Rattle.ipl_meaning.proofs.LaidLemmas.{number_of_spot}
use Rattle.ipl_meaning.specs.FoundLogs.{spot_of, overflow_at}
use Rattle.ipl_meaning.proofs.ListLemmas.{any, all_apart, all_length, map_all, count_alike}

-- only a place of the list is free
pub free_low : (xs : List Bool) (p : ℕ) → get_or xs p true ≡ false → p < length xs
free_low [] p free = cc
free_low (x ∷ xs) zero free = omega arith
free_low (x ∷ xs) (suc p) free = let low = free_low xs p free in omega (arith, low)

-- ---- numbers

pub number_has : (tid : ℕ) (numbers : List ℕ) → list_any (is_number tid) numbers ≡ true
    → Contains numbers tid
number_has tid [] is = absurd (cc is)
number_has tid (n ∷ numbers) is = elim (or_cases _ _ is) [
  | inl first ↦ (0, omega arith, eqb-true n tid first)
  | inr later ↦ let (i, low, at) = number_has tid numbers later in (suc i, omega (arith, low), at)
]

pub has_number : (tid : ℕ) (numbers : List ℕ) → Contains numbers tid
    → list_any (is_number tid) numbers ≡ true
has_number tid [] (i, low, at) = absurd (omega (arith, low))
has_number tid (n ∷ numbers) (zero, low, at) = or_left _ _ (eq-eqb n tid at)
has_number tid (n ∷ numbers) (suc i, low, at) =
    or_right _ _ (has_number tid numbers (i, omega (arith, low), at))

-- ---- a spot

pub spot_listed : (spots : List (ℕ × ℕ)) (p s k : ℕ) → Contains spots (p, s) → p * 256 + s ≡ k
    → Contains (map number_of_spot spots) k
spot_listed spots p s k (i, low, is) same = (
  i,
  omega (arith, length-map spots number_of_spot, low),
  get_or-map number_of_spot spots i (p, s) k low ∙ (ap number_of_spot is ∙ same),
)

-- a mark of the unit, in an overflow place, whose spot this is
pub record IsSpotOf (u : ℕ) (o : Option Mark) (p s : ℕ) : Type 0 where
  pub mark : Mark
  pub here : o ≡ Some mark
  pub in_overflow : mark.in_overflow ≡ true
  pub unit : mark.unit ≡ u
  pub place : mark.place ≡ p
  pub number : mark.number ≡ s

pub spot_from : (u : ℕ) (o : Option Mark) (p s : ℕ) → spot_of u o ≡ Some (p, s) → IsSpotOf u o p s
spot_from u None p s is = absurd (cc is)
spot_from u (Some mark) p s is =
    let parts = cond_some (mark.in_overflow && (mark.unit == u)) (mark.place, mark.number) (p, s) is in
    let tests = and_parts mark.in_overflow (mark.unit == u) parts.0 in
    record {
      mark = mark;
      here = refl;
      in_overflow = tests.0;
      unit = eqb-true mark.unit u tests.1;
      place = ap (λ (x : ℕ × ℕ). x.0) parts.1;
      number = ap (λ (x : ℕ × ℕ). x.1) parts.1;
    }

pub spot_to : (u : ℕ) (o : Option Mark) (mark : Mark) → o ≡ Some mark → mark.in_overflow ≡ true
    → mark.unit ≡ u → spot_of u o ≡ Some (mark.place, mark.number)
spot_to u o mark here in_overflow unit =
    ap (spot_of u) here
    ∙ cond-true (mark.in_overflow && (mark.unit == u)) (Some (mark.place, mark.number)) None
    (and_from mark.in_overflow (mark.unit == u) in_overflow (eq-eqb mark.unit u unit))

pub same_spot : (p s q t : ℕ) → p ≡ q → s ≡ t → ◌≡◌ {A = ℕ × ℕ} (p, s) (q, t)
same_spot p s q t place number = ap₂ (λ (a b : ℕ). let x : ℕ × ℕ = (a, b) in x) place number

-- ---- an overflow place

held_from : (holds : ℕ → Bool) (p : ℕ) (x : ℕ × ℕ) → overflow_at holds p ≡ Some x
    → (holds p ≡ true) × (x.0 ≡ p) × (x.1 ≡ 256)
held_from holds p x is =
    let parts = cond_some (holds p) (p, 256) x is in (
      parts.0,
      ap (λ (y : ℕ × ℕ). y.0) (sym parts.1),
      ap (λ (y : ℕ × ℕ). y.1) (sym parts.1),
    )

held_to : (holds : ℕ → Bool) (p : ℕ) → holds p ≡ true → overflow_at holds p ≡ Some (p, 256)
held_to holds p is = cond-true (holds p) (Some (p, 256)) None is

place_in : (o : Option (ℕ × ℕ)) (p a : ℕ) → ((x : ℕ × ℕ) → o ≡ Some x → x.0 ≡ p)
    → option_map place_of o ≡ Some a → p ≡ a
place_in None p a own is = absurd (cc is)
place_in (Some x) p a own is = sym (own x refl) ∙ same_Some x.0 a is

held_place : (holds : ℕ → Bool) (p a : ℕ) → option_map place_of (overflow_at holds p) ≡ Some a → p ≡ a
held_place holds p a is =
    place_in (overflow_at holds p) p a (λ x at. (held_from holds p x at).1) is

held_counts : (holds : ℕ → Bool) (p : ℕ) → passes any (overflow_at holds p) ≡ holds p
held_counts holds p = elim (cases_Bool (holds p)) [
  | inl held ↦ rw held refl
  | inr other ↦ rw other refl
]

-- a place that is listed is in use there
place_from : (xs : List (ℕ × ℕ)) (p : ℕ) → Contains (map place_of xs) p
    → (first : ℕ) × Contains xs (p, first)
place_from [] p (k, within, is) = absurd (omega (arith, within))
place_from (x ∷ xs) p (zero, within, is) = (x.1, (0, omega arith, same_spot x.0 x.1 p x.1 is refl))
place_from (x ∷ xs) p (suc k, within, is) =
    let (first, there) = place_from xs p (k, omega (arith, within), is) in
    (first, (suc there.0, omega (arith, there.1), there.2))

-- ---- all overflow places, as they are listed

module _ (holds : ℕ → Bool) (places : ℕ) (in_use : List (ℕ × ℕ)) (is : in_use ≡ all_below (overflow_at holds) places) where
  -- one that is listed holds live log sectors, and has no clean sector
  pub in_use_from : (p first : ℕ) → Contains in_use (p, first)
      → (holds p ≡ true) × (first ≡ 256) × (p < places)
  in_use_from p first has =
      let from = all_from (overflow_at holds) places (p, first)
      (subst (λ (xs : List (ℕ × ℕ)). Contains xs (p, first)) is has) in
      let parts = held_from holds from.0 (p, first) from.2 in
      (ap holds parts.1 ∙ parts.0, parts.2, omega (arith, parts.1, from.1))

  pub listed_holds : (p : ℕ) → Contains (map place_of in_use) p → (holds p ≡ true) × (p < places)
  listed_holds p has =
      let (first, there) = place_from in_use p has in
      let from = in_use_from p first there in
      (from.0, from.2)

  -- and one that holds some is listed
  pub held_listed : (p : ℕ) → p < places → holds p ≡ true → Contains (map place_of in_use) p
  held_listed p low held =
      map_contains in_use p 256
      (subst (λ (xs : List (ℕ × ℕ)). Contains xs (p, 256)) (sym is)
      (all_has (overflow_at holds) places p (p, 256) low (held_to holds p held)))

  -- each once
  pub places_apart : AllPairs AreApart (map place_of in_use)
  places_apart =
      subst (AllPairs AreApart) (sym (ap (map place_of) is ∙ map_all place_of (overflow_at holds) places))
      (all_apart (λ p. option_map place_of (overflow_at holds p)) places
      (λ j k a before within first second.
      omega (arith, before, held_place holds j a first, held_place holds k a second)))

  -- they are as many as hold some
  pub as_many : length in_use ≡ count_below holds places
  as_many =
      ap length is
      ∙ (all_length (overflow_at holds) places
      ∙ count_alike (λ p. passes any (overflow_at holds p)) holds places (λ p low. held_counts holds p))
