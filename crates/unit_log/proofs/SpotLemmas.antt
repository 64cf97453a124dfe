-- Spots of a unit's log: which they are, and that none is named twice.
use Rattle.std.proofs.Common.{◌≡◌, ℕ, zero, suc, ◌<◌, ◌≤◌, ◌+◌, List, [], ◌∷◌, ◌++◌, length, map, get_or, inl, inr, sym, ap, ap₂, subst, arith}
use Rattle.std.specs.List.{Contains, AllPairs}
use Rattle.std.proofs.lemmas.List.{length-map, get_or-map}
use Rattle.std.proofs.lemmas.List.Elements.{Contains-append_cases}
use Rattle.ipl_meaning.specs.Layout.{Entry, IsBelow}
use Rattle.ipl_meaning.specs.Mirrors.{AreApart}
use Rattle.unit_log.specs.declared.scratch.LogSector.{LogSector}
use Rattle.unit_log.specs.Kept.{kept_of, HaveRisingSerials}
use Rattle.unit_log.specs.Live.{spots_from}
use Rattle.unit_log.proofs.KeptLemmas.{contains_cons, contains_here, contains_there}

pub spots_has : (p s n k : ℕ) → k < n → Contains (spots_from p s n) (p, s + k)
spots_has p s zero k low = absurd (omega arith)
spots_has p s (suc n) zero low =
    subst (λ (z : ℕ). Contains (spots_from p s (suc n)) (p, z)) (omega arith)
    (contains_here (p, s) (spots_from p (s + 1) n))
spots_has p s (suc n) (suc k) low =
    subst (λ (z : ℕ). Contains (spots_from p s (suc n)) (p, z)) (omega arith)
    (contains_there (p, s) (spots_from p (s + 1) n) (p, s + 1 + k)
    (spots_has p (s + 1) n k (omega (arith, low))))

pub spots_are : (p s n q t : ℕ) → Contains (spots_from p s n) (q, t)
    → (q ≡ p) × (s ≤ t) × (t < s + n)
spots_are p s zero q t has = absurd (let within = has.1 in omega (arith, within))
spots_are p s (suc n) q t has = elim (contains_cons (p, s) (spots_from p (s + 1) n) (q, t) has) [
  | inl same ↦
      let place : p ≡ q = ap (λ (z : ℕ × ℕ). z.0) same in
      let number : s ≡ t = ap (λ (z : ℕ × ℕ). z.1) same in
      (sym place, omega (arith, number), omega (arith, number))
  | inr later ↦ let (place, least, most) = spots_are p (s + 1) n q t later in
      (place, omega (arith, least), omega (arith, most))
]

pub map_has : (log : List Entry) (e : Entry) → Contains log e
    → Contains (map kept_of log) (kept_of e)
map_has [] e has = absurd (let within = has.1 in omega (arith, within))
map_has (f ∷ log) e has = elim (contains_cons f log e has) [
  | inl same ↦
      subst (λ (x : Entry). Contains (kept_of f ∷ map kept_of log) (kept_of x)) same
      (contains_here (kept_of f) (map kept_of log))
  | inr later ↦ contains_there (kept_of f) (map kept_of log) (kept_of e) (map_has log e later)
]

pub map_from : (log : List Entry) (z : LogSector) → Contains (map kept_of log) z
    → (e : Entry) × Contains log e × (kept_of e ≡ z)
map_from [] z has = absurd (let within = has.1 in omega (arith, within))
map_from (f ∷ log) z has = elim (contains_cons (kept_of f) (map kept_of log) z has) [
  | inl same ↦ (f, contains_here f log, same)
  | inr later ↦ let (e, there, is) = map_from log z later in (e, contains_there f log e there, is)
]

pub map_rises : (log : List Entry) → AllPairs IsBelow log → HaveRisingSerials (map kept_of log)
map_rises [] rise = λ i j d less within. absurd (omega (arith, within))
map_rises (f ∷ log) rise = λ i j d less within.
    let e : Entry = f in
    let in_j : j < length (f ∷ log) = omega (arith, within, length-map log kept_of) in
    let at_i : get_or (map kept_of (f ∷ log)) i d ≡ kept_of (get_or (f ∷ log) i e) =
    get_or-map kept_of (f ∷ log) i e d (omega (arith, less, in_j)) in
    let at_j : get_or (map kept_of (f ∷ log)) j d ≡ kept_of (get_or (f ∷ log) j e) =
    get_or-map kept_of (f ∷ log) j e d in_j in
    let below : IsBelow (get_or (f ∷ log) i e) (get_or (f ∷ log) j e) = rise i j e less in_j in
    rw (at_i, at_j) below

-- ---- spots apart

abbrev pub Apart : List (ℕ × ℕ) → Type 0
Apart [] = Unit {0}
Apart (x ∷ spots) = (Contains spots x → ⊥) × Apart spots

pub home_apart : (p s n : ℕ) → Apart (spots_from p s n)
home_apart p s zero = tt
home_apart p s (suc n) = (
  λ has. let least = (spots_are p (s + 1) n p s has).1 in
      omega (arith, least),
  home_apart p (s + 1) n,
)

pub pairs_apart : (l : List (ℕ × ℕ)) → AllPairs AreApart l → Apart l
pairs_apart [] apart = tt
pairs_apart (x ∷ l) apart = (
  λ has. let (k, within, is) = has in
      apart 0 (suc k) x (omega arith) (omega (arith, within)) (sym is),
  pairs_apart l (λ i j d less within. apart (suc i) (suc j) d (omega (arith, less))
      (omega (arith, within))),
)

pub apart_append : (a b : List (ℕ × ℕ)) → Apart a → Apart b
    → ((x : ℕ × ℕ) → Contains a x → Contains b x → ⊥) → Apart (a ++ b)
apart_append [] b one other none = other
apart_append (x ∷ a) b one other none = (
  λ has. elim (Contains-append_cases a b x has) [
    | inl own ↦ one.0 own
    | inr in_b ↦
        none x (contains_here x a) in_b
  ],
  apart_append a b one.1 other (λ y in_a in_b. none y (contains_there x a y in_a) in_b),
)

pub pair_same : (x y : ℕ × ℕ) → x.0 ≡ y.0 → x.1 ≡ y.1 → x ≡ y
pair_same x y a b = ap₂ (λ (m n : ℕ). (m, n)) a b
