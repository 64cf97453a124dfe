-- What is known of log sectors once no mark counts: a list changed from its beginning on, element by element.
use Rattle.std.proofs.Common.{◌≡◌, ◌<◌, ◌≤◌, ℕ, zero, suc, nat_lt, List, [], ◌∷◌, map, length, get_or, slice_set, inl, inr, refl, ◌∙◌, ap, arith}
use Rattle.std.proofs.lemmas.Bool.{cases_Bool}
use Rattle.std.proofs.lemmas.List.{length-map}
use Rattle.ipl_meaning.specs.Tables.{Places, MARKED_LOGS, UNKNOWN_LOGS, unmarked_written, with_marks_ended}
use Rattle.unit_directory.specs.Directory.{IsSoundDirectory}

-- the first so many elements are changed
abbrev pub changed : (ℕ → ℕ) → ℕ → List ℕ → List ℕ
changed f zero xs = xs
changed f (suc n) [] = []
changed f (suc n) (x ∷ xs) = f x ∷ changed f n xs

-- and one more
pub changed_next : (f : ℕ → ℕ) (n d : ℕ) (xs : List ℕ) → n < length xs
    → slice_set (changed f n xs) n (f (get_or (changed f n xs) n d)) ≡ changed f (suc n) xs
changed_next f n d [] short = absurd (omega (arith, short))
changed_next f zero d (x ∷ xs) short = refl
changed_next f (suc n) d (x ∷ xs) short = ap (λ (l : List ℕ). f x ∷ l) (changed_next f n d xs (omega (arith, short)))

-- there are as many
pub changed_length : (f : ℕ → ℕ) (n : ℕ) (xs : List ℕ) → length (changed f n xs) ≡ length xs
changed_length f zero xs = refl
changed_length f (suc n) [] = refl
changed_length f (suc n) (x ∷ xs) = ap suc (changed_length f n xs)

-- all of them
pub changed_all : (f : ℕ → ℕ) (xs : List ℕ) → changed f (length xs) xs ≡ map f xs
changed_all f [] = refl
changed_all f (x ∷ xs) = ap (λ (l : List ℕ). f x ∷ l) (changed_all f xs)

-- what was known of a unit's log sectors is known still
known_less : (written : ℕ) → unmarked_written written ≤ written
known_less written = elim (cases_Bool (nat_lt written MARKED_LOGS)) [
  | inl few ↦ rw few (omega arith)
  | inr more ↦ elim (cases_Bool (nat_lt written UNKNOWN_LOGS)) [
    | inl marked ↦ rw (more, marked) (omega arith)
    | inr unknown ↦ rw (more, unknown) (omega arith)
  ]
]

mapped_at : (xs : List ℕ) (u : ℕ) → get_or (map unmarked_written xs) u 0 ≤ get_or xs u 0
mapped_at [] u = omega arith
mapped_at (x ∷ xs) zero = known_less x
mapped_at (x ∷ xs) (suc u) = mapped_at xs u

-- the directory is sound still
pub marks_ended : (it : Places) → IsSoundDirectory it → IsSoundDirectory (with_marks_ended it)
marks_ended it sound = record {
  places = sound.places;
  counts = sound.counts;
  units = sound.units;
  retired = sound.retired;
  logs = length-map it.written unmarked_written ∙ sound.logs;
  within = sound.within;
  few = λ u low. omega (arith, mapped_at it.written u, sound.few u low);
  heads = sound.heads;
  masks = sound.masks;
  sectors = sound.sectors;
}
