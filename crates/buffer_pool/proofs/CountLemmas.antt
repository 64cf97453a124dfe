-- How many pages have pins.
use Rattle.std.proofs.Common.{◌≡◌, ◌≤◌, ◌<◌, ◌+◌, ℕ, suc, Bool, true, false, cond, ltb, List, [], ◌∷◌, get_or, count_by, Option, Some, None, is_some, IsSome, refl, sym, ◌∙◌, ap, subst, inl, inr, arith}
use Rattle.std.proofs.lemmas.Bool.{cases_eq, ltb-true, lt-ltb, false≢true}
use Rattle.std.proofs.lemmas.List.Sums.{sum_by-cons, sum_by-set}
use Rattle.slab.specs.Slab.{Slab, get, slab_len, with_value, Updates, entries_from}
use Rattle.slab.proofs.SlabLemmas.{ContainsKey-within, Updates-with_value}
use Rattle.buffer_pool.specs.declared.pool.Buffer.{Buffer}
use Rattle.buffer_pool.specs.Holding.{is_pinned, pinned_count, HasPins}

-- ---- how many

one_if : Option Buffer → ℕ
one_if o = cond (is_pinned o) 1 0

cond_le : (a b : Bool) → (a ≡ true → b ≡ true) → cond a 1 0 ≤ cond b 1 0
cond_le true true so = omega arith
cond_le true false so = absurd (false≢true (so refl))
cond_le false true so = omega arith
cond_le false false so = omega arith

-- there are no more where each that has a pin has one on the other side
count_le : (xs ys : List (Option Buffer))
    → ((k : ℕ) → is_pinned (get_or xs k None) ≡ true → is_pinned (get_or ys k None) ≡ true)
    → count_by is_pinned xs ≤ count_by is_pinned ys
count_le [] ys each = omega arith
count_le (x ∷ xs) [] each =
    let first : cond (is_pinned x) 1 0 ≤ cond false 1 0 = cond_le (is_pinned x) false (each 0) in
    let rest : count_by is_pinned xs ≤ count_by is_pinned [] =
    count_le xs [] (λ k. each (suc k)) in
    omega (arith, first, rest, sum_by-cons (λ o. cond (is_pinned o) 1 0) x xs)
count_le (x ∷ xs) (y ∷ ys) each =
    let first = cond_le (is_pinned x) (is_pinned y) (each 0) in
    let rest = count_le xs ys (λ k. each (suc k)) in
    omega (
      arith,
      first,
      rest,
      sum_by-cons (λ o. cond (is_pinned o) 1 0) x xs,
      sum_by-cons (λ o. cond (is_pinned o) 1 0) y ys,
    )

-- those that have pins are of those that are there
pinned_le : (xs : List (Option Buffer)) → count_by is_pinned xs ≤ count_by is_some xs
pinned_le [] = omega arith
pinned_le (None ∷ xs) =
    omega (
      arith,
      pinned_le xs,
      sum_by-cons (λ o. cond (is_pinned o) 1 0) None xs,
      sum_by-cons {X = Option Buffer} (λ o. cond (is_some o) 1 0) None xs,
    )
pinned_le (Some b ∷ xs) =
    let first = cond_le (ltb 0 b.pins) true (λ is. refl) in
    omega (
      arith,
      first,
      pinned_le xs,
      sum_by-cons (λ o. cond (is_pinned o) 1 0) (Some b) xs,
      sum_by-cons {X = Option Buffer} (λ o. cond (is_some o) 1 0) (Some b) xs,
    )

pub pinned_few : (buffers : Slab Buffer) → pinned_count buffers ≤ slab_len buffers
pinned_few buffers = pinned_le buffers.slots

-- where each has one, they are as many
pub all_pinned : (xs : List (Option Buffer))
    → ((k : ℕ) (b : Buffer) → get_or xs k None ≡ Some b → 0 < b.pins)
    → count_by is_some xs ≤ count_by is_pinned xs
all_pinned [] each = omega arith
all_pinned (None ∷ xs) each =
    omega (
      arith,
      all_pinned xs (λ k. each (suc k)),
      sum_by-cons (λ o. cond (is_pinned o) 1 0) None xs,
      sum_by-cons {X = Option Buffer} (λ o. cond (is_some o) 1 0) None xs,
    )
all_pinned (Some b ∷ xs) each =
    let first = cond_le true (ltb 0 b.pins) (λ is. lt-ltb 0 b.pins (each 0 b refl)) in
    omega (
      arith,
      first,
      all_pinned xs (λ k. each (suc k)),
      sum_by-cons (λ o. cond (is_pinned o) 1 0) (Some b) xs,
      sum_by-cons {X = Option Buffer} (λ o. cond (is_some o) 1 0) (Some b) xs,
    )

-- a buffer with a pin
pinned_buffer : (o : Option Buffer) → is_pinned o ≡ true → (b : Buffer) × (o ≡ Some b) × (0 < b.pins)
pinned_buffer None is = absurd (false≢true is)
pinned_buffer (Some b) is = (b, refl, ltb-true 0 b.pins is)

pub is_pinned_if : (o : Option Buffer) (b : Buffer) → o ≡ Some b → 0 < b.pins → is_pinned o ≡ true
is_pinned_if o b is some = ap is_pinned is ∙ lt-ltb 0 b.pins some

-- no more, where each pinned buffer was pinned
pub count_of : (old new : Slab Buffer)
    → ((key : ℕ) (b : Buffer) → get new key ≡ Some b → 0 < b.pins → HasPins old key b)
    → pinned_count new ≤ pinned_count old
count_of old new before = count_le new.slots old.slots (λ k is.
    let (b, stored, some) = pinned_buffer (get new k) is in
    let was = before k b stored some in
    let pins = was.pins_is in
    is_pinned_if (get old k) was.buffer was.stored (omega (arith, some, pins)))

-- as many where each key has the same
count_same : (old new : Slab Buffer) → ((k : ℕ) → get new k ≡ get old k)
    → pinned_count new ≡ pinned_count old
count_same old new same =
    let less = count_le new.slots old.slots (λ k is. ap is_pinned (sym (same k)) ∙ is) in
    let more = count_le old.slots new.slots (λ k is. ap is_pinned (same k) ∙ is) in
    omega (arith, less, more)

-- one buffer changes
pub count_changed : (old new : Slab Buffer) (key : ℕ) (was now : Buffer) → get old key ≡ Some was
    → Updates old new key (Some now)
    → pinned_count new + cond (is_pinned (Some was)) 1 0
    ≡ pinned_count old + cond (is_pinned (Some now)) 1 0
count_changed old new key was now there did =
    let some : IsSome (get old key) = subst IsSome (sym there) refl in
    let within = ContainsKey-within old key some in
    let wrote = Updates-with_value old key now some in
    let same = count_same (with_value old key now) new (λ k. elim (cases_eq k key) [
      | inl here ↦ ap (get new) here ∙ did.changed ∙ sym wrote.changed
          ∙ ap (get (with_value old key now)) (sym here)
      | inr other ↦ did.others k other ∙ sym (wrote.others k other)
    ]) in
    let sums : pinned_count (with_value old key now) + cond (is_pinned (get old key)) 1 0
    ≡ pinned_count old + cond (is_pinned (Some now)) 1 0 =
    sum_by-set (λ (o : Option Buffer). cond (is_pinned o) 1 0) old.slots key (Some now) None within in
    let own : ◌≡◌ {A = ℕ} (cond (is_pinned (get old key)) 1 0) (cond (is_pinned (Some was)) 1 0) =
    ap (λ (o : Option Buffer). cond (is_pinned o) 1 0) there in
    omega (arith, same, sums, own)

-- ---- how many of the entries

pub entries_pinned : (key : ℕ) (slots : List (Option Buffer))
    → count_by (λ e. is_pinned (Some e.1)) (entries_from key slots) ≡ count_by is_pinned slots
entries_pinned key [] = refl
entries_pinned key (None ∷ rest) =
    omega (arith, entries_pinned (key + 1) rest, sum_by-cons (λ o. cond (is_pinned o) 1 0) None rest)
entries_pinned key (Some b ∷ rest) =
    omega (
      arith,
      entries_pinned (key + 1) rest,
      sum_by-cons (λ o. cond (is_pinned o) 1 0) (Some b) rest,
      sum_by-cons {X = ℕ × Buffer} (λ e. cond (is_pinned (Some e.1)) 1 0) (key, b)
          (entries_from (key + 1) rest),
    )

-- ---- counted one by one

-- the first of the entries, and those after it
pub counted : (left rest : List (ℕ × Buffer)) (key : ℕ) (b : Buffer) → left ≡ (key, b) ∷ rest
    → count_by (λ e. is_pinned (Some e.1)) left
    ≡ cond (is_pinned (Some b)) 1 0 + count_by (λ e. is_pinned (Some e.1)) rest
counted left rest key b step =
    ap (count_by (λ (e : ℕ × Buffer). is_pinned (Some e.1))) step
    ∙ sum_by-cons (λ (e : ℕ × Buffer). cond (is_pinned (Some e.1)) 1 0) (key, b) rest
