-- Calls that keep pins, and a pool at rest.
use Rattle.std.proofs.Common.{◌≡◌, ◌≢◌, ◌≤◌, ◌<◌, ◌+◌, ℕ, false, ltb, List, get_or, count_by, Option, Some, None, IsSome, refl, sym, ◌∙◌, ap, subst, inl, inr, arith}
use Rattle.std.proofs.lemmas.Bool.{cases_Bool, cases_eq, ltb-true, lt-ltb, false≢true}
use Rattle.slab.specs.Slab.{Slab, get}
use Rattle.buffer_pool.specs.declared.pool.Buffer.{Buffer}
use Rattle.buffer_pool.specs.Pools.{PoolView, Changes, new_buffer, with_buffers, with_pin, without_pin}
use Rattle.buffer_pool.specs.Lending.{changed_at}
use Rattle.buffer_pool.specs.Laws.{SamePage}
use Rattle.buffer_pool.specs.Holding.{is_pinned, pinned_count, HasPins, KeepsPins}
use Rattle.buffer_pool.specs.HoldingLaws.{NothingKeepsPins, BothKeepPins, KeptPinsAreAsMany, KeptPinsRest, PinsGivenBackAreKept, PagesBroughtKeepPins, EvictionsKeepPins, ChangesKeepPins, LoansKeepPins, EmptyPoolsRest, PagesAtRestMayBePinned, ARestingPoolHasRoom}
use Rattle.buffer_pool.proofs.IndexLemmas.{some_is, no_some}
use Rattle.buffer_pool.proofs.LentLemmas.{changed_is}
use Rattle.buffer_pool.proofs.CountLemmas.{count_of, all_pinned}

-- ---- calls that keep pins

pub has_own_pins : (buffers : Slab Buffer) (key : ℕ) (b : Buffer) → get buffers key ≡ Some b
    → HasPins buffers key b
has_own_pins buffers key b stored = record {
  buffer = b;
  stored = stored;
  unit_is = refl;
  page_is = refl;
  pins_is = refl;
}

pub nothing_keeps : NothingKeepsPins
nothing_keeps p = record {
  limit = refl;
  stay = λ key b stored some. has_own_pins p.buffers key b stored;
  before = λ key b stored some. has_own_pins p.buffers key b stored;
}

pins_then : (mid new : Slab Buffer) (key : ℕ) (b : Buffer)
    → ((k : ℕ) (c : Buffer) → get mid k ≡ Some c → 0 < c.pins → HasPins new k c)
    → 0 < b.pins → HasPins mid key b → HasPins new key b
pins_then mid new key b more some has =
    let pins = has.pins_is in
    let last = more key has.buffer has.stored (omega (arith, some, pins)) in
    record {
      buffer = last.buffer;
      stored = last.stored;
      unit_is = last.unit_is ∙ has.unit_is;
      page_is = last.page_is ∙ has.page_is;
      pins_is = last.pins_is ∙ has.pins_is;
    }

pub both_keep : BothKeepPins
both_keep old mid new first second = record {
  limit = second.limit ∙ first.limit;
  stay = λ key b stored some.
      pins_then mid.buffers new.buffers key b second.stay some (first.stay key b stored some);
  before = λ key b stored some.
      pins_then mid.buffers old.buffers key b first.before some (second.before key b stored some);
}

pub as_many : KeptPinsAreAsMany
as_many old new keeps =
    let less = count_of old.buffers new.buffers keeps.before in
    let more = count_of new.buffers old.buffers keeps.stay in
    omega (arith, less, more)

pub rest_stays : KeptPinsRest
rest_stays old new keeps rest = record {
  one = λ key b stored. elim (cases_Bool (ltb 0 b.pins)) [
    | inl some ↦
        let was = keeps.before key b stored (ltb-true 0 b.pins some) in
        let pins = was.pins_is in
        let one = rest.one key was.buffer was.stored in
        omega (arith, pins, one)
    | inr none ↦ few_if b none
  ];
  few = let few = rest.few in
      let limit = keeps.limit in
      omega (arith, few, limit, as_many old new keeps);
}
  where
    few_if : (b : Buffer) → ltb 0 b.pins ≡ false → b.pins ≤ 1
    few_if b none = elim (cases_eq b.pins 0) [
      | inl zero_is ↦ omega (arith, zero_is)
      | inr other ↦ absurd (false≢true (sym none ∙ lt-ltb 0 b.pins (omega (arith, other))))
    ]

-- pins are kept, where they are under one key and under the others
keeps_at : (old new : PoolView) (key : ℕ) → new.limit ≡ old.limit
    → ((k : ℕ) (b : Buffer) → k ≢ key → 0 < b.pins
    → (get old.buffers k ≡ Some b → HasPins new.buffers k b)
    × (get new.buffers k ≡ Some b → HasPins old.buffers k b))
    → ((b : Buffer) → get old.buffers key ≡ Some b → 0 < b.pins → HasPins new.buffers key b)
    → ((b : Buffer) → get new.buffers key ≡ Some b → 0 < b.pins → HasPins old.buffers key b)
    → KeepsPins old new
keeps_at old new key limit others stay before = record {
  limit = limit;
  stay = λ k b stored some. elim (cases_eq k key) [
    | inl here ↦ subst (λ (j : ℕ). HasPins new.buffers j b) (sym here)
        (stay b (ap (get old.buffers) (sym here) ∙ stored) some)
    | inr other ↦ (others k b other some).0 stored
  ];
  before = λ k b stored some. elim (cases_eq k key) [
    | inl here ↦ subst (λ (j : ℕ). HasPins old.buffers j b) (sym here)
        (before b (ap (get new.buffers) (sym here) ∙ stored) some)
    | inr other ↦ (others k b other some).1 stored
  ];
}

-- so where the other buffers are the same
others_same : (old new : Slab Buffer) (key : ℕ)
    → ((other : ℕ) → other ≢ key → get new other ≡ get old other)
    → (k : ℕ) (b : Buffer) → k ≢ key → 0 < b.pins
    → (get old k ≡ Some b → HasPins new k b) × (get new k ≡ Some b → HasPins old k b)
others_same old new key others k b other some = (
  λ stored. has_own_pins new k b (others k other ∙ stored),
  λ stored. has_own_pins old k b (sym (others k other) ∙ stored),
)

-- a buffer has the pins of another that is of its page
pins_of : (buffers : Slab Buffer) (key : ℕ) (was now b : Buffer) → get buffers key ≡ Some now
    → was ≡ b → SamePage now was → now.pins ≡ was.pins → HasPins buffers key b
pins_of buffers key was now b stands one same pins = record {
  buffer = now;
  stored = stands;
  unit_is = same.0 ∙ ap (λ (e : Buffer). e.unit) one;
  page_is = same.1 ∙ ap (λ (e : Buffer). e.page) one;
  pins_is = pins ∙ ap (λ (e : Buffer). e.pins) one;
}

-- one buffer of the same page and as many pins for another
same_pins : (old new : PoolView) (key : ℕ) (was now : Buffer) → new.limit ≡ old.limit
    → get old.buffers key ≡ Some was → get new.buffers key ≡ Some now
    → ((k : ℕ) (b : Buffer) → k ≢ key → 0 < b.pins
    → (get old.buffers k ≡ Some b → HasPins new.buffers k b)
    × (get new.buffers k ≡ Some b → HasPins old.buffers k b))
    → SamePage now was → now.pins ≡ was.pins → KeepsPins old new
same_pins old new key was now limit there stands others same pins =
    keeps_at old new key limit others
    (λ b stored some.
    pins_of new.buffers key was now b stands (some_is was b (sym there ∙ stored)) same pins)
    (λ b stored some.
    pins_of old.buffers key now was b there (some_is now b (sym stands ∙ stored))
    (sym same.0, sym same.1) (sym pins))

there_is : (o : Option Buffer) → IsSome o → (b : Buffer) × (o ≡ Some b)
there_is None is = absurd (false≢true is)
there_is (Some b) is = (b, refl)

pub changes_keep : ChangesKeepPins
changes_keep old new key change some same did limit =
    let (was, there) = there_is (get old.buffers key) some in
    same_pins old new key was (change was) limit there (did.here was there)
    (others_same old.buffers new.buffers key did.others) (same was).0 (same was).1

pub loans_keep : LoansKeepPins
loans_keep p key change some same =
    let (was, there) = there_is (get p.buffers key) some in
    let did = changed_is p.buffers key change was there in
    let new = changed_at p.buffers key change in
    same_pins p (with_buffers p new) key was (change was) refl there did.changed
    (others_same p.buffers new key did.others) (same was).0 (same was).1

pub evictions_keep : EvictionsKeepPins
evictions_keep old new unit page key may has did limit =
    keeps_at old new key limit (others_same old.buffers new.buffers key did.others)
    (λ b stored some.
    let one : has.buffer ≡ b = some_is has.buffer b (sym has.stored ∙ stored) in
    let none = (may key has.buffer has.stored has.unit_is has.page_is).0 in
    absurd (omega (arith, some, none, ap (λ (e : Buffer). e.pins) one)))
    (λ b stored some. absurd (no_some b (sym did.changed ∙ stored)))

-- ---- pins that are given back

-- calls between that keep pins change nothing else of them
other_pins : (old pinned later new : PoolView) (key : ℕ) → KeepsPins pinned later
    → ((k : ℕ) → k ≢ key → get pinned.buffers k ≡ get old.buffers k)
    → ((k : ℕ) → k ≢ key → get new.buffers k ≡ get later.buffers k)
    → (k : ℕ) (b : Buffer) → k ≢ key → 0 < b.pins
    → (get old.buffers k ≡ Some b → HasPins new.buffers k b)
    × (get new.buffers k ≡ Some b → HasPins old.buffers k b)
other_pins old pinned later new key keeps first last k b other some = (
  λ stored. moved later.buffers new.buffers (last k other)
      (keeps.stay k b (first k other ∙ stored) some),
  λ stored. moved pinned.buffers old.buffers (sym (first k other))
      (keeps.before k b (sym (last k other) ∙ stored) some),
)
  where
    moved : (x y : Slab Buffer) → get y k ≡ get x k → HasPins x k b → HasPins y k b
    moved x y same has = record {
      buffer = has.buffer;
      stored = same ∙ has.stored;
      unit_is = has.unit_is;
      page_is = has.page_is;
      pins_is = has.pins_is;
    }

-- what is under the key of the pin that was given back
under_key : (pinned later new : PoolView) (key : ℕ) (now : Buffer) → KeepsPins pinned later
    → get pinned.buffers key ≡ Some now → 0 < now.pins
    → Changes later.buffers new.buffers key without_pin
    → (b : Buffer) × (get new.buffers key ≡ Some b) × SamePage b now × (b.pins + 1 ≡ now.pins)
under_key pinned later new key now keeps stored some did =
    let has = keeps.stay key now stored some in
    let pins = has.pins_is in (
      without_pin has.buffer,
      did.here has.buffer has.stored,
      (has.unit_is, has.page_is),
      omega (arith, pins, some),
    )

pub pins_given_back : PinsGivenBackAreKept
pins_given_back old pinned later new unit page key has limit did keeps last undid =
    let was = has.buffer in
    let now = with_pin old.clock was in
    let some : 0 < now.pins = omega arith in
    let (b, stands, of, pins) =
    under_key pinned later new key now keeps (did.here was has.stored) some undid in
    same_pins old new key was b (last ∙ keeps.limit ∙ limit) has.stored stands
    (other_pins old pinned later new key keeps did.others undid.others) of (omega (arith, pins))

pub brings_keep : PagesBroughtKeepPins
brings_keep old brought later new unit page key empty limit did keeps last undid =
    let now = new_buffer unit page old.clock in
    let some : 0 < now.pins = omega arith in
    let (b, stands, of, pins) =
    under_key brought later new key now keeps did.changed some undid in
    keeps_at old new key (last ∙ keeps.limit ∙ limit)
    (other_pins old brought later new key keeps did.others undid.others)
    (λ c stored more. absurd (no_some c (sym empty ∙ stored)))
    (λ c stored more.
    let one = some_is b c (sym stands ∙ stored) in
    absurd (omega (arith, more, pins, ap (λ (e : Buffer). e.pins) one)))

-- ---- a pool at rest

pub empty_rests : EmptyPoolsRest
empty_rests p none some =
    let zero : pinned_count p.buffers ≡ 0 = ap (count_by is_pinned) none in (
      zero,
      record {
        one = λ key b stored.
            absurd (no_some b (sym (ap (λ (l : List (Option Buffer)). get_or l key None) none) ∙ stored));
        few = omega (arith, zero, some);
      },
    )

pub may_pin_at_rest : PagesAtRestMayBePinned
may_pin_at_rest p unit page rest key b stored u q =
    let one = rest.one key b stored in omega (arith, one)

pub room_at_rest : ARestingPoolHasRoom
room_at_rest p rest all =
    let few = rest.few in
    let many = all_pinned p.buffers.slots all.1 in
    absurd (omega (arith, few, many, all.0))
