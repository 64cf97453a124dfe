-- What a pool keeps, seen from inside and by its callers.
use Rattle.std.proofs.Common.{◌≡◌, ℕ, ◌<◌, ◌≤◌, min, ◌+◌, cond, List, length, get_or, Option, Some, None, IsSome, is_some, IfSome, IfNone, refl, sym, ◌∙◌, ap, subst, arith}
use Rattle.std.proofs.lemmas.List.Sums.{sum_by-set}
use Rattle.slab.specs.Slab.{Slab, get, slab_len, with_value, Updates}
use Rattle.slab.proofs.SlabLemmas.{ContainsKey-within, Updates-with_value}
use Rattle.buffer_pool.specs.declared.pool.Buffer.{Buffer}
use Rattle.buffer_pool.specs.declared.pool.Pool.TheInside.{Inside}
use Rattle.buffer_pool.specs.Index.{page_number, key_of, with_key, number_at, NumbersRise}
use Rattle.buffer_pool.specs.Pools.{PoolView, view_of, HasPage, IsThere, IsAbsent, AreOnce, AreBefore, IsPoolSound, IsSoundPool, Changes}
use Rattle.buffer_pool.specs.Laws.{SamePage}
use Rattle.buffer_pool.specs.Uses.{IsUsedLast}
use Rattle.buffer_pool.proofs.IndexLemmas.{some_is, numbers_at, length-numbers, numbers_rise, ordered_key, key_ordered}
use Rattle.buffer_pool.proofs.BufferLemmas.{changes_stay_once}
use Rattle.buffer_pool.proofs.UseLemmas.{before_kept, before_used, used_last}
use Rattle.buffer_pool.proofs.IndexedLemmas.{same_number, told, are_once, found_page, page_listed, none_listed, index_stays, index_added, index_removed}

module _ (p : Inside) (v : PoolView) (sound : IsPoolSound p) (same : view_of p ≡ v) where
  pub sound_pool : NumbersRise p.index → IsSoundPool v
  sound_pool rise = subst IsSoundPool same (record {
    once = are_once p.index p.buffers sound.indexed;
    pages = sound.indexed.pages;
    holds = sound.holds;
    few = sound.few;
    rising = numbers_rise p.index rise;
    listed = λ u page low. (
      λ has.
          let (key, is) = ordered_key p.index (page_number u page) has in
          record { key = key; has = found_page p.index p.buffers sound.indexed u page key low is },
      λ is.
          key_ordered p.index (page_number u page) is.key
          (page_listed p.index p.buffers sound.indexed u page is.key is.has),
    );
  })

  pub once_pool : AreOnce v.buffers
  once_pool = subst (λ (w : PoolView). AreOnce w.buffers) same
      (are_once p.index p.buffers sound.indexed)

  -- how many pages are in order
  pub length_is : slab_len p.buffers ≡ length v.order
  length_is = sym sound.indexed.len ∙ sym (length-numbers p.index)
      ∙ ap (λ (w : PoolView). length w.order) same

  -- the place is one of the index
  pub within_index : (i : ℕ) → i < length v.order → i < length p.index
  within_index i within =
      let length_same = ap (λ (w : PoolView). length w.order) same in
      omega (arith, within, length_same, length-numbers p.index)

  -- what stands at a place of the order
  pub number_stands : (i key : ℕ) (b : Buffer) → i < length v.order
      → key_of p.index (number_at p.index i) ≡ Some key → get p.buffers key ≡ Some b
      → page_number b.unit b.page ≡ get_or v.order i 0
  number_stands i key b within is there =
      let has = sound.indexed.found (number_at p.index i) key is in
      let one : b ≡ has.buffer = some_is b has.buffer (sym there ∙ has.stored) in
      same_number b has.buffer one ∙ has.number_is
      ∙ sym (numbers_at p.index i (within_index i within))
      ∙ ap (λ (w : PoolView). get_or w.order i 0) same

  pub page_stands : (key : ℕ) (b : Buffer) → get p.buffers key ≡ Some b
      → (b.page < 15) × IsThere v.buffers b.unit b.page
  page_stands key b there = (
    sound.indexed.pages key b there,
    subst (λ (w : PoolView). IsThere w.buffers b.unit b.page) same (record {
      key = key;
      has = record { buffer = b; stored = there; unit_is = refl; page_is = refl };
    }),
  )

  -- what a search in the index says
  pub told_of : (u page : ℕ) (r : Option ℕ) → page < 15 → r ≡ key_of p.index (page_number u page)
      → IfSome r (λ key. HasPage v.buffers u page key) × IfNone r (IsAbsent v.buffers u page)
  told_of u page r low is =
      subst (λ (w : PoolView). IfSome r (λ key. HasPage w.buffers u page key)
      × IfNone r (IsAbsent w.buffers u page)) same
      (told p.index p.buffers sound.indexed u page r low is)

  -- a page that isn't there isn't listed
  pub is_not_listed : (u page : ℕ) → page < 15 → IsAbsent v.buffers u page
      → key_of p.index (page_number u page) ≡ None
  is_not_listed u page low absent =
      none_listed p.index p.buffers sound.indexed u page low
      (subst (λ (w : PoolView). IsAbsent w.buffers u page) (sym same) absent)

  -- the page under a key, inside
  pub has_inside : (u page key : ℕ) → HasPage v.buffers u page key → HasPage p.buffers u page key
  has_inside u page key has = subst (λ (w : PoolView). HasPage w.buffers u page key) (sym same) has

  -- a page is brought in
  pub sound_added : (new : Slab Buffer) (more : List (ℕ × ℕ)) (key u page number clock : ℕ)
      (added : Buffer) → added.unit ≡ u → added.page ≡ page → number ≡ page_number u page
      → page < 15 → IsAbsent v.buffers u page → slab_len v.buffers < v.limit
      → get p.buffers key ≡ None → Updates p.buffers new key (Some added)
      → ((n : ℕ) → key_of more n ≡ with_key (key_of p.index) number (Some key) n)
      → length more ≡ length p.index + 1 → slab_len new ≡ slab_len p.buffers + 1
      → new.capacity ≡ p.buffers.capacity → AreBefore new clock
      → IsPoolSound (record { buffers = new; index = more; limit = p.limit; clock = clock })
  sound_added new more key u page number clock added unit_is page_is number_is low absent free empty did adds longer len room counted =
      let here = subst (λ (w : PoolView). IsAbsent w.buffers u page) (sym same) absent in
      let is_free : slab_len p.buffers < p.limit =
      subst (λ (w : PoolView). slab_len w.buffers < w.limit) (sym same) free in
      let reserved = sound.reserved in record {
        holds = omega (arith, is_free, len);
        reserved = omega (arith, reserved, room);
        few = sound.few;
        indexed = index_added p.index more p.buffers new key u page added unit_is page_is
            sound.indexed low here empty did
            (λ n. adds n ∙ ap (λ (m : ℕ). with_key (key_of p.index) m (Some key) n) number_is)
            longer len;
        counted = counted;
      }

  -- a page leaves
  pub sound_removed : (new : Slab Buffer) (less : List (ℕ × ℕ)) (key u page number clock : ℕ)
      → number ≡ page_number u page → HasPage v.buffers u page key → Updates p.buffers new key None
      → ((n : ℕ) → key_of less n ≡ with_key (key_of p.index) number None n)
      → length less + 1 ≡ length p.index → slab_len new + 1 ≡ slab_len p.buffers
      → new.capacity ≡ p.buffers.capacity → AreBefore new clock
      → IsPoolSound (record { buffers = new; index = less; limit = p.limit; clock = clock })
  sound_removed new less key u page number clock number_is has did removes shorter len room counted =
      let holds = sound.holds in
      let reserved = sound.reserved in record {
        holds = omega (arith, holds, len);
        reserved = omega (arith, reserved, room);
        few = sound.few;
        indexed = index_removed p.index less p.buffers new key u page sound.indexed
            (has_inside u page key has) did
            (λ n. removes n ∙ ap (λ (m : ℕ). with_key (key_of p.index) m None n) number_is)
            shorter len;
        counted = counted;
      }

-- a buffer is changed, and has its page still
pub sound_stays : (p : Inside) (new : Slab Buffer) (key clock : ℕ) (was now : Buffer) → IsPoolSound p
    → get p.buffers key ≡ Some was → Updates p.buffers new key (Some now)
    → now.unit ≡ was.unit → now.page ≡ was.page → slab_len new ≡ slab_len p.buffers
    → new.capacity ≡ p.buffers.capacity → AreBefore new clock
    → IsPoolSound (record { buffers = new; index = p.index; limit = p.limit; clock = clock })
sound_stays p new key clock was now sound there did unit page len room counted =
    let holds = sound.holds in
    let reserved = sound.reserved in record {
      holds = omega (arith, holds, len);
      reserved = omega (arith, reserved, room);
      few = sound.few;
      indexed = index_stays p.index p.buffers new key was now sound.indexed there did unit page len;
      counted = counted;
    }

-- the buffer under the key is written by a change of it
pub changes_update : (old new : Slab Buffer) (key : ℕ) (change : Buffer → Buffer) (was : Buffer)
    → get old key ≡ Some was → Changes old new key change → Updates old new key (Some (change was))
changes_update old new key change was there did =
    record { changed = did.here was there; others = did.others }

-- by a change of it alone that is no use
pub sound_changed : (p : Inside) (new : Slab Buffer) (key : ℕ) (change : Buffer → Buffer)
    (was : Buffer) → IsPoolSound p → get p.buffers key ≡ Some was → Changes p.buffers new key change
    → (change was).unit ≡ was.unit → (change was).page ≡ was.page → (change was).used ≡ was.used
    → slab_len new ≡ slab_len p.buffers → new.capacity ≡ p.buffers.capacity
    → IsPoolSound (record { buffers = new; index = p.index; limit = p.limit; clock = p.clock })
sound_changed p new key change was sound there did unit page used len room =
    let updates = changes_update p.buffers new key change was there did in
    sound_stays p new key p.clock was (change was) sound there updates unit page len room
    (before_kept p.buffers new key p.clock was (change was) sound.counted there updates used)

-- or by one that is a use
pub sound_used : (p : Inside) (new : Slab Buffer) (key clock : ℕ) (change : Buffer → Buffer)
    (was : Buffer) → IsPoolSound p → get p.buffers key ≡ Some was → Changes p.buffers new key change
    → (change was).unit ≡ was.unit → (change was).page ≡ was.page → (change was).used ≡ p.clock
    → slab_len new ≡ slab_len p.buffers → new.capacity ≡ p.buffers.capacity
    → p.clock ≤ 18446744073709551615 → clock ≡ min (p.clock + 1) 18446744073709551615
    → IsPoolSound (record { buffers = new; index = p.index; limit = p.limit; clock = clock })
sound_used p new key clock change was sound there did unit page used len room end more =
    let updates = changes_update p.buffers new key change was there did in
    sound_stays p new key clock was (change was) sound there updates unit page len room
    (subst (AreBefore new) (sym more)
    (before_used p.buffers new key p.clock (change was) sound.counted end updates used))

-- and the buffer's page is the one used last then
pub last_used : (p : Inside) (new : PoolView) (key u page : ℕ) (change : Buffer → Buffer)
    (was : Buffer) → IsPoolSound p → get p.buffers key ≡ Some was → Changes p.buffers new.buffers key change
    → SamePage (change was) was → (change was).used ≡ p.clock → was.unit ≡ u → was.page ≡ page
    → IsUsedLast new u page
last_used p new key u page change was sound there did same used unit of =
    let updates = changes_update p.buffers new.buffers key change was there did in
    used_last p.buffers new u page key p.clock (change was)
    (changes_stay_once p.buffers new.buffers key was (change was)
    (are_once p.index p.buffers sound.indexed) there same updates) sound.counted updates
    (same.0 ∙ unit) (same.1 ∙ of) used

-- a write counts no buffer more
same_count : (buffers : Slab Buffer) (key : ℕ) (was now : Buffer) → get buffers key ≡ Some was
    → slab_len (with_value buffers key now) ≡ slab_len buffers
same_count buffers key was now there =
    let within = ContainsKey-within buffers key (subst IsSome (sym there) refl) in
    let sums : slab_len (with_value buffers key now) + cond (is_some (get buffers key)) 1 0
    ≡ slab_len buffers + 1 =
    sum_by-set (λ (o : Option Buffer). cond (is_some o) 1 0) buffers.slots key (Some now) None within in
    let one : ◌≡◌ {A = ℕ} (cond (is_some (get buffers key)) 1 0) 1 =
    ap (λ (o : Option Buffer). cond (is_some o) 1 0) there in
    omega (arith, sums, one)

-- whatever is written through a part of it that was lent
pub sound_lent : (p : Inside) (key : ℕ) (was now : Buffer) → IsPoolSound p
    → get p.buffers key ≡ Some was → now.unit ≡ was.unit → now.page ≡ was.page
    → now.used ≡ was.used
    → IsPoolSound (record { buffers = with_value p.buffers key now; index = p.index; limit = p.limit; clock = p.clock })
sound_lent p key was now sound there unit page used =
    let did = Updates-with_value p.buffers key now (subst IsSome (sym there) refl) in
    sound_stays p (with_value p.buffers key now) key p.clock was now sound there did unit page
    (same_count p.buffers key was now there) refl
    (before_kept p.buffers (with_value p.buffers key now) key p.clock was now sound.counted there did
    used)

-- a change inside is one of what is seen
pub changes_seen : (p : Inside) (v : PoolView) (new : Slab Buffer) (key : ℕ)
    (change : Buffer → Buffer) → view_of p ≡ v → Changes p.buffers new key change
    → Changes v.buffers new key change
changes_seen p v new key change same did =
    subst (λ (w : PoolView). Changes w.buffers new key change) same did
