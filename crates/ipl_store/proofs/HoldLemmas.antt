-- What a hold and its end leave of a store.
use Rattle.std.proofs.Common.{◌≡◌, inl, inr, ℕ, ◌-◌, nat_le, ◌<◌, ◌≤◌, ◌+◌, Bool, true, false, not, ◌&&◌, ◌||◌, [], ◌∷◌, List, Option, Some, None, Ok, refl, sym, ◌∙◌, ap, subst, arith, IsSome}
use Rattle.std.proofs.lemmas.Bool.{false≢true}
use Rattle.std.proofs.lemmas.Bool.Decides.{nat_tests}
use Rattle.std.specs.Option.{option_map}
use Rattle.chip_trait.specs.Told.{Told}
use Rattle.ipl_base.specs.declared.fault.StoreFault.{StoreFault}
use Rattle.ipl_model.specs.State.{State}
use Rattle.ipl_model.specs.Refusals.{Test, first_of}
use Rattle.record_locks.proofs.CallLemmas.{passed}
use Rattle.slab.specs.Slab.{Slab}
use Rattle.buffer_pool.specs.declared.pool.Buffer.{Buffer}
use Rattle.buffer_pool.specs.Pools.{PoolView, IsThere}
use Rattle.buffer_pool.specs.Holding.{is_pinned, pinned_count, IsHeld, KeepsPins}
use Rattle.buffer_pool.specs.Laws.{buffer_of, TellsBuffers}
use Rattle.store_laws.specs.Frames.{Frames}
use Rattle.store_laws.specs.Advances.{memory_of, LeadsTo}
use Rattle.page_frames.specs.Views.{frame_in}
use Rattle.page_frames.specs.Pages.{tables_in, frames_in, KeepsFramed}
use Rattle.ipl_store.specs.declared.store.Store.{Store}
use Rattle.ipl_store.specs.Calls.{memory_of_store, is_held, bad_page, holds_full, not_held, refuses_hold, refuses_release, KeepsHolds, Calls}
use Rattle.ipl_store.specs.Shown.{HoldsAlso, IsRepooled}

-- ---- frames

-- a page in a frame has a buffer
pub there_in : (buffers : Slab Buffer) → TellsBuffers buffers → (u page : ℕ)
    → IsSome (option_map frame_in (buffer_of buffers u page)) → IsThere buffers u page
there_in buffers tells u page some = by_buffer (buffer_of buffers u page) refl some
  where
    by_buffer : (o : Option Buffer) → buffer_of buffers u page ≡ o
        → IsSome (option_map frame_in o) → IsThere buffers u page
    by_buffer None is some = absurd (cc some)
    by_buffer (Some b) is some =
        let (key, stored, unit, its_page) = tells.stands u page b is in record {
          key = key;
          has = record { buffer = b; stored = stored; unit_is = unit; page_is = its_page };
        }

-- ---- pages that are held

pub held_on : (old new : PoolView) → KeepsPins old new → (v q : ℕ) → IsHeld old.buffers v q
    → IsHeld new.buffers v q
held_on old new keeps v q held =
    let pins = keeps.stay held.key held.buffer held.stored held.pinned in record {
      key = held.key;
      buffer = pins.buffer;
      stored = pins.stored;
      unit_is = pins.unit_is ∙ held.unit_is;
      page_is = pins.page_is ∙ held.page_is;
      pinned = subst (λ (n : ℕ). 0 < n) (sym pins.pins_is) held.pinned;
    }

pub held_before : (old new : PoolView) → KeepsPins old new → (v q : ℕ) → IsHeld new.buffers v q
    → IsHeld old.buffers v q
held_before old new keeps v q held =
    let pins = keeps.before held.key held.buffer held.stored held.pinned in record {
      key = held.key;
      buffer = pins.buffer;
      stored = pins.stored;
      unit_is = pins.unit_is ∙ held.unit_is;
      page_is = pins.page_is ∙ held.page_is;
      pinned = subst (λ (n : ℕ). 0 < n) (sym pins.pins_is) held.pinned;
    }

-- after a call that keeps them, one more is held
pub holds_then : (old mid new : Store) (u page : ℕ) → KeepsHolds old mid
    → HoldsAlso mid u page new → HoldsAlso old u page new
holds_then old mid new u page keeps also v q =
    let before = old.transactions.pages.pool in
    let between = mid.transactions.pages.pool in (
      λ held. elim ((also v q).0 held) [
        | inl was ↦ inl (held_before before between keeps v q was)
        | inr this ↦ inr this
      ],
      λ either. elim either [
        | inl was ↦ (also v q).1 (inl (held_on before between keeps v q was))
        | inr this ↦ (also v q).1 (inr this)
      ],
    )

-- pages stay in their frames where the pool alone changed
pub repooled_framed : (old new : Store) → IsRepooled old new
    → KeepsFramed old.transactions.pages new.transactions.pages
repooled_framed old new is u page there =
    subst (λ (f : Frames). IsSome (f u page)) (sym is.frames) there

-- a page that is held is in a frame
pub held_framed : (pool : PoolView) (u page : ℕ) → is_held pool u page ≡ true
    → IsSome (option_map frame_in (buffer_of pool.buffers u page))
held_framed pool u page held = by_buffer (buffer_of pool.buffers u page) refl held
  where
    by_buffer : (o : Option Buffer) → buffer_of pool.buffers u page ≡ o → is_pinned o ≡ true
        → IsSome (option_map frame_in o)
    by_buffer None is pinned = absurd (false≢true pinned)
    by_buffer (Some b) is pinned = refl

-- a page that is held already
pub holds_again : (store : Store) (u page : ℕ)
    → IsHeld store.transactions.pages.pool.buffers u page → HoldsAlso store u page store
holds_again store u page held v q = (
  λ is. inl is,
  λ either. elim either [
    | inl is ↦ is
    | inr (unit, its_page) ↦ record {
      key = held.key;
      buffer = held.buffer;
      stored = held.stored;
      unit_is = held.unit_is ∙ sym unit;
      page_is = held.page_is ∙ sym its_page;
      pinned = held.pinned;
    }
  ],
)

-- ---- what isn't refused

neither : (a b : Bool) → (a || b) ≡ false → (a ≡ false) × (b ≡ false)
neither true b fine = absurd (false≢true (sym fine))
neither false b fine = (refl, fine)

-- there is such a page
pub passed_page : (units u page : ℕ) (rest : List Test)
    → first_of (bad_page units u page ∷ rest) ≡ None
    → (u < units) × (page < 15) × (first_of rest ≡ None)
passed_page units u page rest none =
    let (fine, then) = passed (bad_page units u page) rest none in
    let (low, few) = neither (nat_le units u) (nat_le 15 page) fine in
    let in_units : nat_le units u ≡ false = low in
    let in_pages : nat_le 15 page ≡ false = few in
    (grind (arith, nat_tests), grind (arith, nat_tests), then)

not_full : (held : Bool) (full : Bool) → (not held && full) ≡ false → held ≡ false → full ≡ false
not_full true full fine is = absurd (false≢true (sym is))
not_full false full fine is = fine

-- one more may be held
pub passed_hold : (units : ℕ) (pool : PoolView) (u page : ℕ) → 2 ≤ pool.limit
    → refuses_hold units pool u page ≡ None → is_held pool u page ≡ false
    → pinned_count pool.buffers + 1 < pool.limit
passed_hold units pool u page two none free =
    let (low, few, rest) = passed_page units u page (holds_full pool u page ∷ []) none in
    let room = (passed (holds_full pool u page) [] rest).0 in
    let spare : nat_le (pool.limit - 1) (pinned_count pool.buffers) ≡ false =
    not_full (is_held pool u page) (nat_le (pool.limit - 1) (pinned_count pool.buffers)) room free
    in grind (arith, nat_tests)

not_not : (b : Bool) → not b ≡ false → b ≡ true
not_not true fine = refl
not_not false fine = absurd (false≢true (sym fine))

-- it is held
pub passed_release : (units : ℕ) (pool : PoolView) (u page : ℕ)
    → refuses_release units pool u page ≡ None → (page < 15) × (is_held pool u page ≡ true)
passed_release units pool u page none =
    let (low, few, rest) = passed_page units u page (not_held pool u page ∷ []) none in
    (few, not_not (is_held pool u page) (passed (not_held pool u page) [] rest).0)

-- ---- calls

-- the pool alone changed after a call
pub repooled_calls : (early : Option StoreFault) (next : State → State) (most : ℕ)
    (old : Store) (before : Told) (mid new : Store) (after : Told) → early ≡ None
    → IsRepooled mid new
    → Calls {T = Unit {0}} early next most old before (Ok tt) mid after
    → Calls {T = Unit {0}} early next most old before (Ok tt) new after
repooled_calls early next most old before mid new after none pool calls =
    subst (λ (s : Store). Calls {T = Unit {0}} early next most old before (Ok tt) s after)
    (sym pool.rest) (record {
      refuses = λ fault is. let no : None ≡ Some fault = sym none ∙ is in absurd (cc no);
      serves = λ let_in.
          let did = calls.serves let_in in record {
            leads = subst (λ (f : Frames). LeadsTo {T = Unit {0}} {E = StoreFault} next
                (memory_of_store old) before (Ok tt)
                (memory_of (tables_in mid.transactions.pages) f mid.transactions.sessions) after)
                (sym same) did.leads;
            ends = did.ends;
            counted = did.counted;
            least = did.least;
            drawn = did.drawn;
            complete = did.complete;
            faults = λ x told it state fits. tt;
          };
      sound = record {
        made = record {
          geometry = calls.sound.made.geometry;
          units = calls.sound.made.units;
          scratch = calls.sound.made.scratch;
          directory = calls.sound.made.directory;
          overflow = calls.sound.made.overflow;
          room = calls.sound.made.room;
          frames = calls.sound.made.frames ∙ sym pool.limit;
          two = calls.sound.made.two;
        };
        order = λ up.
            let was = calls.sound.order up in record {
              ready = record {
                known = was.ready.known;
                within = λ u page f there. was.ready.within u page f
                    (ap (λ (g : Frames). g u page) (sym same) ∙ there);
                rest = pool.at_rest;
              };
              active = was.active;
            };
        count = calls.sound.count;
      };
      units = calls.units;
      sessions = calls.sessions;
      numbers = calls.numbers;
      tidy = calls.tidy;
      wears = calls.wears;
      counts = calls.counts;
    })
  where
    same : frames_in new.transactions.pages ≡ frames_in mid.transactions.pages
    same = pool.frames
