-- Frames of a pool that are taken and freed, and pages that nothing holds.
use Rattle.std.proofs.Common.{◌≡◌, ℕ, [], Option, Some, None, refl, sym, ◌∙◌, ap, inl, inr, arith}
use Rattle.std.specs.Prelude.{IsSome}
use Rattle.std.specs.Option.{option_map, option_map_or}
use Rattle.std.proofs.lemmas.Bool.{cases_eq, false≢true}
use Rattle.slab.specs.Slab.{get}
use Rattle.buffer_pool.specs.declared.pool.Buffer.{Buffer}
use Rattle.buffer_pool.specs.Pools.{PoolView, HasPage, IsThere, IsAbsent, AreOnce, MayLeave}
use Rattle.buffer_pool.specs.Holding.{KeepsPins}
use Rattle.buffer_pool.specs.Laws.{buffer_of}
use Rattle.buffer_pool.proofs.BufferLemmas.{buffers_are_told}
use Rattle.buffer_pool.proofs.CallerLemmas.{may_leave}
use Rattle.buffer_pool.proofs.IndexLemmas.{some_is}
use Rattle.store_laws.specs.Frames.{PageFrame, Frames, logs_of, with_frame_at}
use Rattle.page_frames.specs.Views.{frame_in, frames_of}
use Rattle.page_frames.proofs.FrameViewLemmas.{frame_here, frame_found}
use Rattle.page_frames.specs.Frames.{IsUnheld}

pub none_some : {X : Type 0} (x : X) → Some x ≡ None → ⊥
none_some x same = absurd (cc same)

pub some_of : {X : Type 0} (o : Option X) → IsSome o → (x : X) × (o ≡ Some x)
some_of None is = absurd (false≢true is)
some_of (Some x) is = (x, refl)

-- ---- pages and buffers

-- a page that has no frame is in no buffer
pub absent_in : (p : PoolView) (u page : ℕ) → AreOnce p.buffers → frames_of p u page ≡ None
    → IsAbsent p.buffers u page
absent_in p u page once none key has =
    none_some (frame_in has.buffer) (sym (frame_found p u page key once has) ∙ none)

-- one that has a frame is in one
pub framed_there : (p : PoolView) (u page : ℕ) → AreOnce p.buffers → IsSome (frames_of p u page)
    → IsThere p.buffers u page
framed_there p u page once some = by_buffer (buffer_of p.buffers u page) refl some
  where
    by_buffer : (o : Option Buffer) → buffer_of p.buffers u page ≡ o
        → IsSome (option_map frame_in o) → IsThere p.buffers u page
    by_buffer None is none = absurd (false≢true none)
    by_buffer (Some b) is there =
        let (key, stored, unit_is, page_is) = (buffers_are_told p.buffers once).stands u page b is in
        record {
          key = key;
          has = record { buffer = b; stored = stored; unit_is = unit_is; page_is = page_is };
        }

-- a page that nothing holds is in a buffer
abbrev pub unheld_page : (p : PoolView) (u page : ℕ) → (is : IsUnheld p u page)
    → HasPage p.buffers u page is.key
unheld_page p u page is = record {
  buffer = is.buffer;
  stored = is.stored;
  unit_is = is.unit_is;
  page_is = is.page_is;
}

pub unheld_frame : (p : PoolView) (u page : ℕ) → AreOnce p.buffers → (is : IsUnheld p u page)
    → frames_of p u page ≡ Some (frame_in is.buffer)
unheld_frame p u page once is = frame_found p u page is.key once (unheld_page p u page is)

-- its records are those of its frame
pub unheld_log : (p : PoolView) (u page : ℕ) → AreOnce p.buffers → (is : IsUnheld p u page)
    → logs_of (frames_of p) u page ≡ is.buffer.log
unheld_log p u page once is =
    ap (λ (o : Option PageFrame). option_map_or (λ f. f.log) o []) (unheld_frame p u page once is)

-- where it has none it may leave
pub unheld_may_leave : (p : PoolView) (u page : ℕ) → AreOnce p.buffers → IsUnheld p u page
    → logs_of (frames_of p) u page ≡ [] → MayLeave p.buffers u page
unheld_may_leave p u page once is empty =
    may_leave p.buffers u page is.key is.buffer once is.stored is.unit_is is.page_is is.unpinned
    (sym (unheld_log p u page once is) ∙ empty)

-- ---- what calls keep

-- a page that nothing held isn't held after a call that keeps the pins and its frame
pub still_unheld : (old new : PoolView) (u page : ℕ) (f : PageFrame) → AreOnce old.buffers
    → AreOnce new.buffers → KeepsPins old new → frames_of new u page ≡ Some f → IsUnheld old u page
    → IsUnheld new u page
still_unheld old new u page f once then_once pins there is =
    by_buffer (buffer_of new.buffers u page) refl
  where
    by_pins : (key : ℕ) (b : Buffer) → get new.buffers key ≡ Some b → b.unit ≡ u → b.page ≡ page
        → b.pins ≡ 0
    by_pins key b stored unit_is page_is = elim (cases_eq b.pins 0) [
      | inl none ↦ none
      | inr some ↦
          let was = pins.before key b stored (omega (arith, some)) in
          let same : key ≡ is.key = once u page key is.key
          (record {
            buffer = was.buffer;
            stored = was.stored;
            unit_is = was.unit_is ∙ unit_is;
            page_is = was.page_is ∙ page_is;
          }) (unheld_page old u page is) in
          let one : was.buffer ≡ is.buffer =
          some_is was.buffer is.buffer (sym was.stored ∙ (ap (get old.buffers) same ∙ is.stored)) in
          sym was.pins_is ∙ (ap (λ (x : Buffer). x.pins) one ∙ is.unpinned)
    ]

    by_buffer : (o : Option Buffer) → buffer_of new.buffers u page ≡ o → IsUnheld new u page
    by_buffer None none =
        absurd (none_some f (sym there ∙ ap (option_map frame_in) none))
    by_buffer (Some b) found =
        let (key, stored, unit_is, page_is) =
        (buffers_are_told new.buffers then_once).stands u page b found in record {
          key = key;
          buffer = b;
          stored = stored;
          unit_is = unit_is;
          page_is = page_is;
          unpinned = by_pins key b stored unit_is page_is;
        }

-- a buffer whose page has no records in memory
pub has_log : (p : PoolView) (u page key : ℕ) → AreOnce p.buffers
    → (has : HasPage p.buffers u page key) → logs_of (frames_of p) u page ≡ []
    → has.buffer.log ≡ []
has_log p u page key once has empty =
    sym (ap (λ (o : Option PageFrame). option_map_or (λ f. f.log) o [])
    (frame_found p u page key once has)) ∙ empty

-- after it was taken for a page that was in none, the frame has no records
pub taken_log : (old : Frames) (u page : ℕ) (f : PageFrame) → f.log ≡ []
    → logs_of (with_frame_at old u page (Some f)) u page ≡ []
taken_log old u page f empty =
    ap (λ (o : Option PageFrame). option_map_or (λ g. g.log) o []) (frame_here old u page (Some f))
    ∙ empty
