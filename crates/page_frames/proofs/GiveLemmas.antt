-- Frames that are freed, taken and given from one page to another.
use Rattle.std.proofs.Common.{◌≡◌, ◌<◌, ℕ, [], Some, None, IsSome, Ok, refl, sym, ◌∙◌, ap, subst, arith}
use Rattle.slab.specs.Slab.{slab_len}
use Rattle.chip_trait.specs.Told.{Told}
use Rattle.buffer_pool.specs.declared.pool.Pin.{Pin}
use Rattle.buffer_pool.specs.Pools.{PoolView, HasPage, AreOnce, Changes, IsAbsent, IsSoundPool, new_buffer, without_pin}
use Rattle.buffer_pool.specs.Passes.{LeavesFrame, ComesIn}
use Rattle.buffer_pool.specs.Uses.{used_of, CountsNoUse, IsUsedFirst}
use Rattle.buffer_pool.proofs.HoldingLemmas.{brings_keep, evictions_keep, nothing_keeps}
use Rattle.buffer_pool.proofs.UseLemmas.{brings_count_no_other, changes_keep_uses, evictions_count_no_use, kept_uses_are_last, same_counts}
use Rattle.page_frames.specs.Views.{frame_in, frames_of}
use Rattle.page_frames.proofs.FrameViewLemmas.{brings_add_a_frame, evictions_take_a_frame, pins_keep_frames}
use Rattle.store_laws.specs.Frames.{Frames, logs_of}
use Rattle.page_frames.specs.declared.pages.Pages.{Pages}
use Rattle.page_frames.specs.Frames.{FreesFrame, Gives, IsVictimFor, IsUnheld, MayGive, TakesFrame, Victim}
use Rattle.page_frames.specs.Pages.{ArePagesReady, Upholds}
use Rattle.page_frames.specs.Filling.{with_pool}
use Rattle.page_frames.proofs.FrameLemmas.{evicted_none}
use Rattle.page_frames.proofs.HeldLemmas.{absent_in, unheld_frame, unheld_log, unheld_may_leave}
use Rattle.page_frames.proofs.LeaveLemmas.{gone_upholds}
use Rattle.page_frames.proofs.UpholdLemmas.{upholds_none}
use Rattle.page_frames.proofs.UseLemmas.{freed_page}

-- a page that isn't held leaves its frame
pub leaves_frees : (old new : PoolView) (u page : ℕ) → IsSoundPool old → IsUnheld old u page
    → logs_of (frames_of old) u page ≡ [] → LeavesFrame old new u page → FreesFrame old new u page
leaves_frees old new u page sound unheld empty did = record {
  frames = evictions_take_a_frame old new u page did.key sound.once did.has did.buffers;
  free = let holds = sound.holds in omega (arith, holds, did.len, did.limit);
  uses = evictions_count_no_use old new u page did.key sound.once did.has did.buffers;
  pins = evictions_keep old new u page did.key
      (unheld_may_leave old u page sound.once unheld empty) did.has did.buffers did.limit;
}

-- a page comes into a free frame, and its pin is given back
pub comes_takes : (old mid new : PoolView) (u page : ℕ) (pin : Pin) → AreOnce old.buffers
    → AreOnce mid.buffers → frames_of old u page ≡ None → ComesIn old mid u page pin
    → new.limit ≡ mid.limit → Changes mid.buffers new.buffers pin.key without_pin
    → TakesFrame old new u page
comes_takes old mid new u page pin once then_once none did limit unpins = record {
  frames = pins_keep_frames mid new u page pin.key without_pin then_once has
      (λ b. record { page = (refl, refl); frame = refl }) unpins
      ∙ brings_add_a_frame old mid u page pin.key once absent did.key did.buffers;
  unheld = record {
    key = pin.key;
    buffer = without_pin (new_buffer u page old.clock);
    stored = unpins.here (new_buffer u page old.clock) did.buffers.changed;
    unit_is = refl;
    page_is = refl;
    unpinned = refl;
  };
  others = λ v q used apart now.
      brings_count_no_other old mid u page pin.key old.clock once absent did.key did.buffers v q used
      apart (same_counts u page mid new same v q used apart now);
  last = kept_uses_are_last mid new u page same did.last;
  pins = brings_keep old mid mid new u page pin.key did.key did.counts.limit did.buffers
      (nothing_keeps mid) limit unpins;
}
  where
    absent : IsAbsent old.buffers u page
    absent = absent_in old u page once none

    has : HasPage mid.buffers u page pin.key
    has = record {
      buffer = new_buffer u page old.clock;
      stored = did.buffers.changed;
      unit_is = refl;
      page_is = refl;
    }

    same : used_of new ≡ used_of mid
    same = changes_keep_uses mid new pin.key without_pin then_once
        (subst IsSome (sym did.buffers.changed) refl)
        (λ b. record { page = (refl, refl); used = refl }) unpins

-- a page that was in no frame is in none when another has left its frame
pub none_between : (old new : PoolView) (u page v q : ℕ) → FreesFrame old new u page
    → frames_of old v q ≡ None → frames_of new v q ≡ None
none_between old new u page v q did none =
    ap (λ (F : Frames). F v q) did.frames ∙ evicted_none (frames_of old) u page v q none

-- the page that gives its frame leaves each state as it was
pub gives_upholds : (victim : Victim) (mid : Pages) (between : PoolView) (t : Told)
    → AreOnce mid.pool.buffers → ArePagesReady t.places mid → MayGive mid.pool victim
    → Gives victim mid.pool between
    → Upholds {T = Unit {0}} 0 mid t (Ok tt) (with_pool mid between) t
gives_upholds None mid between t once ready may gives =
    subst (λ (p : PoolView). Upholds {T = Unit {0}} 0 mid t (Ok tt) (with_pool mid p) t) (sym gives)
    (upholds_none 0 mid t ready)
gives_upholds (Some v) mid between t once ready may gives =
    let unheld : IsUnheld mid.pool v.0 v.1 = may.1 in
    gone_upholds v.0 v.1 (frame_in unheld.buffer) mid (with_pool mid between) t ready refl
    (unheld_frame mid.pool v.0 v.1 once unheld)
    (sym (unheld_log mid.pool v.0 v.1 once unheld) ∙ may.2) gives.frames gives.pins

-- a page that is in no frame is in none then
pub gives_none : (victim : Victim) (old between : PoolView) (u page : ℕ) → Gives victim old between
    → frames_of old u page ≡ None → frames_of between u page ≡ None
gives_none None old between u page gives none =
    ap (λ (p : PoolView). frames_of p u page) gives ∙ none
gives_none (Some v) old between u page gives none =
    none_between old between v.0 v.1 u page gives none

-- that is no use of a page
pub gives_count_no_use : (victim : Victim) (old between : PoolView) → Gives victim old between
    → CountsNoUse old between
gives_count_no_use None old between gives v q used now =
    ap (λ (p : PoolView). used_of p v q) (sym gives) ∙ now
gives_count_no_use (Some w) old between gives v q used now = gives.uses v q used now

-- a page that left its frame is the one that was chosen
pub left_first : (victim : Victim) (old mid between : PoolView) (v q : ℕ) → IsVictimFor old victim
    → Gives victim mid between → IsSome (frames_of mid v q) → (IsSome (frames_of between v q) → ⊥)
    → IsUsedFirst old v q
left_first None old mid between v q chosen gives there gone =
    absurd (gone (subst (λ (p : PoolView). IsSome (frames_of p v q)) (sym gives) there))
left_first (Some w) old mid between v q chosen gives there gone =
    let this = freed_page (frames_of mid) (frames_of between) w.0 w.1 v q gives.frames there gone in
    subst (λ (u : ℕ). IsUsedFirst old u q) (sym this.0)
    (subst (λ (r : ℕ). IsUsedFirst old w.0 r) (sym this.1) chosen.3)

-- where a frame is free, none was chosen
pub free_is_chosen : (victim : Victim) (p : PoolView) → IsVictimFor p victim
    → slab_len p.buffers < p.limit → victim ≡ None
free_is_chosen None p chosen free = refl
free_is_chosen (Some v) p chosen free = let full = chosen.0 in absurd (omega (arith, full, free))

pub given_none : (victim : Victim) (old between : PoolView) → victim ≡ None
    → Gives victim old between → between ≡ old
given_none victim old between none gives =
    subst (λ (v : Victim). Gives v old between) none gives
