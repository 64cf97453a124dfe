-- What a caller knows of its pins and pages after the calls.
use Rattle.std.proofs.Common.{◌≡◌, ◌≢◌, ℕ, ◌<◌, ◌+◌, List, [], Some, None, refl, sym, ◌∙◌, ap, inl, inr, arith}
use Rattle.std.proofs.lemmas.Bool.{cases_eq}
use Rattle.ipl_format.specs.Record.{Record}
use Rattle.slab.specs.Slab.{Slab, get, Updates}
use Rattle.page_ops.specs.Frames.{FrameView}
use Rattle.buffer_pool.specs.declared.pool.Buffer.{Buffer}
use Rattle.buffer_pool.specs.declared.pool.Pin.{Pin}
use Rattle.buffer_pool.specs.Pools.{PoolView, AreOnce, IsPinned, Changes, MayLeave, MayPin, new_buffer, without_pin}
use Rattle.buffer_pool.specs.Lending.{changed_at, with_frame, with_log}
use Rattle.buffer_pool.specs.Laws.{SamePage}
use Rattle.buffer_pool.specs.Holding.{pinned_count, IsAtRest, KeepsPins}
use Rattle.buffer_pool.proofs.IndexLemmas.{some_is, no_some}
use Rattle.buffer_pool.proofs.HoldingLemmas.{empty_rests, as_many, rest_stays}
use Rattle.buffer_pool.proofs.LentLemmas.{changed_is}

-- ---- pins

-- a page that was brought in is pinned
pub pinned_brought : (old new : Slab Buffer) (pin : Pin) (unit page clock : ℕ)
    → (pin.unit ≡ unit) × (pin.page ≡ page)
    → Updates old new pin.key (Some (new_buffer unit page clock)) → IsPinned new pin
pinned_brought old new pin unit page clock of did = record {
  buffer = new_buffer unit page clock;
  stored = did.changed;
  unit_is = sym of.0;
  page_is = sym of.1;
  held = omega arith;
}

-- a pin holds while its buffer stays
pub pinned_same : (old new : Slab Buffer) (pin : Pin) → IsPinned old pin
    → get new pin.key ≡ get old pin.key → IsPinned new pin
pinned_same old new pin is same = record {
  buffer = is.buffer;
  stored = same ∙ is.stored;
  unit_is = is.unit_is;
  page_is = is.page_is;
  held = is.held;
}

-- a key that has a pin isn't one that has nothing
pub pinned_apart : (buffers : Slab Buffer) (pin : Pin) (key : ℕ) → IsPinned buffers pin
    → get buffers key ≡ None → pin.key ≢ key
pinned_apart buffers pin key is none same =
    no_some is.buffer (sym none ∙ ap (get buffers) (sym same) ∙ is.stored)

-- a pin holds whatever is written through a part of a pinned page's buffer that was lent
pinned_lent : (buffers : Slab Buffer) (lent pin : Pin) (change : Buffer → Buffer)
    → ((b : Buffer) → SamePage (change b) b × ((change b).pins ≡ b.pins))
    → IsPinned buffers lent → IsPinned buffers pin → IsPinned (changed_at buffers lent.key change) pin
pinned_lent buffers lent pin change keeps at is = elim (cases_eq pin.key lent.key) [
  | inl same ↦
      let there = ap (get buffers) (sym same) ∙ is.stored in
      let did = changed_is buffers lent.key change is.buffer there in
      let held = is.held in
      record {
        buffer = change is.buffer;
        stored = ap (get (changed_at buffers lent.key change)) same ∙ did.changed;
        unit_is = (keeps is.buffer).0.0 ∙ is.unit_is;
        page_is = (keeps is.buffer).0.1 ∙ is.page_is;
        held = omega (arith, held, (keeps is.buffer).1);
      }
  | inr other ↦
      pinned_same buffers (changed_at buffers lent.key change) pin is
      ((changed_is buffers lent.key change at.buffer at.stored).others pin.key other)
]

pub pinned_frame : (buffers : Slab Buffer) (lent pin : Pin) (frame : FrameView)
    → IsPinned buffers lent → IsPinned buffers pin
    → IsPinned (changed_at buffers lent.key (with_frame frame)) pin
pinned_frame buffers lent pin frame at is =
    pinned_lent buffers lent pin (with_frame frame) (λ b. ((refl, refl), refl)) at is

pub pinned_log : (buffers : Slab Buffer) (lent pin : Pin) (log : List Record)
    → IsPinned buffers lent → IsPinned buffers pin
    → IsPinned (changed_at buffers lent.key (with_log log)) pin
pinned_log buffers lent pin log at is =
    pinned_lent buffers lent pin (with_log log) (λ b. ((refl, refl), refl)) at is

-- ---- pages

-- a page that has this buffer may leave, where that has no pin and no records
pub may_leave : (buffers : Slab Buffer) (unit page key : ℕ) (b : Buffer) → AreOnce buffers
    → get buffers key ≡ Some b → b.unit ≡ unit → b.page ≡ page → b.pins ≡ 0 → b.log ≡ []
    → MayLeave buffers unit page
may_leave buffers unit page key b once there unit_is page_is none empty = λ other c stored u p.
    let same : other ≡ key = once unit page other key
    (record { buffer = c; stored = stored; unit_is = u; page_is = p })
    (record { buffer = b; stored = there; unit_is = unit_is; page_is = page_is }) in
    let one : c ≡ b = some_is c b (sym stored ∙ ap (get buffers) same ∙ there) in
    (ap (λ (x : Buffer). x.pins) one ∙ none, ap (λ (x : Buffer). x.log) one ∙ empty)

-- so a page that was brought in, once its pin is given back
pub brought_may_leave : (old now new : Slab Buffer) (pin : Pin) (unit page clock : ℕ)
    → Updates old now pin.key (Some (new_buffer unit page clock))
    → Changes now new pin.key without_pin → AreOnce new → MayLeave new unit page
brought_may_leave old now new pin unit page clock brought given once =
    let b = new_buffer unit page clock in
    may_leave new unit page pin.key (without_pin b) once (given.here b brought.changed) refl refl refl
    refl

-- and one may be pinned, where that has few
pub may_pin : (buffers : Slab Buffer) (unit page key : ℕ) (b : Buffer) → AreOnce buffers
    → get buffers key ≡ Some b → b.unit ≡ unit → b.page ≡ page → b.pins < 4294967295
    → MayPin buffers unit page
may_pin buffers unit page key b once there unit_is page_is few = λ other c stored u p.
    let same : other ≡ key = once unit page other key
    (record { buffer = c; stored = stored; unit_is = u; page_is = p })
    (record { buffer = b; stored = there; unit_is = unit_is; page_is = page_is }) in
    let one : c ≡ b = some_is c b (sym stored ∙ ap (get buffers) same ∙ there) in
    omega (arith, few, ap (λ (x : Buffer). x.pins) one)

-- ---- a pool at rest

-- a new pool of two frames, once pages were brought in and their pins given back
pub rests_then : (p q : PoolView) → p.buffers.slots ≡ [] → p.limit ≡ 2 → KeepsPins p q
    → (pinned_count q.buffers + 1 < q.limit) × IsAtRest q
rests_then p q empty two keeps =
    let (none, rest) = empty_rests p empty (omega (arith, two)) in
    let limit = keeps.limit in
    (omega (arith, none, two, limit, as_many p q keeps), rest_stays p q keeps rest)
