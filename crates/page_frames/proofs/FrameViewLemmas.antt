-- The frames of a pool, after its calls.
use Rattle.std.proofs.Common.{◌≡◌, ℕ, true, ◌&&◌, eqb, Option, Some, None, inl, inr, refl, sym, ◌∙◌, ap, ap₂}
use Rattle.std.specs.Option.{option_map}
use Rattle.std.proofs.lemmas.Bool.{cases_Bool, and_parts, eqb-true, eq-eqb}
use Rattle.std.proofs.Math.Path.{fun_ext}
use Rattle.buffer_pool.specs.declared.pool.Buffer.{Buffer}
use Rattle.buffer_pool.specs.Pools.{PoolView, HasPage, AreOnce, new_buffer, with_buffers}
use Rattle.buffer_pool.specs.Lending.{changed_at}
use Rattle.buffer_pool.specs.Laws.{buffer_of, with_buffer}
use Rattle.buffer_pool.proofs.BufferLemmas.{buffer_found, brings_add_a_buffer, evicts_take_a_buffer, pins_change_a_buffer, loans_change_a_buffer}
use Rattle.store_laws.specs.Frames.{PageFrame, Frames, with_frame_at}
use Rattle.page_frames.specs.Views.{frame_in, frames_of}
use Rattle.page_frames.specs.FrameLaws.{BringsAddAFrame, EvictionsTakeAFrame, PinsKeepFrames, LoansChangeAFrame}

-- ---- a page's frame among the others

both_eqb : (v u q page : ℕ) → v ≡ u → q ≡ page → (eqb v u && eqb q page) ≡ true
both_eqb v u q page unit of = rw (eq-eqb v u unit, eq-eqb q page of) refl

pub frame_here : (frames : Frames) (u page : ℕ) (o : Option PageFrame)
    → with_frame_at frames u page o u page ≡ o
frame_here frames u page o = rw (both_eqb u u page page refl refl) refl

pub frame_elsewhere : (frames : Frames) (u page v q : ℕ) (o : Option PageFrame)
    → (v ≡ u → q ≡ page → ⊥) → with_frame_at frames u page o v q ≡ frames v q
frame_elsewhere frames u page v q o other = elim (cases_Bool (eqb v u && eqb q page)) [
  | inl same ↦
      let (unit, of) = and_parts _ _ same in
      absurd (other (eqb-true v u unit) (eqb-true q page of))
  | inr differs ↦ rw differs refl
]

-- the last one stays
pub put_again : (frames : Frames) (u page : ℕ) (a b : Option PageFrame)
    → with_frame_at (with_frame_at frames u page a) u page b ≡ with_frame_at frames u page b
put_again frames u page a b =
    fun_ext (λ v. fun_ext (λ q. elim (cases_Bool (eqb v u && eqb q page)) [
      | inl same ↦ rw same refl
      | inr differs ↦ rw differs refl
    ]))

-- the frame that a page has already
pub put_same : (frames : Frames) (u page : ℕ) (o : Option PageFrame) → frames u page ≡ o
    → with_frame_at frames u page o ≡ frames
put_same frames u page o is =
    fun_ext (λ v. fun_ext (λ q. elim (cases_Bool (eqb v u && eqb q page)) [
      | inl same ↦
          let (unit, of) = and_parts _ _ same in
          rw same (sym (ap₂ frames (eqb-true v u unit) (eqb-true q page of) ∙ is))
      | inr differs ↦ rw differs refl
    ]))

-- ---- buffers and frames

-- where a page's buffer is another, its frame is
frames_with : (old new : PoolView) (u page : ℕ) (o : Option Buffer)
    → buffer_of new.buffers ≡ with_buffer (buffer_of old.buffers) u page o
    → frames_of new ≡ with_frame_at (frames_of old) u page (option_map frame_in o)
frames_with old new u page o same =
    fun_ext (λ v. fun_ext (λ q.
    ap (λ (buffers : ℕ → ℕ → Option Buffer). option_map frame_in (buffers v q)) same ∙ seen v q))
  where
    seen : (v q : ℕ) → option_map frame_in (with_buffer (buffer_of old.buffers) u page o v q)
        ≡ with_frame_at (frames_of old) u page (option_map frame_in o) v q
    seen v q = elim (cases_Bool (eqb v u && eqb q page)) [
      | inl is ↦ rw is refl
      | inr other ↦ rw other refl
    ]

pub brings_add_a_frame : BringsAddAFrame
brings_add_a_frame old new unit page key once absent empty did =
    frames_with old new unit page (Some (new_buffer unit page old.clock))
    (brings_add_a_buffer old.buffers new.buffers unit page key old.clock once absent empty did)

pub evictions_take_a_frame : EvictionsTakeAFrame
evictions_take_a_frame old new unit page key once has did =
    frames_with old new unit page None
    (evicts_take_a_buffer old.buffers new.buffers unit page key once has did)

-- the frame that a page has
pub frame_found : (p : PoolView) (u page key : ℕ) → AreOnce p.buffers
    → (has : HasPage p.buffers u page key) → frames_of p u page ≡ Some (frame_in has.buffer)
frame_found p u page key once has =
    ap (option_map frame_in) (buffer_found p.buffers u page key has.buffer once has.stored has)

-- the page of a buffer by another name
of_page : (f : ℕ → ℕ → Option Buffer) (u page v q : ℕ) (o : Option Buffer) → v ≡ u → q ≡ page
    → with_buffer f v q o ≡ with_buffer f u page o
of_page f u page v q o unit of = ap₂ (λ (a b : ℕ). with_buffer f a b o) unit of

pub pins_keep_frames : PinsKeepFrames
pins_keep_frames old new unit page key change once has keeps did =
    let was = has.buffer in
    let keep = keeps was in
    frames_with old new unit page (Some (change was))
    (pins_change_a_buffer old.buffers new.buffers key change was once has.stored keep.page did
    ∙ of_page (buffer_of old.buffers) unit page was.unit was.page (Some (change was)) has.unit_is
    has.page_is)
    ∙ ap (λ (f : PageFrame). with_frame_at (frames_of old) unit page (Some f)) keep.frame
    ∙ put_same (frames_of old) unit page (Some (frame_in was))
    (frame_found old unit page key once has)

pub loans_change_a_frame : LoansChangeAFrame
loans_change_a_frame p unit page key change once has same =
    let was = has.buffer in
    frames_with p (with_buffers p (changed_at p.buffers key change)) unit page (Some (change was))
    (loans_change_a_buffer p.buffers key change was once has.stored same
    ∙ of_page (buffer_of p.buffers) unit page was.unit was.page (Some (change was)) has.unit_is
    has.page_is)
