-- Pages that stay in their frames.
use Rattle.std.proofs.Common.{◌≡◌, ℕ, [], Option, Some, None, Result, Ok, Err, inl, inr, refl, sym, subst}
use Rattle.std.specs.Prelude.{IsSome}
use Rattle.std.specs.Option.{option_map}
use Rattle.ipl_base.specs.declared.fault.ChipFault.{ChipFault}
use Rattle.buffer_pool.specs.Pools.{PoolView}
use Rattle.page_frames.specs.Views.{frames_of}
use Rattle.store_laws.specs.Frames.{PageFrame, Frames, with_frame_at, with_frame_log}
use Rattle.store_laws.proofs.MemoryLemmas.{cases_page}
use Rattle.store_laws.proofs.SameLemmas.{frame_here, frame_other}
use Rattle.page_frames.specs.declared.pages.Pages.{Pages}
use Rattle.page_frames.specs.Pages.{frames_in, KeepsFramed, BringsPage, emptied}

-- where the frames are the same
pub pool_framed : (old new : Pages) → new.pool ≡ old.pool → KeepsFramed old new
pool_framed old new same u page is =
    subst (λ (p : PoolView). IsSome (frames_of p u page)) (sym same) is

-- a page whose records are written out, and all others
emptied_framed : (frames : Frames) (u page v q : ℕ) → IsSome (frames v q)
    → IsSome (emptied frames u page v q)
emptied_framed frames u page v q is = elim (cases_page u page v q) [
  | inl here ↦ subst IsSome (sym (frame_here frames u page _ v q here.0 here.1))
      (mapped (frames u page) (subst (λ (r : ℕ). IsSome (frames u r)) here.1
      (subst (λ (w : ℕ). IsSome (frames w q)) here.0 is)))
  | inr apart ↦ subst IsSome (sym (frame_other frames u page _ v q apart)) is
]
  where
    mapped : (o : Option PageFrame) → IsSome o → IsSome (option_map (λ f. with_frame_log f []) o)
    mapped None none = none
    mapped (Some f) some = refl

pub out_framed : (u page : ℕ) (old new : Pages) → frames_in new ≡ emptied (frames_in old) u page
    → KeepsFramed old new
out_framed u page old new is v q there =
    subst (λ (frames : Frames). IsSome (frames v q)) (sym is)
    (emptied_framed (frames_in old) u page v q there)

-- a page that is in a frame then, whatever was there, and all others
pub set_framed : (u page : ℕ) (f : PageFrame) (old new : Pages)
    → frames_in new ≡ with_frame_at (frames_in old) u page (Some f) → KeepsFramed old new
set_framed u page f old new is v q there =
    subst (λ (frames : Frames). IsSome (frames v q)) (sym is) (elim (cases_page u page v q) [
      | inl here ↦ subst IsSome
          (sym (frame_here (frames_in old) u page (Some f) v q here.0 here.1)) refl
      | inr apart ↦ subst IsSome
          (sym (frame_other (frames_in old) u page (Some f) v q apart)) there
    ])

-- a page that was brought in, or wasn't
pub brings_framed : (result : Result (Unit {0}) ChipFault) (u page : ℕ) (old new : Pages)
    → BringsPage result u page (frames_in old) (frames_in new) → KeepsFramed old new
brings_framed (Ok v) u page old new (f, empty, is) = set_framed u page f old new is
brings_framed (Err e) u page old new same = λ v q there.
    subst (λ (frames : Frames). IsSome (frames v q)) (sym same) there
