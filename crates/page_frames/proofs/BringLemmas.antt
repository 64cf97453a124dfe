-- A page that was brought in, and room for its next record.
use Rattle.std.proofs.Common.{◌≡◌, ◌≤◌, ℕ, [], Some, Result, Ok, Err, OnOk, refl, sym, ◌∙◌, ap, subst, arith}
use Rattle.std.specs.Prelude.{IsSome}
use Rattle.std.specs.Option.{option_map}
use Rattle.ipl_base.specs.declared.fault.ChipFault.{ChipFault}
use Rattle.ipl_format.specs.Record.{Record}
use Rattle.ipl_meaning.specs.Last.{size_of, size_of_all}
use Rattle.store_laws.specs.Frames.{Frames, with_frame_log}
use Rattle.store_laws.proofs.SameLemmas.{frame_here}
use Rattle.page_frames.specs.Changes.{MayPut}
use Rattle.page_frames.specs.declared.pages.Pages.{Pages}
use Rattle.page_frames.specs.Pages.{frames_in, IsFramed, IsCleanFrame, KeepsValues, BringsPage, frames_after}
use Rattle.page_frames.proofs.HeldLemmas.{some_of}

-- done, the page has no records in memory
pub brings_fresh : (result : Result (Unit {0}) ChipFault) (u page : ℕ) (old new : Pages)
    → BringsPage result u page (frames_in old) (frames_in new) → OnOk result (IsCleanFrame new u page)
brings_fresh (Ok v) u page old new (f, empty, is) = (
  f,
  ap (λ (F : Frames). F u page) is ∙ frame_here (frames_in old) u page (Some f) u page refl refl,
  empty,
)
brings_fresh (Err e) u page old new same = tt

-- so that one record fits
pub fits_fresh : (new : Pages) (u : ℕ) (r : Record) → size_of r ≤ 476 → IsCleanFrame new u r.page
    → MayPut (frames_in new) u r
fits_fresh new u r short (f, there, empty) = record {
  frame = f;
  there = there;
  fits = let all = ap size_of_all empty in omega (arith, all, short);
}

-- and where the page's records were written out
pub out_fresh : (result : Result (Unit {0}) ChipFault) (u page : ℕ) (old new : Pages)
    → IsSome (frames_in old u page)
    → frames_in new ≡ frames_after result (frames_in old) u page → OnOk result (IsCleanFrame new u page)
out_fresh (Ok v) u page old new there is =
    let (f, was) = some_of (frames_in old u page) there in (
      with_frame_log f [],
      ap (λ (F : Frames). F u page) is
          ∙ (frame_here (frames_in old) u page _ u page refl refl
          ∙ ap (option_map (λ g. with_frame_log g [])) was),
      refl,
    )
out_fresh (Err e) u page old new there is = tt

-- ---- values

-- a page's frame has its values after calls that keep all frames
pub same_values : (u page : ℕ) (old new : Pages) → frames_in new ≡ frames_in old
    → KeepsValues u page old new
same_values u page old new same f there = (f, ap (λ (F : Frames). F u page) same ∙ there, refl)

-- and after its records were written out
pub out_values : (result : Result (Unit {0}) ChipFault) (u page : ℕ) (old used new : Pages)
    → frames_in used ≡ frames_in old → frames_in new ≡ frames_after result (frames_in used) u page
    → OnOk result (KeepsValues u page old new)
out_values (Ok v) u page old used new same is = λ f there. (
  with_frame_log f [],
  ap (λ (F : Frames). F u page) is
      ∙ (frame_here (frames_in used) u page _ u page refl refl
      ∙ ap (option_map (λ g. with_frame_log g [])) (ap (λ (F : Frames). F u page) same ∙ there)),
  refl,
)
out_values (Err e) u page old used new same is = tt

-- a page that was in no frame had none
pub no_values : (result : Result (Unit {0}) ChipFault) (u page : ℕ) (old new : Pages)
    → ¬ IsFramed old u page → OnOk result (KeepsValues u page old new)
no_values (Ok v) u page old new absent = λ f there. absurd (absent (subst IsSome (sym there) refl))
no_values (Err e) u page old new absent = tt
