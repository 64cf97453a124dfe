-- Frames after a page's records were written out, and after it left its frame.
use Rattle.std.proofs.Common.{◌≡◌, ℕ, [], Option, Some, None, inl, inr, refl, sym, ◌∙◌, ap}
use Rattle.std.specs.Option.{option_map, option_map_or}
use Rattle.store_laws.specs.Frames.{PageFrame, Frames, logs_of, with_frame_at, with_frame_log}
use Rattle.store_laws.proofs.MemoryLemmas.{cases_page}
use Rattle.store_laws.proofs.SameLemmas.{frame_here, frame_other}
use Rattle.page_frames.specs.Pages.{emptied}

-- a page that has no frame, or no records there, has none to be written out
nothing_out : (o : Option PageFrame) → option_map_or (λ f. f.log) o [] ≡ []
    → option_map (λ f. with_frame_log f []) o ≡ o
nothing_out None none = refl
nothing_out (Some f) none = ap (λ l. Some (with_frame_log f l)) (sym none)

-- so the frames are as they were
pub emptied_same : (frames : Frames) (u page : ℕ) → logs_of frames u page ≡ []
    → emptied frames u page ≡ frames
emptied_same frames u page none = λ i v q. at v q i
  where
    at : (v q : ℕ) → emptied frames u page v q ≡ frames v q
    at v q = elim (cases_page u page v q) [
      | inl here ↦ frame_here frames u page _ v q here.0 here.1 ∙ (nothing_out (frames u page) none
          ∙ (ap (frames u) (sym here.1) ∙ ap (λ w. frames w q) (sym here.0)))
      | inr apart ↦ frame_other frames u page _ v q apart
    ]

-- a page in no frame is in none once another's records are written out
pub emptied_none : (frames : Frames) (u page v q : ℕ) → frames v q ≡ None
    → emptied frames u page v q ≡ None
emptied_none frames u page v q none = elim (cases_page u page v q) [
  | inl here ↦ frame_here frames u page _ v q here.0 here.1
      ∙ ap (option_map (λ f. with_frame_log f [])) (ap (frames u) (sym here.1)
      ∙ (ap (λ w. frames w q) (sym here.0) ∙ none))
  | inr apart ↦ frame_other frames u page _ v q apart ∙ none
]

-- a page that is in a frame then was in one
pub emptied_there : (frames : Frames) (u page v q : ℕ) (f : PageFrame)
    → emptied frames u page v q ≡ Some f → (g : PageFrame) × (frames v q ≡ Some g)
emptied_there frames u page v q f there = by_frame (frames v q) refl
  where
    by_frame : (o : Option PageFrame) → frames v q ≡ o → (g : PageFrame) × (frames v q ≡ Some g)
    by_frame (Some g) is = (g, is)
    by_frame None none =
        absurd (let clash = sym (emptied_none frames u page v q none) ∙ there in cc clash)

-- the page itself has no records in memory
pub emptied_out : (frames : Frames) (u page : ℕ) → logs_of (emptied frames u page) u page ≡ []
emptied_out frames u page =
    ap (λ (o : Option PageFrame). option_map_or (λ f. f.log) o [])
    (frame_here frames u page _ u page refl refl) ∙ no_records (frames u page)
  where
    no_records : (o : Option PageFrame)
        → option_map_or (λ f. f.log) (option_map (λ f. with_frame_log f []) o) [] ≡ []
    no_records None = refl
    no_records (Some f) = refl

-- a page in no frame is in none once another left its frame
pub evicted_none : (frames : Frames) (u page v q : ℕ) → frames v q ≡ None
    → with_frame_at frames u page None v q ≡ None
evicted_none frames u page v q none = elim (cases_page u page v q) [
  | inl here ↦ frame_here frames u page None v q here.0 here.1
  | inr apart ↦ frame_other frames u page None v q apart ∙ none
]
