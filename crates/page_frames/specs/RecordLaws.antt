-- What a store with frames keeps whose records are written out.
use Rattle.std.specs.Prelude.{ℕ, ◌≡◌, [], Some, Result, Ok, Err, IfErr}
use Rattle.chip_trait.specs.Told.{Told}
use Rattle.log_records.specs.View.{Versioned, Spells}
use Rattle.ipl_base.specs.declared.fault.ChipFault.{ChipFault}
use Rattle.ipl_meaning.specs.Tables.{Tables}
use Rattle.store_laws.specs.Frames.{PageFrame, Frames, with_frame_at, with_frame_log}
use Rattle.store_laws.specs.Advances.{KeepsState}
use Rattle.page_frames.specs.Causes.{WritingCause}
use Rattle.page_frames.specs.Writing.{WritesOut, WritesOutInSteps}

-- the frames once the log of a page's frame is written out, or as they were
abbrev pub frames_out : {T E : Type 0} → Result T E → Frames → ℕ → ℕ → PageFrame → Frames
frames_out (Ok v) frames u page f = with_frame_at frames u page (Some (with_frame_log f []))
frames_out (Err e) frames u page f = frames

-- A call wrote a payload out, or failed for such a cause, and the payload is the log in memory of a
-- page's frame: each state is kept, with these frames.
abbrev pub WritingsKeepStates : Type 0
WritingsKeepStates = (t after : Tables) (frames : Frames) (u page : ℕ) (f : PageFrame)
    (payload : Versioned) (old new : Told) (result : Result (Unit {0}) ChipFault)
    → frames u page ≡ Some f → Spells payload f.log
    → WritesOut old.places u payload t after old result new
    → WritesOutInSteps old.places payload t after old result new
    → IfErr result (λ fault. WritingCause after.places t u fault old new)
    → KeepsState t frames old result after (frames_out result frames u page f) new
