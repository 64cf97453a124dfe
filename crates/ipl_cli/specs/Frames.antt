-- With how many page frames and sessions and with room for how many numbers what was asked was done, and whether the chip
-- was closed.
use Rattle.std.specs.Prelude.{ℕ, ◌≡◌, true, false, None, Some, Ok}
use Rattle.std.specs.Option.{option_map}
use Rattle.chip_trait.specs.Lawful.{IsLawfulAfter, LeavesClean}
use Rattle.chip_trait.specs.Story.{Story, held}
use Rattle.chip_trait.specs.Told.{History, Told, adds_all}
use Rattle.command_line.specs.declared.asked.Request.TheVariants.{Format, Run, Serial, Check, Trial, Records}
use Rattle.ipl_model.specs.Grammar.{commands_of}
use Rattle.ipl_meaning.specs.Legible.{Legible, IsToldApart}
use Rattle.ipl_meaning.specs.Marks.{IsMarked}
use Rattle.ipl_meaning.specs.Rests.{StoryRests}
use Rattle.unit_io.specs.Reads.{OfContents}
use Rattle.script_store.specs.declared.store.ScriptStore.{ScriptStore}
use Rattle.script_store.specs.Closes.{MarksSince}
use Rattle.store_trait.specs.Keeping.{restarts}
use Rattle.ipl_cli.specs.Ending.{AskedFor, but_noted}
use Rattle.ipl_cli.specs.Runs.{slots_of, room_of, StartsOpened, StartsFormatted, RunsAsAsked, TriesOver, EndsClosed}
use Rattle.ipl_cli.specs.Top.{OverTold}

-- A store of so many frames and sessions, with room for so many numbers, was started so over the chip, and then it did this
-- to its end.
pub record DoesWith (Starts : Told → ScriptStore → Told → Type 0)
    (Does : ScriptStore → Told → ScriptStore → Told → Type 0) (frames sessions numbers : ℕ) (old new : Told)
    : Type 0 where
  pub store : ScriptStore
  pub frames_are : store.store.frames ≡ frames
  pub sessions_are : slots_of store ≡ sessions
  pub numbers_are : room_of store ≡ numbers
  pub started : Told
  pub starts : Starts old store started
  pub then : ScriptStore
  pub last : Told
  pub does : Does store started then last
  pub noted : new ≡ but_noted last new.beside.noted

-- a run and a trial are done by a store of as many frames and sessions as the words ask for, with room for as many numbers; a
-- run that isn't to close the chip does nothing behind the last reply
abbrev pub DoesAsAsked : AskedFor → Told → Told → Type 0
DoesAsAsked None old new = Unit {0}
DoesAsAsked (Some (Format spares)) old new = Unit {0}
DoesAsAsked (Some (Run frames sessions numbers true closes)) old new =
    DoesWith StartsFormatted (RunsAsAsked closes) frames sessions numbers old new
DoesAsAsked (Some (Run frames sessions numbers false closes)) old new =
    DoesWith (StartsOpened true) (RunsAsAsked closes) frames sessions numbers old new
DoesAsAsked (Some (Serial sessions)) old new = Unit {0}
DoesAsAsked (Some Check) old new = Unit {0}
DoesAsAsked (Some Records) old new = Unit {0}
DoesAsAsked (Some (Trial seed count frames sessions numbers)) old new =
    DoesWith StartsFormatted (TriesOver seed count (Ok tt)) frames sessions numbers old new

-- By the story that the chip tells, where that rests on records and no command opens the chip again: each log sector at a
-- unit's place that was erased since, and not programmed, is marked.
abbrev pub MarksWhatWasErased : Told → Told → Type 0
MarksWhatWasErased old new = OverTold
    (λ places script h. old.history ≡ Some h → (m : Legible) → StoryRests places m h → IsToldApart m.pages
    → restarts (commands_of script) ≡ false → MarksSince places h new) old

-- What is added is lawful after lawful events that leave clean what was marked behind this history; and after all of them
-- what is marked then is clean.
pub record AddsCleanly (places : ℕ) (h : History) (old new : Told) : Type 0 where
  pub added : Story
  pub history : new.history ≡ option_map (adds_all added) old.history
  pub lawful : IsLawfulAfter (IsMarked places (held h.start h.story)) added
  pub clean : OfContents new (λ x. LeavesClean (IsMarked places (held h.start h.story)) (IsMarked places x) added)

-- so it is over each history that leaves what the chip holds, and rests on records
abbrev pub CleansWhatIsMarked : Told → Told → Type 0
CleansWhatIsMarked old new = OverTold
    (λ places script h. (m : Legible) → StoryRests places m h → IsToldApart m.pages → AddsCleanly places h old new) old

-- what a close leaves of a chip that was opened
pub record ClosesOpened (old new : Told) : Type 0 where
  pub ends : EndsClosed old new
  pub marked : MarksWhatWasErased old new
  pub clean : CleansWhatIsMarked old new

-- a run that is to close the chip did so last of all
abbrev pub ClosesAsAsked : AskedFor → Told → Told → Type 0
ClosesAsAsked None old new = Unit {0}
ClosesAsAsked (Some (Format spares)) old new = Unit {0}
ClosesAsAsked (Some (Run frames sessions numbers true closes)) old new = closes ≡ true → EndsClosed old new
ClosesAsAsked (Some (Run frames sessions numbers false closes)) old new = closes ≡ true → ClosesOpened old new
ClosesAsAsked (Some (Serial sessions)) old new = Unit {0}
ClosesAsAsked (Some Check) old new = Unit {0}
ClosesAsAsked (Some Records) old new = Unit {0}
ClosesAsAsked (Some (Trial seed count frames sessions numbers)) old new = Unit {0}
