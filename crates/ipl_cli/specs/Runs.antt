-- How the program starts and runs.
use Rattle.std.specs.Prelude.{ℕ, ◌≡◌, ◌⊎◌, ◌+◌, Bool, true, false, not, List, [], length, Some, Result, Ok, Err, OnOk, IfErr, IsErrOf, is_ok}
use Rattle.chip_trait.specs.Story.{Contents}
use Rattle.chip_trait.specs.Told.{History, Told, Counts}
use Rattle.ipl_base.specs.Places.{IsGeometry, units_on}
use Rattle.ipl_base.specs.declared.fault.FormatFault.{FormatFault}
use Rattle.ipl_base.specs.declared.fault.FormatFault.TheVariants as format
use Rattle.ipl_base.specs.declared.fault.ImageFault.{ImageFault}
use Rattle.ipl_base.specs.declared.fault.ImageFault.TheVariants as image
use Rattle.ipl_meaning.specs.Legible.{Legible, IsToldApart}
use Rattle.ipl_meaning.specs.Tables.{Tables}
use Rattle.ipl_meaning.specs.Rests.{now, StoryRests}
use Rattle.ipl_model.specs.Grammar.{commands_of}
use Rattle.ipl_meaning.specs.Chosen.{units_at}
use Rattle.restart.specs.Fresh.{Formats, TellsFresh}
use Rattle.store_trait.specs.Onward.{Onward, Further}
use Rattle.store_trait.specs.Keeping.{SCRIPT_DRAWS, WORK_DRAWS, LeavesTidy, restarts}
use Rattle.store_trait.specs.declared.fault.Fault.{Fault}
use Rattle.store_trait.specs.declared.fault.Fault.TheVariants as fault
use Rattle.script_run.specs.declared.fault.Stop.{Stop}
use Rattle.script_run.specs.declared.fault.Stop.TheVariants as stop
use Rattle.script_run.specs.Behind.{stop_of}
use Rattle.script_run.specs.Goes.{EndsReplied, LearnsAlong, StopCause, CompletesOver, ReadsAll, RunsScript}
use Rattle.page_frames.specs.Pages.{tables_in}
use Rattle.ipl_store.specs.declared.store.Store.{Store}
use Rattle.ipl_store.specs.Calls.{numbers_of, IsSound}
use Rattle.ipl_store.specs.Openings.{OpensStore, Tries}
use Rattle.script_store.specs.declared.store.ScriptStore.{ScriptStore}
use Rattle.store_laws.specs.Keeps.{KnownPages, all_pages, limits_of}
use Rattle.script_store.specs.Keeps.{IsRunning, script_keeping}
use Rattle.script_store.specs.Closes.{MarksRecalled, ClosesAtEnd, CountsMarked}
use Rattle.restart.specs.Closing.{EndsWithMark}
use Rattle.unit_io.specs.Costs.{Spends}
use Rattle.script_run.specs.TrialWords.{trial_commands}
use Rattle.script_run.specs.Trial.{RunsTrial, IsTrialStop}
use Rattle.command_line.specs.declared.end.End.{End}
use Rattle.command_line.specs.declared.end.End.TheVariants.{Words, Chip, OutOfMemory, Script, Output, TooLong}
use Rattle.ipl_cli.specs.Ending.{Ending, IsFormatStopped, StopRose, format_end}
use Rattle.ipl_cli.specs.Top.{FindsWorn, IsTooLong, OverTold, WereUnused, Runs}

-- how many sessions a store has
abbrev pub slots_of : ScriptStore → ℕ
slots_of store = length store.store.transactions.sessions

-- how many committed numbers have room in it
abbrev pub room_of : ScriptStore → ℕ
room_of store = numbers_of store.store

-- ---- the start

-- The memory of a store for so many places, whose chip isn't opened yet; or the number of places
-- can't be used, or memory was wanting.
abbrev pub MakesStore : ℕ → Result Store End → Type 0
MakesStore places (Ok store) = IsGeometry places × IsSound places store
MakesStore places (Err Words) = ⊥
MakesStore places (Err (Chip e)) = (¬ IsGeometry places) × (e ≡ image.Geometry)
MakesStore places (Err OutOfMemory) = IsGeometry places
MakesStore places (Err Script) = ⊥
MakesStore places (Err Output) = ⊥
MakesStore places (Err TooLong) = ⊥

-- The chip was opened, where a mark counts or doesn't, and the store runs over it.
pub record StartsOpened (marks : Bool) (old : Told) (store : ScriptStore) (new : Told) : Type 0 where
  pub running : IsRunning old.places store
  pub opens : OpensStore old.places old store.store new
  pub tries : Tries marks old.places old (Ok tt) (tables_in store.store.transactions.pages) new

-- the chip wasn't opened, where so many committed numbers have room, and it ends so
pub record IsNotOpened (marks : Bool) (numbers : ℕ) (end : End) (old new : Told) : Type 0 where
  pub fault : ImageFault
  pub end_is : end ≡ Chip fault
  pub fits : IsGeometry old.places
  pub tables : Tables
  pub room : tables.status.most ≡ numbers
  pub tries : Tries marks old.places old (Err fault) tables new

-- the chip was opened, or it wasn't
abbrev pub OpensOver : Bool → ℕ → Result ScriptStore End → Told → Told → Type 0
OpensOver marks numbers (Ok store) old new = StartsOpened marks old store new
OpensOver marks numbers (Err end) old new = IsNotOpened marks numbers end old new

-- The chip was formatted, with no place to spare.
pub record WasFormatted (old new : Told) : Type 0 where
  pub fits : IsGeometry old.places
  pub counts : Counts old new
  pub formats : (h : History)
      → Formats {A = Unit {0}} old.places (units_on old.places) h old (Ok tt) new
  pub contents : (x : Contents) → old.contents ≡ Some x
      → TellsFresh old.places (units_on old.places) new

-- a format was stopped, since a write failed or a place is worn, and it ends so
pub record IsNotFormatted (end : End) (old new : Told) : Type 0 where
  pub fault : FormatFault
  pub end_is : end ≡ format_end fault
  pub fits : IsGeometry old.places
  pub counts : Counts old new
  pub rose : StopRose fault old new
  pub found : (p : ℕ) → fault ≡ format.Worn p → FindsWorn old new
  pub stops : IsFormatStopped (units_on old.places) old new (Err end)

-- the chip was formatted, or it wasn't
abbrev pub FormatsFirst : Result (Unit {0}) End → Told → Told → Type 0
FormatsFirst (Ok u) old new = WasFormatted old new
FormatsFirst (Err end) old new = IsNotFormatted end old new

-- The chip was formatted, and then opened.
pub record StartsFormatted (old : Told) (store : ScriptStore) (new : Told) : Type 0 where
  pub formatted : Told
  pub formats : WasFormatted old formatted
  pub opened : StartsOpened false formatted store new

-- It isn't started: there is no memory for a store, or none for so many places; the format was
-- stopped; or the chip that was formatted wasn't opened.
abbrev pub IsNotStarted : End → Told → Told → Type 0
IsNotStarted end old new =
    (MakesStore old.places (Err end) × (new ≡ old))
    ⊎ IsNotFormatted end old new
    ⊎ ((formatted : Told) × WasFormatted old formatted × (numbers : ℕ) × IsNotOpened false numbers end formatted new)

-- ---- the run

-- the end that a stop of the run is; numbers last for any script
abbrev pub end_of : Stop → End
end_of (stop.Store (fault.Chip e)) = Chip (image.Chip e)
end_of (stop.Store (fault.Image e)) = Chip e
end_of (stop.Store fault.Spent) = Chip image.Spent
end_of stop.Script = Script
end_of stop.Output = Output
end_of stop.TooLong = TooLong

abbrev pub ending_of : Result (Unit {0}) Stop → Ending
ending_of (Ok u) = Ok u
ending_of (Err s) = Err (end_of s)

-- What a run over a script leaves, with a close behind it or without, to its end or to where it stopped: the records of whatever
-- pages are known to read, and what else it does, which asks nothing of pages.
pub record HasRun (result : Result (Unit {0}) Stop) (before : ScriptStore) (old : Told) (then : ScriptStore) (new : Told)
    : Type 0 where
  pub runs : (known : KnownPages) → RunsScript (script_keeping old.places known) before old result then new
  pub tidy : LeavesTidy (script_keeping old.places all_pages) before then old new (is_ok result)
  pub completes : (known : KnownPages)
      → CompletesOver (script_keeping old.places known) (SCRIPT_DRAWS + WORK_DRAWS) before old result then new
  pub cause : IfErr result (λ s. StopCause (script_keeping old.places all_pages) old new s)
  pub learns : LearnsAlong (script_keeping old.places all_pages) before old result then new
  pub unspent : IsErrOf result (stop.Store fault.Spent) → ⊥
  pub long : IsErrOf result stop.TooLong → IsTooLong old new
  pub further : Further old new
  pub read : OnOk result (ReadsAll old new)

-- The script was run to its end, or to where it stopped, and it ends so.
pub record RunsOver (ending : Ending) (before : ScriptStore) (old : Told) (then : ScriptStore)
    (new : Told) : Type 0 where
  pub result : Result (Unit {0}) Stop
  pub ending_is : ending ≡ ending_of result
  pub run : HasRun result before old then new

-- A chip was opened whose marks count or don't, and a script was run by so many sessions: from the records on which its history
-- rests, on as many units as it says, whichever pages don't read well. Where marks don't count, nothing that is marked was
-- used.
abbrev pub RunsFrom : ℕ → Bool → Told → Told → Ending → Type 0
RunsFrom sessions marks old new ending = OverTold
    (λ places script h. (m : Legible) → StoryRests places m h → IsToldApart m.pages → WereUnused (not marks) places h
    → Runs marks places (limits_of sessions (units_at (now h) places)) m script h [] old new ending) old

-- ---- a close behind a run

-- The chip was closed behind a script, or it wasn't.
pub record ClosesBehind (result : Result (Unit {0}) Stop) (before : ScriptStore) (old : Told) (then : ScriptStore)
    (new : Told) : Type 0 where
  pub closed : Result (Unit {0}) Fault
  pub result_is : result ≡ stop_of closed
  pub closes : (known : KnownPages) → ClosesAtEnd known before old closed then new

-- the last two events since were the program of a mark and a barrier
abbrev pub EndsClosed : Told → Told → Type 0
EndsClosed = Spends EndsWithMark

-- What was erased since an entry and not programmed is marked, where no command of the script opens the chip again.
abbrev pub MarksBehind : ScriptStore → Told → Told → Type 0
MarksBehind before old new = (known : KnownPages) (script : List ℕ) → old.beside.left ≡ Some script
    → restarts (commands_of script) ≡ false → MarksRecalled known before old new

-- What is marked then, the store counts as clean.
abbrev pub CountsBehind : ScriptStore → Told → ScriptStore → Told → Type 0
CountsBehind before old then new = (known : KnownPages) (script : List ℕ) → old.beside.left ≡ Some script
    → CountsMarked known before old then new

-- what a close leaves behind a script
pub record ClosesScript (before : ScriptStore) (old : Told) (then : ScriptStore) (new : Told) : Type 0 where
  pub ends : EndsClosed old new
  pub marked : MarksBehind before old new
  pub counted : CountsBehind before old then new

-- The script was run to its end, and the chip closed behind it where that is asked, where else nothing is done behind the
-- last reply; or it stopped.
pub record RunsClosing (closes : Bool) (result : Result (Unit {0}) Stop) (before : ScriptStore) (old : Told)
    (then : ScriptStore) (new : Told) : Type 0 where
  pub run : HasRun result before old then new
  pub closed : OnOk result (closes ≡ true → ClosesScript before old then new)
  pub last : OnOk result (closes ≡ false → EndsReplied old new)

-- The script was run to its end by a store: where no close is asked, nothing was done behind the last reply.
pub record RunsAsAsked (closes : Bool) (before : ScriptStore) (old : Told) (then : ScriptStore) (new : Told) : Type 0 where
  pub over : RunsOver (Ok tt) before old then new
  pub last : closes ≡ false → EndsReplied old new

-- ---- the trial

-- The commands of a seed on the store's units were done over it, to the end of the trial or to where
-- it stopped, and it ends so.
pub record TriesOver (seed count : ℕ) (ending : Ending) (before : ScriptStore) (old : Told)
    (then : ScriptStore) (new : Told) : Type 0 where
  pub result : Result (Unit {0}) Stop
  pub ending_is : ending ≡ ending_of result
  pub trial : RunsTrial (script_keeping old.places all_pages) (trial_commands before.store.units seed count)
      before old result then new
  pub tidy : LeavesTidy (script_keeping old.places all_pages) before then old new (is_ok result)
  pub completes : (known : KnownPages)
      → CompletesOver (script_keeping old.places known) SCRIPT_DRAWS before old result then new
  pub cause : IfErr result (λ s. StopCause (script_keeping old.places all_pages) old new s)
  pub learns : LearnsAlong (script_keeping old.places all_pages) before old result then new
  pub unspent : IsErrOf result (stop.Store fault.Spent) → ⊥
  pub stops : IfErr result IsTrialStop
  pub onward : Onward old new
