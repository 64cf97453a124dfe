-- The program as a whole: how it ends, what it says, and what it leaves on the chip.
use Rattle.std.specs.Prelude.{◌≡◌, ◌≢◌, ◌⊎◌, ◌<◌, ◌≤◌, ℕ, ◌+◌, ◌-◌, ◌^◌, min, Bool, true, false, List, [], ◌∷◌, ◌++◌, codes, length, Some, None, Ok, Err}
use Rattle.std.specs.Option.{option_map}
use Rattle.std.specs.FinMap.{empty}
use Rattle.chip_trait.specs.declared.event.Event.TheVariants.{Said}
use Rattle.chip_trait.specs.Chart.{says}
use Rattle.chip_trait.specs.Story.{Story, Contents, held, pieces, said}
use Rattle.chip_trait.specs.Moment.{AtEachMoment, Leaves}
use Rattle.chip_trait.specs.Lawful.{IsLawful, AreClean}
use Rattle.chip_trait.specs.Told.{History, Told, Grew, IsPrefix, Rose, adds_all, Unrisen}
use Rattle.ipl_base.specs.Places.{IsGeometry, IsSpared, units_on, spares_on}
use Rattle.ipl_base.specs.declared.fault.ChipFault.TheVariants.{ReadFault, Stopped, Damaged, Malformed, WornOut}
use Rattle.ipl_base.specs.declared.fault.ImageFault.{ImageFault}
use Rattle.ipl_base.specs.declared.limits.TheConstants.{STATUS_NUMBERS}
use Rattle.ipl_base.specs.declared.fault.ImageFault.TheVariants as image
use Rattle.ipl_model.specs.State.{State, Limits, Map, at_rest}
use Rattle.ipl_model.specs.Grammar.{commands_of}
use Rattle.ipl_model.specs.Run.{joined_lines, lines, after_all, IsNear}
use Rattle.ipl_format.specs.Sector.{sector_in}
use Rattle.ipl_meaning.specs.Legible.{Legible, IsToldApart, of, whole}
use Rattle.ipl_meaning.specs.Chart.{chart_of}
use Rattle.ipl_meaning.specs.Marks.{IsMarked, MarksAreUnused}
use Rattle.ipl_meaning.specs.Stands.{Stands, StandsIn}
use Rattle.ipl_meaning.specs.Rests.{now, StoryRests}
use Rattle.unit_io.specs.Leads.{IsSteady}
use Rattle.unit_io.specs.Reads.{OfContents}
use Rattle.ipl_meaning.specs.Chosen.{units_at}
use Rattle.ipl_meaning.specs.Faults.{first_fault, greatest_found}
use Rattle.restart.specs.Events.{format_events}
use Rattle.restart.specs.Looks.{OnlyReads, AreTooMany, numbers_in}
use Rattle.place_taking.specs.Spending.{is_found_worn}
use Rattle.store_laws.specs.Keeps.{IsWornCount, limits_of}
use Rattle.page_frames.specs.Faulty.{TellsStory}
use Rattle.script_store.specs.Met.{ImageMet}
use Rattle.script_store.specs.Worn.{WearsOut}
use Rattle.script_run.specs.Run.{SaysLines, EndsBetween, EndsUnsaid}
use Rattle.script_run.specs.Goes.{ReadsAll}
use Rattle.command_line.specs.declared.asked.Request.{Request}
use Rattle.command_line.specs.declared.asked.Request.TheVariants.{Format, Run, Serial, Check, Trial, Records}
use Rattle.command_line.specs.declared.end.End.{End}
use Rattle.command_line.specs.declared.end.End.TheVariants.{Words, Chip, OutOfMemory, Script, Output, TooLong}
use Rattle.command_line.specs.Ends.{fault_status}
use Rattle.ipl_cli.specs.Ending.{AskedFor, AsksOpened, AsksOpenedWith, AsksAnew, AsksToLook, Ending, StopsEarly, IsFormatStopped, IsLeftAlone, but_noted, note_at, status_at, units_beside}
use Rattle.ipl_cli.specs.Trials.{TrialLeaves}
use Rattle.ipl_cli.specs.Views.{ViewedCause, SerialLeaves}
use Rattle.ipl_cli.specs.Checks.{CheckedCause, CheckLeaves}
use Rattle.ipl_cli.specs.Lists.{ListLeaves}

-- ---- what the chip holds

-- where the chip tells what it holds, this is the first fault of that
abbrev pub IsAtFault : Told → ImageFault → Type 0
IsAtFault old e = OfContents old (λ x. first_fault (chart_of x) old.places ≡ Some e)

-- where the chip tells what it holds, that has no fault as it is laid out
abbrev pub IsLaidWell : Told → Type 0
IsLaidWell old = OfContents old (λ x. first_fault (chart_of x) old.places ≡ None)

-- where the chip tells what it holds, that stands for no map
abbrev pub IsStray : Told → Type 0
IsStray old = OfContents old (λ x. (m : Map) → ¬ Stands old.places (chart_of x) (whole m))

-- where the chip tells what it holds, a number of 2^63 or more is among that
abbrev pub IsSpent : Told → Type 0
IsSpent old = OfContents old (λ x. 2 ^ 63 ≤ greatest_found (chart_of x) old.places)

-- the chip tells what it holds, and this is the first fault of that
pub record HasFault (old : Told) (e : ImageFault) : Type 0 where
  pub contents : Contents
  pub told : old.contents ≡ Some contents
  pub fault : first_fault (chart_of contents) old.places ≡ Some e

-- where the chip tells what it holds, that stands for no map, or a number of 2^62 or more is among it
abbrev pub IsUnfit : Told → Type 0
IsUnfit old = OfContents old (λ x. (m : Map) → Stands old.places (chart_of x) (whole m)
    → 2 ^ 62 ≤ greatest_found (chart_of x) old.places)

-- the chip doesn't tell what it holds
abbrev pub IsSilent : Told → Type 0
IsSilent old = OfContents old (λ x. ⊥)

-- a format is asked for of more places to spare than leave a unit, or of another number of places
abbrev pub LacksUnits : AskedFor → Told → Type 0
LacksUnits asked old =
    (spares : ℕ) × (asked ≡ Some (Format spares)) × ¬ IsSpared old.places spares

-- a run over a chip that is opened is asked for with room for fewer numbers than are committed there
abbrev pub LacksRoom : AskedFor → Told → Type 0
LacksRoom asked old =
    (numbers : ℕ) × AsksOpenedWith numbers asked × AreTooMany numbers (numbers_in old.places) old

-- what a chip of 5 to 1,028 places held that a run ended at with 4 or 9, or a check or a listing; or a run had room for
-- fewer numbers; or a format left no unit
abbrev pub EndsUnfit : AskedFor → Told → Type 0
EndsUnfit asked old = (AsksOpened asked × IsUnfit old) ⊎ (AsksAnew asked × IsSilent old)
    ⊎ LacksUnits asked old ⊎ LacksRoom asked old ⊎ (AsksToLook asked × IsStray old)

-- No write has failed; a history that leaves what the chip holds rests on records; and no number
-- that is found is 2^62 or more.
pub record RestsWithNumbersLeft (t : Told) : Type 0 where
  pub map : Map
  pub history : History
  pub steady : IsSteady history t
  pub rests : StoryRests t.places (whole map) history
  pub left : greatest_found (now history) t.places < 2 ^ 62

-- ---- causes

-- The run met the fault once the chip was open: what the chip held had no fault as it was laid out,
-- but no history of it rested on records with numbers left.
pub record IsMetLater (old : Told) : Type 0 where
  pub laid : IsLaidWell old
  pub unsound : ¬ RestsWithNumbersLeft old

-- a history leaves what the chip holds, and rests on records, whichever pages don't read well
pub record RestsOnSome (t : Told) : Type 0 where
  pub legible : Legible
  pub history : History
  pub steady : IsSteady history t
  pub rests : StoryRests t.places legible history
  pub apart : IsToldApart legible.pages

-- A restart met the fault: what the chip held had no fault as it was laid out, but no history of it rested on
-- records, of whatever pages.
pub record IsMetAgain (old : Told) : Type 0 where
  pub laid : IsLaidWell old
  pub unsound : ¬ RestsOnSome old

-- that a chip isn't formatted, misses a unit or has too few places was found when it was opened, or met again
abbrev pub LaidCause : ImageFault → Told → Type 0
LaidCause e old = IsAtFault old e ⊎ IsMetAgain old

-- that its numbers are used up was found when it was opened, or met later
abbrev pub UsedUpCause : Told → Type 0
UsedUpCause old = IsAtFault old image.Spent ⊎ IsMetLater old

-- what the chip held stands for no map, or the fault was met later
abbrev pub StrayCause : Told → Type 0
StrayCause old = IsStray old ⊎ IsMetLater old

-- where the chip told contents and a history at the entry, a place was found worn since
abbrev pub FindsWorn : Told → Told → Type 0
FindsWorn old new = (x : Contents) (h : History) → old.contents ≡ Some x → old.history ≡ Some h
    → (added : Story) × (new.history ≡ Some (adds_all added h))
    × ((p : ℕ) × (is_found_worn added p ≡ true))

-- an erase of a format found its place worn
pub record WornCause (n : ℕ) (old new : Told) : Type 0 where
  pub one : n ≡ 1
  pub rose : Rose old.worn_erases new.worn_erases
  pub found : FindsWorn old new

-- So many places are worn, of the last of which an erase found it: one more than are spare beside as
-- many units as may be kept. Over a history that leaves what the chip holds and rests on records, as
-- many as the chip says; and where it told what it held and a history, more than are spare are those that
-- its status header lists and those that were found worn since.
pub record WornOutCause (n : ℕ) (old new : Told) : Type 0 where
  pub count : IsWornCount old.places n
  pub exact : (m : Map) (h : History) → IsSteady h old → StoryRests old.places (whole m) h
      → n ≡ 1 + spares_on old.places (units_at (now h) old.places)
  pub rose : Rose old.worn_erases new.worn_erases
  pub wears : WearsOut old new

-- that more numbers are committed than have room was found when it was opened, or met again
abbrev pub TooManyCause : ℕ → Told → Type 0
TooManyCause numbers old = AreTooMany numbers (numbers_in old.places) old ⊎ IsMetAgain old

-- when a fault of the chip ends a run that opens it, with room for so many committed numbers
abbrev pub OpenedCause : ℕ → ImageFault → Told → Told → Type 0
OpenedCause numbers image.Geometry old new = LaidCause image.Geometry old
OpenedCause numbers image.NotFormatted old new = LaidCause image.NotFormatted old
OpenedCause numbers (image.Missing u) old new = LaidCause (image.Missing u) old
OpenedCause numbers (image.Chip ReadFault) old new = Rose old.read_faults new.read_faults
OpenedCause numbers (image.Chip Stopped) old new = Rose old.write_faults new.write_faults
OpenedCause numbers (image.Chip (Damaged p s stored computed)) old new =
    (stored ≢ computed) × StrayCause old
OpenedCause numbers (image.Chip (Malformed p s)) old new = StrayCause old
OpenedCause numbers (image.Chip (WornOut n)) old new = WornOutCause n old new
OpenedCause numbers image.Spent old new = UsedUpCause old
OpenedCause numbers (image.NoSpare n) old new = LaidCause (image.NoSpare n) old
OpenedCause numbers image.TooManyNumbers old new = TooManyCause numbers old

-- when a fault of the chip ends a format with so many places to spare
abbrev pub FormatCause : ℕ → ImageFault → Told → Told → Type 0
FormatCause spares image.Geometry old new = ¬ IsSpared old.places spares
FormatCause spares image.NotFormatted old new = ⊥
FormatCause spares (image.Missing u) old new = ⊥
FormatCause spares (image.Chip ReadFault) old new = ⊥
FormatCause spares (image.Chip Stopped) old new = Rose old.write_faults new.write_faults
FormatCause spares (image.Chip (Damaged p s stored computed)) old new = ⊥
FormatCause spares (image.Chip (Malformed p s)) old new = ⊥
FormatCause spares (image.Chip (WornOut n)) old new = WornCause n old new
FormatCause spares image.Spent old new = ⊥
FormatCause spares (image.NoSpare n) old new = ⊥
FormatCause spares image.TooManyNumbers old new = ⊥

-- What was just formatted is at fault: the chip doesn't tell what it holds, or a write had failed
-- before.
abbrev pub AnewCause : Told → Type 0
AnewCause old = (h : History) → ¬ IsSteady h old

-- So many places are worn, of the last of which an erase found it: one more than are spare beside as
-- many units as may be kept; and one, where no write had failed before and the chip tells what it holds.
pub record WornAnewCause (n : ℕ) (old new : Told) : Type 0 where
  pub count : IsWornCount old.places n
  pub exact : (h : History) → IsSteady h old → n ≡ 1
  pub rose : Rose old.worn_erases new.worn_erases
  pub found : FindsWorn old new

-- when a fault of the chip ends a run that formats it first, or a trial
abbrev pub FormattedCause : ImageFault → Told → Told → Type 0
FormattedCause image.Geometry old new = (¬ IsGeometry old.places) ⊎ AnewCause old
FormattedCause image.NotFormatted old new = AnewCause old
FormattedCause (image.Missing u) old new = AnewCause old
FormattedCause (image.Chip ReadFault) old new = Rose old.read_faults new.read_faults
FormattedCause (image.Chip Stopped) old new = Rose old.write_faults new.write_faults
FormattedCause (image.Chip (Damaged p s stored computed)) old new =
    (stored ≢ computed) × AnewCause old
FormattedCause (image.Chip (Malformed p s)) old new = AnewCause old
FormattedCause (image.Chip (WornOut n)) old new = WornAnewCause n old new
FormattedCause image.Spent old new = AnewCause old
FormattedCause (image.NoSpare n) old new = AnewCause old
FormattedCause image.TooManyNumbers old new = AnewCause old

-- when a fault of the chip ends what was asked
abbrev pub ChipCause : Request → ImageFault → Told → Told → Type 0
ChipCause (Format spares) e old new = FormatCause spares e old new
ChipCause (Run frames sessions numbers true closes) e old new = FormattedCause e old new
ChipCause (Run frames sessions numbers false closes) e old new = OpenedCause numbers e old new
ChipCause (Trial seed count frames sessions numbers) e old new = FormattedCause e old new
ChipCause (Serial sessions) e old new = ViewedCause e old new
ChipCause Check e old new = CheckedCause e old new
ChipCause Records e old new = CheckedCause e old new

-- so many bytes of the script were read; where the script is told it has so many
pub record IsTooLong (old new : Told) : Type 0 where
  pub grew : Grew old.beside.script_bytes 4294967295 new.beside.script_bytes
  pub told : (source : List ℕ) → old.beside.left ≡ Some source → 4294967295 ≤ length source

-- when what was asked ends before its end
abbrev pub RequestCause : Request → End → Told → Told → Type 0
RequestCause request Words old new = ⊥
RequestCause request (Chip e) old new = ChipCause request e old new
RequestCause request OutOfMemory old new = Unit {0}
RequestCause (Format spares) Script old new = ⊥
RequestCause (Run frames sessions numbers formats closes) Script old new =
    Rose old.beside.script_faults new.beside.script_faults
RequestCause (Serial sessions) Script old new = Rose old.beside.script_faults new.beside.script_faults
RequestCause Check Script old new = ⊥
RequestCause Records Script old new = ⊥
RequestCause (Trial seed count frames sessions numbers) Script old new = ⊥
RequestCause request Output old new = Rose old.beside.say_faults new.beside.say_faults
RequestCause (Format spares) TooLong old new = ⊥
RequestCause (Run frames sessions numbers formats closes) TooLong old new = IsTooLong old new
RequestCause (Serial sessions) TooLong old new = IsTooLong old new
RequestCause Check TooLong old new = ⊥
RequestCause Records TooLong old new = ⊥
RequestCause (Trial seed count frames sessions numbers) TooLong old new = ⊥

-- when the program ends so
abbrev pub EndCause : AskedFor → Ending → Told → Told → Type 0
EndCause None (Ok u) old new = ⊥
EndCause None (Err end) old new = (end ≡ Words) ⊎ (end ≡ OutOfMemory)
EndCause (Some request) (Ok u) old new = Unit {0}
EndCause (Some request) (Err end) old new = RequestCause request end old new

-- ---- worn places

-- When the program ends since too many places are worn: over a chip that is opened, more than are spare
-- are those that its status header lists and those that were found worn since; over one that is
-- formatted, of which none is spare then, one was found worn, in the format or behind it.
abbrev pub WearsAsAsked : AskedFor → Told → Told → Type 0
WearsAsAsked None old new = ⊥
WearsAsAsked (Some (Format spares)) old new = FindsWorn old new
WearsAsAsked (Some (Run frames sessions numbers true closes)) old new = FindsWorn old new
WearsAsAsked (Some (Run frames sessions numbers false closes)) old new = WearsOut old new
WearsAsAsked (Some (Serial sessions)) old new = ⊥
WearsAsAsked (Some Check) old new = ⊥
WearsAsAsked (Some Records) old new = ⊥
WearsAsAsked (Some (Trial seed count frames sessions numbers)) old new = FindsWorn old new

-- ---- the headline

-- the lines that answer a script under these limits, from these records and no open session
abbrev pub answers : Limits → Map → List ℕ → List (List ℕ)
answers limits m script = lines limits (at_rest m) (commands_of script)

-- this is so of the model's state after the commands of which the bytes have the whole replies, or
-- after one more
abbrev pub IsAbout : (State → Type 0) → Limits → Map → List ℕ → List ℕ → Type 0
IsAbout Q limits m script bytes =
    IsNear Q limits (at_rest m) (commands_of script) bytes

-- the contents of a chip of so many places stand, in as many units as the limits say, for the records of such a state, of
-- these pages
abbrev pub StandsAbout : ℕ → Limits → Legible → List ℕ → List ℕ → Contents → Type 0
StandsAbout places limits m script bytes x =
    IsAbout (λ s. StandsIn places limits.units (chart_of x) (of m.pages s.map)) limits m.map script bytes

-- the first commands of the script were answered with these lines, each said whole; Q is so of the
-- state after them
abbrev pub IsBetween : (State → Type 0) → Limits → Map → List ℕ → List (List ℕ) → Type 0
IsBetween Q limits m script said =
    EndsBetween limits (at_rest m) (commands_of script) said Q

-- How far the script was answered, by the end: all of it; up to a line that couldn't be said, of a
-- command that is done; or up to a command that isn't done. Q is so of the state then.
abbrev pub EndsBy : Ending → (State → Type 0) → Limits → Map → List ℕ → List (List ℕ) → Type 0
EndsBy (Ok u) Q limits m script said =
    Q (after_all limits (at_rest m) (commands_of script))
EndsBy (Err Words) Q limits m script said = IsBetween Q limits m script said
EndsBy (Err (Chip e)) Q limits m script said = IsBetween Q limits m script said
EndsBy (Err OutOfMemory) Q limits m script said = IsBetween Q limits m script said
EndsBy (Err Script) Q limits m script said = IsBetween Q limits m script said
EndsBy (Err Output) Q limits m script said =
    EndsUnsaid limits (at_rest m) (commands_of script) said Q
EndsBy (Err TooLong) Q limits m script said = IsBetween Q limits m script said

-- the sectors that are marked as clean on a chip that holds what this history leaves; none where marks don't count
abbrev pub AreMarked : Bool → ℕ → History → ℕ → ℕ → Type 0
AreMarked false places h p s = ⊥
AreMarked true places h p s = IsMarked places (held h.start h.story) p s

-- nothing that is marked was used, where marks count; where they don't, nothing is asked
abbrev pub WereUnused : Bool → ℕ → History → Type 0
WereUnused false places h = Unit {0}
WereUnused true places h = MarksAreUnused places h

-- where it ended by a sector at fault, that was met at some moment of the history
abbrev pub EndMet : ℕ → Ending → History → Type 0
EndMet places (Ok u) h = Unit {0}
EndMet places (Err Words) h = Unit {0}
EndMet places (Err (Chip e)) h = ImageMet places e h
EndMet places (Err OutOfMemory) h = Unit {0}
EndMet places (Err Script) h = Unit {0}
EndMet places (Err Output) h = Unit {0}
EndMet places (Err TooLong) h = Unit {0}

-- What a run of a script leaves, from these records on and under these limits, after these first events
-- on a chip of so many places that holds what this history leaves, where its marks count or don't. Of records it says those of
-- the pages of which these are. What the chip tells grew by these
-- events. Whatever moment the power is cut at, within a chip operation too, the chip stands for the
-- records after the commands whose replies were said, or after one more. What is said is a beginning of
-- the model's text, line by line. No sector is programmed twice between erases of its place,
-- after events that leave clean what is marked so; and nothing that is marked is used at any of these
-- moments, where marks count if nothing was before. Where no write failed, the chip holds at the end what
-- the history then leaves; that rests on such records, and by how the run ended exactly on those of the
-- commands that are done: the next run may begin there. Where it ended by a sector at fault and the chip tells its story,
-- at some moment the chip held that. Where all is done, the whole text is said, and the script was read to its end.
pub record Runs (marks : Bool) (places : ℕ) (limits : Limits) (m : Legible) (script : List ℕ) (h : History) (first : Story)
    (old new : Told) (ending : Ending) : Type 0 where
  pub added : Story
  pub history : new.history
      ≡ option_map (adds_all added) (option_map (adds_all first) old.history)
  pub each_moment : AtEachMoment
      (λ e. Leaves (says sector_in) (StandsAbout places limits m script (said e))
      (adds_all first h) e)
      added
  pub replies : SaysLines (answers limits m.map script) (pieces added)
  pub is_prefix : IsPrefix (said added) (joined_lines (answers limits m.map script))
  pub lawful : (base : Story) → IsLawful base → AreClean (AreMarked marks places h) base
      → IsLawful (added ++ (first ++ base))
  pub unused : WereUnused marks places (adds_all first h)
      → AtEachMoment (λ e. MarksAreUnused places (adds_all e (adds_all first h))) added
  pub steady : Unrisen old new → IsSteady (adds_all added (adds_all first h)) new
  pub rests : Unrisen old new
      → IsAbout (λ s. StoryRests places (of m.pages s.map) (adds_all added (adds_all first h))) limits m.map script
      (said added)
  pub ends : EndsBy ending
      (λ s. Unrisen old new → StoryRests places (of m.pages s.map) (adds_all added (adds_all first h)))
      limits m.map script (pieces added)
  pub met : Unrisen old new → TellsStory new → EndMet places ending (adds_all added (adds_all first h))
  pub read : List ℕ
  pub unread : List ℕ
  pub script_is : script ≡ read ++ unread
  pub left_is : new.beside.left ≡ Some unread
  pub all : ending ≡ Ok tt
      → (pieces added ≡ answers limits m.map script) × (said added ≡ joined_lines (answers limits m.map script))
      × (unread ≡ [])

-- over each history that leaves what the chip holds, where no write has failed, and a script that is
-- told: the chip may tell that history, another one or none
abbrev pub OverTold : (ℕ → List ℕ → History → Type 0) → Told → Type 0
OverTold P old = (h : History) (script : List ℕ) → IsSteady h old
    → old.beside.left ≡ Some script → P old.places script h

-- The chip was opened, and the script was run by so many sessions: from the records on which such a history rests, on as
-- many units as the chip says, whichever pages don't read well. All events are in this, those of the opening too.
abbrev pub RunsOpened : ℕ → Told → Told → Ending → Type 0
RunsOpened sessions old new ending = OverTold
    (λ places script h. (m : Legible) → StoryRests places m h → IsToldApart m.pages
    → Runs true places (limits_of sessions (units_at (now h) places)) m script h [] old new ending) old

-- the chip was formatted with no place to spare, and the script was run by so many sessions from no
-- records on
abbrev pub RunsFormatted : ℕ → Told → Told → Ending → Type 0
RunsFormatted sessions old new ending = OverTold
    (λ places script h. Runs false places (limits_of sessions (units_on places)) (whole empty) script h
    (format_events places (units_on places)) old new ending) old

-- the records after all commands of a script, under these limits, from these records on
abbrev pub records_after : Limits → Map → List ℕ → Map
records_after limits m script =
    (after_all limits (at_rest m) (commands_of script)).map

-- the chip tells what it holds, and that stands for these records
pub record HoldsRecords (places : ℕ) (m : Legible) (t : Told) : Type 0 where
  pub contents : Contents
  pub told : t.contents ≡ Some contents
  pub stands : Stands places (chart_of contents) m

-- Over a chip that tells what it holds, and a script that is told: where no write failed, the chip
-- holds the records after all commands of so many sessions at the end, of the same pages.
abbrev pub EndsWithRecords : ℕ → (Told → ℕ → Legible → Type 0) → Told → Told → Type 0
EndsWithRecords sessions From old new = (units : ℕ) (m : Legible) (script : List ℕ) → From old units m
    → old.beside.left ≡ Some script → Unrisen old new
    → HoldsRecords old.places (of m.pages (records_after (limits_of sessions units) m.map script)) new

-- it begins with the records that the chip holds, whichever pages don't read well, and with as many units as that says
pub record FromItsRecords (old : Told) (units : ℕ) (m : Legible) : Type 0 where
  pub holds : HoldsRecords old.places m old
  pub units_are : units ≡ units_at (chart_of holds.contents) old.places
  pub apart : IsToldApart m.pages

-- it begins with none, whatever the chip holds, and with no place to spare
abbrev pub FromNoRecords : Told → ℕ → Legible → Type 0
FromNoRecords old units m = (m ≡ whole empty) × (units ≡ units_on old.places)
    × ((x : Contents) × (old.contents ≡ Some x))

-- the script was run, or a part of it, or the format before it was stopped
abbrev pub RunsOrStops : ℕ → Told → Told → Ending → Type 0
RunsOrStops sessions old new ending = OverTold
    (λ places script h. Runs false places (limits_of sessions (units_on places)) (whole empty) script h
    (format_events places (units_on places)) old new ending
    ⊎ StopsEarly places (units_on places) h old new ending) old

-- ---- a format

-- what a format says
abbrev pub ok_line : List ℕ
ok_line = codes "ok\n"

-- What a format for so many units leaves of a chip, after this history: no record and nothing used that is
-- marked, whatever the power is cut at from then on, and the chip says that it has so many. It said its line, or a beginning of it,
-- or nothing, and read nothing of the script. Where the chip held what the history left, it holds what
-- it leaves then.
pub record IsLaidOut (places units : ℕ) (h : History) (old new : Told) (done : Bool)
    : Type 0 where
  pub added : Story
  pub says : (added ≡ []) ⊎ ((part : List ℕ) × IsPrefix part ok_line × (added ≡ Said part ∷ []))
  pub history : new.history
      ≡ option_map (adds_all added) (option_map (adds_all (format_events places units)) old.history)
  pub settled : new.settled ≡ old.settled
  pub steady : IsSteady h old
      → IsSteady (adds_all added (adds_all (format_events places units) h)) new
  pub rests : StoryRests places (whole empty) (adds_all added (adds_all (format_events places units) h))
  pub count : units_at (now (adds_all added (adds_all (format_events places units) h))) places
      ≡ units
  pub unused : MarksAreUnused places (adds_all added (adds_all (format_events places units) h))
  pub lawful : (base : Story) → IsLawful base
      → IsLawful (added ++ (format_events places units ++ base))
  pub left_is : new.beside.left ≡ old.beside.left
  pub all : done ≡ true → added ≡ Said ok_line ∷ []

-- with so many places to spare, whatever history is looked at
abbrev pub LaysOut : ℕ → Told → Told → Bool → Type 0
LaysOut spares old new done =
    (h : History) → IsLaidOut old.places (units_beside old.places spares) h old new done

-- ---- what is left

-- what a format leaves, with so many places to spare
abbrev pub FormatLeaves : ℕ → Ending → Told → Told → Type 0
FormatLeaves spares (Ok u) old new = LaysOut spares old new true
FormatLeaves spares (Err Words) old new = ⊥
FormatLeaves spares (Err (Chip image.Geometry)) old new = IsLeftAlone old new
FormatLeaves spares (Err (Chip e)) old new =
    IsFormatStopped (units_beside old.places spares) old new (Err (Chip e))
FormatLeaves spares (Err OutOfMemory) old new = IsLeftAlone old new
FormatLeaves spares (Err Script) old new = ⊥
FormatLeaves spares (Err Output) old new = LaysOut spares old new false
FormatLeaves spares (Err TooLong) old new = ⊥

-- what a run leaves over a chip that is formatted first; another number of places was left alone
abbrev pub FormattedLeaves : ℕ → Ending → Told → Told → Type 0
FormattedLeaves sessions (Ok u) old new = RunsFormatted sessions old new (Ok u) × ReadsAll old new
FormattedLeaves sessions (Err Words) old new = ⊥
FormattedLeaves sessions (Err (Chip e)) old new =
    ((¬ IsGeometry old.places) × (e ≡ image.Geometry) × IsLeftAlone old new)
    ⊎ (IsGeometry old.places × RunsOrStops sessions old new (Err (Chip e)))
FormattedLeaves sessions (Err OutOfMemory) old new = IsLeftAlone old new
FormattedLeaves sessions (Err Script) old new = RunsFormatted sessions old new (Err Script)
FormattedLeaves sessions (Err Output) old new = RunsFormatted sessions old new (Err Output)
FormattedLeaves sessions (Err TooLong) old new = RunsFormatted sessions old new (Err TooLong)

-- nothing was done but reads of the chip, and a note
pub record OnlyLooks (old new : Told) : Type 0 where
  pub read : Told
  pub reads : OnlyReads old read
  pub noted : new ≡ but_noted read new.beside.noted

-- the end is that fault of the chip, or a read of the chip failed
abbrev pub EndsAtFault : ImageFault → ImageFault → Type 0
EndsAtFault e ended = (ended ≡ e) ⊎ (ended ≡ image.Chip ReadFault)

-- a chip that has a fault as it is laid out was only read, and the run ended with that fault, or since its
-- numbers have no room
abbrev pub IsRefused : ImageFault → Told → Told → Type 0
IsRefused ended old new = (e : ImageFault) → HasFault old e
    → OnlyLooks old new × (EndsAtFault e ended ⊎ (ended ≡ image.TooManyNumbers))

-- what a run leaves over a chip that is opened, which ends with a fault of the chip
pub record OpenedStops (sessions : ℕ) (e : ImageFault) (old new : Told) : Type 0 where
  pub runs : RunsOpened sessions old new (Err (Chip e))
  pub refused : IsRefused e old new
  pub other : ¬ IsGeometry old.places → IsLeftAlone old new

-- What is left of a chip that was opened well. At the end of the script all of it was read.
pub record OpenedRuns (sessions : ℕ) (old new : Told) (ending : Ending) : Type 0 where
  pub runs : RunsOpened sessions old new ending
  pub read : ending ≡ Ok tt → ReadsAll old new
  pub laid : IsLaidWell old
  pub fits : IsGeometry old.places

-- what a run leaves over a chip that is opened
abbrev pub OpenedLeaves : ℕ → Ending → Told → Told → Type 0
OpenedLeaves sessions (Ok u) old new = OpenedRuns sessions old new (Ok u)
OpenedLeaves sessions (Err Words) old new = ⊥
OpenedLeaves sessions (Err (Chip e)) old new = OpenedStops sessions e old new
OpenedLeaves sessions (Err OutOfMemory) old new = IsLeftAlone old new
OpenedLeaves sessions (Err Script) old new = OpenedRuns sessions old new (Err Script)
OpenedLeaves sessions (Err Output) old new = OpenedRuns sessions old new (Err Output)
OpenedLeaves sessions (Err TooLong) old new = OpenedRuns sessions old new (Err TooLong)

-- what the program leaves, wherever it ends
abbrev pub EndLeaves : AskedFor → Ending → Told → Told → Type 0
EndLeaves None ending old new = IsLeftAlone old new
EndLeaves (Some (Format spares)) ending old new = FormatLeaves spares ending old new
EndLeaves (Some (Run frames sessions numbers true closes)) ending old new = FormattedLeaves sessions ending old new
EndLeaves (Some (Run frames sessions numbers false closes)) ending old new = OpenedLeaves sessions ending old new
EndLeaves (Some (Serial sessions)) ending old new = SerialLeaves sessions ending old new
EndLeaves (Some Check) ending old new = CheckLeaves ending old new
EndLeaves (Some Records) ending old new = ListLeaves ending old new
EndLeaves (Some (Trial seed count frames sessions numbers)) ending old new = TrialLeaves sessions seed count ending old new

-- How the program ends: with its status and its line, which is noted alone; for a cause; and what it
-- leaves.
pub record Ends (asked : AskedFor) (old new : Told) (status : ℕ) : Type 0 where
  pub ending : Ending
  pub status_is : status ≡ status_at ending
  pub noted : (bytes : List ℕ) → new.beside.noted ≡ Some bytes
      → (before : List ℕ) × (old.beside.noted ≡ Some before) × (bytes ≡ before ++ note_at ending)
  pub cause : EndCause asked ending old new
  pub leaves : EndLeaves asked ending old new

-- the chip has as many places as before, and no count fell
pub record NoneFalls (old new : Told) : Type 0 where
  pub places : new.places ≡ old.places
  pub reads : old.read_faults ≤ new.read_faults
  pub writes : old.write_faults ≤ new.write_faults
  pub worn : old.worn_erases ≤ new.worn_erases
  pub says : old.beside.say_faults ≤ new.beside.say_faults
  pub script : old.beside.script_faults ≤ new.beside.script_faults
  pub bytes : old.beside.script_bytes ≤ new.beside.script_bytes

-- ---- by the status

-- A chip that has a fault as it is laid out was only read; the run, with room for so many numbers, ended with
-- that fault's status, with 3 where a read of the chip failed, for want of memory, or with 4 since more numbers
-- are committed.
abbrev pub RefusesFaults : ℕ → Told → Told → ℕ → Type 0
RefusesFaults numbers old new status = (e : ImageFault) → HasFault old e
    → OnlyLooks old new × ((status ≡ fault_status e) ⊎ (status ≡ 3) ⊎ (status ≡ 5)
    ⊎ ((status ≡ 4) × AreTooMany numbers (numbers_in old.places) old))

-- when a run over a chip that is opened ends with 9
abbrev pub SpentCause : Told → Type 0
SpentCause old = IsSpent old ⊎ IsMetLater old

-- nothing was done to a chip of another number of places, or it was formatted and the script run, or a
-- part of that
abbrev pub UntouchedOrRuns : ℕ → Told → Told → Ending → Type 0
UntouchedOrRuns sessions old new ending = ((¬ IsGeometry old.places) × IsLeftAlone old new)
    ⊎ RunsOrStops sessions old new ending

-- ---- completeness

-- no read, no write, no read of the script and no reply failed
pub record IsCalm (old new : Told) : Type 0 where
  pub reads : ¬ Rose old.read_faults new.read_faults
  pub writes : ¬ Rose old.write_faults new.write_faults
  pub script : ¬ Rose old.beside.script_faults new.beside.script_faults
  pub says : ¬ Rose old.beside.say_faults new.beside.say_faults

-- the chip has 5 to 1,028 places, and tells what it holds
pub record IsTold (t : Told) : Type 0 where
  pub fits : IsGeometry t.places
  pub contents : Contents
  pub told : t.contents ≡ Some contents

-- so many committed numbers have room, if fewer than a status place has, and at least those of a chip that
-- tells what it holds
abbrev pub HasRoomFor : ℕ → Told → Type 0
HasRoomFor numbers old = numbers < STATUS_NUMBERS
    → OfContents old (λ x. length (numbers_in old.places (chart_of x)) ≤ numbers)

-- what a request asks of the chip: 5 to 1,028 places, and a unit besides those to spare; where commands
-- are done, that it tells what it holds; where it is opened, that a history of that rests on records,
-- with numbers left, and that its committed numbers have room; and where it is checked, that what it holds
-- stands for records
abbrev pub Suffices : Request → Told → Type 0
Suffices (Format spares) old = IsSpared old.places spares
Suffices (Run frames sessions numbers true closes) old = IsTold old
Suffices (Run frames sessions numbers false closes) old = RestsWithNumbersLeft old × HasRoomFor numbers old
Suffices (Serial sessions) old = IsGeometry old.places
Suffices Check old = (m : Map) × HoldsRecords old.places (whole m) old
Suffices Records old = (m : Map) × HoldsRecords old.places (whole m) old
Suffices (Trial seed count frames sessions numbers) old = IsTold old

-- the script ends in time: by the count of its bytes, or as it is told
abbrev pub EndsInTime : Told → Told → Type 0
EndsInTime old new =
    (new.beside.script_bytes < min (old.beside.script_bytes + 4294967295) (2 ^ 64 - 1))
    ⊎ ((source : List ℕ) × (old.beside.left ≡ Some source) × (length source < 4294967295))
