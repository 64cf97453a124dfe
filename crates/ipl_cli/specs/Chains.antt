-- Runs that follow one another over the same desk.
use Rattle.std.specs.Prelude.{◌≡◌, ◌≢◌, ◌<◌, true, false, List, Some, ℕ}
use Rattle.std.specs.FinMap.{empty}
use Rattle.std.specs.Option.{option_map}
use Rattle.chip_trait.specs.Lawful.{Unknown, IsLawful, IsLawfulAfter, age}
use Rattle.chip_trait.specs.Story.{Story, held}
use Rattle.chip_trait.specs.Told.{History, Told, adds_all}
use Rattle.ipl_base.specs.Places.{units_on}
use Rattle.ipl_model.specs.State.{Limits, Map, at_rest}
use Rattle.ipl_model.specs.Grammar.{commands_of}
use Rattle.ipl_model.specs.Run.{after_all}
use Rattle.ipl_meaning.specs.Legible.{Legible, IsToldApart}
use Rattle.ipl_meaning.specs.Marks.{IsMarked, MarksAreUnused}
use Rattle.ipl_meaning.specs.Rests.{now, StoryRests}
use Rattle.unit_io.specs.Leads.{IsSteady}
use Rattle.ipl_meaning.specs.Chosen.{units_at}
use Rattle.serial_view.specs.Serial.{serial}
use Rattle.serial_view.specs.Laws.{picked}
use Rattle.store_laws.specs.Keeps.{limits_of}
use Rattle.command_line.specs.declared.asked.Request.TheVariants.{Run}
use Rattle.ipl_cli.specs.Ending.{AskedFor}
use Rattle.ipl_cli.specs.Top.{records_after}
use Rattle.ipl_cli.specs.Trials.{commands_on, state_after}

-- no write has failed, a history that leaves what the chip holds rests on these records, whichever pages don't read well, and
-- this is left of the script
pub record RestsOn (m : Legible) (script : List ℕ) (t : Told) : Type 0 where
  pub history : History
  pub steady : IsSteady history t
  pub rests : StoryRests t.places m history
  pub apart : IsToldApart m.pages
  pub left : t.beside.left ≡ Some script

-- no write has failed, the chip tells what it holds, and this is left of the script
pub record IsFormattable (script : List ℕ) (t : Told) : Type 0 where
  pub history : History
  pub steady : IsSteady history t
  pub left : t.beside.left ≡ Some script

-- as many units as the chip says that it has, which holds what the history leaves
abbrev pub units_kept : Told → History → ℕ
units_kept t h = units_at (now h) t.places

abbrev pub no_records : Map
no_records = empty

-- the records after a trial of so many sessions, and then a script of others, on all units
abbrev pub records_tried : ℕ → ℕ → ℕ → ℕ → ℕ → List ℕ → Map
records_tried tried sessions places seed count script =
    records_after (limits_of sessions (units_on places)) (state_after tried places (commands_on places seed count)).map script

-- the records after the commands alone that the serial view of a script has, under these limits, from these records on
abbrev pub records_viewed : Limits → Map → List ℕ → Map
records_viewed limits m script =
    let commands = commands_of script in
    let view = serial limits m commands in
    (after_all limits (at_rest m) (picked commands view)).map

-- they are those after all its commands: what a run leaves, also where it goes over transactions one after the other
abbrev pub ViewKeepsRecords : Type 0
ViewKeepsRecords = (limits : Limits) (m : Map) (script : List ℕ) → records_viewed limits m script ≡ records_after limits m script

-- ---- stories, over runs

-- The story is lawful, each place was erased in it or found worn, and in whatever a power cut leaves, but by chance, no
-- sector that is marked was used.
pub record IsLawfulHistory (places : ℕ) (h : History) : Type 0 where
  pub lawful : IsLawful h.story
  pub known : (p s : ℕ) → p < places → age h.story p s ≢ Unknown
  pub unused : MarksAreUnused places h

-- such a history is the one that the chip tells, and it rests on these records
pub record RestsLawfully (m : Legible) (script : List ℕ) (t : Told) : Type 0 where
  pub on : RestsOn m script t
  pub told : t.history ≡ Some on.history
  pub is : IsLawfulHistory t.places on.history

-- the chip tells a lawful history, of which nothing else is asked
pub record IsLawfullyFormattable (script : List ℕ) (t : Told) : Type 0 where
  pub on : IsFormattable script t
  pub told : t.history ≡ Some on.history
  pub lawful : IsLawful on.history.story

-- the chip tells its history
abbrev pub TellsHistory : Told → Type 0
TellsHistory t = (h : History) × (t.history ≡ Some h)

-- what was added is lawful after lawful events that leave clean what was marked behind this history
pub record AddsLawfully (places : ℕ) (h : History) (old new : Told) : Type 0 where
  pub added : Story
  pub history : new.history ≡ option_map (adds_all added) old.history
  pub lawful : IsLawfulAfter (IsMarked places (held h.start h.story)) added

-- it is asked to run a script over a chip that is opened, and to close that behind it
abbrev pub AsksClosed : AskedFor → Type 0
AsksClosed asked = (sessions : ℕ) × (frames : ℕ) × (numbers : ℕ) × (asked ≡ Some (Run frames sessions numbers false true))
