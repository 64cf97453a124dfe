-- What a close mark leaves.
use Rattle.std.specs.Prelude.{ℕ, List, length, Result, is_ok}
use Rattle.chip_trait.specs.Image.{IsClosed}
use Rattle.chip_trait.specs.Told.{History, Told}
use Rattle.ipl_base.specs.declared.fault.ChipFault.{ChipFault}
use Rattle.ipl_base.specs.declared.limits.TheConstants.{VERSION}
use Rattle.ipl_format.specs.Mark.{SpellsMark}
use Rattle.ipl_format.specs.Sector.{Sector}
use Rattle.ipl_meaning.specs.Legible.{Legible}
use Rattle.ipl_meaning.specs.Layout.{Layout}
use Rattle.ipl_meaning.specs.Stands.{Says}
use Rattle.ipl_meaning.specs.Rests.{now, EachStands, StoryRests}
use Rattle.ipl_meaning.specs.Tables.{StatusTable, Tables, IsCountedClean}
use Rattle.ipl_meaning.specs.Agrees.{Agrees}
use Rattle.ipl_meaning.specs.Marks.{AreUnused}
use Rattle.ipl_meaning.specs.MarkLaws.{MarksWhatIsKnown}
use Rattle.unit_io.specs.Leads.{IsSteady, RestsAdded}
use Rattle.unit_io.specs.Spots.{Programs, IsSpot}
use Rattle.unit_io.specs.Steps.{Settled, NoOtherEnd, EndsWith, OutcomeWhere}
use Rattle.txn_status.specs.Adding.{HasStatus}

-- a close mark of this payload, as it is written
abbrev pub mark_sector : ℕ → ℕ → List ℕ → Sector
mark_sector generation serial payload = record {
  kind = 7;
  version = VERSION;
  unit = 0;
  generation = generation;
  serial = serial;
  payload = payload;
}

-- the tables agree with a chip whose story rests on a map, nothing is open, and the mark has
-- exactly the units of which something is known
pub record IsReadyToMark (places : ℕ) (h : History) (it : Layout) (t : Tables) (m : Legible)
    (mark : Sector) : Type 0 where
  pub rests : StoryRests places m h
  pub closed : IsClosed h.story
  pub agrees : Agrees places h it t
  pub says : Says places (now h) it m
  pub spelled : SpellsMark (length t.places.current) mark.payload
  pub known : MarksWhatIsKnown t mark

-- At each moment a power cut leaves the map, and marks are kept, where what the tables count as clean is
-- unused. Done, the story rests on the map, and the mark and a barrier were added. It fails only where a
-- write failed.
abbrev pub StepsMarking : ℕ → Legible → Tables → ℕ → ℕ → Sector → History → Result (Unit {0}) ChipFault
    → Told → Told → Type 0
StepsMarking places m t p s mark h result old new =
    OutcomeWhere (AreUnused (IsCountedClean t) h.story) (EachStands places m) (Programs p (IsSpot s) (is_ok result)) (Settled result old new)
    (EndsWith result (λ done k. RestsAdded places m p s mark h k) NoOtherEnd) h old new

-- whatever layout, tables and map it began with
abbrev pub MarksInSteps : ℕ → StatusTable → ℕ → List ℕ → Result (Unit {0}) ChipFault
    → Told → Told → Type 0
MarksInSteps places status next payload result old new =
    let mark = mark_sector status.generation next payload in
    (h : History) (it : Layout) (t : Tables) (m : Legible)
    → IsSteady h old → HasStatus t status next → IsReadyToMark places h it t m mark
    → StepsMarking places m t status.place status.first mark h result old new
