-- What stays as it was, however a call ends.
use Rattle.std.specs.Prelude.{Result}
use Rattle.chip_trait.specs.Told.{History, Told}
use Rattle.ipl_base.specs.declared.fault.ChipFault.{ChipFault}
use Rattle.ipl_meaning.specs.Legible.{Legible}
use Rattle.ipl_meaning.specs.Layout.{Layout}
use Rattle.ipl_meaning.specs.Rests.{StoryRests}
use Rattle.ipl_meaning.specs.Tables.{Tables}
use Rattle.ipl_meaning.specs.Agrees.{Agrees}
use Rattle.unit_io.specs.Leads.{IsSteady}
use Rattle.unit_io.specs.Steps.{KeepsTables}

-- whatever map the story rests on, and whatever tables agree with the chip: it rests and they agree
-- still
abbrev pub KeepsWhatRests : Result (Unit {0}) ChipFault → Told → Told → Type 0
KeepsWhatRests result old new = (m : Legible) (it : Layout) (t : Tables) (h : History)
    → IsSteady h old → StoryRests old.places m h → Agrees old.places h it t
    → KeepsTables old.places m it t h result old new
