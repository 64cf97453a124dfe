-- What a switch to kept numbers asks for.
use Rattle.std.specs.Prelude.{ℕ, List}
use Rattle.chip_trait.specs.Told.{History}
use Rattle.ipl_meaning.specs.Legible.{Legible}
use Rattle.ipl_meaning.specs.Chart.{Chart}
use Rattle.ipl_meaning.specs.Layout.{Layout, Laid}
use Rattle.ipl_meaning.specs.Mirrors.{Mirrors}
use Rattle.ipl_meaning.specs.Rests.{now, StoryRests}
use Rattle.ipl_meaning.specs.Stands.{Says, Stands}
use Rattle.ipl_meaning.specs.Tables.{Tables}
use Rattle.txn_status.specs.Switching.{MayKeep}
use Rattle.restart.specs.Keeps.{KeepsBelow}

-- a chart that stands for a map says it in the way it is laid out
abbrev pub LayoutsSay : Type 0
LayoutsSay = (places : ℕ) (c : Chart) (it : Layout) (m : Legible)
    → Laid places c it → Stands places c m → Says places c it m

-- so does the chart of a story that rests on it
abbrev pub RestingLayoutsSay : Type 0
RestingLayoutsSay = (places : ℕ) (h : History) (it : Layout) (m : Legible)
    → StoryRests places m h → Laid places (now h) it → Says places (now h) it m

-- numbers that are kept were drawn, and none is of an open session
abbrev pub KeptNumbersAreOld : Type 0
KeptNumbersAreOld = (places n : ℕ) (c : Chart) (it : Layout) (t : Tables) (kept : List ℕ)
    → Mirrors places c it t → KeepsBelow n it kept → MayKeep t kept
