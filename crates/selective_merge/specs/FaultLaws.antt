-- Laws of what is wrong with a unit that is to be merged.
use Rattle.std.specs.Prelude.{ℕ, ◌≡◌, ◌<◌, ◌≤◌, None, true}
use Rattle.ipl_base.specs.declared.limits.TheConstants.{CARRIED_SECTORS, PAGES}
use Rattle.chip_trait.specs.Story.{Contents}
use Rattle.ipl_meaning.specs.Legible.{Legible}
use Rattle.ipl_meaning.specs.Chart.{Chart, chart_of}
use Rattle.ipl_meaning.specs.Last.{carried_count}
use Rattle.ipl_meaning.specs.Layout.{Shape, Layout}
use Rattle.ipl_meaning.specs.Mirrors.{MirrorsStatus}
use Rattle.ipl_meaning.specs.Stands.{Says}
use Rattle.ipl_meaning.specs.Tables.{Tables}
use Rattle.selective_merge.specs.Faults.{unit_fault, merge_fault, IsMergeable}
use Rattle.selective_merge.specs.Packs.{among}

-- nothing is wrong with a unit whose pages show values and of which few log sectors would be carried
abbrev pub MergeableUnitsHaveNoFault : Type 0
MergeableUnitsHaveNoFault = (x : Contents) (t : Tables) (it : Shape) (u : ℕ)
    → IsMergeable (chart_of x) (among t.status.numbers) t it u → merge_fault x t it u ≡ None

-- what is wrong with a unit is so by the bytes of its place alone
abbrev pub FaultsAreOfThePlace : Type 0
FaultsAreOfThePlace = (x y : Contents) (t : Tables) (it : Shape) (u : ℕ)
    → ((s : ℕ) → y it.home s ≡ x it.home s) → merge_fault y t it u ≡ merge_fault x t it u

-- where the pages say a map, each unit's pages show values
abbrev pub SaidUnitsAreMergeable : Type 0
SaidUnitsAreMergeable = (places : ℕ) (c : Chart) (it : Layout) (m : Legible) (t : Tables) (u : ℕ)
    → Says places c it m → u < it.count → ((page : ℕ) → page < PAGES → m.pages.reads u page ≡ true) → carried_count (among t.active) (it.units u).log ≤ CARRIED_SECTORS
    → IsMergeable c it.committed t (it.units u) u

-- where few log sectors would be carried and the tables have the committed numbers of the layout, it
-- is what is wrong with the unit as it is laid out
abbrev pub MergeFaultsAreOfTheUnit : Type 0
MergeFaultsAreOfTheUnit = (x : Contents) (it : Layout) (t : Tables) (u : ℕ) → MirrorsStatus it t
    → carried_count (among t.active) (it.units u).log ≤ CARRIED_SECTORS
    → merge_fault x t (it.units u) u ≡ unit_fault x it u
