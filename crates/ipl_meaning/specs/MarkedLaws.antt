-- The close mark that is found to count is the one that does, and the units that it is found to say are those that it marks.
use Rattle.std.specs.Prelude.{ℕ, ◌≡◌, ◌↔◌, ◌<◌, true, Some}
use Rattle.ipl_format.specs.Sector.{Sector}
use Rattle.ipl_meaning.specs.Chart.{Chart}
use Rattle.ipl_meaning.specs.Layout.{Layout, Laid}
use Rattle.ipl_meaning.specs.Marks.{IsLastMark, IsMarkedUnit}
use Rattle.ipl_meaning.specs.Chosen.{current_at, status_at}
use Rattle.ipl_meaning.specs.Marked.{last_close_mark, is_marked_unit}

-- where a chart is laid out, the close mark that is found is the last one
abbrev pub LastMarksAreTold : Type 0
LastMarksAreTold =
    (c : Chart) (places : ℕ) (it : Layout) (mark : Sector) → Laid places c it
    → (last_close_mark c (status_at c places) ≡ Some mark) ↔ ((s : ℕ) × IsLastMark c it s mark)

-- and its units that are found are those that are marked
abbrev pub MarkedUnitsAreTold : Type 0
MarkedUnitsAreTold =
    (c : Chart) (places : ℕ) (it : Layout) (u : ℕ) → Laid places c it → u < it.count
    → (is_marked_unit c (status_at c places) (current_at c places) u ≡ true) ↔ IsMarkedUnit c it u
