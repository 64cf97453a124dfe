-- Laws of reading pages.
use Rattle.std.specs.Prelude.{ℕ, ◌≡◌, ◌↔◌, slice_index, None, All}
use Rattle.chip_trait.specs.Story.{Contents}
use Rattle.ipl_format.specs.Page.{Slots}
use Rattle.ipl_meaning.specs.Chart.{Chart, chart_of}
use Rattle.ipl_meaning.specs.Layout.{Shape, ReadsWell}
use Rattle.unit_io.specs.Reads.{page_reads, IsPageRead}
use Rattle.unit_io.specs.Faults.{HoldsPage, page_fault}

-- nothing is wrong with a page exactly where its base sectors hold one
abbrev pub SoundPagesAreHeld : Type 0
SoundPagesAreHeld = (x : Contents) (place version u generation page pieces : ℕ)
    → (page_fault x place version u generation page pieces ≡ None)
    ↔ ((slots : Slots) × HoldsPage (chart_of x) place version u generation page pieces slots)

-- and that is what it means for a page of a unit to read well
abbrev pub HeldPagesReadWell : Type 0
HeldPagesReadWell = (c : Chart) (u : ℕ) (it : Shape) (page : ℕ) (slots : Slots)
    → HoldsPage c it.home it.head.version u it.head.generation page (slice_index it.pieces page) slots
    ↔ ReadsWell c u it page slots

-- the reads of a page are of its base sectors
abbrev pub PageReadsAreOfThePage : Type 0
PageReadsAreOfThePage = (place page n : ℕ) → All (IsPageRead place page n) (page_reads place page n)
