-- What is known of a chip that is only read, and of the page that was read last.
use Rattle.std.specs.Prelude.{ℕ, ◌≡◌, ◌*◌, ◌/◌, ◌%◌, [], true, List, length, Option, Some, None, Result, MatchResult}
use Rattle.std.specs.FinMap.{get}
use Rattle.ipl_base.specs.declared.limits.TheConstants.{PAGES, SLOTS, UNIT_NAMES}
use Rattle.ipl_base.specs.declared.fault.ChipFault.{ChipFault}
use Rattle.ipl_base.specs.declared.fault.ChipFault.TheVariants.{ReadFault}
use Rattle.chip_trait.specs.Story.{Contents}
use Rattle.chip_trait.specs.Told.{Told}
use Rattle.ipl_meaning.specs.Chart.{chart_of}
use Rattle.ipl_meaning.specs.LaidOut.{layout_in}
use Rattle.ipl_meaning.specs.Legible.{Legible}
use Rattle.ipl_meaning.specs.Mirrors.{Mirrors}
use Rattle.ipl_meaning.specs.Opened.{tables_of}
use Rattle.number_set.specs.Numbers.{among}
use Rattle.page_ops.specs.Frames.{FrameView}
use Rattle.page_rebuild.specs.Loaded.{IsLoaded}
use Rattle.unit_io.specs.Reads.{OfContents}
use Rattle.unit_log.specs.Live.{SuitChip}
use Rattle.image_check.specs.Checked.{fault_of_page}
use Rattle.record_reader.specs.declared.reader.Reader.{Reader}

-- ---- the memory, and what was found

-- how many names the chip has that was looked over
abbrev pub names_of : Reader → ℕ
names_of reader = length reader.directory.current * UNIT_NAMES

-- what is wrong with a page, 15 of a unit
abbrev pub page_fault : Contents → ℕ → ℕ → Option ChipFault
page_fault x places page = fault_of_page x (layout_in (chart_of x) places) (page / PAGES) (page % PAGES)

-- the frame has the values of this page, and nothing is wrong with it
pub record HasPage (x : Contents) (places page : ℕ) (frame : FrameView) : Type 0 where
  pub sound : page_fault x places page ≡ None
  pub loaded : IsLoaded (chart_of x) (layout_in (chart_of x) places) (among []) (page / PAGES) (page % PAGES) frame

-- the reader was made for chips of so many places
pub record IsMadeFor (places : ℕ) (reader : Reader) : Type 0 where
  pub scratch : reader.scratch ≡ places
  pub directory : length reader.directory.in_use ≡ places
  pub overflow : reader.overflow.places ≡ places
  pub kept : reader.kept.room ≡ reader.status.most

-- where the chip tells what it holds, what was found of it mirrors that
abbrev pub Mirror : Told → Reader → Type 0
Mirror told reader = OfContents told (λ x. (counter : ℕ) × Mirrors told.places (chart_of x)
    (layout_in (chart_of x) told.places) (tables_of reader.directory reader.overflow reader.status counter))

-- The chip was looked over: what was found mirrors it, and the page that is held is one of it.
pub record Reads (told : Told) (reader : Reader) : Type 0 where
  pub made : IsMadeFor told.places reader
  pub suits : SuitChip told.places reader.directory reader.overflow
  pub mirrors : Mirror told reader
  pub held : (page : ℕ) → reader.held ≡ Some page
      → OfContents told (λ x. HasPage x told.places page reader.frame)

-- ---- what a get answers

-- Of a name whose page reads: its value, or none, unless a read failed. Of one whose page doesn't: a fault.
pub record AnswersName (m : Legible) (name : ℕ) (result : Result (Option (List ℕ)) ChipFault) : Type 0 where
  pub reads : m.pages.reads (name / UNIT_NAMES) (name / SLOTS % PAGES) ≡ true
      → MatchResult result (λ value. value ≡ get m.map name) (λ e. e ≡ ReadFault)
  pub rotten : m.pages.rotten (name / UNIT_NAMES) (name / SLOTS % PAGES) ≡ true
      → MatchResult result (λ value. ⊥) (λ e. Unit {0})
