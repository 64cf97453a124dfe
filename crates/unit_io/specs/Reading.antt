-- What the calls answer that read a sector, or a page's sectors.
use Rattle.std.specs.Prelude.{ℕ, ◌≡◌, ◌≤◌, List, take, Option, Result, IfOk, IfSome, OnOk, OnErr}
use Rattle.chip_trait.specs.declared.event.Event.TheVariants.{Read}
use Rattle.chip_trait.specs.Story.{Contents}
use Rattle.chip_trait.specs.Told.{Told}
use Rattle.ipl_base.specs.declared.fault.ChipFault.{ChipFault}
use Rattle.ipl_base.specs.declared.limits.TheConstants.{PAYLOAD_LEN}
use Rattle.ipl_format.specs.Sector.{Sector}
use Rattle.ipl_format.specs.Page.{Slots, empty_page}
use Rattle.sector_format.specs.declared.sector.Head.{Head}
use Rattle.page_text.specs.Texts.{BytesView}
use Rattle.ipl_meaning.specs.Chart.{chart_of}
use Rattle.unit_io.specs.Accounts.{Accounts}
use Rattle.unit_io.specs.Faults.{page_fault, TellsChipFault, IsPageCause, HoldsPage}
use Rattle.unit_io.specs.Kinds.{sector_named}
use Rattle.unit_io.specs.Reads.{Asked, OfContents, IsReadFault, PageAsked}

-- One sector was read, and what is answered, with the bytes, names what is picked of what it says. It
-- fails only where the read failed.
pub record ReadsSector (pick : Option Sector → Option Sector) (p s : ℕ) (bytes : List ℕ)
    (result : Result (Option (Head × ℕ)) ChipFault) (old new : Told) : Type 0 where
  pub exact : IfOk result (λ o. OfContents old (λ x. sector_named bytes o ≡ pick (chart_of x p s)))
  pub fits : IfOk result (λ o. IfSome o (λ found. found.1 ≤ PAYLOAD_LEN))
  pub asks : Asked (Read p s) result old new
  pub accounts : Accounts IsReadFault result old new

-- the bytes begin with this text, up to the end that is answered, which is at most so far on; no page
-- is made of them yet
pub record ReadsText (Text : Contents → List ℕ) (most : ℕ) (view : BytesView)
    (result : Result ℕ ChipFault) (old : Told) : Type 0 where
  pub text : IfOk result (λ end. OfContents old (λ x. take end view.bytes ≡ Text x))
  pub within : IfOk result (λ end. end ≤ most)
  pub empty : view.page ≡ empty_page

-- A page's base sectors were read in their order, at most so many, up to the first that is at fault. What
-- is wrong with the page is answered, if anything is; else these slots are what it holds. After a fault
-- they are empty.
pub record ReadsPage (p : ℕ) (head : Head) (page pieces : ℕ) (slots : Slots)
    (result : Result (Unit {0}) ChipFault) (old new : Told) : Type 0 where
  pub exact : OfContents old (λ x. TellsChipFault
      (page_fault x p head.version head.unit head.generation page pieces) result)
  pub holds : OnOk result (OfContents old (λ x.
      HoldsPage (chart_of x) p head.version head.unit head.generation page pieces slots))
  pub empty : OnErr result (slots ≡ empty_page)
  pub asks : PageAsked p page pieces result old new
  pub accounts : Accounts (IsPageCause p page) result old new
