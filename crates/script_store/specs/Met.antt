-- What is wrong with a chip, where a run meets it: what the fault says was so of what the chip held at some moment.
use Rattle.std.specs.Prelude.{ℕ, ◌≡◌, ◌⊎◌, ◌<◌, ◌++◌, Bool, Some}
use Rattle.chip_trait.specs.Story.{Story, Contents, held}
use Rattle.chip_trait.specs.Told.{History, Told}
use Rattle.ipl_base.specs.Calls.{IsFailedCall}
use Rattle.ipl_base.specs.declared.fault.ChipFault.{ChipFault}
use Rattle.ipl_base.specs.declared.fault.ImageFault.{ImageFault}
use Rattle.ipl_base.specs.declared.fault.ImageFault.TheVariants as image
use Rattle.ipl_base.specs.declared.limits.TheConstants.{PAGES}
use Rattle.ipl_meaning.specs.Chart.{chart_of}
use Rattle.ipl_meaning.specs.Layout.{Layout, Laid}
use Rattle.ipl_meaning.specs.Faults.{first_fault}
use Rattle.selective_merge.specs.Faults.{unit_fault}
use Rattle.page_rebuild.specs.Loaded.{load_fault}
use Rattle.page_frames.specs.Faulty.{TellsStory}
use Rattle.store_trait.specs.declared.fault.Fault.{Fault}
use Rattle.store_trait.specs.declared.fault.Fault.TheVariants.{Chip, Image, Spent}

-- over these contents it is what a load of some page of a unit finds, with whatever sessions wrote there, or a merge of the
-- unit
pub record IsOfAPage (places : ℕ) (x : Contents) (e : ChipFault) : Type 0 where
  pub layout : Layout
  pub laid : Laid places (chart_of x) layout
  pub unit : ℕ
  pub low : unit < layout.count
  pub found : (unit_fault x layout unit ≡ Some e)
      ⊎ ((active : ℕ → Bool) × (page : ℕ) × (page < PAGES) × (load_fault x layout active unit page ≡ Some e))

-- at some moment of the history the chip held contents of which it is the first fault, as they are laid out, or that of a page
pub record WasMet (places : ℕ) (e : ChipFault) (h : History) : Type 0 where
  pub later : Story
  pub earlier : Story
  pub split : later ++ earlier ≡ h.story
  pub found : (first_fault (chart_of (held h.start earlier)) places ≡ Some (image.Chip e))
      ⊎ IsOfAPage places (held h.start earlier) e

-- it was, unless a call of the chip failed
abbrev pub IsMetFault : ℕ → ChipFault → History → Type 0
IsMetFault places e h = ¬ IsFailedCall e → WasMet places e h

-- so was what an opening found at fault in a sector
abbrev pub ImageMet : ℕ → ImageFault → History → Type 0
ImageMet places image.Geometry h = Unit {0}
ImageMet places image.NotFormatted h = Unit {0}
ImageMet places (image.Missing u) h = Unit {0}
ImageMet places (image.Chip e) h = IsMetFault places e h
ImageMet places image.Spent h = Unit {0}
ImageMet places (image.NoSpare n) h = Unit {0}
ImageMet places image.TooManyNumbers h = Unit {0}

-- whether the chip was open or was to be opened again
abbrev pub SectorMet : ℕ → History → Fault → Type 0
SectorMet places h (Chip e) = IsMetFault places e h
SectorMet places h (Image e) = ImageMet places e h
SectorMet places h Spent = Unit {0}

-- over a chip that tells its story
abbrev pub FaultMet : ℕ → Told → History → Fault → Type 0
FaultMet places t h fault = TellsStory t → SectorMet places h fault
