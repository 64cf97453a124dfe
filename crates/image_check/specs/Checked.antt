-- What a checker looks for, in its order, and how many records it counts.
use Rattle.std.specs.Prelude.{ℕ, zero, suc, ◌≡◌, ◌≢◌, ◌*◌, ◌+◌, Bool, List, [], is_some, Option, Some, None, Result, MatchResult, IfErr}
use Rattle.std.specs.Option.{option_or, option_map}
use Rattle.std.specs.FinMap.{get}
use Rattle.ipl_base.specs.declared.limits.TheConstants.{PAGES, SLOTS, UNIT_NAMES}
use Rattle.ipl_base.specs.First.{first_below}
use Rattle.ipl_base.specs.declared.fault.ChipFault.{ChipFault}
use Rattle.ipl_base.specs.declared.fault.ChipFault.TheVariants.{ReadFault, Stopped, Damaged, Malformed, WornOut}
use Rattle.ipl_base.specs.declared.fault.ImageFault.{ImageFault}
use Rattle.ipl_base.specs.declared.fault.ImageFault.TheVariants.{Geometry, NotFormatted, Missing, Chip, Spent, NoSpare, TooManyNumbers}
use Rattle.chip_trait.specs.Story.{Contents}
use Rattle.chip_trait.specs.Told.{Told, Rose}
use Rattle.ipl_model.specs.State.{Map}
use Rattle.ipl_meaning.specs.Legible.{whole}
use Rattle.ipl_meaning.specs.Chart.{chart_of}
use Rattle.ipl_meaning.specs.Layout.{Layout}
use Rattle.ipl_meaning.specs.Stands.{Stands}
use Rattle.number_set.specs.Numbers.{among}
use Rattle.unit_io.specs.Reads.{OfContents}
use Rattle.ipl_meaning.specs.First.{count_below}
use Rattle.ipl_meaning.specs.Faults.{shape_fault}
use Rattle.ipl_meaning.specs.Chosen.{units_at}
use Rattle.ipl_meaning.specs.LaidOut.{layout_in}
use Rattle.page_rebuild.specs.Loaded.{load_fault, loaded_values}
use Rattle.image_check.specs.declared.fault.CheckFault.{CheckFault}
use Rattle.image_check.specs.declared.fault.CheckFault.TheVariants.{Image, OutOfMemory}

-- ---- faults

-- what is wrong with a page while no session is open: a base sector, or it has no room for its values
abbrev pub fault_of_page : Contents → Layout → ℕ → ℕ → Option ChipFault
fault_of_page x it u page = load_fault x it (among []) u page

-- what is wrong with the first such page of a unit
abbrev pub fault_of_unit : Contents → Layout → ℕ → Option ChipFault
fault_of_unit x it u = first_below (fault_of_page x it u) PAGES

-- what is wrong with the first such page, in rising order of unit and page
abbrev pub pages_fault : Contents → Layout → Option ChipFault
pages_fault x it = first_below (fault_of_unit x it) it.count

-- the first fault of a chip, if there is one
abbrev pub check_fault : Contents → ℕ → Option ImageFault
check_fault x places = option_or (shape_fault (chart_of x) places)
    (option_map (λ fault. Chip fault) (pages_fault x (layout_in (chart_of x) places)))

-- ---- records

-- f 0 + f 1 + .. below n
unfoldable pub total_below : (ℕ → ℕ) → ℕ → ℕ
total_below f zero = 0
total_below f (suc n) = total_below f n + f n

-- how many records a page has, as the chip has it
abbrev pub records_on : Contents → Layout → ℕ → ℕ → ℕ
records_on x it u page = count_below (λ slot. is_some (loaded_values x it u page slot)) SLOTS

-- a unit
abbrev pub records_of_unit : Contents → Layout → ℕ → ℕ
records_of_unit x it u = total_below (records_on x it u) PAGES

-- so many units
abbrev pub records_below : Contents → Layout → ℕ → ℕ
records_below x it units = total_below (records_of_unit x it) units

-- how many names of so many units have a record
abbrev pub records_in : ℕ → Map → ℕ
records_in units m = count_below (λ n. is_some (get m n)) (UNIT_NAMES * units)

-- ---- answers

-- it answers so many records where nothing is wrong, and else this fault, unless a read failed
abbrev pub TellsRecords : Option ChipFault → ℕ → Result ℕ ChipFault → Type 0
TellsRecords fault records result = MatchResult result
    (λ n. (fault ≡ None) × (n ≡ records))
    (λ e. e ≢ ReadFault → fault ≡ Some e)

-- the chip stands for no records, and this is its first fault
pub record IsUnwell (x : Contents) (places : ℕ) (fault : ImageFault) : Type 0 where
  pub first : check_fault x places ≡ Some fault
  pub stray : (m : Map) → ¬ Stands places (chart_of x) (whole m)

-- the records that a chip stands for are counted; or it stands for none, and the fault is the first there
-- is, unless a read failed
abbrev pub ChecksImage : Contents → ℕ → Result ℕ ImageFault → Type 0
ChecksImage x places result = MatchResult result
    (λ n. (m : Map) × Stands places (chart_of x) (whole m) × (n ≡ records_in (units_at (chart_of x) places) m))
    (λ fault. fault ≢ Chip ReadFault → IsUnwell x places fault)

-- the same, unless memory was wanting
abbrev pub Checks : Contents → ℕ → Result ℕ CheckFault → Type 0
Checks x places result = MatchResult result
    (λ n. (m : Map) × Stands places (chart_of x) (whole m) × (n ≡ records_in (units_at (chart_of x) places) m))
    (λ e. (fault : ImageFault) → e ≡ Image fault → fault ≢ Chip ReadFault → IsUnwell x places fault)

-- ---- causes

-- why a page isn't read, whatever the chip tells
abbrev pub IsReadingCause : ChipFault → Told → Told → Type 0
IsReadingCause ReadFault old new = Rose old.read_faults new.read_faults
IsReadingCause Stopped old new = ⊥
IsReadingCause (Damaged p s stored computed) old new = stored ≢ computed
IsReadingCause (Malformed p s) old new = Unit {0}
IsReadingCause (WornOut n) old new = ⊥

-- why a chip isn't well: never since a write failed, a place is worn, numbers are used up or have no room
abbrev pub IsCheckCause : ImageFault → Told → Told → Type 0
IsCheckCause (Chip fault) old new = IsReadingCause fault old new
IsCheckCause Spent old new = ⊥
IsCheckCause Geometry old new = Unit {0}
IsCheckCause NotFormatted old new = Unit {0}
IsCheckCause (Missing u) old new = Unit {0}
IsCheckCause (NoSpare n) old new = Unit {0}
IsCheckCause TooManyNumbers old new = ⊥

-- or memory was wanting
abbrev pub CheckCause : CheckFault → Told → Told → Type 0
CheckCause (Image fault) old new = IsCheckCause fault old new
CheckCause OutOfMemory old new = Unit {0}
