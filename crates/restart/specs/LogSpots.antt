-- Log sectors are read where they may stand, in rising order of place and sector: what that takes and leaves.
use Rattle.std.specs.Prelude.{ℕ, ◌≡◌, ◌<◌, ◌≤◌, ◌+◌, ◌*◌, Bool, false, true, List, length, Option, Some, Result, OnOk, IfOk, IfErr}
use Rattle.std.specs.Option.{option_map}
use Rattle.chip_trait.specs.Story.{Contents}
use Rattle.chip_trait.specs.Told.{Told}
use Rattle.ipl_base.specs.declared.fault.ImageFault.{ImageFault}
use Rattle.ipl_base.specs.First.{first_below}
use Rattle.ipl_format.specs.Sector.{Sector}
use Rattle.ipl_meaning.specs.Chart.{chart_of}
use Rattle.unit_io.specs.Reads.{OfContents}
use Rattle.ipl_meaning.specs.First.{at, with_one}
use Rattle.ipl_meaning.specs.Live.{Mark, kept, mark_of, is_live, is_log_spot}
use Rattle.ipl_meaning.specs.FoundLogs.{mask_of_sector}
use Rattle.ipl_meaning.specs.Faults.{TellsImageFault, is_image, is_told, log_fault, log_test}
use Rattle.ipl_base.specs.declared.limits.TheConstants.{OVERFLOW_SECTORS}
use Rattle.ipl_meaning.specs.Tables.{Places, OverflowLists}
use Rattle.overflow.specs.Lists.{spots_in, AreUnused}
use Rattle.restart.specs.declared.collecting.Gathered.{Gathered}
use Rattle.restart.specs.declared.findings.Findings.{Findings}
use Rattle.restart.specs.declared.findings.Heads.{Heads}
use Rattle.restart.specs.Collected.{records_at, AreKept}
use Rattle.restart.specs.Joins.{joined, kept_of}
use Rattle.restart.specs.Notes.{Notes, units_of, overflow_count_of, AreSized, IsNoted, FitsNotes}
use Rattle.restart.specs.Masked.{SamePlaces, IsMasked}
use Rattle.restart.specs.Counted.{SameHomes, StaysUnknown, AreHomes, AreReadLogs}
use Rattle.restart.specs.Scanned.{IsScanned}

-- by these headers log sectors may stand there
pub record MayScan (heads : Heads) (home number : ℕ) : Type 0 where
  pub place : home < length heads.all.now
  pub sector : number < 256
  pub spot : is_log_spot (at heads.all.now) (at heads.current.now) home number ≡ true

-- of what was found in the place, the live log sector, if it is one by these headers
abbrev pub live_found : Heads → ℕ → Option Sector → Option Sector
live_found heads p found = kept (is_live (at heads.all.now) (at heads.current.now) p) found

-- the notes and the tables are of these places and units, with room for the log sectors from the number k on, and the
-- flags of numbers were made for the status
pub record HaveRoom (heads : Heads) (k : ℕ) (it : Findings) : Type 0 where
  pub sized : AreSized (length heads.current.now) (length heads.all.now) it.noted.now it.overflow.now
  pub units : length it.directory.now.current ≡ length heads.current.now
  pub roomy : FitsNotes heads.all.now (at heads.current.now) k it.noted.now it.overflow.now
  pub flags : it.numbers.now.room ≡ it.status.now.most

-- the same tables and notes are filled still
pub record SameReferences (old new : Findings) : Type 0 where
  pub noted : new.noted.ghost_name ≡ old.noted.ghost_name
  pub directory : new.directory.ghost_name ≡ old.directory.ghost_name
  pub overflow : new.overflow.ghost_name ≡ old.overflow.ghost_name
  pub status : new.status.ghost_name ≡ old.status.ghost_name
  pub numbers : new.numbers.ghost_name ≡ old.numbers.ghost_name

-- and the status is as it was, with flags for as many numbers
pub record StillFills (old new : Findings) : Type 0 where
  pub references : SameReferences old new
  pub status : new.status.now ≡ old.status.now
  pub flags : new.numbers.now.room ≡ old.numbers.now.room

-- a log sector of the unit may be listed: the tables are of as many units, and of so many places
pub record MayList (unit places : ℕ) (notes : Notes) (it : Places) (lists : OverflowLists) : Type 0 where
  pub noted : unit < units_of notes
  pub listed : unit < length lists.spots
  pub units : length it.current ≡ length lists.spots
  pub places_are : lists.places ≡ places

-- and it may in an overflow place: none from the sector on is used there, and the unit has fewer than 16 elsewhere
pub record MayFind (unit p s : ℕ) (notes : Notes) (lists : OverflowLists) : Type 0 where
  pub few : overflow_count_of notes unit < OVERFLOW_SECTORS
  pub fewer : length (spots_in lists unit) < OVERFLOW_SECTORS
  pub least : 1 ≤ s
  pub clean : AreUnused lists.in_use p s

-- they are of these places and units still; and where it is done, with room from the number k on
pub record KeepRoom {T E : Type 0} (result : Result T E) (heads : Heads) (k : ℕ) (it : Findings) : Type 0 where
  pub roomy : OnOk result (FitsNotes heads.all.now (at heads.current.now) k it.noted.now it.overflow.now)
  pub sized : AreSized (length heads.current.now) (length heads.all.now) it.noted.now it.overflow.now

-- what was found at the number k, a live log sector or none, is tested, and then noted and listed, with the pages that
-- it names
pub record TakesLog {T : Type 0} (result : Result T ImageFault) (heads : Heads) (k : ℕ) (found : Option Sector)
    (old new : Findings) : Type 0 where
  pub fault : (marks : List Mark) → IsNoted old.noted.now old.overflow.now marks
      → TellsImageFault (log_test (at heads.all.now) marks k found) result
  pub image : IfErr result (λ e. is_told false e ≡ true)
  pub noted : OnOk result ((marks : List Mark) → IsNoted old.noted.now old.overflow.now marks
      → IsNoted new.noted.now new.overflow.now
      (with_one marks (option_map (mark_of (at heads.all.now) k) found)))
  pub masked : OnOk result ((masks : ℕ → ℕ → ℕ) → ((u : ℕ) → masks u k ≡ mask_of_sector u found)
      → IsMasked (at heads.all.now) (at heads.current.now) masks k old.directory.now old.overflow.now
      → IsMasked (at heads.all.now) (at heads.current.now) masks (k + 1) new.directory.now new.overflow.now)
  pub places : SamePlaces old.directory.now new.directory.now
  pub room : KeepRoom result heads (k + 1) new
  pub still : StillFills old new

-- the committed numbers of what was found, a live log sector or none, join those that are kept, where all of them fitted
-- so far and do still
abbrev pub JoinsRecords : Option Sector → Bool → Findings → Bool → Findings → Type 0
JoinsRecords found before old after new = (numbers : List ℕ) → AreKept numbers before (kept_of old.status.now.numbers old.numbers.now)
    → AreKept (joined old.status.now.numbers (records_at found) numbers) after (kept_of old.status.now.numbers new.numbers.now)

-- what was known of each unit's log sectors by those below the number k is known by those below the number n then; of a
-- unit of which nothing was known, nothing is; each has the place that it had; and the same is filled still
pub record ReadsLogs {T E : Type 0} (result : Result T E) (told : Told) (heads : Heads) (k n : ℕ) (old new : Findings)
    : Type 0 where
  pub logs : OnOk result (OfContents told (λ x. (mark : Option Sector)
      → AreHomes (at heads.all.now) (at heads.current.now)
      → AreReadLogs x mark (at heads.current.now) (length heads.current.now) k old.directory.now
      → AreReadLogs x mark (at heads.current.now) (length heads.current.now) n new.directory.now))
  pub unknown : StaysUnknown old.directory.now new.directory.now
  pub places : SameHomes old.directory.now new.directory.now
  pub still : StillFills old new

-- those below the number k are found
abbrev pub AreScanned : Contents → Heads → ℕ → ℕ → Gathered → Findings → Type 0
AreScanned x heads least k gathered it = IsScanned x (at heads.all.now) (at heads.current.now) it.status.now.numbers least k
    it.noted.now it.directory.now it.overflow.now (kept_of it.status.now.numbers it.numbers.now) gathered.fits gathered.greatest

-- Once those below the number k were found, those below the number n are; or it fails with the fault of the first that
-- has one, unless a call of the chip failed.
pub record ScansLogs (result : Result Gathered ImageFault) (told : Told) (heads : Heads) (k n : ℕ) (before : Gathered)
    (old new : Findings) : Type 0 where
  pub scanned : IfOk result (λ all. OfContents told (λ x. (least : ℕ)
      → AreScanned x heads least k before old → AreScanned x heads least n all new))
  pub fault : IfErr result (λ e. OfContents told (λ x. (least : ℕ) → AreScanned x heads least k before old
      → is_image e ≡ true
      → first_below (log_fault (at heads.all.now) (at heads.current.now) (chart_of x)) (length heads.all.now * 256)
      ≡ Some e))
  pub room : KeepRoom result heads n new
  pub logs : ReadsLogs result told heads k n old new
