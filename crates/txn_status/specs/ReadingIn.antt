-- What the commit sectors and close marks of a place make of the status.
use Rattle.std.specs.Prelude.{ℕ, ◌≡◌, ◌≤◌, ◌<◌, ◌+◌, true, length, List, [], Option, Some, None, Result, MatchResult, Ok, Err, IfOk, IfErr, OnOk}
use Rattle.chip_trait.specs.Told.{Told}
use Rattle.ipl_base.specs.declared.limits.TheConstants.{SECTORS}
use Rattle.ipl_base.specs.declared.fault.ChipFault.{ChipFault}
use Rattle.ipl_base.specs.declared.fault.ChipFault.TheVariants.{ReadFault}
use Rattle.ipl_base.specs.declared.fault.ImageFault.{ImageFault}
use Rattle.ipl_base.specs.declared.fault.ImageFault.TheVariants.{Chip, TooManyNumbers}
use Rattle.ipl_format.specs.Sector.{Sector}
use Rattle.ipl_meaning.specs.Chart.{Chart}
use Rattle.ipl_meaning.specs.Tables.{StatusTable}
use Rattle.unit_io.specs.ReadsAt.{ReadsAt, ReadsOnce, IsCauseAt}
use Rattle.ipl_base.specs.First.{first_below}
use Rattle.ipl_meaning.specs.Chosen.{Winner}
use Rattle.ipl_meaning.specs.Live.{sectors}
use Rattle.ipl_meaning.specs.LaidOut.{committed_numbers}
use Rattle.ipl_meaning.specs.Faults.{TellsImageFault, noted_fault, greatest_of_notes}
use Rattle.number_set.specs.Numbers.{Numbers, with_numbers}

-- ---- which sectors

-- where commit sectors and close marks may stand in a place
abbrev pub IsCommitSpot : ℕ → ℕ → ℕ → Type 0
IsCommitSpot place p s = (p ≡ place) × (1 ≤ s) × (s < SECTORS)

-- a sector of the place
abbrev pub IsOfPlace : ℕ → ℕ → ℕ → Type 0
IsOfPlace place p s = (p ≡ place) × (s < SECTORS)

-- However the call ended, it added nothing but reads of these sectors, of each at most one. Where it
-- failed, a read did and the count of these rose; or one of these sectors isn't what it must be.
pub record LooksOnceAt {T : Type 0} (At : ℕ → ℕ → Type 0) (result : Result T ChipFault)
    (old new : Told) : Type 0 where
  pub reads : ReadsAt At old new
  pub once : ReadsOnce At old new
  pub cause : IfErr result (λ e. IsCauseAt At e old new)

-- The commit sectors and close marks that count are those of this place with this generation. Of a
-- header their rules look at no more.
abbrev pub under : ℕ → ℕ → Option Winner
under place generation = Some (record {
  place = place;
  head = record {
    kind = 2;
    unit = 0;
    generation = generation;
    serial = generation;
    said = None;
    well = true;
    erases = 1;
  };
})

-- ---- the header

-- a status header stands at the place
abbrev pub IsStatusAt : Chart → ℕ → Sector → Type 0
IsStatusAt c place head = (c place 0 ≡ Some head) × (head.kind ≡ 2)

-- its generation is answered, unless the read failed
abbrev pub IsHeadRead : Sector → Result ℕ ChipFault → Type 0
IsHeadRead head result = MatchResult result (λ n. n ≡ head.generation) (λ e. e ≡ ReadFault)

-- ---- the numbers

-- at most so many came, and there is room for as many as before
pub record GrowsBy (n : ℕ) (old new : Numbers) : Type 0 where
  pub few : length new.list ≤ length old.list + n
  pub most : new.most ≡ old.most

-- the numbers of those sectors, in rising order
abbrev pub numbers_at : Chart → Option Winner → List ℕ
numbers_at c status = with_numbers (committed_numbers c status) []

-- the status with the numbers of those sectors, and room for so many, no sector known clean
abbrev pub status_in : ℕ → Chart → ℕ → ℕ → StatusTable
status_in most c place generation = record {
  place = place;
  generation = generation;
  numbers = numbers_at c (under place generation);
  most = most;
  first = SECTORS;
}

-- what a call answers that stops where numbers have no room, as an answer of an image
abbrev pub of_image : {T : Type 0} → Result (Option T) ChipFault → Result T ImageFault
of_image (Ok (Some v)) = Ok v
of_image (Ok None) = Err TooManyNumbers
of_image (Err e) = Err (Chip e)

-- where it stopped since numbers have no room
abbrev pub OnFull : {T : Type 0} → Result (Option T) ChipFault → Type 0 → Type 0
OnFull (Ok (Some v)) F = Unit {0}
OnFull (Ok None) F = F
OnFull (Err e) F = Unit {0}

-- The sectors were read in, where there are so many units: the answer tells the first that is
-- malformed, unless a read failed or the numbers have no room; and where none is, it is the greatest number
-- found, and the status has their numbers. Where they have no room, they are more than that.
pub record IsReadIn (units most : ℕ) (c : Chart) (place generation : ℕ)
    (result : Result (Option ℕ) ChipFault) (status : StatusTable) : Type 0 where
  pub fault : TellsImageFault (first_below (noted_fault units c (under place generation)) sectors)
      (of_image result)
  pub greatest : IfOk (of_image result) (λ n. n ≡ greatest_of_notes 0 c (under place generation) sectors)
  pub status_is : OnOk (of_image result) (status ≡ status_in most c place generation)
  pub many : OnFull result (most < length (numbers_at c (under place generation)))
