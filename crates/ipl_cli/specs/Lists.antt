-- A listing of a chip: what it says, and what is left.
use Rattle.std.specs.Prelude.{◌≡◌, ◌≢◌, ◌⊎◌, ◌+◌, ◌*◌, ◌/◌, ◌%◌, ℕ, zero, suc, List, [], ◌∷◌, ◌++◌, All, IfSome, Option, Some, None, Result, Ok, Err, if◌then◌else◌}
use Rattle.std.specs.Option.{option_map}
use Rattle.std.specs.FinMap.{get}
use Rattle.chip_trait.specs.Story.{Story, Contents, pieces}
use Rattle.chip_trait.specs.Told.{Told, Rose, adds_all}
use Rattle.ipl_base.specs.First.{first_below}
use Rattle.ipl_base.specs.Places.{IsGeometry}
use Rattle.ipl_base.specs.declared.limits.TheConstants.{PAGES, SLOTS, UNIT_NAMES}
use Rattle.ipl_base.specs.declared.fault.ChipFault.{ChipFault}
use Rattle.ipl_base.specs.declared.fault.ChipFault.TheVariants.{ReadFault, Stopped, Damaged, Malformed, WornOut}
use Rattle.ipl_base.specs.declared.fault.ImageFault.{ImageFault}
use Rattle.ipl_base.specs.declared.fault.ImageFault.TheVariants as image
use Rattle.ipl_model.specs.Text.{reply_text}
use Rattle.ipl_model.specs.declared.reply.Reply.TheVariants as reply
use Rattle.ipl_meaning.specs.Chart.{chart_of}
use Rattle.ipl_meaning.specs.Chosen.{units_at}
use Rattle.ipl_meaning.specs.Legible.{Legible, IsToldApart}
use Rattle.ipl_meaning.specs.Stands.{Stands}
use Rattle.unit_io.specs.Reads.{OfContents}
use Rattle.unit_io.specs.ReadsAt.{Anywhere, IsReadAt}
use Rattle.store_trait.specs.Onward.{Further}
use Rattle.script_run.specs.Run.{IsSaidOr, SaysLines}
use Rattle.image_check.specs.Checked.{IsReadingCause, IsUnwell, check_fault}
use Rattle.record_reader.specs.Reading.{page_fault}
use Rattle.command_line.specs.declared.end.End.{End}
use Rattle.command_line.specs.declared.end.End.TheVariants.{Words, Chip, OutOfMemory, Script, Output, TooLong}
use Rattle.ipl_cli.specs.Ending.{Ending, IsLeftAlone, but_noted}

-- ---- the lines

-- the line of a name, where it has a value
abbrev pub line_of : ℕ → Option (List ℕ) → List (List ℕ)
line_of n None = []
line_of n (Some value) = reply_text (reply.Row n value) ∷ []

-- and its page is one of those that read
abbrev pub line_in : Legible → ℕ → List (List ℕ)
line_in m n = if m.pages.reads (n / UNIT_NAMES) (n / SLOTS % PAGES) then line_of n (get m.map n) else []

-- the lines of the k names from a on
unfoldable pub lines_from : Legible → ℕ → ℕ → List (List ℕ)
lines_from m a zero = []
lines_from m a (suc k) = lines_from m a k ++ line_in m (a + k)

-- the lines of so many names, and the last one
abbrev pub lines_and_end : Legible → ℕ → List (List ℕ)
lines_and_end m names = lines_from m 0 names ++ reply_text reply.End ∷ []

-- all lines of so many units: a line for each record, and one that says that these are all
abbrev pub listing : Legible → ℕ → List (List ℕ)
listing m units = lines_and_end m (UNIT_NAMES * units)

-- ---- what is said

-- nothing but reads was added, and these pieces were said
pub record SaysAmidReads (said : List (List ℕ)) (old new : Told) : Type 0 where
  pub added : Story
  pub only : All (IsSaidOr (IsReadAt Anywhere)) added
  pub says : pieces added ≡ said
  pub history : new.history ≡ option_map (adds_all added) old.history
  pub settled : new.settled ≡ old.settled
  pub contents : new.contents ≡ old.contents
  pub further : Further old new

-- all of them
abbrev pub AllLines : List (List ℕ) → List (List ℕ) → Type 0
AllLines lines said = said ≡ lines

-- a beginning of these lines was said amid reads
abbrev pub SaysPart : List (List ℕ) → Told → Told → Type 0
SaysPart lines old new = (said : List (List ℕ)) × SaysAmidReads said old new × SaysLines lines said

-- of a name: its line, or a beginning of it
abbrev pub SaysName : ℕ → Option (List ℕ) → Result (Unit {0}) End → Told → Told → Type 0
SaysName n value (Ok u) old new = SaysAmidReads (line_of n value) old new
SaysName n value (Err end) old new = SaysPart (line_of n value) old new

-- of the k names from a on, whatever records the chip stands for: their lines, or a beginning of them
pub record SaysFrom (Part : List (List ℕ) → List (List ℕ) → Type 0) (a k : ℕ) (old new : Told) : Type 0 where
  pub said : List (List ℕ)
  pub says : SaysAmidReads said old new
  pub part : OfContents old (λ x. (m : Legible) → Stands old.places (chart_of x) m → IsToldApart m.pages
      → Part (lines_from m a k) said)

-- why a listing ends before its end, once the chip was looked over: a line couldn't be said, or a read failed
abbrev pub ListedCause : End → Told → Told → Type 0
ListedCause Words old new = ⊥
ListedCause (Chip fault) old new = (fault ≡ image.Chip ReadFault) × Rose old.read_faults new.read_faults
ListedCause OutOfMemory old new = ⊥
ListedCause Script old new = ⊥
ListedCause Output old new = Rose old.beside.say_faults new.beside.say_faults
ListedCause TooLong old new = ⊥

-- what a name's fault makes of a listing: a page that doesn't read is passed over, and a failed read ends it
abbrev pub passed_over : ChipFault → Result (Option ChipFault) End
passed_over ReadFault = Err (Chip (image.Chip ReadFault))
passed_over Stopped = Ok (Some Stopped)
passed_over (Damaged p s stored computed) = Ok (Some (Damaged p s stored computed))
passed_over (Malformed p s) = Ok (Some (Malformed p s))
passed_over (WornOut n) = Ok (Some (WornOut n))

-- what is wrong with a page, whatever the chip tells, is no failed read
pub record IsFoundFault (fault : ChipFault) (old new : Told) : Type 0 where
  pub cause : IsReadingCause fault old new
  pub found : fault ≢ ReadFault

-- What is left where the lines of the k names from a on were to be said. What is wrong with the first of these pages is
-- answered.
abbrev pub SaysRange : (Contents → Option ChipFault) → ℕ → ℕ → Result (Option ChipFault) End → Told → Told → Type 0
SaysRange fault a k (Ok first) old new = SaysFrom AllLines a k old new × OfContents old (λ x. first ≡ fault x)
    × IfSome first (λ f. IsFoundFault f old new)
SaysRange fault a k (Err end) old new = SaysFrom SaysLines a k old new × ListedCause end old new

-- such a part of these was said
pub record SaysAll (Part : List (List ℕ) → List (List ℕ) → Type 0) (names : ℕ) (old new : Told) : Type 0 where
  pub said : List (List ℕ)
  pub says : SaysAmidReads said old new
  pub part : OfContents old (λ x. (m : Legible) → Stands old.places (chart_of x) m → IsToldApart m.pages
      → Part (lines_and_end m names) said)

-- what is wrong with the first page of which something is
abbrev pub first_fault_of : ℕ → ℕ → Contents → Option ChipFault
first_fault_of places names x = first_below (page_fault x places) (names / SLOTS)

-- the lines of a chip of so many names that was looked over were said: all of them, and something is wrong with a page
pub record FindsBadPage (names : ℕ) (end : End) (old new : Told) : Type 0 where
  pub fault : ChipFault
  pub end_is : end ≡ Chip (image.Chip fault)
  pub lists : SaysAll AllLines names old new
  pub first : OfContents old (λ x. Some fault ≡ first_fault_of old.places names x)
  pub found : IsFoundFault fault old new

-- What a listing leaves of a chip of so many names that was looked over.
abbrev pub ListsLooked : ℕ → Ending → Told → Told → Type 0
ListsLooked names (Ok u) old new = SaysAll AllLines names old new × OfContents old (λ x. None ≡ first_fault_of old.places names x)
ListsLooked names (Err end) old new =
    (SaysAll SaysLines names old new × ListedCause end old new) ⊎ FindsBadPage names end old new

-- where the chip tells what it holds: whatever records of some pages that stands for, the others known not
-- to read well, this was said of all its lines
abbrev pub SaysOf : (List (List ℕ) → List (List ℕ) → Type 0) → List (List ℕ) → Told → Type 0
SaysOf Part said old = OfContents old (λ x. (m : Legible) → Stands old.places (chart_of x) m → IsToldApart m.pages
    → Part (listing m (units_at (chart_of x) old.places)) said)

-- ---- what is left

-- The chip was only read, and such a part of the lines was said.
pub record ListsRecords (Part : List (List ℕ) → List (List ℕ) → Type 0) (old new : Told) : Type 0 where
  pub said : List (List ℕ)
  pub listed : Told
  pub says : SaysAmidReads said old listed
  pub part : SaysOf Part said old
  pub noted : new ≡ but_noted listed new.beside.noted

-- A fault of the chip ended it. All lines were said of the pages that read, unless a read failed: then a beginning
-- of them. A chip of another number of places was left alone.
pub record ListsUnwell (fault : ImageFault) (old new : Told) : Type 0 where
  pub all : fault ≢ image.Chip ReadFault → ListsRecords AllLines old new
  pub part : ListsRecords SaysLines old new
  pub unwell : fault ≢ image.Chip ReadFault → OfContents old (λ x. IsUnwell x old.places fault)
  pub other : ¬ IsGeometry old.places → IsLeftAlone old new

-- Nothing is wrong with the chip, and all lines were said.
pub record ListsAll (old new : Told) : Type 0 where
  pub lists : ListsRecords AllLines old new
  pub sound : OfContents old (λ x. check_fault x old.places ≡ None)

-- what a listing leaves
abbrev pub ListLeaves : Ending → Told → Told → Type 0
ListLeaves (Ok u) old new = ListsAll old new
ListLeaves (Err Words) old new = ⊥
ListLeaves (Err (Chip fault)) old new = ListsUnwell fault old new
ListLeaves (Err OutOfMemory) old new = IsLeftAlone old new
ListLeaves (Err Script) old new = ⊥
ListLeaves (Err Output) old new = ListsRecords SaysLines old new
ListLeaves (Err TooLong) old new = ⊥
