-- The headers of the program, and their payloads.
use Rattle.std.specs.Prelude.{◌≡◌, ℕ, nat_le, if◌then◌else◌, List, Some}
use Rattle.ipl_format.specs.Numbers.{word_at}
use Rattle.ipl_format.specs.Sector.{Sector}
use Rattle.ipl_format.specs.Header.{SpellsDataHeader, SpellsStatusHeader, SpellsOverflowHeader, erases_said}
use Rattle.unit_layout.specs.declared.header.DataHeader.{DataHeader}
use Rattle.unit_layout.specs.declared.status.StatusHeader.{StatusHeader}

-- the payload says what the data header says
pub record SpellsHeader (version : ℕ) (h : DataHeader) (payload : List ℕ) : Type 0 where
  pub spelled : SpellsDataHeader version h.units h.pieces payload
  pub carried_is : spelled.carried ≡ h.carried
  pub erases_are : spelled.erases ≡ h.erases

-- it says what the status header says, and that these places are retired
pub record SpellsStatus (version places : ℕ) (h : StatusHeader) (retired payload : List ℕ) : Type 0 where
  pub spelled : SpellsStatusHeader version places h.units payload
  pub erases_are : spelled.erases ≡ h.erases
  pub retired_are : spelled.retired ≡ retired

-- it says these numbers of an overflow header
pub record SpellsOverflow (version units erases : ℕ) (payload : List ℕ) : Type 0 where
  pub spelled : SpellsOverflowHeader version units payload
  pub erases_are : spelled.erases ≡ erases

-- the count that stands there in a payload of this version
abbrev pub erases_at : ℕ → ℕ → List ℕ → ℕ
erases_at version at payload = if nat_le 3 version then word_at at payload else 1

-- each sector of this kind, version and payload says that its place was erased so often
abbrev pub SayErases : ℕ → ℕ → List ℕ → ℕ → Type 0
SayErases kind version payload erases =
    (s : Sector) → s.kind ≡ kind → s.version ≡ version → s.payload ≡ payload → erases_said (Some s) ≡ erases
