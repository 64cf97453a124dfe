-- What is wrong with a page where it is read.
use Rattle.std.specs.Prelude.{ℕ, zero, suc, ◌≡◌, ◌≢◌, ◌<◌, ◌+◌, ◌*◌, ◌==◌, ◌&&◌, Bool, true, false, not, nat_le, nat_lt, if◌then◌else◌, List, [], ◌∷◌, ◌++◌, length, take, drop, Option, Some, None, Result, MatchResult}
use Rattle.std.specs.List.{list_all}
use Rattle.std.specs.Option.{option_or}
use Rattle.ipl_base.specs.declared.limits.TheConstants.{PAGE_LEN, PAYLOAD_LEN, PAGE_SECTORS}
use Rattle.chip_trait.specs.Story.{Contents}
use Rattle.chip_trait.specs.Told.{Told, Rose}
use Rattle.ipl_base.specs.First.{first_below}
use Rattle.ipl_base.specs.declared.fault.ChipFault.{ChipFault}
use Rattle.ipl_base.specs.declared.fault.ChipFault.TheVariants.{ReadFault, Stopped, Damaged, Malformed, WornOut}
use Rattle.ipl_format.specs.Sector.{Sector, stored_sum, computed_sum, sector_in}
use Rattle.ipl_format.specs.Page.{Slots, IsPage, IsCutInto, page_text}
use Rattle.ipl_format.specs.Place.{base_sector_of}
use Rattle.ipl_format.specs.Version.{len_size}
use Rattle.page_text.specs.Reading.{has_slot, size_at}
use Rattle.ipl_meaning.specs.Chart.{Chart, chart_of}
use Rattle.ipl_meaning.specs.Layout.{base_sector}
use Rattle.unit_io.specs.Spots.{IsPieceSpot}

-- ---- one piece

abbrev pub is_ones : ℕ → Bool
is_ones byte = byte == 255

-- something was written, and the sums differ
unfoldable pub is_damaged : List ℕ → Bool
is_damaged bytes = not (list_all is_ones bytes) && not (stored_sum bytes == computed_sum bytes)

-- a base sector with these numbers in its head
abbrev pub is_base : ℕ → ℕ → ℕ → ℕ → Sector → Bool
is_base version u generation serial s =
    (s.kind == 4) && (s.version == version) && (s.unit == u) && (s.generation == generation)
    && (s.serial == serial)

-- a piece uses 480 bytes; the last one of a text any number but 0
abbrev pub is_filled : Bool → ℕ → Bool
is_filled last used = if last then nat_lt 0 used else used == PAYLOAD_LEN

-- what a sector says is such a piece
abbrev pub is_piece : ℕ → ℕ → ℕ → ℕ → Bool → Option Sector → Bool
is_piece version u generation serial last None = false
is_piece version u generation serial last (Some s) =
    is_base version u generation serial s && is_filled last (length s.payload)

-- what is wrong with the bytes of a sector that has to hold a piece
unfoldable pub piece_fault : ℕ → ℕ → ℕ → ℕ → ℕ → ℕ → Bool → List ℕ → Option ChipFault
piece_fault place sector version u generation serial last bytes =
    if is_damaged bytes then Some (Damaged place sector (stored_sum bytes) (computed_sum bytes))
    else (if is_piece version u generation serial last (sector_in bytes) then None
    else Some (Malformed place sector))

-- ---- the text

abbrev pub payload_of : Option Sector → List ℕ
payload_of None = []
payload_of (Some s) = s.payload

-- what the first n base sectors of a page hold
abbrev pub text_below : Chart → ℕ → ℕ → ℕ → List ℕ
text_below c place page zero = []
text_below c place page (suc n) = text_below c place page n ++ payload_of (c place (base_sector_of page n))

-- the length that stands behind a slot is written in bytes
abbrev pub has_len : ℕ → List ℕ → Bool
has_len version bytes = list_all (λ byte. nat_lt byte 256) (take (len_size version) (drop 1 bytes))

-- the bytes are records of rising slots from `least` on, at most n of them
abbrev pub is_text_from : ℕ → ℕ → ℕ → List ℕ → Bool
is_text_from version zero least [] = true
is_text_from version zero least (byte ∷ bytes) = false
is_text_from version (suc n) least [] = true
is_text_from version (suc n) least (byte ∷ bytes) =
    has_slot version least (byte ∷ bytes) && (has_len version (byte ∷ bytes)
    && is_text_from version n (byte + 1)
    (drop (1 + len_size version + size_at version (byte ∷ bytes)) (byte ∷ bytes)))

-- the bytes are the text of a page, in a version
unfoldable pub is_page_text : ℕ → List ℕ → Bool
is_page_text version bytes =
    nat_le (length bytes) PAGE_LEN && is_text_from version (length bytes) 0 bytes

-- ---- the page

-- what is wrong with the i-th of so many pieces
abbrev pub piece_fault_at : Contents → ℕ → ℕ → ℕ → ℕ → ℕ → ℕ → ℕ → Option ChipFault
piece_fault_at x place version u generation page pieces i =
    piece_fault place (base_sector_of page i) version u generation (page * PAGE_SECTORS + i)
    (i + 1 == pieces) (x place (base_sector_of page i))

-- what is wrong with a text that has to be a page's
abbrev pub text_fault : ℕ → ℕ → ℕ → List ℕ → Option ChipFault
text_fault place version page text =
    if is_page_text version text then None else Some (Malformed place (base_sector_of page 0))

-- The first piece that is wrong, in their order; and where none is, the text. The page is of this
-- version, unit and generation, those of its data header, and has so many pieces.
unfoldable pub page_fault : Contents → ℕ → ℕ → ℕ → ℕ → ℕ → ℕ → Option ChipFault
page_fault x place version u generation page pieces =
    option_or (first_below (piece_fault_at x place version u generation page pieces) pieces)
    (text_fault place version page (text_below (chart_of x) place page pieces))

-- the answer tells this fault, or that there is none; unless a read failed
abbrev pub TellsChipFault : {T : Type 0} → Option ChipFault → Result T ChipFault → Type 0
TellsChipFault fault result = MatchResult result (λ _. fault ≡ None) (λ e. e ≢ ReadFault → fault ≡ Some e)

-- why a page isn't read, whatever the chip tells: a read failed and its count rose; or a base sector of the page is at fault,
-- and where it is damaged its sums differ
abbrev pub IsPageCause : ℕ → ℕ → ChipFault → Told → Told → Type 0
IsPageCause place page ReadFault old new = Rose old.read_faults new.read_faults
IsPageCause place page Stopped old new = ⊥
IsPageCause place page (Damaged p s stored computed) old new = (p ≡ place) × IsPieceSpot page PAGE_SECTORS s × (stored ≢ computed)
IsPageCause place page (Malformed p s) old new = (p ≡ place) × IsPieceSpot page PAGE_SECTORS s
IsPageCause place page (WornOut n) old new = ⊥

-- the page's base sectors read well: they hold the text of these slots, cut into so many pieces
pub record HoldsPage (c : Chart) (place version u generation page pieces : ℕ) (slots : Slots)
    : Type 0 where
  pub fits : IsPage version slots
  pub cut : IsCutInto (page_text version slots) pieces
  pub here : (i : ℕ) → i < pieces → c place (base_sector_of page i)
      ≡ Some (base_sector version u generation page i (page_text version slots))
