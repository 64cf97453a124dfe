-- A page's text in memory, and where the record of each slot stands in it.
use Rattle.std.specs.Prelude.{ℕ, zero, suc, ◌&&◌, Bool, true, nat_le, ◌≡◌, ◌≤◌, ◌<◌, ◌+◌, ◌-◌, ◌==◌, ◌⊎◌, List, [], ◌∷◌, length, take, drop, slice_index, Option, Some, None, if◌then◌else◌}
use Rattle.ipl_base.specs.declared.limits.TheConstants.{PAGE_LEN, SLOTS, VALUE_LEN, VERSION}
use Rattle.ipl_format.specs.Numbers.{half_at}
use Rattle.ipl_format.specs.Page.{Slots, IsPage, page_text}
use Rattle.page_text.specs.declared.moving.TheConstants.{HEAD}

-- how many bytes a slot's record has
abbrev pub size_of : Option (List ℕ) → ℕ
size_of None = 0
size_of (Some value) = HEAD + length value

-- how many the records of the first n slots have
unfoldable pub size_below : ℕ → Slots → ℕ
size_below zero page = 0
size_below (suc n) [] = 0
size_below (suc n) (o ∷ rest) = size_of o + size_below n rest

-- what the record between two places has as its value, where there is one
abbrev pub value_between : List ℕ → ℕ → ℕ → Option (List ℕ)
value_between bytes from until =
    if from == until then None else Some (take (until - (from + HEAD)) (drop (from + HEAD) bytes))

-- the slots whose records stand between these places
unfoldable pub page_in : List ℕ → List ℕ → Slots
page_in bytes [] = []
page_in bytes (a ∷ []) = []
page_in bytes (a ∷ b ∷ rest) = value_between bytes a b ∷ page_in bytes (b ∷ rest)

-- the bytes begin with the page's text, and these are the places of its records
pub record IsIndexed (bytes bounds : List ℕ) (page : Slots) : Type 0 where
  pub slots : IsPage VERSION page
  pub places : (k : ℕ) → k ≤ SLOTS → slice_index bounds k ≡ size_below k page
  pub text : take (size_below SLOTS page) bytes ≡ page_text VERSION page

-- all bytes that there are, and the page whose text they begin with
pub record BytesView : Type 0 where
  pub bytes : List ℕ
  pub page : Slots

-- places that don't fall, and end within the bytes
pub record AreBounds (bounds : List ℕ) : Type 0 where
  pub rise : (i j : ℕ) → i ≤ j → j ≤ SLOTS → slice_index bounds i ≤ slice_index bounds j
  pub within : slice_index bounds SLOTS ≤ PAGE_LEN

-- the places behind a slot are moved: what was at `from` is at `to` now
pub record AreMoved (slot from to : ℕ) (old new : List ℕ) : Type 0 where
  pub count : length new ≡ length old
  pub before : (k : ℕ) → k ≤ slot → slice_index new k ≡ slice_index old k
  pub behind : (k : ℕ) → slot < k → k ≤ SLOTS → slice_index new k + from ≡ slice_index old k + to

-- a page's text of so many bytes, and the places of its records
pub record HasPlaces (bytes bounds : List ℕ) (until : ℕ) : Type 0 where
  pub page : Slots
  pub count : length bounds ≡ 65
  pub indexed : IsIndexed bytes bounds page
  pub size : size_below SLOTS page ≡ until

-- a whole record stands here, with a value that isn't too long
abbrev pub has_record : List ℕ → ℕ → ℕ → Bool
has_record bytes at until =
    nat_le (at + HEAD) until
    && (nat_le (half_at (at + 1) bytes) VALUE_LEN
    && nat_le (at + HEAD + half_at (at + 1) bytes) until)

-- something stands here, and its first byte is the slot's number
abbrev pub BeginsWith : List ℕ → ℕ → ℕ → ℕ → Type 0
BeginsWith bytes at until slot = (at < until) × (slice_index bytes at ≡ slot)

-- the record of a slot that may stand here ends there
abbrev pub RecordEndsAt : List ℕ → ℕ → ℕ → ℕ → ℕ → Type 0
RecordEndsAt bytes at until slot next =
    ((BeginsWith bytes at until slot → ⊥) × (next ≡ at))
    ⊎ (BeginsWith bytes at until slot × (has_record bytes at until ≡ true)
    × (next ≡ at + HEAD + half_at (at + 1) bytes))
