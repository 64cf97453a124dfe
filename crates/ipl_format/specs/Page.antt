-- A page of 64 slots, and its text, which the payloads of its base sectors hold (docs/FORMAT.md, "Page text").
use Rattle.std.specs.Prelude.{ℕ, suc, ◌≡◌, ◌≤◌, ◌<◌, ◌+◌, ◌*◌, List, [], ◌∷◌, ◌++◌, length, take, drop, replicate, slice_index_or, Option, Some, None, All}
use Rattle.ipl_base.specs.declared.limits.TheConstants.{PAYLOAD_LEN, PAGE_LEN, SLOTS}
use Rattle.ipl_format.specs.Version.{most_len, len_bytes}

-- what each slot holds
abbrev pub Slots : Type 0
Slots = List (Option (List ℕ))

-- the same as a function of the slot
abbrev pub value_in : Slots → ℕ → Option (List ℕ)
value_in page slot = slice_index_or page slot None

-- a page with nothing
unfoldable pub empty_page : Slots
empty_page = replicate SLOTS None

-- a slot's value has no more bytes than the version has
abbrev pub IsShort : ℕ → Option (List ℕ) → Type 0
IsShort version None = Unit {0}
IsShort version (Some value) = length value ≤ most_len version

-- the record of a slot: its number, the length, the value; an empty slot has none
abbrev pub slot_bytes : ℕ → ℕ → Option (List ℕ) → List ℕ
slot_bytes version slot None = []
slot_bytes version slot (Some value) = slot ∷ (len_bytes version (length value) ++ value)

-- the records of the slots from this one on, by rising slots
unfoldable pub text_from : ℕ → ℕ → Slots → List ℕ
text_from version slot [] = []
text_from version slot (o ∷ rest) = slot_bytes version slot o ++ text_from version (suc slot) rest

-- the text of the page
abbrev pub page_text : ℕ → Slots → List ℕ
page_text version page = text_from version 0 page

-- a page has 64 slots, short values, and a text that 16 base sectors hold
pub record IsPage (version : ℕ) (page : Slots) : Type 0 where
  pub slots : length page ≡ SLOTS
  pub short : All (IsShort version) page
  pub fits : length (page_text version page) ≤ PAGE_LEN

-- the bytes are the text of this page
pub record SpellsPage (version : ℕ) (bytes : List ℕ) (page : Slots) : Type 0 where
  pub slots : IsPage version page
  pub text : bytes ≡ page_text version page

-- the bytes are the text of a page
abbrev pub IsPageText : ℕ → List ℕ → Type 0
IsPageText version bytes = (page : Slots) × SpellsPage version bytes page

-- the i-th piece of a text, which one base sector holds
abbrev pub piece_of : List ℕ → ℕ → List ℕ
piece_of text i = take PAYLOAD_LEN (drop (PAYLOAD_LEN * i) text)

-- so many pieces hold the text, and fewer don't
pub record IsCutInto (text : List ℕ) (pieces : ℕ) : Type 0 where
  pub enough : length text ≤ PAYLOAD_LEN * pieces
  pub needed : PAYLOAD_LEN * pieces < length text + PAYLOAD_LEN
