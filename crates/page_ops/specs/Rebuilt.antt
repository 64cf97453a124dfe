-- A page that is made anew from the text of its base and the records of its unit's log.
use Rattle.std.specs.Prelude.{ℕ, zero, suc, ◌≡◌, ◌<◌, ◌+◌, ◌==◌, Bool, List, [], ◌∷◌, ◌++◌, length, take, drop, slice_index, Option, Some, None, if◌then◌else◌, nat_lt}
use Rattle.std.specs.List.{count_by, list_any}
use Rattle.ipl_base.specs.declared.limits.TheConstants.{PAGE_LEN, SLOTS}
use Rattle.ipl_base.specs.declared.fault.ChipFault.{ChipFault}
use Rattle.ipl_base.specs.declared.fault.ChipFault.TheVariants.{Malformed}
use Rattle.ipl_base.specs.Sizes.{size_of_values}
use Rattle.ipl_format.specs.Version.{len_size}
use Rattle.ipl_format.specs.Record.{Record}
use Rattle.ipl_format.specs.Page.{Slots, SpellsPage, value_in}
use Rattle.page_text.specs.Reading.{size_at}
use Rattle.ipl_meaning.specs.Values.{Values, counts_for, after_records}

-- ---- what a page holds in the end

-- what the text says of a slot: the value of the first record on it, among the first n
unfoldable pub value_at : ℕ → ℕ → List ℕ → ℕ → Option (List ℕ)
value_at version zero bytes slot = None
value_at version (suc n) [] slot = None
value_at version (suc n) (byte ∷ bytes) slot =
    if byte == slot
    then Some (take (size_at version (byte ∷ bytes)) (drop (1 + len_size version) (byte ∷ bytes)))
    else value_at version n
    (drop (1 + len_size version + size_at version (byte ∷ bytes)) (byte ∷ bytes)) slot

-- what the text of a page says of its slots
abbrev pub values_of : ℕ → List ℕ → Values
values_of version text slot = value_at version (length text) text slot

-- the values of a page with the records of committed numbers done to it
abbrev pub with_records : (ℕ → Bool) → ℕ → List Record → Values → Values
with_records committed page records base slot =
    after_records committed page slot records (base slot)

-- the values are more than the text of a page holds: what is said of a unit that stands at this place
abbrev pub full_fault : ℕ → Values → Option ChipFault
full_fault place values =
    if nat_lt PAGE_LEN (size_of_values values) then Some (Malformed place 0) else None

-- ---- on the way

-- for each slot, how many of the records count
abbrev pub AreComing : (ℕ → Bool) → ℕ → List Record → List ℕ → Type 0
AreComing committed page records counts = (slot : ℕ) → slot < SLOTS
    → slice_index counts slot ≡ count_by (counts_for committed page slot) records

-- The page is made anew so far: a slot for which a record is still to come is empty, each other has
-- its value for good. Of all these records the rest is to come.
abbrev pub IsMadeSoFar : (ℕ → Bool) → ℕ → List Record → List Record → Values → Slots → Type 0
IsMadeSoFar committed page all rest base now = (slot : ℕ) → slot < SLOTS
    → value_in now slot ≡ (if list_any (counts_for committed page slot) rest then None
    else after_records committed page slot all (base slot))

-- So far the page is made anew, and so many records are to come on each slot.
pub record IsMaking (committed : ℕ → Bool) (page : ℕ) (all rest : List Record) (base : Values)
    (counts : List ℕ) (now : Slots) : Type 0 where
  pub done : List Record
  pub parts : all ≡ done ++ rest
  pub coming : AreComing committed page rest counts
  pub made : IsMadeSoFar committed page all rest base now

-- ---- laws

-- what the text of a page says of a slot is what the page holds there
abbrev pub TextsSayValues : Type 0
TextsSayValues = (version : ℕ) (text : List ℕ) (page : Slots) → SpellsPage version text page
    → (slot : ℕ) → slot < SLOTS → values_of version text slot ≡ value_in page slot
