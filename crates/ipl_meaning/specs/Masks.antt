-- Which pages the records of a log sector name, as one number.
use Rattle.std.specs.Prelude.{ℕ, ◌^◌, ◌==◌, ◌&&◌, Bool, List, [], ◌∷◌, if◌then◌else◌}
use Rattle.std.specs.List.{list_any, filter}
use Rattle.std.specs.Int.{bit_at}
use Rattle.std.specs.Int.Bits.{bit_or}
use Rattle.ipl_format.specs.Record.{Record}
use Rattle.ipl_meaning.specs.Layout.{Entry}

-- the mask with this page: bit p is page p's
abbrev pub with_page : ℕ → ℕ → ℕ
with_page mask page = bit_or mask (2 ^ page)

-- the mask has the page
abbrev pub has_page : ℕ → ℕ → Bool
has_page mask page = bit_at mask page == 1

-- the mask with the pages that these records name
abbrev pub mask_after : ℕ → List Record → ℕ
mask_after mask [] = mask
mask_after mask (r ∷ records) = mask_after (with_page mask r.page) records

-- the pages that records name
abbrev pub mask_of : List Record → ℕ
mask_of records = mask_after 0 records

-- one of the records names the page
abbrev pub names_page : ℕ → List Record → Bool
names_page page records = list_any (λ r. r.page == page) records

-- the entry stands at this spot
abbrev pub stands_at : Entry → ℕ → ℕ → Bool
stands_at e p s = (e.place == p) && (e.number == s)

-- the pages that the log sector at this spot names; none, where no log sector of the log stands there
abbrev pub mask_at : List Entry → ℕ → ℕ → ℕ
mask_at [] p s = 0
mask_at (e ∷ log) p s = if stands_at e p s then mask_of e.records else mask_at log p s

-- the same for a pair of place and sector
abbrev pub mask_at_spot : List Entry → ℕ × ℕ → ℕ
mask_at_spot log spot = mask_at log spot.0 spot.1

-- the log sector has a record of the page
abbrev pub is_of_page : ℕ → Entry → Bool
is_of_page page e = names_page page e.records

-- those of a log that have one
abbrev pub of_page : ℕ → List Entry → List Entry
of_page page log = filter (is_of_page page) log
