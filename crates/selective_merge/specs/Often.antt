-- Which sectors of a unit a merge reads, and how often at most.
use Rattle.std.specs.Prelude.{ℕ, ◌+◌, ◌*◌, List, ◌++◌, slice_index}
use Rattle.ipl_base.specs.declared.limits.TheConstants.{PAGES, PAGE_SECTORS}
use Rattle.ipl_meaning.specs.Tables.{Tables}
use Rattle.overflow.specs.Lists.{spots_in}
use Rattle.unit_log.specs.Live.{spots_from}
use Rattle.unit_log.specs.Often.{header_and_log}

-- the base sectors of a page at a place
abbrev pub page_sectors : ℕ → ℕ → List (ℕ × ℕ)
page_sectors home page = spots_from home (1 + page * PAGE_SECTORS) PAGE_SECTORS

-- those of all pages
abbrev pub base_sectors : ℕ → List (ℕ × ℕ)
base_sectors home = spots_from home 1 (PAGES * PAGE_SECTORS)

-- by these tables, a unit's header and its log, each sector once: at its place, and as the overflow lists name them
abbrev pub log_of : Tables → ℕ → List (ℕ × ℕ)
log_of t u = header_and_log (slice_index t.places.current u) (spots_in t.overflow u)

-- its base sectors
abbrev pub base_of : Tables → ℕ → List (ℕ × ℕ)
base_of t u = base_sectors (slice_index t.places.current u)

-- all of these
abbrev pub all_of : Tables → ℕ → List (ℕ × ℕ)
all_of t u = log_of t u ++ base_of t u
