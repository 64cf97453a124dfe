-- The pages of names, and those whose records aren't on the chip yet.
use Rattle.std.specs.Prelude.{ℕ, ◌==◌, ◌&&◌, ◌+◌, ◌/◌, ◌%◌, ◌<◌, ◌≤◌, Bool, true, false, List, [], ◌∷◌, count_by, length, slice_index}
use Rattle.std.specs.List.{list_any}
use Rattle.ipl_base.specs.declared.limits.TheConstants.{LOG_SECTORS, PAGES}
use Rattle.ipl_base.specs.Places.{home_of}
use Rattle.ipl_format.specs.Record.{Record}
use Rattle.store_laws.specs.Frames.{Frames, logs_of}
use Rattle.page_frames.specs.declared.pages.Pages.{Pages}
use Rattle.page_frames.specs.Pages.{frames_in}

-- this is the page of the name
abbrev pub is_home : ℕ → ℕ → ℕ → Bool
is_home u page n = ((home_of n).unit == u) && ((home_of n).page == page)

-- it is that of one of these names
abbrev pub is_on_page : List ℕ → ℕ → ℕ → Bool
is_on_page names u page = list_any (is_home u page) names

-- there are some records
abbrev pub has_some : List Record → Bool
has_some [] = false
has_some (r ∷ records) = true

-- the page of this number has records in memory, and is that of one of these names
abbrev pub is_changed : Frames → List ℕ → ℕ → Bool
is_changed frames names number = has_some (logs_of frames (number / PAGES) (number % PAGES))
    && is_on_page names (number / PAGES) (number % PAGES)

-- how many pages in frames are so
abbrev pub changed_pages : Pages → List ℕ → ℕ
changed_pages pages names = count_by (is_changed (frames_in pages) names) pages.pool.order

-- it is so, and one of this unit
abbrev pub is_changed_of : Frames → List ℕ → ℕ → ℕ → Bool
is_changed_of frames names u number = (number / PAGES == u) && is_changed frames names number

-- how many pages of the unit in frames are so
abbrev pub changed_pages_of : Pages → List ℕ → ℕ → ℕ
changed_pages_of pages names u = count_by (is_changed_of (frames_in pages) names u) pages.pool.order

-- each unit has as many log sectors clean at home as pages in frames that are so
abbrev pub HasHomesFor : Pages → List ℕ → Type 0
HasHomesFor pages names = (u : ℕ) → u < length pages.parts.directory.current
    → changed_pages_of pages names u + slice_index pages.parts.directory.written u ≤ LOG_SECTORS
