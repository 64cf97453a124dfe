-- The live log sectors in overflow places that an opening finds, by unit, and the places that hold them.
use Rattle.std.specs.Prelude.{ℕ, ◌*◌, ◌==◌, ◌&&◌, Bool, List, Option, Some, None, if◌then◌else◌}
use Rattle.ipl_base.specs.declared.limits.TheConstants.{SECTORS}
use Rattle.ipl_format.specs.Sector.{Sector}
use Rattle.log_records.specs.Reading.{records_of}
use Rattle.ipl_meaning.specs.Chart.{Chart}
use Rattle.ipl_meaning.specs.Masks.{mask_of}
use Rattle.ipl_meaning.specs.First.{all_below}
use Rattle.ipl_meaning.specs.Chosen.{KeptHeader, Winner, header_at, current_at}
use Rattle.ipl_meaning.specs.Live.{Mark, mark_at, marks_in, live_in}
use Rattle.ipl_meaning.specs.Faults.{holds_live}

-- where a live log sector stands, if there is one, it is of the unit and it stands in an overflow place
abbrev pub spot_of : ℕ → Option Mark → Option (ℕ × ℕ)
spot_of u None = None
spot_of u (Some mark) = if mark.in_overflow && (mark.unit == u) then Some (mark.place, mark.number) else None

-- the unit's spots in overflow places below the number k, in rising order of place and sector
abbrev pub spots_below : (ℕ → Option KeptHeader) → (ℕ → Option Winner) → Chart → ℕ → ℕ → List (ℕ × ℕ)
spots_below heads current c u k = all_below (λ j. spot_of u (mark_at heads current c j)) k

-- all those of a chart
abbrev pub spots_in : Chart → ℕ → ℕ → List (ℕ × ℕ)
spots_in c places u = spots_below (header_at c places) (current_at c places) c u (places * SECTORS)

-- a place that holds live log sectors, with no sector that is known clean
abbrev pub overflow_at : (ℕ → Bool) → ℕ → Option (ℕ × ℕ)
overflow_at holds p = if holds p then Some (p, SECTORS) else None

-- the overflow places of a chart that hold live log sectors, in rising order
abbrev pub overflows_in : Chart → ℕ → List (ℕ × ℕ)
overflows_in c places =
    all_below (overflow_at (holds_live (header_at c places) (marks_in c places (places * SECTORS)))) places

-- the generation of a header, where there is one
abbrev pub generation_of : Option Winner → ℕ
generation_of None = 0
generation_of (Some winner) = winner.head.generation

-- which pages the log sector names, where it is one of the unit
abbrev pub mask_of_sector : ℕ → Option Sector → ℕ
mask_of_sector u None = 0
mask_of_sector u (Some sector) = if sector.unit == u then mask_of (records_of sector.version sector.payload) else 0

-- which pages the live log sector of the unit at the number k names; none, where it has none there
abbrev pub mask_found : Chart → ℕ → ℕ → ℕ → ℕ
mask_found c places u k = mask_of_sector u (live_in c places k)
