-- What a sector was found to be.
use Rattle.std.specs.Prelude.{ℕ, Option, Some, None}
use Rattle.sector_format.specs.declared.sector.Head.{Head}
use Rattle.unit_io.specs.declared.reading.Found.{Found}
use Rattle.unit_io.specs.declared.reading.Found.TheVariants.{Erased, Bad, Sector}

-- its head and how many bytes of payload it uses, where it checks
abbrev pub checked : Found → Option (Head × ℕ)
checked Erased = None
checked Bad = None
checked (Sector head used) = Some (head, used)
