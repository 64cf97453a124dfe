-- How the program ends before its script does: the status of the process, and the line that is noted.
use Rattle.std.specs.Prelude.{ℕ, List, ◌++◌, codes}
use Rattle.std.specs.Fmt.{decimal}
use Rattle.std.specs.Int.{w32, to_be_bytes}
use Rattle.hex.specs.Hex.{encode_lower}
use Rattle.ipl_base.specs.declared.fault.ChipFault.{ChipFault}
use Rattle.ipl_base.specs.declared.fault.ChipFault.TheVariants.{ReadFault, Stopped, Damaged, Malformed, WornOut}
use Rattle.ipl_base.specs.declared.fault.ImageFault.{ImageFault}
use Rattle.ipl_base.specs.declared.fault.ImageFault.TheVariants as image
use Rattle.command_line.specs.declared.end.End.{End}
use Rattle.command_line.specs.declared.end.End.TheVariants.{Words, Chip, OutOfMemory, Script, Output, TooLong}

-- the status of a fault of the chip: 3 where a call of it failed, 9 where its numbers are spent, 10 where it is worn
-- out, else 4
abbrev pub fault_status : ImageFault → ℕ
fault_status image.Geometry = 4
fault_status image.NotFormatted = 4
fault_status (image.Missing unit) = 4
fault_status (image.Chip ReadFault) = 3
fault_status (image.Chip Stopped) = 3
fault_status (image.Chip (Damaged place sector stored computed)) = 4
fault_status (image.Chip (Malformed place sector)) = 4
fault_status (image.Chip (WornOut places)) = 10
fault_status image.Spent = 9
fault_status (image.NoSpare places) = 4
fault_status image.TooManyNumbers = 4

-- the status with which the process ends
abbrev pub status_of : End → ℕ
status_of Words = 2
status_of (Chip fault) = fault_status fault
status_of OutOfMemory = 5
status_of Script = 6
status_of Output = 7
status_of TooLong = 8

-- a sum as eight lower case hex digits
abbrev pub sum_text : ℕ → List ℕ
sum_text sum = encode_lower (to_be_bytes w32 sum)

-- a place and a sector of it, in decimal digits
abbrev pub spot_text : ℕ → ℕ → List ℕ
spot_text place sector = codes "place " ++ decimal place ++ codes " sector " ++ decimal sector

-- what a chip did not do, or what it held that it must not hold
abbrev pub chip_text : ChipFault → List ℕ
chip_text ReadFault = codes "chip read failed"
chip_text Stopped = codes "chip write failed"
chip_text (Damaged place sector stored computed) =
    codes "damaged " ++ spot_text place sector
    ++ codes " stored " ++ sum_text stored ++ codes " computed " ++ sum_text computed
chip_text (Malformed place sector) = codes "malformed " ++ spot_text place sector
chip_text (WornOut places) = codes "worn out " ++ decimal places

-- why an image can't be opened
abbrev pub fault_text : ImageFault → List ℕ
fault_text image.Geometry = codes "geometry"
fault_text image.NotFormatted = codes "not formatted"
fault_text (image.Missing unit) = codes "missing unit " ++ decimal unit
fault_text (image.Chip fault) = chip_text fault
fault_text image.Spent = codes "numbers spent"
fault_text (image.NoSpare places) = codes "no spare " ++ decimal places
fault_text image.TooManyNumbers = codes "too many numbers"

-- why the program ends
abbrev pub end_text : End → List ℕ
end_text Words = codes "bad command line"
end_text (Chip fault) = fault_text fault
end_text OutOfMemory = codes "out of memory"
end_text Script = codes "script failed"
end_text Output = codes "output failed"
end_text TooLong = codes "script too long"

-- the line that is noted, with its line feed
abbrev pub note_of : End → List ℕ
note_of end = codes "ipl: " ++ end_text end ++ codes "\n"
