-- The numbers under which the system has open files.
use Rattle.std.specs.Prelude.{pos, ◌≤ℤ◌}
use Rattle.std.specs.Fd.{file_raw_fd}
use Rattle.std.specs.declared.fs.File.{File}
use Rattle.chip_image.specs.declared.file_chip.FileChip.{FileChip}

-- a file with a number behind 0, 1 and 2, the standard streams'
abbrev pub IsApart : File → Type 0
IsApart file = pos 3 ≤ℤ file_raw_fd file

-- a chip in such a file
abbrev pub HasFileApart : FileChip → Type 0
HasFileApart chip = IsApart chip.file
