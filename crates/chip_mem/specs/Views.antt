-- Chips in memory, as contracts see them.
use Rattle.std.specs.Prelude.{length, reverse}
use Rattle.chip_trait.specs.Told.{History, Told}
use Rattle.chip_mem.specs.declared.mem_chip.MemChip.{MemChip}
use Rattle.chip_mem.specs.declared.plain_chip.PlainChip.{PlainChip}
use Rattle.chip_mem.specs.Sectors.{contents_of, written_contents}
use Rattle.chip_mem.specs.Plan.{Plan}
use Rattle.chip_mem.specs.Tells.{telling_all, telling_contents}

-- the contents at the start, and the story since
abbrev pub history_of : MemChip → History
history_of chip = record { start = contents_of chip.start.items; story = reverse chip.events.items }

-- what fails, and when
abbrev pub plan_of : MemChip → Plan
plan_of chip = record {
  calls = chip.schedule.calls;
  writes = chip.schedule.writes;
  failing = chip.schedule.failing.items;
  stop = chip.schedule.stop;
  worn_out = chip.schedule.worn_out.items;
  room = chip.room;
  kept = length chip.events.items;
}

-- all that a chip with a story tells
abbrev pub told_of : MemChip → Told
told_of chip = telling_all chip.places chip.faults chip.worn_erases (history_of chip) (contents_of chip.sectors.items)

-- all that a chip without one tells
abbrev pub plain_told_of : PlainChip → Told
plain_told_of chip = telling_contents chip.places (written_contents chip.written.items chip.sectors.items)
