-- What a record of the program stands for.
use Rattle.std.specs.Prelude.{ℕ, List, Some, None}
use Rattle.ipl_format.specs.Record.{SpellsLog}
use Rattle.ipl_format.specs.Record.{Record as LogRecord, Change as LogChange}
use Rattle.log_records.specs.declared.record.Record.{Record}
use Rattle.log_records.specs.declared.record.Change.{Change}
use Rattle.log_records.specs.declared.record.Change.TheVariants.{Put, Delete}

-- what a change makes of its slot
abbrev pub change_of : Change → LogChange
change_of (Put value) = Some value
change_of Delete = None

-- the record as the format has it
abbrev pub record_of : Record → LogRecord
record_of r = record { page = r.page; slot = r.slot; tid = r.tid; change = change_of r.change }

-- bytes that are read by a version
pub record Versioned : Type 0 where
  pub version : ℕ
  pub bytes : List ℕ

-- they are this list of records
abbrev pub Spells : Versioned → List LogRecord → Type 0
Spells p records = SpellsLog p.version p.bytes records
