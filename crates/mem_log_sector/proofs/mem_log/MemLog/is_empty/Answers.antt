use Rattle.std.proofs.Common.{sym, ◌∙◌, ap}
use Rattle.log_records.specs.Reading.{records_of}
use Rattle.mem_log_sector.proofs.MemLemmas.{empty_then}
use Rattle.mem_log_sector.proofs.mem_log.MemLog.is_empty.Goals as goal

pub returns : goal.returns
returns c =
    let bytes = c.bytes.ensures in
    let version = c.self.inside.payload.version in
    let same = sym c.self.view_is ∙ ap (records_of version) (sym bytes.value) in
    empty_then c.is_empty.result version c.bytes.result.now c.args.self.now c.is_empty.ensures
    bytes.list same
