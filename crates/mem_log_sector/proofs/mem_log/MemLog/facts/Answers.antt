use Rattle.std.proofs.Common.{subst, ◌∙◌, ap}
use Rattle.log_records.specs.Reading.{records_of}
use Rattle.mem_log_sector.specs.MemLogs.{IsMemLog}
use Rattle.mem_log_sector.proofs.MemLemmas.{is_mem_log}
use Rattle.mem_log_sector.proofs.mem_log.MemLog.facts.Goals as goal

pub returns : goal.returns
returns c =
    let bytes = c.bytes.ensures in
    let version = c.self.inside.payload.version in
    subst IsMemLog (ap (records_of version) bytes.value ∙ c.self.view_is)
    (is_mem_log version c.bytes.result.now bytes.list bytes.fits)
