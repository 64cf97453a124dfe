use Rattle.std.proofs.Common.{◌∙◌, ap}
use Rattle.log_records.proofs.RecordsLemmas.{records_list}
use Rattle.mem_log_sector.specs.MemLogs.{without_tid}
use Rattle.mem_log_sector.proofs.MemLemmas.{read}
use Rattle.mem_log_sector.proofs.mem_log.MemLog.drop_tid.Goals as goal

pub returns : goal.returns
returns c =
    let left = without_tid c.args.tid (read c.self.inside.payload) in
    let kept = c.others-self-inside.result in
    records_list kept.version left kept.bytes c.others-self-inside.ensures.records
    ∙ ap (without_tid c.args.tid) c.self.view_is
