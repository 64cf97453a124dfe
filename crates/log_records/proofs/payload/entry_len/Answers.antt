use Rattle.std.proofs.Common.{◌+◌, ◌∙◌, ap, sym, length}
use Rattle.ipl_base.specs.declared.limits.TheConstants.{RECORD_HEAD}
use Rattle.log_records.specs.View.{record_of}
use Rattle.ipl_format.proofs.RecordLemmas.{records_have_sizes}
use Rattle.log_records.proofs.payload.entry_len.Goals as goal

pub returns-clause-len : goal.returns-clause-len
returns-clause-len c =
    ap (λ xs. RECORD_HEAD + length xs) c.bytes.ensures.value
    ∙ sym (records_have_sizes c.args.version (record_of c.args.logged.now))
