use Rattle.std.proofs.Common.{[], ap, sym, subst}
use Rattle.ipl_base.specs.declared.limits.TheConstants.{VERSION}
use Rattle.log_records.specs.View.{Versioned, Spells}
use Rattle.mem_log_sector.proofs.MemLemmas.{none_spelled}
use Rattle.page_frames.proofs.PutLemmas.{log_of_page, no_log_of_page}
use Rattle.page_frames.proofs.puts.log_payload.Goals as goal

pub returns-in-Some-clause-records : goal.returns-in-Some-clause-records
returns-in-Some-clause-records c =
    subst (Spells c.payload.result) (log_of_page c.args.pool.now c.args.unit c.args.page
    c.in-Some.log.now c.in-Some.ensures) c.payload.ensures.records

pub returns-in-None-clause-records : goal.returns-in-None-clause-records
returns-in-None-clause-records c =
    subst (Spells c.empty.result)
    (sym (no_log_of_page c.args.pool.now c.args.unit c.args.page c.in-None.ensures))
    (subst (λ (p : Versioned). Spells p []) (sym c.empty.ensures) (none_spelled VERSION))

pub returns-in-None-clause-version : goal.returns-in-None-clause-version
returns-in-None-clause-version c = ap (λ (p : Versioned). p.version) c.empty.ensures
