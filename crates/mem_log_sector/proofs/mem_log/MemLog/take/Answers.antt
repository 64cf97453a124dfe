use Rattle.std.proofs.Common.{sym, ◌∙◌, ap, subst}
use Rattle.ipl_base.specs.declared.limits.TheConstants.{VERSION}
use Rattle.ipl_format.specs.Record.{IsLogPayload}
use Rattle.log_records.specs.View.{Versioned, Spells}
use Rattle.mem_log_sector.proofs.MemLemmas.{read, spelled, no_records}
use Rattle.mem_log_sector.proofs.mem_log.MemLog.take.Goals as goal

pub returns-clause-payload : goal.returns-clause-payload
returns-clause-payload c =
    let before = c.self.inside.payload in
    let list = subst (IsLogPayload before.version) c.bytes.ensures.value c.bytes.ensures.list in
    subst (Spells c.replace.result) c.self.view_is
    (subst (λ (p : Versioned). Spells p (read before)) (sym c.replace.ensures.value)
    (spelled before.version before.bytes list))

pub returns-clause-empty : goal.returns-clause-empty
returns-clause-empty c =
    ap read (c.replace.ensures.after ∙ c.empty.ensures) ∙ no_records VERSION
