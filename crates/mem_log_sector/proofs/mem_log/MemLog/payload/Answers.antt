use Rattle.std.proofs.Common.{ℕ, List, sym, ◌∙◌, ap, subst}
use Rattle.ipl_format.specs.Record.{SpellsLog}
use Rattle.log_records.specs.Reading.{records_of}
use Rattle.log_records.specs.View.{Versioned}
use Rattle.mem_log_sector.proofs.MemLemmas.{spelled}
use Rattle.mem_log_sector.proofs.mem_log.MemLog.payload.Goals as goal

pub returns-clause-records : goal.returns-clause-records
returns-clause-records c =
    let p = c.self.inside.payload in
    let copied = c.of.ensures in
    let records = c.args.self.now in
    subst (λ (v : ℕ). SpellsLog v c.of.result.bytes records)
    (sym (ap (λ (k : Versioned). k.version) copied ∙ c.version.ensures))
    (subst (λ (b : List ℕ). SpellsLog p.version b records)
    (sym (ap (λ (k : Versioned). k.bytes) copied))
    (subst (SpellsLog p.version c.bytes.result.now)
    (ap (records_of p.version) c.bytes.ensures.value ∙ c.self.view_is)
    (spelled p.version c.bytes.result.now c.bytes.ensures.list)))

pub returns-clause-version : goal.returns-clause-version
returns-clause-version c =
    ap (λ (k : Versioned). k.version) c.of.ensures ∙ (c.version.ensures ∙ c.self.invariant)
