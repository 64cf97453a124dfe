use Rattle.std.proofs.Common.{rules, ◌≡◌, ap, ◌∙◌}
use Rattle.log_records.specs.View.{Versioned}
use Rattle.log_records.proofs.RecordsLemmas.{spells_its_records}
use Rattle.log_records.proofs.payload.records.Goals as goal

pub returns : goal.returns
returns c =
    let p = c.args.payload.now in
    let over : c.over.result
    ≡ (let v : Versioned = record { version = c.version.result; bytes = c.bytes.result.now } in
    v) = search rules in
    let version : c.over.result.version ≡ p.version = ap (λ (v : Versioned). v.version) over
    ∙ c.version.ensures in
    let bytes : c.over.result.bytes ≡ p.bytes = ap (λ (v : Versioned). v.bytes) over
    ∙ c.bytes.ensures.value in
    rw version (spells_its_records p.version p.bytes c.over.result.bytes c.bytes.result.now bytes
    c.bytes.ensures.value c.bytes.ensures.list)
