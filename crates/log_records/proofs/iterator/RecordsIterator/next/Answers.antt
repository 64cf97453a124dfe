use Rattle.std.proofs.Common.{◌∙◌, ◌≡◌, ap, sym, [], ◌∷◌, rules}
use Rattle.log_records.specs.Reading.{record_at, records_of}
use Rattle.log_records.specs.View.{record_of, Versioned}
use Rattle.log_records.proofs.RecordsLemmas.{records_none, records_more}
use Rattle.log_records.proofs.iterator.RecordsIterator.next.Goals as goal

pub returns-in_err-record-clause-steps : goal.returns-in_err-record-clause-steps
returns-in_err-record-clause-steps c =
    let s = c.args.self.now in
    let none : records_of s.version s.bytes ≡ [] =
    records_none s.version s.bytes (ap (λ t. record_at t.version t.bytes) (sym c.self.view_is)
    ∙ sym c.in_err-record.ensures) in
    rw c.from_residual.ensures (search rules)

pub returns-clause-steps : goal.returns-clause-steps
returns-clause-steps c =
    let s = c.args.self.now in
    records_more s.version s.bytes (record_of c.in_ok-record.record) c.in_ok-record.rest.now
    (ap (λ t. record_at t.version t.bytes) (sym c.self.view_is) ∙ sym c.in_ok-record.ensures)
    ∙ ap (λ (t : Versioned).
    record_of c.in_ok-record.record ∷ records_of t.version c.in_ok-record.rest.now)
    (sym c.self.view_is)

pub returns-clause-goes : goal.returns-clause-goes
returns-clause-goes c =
    let s = c.args.self.now in
    let some : records_of s.version s.bytes
    ≡ record_of c.in_ok-record.record ∷ records_of s.version c.in_ok-record.rest.now =
    records_more s.version s.bytes (record_of c.in_ok-record.record) c.in_ok-record.rest.now
    (ap (λ t. record_at t.version t.bytes) (sym c.self.view_is) ∙ sym c.in_ok-record.ensures) in
    search rules
