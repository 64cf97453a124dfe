use Rattle.std.proofs.Common.{[], ◌∷◌, sym, ◌∙◌, ap}
use Rattle.log_records.specs.Reading.{records_of}
use Rattle.log_records.specs.View.{record_of, Versioned}
use Rattle.log_records.proofs.RecordsLemmas.{records_list}
use Rattle.txn_status.specs.Status.{keeps_of}
use Rattle.restart.proofs.JoinLemmas.{left_first, left_full}
use Rattle.restart.proofs.joining.add_payload.Goals as goal

pub loop-logged-init : goal.loop-logged-init
loop-logged-init c =
    let gives = ap (λ (p : Versioned). records_of p.version p.bytes) c.into_iter-logged-iterator.ensures.into_iter_gives in
    let all = records_list c.args.payload.now.version (records_of c.records-logged-items.result.version c.records-logged-items.result.bytes) c.args.payload.now.bytes
    c.records-logged-items.ensures in
    left_first c.args.status.now.numbers (records_of c.into_iter-logged-iterator.result.version c.into_iter-logged-iterator.result.bytes)
    (records_of c.args.payload.now.version c.args.payload.now.bytes) c.args.kept.now (gives ∙ sym all)

pub returns-then-not-add_number-clause-full : goal.returns-then-not-add_number-clause-full
returns-then-not-add_number-clause-full c =
    left_full c.args.status.now.numbers (records_of c.loop-logged.logged-iterator.version c.loop-logged.logged-iterator.bytes)
    (record_of c.in-Some.logged ∷ []) (records_of c.next.new.self.version c.next.new.self.bytes)
    (records_of c.args.payload.now.version c.args.payload.now.bytes) c.loop-logged.kept c.args.kept.now c.in-Some.ensures.steps
    c.loop-logged.invariant (keeps_of c.args.status.now.most) c.if-not-add_number.ensures.full
