use Rattle.std.proofs.Common.{◌≡◌, ◌≤◌, ℕ, length, sym, ap, subst}
use Rattle.std.specs.Prelude.{◌↔◌, IsTrue}
use Rattle.std.specs.Bool.{OnTrue}
use Rattle.log_records.specs.View.{Versioned}
use Rattle.log_records.specs.Reading.{records_of}
use Rattle.txn_status.specs.Status.{keeps_of}
use Rattle.restart.specs.Joins.{joined, kept_of, IsExact}
use Rattle.ipl_meaning.proofs.PayloadLemmas.{log_payloads_are_spelled}
use Rattle.restart.proofs.CollectedLemmas.{kept_over, kept_joined}
use Rattle.restart.proofs.collecting.collect.Goals as goal

pub of-requires-clause-list : goal.of-requires-clause-list
of-requires-clause-list c = (records_of c.args.version c.args.payload.now, log_payloads_are_spelled c.args.version c.args.payload.now (λ i. (c.type_inv.payload i).fits) c.requires.list)

pub returns-then-not-fits-clause-kept : goal.returns-then-not-fits-clause-kept
returns-then-not-fits-clause-kept c = λ found are.
    kept_over c.args.status.now.numbers (records_of c.args.version c.args.payload.now) found
    (kept_of c.args.status.now.numbers c.args.numbers.now) c.args.fits c.if-not-fits.true are

pub returns-clause-kept : goal.returns-clause-kept
returns-clause-kept c = λ found are.
    let numbers = c.args.status.now.numbers in
    let old = kept_of numbers c.args.numbers.now in
    let new = kept_of numbers c.add.new.self in
    kept_joined numbers (records_of c.args.version c.args.payload.now) found old new c.args.fits c.add.result c.if-not-fits.false are (ap keeps_of c.add.ensures.room)
    (subst (λ (p : Versioned). IsExact old → (IsTrue c.add.result ↔ (length (joined numbers (records_of p.version p.bytes) old.list) ≤ old.limit))) c.of.ensures
    (subst (λ (most : ℕ). IsExact old → (IsTrue c.add.result
    ↔ (length (joined numbers (records_of c.of.result.version c.of.result.bytes) old.list) ≤ keeps_of most))) (sym c.requires.room) c.add.ensures.fits))
    (subst (λ (p : Versioned). OnTrue c.add.result (new.list ≡ joined numbers (records_of p.version p.bytes) old.list)) c.of.ensures c.add.ensures.joined)
    c.add.ensures.exact
