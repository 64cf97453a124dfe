use Rattle.std.proofs.Common.{sym, length, arith}
use Rattle.std.proofs.lemmas.Bool.{false≢true}
use Rattle.log_records.proofs.RecordLemmas.{shorter}
use Rattle.log_records.proofs.ListLemmas.{begins_more, no_list, rest_bytes, some_left}
use Rattle.log_records.proofs.reading.is_list.Goals as goal

pub loop-rest-smaller : goal.loop-rest-smaller
loop-rest-smaller c =
    shorter c.args.version c.loop-rest.rest.now _ c.in-Some.after.now (sym c.in-Some.ensures)

pub loop-rest-preserved : goal.loop-rest-preserved
loop-rest-preserved c =
    begins_more c.args.version c.args.bytes.now c.loop-rest.rest.now _ c.in-Some.after.now
    c.loop-rest.invariant
    (rest_bytes c.args.version c.args.bytes.now c.loop-rest.rest.now c.loop-rest.invariant (λ i.
    omega (arith, c.type_inv.bytes i))) (sym c.in-Some.ensures)

pub returns-in-None : goal.returns-in-None
returns-in-None c = (
  λ h. absurd (false≢true h),
  λ l. absurd (no_list c.args.version c.args.bytes.now c.loop-rest.rest.now c.loop-rest.invariant
      (sym c.in-None.ensures)
      (some_left (length c.loop-rest.rest.now) c.loop-rest-test.ensures) l),
)
