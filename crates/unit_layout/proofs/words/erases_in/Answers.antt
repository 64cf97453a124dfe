use Rattle.std.proofs.Common.{arith, sym, subst}
use Rattle.unit_layout.specs.Header.{SayErases}
use Rattle.unit_layout.proofs.WordLemmas.{said_there, unsaid_there, unsaid_other, unsaid_before}
use Rattle.unit_layout.proofs.words.erases_in.Goals.{then-kind-gt3-via-then-kind-gt3, then-kind-gt3-via-else-kind-gt3+then-version-lt-VERSION}
use Rattle.unit_layout.proofs.words.erases_in.Goals as goal

pub returns-then-kind-gt3 : goal.returns-then-kind-gt3
returns-then-kind-gt3 c = elim c.then-kind-gt3.branch [
  | then-kind-gt3-via-then-kind-gt3 w ↦ unsaid_other c.args.kind c.args.version c.args.payload.now (omega (arith, w.if-kind-gt3))
  | then-kind-gt3-via-else-kind-gt3+then-version-lt-VERSION w ↦ unsaid_before c.args.kind c.args.version c.args.payload.now (omega (arith, w.if-version-lt-VERSION))
]

pub returns-then-payload-from : goal.returns-then-payload-from
returns-then-payload-from c =
    unsaid_there c.args.kind c.args.version c.erases_from-from.result c.args.payload.now
    c.erases_from-from.ensures c.if-payload-from.true

pub returns : goal.returns
returns c =
    subst (SayErases c.args.kind c.args.version c.args.payload.now) (sym c.word_at.ensures)
    (said_there c.args.kind c.args.version c.erases_from-from.result c.args.payload.now c.if-kind-gt3.false
    c.if-version-lt-VERSION.false c.erases_from-from.ensures c.if-payload-from.false)
