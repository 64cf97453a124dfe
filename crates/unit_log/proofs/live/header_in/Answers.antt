use Rattle.std.proofs.Common.{refl}
use Rattle.unit_log.proofs.HeadLemmas.{payload_spelled, head_says, header_found}
use Rattle.unit_log.proofs.live.header_in.Goals as goal

pub returns-in_err-header-clause-some : goal.returns-in_err-header-clause-some
returns-in_err-header-clause-some c = λ head units named kind unit pieces counts.
    absurd (c.in_err-header.ensures.none units pieces
    (payload_spelled head units pieces c.args.found c.args.bytes.now named counts
    c.in_ok-head.head c.in_ok-head.used c.in_ok-head.was))

pub returns-clause-some : goal.returns-clause-some
returns-clause-some c = λ head units named kind unit pieces counts.
    head_says head units pieces c.args.found c.args.bytes.now named counts c.in_ok-head.head
    c.in_ok-head.used c.in_ok-head.was c.in_ok-header.header c.in_ok-header.ensures.some

pub returns-clause-found : goal.returns-clause-found
returns-clause-found c =
    header_found c.args.bytes.now c.args.unit c.args.found c.in_ok-head.head c.in_ok-head.used _
    c.in_ok-header.header c.in_ok-head.was c.if-head-ne-DATA_HEADER.false c.if-head-unit.false
    c.in_ok-header.ensures.some refl refl refl
