use Rattle.std.proofs.Common.{sym, ◌∙◌, arith}
use Rattle.log_records.specs.View.{record_of}
use Rattle.restart.proofs.JoinLemmas.{flagged_joins, one_more_joins, raise_joins, raise_exact}
use Rattle.restart.proofs.joining.add_number.Goals as goal

pub returns-then-has-clause-joined : goal.returns-then-has-clause-joined
returns-then-has-clause-joined c =
    flagged_joins c.args.status.now.numbers (record_of c.args.logged.now) c.args.kept.now c.in-Some.at
    c.facts.ensures.rising c.in-Some.ensures.there.0 c.in-Some.ensures.there.1
    (sym c.has.ensures ∙ c.if-has.true)

pub returns-then-len-limit-clause-full : goal.returns-then-len-limit-clause-full
returns-then-len-limit-clause-full c = λ exact.
    let more = one_more_joins c.args.status.now.numbers (record_of c.args.logged.now) c.args.kept.now c.in-Some.at
    c.facts.ensures.rising c.in-Some.ensures.there.0 c.in-Some.ensures.there.1
    (sym c.has.ensures ∙ c.if-has.false) in
    omega (arith, more, exact, c.len.ensures, c.limit_of-limit.ensures, c.most.ensures, c.if-len-limit.true)

pub returns-else-len-limit-clause-joined : goal.returns-else-len-limit-clause-joined
returns-else-len-limit-clause-joined c =
    raise_joins c.args.status.now.numbers (record_of c.args.logged.now) c.args.kept.now c.in-Some.at
    c.facts.ensures.rising c.in-Some.ensures.there.0 c.in-Some.ensures.there.1
    c.raise.new.self c.raise.ensures.at

pub returns-else-len-limit-clause-exact : goal.returns-else-len-limit-clause-exact
returns-else-len-limit-clause-exact c = λ exact.
    raise_exact c.args.status.now.numbers (record_of c.args.logged.now) c.args.kept.now c.in-Some.at
    c.facts.ensures.rising c.in-Some.ensures.there.0 c.in-Some.ensures.there.1
    (sym c.has.ensures ∙ c.if-has.false) c.raise.new.self c.raise.ensures.at c.raise.ensures.count exact
