use Rattle.std.proofs.Common.{◌≤◌, None, not, is_some, length, sym, ◌∙◌, ap, arith}
use Rattle.std.proofs.lemmas.Bool.{le-leb}
use Rattle.std.proofs.lemmas.List.{get_or_past}
use Rattle.record_locks.proofs.StandingLemmas.{open_at}
use Rattle.record_locks.proofs.sessions.Sessions.is_closed.Goals as goal

pub returns-then-s-count : goal.returns-then-s-count
returns-then-s-count c =
    let slots = c.args.self.now in
    let past : length slots ≤ c.args.s = omega (arith, c.count.ensures.count) in
    le-leb c.count.result c.args.s c.if-s-count.true ∙ sym (ap not (open_at slots c.args.s ∙ ap is_some (get_or_past slots c.args.s None past)))
