use Rattle.std.proofs.Common.{nat_le, length, sym, ◌∙◌, ap}
use Rattle.std.proofs.lemmas.List.{length-map}
use Rattle.record_locks.proofs.StandingLemmas.{shares_counted}
use Rattle.record_locks.proofs.sessions.Sessions.has_full_shares.Goals as goal

pub returns : goal.returns
returns c = ap (nat_le 256) (sym (length-map c.shared.result.now (λ n. n.0)) ∙ ap length c.shared.ensures.names ∙ sym (shares_counted c.args.self.now c.args.s))
