use Rattle.std.proofs.Common.{List, ℕ, subst}
use Rattle.serial_view.specs.Running.{run_of, Sets}
use Rattle.serial_view.proofs.TrackLemmas.{are_sessions}
use Rattle.serial_view.proofs.FollowLemmas.{ended, closes}
use Rattle.serial_view.proofs.running.Running.close.Goals as goal

pub returns : goal.returns
returns c =
    let run = run_of c.args.self.now in
    let sound = are_sessions run.slots c.facts.ensures.all c.facts.ensures.one_writer c.facts.ensures.sized in
    closes run sound c.args.s c.requires c.end.new.self c.clear_sizes.new.sizes.items
    (ended run.slots c.end.new.self c.args.s c.end.result c.end.ensures.refusal c.end.ensures.ok c.end.ensures.err)
    (subst (λ (names : List ℕ). Sets names (λ n. 0) run.most c.clear_sizes.new.sizes.items)
    c.written.ensures.names c.clear_sizes.ensures)
