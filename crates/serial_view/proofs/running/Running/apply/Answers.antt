use Rattle.std.proofs.Common.{List, ℕ, subst}
use Rattle.std.specs.Prelude.{slice_index}
use Rattle.serial_view.specs.Running.{run_of, Sets}
use Rattle.serial_view.proofs.FollowLemmas.{applies}
use Rattle.serial_view.proofs.running.Running.apply.Goals as goal

pub returns : goal.returns
returns c =
    let run = run_of c.args.self.now in
    let records = c.copy_sizes.new.sizes.items in
    applies run (run_of c.close.new.self) c.args.s records
    (subst (λ (names : List ℕ). Sets names (slice_index run.last) run.records records)
    c.written.ensures.names c.copy_sizes.ensures)
    c.close.ensures
