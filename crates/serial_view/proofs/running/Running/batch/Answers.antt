use Rattle.std.proofs.Common.{sym, ap, ◌∙◌}
use Rattle.std.specs.Prelude.{is_some}
use Rattle.serial_view.specs.Running.{run_of}
use Rattle.serial_view.proofs.TakeLemmas.{batch_named, batches, batch_refused}
use Rattle.serial_view.proofs.running.Running.batch.Goals as goal

pub returns-then-is_some : goal.returns-then-is_some
returns-then-is_some c =
    batch_refused (run_of c.args.self.now) c.args.sessions.now
    (sym (ap is_some c.refuses_batch.ensures) ∙ sym c.is_some.ensures ∙ c.if-is_some.true)

pub apply_all-requires : goal.apply_all-requires
apply_all-requires c =
    batch_named c.args.self.now.sessions c.args.sessions.now
    (sym (ap is_some c.refuses_batch.ensures) ∙ sym c.is_some.ensures ∙ c.if-is_some.false)

pub returns : goal.returns
returns c =
    batches (run_of c.args.self.now) (run_of c.apply_all.new.self) c.args.sessions.now c.facts.ensures.all
    (sym (ap is_some c.refuses_batch.ensures) ∙ sym c.is_some.ensures ∙ c.if-is_some.false) c.apply_all.ensures
