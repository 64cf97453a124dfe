use Rattle.std.proofs.Common.{Result, IfOk, ◌⊎◌, arith, refl, sym, subst}
use Rattle.ipl_model.specs.declared.command.Command.TheVariants as command
use Rattle.ipl_model.specs.declared.reply.Reply.{Reply}
use Rattle.ipl_model.specs.declared.reply.Reply.TheVariants as reply
use Rattle.ipl_model.specs.Refusals.{refuses_merge}
use Rattle.store_trait.specs.declared.fault.Fault.{Fault}
use Rattle.ipl_store.specs.Calls.{ends_worn_out, limits_of_store}
use Rattle.ipl_store.proofs.CallLemmas.{on_ok}
use Rattle.script_store.specs.declared.store.ScriptStore.{ScriptStore}
use Rattle.script_store.specs.Keeps.{DoesCommand}
use Rattle.script_store.specs.Done.{IsRefusal, UnitHasMoved}
use Rattle.script_store.proofs.DoneLemmas.{merge_done}
use Rattle.script_store.proofs.WorkLemmas.{calls_do}
use Rattle.script_store.proofs.store.ScriptStore.merge.Goals as goal

pub returns-clause-does : goal.returns-clause-does
returns-clause-does g c = λ known.
    let store = c.args.self.now.store in
    let refusal = refuses_merge (limits_of_store store) c.args.unit in
    let before = g.C.Chip.told c.args.chip.now in
    let after = g.C.Chip.told c.merge.new.chip in
    subst (λ (r : Result Reply Fault). DoesCommand known (command.Merge c.args.unit) c.args.self.now before r
    (record { store = c.merge.new.self }) after) (sym c.reply_of.ensures)
    (calls_do known (λ v. reply.Ok) (command.Merge c.args.unit) refusal (λ state. state) (13)
    c.args.self.now
    (record { store = c.merge.new.self }) before after c.merge.result c.requires.runs
    (omega arith) refl (λ state. refl) (λ state. refl)
    (on_ok c.merge.result (λ state x told shown. refl)) c.merge.ensures.calls)

pub returns-clause-done : goal.returns-clause-done
returns-clause-done g c =
    let before = g.C.Chip.told c.args.chip.now in
    let after = g.C.Chip.told c.merge.new.chip in
    let b : ScriptStore = record { store = c.merge.new.self } in
    subst (λ (r : Result Reply Fault). IfOk r (λ answer. IsRefusal answer
    ⊎ UnitHasMoved c.args.unit b before after)) (sym c.reply_of.ensures)
    (merge_done c.args.unit c.args.self.now.store.transactions.pages.parts.directory
    (ends_worn_out c.merge.result) b before after c.merge.result c.merge.ensures.costs)
