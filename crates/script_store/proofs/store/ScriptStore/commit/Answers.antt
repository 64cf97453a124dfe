use Rattle.std.proofs.Common.{Result, arith, refl, sym, subst, ◌^◌}
use Rattle.ipl_model.specs.declared.command.Command.TheVariants as command
use Rattle.ipl_model.specs.declared.reply.Reply.{Reply}
use Rattle.ipl_model.specs.declared.reply.Reply.TheVariants as reply
use Rattle.ipl_model.specs.Refusals.{refuses_end}
use Rattle.ipl_model.specs.Operations.{after_commit}
use Rattle.record_locks.specs.Standing.{state_of}
use Rattle.store_trait.specs.declared.fault.Fault.{Fault}
use Rattle.ipl_store.proofs.CallLemmas.{on_ok}
use Rattle.script_store.specs.Keeps.{DoesCommand}
use Rattle.script_store.proofs.WorkLemmas.{calls_do}
use Rattle.ipl_store.specs.Calls.{limits_of_store}
use Rattle.script_store.proofs.store.ScriptStore.commit.Goals as goal

pub returns : goal.returns
returns g c = λ known.
    let store = c.args.self.now.store in
    let refusal = refuses_end (limits_of_store store) (state_of store.transactions.sessions)
    c.args.s in
    let before = g.C.Chip.told c.args.chip.now in
    let after = g.C.Chip.told c.commit.new.chip in
    subst (λ (r : Result Reply Fault). DoesCommand known (command.Commit c.args.s) c.args.self.now before r
    (record { store = c.commit.new.self }) after) (sym c.reply_of.ensures)
    (calls_do known (λ v. reply.Ok) (command.Commit c.args.s) refusal
    (λ state. after_commit state c.args.s) (2 ^ 15) c.args.self.now
    (record { store = c.commit.new.self }) before after c.commit.result c.requires.runs
    (omega arith) refl (λ state. refl) (λ state. refl)
    (on_ok c.commit.result (λ state x told shown. refl)) c.commit.ensures.calls)
