use Rattle.std.proofs.Common.{Result, List, ℕ, arith, refl, sym, subst, ◌^◌}
use Rattle.ipl_model.specs.declared.command.Command.TheVariants as command
use Rattle.ipl_model.specs.declared.reply.Reply.{Reply}
use Rattle.ipl_model.specs.declared.reply.Reply.TheVariants as reply
use Rattle.ipl_model.specs.Refusals.{refuses_batch}
use Rattle.ipl_model.specs.Operations.{after_batch}
use Rattle.record_locks.specs.Standing.{state_of}
use Rattle.store_trait.specs.declared.fault.Fault.{Fault}
use Rattle.ipl_store.proofs.CallLemmas.{on_ok}
use Rattle.script_store.specs.Keeps.{DoesCommand}
use Rattle.script_store.proofs.WorkLemmas.{calls_do, never_down}
use Rattle.ipl_store.specs.Calls.{limits_of_store}
use Rattle.script_store.proofs.store.ScriptStore.commit_all.Goals as goal

pub reply_of-requires : goal.reply_of-requires
reply_of-requires g c =
    let store = c.args.self.now.store in
    let numbers = c.numbers.result.now in
    let refusal = refuses_batch (limits_of_store store) (state_of store.transactions.sessions)
    numbers in record {
      up = never_down c.args.self.now refusal (λ state. after_batch state numbers) (2 ^ 15)
          (g.C.Chip.told c.args.chip.now) c.commit_all.result c.commit_all.new.self
          (g.C.Chip.told c.commit_all.new.chip) c.requires.runs.up c.commit_all.ensures.calls;
    }

pub returns : goal.returns
returns g c = λ known.
    let store = c.args.self.now.store in
    let numbers = c.numbers.result.now in
    let refusal = refuses_batch (limits_of_store store) (state_of store.transactions.sessions)
    numbers in
    let before = g.C.Chip.told c.args.chip.now in
    let after = g.C.Chip.told c.commit_all.new.chip in
    subst (λ (ss : List ℕ). DoesCommand known (command.Batch ss) c.args.self.now before c.reply_of.result
    (record { store = c.commit_all.new.self }) after) c.numbers.ensures.value
    (subst (λ (r : Result Reply Fault). DoesCommand known (command.Batch numbers) c.args.self.now before r
    (record { store = c.commit_all.new.self }) after) (sym c.reply_of.ensures)
    (calls_do known (λ v. reply.Ok) (command.Batch numbers) refusal
    (λ state. after_batch state numbers) (2 ^ 15) c.args.self.now
    (record { store = c.commit_all.new.self }) before after c.commit_all.result c.requires.runs
    (omega arith) refl (λ state. refl) (λ state. refl)
    (on_ok c.commit_all.result (λ state x told shown. refl)) c.commit_all.ensures.calls))
