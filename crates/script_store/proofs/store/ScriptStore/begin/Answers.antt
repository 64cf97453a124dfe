use Rattle.std.proofs.Common.{Result, arith, refl, sym, subst}
use Rattle.ipl_model.specs.declared.command.Command.TheVariants as command
use Rattle.ipl_model.specs.declared.reply.Reply.{Reply}
use Rattle.ipl_model.specs.declared.reply.Reply.TheVariants as reply
use Rattle.ipl_model.specs.Refusals.{refuses_begin}
use Rattle.ipl_model.specs.Operations.{after_begin}
use Rattle.record_locks.specs.Standing.{state_of}
use Rattle.store_trait.specs.declared.fault.Fault.{Fault}
use Rattle.ipl_store.proofs.CallLemmas.{on_ok}
use Rattle.script_store.specs.Keeps.{DoesCommand}
use Rattle.script_store.proofs.WorkLemmas.{calls_do}
use Rattle.ipl_store.specs.Calls.{limits_of_store}
use Rattle.script_store.proofs.store.ScriptStore.begin.Goals as goal

pub returns : goal.returns
returns g c = λ known.
    let store = c.args.self.now.store in
    let refusal = refuses_begin (limits_of_store store) (state_of store.transactions.sessions)
    c.args.s in
    let before = g.C.Chip.told c.args.chip.now in
    let after = g.C.Chip.told c.begin.new._chip in
    subst (λ (r : Result Reply Fault). DoesCommand known (command.Begin c.args.s) c.args.self.now before r
    (record { store = c.begin.new.self }) after) (sym c.reply_of.ensures)
    (calls_do known (λ v. reply.Ok) (command.Begin c.args.s) refusal
    (λ state. after_begin state c.args.s) 1 c.args.self.now
    (record { store = c.begin.new.self }) before after c.begin.result c.requires.runs
    (omega arith) refl (λ state. refl) (λ state. refl)
    (on_ok c.begin.result (λ state x told shown. refl)) c.begin.ensures.calls)
