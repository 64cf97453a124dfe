use Rattle.std.proofs.Common.{Result, arith, refl, sym, subst, None}
use Rattle.ipl_model.specs.declared.command.Command.TheVariants as command
use Rattle.ipl_model.specs.declared.reply.Reply.{Reply}
use Rattle.ipl_model.specs.declared.reply.Reply.TheVariants as reply
use Rattle.ipl_model.specs.Operations.{after_write}
use Rattle.store_trait.specs.declared.fault.Fault.{Fault}
use Rattle.store_laws.specs.Refusals.{sessions_refuse_del}
use Rattle.ipl_store.proofs.CallLemmas.{on_ok}
use Rattle.script_store.specs.Keeps.{DoesCommand}
use Rattle.script_store.proofs.WorkLemmas.{calls_do}
use Rattle.ipl_store.specs.Calls.{limits_of_store}
use Rattle.script_store.proofs.store.ScriptStore.del.Goals as goal

pub returns : goal.returns
returns g c = λ known.
    let store = c.args.self.now.store in
    let refusal = sessions_refuse_del (limits_of_store store) store.transactions.sessions
    c.args.s c.args.n in
    let before = g.C.Chip.told c.args.chip.now in
    let after = g.C.Chip.told c.del.new.chip in
    subst (λ (r : Result Reply Fault). DoesCommand known (command.Del c.args.s c.args.n) c.args.self.now before r
    (record { store = c.del.new.self }) after) (sym c.reply_of.ensures)
    (calls_do known (λ v. reply.Ok) (command.Del c.args.s c.args.n) refusal
    (λ state. after_write state c.args.s (c.args.n, None)) 14 c.args.self.now
    (record { store = c.del.new.self }) before after c.del.result c.requires.runs
    (omega arith) refl (λ state. refl) (λ state. refl)
    (on_ok c.del.result (λ state x told shown. refl)) c.del.ensures.calls)
