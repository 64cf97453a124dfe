use Rattle.std.proofs.Common.{Result, IfOk, arith, refl, sym, subst}
use Rattle.ipl_model.specs.declared.command.Command.TheVariants as command
use Rattle.ipl_model.specs.declared.reply.Reply.{Reply}
use Rattle.ipl_model.specs.Step.{found_reply}
use Rattle.ipl_model.specs.Refusals.{refuses_get}
use Rattle.record_locks.specs.Standing.{state_of}
use Rattle.store_trait.specs.declared.fault.Fault.{Fault}
use Rattle.ipl_store.specs.Calls.{early_fault, entry_fault, limits_of_store}
use Rattle.script_store.specs.Keeps.{DoesCommand}
use Rattle.script_store.specs.Done.{SaysSeen}
use Rattle.script_store.proofs.DoneLemmas.{seen_done}
use Rattle.script_store.proofs.SeeLemmas.{seen_replies}
use Rattle.script_store.proofs.WorkLemmas.{calls_do}
use Rattle.script_store.proofs.store.ScriptStore.get.Goals as goal

pub returns-clause-does : goal.returns-clause-does
returns-clause-does g c = λ known.
    let store = c.args.self.now.store in
    let refusal = refuses_get (limits_of_store store) (state_of store.transactions.sessions)
    c.args.s c.args.n in
    let before = g.C.Chip.told c.args.chip.now in
    let after = g.C.Chip.told c.see.new.chip in
    subst (λ (r : Result Reply Fault). DoesCommand known (command.Get c.args.s c.args.n) c.args.self.now
    before r c.see.new.self after) (sym c.found_of.ensures)
    (calls_do known found_reply (command.Get c.args.s c.args.n) refusal (λ state. state) 14
    c.args.self.now c.see.new.self before after c.see.result c.requires.runs
    (omega arith) refl (λ state. refl) (λ state. refl)
    (seen_replies known c.args.s c.args.n (λ state. state) (early_fault (entry_fault store) refusal) 14 c.args.self.now c.see.new.self
    before after c.see.result c.see.ensures.calls c.see.ensures.framed c.see.ensures.seen)
    c.see.ensures.calls)

pub returns-clause-done : goal.returns-clause-done
returns-clause-done g c =
    let before = g.C.Chip.told c.args.chip.now in
    subst (λ (r : Result Reply Fault). IfOk r (λ answer. SaysSeen c.args.s c.args.n c.args.self.now
    before answer)) (sym c.found_of.ensures)
    (seen_done c.args.s c.args.n c.args.self.now before c.see.result c.see.ensures.seen)
