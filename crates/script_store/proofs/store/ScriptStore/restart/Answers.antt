use Rattle.std.proofs.Common.{Result, OnOk, refl, subst}
use Rattle.ipl_base.specs.declared.fault.ImageFault.{ImageFault}
use Rattle.ipl_model.specs.declared.command.Command.TheVariants as command
use Rattle.script_store.specs.declared.store.ScriptStore.{ScriptStore}
use Rattle.script_store.specs.Keeps.{DoesCommand}
use Rattle.script_store.specs.Done.{HasNewStatus}
use Rattle.script_store.proofs.RestartLemmas.{restarted, restart_does}
use Rattle.script_store.proofs.store.ScriptStore.restart.Goals as goal

pub returns-in-Ok-clause-does : goal.returns-in-Ok-clause-does
returns-in-Ok-clause-does g c = λ known.
    let before = g.C.Chip.told c.args.chip.now in
    let after = g.C.Chip.told c.open_chip.new.chip in
    let b : ScriptStore = record { store = c.open_chip.new.self } in
    subst (λ (r : Result (Unit {0}) ImageFault). DoesCommand known command.Restart c.args.self.now before
    (restarted r) b after) c.in-Ok.is
    (restart_does known c.args.self.now b before after
    c.requires.runs c.open_chip.ensures.sound c.open_chip.ensures.sessions
    c.open_chip.result c.open_chip.ensures.opens c.open_chip.ensures.tries c.open_chip.ensures.room
    (c.open_chip.ensures.leads refl))

pub returns-in-Err-clause-does : goal.returns-in-Err-clause-does
returns-in-Err-clause-does g c = λ known.
    let before = g.C.Chip.told c.args.chip.now in
    let after = g.C.Chip.told c.open_chip.new.chip in
    let b : ScriptStore = record { store = c.open_chip.new.self } in
    subst (λ (r : Result (Unit {0}) ImageFault). DoesCommand known command.Restart c.args.self.now before
    (restarted r) b after) c.in-Err.is
    (restart_does known c.args.self.now b before after
    c.requires.runs c.open_chip.ensures.sound c.open_chip.ensures.sessions
    c.open_chip.result c.open_chip.ensures.opens c.open_chip.ensures.tries c.open_chip.ensures.room
    (c.open_chip.ensures.leads refl))

pub returns-in-Ok-clause-done : goal.returns-in-Ok-clause-done
returns-in-Ok-clause-done g c =
    let b : ScriptStore = record { store = c.open_chip.new.self } in
    subst (λ (r : Result (Unit {0}) ImageFault). OnOk r (HasNewStatus b
    (g.C.Chip.told c.args.chip.now) (g.C.Chip.told c.open_chip.new.chip))) c.in-Ok.is
    c.open_chip.ensures.tries.renewed
