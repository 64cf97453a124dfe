use Rattle.std.proofs.Common.{List, Option, Result, ℕ, IfOk, sym, subst}
use Rattle.store_trait.specs.declared.fault.Fault.{Fault}
use Rattle.script_store.specs.Keeps.{Finds}
use Rattle.script_store.specs.Done.{HasFound}
use Rattle.script_store.proofs.DoneLemmas.{found_done}
use Rattle.script_store.proofs.SeeLemmas.{call_finds}
use Rattle.script_store.proofs.store.ScriptStore.look.Goals as goal

pub returns-clause-finds : goal.returns-clause-finds
returns-clause-finds g c = λ known.
    let before = g.C.Chip.told c.args.chip.now in
    let after = g.C.Chip.told c.find.new.chip in
    subst (λ (r : Result (Option (List ℕ)) Fault). Finds known c.args.n c.args.self.now before r
    c.find.new.self after) (sym c.looked_up.ensures)
    (call_finds known c.args.n c.args.self.now c.find.new.self before after c.requires.runs c.find.result c.find.ensures.framed
    c.find.ensures.committed c.find.ensures.calls)

pub returns-clause-done : goal.returns-clause-done
returns-clause-done g c =
    let before = g.C.Chip.told c.args.chip.now in
    subst (λ (r : Result (Option (List ℕ)) Fault). IfOk r (λ found. HasFound c.args.n c.args.self.now
    before found)) (sym c.looked_up.ensures)
    (found_done c.args.n c.args.self.now c.find.new.self before (g.C.Chip.told c.find.new.chip)
    c.requires.runs c.find.result c.find.ensures.calls c.find.ensures.committed)
