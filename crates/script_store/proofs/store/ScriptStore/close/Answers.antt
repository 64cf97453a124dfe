use Rattle.std.proofs.Common.{sym, subst}
use Rattle.chip_trait.specs.Told.{Told}
use Rattle.ipl_store.specs.Calls.{IsSound}
use Rattle.store_laws.specs.Keeps.{all_pages}
use Rattle.script_store.proofs.CloseLemmas.{answer_closes, close_ends}
use Rattle.script_store.proofs.store.ScriptStore.close.Goals as goal

pub close-done-requires : goal.close-done-requires
close-done-requires g c =
    let aborted = c.abort_all.ensures in
    record {
      sound = subst (λ (t : Told). IsSound t.places c.abort_all.new.self.store) (sym aborted.idle)
          (aborted.aborts all_pages).running.sound;
    }

pub closed-requires-clause-up : goal.closed-requires-clause-up
closed-requires-clause-up g c =
    let aborted = c.abort_all.ensures in
    (close_ends all_pages c.args.self.now c.abort_all.new.self c.close-done.new.self (g.C.Chip.told c.args.chip.now)
    (g.C.Chip.told c.close-done.new.chip) c.close-done.result c.requires.runs (aborted.aborts all_pages) aborted.none
    (g.C.Chip.told c.abort_all.new.chip) aborted.idle c.close-done.ensures.closes).up

pub closed-requires-clause-free : goal.closed-requires-clause-free
closed-requires-clause-free g c =
    let aborted = c.abort_all.ensures in
    (close_ends all_pages c.args.self.now c.abort_all.new.self c.close-done.new.self (g.C.Chip.told c.args.chip.now)
    (g.C.Chip.told c.close-done.new.chip) c.close-done.result c.requires.runs (aborted.aborts all_pages) aborted.none
    (g.C.Chip.told c.abort_all.new.chip) aborted.idle c.close-done.ensures.closes).free

pub returns : goal.returns
returns g c = λ known.
    let before = g.C.Chip.told c.args.chip.now in
    let after = g.C.Chip.told c.close-done.new.chip in
    let aborted = c.abort_all.ensures in
    answer_closes known c.args.self.now before c.close-done.result c.close-done.new.self after c.closed.result c.shut.new.self
    c.closed.ensures c.shut.ensures
    (close_ends known c.args.self.now c.abort_all.new.self c.close-done.new.self before after c.close-done.result c.requires.runs
    (aborted.aborts known) aborted.none (g.C.Chip.told c.abort_all.new.chip) aborted.idle c.close-done.ensures.closes)
