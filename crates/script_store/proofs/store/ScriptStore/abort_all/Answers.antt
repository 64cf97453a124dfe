use Rattle.std.proofs.Common.{arith, refl, sym, ◌∙◌, subst}
use Rattle.chip_trait.specs.Told.{Told}
use Rattle.ipl_store.specs.Calls.{IsSound}
use Rattle.script_store.specs.declared.store.ScriptStore.{ScriptStore}
use Rattle.store_laws.specs.Keeps.{all_pages}
use Rattle.script_store.proofs.AbortLemmas.{aborts_none, aborts_more, closed_more, calls_idle}
use Rattle.script_store.proofs.ClosedLemmas.{closes_free}
use Rattle.script_store.proofs.store.ScriptStore.abort_all.Goals as goal

pub loop-s-init : goal.loop-s-init
loop-s-init g c = record {
  idle = refl;
  aborts = λ known. aborts_none known c.args.self.now (g.C.Chip.told c.args.chip.now) c.requires.runs;
  all = refl;
  closed = λ s low. absurd (omega (arith, low));
}

pub abort-requires : goal.abort-requires
abort-requires g c =
    let l = c.loop-s in
    let sound = (l.invariant.aborts all_pages).running.sound in
    record { sound = subst (λ (t : Told). IsSound t.places l.self.store) (sym l.invariant.idle) sound }

pub loop-s-preserved : goal.loop-s-preserved
loop-s-preserved g c =
    let l = c.loop-s in
    let a = c.args.self.now in
    let told = g.C.Chip.told c.args.chip.now in
    let b : ScriptStore = record { store = c.abort.new.self } in
    let calls = calls_idle l.self b told (g.C.Chip.told l.chip) (g.C.Chip.told c.abort.new._chip) l.s c.abort.result
    l.invariant.idle c.abort.ensures.memory.idle c.abort.ensures.calls in
    record {
      idle = c.abort.ensures.memory.idle ∙ l.invariant.idle;
      aborts = λ known. aborts_more known a l.self b told l.s c.abort.result (l.invariant.aborts known) calls c.abort.ensures.early;
      all = calls.sessions ∙ l.invariant.all;
      closed = closed_more all_pages a l.self b told l.s c.abort.result (l.invariant.aborts all_pages)
          (omega (arith, c.loop-s-test.true, c.session_count-s-end.ensures.count, l.invariant.all))
          calls c.abort.ensures.early c.abort.ensures.ended l.invariant.closed;
    }

pub returns-clause-none : goal.returns-clause-none
returns-clause-none g c =
    let l = c.loop-s in
    closes_free l.s l.self.store.transactions.sessions (omega (arith, c.loop-s-test.false, c.session_count-s-end.ensures.count, l.invariant.all)) l.invariant.closed
