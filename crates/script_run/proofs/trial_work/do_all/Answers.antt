use Rattle.std.proofs.Common.{◌≡◌, ℕ, ◌+◌, ◌-◌, ◌∷◌, [], ◌++◌, List, sym, ◌∙◌, ap, subst, arith}
use Rattle.std.proofs.lemmas.Result.{err_from_is_err_and}
use Rattle.ipl_model.specs.declared.command.Command.{Command}
use Rattle.chip_trait.specs.Told.{adds_all}
use Rattle.store_trait.proofs.OnwardLemmas.{further_onward}
use Rattle.script_run.proofs.AlongLemmas.{along_none, along_more, along_then, along_stop}
use Rattle.script_run.proofs.CompleteLemmas.{completes_none, completes_more, completes_then, completes_stop}
use Rattle.script_run.specs.TrialWords.{commands_from}
use Rattle.script_run.proofs.WordLemmas.{commands_none}
use Rattle.script_run.specs.Trial.{IsDone, IsCutShort}
use Rattle.script_run.proofs.SourceLemmas.{goes_none, goes_next, one_more, all_more}
use Rattle.script_run.proofs.DoneLemmas.{done_none, done_then, cut_then, cut_longer}
use Rattle.script_run.proofs.trial_work.do_all.Goals as goal

pub loop-i-init : goal.loop-i-init
loop-i-init g c =
    let k = g.S.Store.keeping g.places g.S.Store.all in
    let at = g.D.Chip.told c.args.desk.now in
    record {
      goes = goes_none c.args.commands.now;
      does = λ limits state h holds.
          subst
          (λ (l : List Command).
          IsDone k limits state l c.args.tally.now c.args.store.now h c.args.tally.now c.args.store.now at at)
          (sym (commands_none c.args.commands.now))
          (done_none k limits state c.args.tally.now c.args.store.now h at holds);
      along = along_none;
      completes = λ known limits keeps. completes_none keeps;
      few = omega (arith, c.requires.1.1.0);
    }

pub returns-in_err-do_one-clause-does : goal.returns-in_err-do_one-clause-does
returns-in_err-do_one-clause-does g c = λ limits state h holds.
    let stop = err_from_is_err_and c.from_residual.result c.from_residual.ensures.1 in
    let k = g.S.Store.keeping g.places g.S.Store.all in
    let first = c.args.commands.now in
    let i = c.loop-i.i in
    let command = c.next-command.result in
    let later = c.next-command.new.self in
    let old = g.D.Chip.told c.args.desk.now in
    let new = g.D.Chip.told c.do_one.new.desk in
    let was = c.loop-i.invariant in
    let so_far = was.does limits state h holds in
    let done = commands_from first i in
    let rest = c.args.count - (i + 1) in
    let all : i + 1 + rest ≡ c.args.count = omega arith in
    let are = sym (all_more first c.loop-i.commands later command i was.goes c.next-command.ensures.next rest)
    ∙ ap (commands_from first) all in
    rw stop.1 (subst (λ (l : List Command). IsCutShort k limits state l c.args.store.now h c.do_one.new.store old new) are
    (cut_longer k limits state (done ++ command ∷ []) (commands_from later rest) c.args.store.now c.do_one.new.store h
    old new
    (cut_then k limits state done (command ∷ []) c.args.tally.now c.loop-i.tally c.args.store.now c.loop-i.store
    c.do_one.new.store h old _ new so_far was.along.beside.writes
    (c.in_err-do_one.ensures.does limits _ (adds_all so_far.leaves.added h) so_far.holds))))

pub returns-in_err-do_one-clause-completes : goal.returns-in_err-do_one-clause-completes
returns-in_err-do_one-clause-completes g c = λ known limits keeps.
    completes_more (completes_then (c.loop-i.invariant.completes known limits keeps)
    (further_onward _ _ c.loop-i.invariant.along.beside)
    (λ now. completes_stop c.from_residual.result c.from_residual.ensures.1
    (c.in_err-do_one.ensures.completes known limits now))) (omega arith)

pub loop-i-preserved : goal.loop-i-preserved
loop-i-preserved g c =
    let k = g.S.Store.keeping g.places g.S.Store.all in
    let first = c.args.commands.now in
    let command = c.next-command.result in
    let later = c.next-command.new.self in
    let new = c.do_one.new in
    record {
      goes = goes_next first c.loop-i.commands later command c.loop-i.i c.loop-i.invariant.goes
          c.next-command.ensures.next;
      does = λ limits state h holds.
          let so_far = c.loop-i.invariant.does limits state h holds in
          subst
          (λ (l : List Command).
          IsDone k limits state l c.args.tally.now c.args.store.now h new.tally new.store (g.D.Chip.told c.args.desk.now) (g.D.Chip.told new.desk))
          (sym (one_more first c.loop-i.commands later command c.loop-i.i c.loop-i.invariant.goes
          c.next-command.ensures.next))
          (done_then k limits state (commands_from first c.loop-i.i) (command ∷ []) c.args.tally.now c.loop-i.tally
          c.args.store.now c.loop-i.store new.store h _ _ _ so_far new.tally
          (c.in_ok-do_one.ensures.does limits _ (adds_all so_far.leaves.added h) so_far.holds));
      along = along_more (along_then c.loop-i.invariant.along c.in_ok-do_one.ensures.along) (omega arith);
      completes = λ known limits keeps.
          completes_more (completes_then (c.loop-i.invariant.completes known limits keeps)
          (further_onward _ _ c.loop-i.invariant.along.beside)
          (λ now. c.in_ok-do_one.ensures.completes known limits now)) (omega arith);
      few = omega (arith, c.loop-i.invariant.few, c.in_ok-do_one.ensures.more);
    }

pub returns-clause-does : goal.returns-clause-does
returns-clause-does g c = λ limits state h holds.
    let all : c.loop-i.i ≡ c.args.count = omega arith in
    subst
    (λ (n : ℕ). IsDone (g.S.Store.keeping g.places g.S.Store.all) limits state (commands_from c.args.commands.now n) c.args.tally.now
    c.args.store.now h c.loop-i.tally c.loop-i.store (g.D.Chip.told c.args.desk.now) (g.D.Chip.told c.loop-i.desk)) all
    (c.loop-i.invariant.does limits state h holds)

pub returns-clause-completes : goal.returns-clause-completes
returns-clause-completes g c = λ known limits keeps. completes_more (c.loop-i.invariant.completes known limits keeps) (omega arith)

pub returns-in_err-do_one-clause-along : goal.returns-in_err-do_one-clause-along
returns-in_err-do_one-clause-along g c =
    along_more (along_then c.loop-i.invariant.along
    (along_stop c.from_residual.result c.from_residual.ensures.1 c.in_err-do_one.ensures.along)) (omega arith)
