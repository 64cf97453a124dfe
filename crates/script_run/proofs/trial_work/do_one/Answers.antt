use Rattle.std.proofs.lemmas.Result.{err_from_is_err_and}
use Rattle.script_run.proofs.CompleteLemmas.{completes_work, completes_fault}
use Rattle.script_run.proofs.DoneLemmas.{done_one, cut_one}
use Rattle.script_run.proofs.trial_work.do_one.Goals as goal

pub returns-in_err-reply-clause-does : goal.returns-in_err-reply-clause-does
returns-in_err-reply-clause-does g c = rw (← c.requires.1.1.1.1.places) (λ limits state h holds.
    let stop = err_from_is_err_and c.from_residual.result c.from_residual.ensures.1 in
    rw stop.1 (cut_one (g.S.Store.keeping (g.D.Chip.told c.args.desk.now).places g.S.Store.all) limits state c.args.command.now c.args.store.now c.work.new.self h _ _ _
    (c.in_err-reply.ensures.works g.S.Store.all limits state h holds)))

pub returns-in_err-reply-clause-completes : goal.returns-in_err-reply-clause-completes
returns-in_err-reply-clause-completes g c = rw (← c.requires.1.1.1.1.places) (λ known limits keeps.
    completes_fault c.from_residual.result c.from_residual.ensures.1
    (c.in_err-reply.ensures.works known limits keeps.state keeps.history keeps.holds))

pub returns-clause-does : goal.returns-clause-does
returns-clause-does g c = rw (← c.requires.1.1.1.1.places) (λ limits state h holds.
    done_one (g.S.Store.keeping (g.D.Chip.told c.args.desk.now).places g.S.Store.all) limits state c.args.command.now c.args.tally.now c.note.new.self c.args.store.now
    c.work.new.self h _ _ _ (c.in_ok-reply.ensures.works g.S.Store.all limits state h holds) c.note.ensures.counts)

pub returns-clause-completes : goal.returns-clause-completes
returns-clause-completes g c = rw (← c.requires.1.1.1.1.places) (λ known limits keeps.
    completes_work (c.in_ok-reply.ensures.works known limits keeps.state keeps.history keeps.holds))
