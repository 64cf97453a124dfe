use Rattle.store_laws.specs.Frames.{IsAbortedFrame}
use Rattle.page_frames.specs.Views.{frames_of}
use Rattle.store_laws.proofs.ChangeLemmas.{named_none, aborts_joined}
use Rattle.page_frames.proofs.NameLemmas.{names_turn, names_all, stays_none, stays_both}
use Rattle.page_frames.proofs.ends.drop_names.Goals as goal

pub loop-name-init : goal.loop-name-init
loop-name-init c =
    let p = c.args.pool.now in
    (named_none (IsAbortedFrame c.args.tid) (aborts_joined c.args.tid) (frames_of p), stays_none p)

pub loop-name-preserved : goal.loop-name-preserved
loop-name-preserved c =
    let l = c.loop-name in
    let so = l.invariant in
    let did = c.drop_home.ensures in
    let new = c.drop_home.new.pool in (
      names_turn (IsAbortedFrame c.args.tid) c.args.names.now l.name-index (frames_of c.args.pool.now)
          (frames_of l.pool) so.0 (aborts_joined c.args.tid) (frames_of new) (record { 0 = 0 })
          c.loop-name-test.true did.changes,
      stays_both c.args.pool.now l.pool new so.1 did.pool,
    )

pub returns-clause-dropped : goal.returns-clause-dropped
returns-clause-dropped c =
    let l = c.loop-name in
    names_all (IsAbortedFrame c.args.tid) c.args.names.now l.name-index (frames_of c.args.pool.now)
    (frames_of l.pool) l.invariant.0 c.loop-name-test.false
