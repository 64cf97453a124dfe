use Rattle.store_laws.specs.Frames.{IsCommittedFrame}
use Rattle.page_frames.specs.Views.{frames_of}
use Rattle.store_laws.proofs.ChangeLemmas.{named_none, commits_joined}
use Rattle.page_frames.proofs.NameLemmas.{names_turn, names_all, stays_none, stays_both}
use Rattle.page_frames.proofs.ends.apply_names.Goals as goal

pub loop-name-init : goal.loop-name-init
loop-name-init c =
    let p = c.args.pool.now in
    (named_none (IsCommittedFrame c.args.tid) (commits_joined c.args.tid) (frames_of p), stays_none p)

pub loop-name-preserved : goal.loop-name-preserved
loop-name-preserved c =
    let l = c.loop-name in
    let so = l.invariant in
    let did = c.apply_home.ensures in
    let new = c.apply_home.new.pool in (
      names_turn (IsCommittedFrame c.args.tid) c.args.names.now l.name-index (frames_of c.args.pool.now)
          (frames_of l.pool) so.0 (commits_joined c.args.tid) (frames_of new) (record { 0 = 0 })
          c.loop-name-test.true did.changes,
      stays_both c.args.pool.now l.pool new so.1 did.pool,
    )

pub returns-clause-applied : goal.returns-clause-applied
returns-clause-applied c =
    let l = c.loop-name in
    names_all (IsCommittedFrame c.args.tid) c.args.names.now l.name-index (frames_of c.args.pool.now)
    (frames_of l.pool) l.invariant.0 c.loop-name-test.false
