use Rattle.store_laws.specs.Frames.{IsCommittedFrame}
use Rattle.page_frames.specs.Views.{frames_of}
use Rattle.page_frames.proofs.PutLemmas.{no_frame, frame_changes, frame_keeps, applied, with_frame_under}
use Rattle.page_frames.proofs.NameLemmas.{only_this, none_changes, stays_none}
use Rattle.page_frames.proofs.ends.apply_home.Goals as goal

pub returns-in-Some : goal.returns-in-Some
returns-in-Some c =
    let p = c.args.pool.now in
    let tid = c.args.tid in
    let at = c.home-at.result in
    let once = c.facts.ensures.once in
    let has = c.in-Some.ensures.found in
    let f = c.apply_tid.new.self in record {
      changes = only_this (IsCommittedFrame tid) (frames_of p) (frames_of (with_frame_under p c.in-Some.key f)) c.args.name.0 at c.home-at.ensures.home
          (frame_changes p at.unit at.page c.in-Some.key once has (IsCommittedFrame tid) f
          (applied p at.unit at.page c.in-Some.key once has tid f c.frame_under.result.now
          (c.frame_under.ensures.value has.buffer has.stored) c.apply_tid.ensures));
      pool = frame_keeps c.args.pool.now at.unit at.page c.in-Some.key c.facts.ensures.once c.in-Some.ensures.found
          c.apply_tid.new.self;
    }

pub returns-in_default : goal.returns-in_default
returns-in_default c =
    let p = c.args.pool.now in
    let at = c.home-at.result in record {
      changes = none_changes (IsCommittedFrame c.args.tid) (frames_of p) c.args.name.0 at c.home-at.ensures.home
          (no_frame p at.unit at.page c.facts.ensures.once c.in_default.ensures.none);
      pool = stays_none p;
    }
