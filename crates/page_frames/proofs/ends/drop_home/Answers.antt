use Rattle.buffer_pool.specs.Lending.{with_frame}
use Rattle.store_laws.specs.Frames.{IsAbortedFrame}
use Rattle.page_frames.specs.Views.{frames_of}
use Rattle.page_frames.proofs.PutLemmas.{no_frame, both_change, both_stay, stored_then, dropped, with_frame_under, with_log_under}
use Rattle.page_frames.proofs.NameLemmas.{only_this, none_changes, stays_none}
use Rattle.page_frames.proofs.ends.drop_home.Goals as goal

pub returns-in-Some : goal.returns-in-Some
returns-in-Some c =
    let p = c.args.pool.now in
    let tid = c.args.tid in
    let at = c.home-at.result in
    let once = c.facts.ensures.once in
    let has = c.in-Some.ensures.found in
    let f = c.drop_tid.new.self in
    let new = c.drop_tid-in-Some.new.self in
    let log = c.log_under.ensures.value (with_frame f has.buffer)
    (stored_then p at.unit at.page c.in-Some.key once has f) in record {
      changes = only_this (IsAbortedFrame tid) (frames_of p)
          (frames_of (with_log_under (with_frame_under p c.in-Some.key f) c.in-Some.key new)) c.args.name.0 at c.home-at.ensures.home
          (both_change p at.unit at.page c.in-Some.key once has (IsAbortedFrame tid) f new
          (dropped p at.unit at.page c.in-Some.key once has tid f c.frame_under.result.now
          c.log_under.result.now new (c.frame_under.ensures.value has.buffer has.stored)
          c.drop_tid.ensures log c.drop_tid-in-Some.ensures));
      pool = both_stay c.args.pool.now at.unit at.page c.in-Some.key c.facts.ensures.once c.in-Some.ensures.found
          c.drop_tid.new.self c.drop_tid-in-Some.new.self;
    }

pub returns-in_default : goal.returns-in_default
returns-in_default c =
    let p = c.args.pool.now in
    let at = c.home-at.result in record {
      changes = none_changes (IsAbortedFrame c.args.tid) (frames_of p) c.args.name.0 at c.home-at.ensures.home
          (no_frame p at.unit at.page c.facts.ensures.once c.in_default.ensures.none);
      pool = stays_none p;
    }
