use Rattle.std.proofs.Common.{true, false}
use Rattle.log_records.specs.View.{record_of}
use Rattle.buffer_pool.specs.Lending.{with_frame}
use Rattle.store_laws.specs.Frames.{IsWrittenFrame}
use Rattle.page_frames.proofs.PutLemmas.{not_absent, room_told, both_change, both_stay, stored_then, written}
use Rattle.page_frames.proofs.puts.put_record.Goals as goal

pub unreachable-requires : goal.unreachable-requires
unreachable-requires c =
    let may = c.requires.fits in
    not_absent c.args.pool.now c.args.unit c.args.rec.now.page may.frame c.facts.ensures.once
    may.there c.in_default.ensures.none

-- ---- with no room

pub returns-then-not-note_change-clause-room : goal.returns-then-not-note_change-clause-room
returns-then-not-note_change-clause-room c = λ f there.
    let has = c.in-Some.ensures.found in
    room_told c.args.pool.now c.args.unit c.args.rec.now.page c.in-Some.key c.facts.ensures.once has
    (record_of c.args.rec.now) c.frame_under.result.now false f
    (c.frame_under.ensures.value has.buffer has.stored) c.if-not-note_change.ensures.exact there

-- ---- with room

pub returns-clause-room : goal.returns-clause-room
returns-clause-room c = λ f there.
    let has = c.in-Some.ensures.found in
    room_told c.args.pool.now c.args.unit c.args.rec.now.page c.in-Some.key c.facts.ensures.once has
    (record_of c.args.rec.now) c.frame_under.result.now true f
    (c.frame_under.ensures.value has.buffer has.stored) c.if-not-note_change.ensures.exact there

pub returns-clause-put : goal.returns-clause-put
returns-clause-put c =
    let p = c.args.pool.now in
    let key = c.in-Some.key in
    let page = c.args.rec.now.page in
    let once = c.facts.ensures.once in
    let has = c.in-Some.ensures.found in
    let f = c.note_change.new.frame in
    let set = c.if-not-note_change.ensures in
    let may = c.requires.fits in
    let log = c.log_under.ensures.value (with_frame f has.buffer)
    (stored_then p c.args.unit page key once has f) in
    both_change p c.args.unit page key once has (IsWrittenFrame (record_of c.args.rec.now)) f
    c.push.new.self
    (written p c.args.unit page key once has (record_of c.args.rec.now) f c.frame_under.result.now
    c.log_under.result.now c.push.new.self c.push.result may.frame
    (c.frame_under.ensures.value has.buffer has.stored) set.page set.pending may.there may.fits log
    c.push.ensures.fits c.push.ensures.pushed)

pub returns-clause-pool : goal.returns-clause-pool
returns-clause-pool c =
    both_stay c.args.pool.now c.args.unit c.args.rec.now.page c.in-Some.key c.facts.ensures.once
    c.in-Some.ensures.found c.note_change.new.frame c.push.new.self
