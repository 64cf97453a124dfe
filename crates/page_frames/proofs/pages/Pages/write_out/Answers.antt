use Rattle.std.proofs.Common.{refl, sym, Ok, Err}
use Rattle.std.proofs.lemmas.Result.{err_from_is_err_and}
use Rattle.page_frames.specs.declared.pages.Pages.{Pages}
use Rattle.page_frames.specs.Pages.{frames_in}
use Rattle.page_frames.proofs.AskLemmas.{none_to_write, some_to_write}
use Rattle.page_frames.proofs.FrameLemmas.{emptied_same}
use Rattle.page_frames.proofs.FramedLemmas.{out_framed}
use Rattle.page_frames.proofs.OutLemmas.{out_failed, cleared_frames, out_done}
use Rattle.page_frames.proofs.UpholdLemmas.{upholds_none}
use Rattle.page_frames.proofs.CompleteLemmas.{merge_completes}
use Rattle.page_frames.proofs.TellLemmas.{merge_tells, merge_tells_surely}
use Rattle.page_frames.proofs.WorkLemmas.{works_done}
use Rattle.page_frames.proofs.pages.Pages.write_out.Goals as goal

pub returns-then-not-has_records-clause-works : goal.returns-then-not-has_records-clause-works
returns-then-not-has_records-clause-works g c =
    let old = c.args.self.now in
    let told = g.C.Chip.told c.args.chip.now in
    works_done 14 old old told told (upholds_none 14 old told c.requires.ready)

pub returns-then-not-has_records-clause-frames : goal.returns-then-not-has_records-clause-frames
returns-then-not-has_records-clause-frames g c =
    sym (emptied_same (frames_in c.args.self.now) c.args.unit c.args.page
    (c.if-not-has_records.ensures.none refl))

pub returns-in_err-write_records-clause-works : goal.returns-in_err-write_records-clause-works
returns-in_err-write_records-clause-works g c =
    let is = c.in_err-write_records.ensures in
    let pages = c.args.self.now in
    let after : Pages = record { parts = c.write_records.new.parts; pool = pages.pool } in
    let old = g.C.Chip.told c.args.chip.now in
    let fault = c.in_err-write_records.field-0.0 in
    let e = err_from_is_err_and c.from_residual.result c.from_residual.ensures.1 in
    rw (e.1, e.2) (record {
      upholds = out_failed c.args.unit c.args.page c.log_payload-payload.result pages after fault old
          (g.C.Chip.told c.write_records.new.chip) c.requires.ready refl
          (c.if-not-has_records.ensures.some refl) c.log_payload-payload.ensures.records is.tells is.steps
          is.leaves;
      complete = merge_completes {T = Unit {0}} c.args.unit pages (Err fault) old c.requires.page.unit
          is.fails.complete;
      faults = merge_tells {T = Unit {0}} c.args.unit pages after (Err fault) old
          (g.C.Chip.told c.write_records.new.chip) c.requires.page.unit is.leaves.holds.active is.fails.fault
          is.fails.stays is.fails.untouched;
      surely = merge_tells_surely {T = Unit {0}} c.args.unit pages after (Err fault) old
          (g.C.Chip.told c.write_records.new.chip) c.requires.page.unit is.leaves.holds.active is.fails.fault
          is.fails.stays;
    })

pub returns-then-not-has_records-clause-asks : goal.returns-then-not-has_records-clause-asks
returns-then-not-has_records-clause-asks g c =
    none_to_write c.args.unit c.args.page c.args.self.now (g.C.Chip.told c.args.chip.now)

pub returns-in_err-write_records-clause-asks : goal.returns-in_err-write_records-clause-asks
returns-in_err-write_records-clause-asks g c =
    let e = err_from_is_err_and c.from_residual.result c.from_residual.ensures.1 in
    rw (e.1, e.2) (some_to_write c.args.unit c.args.page (Err c.in_err-write_records.field-0.0)
    c.args.self.now (record { parts = c.write_records.new.parts; pool = c.args.self.now.pool })
    (g.C.Chip.told c.args.chip.now) (g.C.Chip.told c.write_records.new.chip)
    (c.if-not-has_records.ensures.full refl) c.in_err-write_records.ensures.costs)

pub returns-clause-works : goal.returns-clause-works
returns-clause-works g c =
    let is = c.in_ok-write_records.ensures in
    let pages = c.args.self.now in
    let after : Pages = record { parts = c.write_records.new.parts; pool = c.clear_log.new.pool } in
    let old = g.C.Chip.told c.args.chip.now in
    let new = g.C.Chip.told c.write_records.new.chip in
    works_done 14 pages after old new (out_done c.args.unit c.args.page c.log_payload-payload.result pages
    after old new c.requires.ready c.log_payload-payload.ensures.records c.clear_log.ensures.cleared
    c.clear_log.ensures.pool.pins is.tells is.steps is.leaves)

pub returns-clause-frames : goal.returns-clause-frames
returns-clause-frames g c =
    cleared_frames (frames_in c.args.self.now)
    (frames_in (record { parts = c.write_records.new.parts; pool = c.clear_log.new.pool })) c.args.unit
    c.args.page c.clear_log.ensures.cleared

pub returns-clause-asks : goal.returns-clause-asks
returns-clause-asks g c =
    some_to_write c.args.unit c.args.page (Ok tt) c.args.self.now
    (record { parts = c.write_records.new.parts; pool = c.clear_log.new.pool })
    (g.C.Chip.told c.args.chip.now) (g.C.Chip.told c.write_records.new.chip)
    (c.if-not-has_records.ensures.full refl) c.in_ok-write_records.ensures.costs

pub returns-then-not-has_records-clause-framed : goal.returns-then-not-has_records-clause-framed
returns-then-not-has_records-clause-framed g c = λ u page is. is

pub returns-in_err-write_records-clause-framed : goal.returns-in_err-write_records-clause-framed
returns-in_err-write_records-clause-framed g c = λ u page is. is

pub returns-clause-framed : goal.returns-clause-framed
returns-clause-framed g c =
    let new : Pages = record { parts = c.write_records.new.parts; pool = c.clear_log.new.pool } in
    out_framed c.args.unit c.args.page c.args.self.now new
    (cleared_frames (frames_in c.args.self.now) (frames_in new) c.args.unit c.args.page
    c.clear_log.ensures.cleared)

pub returns-in_err-write_records-clause-exact : goal.returns-in_err-write_records-clause-exact
returns-in_err-write_records-clause-exact g c =
    let e = err_from_is_err_and c.from_residual.result c.from_residual.ensures.1 in
    rw (e.1, e.2) c.in_err-write_records.ensures.fails.fault
