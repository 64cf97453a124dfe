use Rattle.std.proofs.lemmas.Result.{err_from_is_err_and}
use Rattle.ipl_meaning.proofs.MarkProgramLemmas.{programs_keep_marks}
use Rattle.unit_io.proofs.SectorLemmas.{untouched}
use Rattle.unit_io.proofs.SealLemmas.{added_leads, added_fails}
use Rattle.unit_io.proofs.PlainLemmas.{plain_then, plain_did, plain_waited}
use Rattle.std.proofs.Common.{Ok, Err, arith}
use Rattle.unit_io.proofs.CostLemmas.{spends_at_most, spends_at_then, spends_programmed, spends_barred}
use Rattle.unit_io.proofs.SparesLemmas.{spares_behind, spares_programmed, spares_waited}
use Rattle.unit_io.proofs.TidyLemmas.{tidy_programmed, tidy_then_waits}
use Rattle.std.proofs.Common.{true, false}
use Rattle.std.specs.Prelude.{is_ok}
use Rattle.unit_io.specs.Spots.{IsSpot}
use Rattle.unit_io.proofs.UnreadLemmas.{unread_programmed, unread_waited, unread_then}
use Rattle.unit_io.proofs.places.add_header.Goals as goal

pub returns-in_err-program-clause-leads : goal.returns-in_err-program-clause-leads
returns-in_err-program-clause-leads g c = λ m n h said says steady rests closed clean stands worn no_more.
    let e = err_from_is_err_and c.from_residual.result c.from_residual.ensures.1 in
    rw e.1 (added_fails (Unit {0}) _ m n h c.args.place 0 c.args.bytes.now said says rests (untouched h c.args.place 0 clean) stands worn
    (λ _. programs_keep_marks _ m h c.args.place 0 c.args.bytes.now said rests closed (untouched h c.args.place 0 clean) says worn no_more)
    closed _ e.0 steady c.in_err-program.ensures.did)

pub returns-clause-leads : goal.returns-clause-leads
returns-clause-leads g c = λ m n h said says steady rests closed clean stands worn no_more.
    added_leads (Unit {0}) _ m n h c.args.place 0 c.args.bytes.now said says rests (untouched h c.args.place 0 clean) stands worn
    (λ _. programs_keep_marks _ m h c.args.place 0 c.args.bytes.now said rests closed (untouched h c.args.place 0 clean) says worn no_more)
    closed _ _ _ steady c.in_ok-program.ensures.did c.barrier.ensures.did

pub returns-in_err-program-clause-plain : goal.returns-in_err-program-clause-plain
returns-in_err-program-clause-plain g c = λ plain. plain_did _ (g.C.Chip.told c.args.chip.now) (g.C.Chip.told c.program.new.chip) plain c.program.result c.program.ensures.did

pub returns-clause-plain : goal.returns-clause-plain
returns-clause-plain g c = λ plain.
    plain_then (g.C.Chip.told c.args.chip.now) (g.C.Chip.told c.program.new.chip) (g.C.Chip.told c.barrier.new.chip)
    (plain_did _ (g.C.Chip.told c.args.chip.now) (g.C.Chip.told c.program.new.chip) plain c.program.result c.program.ensures.did)
    (plain_waited (g.C.Chip.told c.program.new.chip) (g.C.Chip.told c.barrier.new.chip) c.barrier.result c.barrier.ensures.did)

pub returns-in_err-program-clause-costs : goal.returns-in_err-program-clause-costs
returns-in_err-program-clause-costs g c = λ said says.
    spends_at_most c.args.place 1 1 0 1 said.kind _ _ (omega arith) (omega arith)
    (spends_programmed c.args.place 0 _ said _ _ (Err c.in_err-program.field-0.0) says c.in_err-program.ensures.did)

pub returns-clause-costs : goal.returns-clause-costs
returns-clause-costs g c = λ said says.
    spends_at_then c.args.place 1 0 0 1 said.kind _ (g.C.Chip.told c.program.new.chip) _
    (spends_programmed c.args.place 0 _ said _ _ (Ok tt) says c.in_ok-program.ensures.did)
    (spends_barred c.args.place said.kind _ _ _ c.barrier.ensures.did)

pub returns-clause-spares : goal.returns-clause-spares
returns-clause-spares g c =
    let old = g.C.Chip.told c.args.chip.now in
    let mid = g.C.Chip.told c.program.new.chip in
    let new = g.C.Chip.told c.barrier.new.chip in
    spares_behind c.args.place old mid new c.barrier.result
    (spares_programmed c.args.place 0 c.args.bytes.now old mid (Ok tt) c.in_ok-program.ensures.did)
    (spares_waited c.args.place mid new c.barrier.result c.barrier.ensures.did)

pub returns-in_err-program-clause-tidy : goal.returns-in_err-program-clause-tidy
returns-in_err-program-clause-tidy g c =
    let e = err_from_is_err_and c.from_residual.result c.from_residual.ensures.1 in
    rw e.1 (tidy_programmed c.args.place 0 _ false _ _ (Err c.in_err-program.field-0.0) c.in_err-program.ensures.did)

pub returns-clause-tidy : goal.returns-clause-tidy
returns-clause-tidy g c =
    tidy_then_waits c.args.place (IsSpot 0) true (is_ok c.barrier.result) _ (g.C.Chip.told c.program.new.chip) _ c.barrier.result
    (tidy_programmed c.args.place 0 _ true _ _ (Ok tt) c.in_ok-program.ensures.did) c.barrier.ensures.did

pub returns-in_err-program-clause-unread : goal.returns-in_err-program-clause-unread
returns-in_err-program-clause-unread g c =
    unread_programmed c.args.place 0 c.args.bytes.now c.program.result (g.C.Chip.told c.args.chip.now) (g.C.Chip.told c.program.new.chip)
    c.program.ensures.did

pub returns-clause-unread : goal.returns-clause-unread
returns-clause-unread g c =
    let old = g.C.Chip.told c.args.chip.now in
    let mid = g.C.Chip.told c.program.new.chip in
    let new = g.C.Chip.told c.barrier.new.chip in
    unread_then old mid new (unread_programmed c.args.place 0 c.args.bytes.now c.program.result old mid c.program.ensures.did)
    (unread_waited c.barrier.result mid new c.barrier.ensures.did)
