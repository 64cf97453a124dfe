use Rattle.std.proofs.Common.{false, true, List, length, ◌∙◌, ℕ, Ok, Err, ap, arith, subst}
use Rattle.std.proofs.lemmas.Result.{err_from_is_err_and}
use Rattle.chip_trait.proofs.CountsLemmas.{counts_then}
use Rattle.log_records.specs.View.{Versioned}
use Rattle.unit_io.specs.Charts.{Charts}
use Rattle.unit_io.specs.Spots.{Programs}
use Rattle.place_taking.specs.Fills.{FillsAt}
use Rattle.unit_log.specs.Kept.{records_kept}
use Rattle.selective_merge.specs.Moved.{IsAside}
use Rattle.selective_merge.specs.Homes.{from_home, MoveCause}
use Rattle.selective_merge.specs.Throughout.{KeepsThroughout}
use Rattle.selective_merge.specs.Often.{base_sectors}
use Rattle.selective_merge.proofs.OftenLemmas.{reads_once}
use Rattle.selective_merge.specs.Writing.{DrawsSerials, GainsUnit, IsFilledSpot, WritesLogs, WritesPlace}
use Rattle.selective_merge.proofs.FillLemmas.{pages_failed, logged, logs_failed, filled_told}
use Rattle.selective_merge.proofs.FaultLemmas.{fault_as, fault_stopped}
use Rattle.place_taking.proofs.JoinLemmas.{fills_programs, fills_then}
use Rattle.unit_io.proofs.SparesLemmas.{spares_then}
use Rattle.selective_merge.proofs.PlaceLemmas.{stopped_unmoved}
use Rattle.selective_merge.proofs.TidyLemmas.{tidy_paged, tidy_logged}
use Rattle.selective_merge.proofs.places.fill.Goals as goal

pub returns-in_err-pieces-clause-fills : goal.returns-in_err-pieces-clause-fills
returns-in_err-pieces-clause-fills g c = λ m h steady rests clean.
    let old = g.C.Chip.told c.args.chip.now in
    let from = from_home c.args.home.now c.args.status.now.numbers (records_kept c.args.sectors.now) in
    let head = c.args.head.now in
    let e = err_from_is_err_and c.from_residual.result c.from_residual.ensures.1 in
    rw e.1 (pages_failed old.places from c.args.place head.generation c.args.counter.now head.unit
    c.args.packs.now.closed.items c.requires.unit m h old steady rests clean c.in_err-pieces.field-0.0 e.0
    (g.C.Chip.told c.move_read.new.chip) e.2 c.in_err-pieces.ensures.moves)

pub returns-in_err-write_logs-clause-fills : goal.returns-in_err-write_logs-clause-fills
returns-in_err-write_logs-clause-fills g c = λ m h steady rests clean.
    let old = g.C.Chip.told c.args.chip.now in
    let late = g.C.Chip.told c.move_read.new.chip in
    let new = g.C.Chip.told c.write_logs.new.chip in
    let from = from_home c.args.home.now c.args.status.now.numbers (records_kept c.args.sectors.now) in
    let head = c.args.head.now in
    let pages = c.in_ok-pieces.ensures in
    let fault = c.in_err-write_logs.field-0.0 in
    let e = err_from_is_err_and c.from_residual-in_err-write_logs.result
    c.from_residual-in_err-write_logs.ensures.1 in
    rw e.1 (subst (λ (ps : List Versioned). KeepsThroughout {T = List ℕ} old.places m
    (Programs c.args.place (IsFilledSpot (length ps)))
    (λ pieces. GainsUnit from c.args.place head.generation c.args.counter.now pieces ps) (IsAside c.args.place) h
    (Err e.0) old new) c.payloads.ensures.all
    (logs_failed old.places from c.args.place head.generation c.args.counter.now head.unit
    c.payloads.result.now c.requires.unit m h old steady rests clean late pages.spends.accounts.counts
    c.in_ok-pieces.pieces pages.moves fault e.0 new e.2
    (subst (λ (q : ℕ). WritesLogs q c.args.place head.unit head.generation c.args.counter.now
    c.payloads.result.now late (Err fault) new) pages.spends.accounts.counts.places
    c.in_err-write_logs.ensures.writes) c.in_err-write_logs.ensures.spends.accounts.cause))

pub returns-clause-fills : goal.returns-clause-fills
returns-clause-fills g c = λ m h steady rests clean.
    let old = g.C.Chip.told c.args.chip.now in
    let late = g.C.Chip.told c.move_read.new.chip in
    let new = g.C.Chip.told c.write_logs.new.chip in
    let from = from_home c.args.home.now c.args.status.now.numbers (records_kept c.args.sectors.now) in
    let head = c.args.head.now in
    let pages = c.in_ok-pieces.ensures in
    subst (λ (ps : List Versioned). KeepsThroughout old.places m
    (Programs c.args.place (IsFilledSpot (length ps)))
    (λ pieces. GainsUnit from c.args.place head.generation c.args.counter.now pieces ps) (IsAside c.args.place) h
    (Ok c.in_ok-pieces.pieces) old new) c.payloads.ensures.all
    (logged old.places from c.args.place head.generation c.args.counter.now head.unit
    c.payloads.result.now c.requires.unit m h old steady rests clean late pages.spends.accounts.counts
    c.in_ok-pieces.pieces pages.moves new (Ok tt)
    (subst (λ (q : ℕ). WritesLogs q c.args.place head.unit head.generation c.args.counter.now
    c.payloads.result.now late (Ok tt) new) pages.spends.accounts.counts.places
    c.in_ok-write_logs.ensures.writes) tt)

pub returns-in_err-pieces-clause-tells : goal.returns-in_err-pieces-clause-tells
returns-in_err-pieces-clause-tells g c =
    let e = err_from_is_err_and c.from_residual.result c.from_residual.ensures.1 in
    rw e.1 (λ soft. c.in_err-pieces.ensures.tells (λ same. soft (e.2 ∙ same)))

pub returns-in_err-write_logs-clause-tells : goal.returns-in_err-write_logs-clause-tells
returns-in_err-write_logs-clause-tells g c =
    let e = err_from_is_err_and c.from_residual-in_err-write_logs.result
    c.from_residual-in_err-write_logs.ensures.1 in
    rw e.1 (λ soft. absurd (soft (e.2 ∙ c.in_err-write_logs.ensures.spends.accounts.cause.0)))

pub returns-clause-tells : goal.returns-clause-tells
returns-clause-tells g c =
    let from = from_home c.args.home.now c.args.status.now.numbers (records_kept c.args.sectors.now) in
    let head = c.args.head.now in
    subst (λ (ps : List Versioned). Charts (GainsUnit from c.args.place head.generation c.args.counter.now
    c.in_ok-pieces.pieces ps) (g.C.Chip.told c.args.chip.now) (g.C.Chip.told c.write_logs.new.chip))
    c.payloads.ensures.all (filled_told from c.args.place head.generation c.args.counter.now head.unit
    c.payloads.result.now
    c.requires.unit c.in_ok-pieces.pieces (g.C.Chip.told c.args.chip.now)
    (g.C.Chip.told c.move_read.new.chip) (g.C.Chip.told c.write_logs.new.chip)
    c.in_ok-pieces.ensures.tells c.in_ok-write_logs.ensures.tells)

pub returns-in_err-pieces-clause-fault : goal.returns-in_err-pieces-clause-fault
returns-in_err-pieces-clause-fault g c = λ x told.
    let e = err_from_is_err_and c.from_residual.result c.from_residual.ensures.1 in
    rw e.1 (fault_as _ e.0 c.in_err-pieces.field-0.0 e.2 (c.in_err-pieces.ensures.fault x told))

pub returns-in_err-write_logs-clause-fault : goal.returns-in_err-write_logs-clause-fault
returns-in_err-write_logs-clause-fault g c = λ x told.
    let e = err_from_is_err_and c.from_residual-in_err-write_logs.result
    c.from_residual-in_err-write_logs.ensures.1 in
    rw e.1 (fault_stopped _ e.0 (e.2 ∙ c.in_err-write_logs.ensures.spends.accounts.cause.0))

pub returns-clause-fault : goal.returns-clause-fault
returns-clause-fault g c = λ x told. c.in_ok-pieces.ensures.fault x told

pub returns-in_err-pieces-clause-spends : goal.returns-in_err-pieces-clause-spends
returns-in_err-pieces-clause-spends g c =
    let old = g.C.Chip.told c.args.chip.now in
    let new = g.C.Chip.told c.move_read.new.chip in
    let p = c.args.place in
    let says = c.in_err-pieces.ensures.spends in
    let e = err_from_is_err_and c.from_residual.result c.from_residual.ensures.1 in
    rw (e.1 ∙ ap Err e.2) (record {
      spares = says.spares;
      costs = fills_programs p 240 0 4 old new says.costs;
      tidy = tidy_paged p (length c.args.packs.now.closed.items) old new says.tidy;
      reads = says.reads;
      accounts = record { counts = says.accounts.counts; cause = says.accounts.cause };
    })

pub returns-in_err-write_logs-clause-spends : goal.returns-in_err-write_logs-clause-spends
returns-in_err-write_logs-clause-spends g c =
    let old = g.C.Chip.told c.args.chip.now in
    let late = g.C.Chip.told c.move_read.new.chip in
    let new = g.C.Chip.told c.write_logs.new.chip in
    let p = c.args.place in
    let n = length c.payloads.result.now in
    let pages = c.in_ok-pieces.ensures.spends in
    let logs = c.in_err-write_logs.ensures.spends in
    let e = err_from_is_err_and c.from_residual-in_err-write_logs.result
    c.from_residual-in_err-write_logs.ensures.1 in
    rw (e.1 ∙ ap Err e.2) (subst (λ (ps : List Versioned). WritesPlace {T = List ℕ} p (FillsAt p 0)
    (IsFilledSpot (length ps)) (base_sectors c.args.home.now.place)
    (MoveCause c.args.home.now.place) (Err c.in_err-write_logs.field-0.0) old new)
    c.payloads.ensures.all (record {
      spares = λ held. spares_then p old late new pages.spares (logs.spares held);
      costs = fills_then p 0 0 old late new (fills_programs p 240 0 4 old late pages.costs)
          (fills_programs p n 0 5 late new logs.costs);
      tidy = tidy_logged p n false old late new pages.tidy logs.tidy;
      reads = reads_once (base_sectors c.args.home.now.place) old late new pages.reads logs.reads;
      accounts = record {
        counts = counts_then old late new pages.accounts.counts logs.accounts.counts;
        cause = stopped_unmoved {T = Unit {0}} c.args.home.now.place (Err c.in_err-write_logs.field-0.0) old
            late new pages.accounts.counts logs.accounts.cause;
      };
    }))

pub returns-clause-spends : goal.returns-clause-spends
returns-clause-spends g c =
    let old = g.C.Chip.told c.args.chip.now in
    let late = g.C.Chip.told c.move_read.new.chip in
    let new = g.C.Chip.told c.write_logs.new.chip in
    let p = c.args.place in
    let n = length c.payloads.result.now in
    let pages = c.in_ok-pieces.ensures.spends in
    let logs = c.in_ok-write_logs.ensures.spends in
    subst (λ (ps : List Versioned). WritesPlace {T = List ℕ} p (FillsAt p 0) (IsFilledSpot (length ps))
    (base_sectors c.args.home.now.place) (MoveCause c.args.home.now.place) (Ok c.in_ok-pieces.pieces) old new) c.payloads.ensures.all (record {
      spares = spares_then p old late new pages.spares logs.spares;
      costs = fills_then p 0 0 old late new (fills_programs p 240 0 4 old late pages.costs)
          (fills_programs p n 0 5 late new logs.costs);
      tidy = tidy_logged p n true old late new pages.tidy logs.tidy;
      reads = reads_once (base_sectors c.args.home.now.place) old late new pages.reads logs.reads;
      accounts = record {
        counts = counts_then old late new pages.accounts.counts logs.accounts.counts;
        cause = tt;
      };
    })

pub returns-in_err-pieces-clause-serials : goal.returns-in_err-pieces-clause-serials
returns-in_err-pieces-clause-serials g c =
    let e = err_from_is_err_and c.from_residual.result c.from_residual.ensures.1 in
    rw e.1 (record { drawn = tt; draws = (omega arith, omega arith) })

pub returns-in_err-write_logs-clause-serials : goal.returns-in_err-write_logs-clause-serials
returns-in_err-write_logs-clause-serials g c =
    let e = err_from_is_err_and c.from_residual-in_err-write_logs.result
    c.from_residual-in_err-write_logs.ensures.1 in
    rw e.1 (subst (λ (ps : List Versioned). DrawsSerials {T = List ℕ} (length ps) (Err e.0) c.args.counter.now
    c.write_logs.new.counter) c.payloads.ensures.all
    (record { drawn = tt; draws = c.in_err-write_logs.ensures.serials.draws }))

pub returns-clause-serials : goal.returns-clause-serials
returns-clause-serials g c =
    let serials = c.in_ok-write_logs.ensures.serials in
    subst (λ (ps : List Versioned). DrawsSerials {T = List ℕ} (length ps) (Ok c.in_ok-pieces.pieces) c.args.counter.now
    c.write_logs.new.counter) c.payloads.ensures.all
    (record { drawn = serials.drawn; draws = serials.draws })

pub write_logs-requires-clause-place : goal.write_logs-requires-clause-place
write_logs-requires-clause-place g c =
    omega (arith, c.requires.may.place, c.in_ok-pieces.ensures.spends.accounts.counts.places)
