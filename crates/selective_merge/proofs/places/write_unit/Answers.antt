use Rattle.std.proofs.Common.{ℕ, length, slice_index, Ok, Err, OnOk, ◌∙◌, ap, arith, subst, sym}
use Rattle.std.proofs.lemmas.Result.{err_from_is_err_and}
use Rattle.std.specs.Prelude.{is_ok}
use Rattle.chip_trait.proofs.CountsLemmas.{counts_then}
use Rattle.place_taking.proofs.JoinLemmas.{fills_at_most, fills_programs, fills_then}
use Rattle.selective_merge.specs.Moving.{source_read}
use Rattle.sector_format.specs.declared.sector.Head.{Head}
use Rattle.unit_io.specs.Charts.{Charts, Spares}
use Rattle.selective_merge.specs.Throughout.{ChartsThroughout}
use Rattle.selective_merge.specs.Writing.{FillsPlace, GainsUnit, IsSealed, SealsUnit, TellsWritten}
use Rattle.selective_merge.proofs.SealLemmas.{unit_written, written_told, fill_failed}
use Rattle.selective_merge.specs.Faults.{pages_fault}
use Rattle.selective_merge.specs.Often.{base_sectors}
use Rattle.selective_merge.proofs.OftenLemmas.{reads_once}
use Rattle.selective_merge.specs.Moved.{IsAside}
use Rattle.selective_merge.proofs.FaultLemmas.{fault_as, tells_written}
use Rattle.unit_io.proofs.SparesLemmas.{spares_then}
use Rattle.selective_merge.proofs.PlaceLemmas.{stopped_unmoved, where_done}
use Rattle.selective_merge.proofs.TidyLemmas.{tidy_sealed, tidy_unsealed}
use Rattle.selective_merge.proofs.UnbrokenLemmas.{unless_then}
use Rattle.selective_merge.proofs.places.write_unit.Goals as goal

pub returns-in_err-pieces-clause-writes : goal.returns-in_err-pieces-clause-writes
returns-in_err-pieces-clause-writes g c = λ m it t u h steady rests clean all what.
    let old = g.C.Chip.told c.args.chip.now in
    let from = source_read c.args.parts.now in
    let e = err_from_is_err_and c.from_residual.result c.from_residual.ensures.1 in
    rw e.1 (fill_failed old.places c.args.place c.args.generation c.args.parts.now.counter from
    c.args.parts.now.scratch.packs.closed.items m it t u h old (g.C.Chip.told c.fill.new.chip) c.in_err-pieces.field-0.0
    e.0 e.2 (c.in_err-pieces.ensures.fills m h steady rests clean))

pub returns-clause-writes : goal.returns-clause-writes
returns-clause-writes g c = λ m it t u h steady rests clean all what.
    let old = g.C.Chip.told c.args.chip.now in
    let mid = g.C.Chip.told c.fill.new.chip in
    let new = g.C.Chip.told c.seal_unit.new.chip in
    let from = source_read c.args.parts.now in
    let pieces = c.in_ok-pieces.pieces in
    let filled = c.in_ok-pieces.ensures in
    let fills = subst (λ (w : Head). FillsPlace old.places from c.args.place w.generation
    c.args.parts.now.counter c.args.parts.now.scratch.packs.closed.items old (Ok pieces) mid) c.written-head.ensures
    filled.fills in
    let seals = subst (λ (w : Head). SealsUnit mid.places c.args.place c.units.result c.erases.result w.unit
    w.generation pieces c.count.result mid c.seal_unit.result new)
    c.written-head.ensures c.seal_unit.ensures.seals in
    unit_written old.places c.units.result c.erases.result c.args.place c.args.generation c.args.parts.now.counter
    c.count.result from c.args.parts.now.scratch.packs.closed.items pieces filled.few
    c.count.ensures m it t u h old mid new c.seal_unit.result
    (record { units_are = all.units_are ∙ sym c.units.ensures; erases_are = all.erases_are ∙ sym c.erases.ensures })
    what rests clean
    filled.spends.accounts.counts (fills m h steady rests clean)
    (subst (λ (q : ℕ). SealsUnit q c.args.place c.units.result c.erases.result from.unit c.args.generation pieces
    c.count.result mid c.seal_unit.result new) filled.spends.accounts.counts.places seals)
    c.seal_unit.ensures.spends.accounts.cause

pub returns-clause-tells : goal.returns-clause-tells
returns-clause-tells g c =
    let old = g.C.Chip.told c.args.chip.now in
    let mid = g.C.Chip.told c.fill.new.chip in
    let new = g.C.Chip.told c.seal_unit.new.chip in
    let from = source_read c.args.parts.now in
    let pieces = c.in_ok-pieces.pieces in
    let filled = c.in_ok-pieces.ensures in
    let written = λ (n k : ℕ). ChartsThroughout (λ done. TellsWritten old.places n k from c.args.place
    c.args.generation c.args.parts.now.counter c.args.parts.now.scratch.packs.closed.items) (IsAside c.args.place)
    c.seal_unit.result old new in
    subst (λ (n : ℕ). written n (slice_index c.args.parts.now.directory.erases c.args.place)) c.units.ensures
    (subst (written c.units.result) c.erases.ensures
    (written_told old.places c.units.result c.erases.result c.args.place c.args.generation c.args.parts.now.counter
    c.count.result from c.args.parts.now.scratch.packs.closed.items pieces filled.few
    c.count.ensures old mid new c.seal_unit.result
    (subst (λ (w : Head). Charts (GainsUnit from c.args.place w.generation c.args.parts.now.counter pieces
    c.args.parts.now.scratch.packs.closed.items) old mid) c.written-head.ensures filled.tells)
    (subst (λ (w : Head). OnOk c.seal_unit.result (Charts (IsSealed c.args.place c.units.result c.erases.result w.unit
    w.generation pieces c.count.result) mid new)) c.written-head.ensures
    c.seal_unit.ensures.tells)
    c.seal_unit.ensures.spends.accounts.cause))

pub returns-in_err-pieces-clause-fault : goal.returns-in_err-pieces-clause-fault
returns-in_err-pieces-clause-fault g c = λ x told.
    let e = err_from_is_err_and c.from_residual.result c.from_residual.ensures.1 in
    rw e.1 (fault_as _ e.0 c.in_err-pieces.field-0.0 e.2 (c.in_err-pieces.ensures.fault x told))

pub returns-clause-fault : goal.returns-clause-fault
returns-clause-fault g c = λ x told.
    let from = source_read c.args.parts.now in
    tells_written (pages_fault x from) (g.C.Chip.told c.fill.new.chip)
    (g.C.Chip.told c.seal_unit.new.chip) c.seal_unit.result (c.in_ok-pieces.ensures.fault x told)
    c.seal_unit.ensures.spends.accounts.cause

pub returns-in_err-pieces-clause-spends : goal.returns-in_err-pieces-clause-spends
returns-in_err-pieces-clause-spends g c =
    let old = g.C.Chip.told c.args.chip.now in
    let new = g.C.Chip.told c.fill.new.chip in
    let p = c.args.place in
    let says = c.in_err-pieces.ensures.spends in
    let e = err_from_is_err_and c.from_residual.result c.from_residual.ensures.1 in
    rw (e.1 ∙ ap Err e.2) (record {
      spares = says.spares;
      costs = fills_at_most p 0 2 old new (omega arith) says.costs;
      tidy = tidy_unsealed p (length c.args.parts.now.scratch.packs.closed.items) old new says.tidy;
      reads = says.reads;
      accounts = record { counts = says.accounts.counts; cause = says.accounts.cause };
    })

pub returns-clause-spends : goal.returns-clause-spends
returns-clause-spends g c =
    let old = g.C.Chip.told c.args.chip.now in
    let mid = g.C.Chip.told c.fill.new.chip in
    let new = g.C.Chip.told c.seal_unit.new.chip in
    let p = c.args.place in
    let result = c.seal_unit.result in
    let filled = c.in_ok-pieces.ensures.spends in
    let sealed = c.seal_unit.ensures.spends in record {
      spares = unless_then (Spares p mid new) (Spares p old new) result
          (spares_then p old mid new filled.spares) sealed.spares;
      costs = fills_then p 0 2 old mid new filled.costs (fills_programs p 1 2 1 mid new sealed.costs);
      tidy = tidy_sealed p (length c.args.parts.now.scratch.packs.closed.items) (is_ok result) old mid new
          filled.tidy sealed.tidy;
      reads = reads_once (base_sectors c.args.parts.now.scratch.home.place) old mid new filled.reads sealed.reads;
      accounts = record {
        counts = counts_then old mid new filled.accounts.counts sealed.accounts.counts;
        cause = stopped_unmoved c.args.parts.now.scratch.home.place result old mid new filled.accounts.counts
            sealed.accounts.cause;
      };
    }

pub returns-in_err-pieces-clause-serials : goal.returns-in_err-pieces-clause-serials
returns-in_err-pieces-clause-serials g c =
    let e = err_from_is_err_and c.from_residual.result c.from_residual.ensures.1 in
    rw e.1 (record { drawn = tt; draws = c.in_err-pieces.ensures.serials.draws })

pub returns-clause-serials : goal.returns-clause-serials
returns-clause-serials g c =
    let serials = c.in_ok-pieces.ensures.serials in record {
      drawn = where_done _ c.seal_unit.result serials.drawn;
      draws = serials.draws;
    }

pub seal_unit-requires-clause-place : goal.seal_unit-requires-clause-place
seal_unit-requires-clause-place g c =
    omega (arith, c.requires.may.place, c.in_ok-pieces.ensures.spends.accounts.counts.places)
