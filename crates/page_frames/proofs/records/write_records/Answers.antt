use Rattle.std.proofs.Common.{ℕ, Result, Ok, Err, true, false, arith, refl, sym, ◌∙◌, ap, subst}
use Rattle.std.proofs.lemmas.Result.{err_from_is_err_and}
use Rattle.chip_trait.proofs.CountsLemmas.{counts_then}
use Rattle.unit_io.specs.Charts.{Charts}
use Rattle.place_taking.specs.Spending.{tells_worn}
use Rattle.selective_merge.specs.Moving.{tables_of, Holds}
use Rattle.page_frames.specs.Writing.{WritesLog, WritesLogInSteps}
use Rattle.page_frames.proofs.CauseLemmas.{stopped_cause}
use Rattle.page_frames.proofs.InPlaceLemmas.{fails_by_unit, stopped_fails, unplaced_stays}
use Rattle.page_frames.proofs.FoundLemmas.{found_told, unplaced_told, found_steps, unplaced_steps}
use Rattle.page_frames.proofs.RecordLemmas.{out_told, out_steps, stopped_told}
use Rattle.page_frames.proofs.RecordSpendLemmas.{unplaced_costs, placed_costs, room_costs}
use Rattle.page_frames.proofs.SpotLemmas.{holds_then}
use Rattle.page_frames.proofs.UntouchedLemmas.{unit_untouched}
use Rattle.selective_merge.proofs.HeldLemmas.{homes_used}
use Rattle.page_frames.proofs.WearLemmas.{no_room_wears, room_wears}
use Rattle.place_taking.proofs.WearLemmas.{wears_are_joined}
use Rattle.selective_merge.specs.Known.{KnowsPlaces}
use Rattle.ipl_base.specs.declared.fault.ChipFault.{ChipFault}
use Rattle.unit_io.proofs.TablesLemmas.{tables_then}
use Rattle.selective_merge.proofs.UnbrokenLemmas.{tidies_settled}
use Rattle.ipl_base.specs.declared.spot.Spot.{Spot}
use Rattle.page_frames.proofs.records.write_records.Goals as goal

-- ---- the spot that was found may be used

pub write_log-requires-clause-may : goal.write_log-requires-clause-may
write_log-requires-clause-may g c =
    let leaves = c.in_ok-at.ensures.room.finds.leaves in
    record {
      known = subst (λ (n : ℕ). KnowsPlaces n (tables_of c.log_place.new.parts))
          (sym leaves.accounts.counts.places) leaves.holds.known;
      unit = omega (arith, c.requires.unit, leaves.holds.units);
      spot = c.in_ok-at.ensures.room.spot;
    }

pub write_log-requires-clause-left : goal.write_log-requires-clause-left
write_log-requires-clause-left g c = omega (arith, c.requires.left, c.in_ok-at.ensures.room.finds.leaves.draws.1)

-- ---- no room was found

pub returns-in_err-at-clause-tells : goal.returns-in_err-at-clause-tells
returns-in_err-at-clause-tells g c =
    let e = err_from_is_err_and c.from_residual.result c.from_residual.ensures.1 in
    let says = c.in_err-at.ensures.room in
    let leaves = says.finds.leaves in
    let old = g.C.Chip.told c.args.chip.now in
    rw e.1 (λ soft. unplaced_told old.places c.args.unit (tables_of c.args.parts.now)
    (tables_of c.log_place.new.parts) old (g.C.Chip.told c.log_place.new.chip)
    leaves.holds.known.none_lost leaves.holds.active (says.tells (λ same. soft (e.2 ∙ same))))

pub returns-in_err-at-clause-steps : goal.returns-in_err-at-clause-steps
returns-in_err-at-clause-steps g c =
    let e = err_from_is_err_and c.from_residual.result c.from_residual.ensures.1 in
    let says = c.in_err-at.ensures.room in
    let leaves = says.finds.leaves in
    let old = g.C.Chip.told c.args.chip.now in
    rw (e.1, e.2) (λ m it records h steady rests agrees payload_of.
    unplaced_steps old.places c.args.unit (tables_of c.args.parts.now)
    (tables_of c.log_place.new.parts) old (g.C.Chip.told c.log_place.new.chip)
    leaves.holds.known.none_lost leaves.holds.active c.in_err-at.field-0.0 says.steps m it h steady rests
    agrees)

pub returns-in_err-at-clause-fails : goal.returns-in_err-at-clause-fails
returns-in_err-at-clause-fails g c =
    let e = err_from_is_err_and c.from_residual.result c.from_residual.ensures.1 in
    let fault = c.in_err-at.field-0.0 in
    let says = c.in_err-at.ensures.room in
    let old = g.C.Chip.told c.args.chip.now in
    let t = tables_of c.args.parts.now in
    let after = tables_of c.log_place.new.parts in
    let new = g.C.Chip.told c.log_place.new.chip in
    rw (e.1, e.2) (fails_by_unit t c.args.unit after (Err fault) old new says.fault
    (unplaced_stays t c.args.unit after old.places old new fault c.requires.unit says.tells)
    (unit_untouched {T = Unit {0}} t after 3 c.args.unit (tells_worn fault) (Err fault) old new
    (g.met.C.Chip.consistent c.args.chip.now) (g.met.C.Chip.consistent c.log_place.new.chip)
    says.finds.leaves.accounts.counts.places (homes_used old.places t c.requires.known) c.requires.unit
    says.finds.costs says.tells))

pub returns-in_err-at-clause-leaves : goal.returns-in_err-at-clause-leaves
returns-in_err-at-clause-leaves g c =
    let e = err_from_is_err_and c.from_residual.result c.from_residual.ensures.1 in
    let old = g.C.Chip.told c.args.chip.now in
    let finds = c.in_err-at.ensures.room.finds in
    let leaves = finds.leaves in
    let draws = leaves.draws in
    rw (e.1, e.2) (record {
      holds = leaves.holds;
      draws = (draws.0, omega (arith, draws.1));
      wears = no_room_wears old.places (tables_of c.args.parts.now) (tables_of c.log_place.new.parts)
          (tells_worn c.in_err-at.field-0.0) old (g.C.Chip.told c.log_place.new.chip) c.requires.known
          leaves.holds finds.costs;
      tidy = tidies_settled {T = Unit {0}} {E = ChipFault} (tables_of c.args.parts.now)
          (tables_of c.log_place.new.parts) (Err c.in_err-at.field-0.0) old (g.C.Chip.told c.log_place.new.chip)
          leaves.tidy;
      accounts = record { counts = leaves.accounts.counts; cause = leaves.accounts.cause };
    })

pub returns-in_err-at-clause-costs : goal.returns-in_err-at-clause-costs
returns-in_err-at-clause-costs g c =
    let e = err_from_is_err_and c.from_residual.result c.from_residual.ensures.1 in
    rw (e.1, e.2) (unplaced_costs c.in_err-at.field-0.0 (tables_of c.args.parts.now)
    (tables_of c.log_place.new.parts)
    c.args.unit (g.C.Chip.told c.args.chip.now) (g.C.Chip.told c.log_place.new.chip)
    (room_costs _ (tells_worn c.in_err-at.field-0.0) (tables_of c.args.parts.now) (tables_of c.log_place.new.parts) c.args.unit
    (g.C.Chip.told c.args.chip.now) (g.C.Chip.told c.log_place.new.chip)
    c.in_err-at.ensures.home c.in_err-at.ensures.room.finds.costs))

-- ---- the sector wasn't written

pub returns-in_err-write_log-clause-tells : goal.returns-in_err-write_log-clause-tells
returns-in_err-write_log-clause-tells g c =
    let e = err_from_is_err_and c.from_residual-in_err-write_log.result
    c.from_residual-in_err-write_log.ensures.1 in
    rw (e.1, e.2) (stopped_told (g.C.Chip.told c.args.chip.now).places c.args.unit
    c.args.payload.now (tables_of c.args.parts.now) (tables_of c.write_log.new.parts)
    c.in_err-write_log.field-0.0 (g.C.Chip.told c.args.chip.now)
    (g.C.Chip.told c.write_log.new.chip) c.in_err-write_log.ensures.leaves.accounts.cause.0)

pub returns-in_err-write_log-clause-steps : goal.returns-in_err-write_log-clause-steps
returns-in_err-write_log-clause-steps g c =
    let e = err_from_is_err_and c.from_residual-in_err-write_log.result
    c.from_residual-in_err-write_log.ensures.1 in
    let old = g.C.Chip.told c.args.chip.now in
    let mid = g.C.Chip.told c.log_place.new.chip in
    let new = g.C.Chip.told c.write_log.new.chip in
    let between = tables_of c.log_place.new.parts in
    let after = tables_of c.write_log.new.parts in
    let at = c.in_ok-at.at in
    let found = c.in_ok-at.ensures.room in
    let leaves = found.finds.leaves in
    rw (e.1, e.2) (out_steps old.places c.args.unit at c.args.payload.now
    (tables_of c.args.parts.now) between after old mid new (Err c.in_err-write_log.field-0.0)
    leaves.accounts.counts
    (found_steps old.places c.args.unit (tables_of c.args.parts.now) between old mid
    leaves.holds.known.none_lost leaves.holds.active at found.steps)
    (subst (λ (n : ℕ). WritesLogInSteps n c.args.unit at c.args.payload.now between after mid
    (Err c.in_err-write_log.field-0.0) new) leaves.accounts.counts.places
    c.in_err-write_log.ensures.steps))

pub returns-in_err-write_log-clause-fails : goal.returns-in_err-write_log-clause-fails
returns-in_err-write_log-clause-fails g c =
    let e = err_from_is_err_and c.from_residual-in_err-write_log.result
    c.from_residual-in_err-write_log.ensures.1 in
    rw (e.1, e.2) (stopped_fails (tables_of c.args.parts.now) c.args.unit (tables_of c.write_log.new.parts)
    c.in_err-write_log.field-0.0 (g.C.Chip.told c.args.chip.now) (g.C.Chip.told c.write_log.new.chip)
    c.in_err-write_log.ensures.leaves.accounts.cause.0)

pub returns-in_err-write_log-clause-leaves : goal.returns-in_err-write_log-clause-leaves
returns-in_err-write_log-clause-leaves g c =
    let e = err_from_is_err_and c.from_residual-in_err-write_log.result
    c.from_residual-in_err-write_log.ensures.1 in
    let old = g.C.Chip.told c.args.chip.now in
    let mid = g.C.Chip.told c.log_place.new.chip in
    let new = g.C.Chip.told c.write_log.new.chip in
    let t = tables_of c.args.parts.now in
    let between = tables_of c.log_place.new.parts in
    let after = tables_of c.write_log.new.parts in
    let fault = c.in_err-write_log.field-0.0 in
    let failed : Result (Unit {0}) ChipFault = Err fault in
    let finds = c.in_ok-at.ensures.room.finds in
    let found = finds.leaves in
    let counts = found.accounts.counts in
    let then = c.in_err-write_log.ensures.leaves in
    let one = c.in_err-write_log.ensures.uses.drawn in
    rw (e.1, e.2) (record {
      holds = holds_then old.places t between after found.holds
          (subst (λ (n : ℕ). Holds n between after) counts.places then.holds);
      draws = (omega (arith, found.draws.0, one), omega (arith, found.draws.1, one));
      wears = wears_are_joined t between after false (tells_worn fault) old mid new
          (room_wears old.places t between old mid c.requires.known found.holds finds.costs found.spares)
          then.wears;
      tidy = tables_then Spot ChipFault t between after c.in_ok-at.at failed old mid new counts found.tidy
          then.tidy;
      accounts = record {
        counts = counts_then old mid new counts then.accounts.counts;
        cause = stopped_cause c.write_log.new.parts.directory t c.args.unit fault old mid new counts
            then.accounts.cause;
      };
    })

pub returns-in_err-write_log-clause-costs : goal.returns-in_err-write_log-clause-costs
returns-in_err-write_log-clause-costs g c =
    let e = err_from_is_err_and c.from_residual-in_err-write_log.result
    c.from_residual-in_err-write_log.ensures.1 in
    let says = c.in_err-write_log.ensures in
    rw e.1 (placed_costs (Err e.0) (tables_of c.args.parts.now) (tables_of c.log_place.new.parts)
    (tables_of c.write_log.new.parts) c.args.unit c.in_ok-at.at.place
    (g.C.Chip.told c.args.chip.now) (g.C.Chip.told c.log_place.new.chip)
    (g.C.Chip.told c.write_log.new.chip) (ap tells_worn (e.2 ∙ says.leaves.accounts.cause.0))
    (room_costs _ false (tables_of c.args.parts.now) (tables_of c.log_place.new.parts) c.args.unit
    (g.C.Chip.told c.args.chip.now) (g.C.Chip.told c.log_place.new.chip)
    c.in_ok-at.ensures.home c.in_ok-at.ensures.room.finds.costs) says.uses.costs says.uses.uses)

-- ---- done

pub returns-clause-tells : goal.returns-clause-tells
returns-clause-tells g c =
    let old = g.C.Chip.told c.args.chip.now in
    let mid = g.C.Chip.told c.log_place.new.chip in
    let new = g.C.Chip.told c.write_log.new.chip in
    let between = tables_of c.log_place.new.parts in
    let after = tables_of c.write_log.new.parts in
    let at = c.in_ok-at.at in
    let found = c.in_ok-at.ensures.room in
    let leaves = found.finds.leaves in
    out_told old.places c.args.unit at c.args.payload.now (tables_of c.args.parts.now) between after
    old mid new
    (found_told old.places c.args.unit (tables_of c.args.parts.now) between old mid
    leaves.holds.known.none_lost leaves.holds.active at found.tells)
    (subst (λ (n : ℕ). Charts (WritesLog n c.args.unit at c.args.payload.now between after) mid new)
    leaves.accounts.counts.places c.in_ok-write_log.ensures.tells)

pub returns-clause-steps : goal.returns-clause-steps
returns-clause-steps g c =
    let old = g.C.Chip.told c.args.chip.now in
    let mid = g.C.Chip.told c.log_place.new.chip in
    let new = g.C.Chip.told c.write_log.new.chip in
    let between = tables_of c.log_place.new.parts in
    let after = tables_of c.write_log.new.parts in
    let at = c.in_ok-at.at in
    let found = c.in_ok-at.ensures.room in
    let leaves = found.finds.leaves in
    out_steps old.places c.args.unit at c.args.payload.now (tables_of c.args.parts.now) between
    after old mid new (Ok tt) leaves.accounts.counts
    (found_steps old.places c.args.unit (tables_of c.args.parts.now) between old mid
    leaves.holds.known.none_lost leaves.holds.active at found.steps)
    (subst (λ (n : ℕ). WritesLogInSteps n c.args.unit at c.args.payload.now between after mid
    (Ok tt) new) leaves.accounts.counts.places c.in_ok-write_log.ensures.steps)

pub returns-clause-fails : goal.returns-clause-fails
returns-clause-fails g c = record {
  fault = λ x told it mirrors. tt;
  complete = λ x told it mirrors may. tt;
  stays = λ x told it mirrors. tt;
  untouched = λ x told it mirrors. tt;
}

pub returns-clause-leaves : goal.returns-clause-leaves
returns-clause-leaves g c =
    let old = g.C.Chip.told c.args.chip.now in
    let mid = g.C.Chip.told c.log_place.new.chip in
    let new = g.C.Chip.told c.write_log.new.chip in
    let t = tables_of c.args.parts.now in
    let between = tables_of c.log_place.new.parts in
    let after = tables_of c.write_log.new.parts in
    let done : Result (Unit {0}) ChipFault = Ok tt in
    let finds = c.in_ok-at.ensures.room.finds in
    let found = finds.leaves in
    let counts = found.accounts.counts in
    let then = c.in_ok-write_log.ensures.leaves in
    let one = c.in_ok-write_log.ensures.uses.drawn in
    record {
      holds = holds_then old.places t between after found.holds
          (subst (λ (n : ℕ). Holds n between after) counts.places then.holds);
      draws = (omega (arith, found.draws.0, one), omega (arith, found.draws.1, one));
      wears = wears_are_joined t between after true false old mid new
          (room_wears old.places t between old mid c.requires.known found.holds finds.costs found.spares)
          then.wears;
      tidy = tables_then Spot ChipFault t between after c.in_ok-at.at done old mid new counts found.tidy
          then.tidy;
      accounts = record { counts = counts_then old mid new counts then.accounts.counts; cause = tt };
    }

pub returns-clause-costs : goal.returns-clause-costs
returns-clause-costs g c =
    let says = c.in_ok-write_log.ensures in
    placed_costs (Ok tt) (tables_of c.args.parts.now) (tables_of c.log_place.new.parts)
    (tables_of c.write_log.new.parts) c.args.unit c.in_ok-at.at.place
    (g.C.Chip.told c.args.chip.now) (g.C.Chip.told c.log_place.new.chip)
    (g.C.Chip.told c.write_log.new.chip) refl
    (room_costs _ false (tables_of c.args.parts.now) (tables_of c.log_place.new.parts) c.args.unit
    (g.C.Chip.told c.args.chip.now) (g.C.Chip.told c.log_place.new.chip)
    c.in_ok-at.ensures.home c.in_ok-at.ensures.room.finds.costs) says.uses.costs says.uses.uses
