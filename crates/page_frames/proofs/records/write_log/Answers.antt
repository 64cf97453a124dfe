use Rattle.std.proofs.Common.{◌+◌, ℕ, slice_index, Ok, Err, refl, subst, arith}
use Rattle.std.proofs.lemmas.Result.{err_from_is_err_and}
use Rattle.ipl_meaning.specs.TableSteps.{with_next}
use Rattle.sector_format.specs.Decode.{sector_of}
use Rattle.selective_merge.specs.Moving.{tables_of}
use Rattle.page_frames.specs.Writing.{mask_by, IsAfterLog}
use Rattle.page_frames.proofs.LogLemmas.{log_of, log_told, log_steps}
use Rattle.page_frames.proofs.SpotLemmas.{spot_within, spot_drawn, drawn_before, known_drawn, holds_drawn, log_current, log_holds, log_next}
use Rattle.page_frames.proofs.RecordSpendLemmas.{log_uses}
use Rattle.page_frames.proofs.TidyLemmas.{logs_tidily, fails_tidily}
use Rattle.page_frames.proofs.WearLemmas.{logs_wear_nothing, unwritten_wears}
use Rattle.page_frames.proofs.records.write_log.Given.{Over}
use Rattle.page_frames.proofs.records.write_log.Goals as goal

pub program_log-requires-clause-spot : goal.program_log-requires-clause-spot
program_log-requires-clause-spot g c =
    let within = spot_within (g.C.Chip.told c.args.chip.now).places (tables_of c.args.parts.now) c.args.unit
    c.args.at.place c.args.at.sector c.requires.may.known.suits c.requires.may.unit
    c.facts.ensures c.facts-2.ensures c.requires.may.spot in
    record { place = within.0; sector = within.1 }

pub use_spot-requires : goal.use_spot-requires
use_spot-requires g c =
    let may = c.requires.may in
    let t = tables_of c.args.parts.now in
    let next = c.draw.new.self in
    rw c.units-places.ensures (record {
      known = known_drawn (g.C.Chip.told c.args.chip.now).places t next may.known;
      unit = may.unit;
      spot = spot_drawn t next c.args.unit c.args.at.place c.args.at.sector may.spot;
    })

-- the spot is used, with the mask of the payload
used : (g : Over) (c : goal.After-use_spot g) → IsAfterLog (with_next (tables_of c.args.parts.now) c.draw.new.self)
    (tables_of c.use_spot.new.parts) c.args.unit c.args.at.place c.args.at.sector (mask_by c.args.payload.now) c.draw.new.self
used g c = subst (λ (m : ℕ). IsAfterLog (with_next (tables_of c.args.parts.now) c.draw.new.self)
    (tables_of c.use_spot.new.parts) c.args.unit c.args.at.place c.args.at.sector m c.draw.new.self)
    c.mask_of-mask.ensures c.use_spot.ensures

-- the tables follow the log sector, with one number drawn
tables_used : (g : Over) (c : goal.After-use_spot g) → IsAfterLog (tables_of c.args.parts.now)
    (tables_of c.use_spot.new.parts) c.args.unit c.args.at.place c.args.at.sector (mask_by c.args.payload.now)
    ((tables_of c.args.parts.now).next + 1)
tables_used g c =
    let at = c.args.at in
    let u = c.args.unit in
    let t = tables_of c.args.parts.now in
    let after = tables_of c.use_spot.new.parts in
    let payload = c.args.payload.now in
    drawn_before t after c.draw.new.self u at.place at.sector (mask_by payload) (t.next + 1)
    (subst (λ (n : ℕ). IsAfterLog (with_next t c.draw.new.self) after u at.place
    at.sector (mask_by payload) n) c.draw.ensures.next (used g c))

pub returns-in_err-program_log-clause-steps : goal.returns-in_err-program_log-clause-steps
returns-in_err-program_log-clause-steps g c =
    let e = err_from_is_err_and c.from_residual.result c.from_residual.ensures.1 in
    let old = g.C.Chip.told c.args.chip.now in
    let at = c.args.at in
    let t = tables_of c.args.parts.now in
    let payload = c.args.payload.now in
    let head = c.written-head.result in
    let is = log_of c.args.unit (slice_index t.places.generations c.args.unit) t.next _ _ payload head
    c.requires.version c.written-head.ensures c.generation-generation.ensures c.draw.ensures.drawn in
    let says = c.in_err-program_log.ensures in
    rw (e.1, e.2) (log_steps old.places c.args.unit at payload t (with_next t c.draw.new.self)
    (sector_of head payload.bytes) old
    (g.C.Chip.told c.program_log.new.chip) c.requires.may.unit is
    (Err c.in_err-program_log.field-0.0) c.requires.may.spot tt says.keeps says.writes.accounts.cause)

pub returns-clause-steps : goal.returns-clause-steps
returns-clause-steps g c =
    let old = g.C.Chip.told c.args.chip.now in
    let at = c.args.at in
    let u = c.args.unit in
    let t = tables_of c.args.parts.now in
    let after = tables_of c.use_spot.new.parts in
    let payload = c.args.payload.now in
    let head = c.written-head.result in
    let is = log_of u (slice_index t.places.generations u) t.next _ _ payload head
    c.requires.version c.written-head.ensures c.generation-generation.ensures c.draw.ensures.drawn in
    let tables = tables_used g c in
    let says = c.in_ok-program_log.ensures in
    log_steps old.places u at payload t after (sector_of head payload.bytes) old
    (g.C.Chip.told c.program_log.new.chip)
    c.requires.may.unit is (Ok tt) c.requires.may.spot tables says.keeps
    says.writes.accounts.cause

pub returns-clause-tells : goal.returns-clause-tells
returns-clause-tells g c =
    let old = g.C.Chip.told c.args.chip.now in
    let at = c.args.at in
    let u = c.args.unit in
    let t = tables_of c.args.parts.now in
    let after = tables_of c.use_spot.new.parts in
    let payload = c.args.payload.now in
    let head = c.written-head.result in
    let is = log_of u (slice_index t.places.generations u) t.next _ _ payload head
    c.requires.version c.written-head.ensures c.generation-generation.ensures c.draw.ensures.drawn in
    let tables = tables_used g c in
    let holds = log_holds old.places t u at.place at.sector (mask_by payload) (t.next + 1)
    c.requires.may.known after tables in
    log_told old.places u at payload t after (sector_of head payload.bytes) old
    (g.C.Chip.told c.program_log.new.chip)
    c.requires.may.unit is tables holds.known.none_lost
    c.in_ok-program_log.ensures.tells

-- ---- what it takes, and what it leaves of the tables

pub returns-in_err-program_log-clause-uses : goal.returns-in_err-program_log-clause-uses
returns-in_err-program_log-clause-uses g c =
    let e = err_from_is_err_and c.from_residual.result c.from_residual.ensures.1 in
    rw e.1 (record {
      places = refl;
      uses = refl;
      drawn = c.draw.ensures.next;
      costs = c.in_err-program_log.ensures.writes.costs;
    })

pub returns-clause-uses : goal.returns-clause-uses
returns-clause-uses g c =
    let at = c.args.at in
    let u = c.args.unit in
    let t = tables_of c.args.parts.now in
    let after = tables_of c.use_spot.new.parts in
    let mask = mask_by c.args.payload.now in
    let is = tables_used g c in
    record {
      places = log_current t after u at.place at.sector mask (t.next + 1) is;
      uses = log_uses t after u at.place at.sector mask (t.next + 1) is;
      drawn = log_next t after u at.place at.sector mask (t.next + 1) is;
      costs = c.in_ok-program_log.ensures.writes.costs;
    }

pub returns-in_err-program_log-clause-leaves : goal.returns-in_err-program_log-clause-leaves
returns-in_err-program_log-clause-leaves g c =
    let e = err_from_is_err_and c.from_residual.result c.from_residual.ensures.1 in
    let old = g.C.Chip.told c.args.chip.now in
    let new = g.C.Chip.told c.program_log.new.chip in
    let t = tables_of c.args.parts.now in
    let at = c.args.at in
    let next = c.draw.new.self in
    let may = c.requires.may in
    let fault = c.in_err-program_log.field-0.0 in
    let says = c.in_err-program_log.ensures in
    let drawn = c.draw.ensures.next in
    rw (e.1, e.2) (record {
      holds = holds_drawn old.places t next may.known;
      draws = (omega (arith, drawn), omega (arith, drawn));
      wears = rw says.writes.accounts.cause.0 (unwritten_wears t (with_next t next) at.place 5 old new refl
          says.writes.costs);
      tidy = fails_tidily old.places t t c.args.unit at.place at.sector 0 next may.known may.unit
          (Unit {0}) fault old new may.spot says.writes.accounts.cause.1 says.writes.tidy;
      accounts = says.writes.accounts;
    })

pub returns-clause-leaves : goal.returns-clause-leaves
returns-clause-leaves g c =
    let old = g.C.Chip.told c.args.chip.now in
    let new = g.C.Chip.told c.program_log.new.chip in
    let u = c.args.unit in
    let at = c.args.at in
    let t = tables_of c.args.parts.now in
    let after = tables_of c.use_spot.new.parts in
    let payload = c.args.payload.now in
    let may = c.requires.may in
    let says = c.in_ok-program_log.ensures in
    let is = tables_used g c in
    let drawn = log_next t after u at.place at.sector (mask_by payload) (t.next + 1) is in
    record {
      holds = log_holds old.places t u at.place at.sector (mask_by payload) (t.next + 1) may.known after is;
      draws = (omega (arith, drawn), omega (arith, drawn));
      wears = logs_wear_nothing t after u at.place at.sector (mask_by payload) (t.next + 1)
          (sector_of c.written-head.result payload.bytes) old new is says.writes.costs says.tells;
      tidy = logs_tidily old.places t after u at.place at.sector (mask_by payload) (t.next + 1) may.known
          may.unit (Unit {0}) (Ok tt) old new c.facts.ensures.logs is says.writes.tidy;
      accounts = says.writes.accounts;
    }
