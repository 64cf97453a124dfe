use Rattle.std.proofs.Common.{OnOk, refl, subst}
use Rattle.ipl_base.specs.declared.limits.TheConstants.{VERSION}
use Rattle.ipl_format.specs.Sector.{Sector}
use Rattle.sector_format.specs.Decode.{sector_of}
use Rattle.sector_format.specs.declared.sector.Head.{Head}
use Rattle.unit_io.specs.Charts.{Charts, Gains}
use Rattle.unit_io.specs.Costs.{ProgramsAt, Spends}
use Rattle.selective_merge.proofs.OverflowLemmas.{HeaderSays, IsOverflowHead, overflow_head, place_opened, opened_told}
use Rattle.selective_merge.proofs.overflowing.write_overflow.Goals as goal

pub returns-clause-opens : goal.returns-clause-opens
returns-clause-opens g c =
    let old = g.C.Chip.told c.args.chip.now in
    let new = g.C.Chip.told c.seal.new.chip in
    let head : Sector = record {
      kind = 3;
      version = VERSION;
      unit = 0;
      generation = c.args.generation;
      serial = c.args.generation;
      payload = c.write_overflow_header.new.out;
    } in
    let is : IsOverflowHead c.args.units c.args.erases c.args.generation head =
    overflow_head c.args.units c.args.erases c.args.generation head refl refl refl refl
    c.write_overflow_header.ensures in
    place_opened old.places c.args.place c.args.units c.args.erases c.args.generation head old new c.seal.result is
    (subst (λ (w : Head). HeaderSays old.places c.args.place
    (sector_of w c.write_overflow_header.new.out) old c.seal.result new) c.written-head.ensures
    c.seal.ensures.leads)

pub returns-clause-tells : goal.returns-clause-tells
returns-clause-tells g c =
    let old = g.C.Chip.told c.args.chip.now in
    let new = g.C.Chip.told c.seal.new.chip in
    let head : Sector = record {
      kind = 3;
      version = VERSION;
      unit = 0;
      generation = c.args.generation;
      serial = c.args.generation;
      payload = c.write_overflow_header.new.out;
    } in
    let is : IsOverflowHead c.args.units c.args.erases c.args.generation head =
    overflow_head c.args.units c.args.erases c.args.generation head refl refl refl refl
    c.write_overflow_header.ensures in
    opened_told c.args.place c.args.units c.args.erases c.args.generation head old new is c.seal.result
    (subst (λ (w : Head). OnOk c.seal.result (Charts (Gains c.args.place 0
    (sector_of w c.write_overflow_header.new.out)) old new)) c.written-head.ensures
    c.seal.ensures.tells)

pub returns-clause-costs : goal.returns-clause-costs
returns-clause-costs g c =
    subst (λ (w : Head). Spends (ProgramsAt c.args.place 1 2 w.kind) (g.C.Chip.told c.args.chip.now)
    (g.C.Chip.told c.seal.new.chip)) c.written-head.ensures c.seal.ensures.writes.costs

pub returns-clause-tidy : goal.returns-clause-tidy
returns-clause-tidy g c = c.seal.ensures.writes.tidy
