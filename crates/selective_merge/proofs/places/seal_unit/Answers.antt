use Rattle.std.proofs.Common.{ℕ, [], subst}
use Rattle.unit_log.proofs.OftenLemmas.{often_unread}
use Rattle.sector_format.specs.Decode.{sector_of}
use Rattle.unit_io.specs.Charts.{Spares}
use Rattle.unit_io.specs.Costs.{ProgramsAt, Spends}
use Rattle.selective_merge.proofs.SealLemmas.{unit_head, sealed_keeps, sealed_tells}
use Rattle.selective_merge.proofs.UnbrokenLemmas.{unless_stopped}
use Rattle.selective_merge.proofs.places.seal_unit.Goals as goal

pub returns-clause-seals : goal.returns-clause-seals
returns-clause-seals g c =
    let old = g.C.Chip.told c.args.chip.now in
    let head = c.args.head.now in
    let header = c.args.header.now in
    let sealed = sector_of head c.write_data_header.new.out in
    sealed_keeps old.places c.args.place header.units header.erases head.unit head.generation
    header.pieces header.carried sealed old c.seal.result (g.C.Chip.told c.seal.new.chip)
    (unit_head header sealed c.requires.kind c.requires.version c.requires.serial
    c.write_data_header.ensures) c.seal.ensures.leads

pub returns-clause-tells : goal.returns-clause-tells
returns-clause-tells g c =
    let head = c.args.head.now in
    let header = c.args.header.now in
    let sealed = sector_of head c.write_data_header.new.out in
    sealed_tells c.args.place header.units header.erases head.unit head.generation header.pieces
    header.carried sealed (g.C.Chip.told c.args.chip.now) c.seal.result
    (g.C.Chip.told c.seal.new.chip)
    (unit_head header sealed c.requires.kind c.requires.version c.requires.serial
    c.write_data_header.ensures) c.seal.ensures.tells

pub returns-clause-spends : goal.returns-clause-spends
returns-clause-spends g c = record {
  spares = unless_stopped (Spares c.args.place (g.C.Chip.told c.args.chip.now) (g.C.Chip.told c.seal.new.chip))
      c.seal.result (g.C.Chip.told c.args.chip.now) (g.C.Chip.told c.seal.new.chip)
      c.seal.ensures.writes.accounts.cause c.seal.ensures.spares;
  costs = subst (λ (kind : ℕ). Spends (ProgramsAt c.args.place 1 2 kind) (g.C.Chip.told c.args.chip.now)
      (g.C.Chip.told c.seal.new.chip)) c.requires.kind c.seal.ensures.writes.costs;
  tidy = c.seal.ensures.writes.tidy;
  reads = often_unread [] (g.C.Chip.told c.args.chip.now) (g.C.Chip.told c.seal.new.chip)
      c.seal.ensures.writes.unread;
  accounts = c.seal.ensures.writes.accounts;
}
