use Rattle.std.proofs.Common.{refl, arith}
use Rattle.ipl_base.specs.declared.limits.TheConstants.{VERSION}
use Rattle.ipl_format.specs.Sector.{Sector}
use Rattle.ipl_format.specs.Page.{piece_of}
use Rattle.unit_io.proofs.SectorLemmas.{untouched, aside_renamed}
use Rattle.unit_io.proofs.pages.program_piece.Goals as goal

pub returns-clause-aside : goal.returns-clause-aside
returns-clause-aside g c = λ m h steady rests bare clean.
    let base : Sector = record { kind = 4; version = VERSION; unit = c.args.head.now.unit; generation = c.args.head.now.generation; serial = c.from-serial.result; payload = piece_of c.args.text.now c.args.piece } in
    aside_renamed _ c.args.place c.base_sector-sector.result _ base _ m h _ _ _ c.base_sector-sector.ensures.sector (rw c.from-serial.ensures refl)
    (c.program_aside.ensures.aside base (rw (c.written-base.ensures, c.piece_of.ensures.piece) at c.encode_piece.ensures.said) m h steady rests bare (omega (arith, c.base_sector-sector.ensures.in_range)) (untouched h c.args.place _ (rw c.base_sector-sector.ensures.sector clean)))

pub returns-clause-spares : goal.returns-clause-spares
returns-clause-spares g c = c.program_aside.ensures.spares

pub returns-clause-writes : goal.returns-clause-writes
returns-clause-writes g c = record {
  costs = c.program_aside.ensures.costs _ (rw c.written-base.ensures at c.encode_piece.ensures.said);
  tidy = rw c.base_sector-sector.ensures.sector at c.program_aside.ensures.tidy;
  unread = c.program_aside.ensures.unread;
  accounts = c.program_aside.ensures.accounts;
}
