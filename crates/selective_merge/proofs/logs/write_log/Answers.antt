use Rattle.std.proofs.Common.{refl, ◌∙◌, ap}
use Rattle.sector_format.specs.declared.sector.Head.{Head}
use Rattle.sector_format.specs.Decode.{sector_of}
use Rattle.selective_merge.proofs.WriteLemmas.{log_named, same_log}
use Rattle.selective_merge.proofs.logs.write_log.Goals as goal

pub returns-clause-writes : goal.returns-clause-writes
returns-clause-writes g c =
    let old = g.C.Chip.told c.args.chip.now in
    let head = c.args.head.now in
    log_named old.places old.places c.args.place _ _ _ _ old (g.C.Chip.told c.program_log.new.chip)
    c.program_log.result refl c.log_sector-sector.ensures.sector
    (ap (λ (h : Head). sector_of h c.args.payload.now.bytes) c.written-log.ensures
    ∙ same_log head.unit head.generation _ _ c.args.payload.now.bytes c.args.payload.now.bytes
    c.draw.ensures.drawn refl) c.program_log.ensures.aside

pub returns-clause-spares : goal.returns-clause-spares
returns-clause-spares g c = c.program_log.ensures.spares
