use Rattle.std.proofs.Common.{refl, length, drop, ap, ◌∙◌}
use Rattle.ipl_format.specs.Sector.{filled}
use Rattle.sector_format.proofs.ListLemmas.{cleared, filled_behind}
use Rattle.sector_format.proofs.encoding.write_payload.Goals as goal

pub returns : goal.returns
unfolding filled
returns c =
    ap (drop 32) (
    cleared (length c.args.payload.now) c.args.out.now c.copy_payload.new.out c.clear_from.new.out c.args.payload.now
    refl c.requires c.told-out c.copy_payload.ensures c.clear_from.ensures
    )
    ∙ filled_behind c.args.out.now (filled c.args.payload.now) c.told-out
