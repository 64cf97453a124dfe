use Rattle.std.proofs.Common.{◌∙◌, ◌-◌, ap, arith, drop, length-drop}
use Rattle.std.specs.List.{list_all}
use Rattle.std.proofs.lemmas.List.{take_all}
use Rattle.ipl_format.specs.Sector.{is_zero}
use Rattle.sector_format.proofs.reading.is_zero_from.Goals as goal

pub returns : goal.returns
returns c =
    c.is_zero.ensures ∙ ap (list_all is_zero)
    (take_all (512 - c.args.start) (drop c.args.start c.args.bytes.now) (omega (arith, length-drop c.args.start c.args.bytes.now, c.fits-bytes)))
