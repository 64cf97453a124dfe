use Rattle.std.proofs.Common.{subst, sym}
use Rattle.ipl_base.specs.Places.{IsGeometry}
use Rattle.ipl_cli.proofs.ListLemmas.{misfit_leaves}
use Rattle.ipl_cli.proofs.listing.list_chip.Goals as goal

-- no chip has so many places
pub returns-in_default-clause-leaves : goal.returns-in_default-clause-leaves
returns-in_default-clause-leaves g c =
    misfit_leaves (g.D.Chip.told c.args.desk.now)
    (λ fits. c.in_default.ensures.none (subst IsGeometry (sym c.units.ensures) fits))
