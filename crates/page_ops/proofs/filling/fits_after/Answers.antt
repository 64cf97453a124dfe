use Rattle.page_ops.proofs.filling.fits_after.Goals as goal

pub returns-then-surely_fits : goal.returns-then-surely_fits
returns-then-surely_fits c =
    (λ yes. c.if-surely_fits.ensures c.args.slot c.requires.slot, λ fits. c.if-surely_fits.true)
