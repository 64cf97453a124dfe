use Rattle.chip_mem.proofs.SectorLemmas.{contents_of-whole}
use Rattle.chip_mem.proofs.sectors.copy_sectors.Goals as goal

pub returns-in_err-from_slice-clause-fits : goal.returns-in_err-from_slice-clause-fits
returns-in_err-from_slice-clause-fits c = contents_of-whole c.args.sectors.now c.told-sectors

pub returns-clause-fits : goal.returns-clause-fits
returns-clause-fits c = contents_of-whole c.args.sectors.now c.told-sectors
