use Rattle.std.proofs.Common.{ℕ, length, slice_index, subst}
use Rattle.ipl_meaning.specs.Tables.{masks_in}
use Rattle.overflow.specs.Lists.{spots_in, masks_at, AreWithin}
use Rattle.unit_log.proofs.ChooseLemmas.{spots_within}
use Rattle.unit_log.proofs.pages.page_spots.Goals as goal

pub returns-clause-within : goal.returns-clause-within
returns-clause-within c =
    spots_within (length c.args.directory.now.in_use) c.args.page
    (slice_index c.args.directory.now.current c.args.unit) (masks_in c.args.directory.now c.args.unit)
    (spots_in c.args.overflow.now c.args.unit) (masks_at c.args.overflow.now c.args.unit)
    (c.facts.ensures.within c.args.unit c.requires.unit)
    (subst (λ (n : ℕ). AreWithin n (spots_in c.args.overflow.now c.args.unit)) c.requires.sized c.add_listed.ensures.within)
