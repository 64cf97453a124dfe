use Rattle.unit_layout.proofs.MarkLemmas.{has_added, mark_added}
use Rattle.unit_layout.proofs.mark.add_unit.Goals as goal

pub returns-clause-spells : goal.returns-clause-spells
returns-clause-spells c = mark_added c.args.units c.args.unit c.args.out.now c.requires.unit c.requires.spelled

pub returns-clause-has : goal.returns-clause-has
returns-clause-has c = has_added c.args.units c.args.unit c.args.out.now c.requires.unit c.requires.spelled
