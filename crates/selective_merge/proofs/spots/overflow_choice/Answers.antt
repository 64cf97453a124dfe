use Rattle.std.proofs.Common.{sym, ◌∙◌}
use Rattle.selective_merge.specs.Moving.{tables_of}
use Rattle.selective_merge.proofs.PlacingLemmas.{nothing_clean}
use Rattle.selective_merge.proofs.spots.overflow_choice.Goals as goal

pub returns : goal.returns
returns c =
    nothing_clean (tables_of c.args.parts.now) c.args.unit c.in_default.ensures.none
    (sym c.may_add.ensures ∙ c.if-may_add.false)
