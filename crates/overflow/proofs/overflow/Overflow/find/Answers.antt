use Rattle.std.proofs.Common.{map, ◌∙◌, ap, sym, subst}
use Rattle.ipl_meaning.specs.Tables.{OverflowLists}
use Rattle.overflow.specs.Lists.{first_of, names_place, IsUnused}
use Rattle.overflow.proofs.StateLemmas.{found_unused, new_unused}
use Rattle.overflow.proofs.overflow.Overflow.find.Goals as goal
use Rattle.overflow.proofs.overflow.Overflow.find.Goals.{then-not-has_place+else-not-may_add, else-not-has_place}

pub add-requires-clause-clean : goal.add-requires-clause-clean
add-requires-clause-clean c = elim c.if-not-has_place.branch [
  | then-not-has_place+else-not-may_add w ↦
      subst (λ (it : OverflowLists). IsUnused it.in_use c.args.spot.place c.args.spot.sector) (sym (w.self-is ∙ w.add_place.ensures))
      (new_unused c.args.self.now.in_use c.args.spot.place c.args.spot.sector c.requires.sector.0)
  | else-not-has_place w ↦
      subst (λ (it : OverflowLists). IsUnused it.in_use c.args.spot.place c.args.spot.sector) (sym w.self-is)
      (found_unused c.args.self.now.in_use c.args.spot.place c.args.spot.sector
      (ap (λ (it : OverflowLists). names_place c.args.spot.place it.in_use) (sym c.self.view_is)
      ∙ ap (λ l. names_place c.args.spot.place (map first_of l)) (sym c.as_slice.ensures.value)
      ∙ sym c.has_place.ensures ∙ w.if-not-has_place.false) c.requires.clean)
]
