use Rattle.std.proofs.Common.{◌≡◌, Option, Some, None, ℕ, ◌∙◌, ap, sym, subst}
use Rattle.std.proofs.lemmas.Option.{IfSome_then}
use Rattle.chip_trait.specs.Story.{Contents}
use Rattle.nand_rising.specs.Known.{IsKnown}
use Rattle.nand_rising.specs.Order.{next_in, HasRoom}
use Rattle.nand_rising.specs.Views.{part_of, next_of}
use Rattle.nand_rising.proofs.chip.Rising.step.Goals as goal

pub returns-in-Fresh-clause-none : goal.returns-in-Fresh-clause-none
returns-in-Fresh-clause-none g c = λ e.
    let none : c.first_step.result ≡ None = cc in
    let next : next_of c.args.self.now c.args.p ≡ Some c.from.result = sym c.in_ok-next.ensures.next ∙ ap next_in c.in-Fresh.is ∙ ap Some (sym c.from.ensures) in
    IfSome_then (part_of c.args.self.now).contents c.in_ok-next.ensures.known (λ (x : Contents) (is : IsKnown c.in_ok-next.field-0 (x c.args.p)). λ room.
    c.first_step.ensures.none none (x c.args.p) (subst (λ (k : Option ℕ). HasRoom k c.args.s c.args.from.now (x c.args.p)) next room))
