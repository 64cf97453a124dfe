use Rattle.std.proofs.Common.{◌≡◌, ◌∙◌, ◌||◌, ◌==◌, ◌+◌, ℕ, true, ap, sym, subst, arith, length, length-set}
use Rattle.ipl_meaning.specs.Tables.{Places, with_use}
use Rattle.ipl_meaning.specs.First.{count_below}
use Rattle.restart.specs.Shown.{is_held}
use Rattle.restart.specs.Filled.{is_home, is_used, AreUsed}
use Rattle.restart.proofs.FillLemmas.{used_more}
use Rattle.restart.proofs.filling.fill_places.Goals as goal

pub count_erases-requires-clause-places : goal.count_erases-requires-clause-places
count_erases-requires-clause-places c =
    let before = c.args.directory.now in
    let is = ap (λ (d : Places). length d.in_use) c.take.ensures in
    let set_one = length-set before.in_use c.place.result true in
    omega (arith, c.take_overflows.ensures.size, is, set_one)

pub returns-clause-used : goal.returns-clause-used
returns-clause-used c = λ current units first.
    let heads = c.args.heads.now in
    let places = length heads in
    let status = c.args.status.now.place in
    let before = c.args.directory.now in
    let is : c.take.new.self ≡ with_use before status true = c.take.ensures ∙ ap (λ (p : ℕ). with_use before p true) c.place.ensures in
    subst (λ (d : Places). AreUsed (is_used current units status (is_held heads c.args.noted.now)) places
    (units + 1 + count_below (is_held heads c.args.noted.now) places) d.in_use) (sym c.count_erases.ensures.same)
    (c.take_overflows.ensures.used (λ p. is_home current units p || (status == p)) (units + 1)
    (subst (λ (d : Places). AreUsed (λ p. is_home current units p || (status == p)) places (units + 1) d.in_use) (sym is)
    (used_more (is_home current units) places units status before.in_use (omega arith) first)))

pub returns-clause-same : goal.returns-clause-same
returns-clause-same c =
    let before = c.args.directory.now in
    let then = c.count_erases.ensures.same in
    let is : c.take.new.self ≡ with_use before c.args.status.now.place true = c.take.ensures ∙ ap (λ (p : ℕ). with_use before p true) c.place.ensures in
    record {
      retired = ap (λ (d : Places). d.retired) then ∙ c.take_overflows.ensures.same.retired ∙ ap (λ (d : Places). d.retired) is;
      current = ap (λ (d : Places). d.current) then ∙ c.take_overflows.ensures.same.current ∙ ap (λ (d : Places). d.current) is;
      written = ap (λ (d : Places). d.written) then ∙ c.take_overflows.ensures.same.written ∙ ap (λ (d : Places). d.written) is;
      generations = ap (λ (d : Places). d.generations) then ∙ c.take_overflows.ensures.same.generations ∙ ap (λ (d : Places). d.generations) is;
      masks = ap (λ (d : Places). d.masks) then ∙ c.take_overflows.ensures.same.masks ∙ ap (λ (d : Places). d.masks) is;
    }
