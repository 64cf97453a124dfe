use Rattle.std.proofs.lemmas.Bool.{leb-true}
use Rattle.page_text.proofs.IndexLemmas.{on_true}
use Rattle.page_ops.proofs.FillLemmas.{surely_room}
use Rattle.page_ops.proofs.filling.surely_fits.Goals as goal

pub returns : goal.returns
returns c =
    on_true _ _ (λ few. surely_room c.args.page.now c.args.values.now c.text.result.now
    c.text-2.result.now c.args.size c.text.ensures.text c.text-2.ensures.text (leb-true _ _ few))
