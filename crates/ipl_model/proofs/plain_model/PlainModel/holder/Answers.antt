use Rattle.std.proofs.Common.{◌==◌, ◌&&◌, not, ◌∙◌, ap, sym, List, ℕ, map}
use Rattle.std.specs.Prelude.{find}
use Rattle.std.specs.Option.{option_map}
use Rattle.ipl_model.specs.State.{Session}
use Rattle.ipl_model.specs.Plain.{state_of, slot_of, keeps_from}
use Rattle.ipl_model.proofs.RuleSlotLemmas.{entries-opened}
use Rattle.ipl_model.proofs.plain_model.PlainModel.holder.Goals as goal

pub returns : goal.returns
unfolding state_of
returns c =
    c.holder.ensures
    ∙ ap (λ (es : List (ℕ × Session)). option_map (λ e. e.0) (find (λ e. not (e.0 == c.args.s) && keeps_from c.args.lock c.args.name e.1) es))
    (sym (entries-opened (map slot_of c.args.self.now.sessions)))
