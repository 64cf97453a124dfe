use Rattle.std.proofs.Common.{◌∷◌, [], List, ◌∙◌, ap, sym, map}
use Rattle.std.specs.List.{flat_map}
use Rattle.ipl_model.specs.State as rules
use Rattle.ipl_model.specs.declared.plain_model.log.Write as plain
use Rattle.ipl_model.specs.Plain.{state_of, newest_first, slot_of}
use Rattle.ipl_model.proofs.RuleSlotLemmas.{entries-opened}
use Rattle.ipl_model.proofs.LogLemmas.{newest_first-append}
use Rattle.ipl_model.proofs.plain_model.PlainModel.pending_with.Goals as goal

pub returns : goal.returns
unfolding state_of
returns c =
    let w : plain.Write = record { name = c.args.name; value = c.args.value } in
    ap newest_first c.in_ok-push.ensures.items ∙ newest_first-append c.in_ok-all.all.items (w ∷ [])
    ∙ ap (λ (ws : List rules.Write). (c.args.name, c.args.value) ∷ ws)
    (c.in_ok-all.ensures ∙ ap (flat_map (λ e. e.1.writes)) (sym (entries-opened (map slot_of c.args.self.now.sessions))))
