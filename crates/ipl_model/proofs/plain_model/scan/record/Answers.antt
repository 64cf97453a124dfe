use Rattle.std.proofs.Common.{List, ◌∙◌, ap, sym, Option, ℕ, None}
use Rattle.std.specs.Option.{option_map_or}
use Rattle.ipl_model.specs.Plain.{newest_first}
use Rattle.ipl_model.proofs.ChangeLemmas.{record_is}
use Rattle.ipl_model.proofs.plain_model.scan.record.Goals as goal

pub returns-in-Some : goal.returns-in-Some
returns-in-Some c =
    sym (record_is (newest_first c.args.committed.now) c.args.name
    ∙ ap (λ (o : Option (Option (List ℕ))). option_map_or (λ change. change) o None) (sym c.newest.ensures ∙ c.in-Some.is))

pub returns-in-None : goal.returns-in-None
returns-in-None c =
    sym (record_is (newest_first c.args.committed.now) c.args.name
    ∙ ap (λ (o : Option (Option (List ℕ))). option_map_or (λ change. change) o None) (sym c.newest.ensures ∙ c.in-None.is))
