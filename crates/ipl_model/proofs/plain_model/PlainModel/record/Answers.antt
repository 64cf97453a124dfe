use Rattle.std.proofs.Common.{List, ◌∙◌, ap}
use Rattle.std.specs.FinMap.{get}
use Rattle.ipl_model.specs.declared.plain_model.log.Write.{Write}
use Rattle.ipl_model.specs.Plain.{state_of, records_of}
use Rattle.ipl_model.proofs.plain_model.PlainModel.record.Goals as goal

pub returns : goal.returns
unfolding state_of
returns c = c.record.ensures ∙ ap (λ (log : List Write). get (records_of log) c.args.name) c.deref.ensures.value
