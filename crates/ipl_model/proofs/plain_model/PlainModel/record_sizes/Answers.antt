use Rattle.std.proofs.Common.{List, ◌∙◌, arith, ap}
use Rattle.std.specs.FinMap.{get}
use Rattle.ipl_base.specs.Sizes.{size_in_page}
use Rattle.ipl_model.specs.declared.plain_model.log.Write.{Write}
use Rattle.ipl_model.specs.Plain.{state_of, records_of}
use Rattle.ipl_model.proofs.plain_model.PlainModel.record_sizes.Goals as goal

pub returns-clause-sizes : goal.returns-clause-sizes
unfolding state_of
returns-clause-sizes c n low = c.in_ok-record_sizes.ensures.sizes n (omega (arith, low, c.in_ok-record_sizes.ensures.len))
    ∙ ap (λ (log : List Write). size_in_page (get (records_of log) n)) c.deref.ensures.value
