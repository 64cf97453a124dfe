use Rattle.number_set.specs.Flags.{has_flag}
use Rattle.number_set.proofs.FlagLemmas.{none_flagged}
use Rattle.restart.proofs.numbers.KeptNumbers.new.Goals as goal

pub returns-clause-none : goal.returns-clause-none
returns-clause-none c = λ numbers. none_flagged (has_flag c.in_ok-kept.kept.bytes) 0 numbers c.in_ok-kept.ensures.none
