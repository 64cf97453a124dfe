use Rattle.std.proofs.Common.{arith}
use Rattle.script_run.proofs.AlongLemmas.{along_more}
use Rattle.script_run.proofs.CompleteLemmas.{completes_more}
use Rattle.script_run.proofs.answer.answer.Goals as goal

pub returns-in_default : goal.returns-in_default
returns-in_default g c = λ known.
    let one = c.answer_one.ensures known in record {
      answers = one.answers;
      along = along_more one.along (omega arith);
      completes = λ limits keeps. completes_more (one.completes limits keeps) (omega arith);
      last = one.last;
    }
