use Rattle.std.proofs.Common.{◌≡◌, map}
use Rattle.ipl_model.specs.Operations.{rows_from}
use Rattle.ipl_model.specs.Step.{row_reply}
use Rattle.ipl_model.specs.Plain.{state_of}
use Rattle.ipl_model.proofs.plain_model.PlainModel.rows.Given as goal

-- the rows of the names so far
abbrev pub invariant-loop-i : goal.invariant-loop-i
invariant-loop-i l = l.replies.items ≡ map row_reply (rows_from (state_of l.self).map l.a l.i)
