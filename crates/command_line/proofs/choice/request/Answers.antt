use Rattle.std.proofs.Common.{map}
use Rattle.std.specs.String.{string_bytes}
use Rattle.command_line.proofs.OptionLemmas.{bounds}
use Rattle.command_line.proofs.choice.request.Goals as goal

pub returns-in-Some-clause-bounds : goal.returns-in-Some-clause-bounds
returns-in-Some-clause-bounds c = bounds (map string_bytes c.args.words.now) c.in_ok-asked_by.field-0 c.in-Some.asked c.in-Some.is c.in_ok-asked_by.ensures
