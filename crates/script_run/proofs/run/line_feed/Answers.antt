use Rattle.std.proofs.Common.{rules, tests}
use Rattle.std.proofs.lemmas.Iterator.{YieldsList-from_slice}
use Rattle.std.proofs.lemmas.Iterator.Search.{position_from_yields_List}
use Rattle.ipl_model.specs.Grammar.{is_line_feed}
use Rattle.script_run.proofs.run.line_feed.Goals as goal

pub returns : goal.returns
returns c =
    position_from_yields_List is_line_feed _ _ _ c.position.ensures.ran (YieldsList-from_slice c.args.bytes.now c.iter.ensures.rest) (λ x b q k. search (rules, tests))
