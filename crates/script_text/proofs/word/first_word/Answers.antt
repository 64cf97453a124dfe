use Rattle.std.proofs.Common.{rules, tests}
use Rattle.std.proofs.lemmas.Iterator.{YieldsList-from_slice}
use Rattle.std.proofs.lemmas.Iterator.Search.{position_from_yields_List}
use Rattle.ipl_model.specs.Grammar.{is_space}
use Rattle.script_text.proofs.Words.{cut_at, cut_nowhere}
use Rattle.script_text.proofs.word.first_word.Goals as goal

pub returns-in-Some-clause-words : goal.returns-in-Some-clause-words
returns-in-Some-clause-words c =
    cut_at is_space 0 c.args.line.now c.position.result c.in-Some.at
    (position_from_yields_List is_space _ _ _ c.position.ensures.ran (YieldsList-from_slice c.args.line.now c.iter.ensures.rest) (λ x b q k. search (rules, tests))) c.in-Some.is

pub returns-in-None-clause-words : goal.returns-in-None-clause-words
returns-in-None-clause-words c =
    cut_nowhere is_space c.args.line.now c.position.result
    (position_from_yields_List is_space _ _ _ c.position.ensures.ran (YieldsList-from_slice c.args.line.now c.iter.ensures.rest) (λ x b q k. search (rules, tests))) c.in-None.is
