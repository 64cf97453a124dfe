use Rattle.std.proofs.lemmas.Result.{IfOk-weaker}
use Rattle.command_line.proofs.PartLemmas.{reads_more}
use Rattle.command_line.proofs.command.trial_part.Goals as goal

pub returns : goal.returns
returns c =
    let first = reads_more _ _ _ _ _ (c.new.ensures.app, c.new.ensures.local) c.in_ok-arg.ensures
    c.chip_argument.ensures.rule c.chip_argument.ensures.local in
    let second = reads_more _ _ _ _ _ first c.in_ok-arg-2.ensures
    c.wanted_option.ensures.rule c.wanted_option.ensures.local in
    let third = reads_more _ _ _ _ _ second c.in_ok-arg-3.ensures
    c.wanted_option-2.ensures.rule c.wanted_option-2.ensures.local in
    let fourth = reads_more _ _ _ _ _ third c.in_ok-arg-4.ensures
    c.frames_option.ensures.rule c.frames_option.ensures.local in
    let fifth = reads_more _ _ _ _ _ fourth c.in_ok-arg-5.ensures
    c.sessions_option.ensures.rule c.sessions_option.ensures.local in record {
      app = IfOk-weaker c.arg-6.result _ _ (λ part adds. (reads_more _ _ part _ _ fifth adds
          c.numbers_option.ensures.rule c.numbers_option.ensures.local).0) c.arg-6.ensures;
      local = IfOk-weaker c.arg-6.result _ _ (λ part adds. (reads_more _ _ part _ _ fifth adds
          c.numbers_option.ensures.rule c.numbers_option.ensures.local).1) c.arg-6.ensures;
    }
