use Rattle.std.proofs.Common.{◌≡◌, ◌+◌, ◌∷◌, subst}
use Rattle.script_run.specs.TrialSource.{WordSource}
use Rattle.script_run.specs.TrialWords.{commands_from}
use Rattle.script_run.proofs.WordLemmas.{commands_next}
use Rattle.script_run.proofs.trial_commands.TrialCommands.next.Goals as goal

pub returns-clause-next : goal.returns-clause-next
returns-clause-next c = λ count.
    let units = c.self.inside.units in
    let later : WordSource = record { units = units; state = c.next_word.new.words } in
    subst (λ (s : WordSource). commands_from s (count + 1) ≡ c.command.result ∷ commands_from later count)
    c.self.view_is
    (commands_next (record { units = units; state = c.self.inside.words }) c.next_word.result
    c.next_word.new.words c.command.result count c.next_word.ensures c.command.ensures.value)
