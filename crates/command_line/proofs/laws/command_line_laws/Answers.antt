use Rattle.command_line.proofs.ExampleLemmas.{words, spares, frames, sessions, numbers, trials, no_words, no_spares, no_frames, no_sessions, no_numbers, no_trials, together}
use Rattle.command_line.proofs.laws.command_line_laws.Goals as goal

pub returns-clause-together : goal.returns-clause-together
returns-clause-together c = together

pub returns-clause-examples : goal.returns-clause-examples
returns-clause-examples c = words

pub returns-clause-spares : goal.returns-clause-spares
returns-clause-spares c = spares

pub returns-clause-frames : goal.returns-clause-frames
returns-clause-frames c = frames

pub returns-clause-sessions : goal.returns-clause-sessions
returns-clause-sessions c = sessions

pub returns-clause-numbers : goal.returns-clause-numbers
returns-clause-numbers c = numbers

pub returns-clause-trials : goal.returns-clause-trials
returns-clause-trials c = trials

pub returns-clause-others : goal.returns-clause-others
returns-clause-others c = no_words

pub returns-clause-other_spares : goal.returns-clause-other_spares
returns-clause-other_spares c = no_spares

pub returns-clause-other_frames : goal.returns-clause-other_frames
returns-clause-other_frames c = no_frames

pub returns-clause-other_sessions : goal.returns-clause-other_sessions
returns-clause-other_sessions c = no_sessions

pub returns-clause-other_numbers : goal.returns-clause-other_numbers
returns-clause-other_numbers c = no_numbers

pub returns-clause-other_trials : goal.returns-clause-other_trials
returns-clause-other_trials c = no_trials
