-- What the words of the examples ask, by computing.
use Rattle.std.proofs.Common.{◌≡◌, Option, Some, None, refl}
use Rattle.std.specs.Option.{option_map, option_map_or}
use Rattle.clap.proofs.OnLiterals.{clap_on_literals}
use Rattle.command_line.specs.Ipl.{ipl_command}
use Rattle.command_line.specs.Chip.{Chip, ram, file}
use Rattle.command_line.specs.Asked.{Asks, asked_of}
use Rattle.command_line.specs.Choice.{choice_of}
use Rattle.command_line.specs.Laws.{NothingTogether, WordExamples, SpareExamples, FrameExamples, SessionExamples, NumberExamples, TrialExamples, NoWordExamples, NoSpareExamples, NoFrameExamples, NoSessionExamples, NoNumberExamples, NoTrialExamples}
use Rattle.command_line.specs.declared.choice.Choice.TheVariants.{Nothing}

pub words : WordExamples
unfolding asked_of ipl_command clap_on_literals
words = record {
  formats = refl;
  runs = refl;
  formats_first = refl;
  flag_before = refl;
  chip_behind_dashes = refl;
  closes = refl;
  formats_and_closes = refl;
  says_its_view = refl;
  checks = refl;
  lists = refl;
  memory = refl;
  in_file = refl;
}

pub spares : SpareExamples
unfolding asked_of ipl_command clap_on_literals
spares = record {
  least = refl;
  most = refl;
  attached = refl;
  before_chip = refl;
}

pub frames : FrameExamples
unfolding asked_of ipl_command clap_on_literals
frames = record {
  least = refl;
  most = refl;
  attached = refl;
  plus = refl;
  leading_zero = refl;
  with_format = refl;
  before_chip = refl;
}

pub sessions : SessionExamples
unfolding asked_of ipl_command clap_on_literals
sessions = record {
  least = refl;
  most = refl;
  with_others = refl;
  before_frames = refl;
  of_a_view = refl;
  of_a_trial = refl;
}

pub numbers : NumberExamples
unfolding asked_of ipl_command clap_on_literals
numbers = record {
  least = refl;
  most = refl;
  with_others = refl;
  of_a_trial = refl;
}

pub trials : TrialExamples
unfolding asked_of ipl_command clap_on_literals
trials = record {
  least = refl;
  most = refl;
  in_any_order = refl;
  with_frames = refl;
}

pub no_words : NoWordExamples
unfolding asked_of ipl_command clap_on_literals
no_words = record {
  nothing = refl;
  unknown = refl;
  no_command = refl;
  no_chip = refl;
  two_chips = refl;
  other_chip = refl;
  format_flag = refl;
  close_flag = refl;
  closes_twice = refl;
  check_flag = refl;
  list_flag = refl;
  view_flag = refl;
  twice = refl;
  valued = refl;
  short = refl;
  help = refl;
  help_of = refl;
  help_word = refl;
  version = refl;
  version_of = refl;
}

pub no_spares : NoSpareExamples
unfolding asked_of ipl_command clap_on_literals
no_spares = record {
  too_many = refl;
  none = refl;
  minus = refl;
  twice = refl;
  at_run = refl;
  at_serial = refl;
}

pub no_frames : NoFrameExamples
unfolding asked_of ipl_command clap_on_literals
no_frames = record {
  too_few = refl;
  too_many = refl;
  none = refl;
  empty = refl;
  minus = refl;
  word = refl;
  twice = refl;
  short = refl;
  at_format = refl;
  at_serial = refl;
}

pub no_sessions : NoSessionExamples
unfolding asked_of ipl_command clap_on_literals
no_sessions = record {
  too_few = refl;
  too_many = refl;
  none = refl;
  minus = refl;
  twice = refl;
  too_few_for_a_view = refl;
  too_many_for_a_trial = refl;
  at_format = refl;
  at_check = refl;
}

pub no_numbers : NoNumberExamples
unfolding asked_of ipl_command clap_on_literals
no_numbers = record {
  too_few = refl;
  too_many = refl;
  none = refl;
  twice = refl;
  too_few_for_a_trial = refl;
  of_a_view = refl;
  at_format = refl;
  at_check = refl;
}

pub no_trials : NoTrialExamples
unfolding asked_of ipl_command clap_on_literals
no_trials = record {
  no_seed = refl;
  no_count = refl;
  no_chip = refl;
  seed_too_large = refl;
  count_too_large = refl;
  minus = refl;
  too_many_frames = refl;
  format_flag = refl;
  close_flag = refl;
  seed_at_run = refl;
}

-- a chip is something
something : (chip : Chip) → choice_of chip ≡ Nothing → ⊥
something (ram units) e = cc
something (file units path) e = cc

either : (asks : Option Asks) → (option_map_or (λ a. choice_of a.chip) asks Nothing ≡ Nothing → option_map (λ a. a.request) asks ≡ None)
    × (option_map (λ a. a.request) asks ≡ None → option_map_or (λ a. choice_of a.chip) asks Nothing ≡ Nothing)
either None = ((λ e. refl), (λ e. refl))
either (Some asks) = ((λ e. absurd (something asks.chip e)), (λ e. cc))

pub together : NothingTogether
together words = either (asked_of words)
