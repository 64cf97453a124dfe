use Rattle.command_line.proofs.ChipLemmas.{spelled_is_read, read_is_spelled}
use Rattle.command_line.proofs.laws.chip_word_laws.Goals as goal

pub returns-clause-read : goal.returns-clause-read
returns-clause-read c = spelled_is_read

pub returns-clause-spelled : goal.returns-clause-spelled
returns-clause-spelled c = read_is_spelled
