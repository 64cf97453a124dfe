-- The commands that name no session.
use Rattle.std.specs.Prelude.{ℕ, List, codes, if◌then◌else◌}
use Rattle.std.specs.Option.{option_map_or}
use Rattle.std.specs.Str.{bytes_eq}
use Rattle.ipl_model.specs.declared.command.Command.{Command}
use Rattle.ipl_model.specs.declared.command.Command.TheVariants.{List as ListRecords, Merge, Restart, Syntax}
use Rattle.ipl_model.specs.Grammar.{one_number, two_numbers, alone}

-- the command without a session that a verb and the words behind it are: a list, a merge or a restart
abbrev pub without_session : List ℕ → List (List ℕ) → Command
without_session verb words =
    if bytes_eq verb (codes "list") then option_map_or (λ a. ListRecords a.0 a.1) (two_numbers words) Syntax
    else if bytes_eq verb (codes "merge") then option_map_or Merge (one_number words) Syntax
    else if bytes_eq verb (codes "restart") then alone Restart words
    else Syntax
