-- A subcommand that grows by one argument after the other.
use Rattle.std.proofs.Common.{◌≡◌, ◌∙◌, ap₂, Bool, false, ◌||◌}
use Rattle.clap.specs.Words.{App, AddsArg, Rule, app_of, rule_of, with_rule}
use Rattle.clap.specs.declared.builder.arg.Arg.{Arg}
use Rattle.clap.specs.declared.builder.command.Command.{Command}
use Rattle.clap.specs.declared.builder.command.Command.TheViews.{out-Command as fields_of}

-- a subcommand reads as told, and none of its arguments is global
abbrev pub Reads : Command → App → Type 0
Reads c app = (app_of c ≡ app) × (fields_of c).has_globals ≡ false

pub reads_more : (old : Command) (a : Arg) (new : Command) (app : App) (rule : Rule) → Reads old app → AddsArg old a new
    → rule_of a ≡ rule → a.global ≡ false → Reads new (with_rule app rule)
reads_more old a new app rule (is, local) adds says own = (
  adds.shape own ∙ ap₂ with_rule is says,
  adds.globals ∙ ap₂ (λ (x y : Bool). x || y) local own,
)
