-- The sayings of a desk in memory that fail.
use Rattle.std.specs.Prelude.{ℕ, ◌==◌, List, [], ◌∷◌, Option, Some, None, if◌then◌else◌}
use Rattle.ipl_cli.specs.declared.failing.FailingSay.{FailingSay}

-- how many bytes the first of these keeps that has this number, where there is one
abbrev pub kept_at : List FailingSay → ℕ → Option ℕ
kept_at [] number = None
kept_at (f ∷ failing) number = if f.number == number then Some f.kept else kept_at failing number
