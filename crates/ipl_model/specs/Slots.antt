-- Open sessions in numbered slots.
use Rattle.std.specs.Prelude.{ℕ, suc, List, [], ◌∷◌, Option, Some, None}
use Rattle.std.specs.Ordering.{nat_cmp}
use Rattle.std.specs.FinMap.{FinMap, from_entries}
use Rattle.ipl_model.specs.State.{Session}

-- the open sessions among slots that are numbered from i on
abbrev pub open_from : ℕ → List (Option Session) → List (ℕ × Session)
open_from i [] = []
open_from i (None ∷ slots) = open_from (suc i) slots
open_from i (Some session ∷ slots) = (i, session) ∷ open_from (suc i) slots

-- the open sessions by their numbers
abbrev pub opened : List (Option Session) → FinMap nat_cmp Session
opened slots = from_entries (open_from 0 slots)
