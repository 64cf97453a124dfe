-- What is kept while the view is made: whose turn each command was, where each session last began, and the view so far.
use Rattle.std.specs.Prelude.{◌≡◌, ℕ, ◌-◌, ◌<◌, ◌==◌, Bool, false, List, [], ◌∷◌, ◌++◌, length, filter, slice_index, slice_index_or, slice_set, Option, None, if◌then◌else◌}
use Rattle.std.specs.List.{range_with_len, flat_map, Contains}
use Rattle.std.specs.Option.{option_map_or, IfSome}
use Rattle.ipl_base.specs.declared.limits.TheConstants.{SESSIONS}
use Rattle.ipl_model.specs.State.{State, Limits}
use Rattle.ipl_model.specs.declared.command.Command.{Command}
use Rattle.ipl_model.specs.declared.command.Command.TheVariants as command
use Rattle.ipl_model.specs.Step.{step}
use Rattle.serial_view.specs.declared.turn_table.TurnTable.{TurnTable}
use Rattle.serial_view.specs.Serial.{accepts, session_of}

-- the turn is that of session s
abbrev pub is_turn_of : ℕ → Option ℕ → Bool
is_turn_of s turn = option_map_or (λ t. t == s) turn false

-- the positions from `from` on at which the turn is that of session s, rising
abbrev pub turns_from : List (Option ℕ) → ℕ → ℕ → List ℕ
turns_from turns s from =
    filter (λ j. is_turn_of s (slice_index_or turns j None)) (range_with_len from (length turns - from))

-- the turns, the beginnings by session, and the positions of the view
pub record KeptTurns : Type 0 where
  pub turns : List (Option ℕ)
  pub begun : List ℕ
  pub order : List ℕ

-- the beginnings after a command at a position
abbrev pub begun_after : List ℕ → ℕ → Command → List ℕ
begun_after begun k (command.Begin s) = slice_set begun s k
begun_after begun k other = begun

-- the view after a command at a position, the last of the turns
abbrev pub order_after : List ℕ → List (Option ℕ) → List ℕ → ℕ → Command → List ℕ
order_after order turns begun k (command.Commit s) = order ++ turns_from turns s (slice_index begun s)
order_after order turns begun k (command.Batch ss) =
    order ++ (flat_map (λ s. turns_from turns s (slice_index begun s)) ss ++ k ∷ [])
order_after order turns begun k other = order

-- a command that was refused
abbrev pub after_refused : KeptTurns → KeptTurns
after_refused t = record t { turns = t.turns ++ None ∷ [] }

-- a command that was accepted
abbrev pub after_accepted : KeptTurns → Command → KeptTurns
after_accepted t c = record {
  turns = t.turns ++ session_of c ∷ [];
  begun = begun_after t.begun (length t.turns) c;
  order = order_after t.order (t.turns ++ session_of c ∷ []) t.begun (length t.turns) c;
}

-- its session, where it has one, is below 32, and so is each session of a batch
abbrev pub HasSlot : Command → Type 0
HasSlot (command.Batch ss) = (s : ℕ) → Contains ss s → s < SESSIONS
HasSlot other = IfSome (session_of other) (λ s. s < SESSIONS)

-- what a table holds
abbrev pub kept_of : TurnTable → KeptTurns
kept_of t = record { turns = t.turns.items; begun = t.begun; order = t.order.items }

-- one command's run, and its turn
pub record RunsCommand (limits : Limits) (old : State) (before : KeptTurns) (c : Command) (new : State)
    (after : KeptTurns) : Type 0 where
  pub steps : new ≡ (step limits old c).0
  pub table : after ≡ (if accepts limits old c then after_accepted before c else after_refused before)
