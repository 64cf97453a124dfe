-- The laws of the serial view.
use Rattle.std.specs.Prelude.{◌≡◌, ℕ, ◌+◌, ◌-◌, ◌<◌, ◌==◌, Bool, true, false, not, ◌&&◌, List, [], ◌∷◌, ◌++◌, map, filter, Contains}
use Rattle.std.specs.List.{list_any, flat_map, range_with_len}
use Rattle.ipl_model.specs.State.{Map, State, Limits, at_rest}
use Rattle.ipl_model.specs.Refusals.{is_new_share}
use Rattle.ipl_model.specs.declared.command.Command.{Command}
use Rattle.ipl_model.specs.declared.command.Command.TheVariants as command
use Rattle.ipl_model.specs.declared.reply.Reply.{Reply}
use Rattle.ipl_model.specs.Step.{step}
use Rattle.ipl_model.specs.Run.{after_all}
use Rattle.serial_view.specs.Serial.{command_at, met_at, is_accepted, is_turn, begins, turns, committed_at, serial}

-- the commands at these positions
abbrev pub picked : List Command → List ℕ → List Command
picked commands positions = map (command_at commands) positions

-- the replies to each command of a run
abbrev pub replies : Limits → State → List Command → List (List Reply)
replies limits state [] = []
replies limits state (c ∷ commands) = (step limits state c).1 ∷ replies limits (step limits state c).0 commands

-- the replies to the command at a position, in the run from these records
abbrev pub reply_at : Limits → Map → List Command → ℕ → List Reply
reply_at limits m commands k = (step limits (met_at limits m commands k) (command_at commands k)).1

-- a get of a name that its transaction hadn't then written or shared
abbrev pub reads_unlocked : State → Command → Bool
reads_unlocked state (command.Get s n) = is_new_share state s n
reads_unlocked state other = false

-- such a get stands at a position, in the run from these records
abbrev pub is_unlocked : Limits → Map → List Command → ℕ → Bool
is_unlocked limits m commands k = reads_unlocked (met_at limits m commands k) (command_at commands k)

-- the serial view of a list of commands, run from these records
pub record IsSerialView (limits : Limits) (m : Map) (commands : List Command) (positions : List ℕ) : Type 0 where
  -- it is that of the definition
  pub order : positions ≡ serial limits m commands
  -- run by themselves from these records, its commands leave those of the whole run, and no session open
  pub leaves : after_all limits (at_rest m) (picked commands positions)
      ≡ at_rest (after_all limits (at_rest m) commands).map
  -- and where none of them gets a name that its transaction hadn't then written or shared, each has its reply
  pub says : list_any (is_unlocked limits m commands) positions ≡ false
      → replies limits (at_rest m) (picked commands positions) ≡ map (reply_at limits m commands) positions

-- ---- what a transaction is

-- a command ends what session s has open
abbrev pub ends : ℕ → Command → Bool
ends s (command.Commit t) = t == s
ends s (command.Batch ss) = list_any (λ t. t == s) ss
ends s (command.Abort t) = t == s
ends s command.Restart = true
ends s other = false

-- a command commits session s, by itself or with others
abbrev pub commits : ℕ → Command → Bool
commits s (command.Commit t) = t == s
commits s (command.Batch ss) = list_any (λ t. t == s) ss
commits s other = false

-- a transaction of session s: it begins at one position and is committed at another, and nothing ended it between
pub record IsTransaction (limits : Limits) (m : Map) (commands : List Command) (s first last : ℕ) : Type 0 where
  pub before : first < last
  pub begun : begins limits m commands s first ≡ true
  pub committed : (is_accepted limits m commands last ≡ true) × (commits s (command_at commands last) ≡ true)
  pub unended : (j : ℕ) → first < j → j < last
      → (is_accepted limits m commands j && ends s (command_at commands j)) ≡ false

-- an accepted commit commits a transaction, and the view has its accepted commands, from its begin to the commit
abbrev pub CommitsTransactions : Type 0
CommitsTransactions = (limits : Limits) (m : Map) (commands : List Command) (s last : ℕ)
    → is_accepted limits m commands last ≡ true → command_at commands last ≡ command.Commit s
    → (first : ℕ) × IsTransaction limits m commands s first last
    × (committed_at limits m commands last
    ≡ filter (is_turn limits m commands s) (range_with_len first (last + 1 - first)))

-- so does an accepted batch that of each session that it names: the view has their accepted commands, one session after
-- the other in the order named, and then the batch
abbrev pub BatchesCommitTransactions : Type 0
BatchesCommitTransactions = (limits : Limits) (m : Map) (commands : List Command) (ss : List ℕ) (last : ℕ)
    → is_accepted limits m commands last ≡ true → command_at commands last ≡ command.Batch ss
    → (committed_at limits m commands last ≡ flat_map (λ s. turns limits m commands s last) ss ++ last ∷ [])
    × ((s : ℕ) → Contains ss s → (first : ℕ) × IsTransaction limits m commands s first last
    × (turns limits m commands s last ≡ filter (is_turn limits m commands s) (range_with_len first (last - first))))

-- ---- which gets are unlocked

-- a command writes a name, or shares it
abbrev pub holds_name : ℕ → Command → Bool
holds_name n (command.Share s m) = m == n
holds_name n (command.Put s m bytes) = m == n
holds_name n (command.Del s m) = m == n
holds_name n other = false

-- an accepted get is unlocked exactly where no command of its session since that began has written or shared the name
abbrev pub UnlockedGets : Type 0
UnlockedGets = (limits : Limits) (m : Map) (commands : List Command) (k s n : ℕ)
    → is_accepted limits m commands k ≡ true → command_at commands k ≡ command.Get s n
    → is_unlocked limits m commands k
    ≡ not (list_any (λ j. holds_name n (command_at commands j)) (turns limits m commands s k))
