-- What a trial says of its commands: six lines, each a word, one space, a value and a line feed.
use Rattle.std.specs.Prelude.{◌≡◌, ◌<◌, ℕ, Bool, true, false, ◌&&◌, List, [], ◌∷◌, ◌++◌, map, length, count_by, codes}
use Rattle.std.specs.Fmt.{decimal}
use Rattle.std.specs.Int.{w32, to_be_bytes}
use Rattle.hex.specs.Hex.{encode_lower}
use Rattle.crc_sum.specs.Crc.{crc, HasFed}
use Rattle.ipl_base.specs.declared.fault.Refusal.{Refusal}
use Rattle.ipl_base.specs.declared.fault.Refusal.TheVariants as refusal
use Rattle.ipl_model.specs.State.{Map, State, Limits}
use Rattle.ipl_model.specs.Operations.{rows_from}
use Rattle.ipl_model.specs.declared.command.Command.{Command}
use Rattle.ipl_model.specs.declared.command.Command.TheVariants as command
use Rattle.ipl_model.specs.declared.reply.Reply.{Reply}
use Rattle.ipl_model.specs.declared.reply.Reply.TheVariants as reply
use Rattle.ipl_model.specs.Step.{step, row_reply}
use Rattle.ipl_model.specs.Laws.{is_commit}
use Rattle.ipl_model.specs.Text.{reply_text}
use Rattle.ipl_model.specs.Run.{joined_lines, after_all}

-- a command, and a line of its reply
abbrev pub Exchange : Type 0
Exchange = Command × Reply

-- the commands with the lines of their replies
abbrev pub exchanges : Limits → State → List Command → List Exchange
exchanges limits state [] = []
exchanges limits state (c ∷ commands) =
    map (λ r. (c, r)) (step limits state c).1 ++ exchanges limits (step limits state c).0 commands

-- ---- what is counted

abbrev pub is_abort : Command → Bool
is_abort (command.Begin s) = false
is_abort (command.Get s n) = false
is_abort (command.Share s n) = false
is_abort (command.Put s n bytes) = false
is_abort (command.Del s n) = false
is_abort (command.Commit s) = false
is_abort (command.Batch ss) = false
is_abort (command.Abort s) = true
is_abort (command.List a b) = false
is_abort (command.Merge u) = false
is_abort command.Restart = false
is_abort command.Syntax = false

-- the reply `ok`
abbrev pub is_done : Reply → Bool
is_done reply.Ok = true
is_done reply.Nothing = false
is_done (reply.Value value) = false
is_done (reply.Row n value) = false
is_done reply.End = false
is_done reply.Syntax = false
is_done (reply.Refused why) = false

-- the refusal number 7
abbrev pub is_conflict_refusal : Refusal → Bool
is_conflict_refusal refusal.BadSession = false
is_conflict_refusal refusal.BadName = false
is_conflict_refusal refusal.TooLong = false
is_conflict_refusal refusal.AlreadyOpen = false
is_conflict_refusal refusal.NotOpen = false
is_conflict_refusal (refusal.Conflict holder) = true
is_conflict_refusal refusal.WritesFull = false
is_conflict_refusal refusal.SharesFull = false
is_conflict_refusal (refusal.PendingFull unit) = false
is_conflict_refusal refusal.BadUnit = false
is_conflict_refusal refusal.HoldsFull = false
is_conflict_refusal refusal.NotHeld = false
is_conflict_refusal refusal.PageFull = false
is_conflict_refusal (refusal.Twice s) = false
is_conflict_refusal (refusal.SessionsOpen s) = false

-- the reply `err 7`
abbrev pub is_conflict : Reply → Bool
is_conflict reply.Ok = false
is_conflict reply.Nothing = false
is_conflict (reply.Value value) = false
is_conflict (reply.Row n value) = false
is_conflict reply.End = false
is_conflict reply.Syntax = false
is_conflict (reply.Refused why) = is_conflict_refusal why

-- how many commands there were, how many commits and aborts were done, and how many commands met a
-- conflict
pub record TrialCounts : Type 0 where
  pub commands : ℕ
  pub commits : ℕ
  pub aborts : ℕ
  pub conflicts : ℕ

abbrev pub counts_of : List Exchange → TrialCounts
counts_of all = record {
  commands = length all;
  commits = count_by (λ (e : Exchange). is_commit e.0 && is_done e.1) all;
  aborts = count_by (λ (e : Exchange). is_abort e.0 && is_done e.1) all;
  conflicts = count_by (λ (e : Exchange). is_conflict e.1) all;
}

-- ---- the records

-- the lines of the records of names below this, rising, as a list says them
abbrev pub record_lines : Map → ℕ → List (List ℕ)
record_lines m names = map reply_text (map row_reply (rows_from m 0 names))

-- how many records were taken, and the register of the sum of their lines
pub record RecordSum : Type 0 where
  pub count : ℕ
  pub register : ℕ

-- these lines were taken
pub record HasTaken (taken : RecordSum) (lines : List (List ℕ)) : Type 0 where
  pub count : taken.count ≡ length lines
  pub register : HasFed taken.register (joined_lines lines)

-- ---- the lines

-- a line with a number in decimal digits
abbrev pub number_line : List ℕ → ℕ → List ℕ
number_line word n = word ++ codes " " ++ decimal n ++ codes "\n"

-- a line with a sum in eight lower case hex digits
abbrev pub sum_line : List ℕ → ℕ → List ℕ
sum_line word sum = word ++ codes " " ++ encode_lower (to_be_bytes w32 sum) ++ codes "\n"

-- a line that can be said
abbrev pub HasByte : List ℕ → Type 0
HasByte line = 0 < length line

-- the lines of these counts, this number of records and this sum of their lines
abbrev pub summary_lines : TrialCounts → ℕ → ℕ → List (List ℕ)
summary_lines counts records sum =
    number_line (codes "commands") counts.commands
    ∷ number_line (codes "commits") counts.commits
    ∷ number_line (codes "aborts") counts.aborts
    ∷ number_line (codes "conflicts") counts.conflicts
    ∷ number_line (codes "records") records
    ∷ sum_line (codes "crc") sum ∷ []

-- what is said of commands from a state on: the last two lines are of the records after the last
-- command
abbrev pub trial_lines : Limits → State → List Command → List (List ℕ)
trial_lines limits state commands =
    let lines = record_lines (after_all limits state commands).map limits.names in
    summary_lines (counts_of (exchanges limits state commands)) (length lines) (crc (joined_lines lines))
