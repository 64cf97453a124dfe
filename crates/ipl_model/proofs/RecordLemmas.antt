-- Only commits change the records.
use Rattle.std.proofs.Common.{◌≡◌, ◌⊎◌, inl, inr, ℕ, zero, suc, Bool, true, false, cond, [], ◌∷◌, Option, Some, None, refl}
use Rattle.std.specs.Option.{option_map_or}
use Rattle.std.specs.FinMap.{get, insert}
use Rattle.ipl_base.specs.declared.fault.Refusal.{Refusal}
use Rattle.ipl_model.specs.State.{Write, Session, State}
use Rattle.ipl_model.specs.Refusals.{is_new_share}
use Rattle.ipl_model.specs.Operations.{after_share, after_write}
use Rattle.ipl_model.specs.declared.command.Command.{Command}
use Rattle.ipl_model.specs.declared.command.Command.TheVariants as command
use Rattle.ipl_model.specs.declared.reply.Reply.TheVariants as reply
use Rattle.ipl_model.specs.Step.{step, refusal_of, accepted}
use Rattle.ipl_model.specs.Laws.{is_commit, OnlyCommitsChangeRecords, RecordsChangeByCommits}

-- a session that is changed, where it is open
sessions_alone : (state : State) (s : ℕ) (o : Option Session) (change : Session → Session)
    → (option_map_or (λ session. record state { sessions = insert state.sessions s (change session) }) o state).map ≡ state.map
sessions_alone state s None change = refl
sessions_alone state s (Some session) change = refl

share_keeps : (state : State) (s n : ℕ) → (after_share state s n).map ≡ state.map
share_keeps state s n = by_test (is_new_share state s n)
  where
    by_test : (t : Bool) → (cond t (option_map_or (λ session. record state { sessions = insert state.sessions s (record session { shared = n ∷ session.shared }) }) (get state.sessions s) state) state).map ≡ state.map
    by_test true = sessions_alone state s (get state.sessions s) (λ session. record session { shared = n ∷ session.shared })
    by_test false = refl

write_keeps : (state : State) (s : ℕ) (w : Write) → (after_write state s w).map ≡ state.map
write_keeps state s w = sessions_alone state s (get state.sessions s) (λ session. record session { writes = w ∷ session.writes })

-- the records stay, or the command is a commit
abbrev StaysOrCommits : State → Command → State → Type 0
StaysOrCommits state c next = (next.map ≡ state.map) ⊎ (is_commit c ≡ true)

accepted_changes : (state : State) (c : Command) → StaysOrCommits state c (accepted state c).0
accepted_changes state (command.Begin s) = inl refl
accepted_changes state (command.Get s n) = inl refl
accepted_changes state (command.Share s n) = inl (share_keeps state s n)
accepted_changes state (command.Put s n bytes) = inl (write_keeps state s (n, Some bytes))
accepted_changes state (command.Del s n) = inl (write_keeps state s (n, None))
accepted_changes state (command.Commit s) = inr refl
accepted_changes state (command.Batch ss) = inr refl
accepted_changes state (command.Abort s) = inl refl
accepted_changes state (command.List a b) = inl refl
accepted_changes state (command.Merge u) = inl refl
accepted_changes state command.Restart = inl refl
accepted_changes state command.Syntax = inl refl

pub only_commits_change_records : OnlyCommitsChangeRecords
only_commits_change_records limits state c = by_refusal (refusal_of limits state c) (accepted_changes state c)
  where
    by_refusal : (o : Option Refusal) → StaysOrCommits state c (accepted state c).0
        → ((option_map_or (λ refusal. (state, reply.Refused refusal ∷ [])) o (accepted state c)).0.map ≡ state.map) ⊎ ((is_commit c ≡ true) × (o ≡ None))
    by_refusal (Some refusal) changes = inl refl
    by_refusal None (inl stays) = inl stays
    by_refusal None (inr commits) = inr (commits, refl)

pub records_change_by_commits : RecordsChangeByCommits
records_change_by_commits limits state [] zero = inl refl
records_change_by_commits limits state [] (suc r) = inl refl
records_change_by_commits limits state (c ∷ commands) zero = elim (only_commits_change_records limits state c) [
  | inl stays ↦ inl stays
  | inr commits ↦ inr (c, commands, refl, commits.0, commits.1)
]
records_change_by_commits limits state (c ∷ commands) (suc r) = records_change_by_commits limits (step limits state c).0 commands r
