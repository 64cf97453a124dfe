-- What work leaves that comes behind a script and says nothing, as a close.
use Rattle.std.specs.Prelude.{◌≡◌, ◌≤◌, ℕ, ◌+◌, Result, MatchResult, IfErr, IsErrOf, is_ok}
use Rattle.chip_trait.specs.Told.{History, Told, Counts, adds_all}
use Rattle.ipl_model.specs.State.{State, Limits}
use Rattle.store_trait.specs.declared.fault.Fault.{Fault}
use Rattle.store_trait.specs.declared.fault.Fault.TheVariants.{Spent}
use Rattle.store_trait.specs.Keeping.{Keeping, WORK_DRAWS, WorkLeaves, LeavesTidy, StaysMet, Draws, Learns, DoneRecalls, Excuses}

module _ {S : Type 0} (k : Keeping S) where
  -- Of a store that keeps a state: wherever the power is cut, the chip stands for the same records. Done, the store keeps
  -- the state; after a fault it does, and the fault was met, unless a write failed. Few numbers are drawn, and a fault has its excuse.
  pub record KeepsBehind (limits : Limits) (state : State) (before : S) (h : History) (result : Result (Unit {0}) Fault)
      (then : S) (old new : Told) : Type 0 where
    pub leaves : WorkLeaves k (λ x. k.stands limits x state.map) before h then old new (is_ok result)
    pub ends : MatchResult result
        (λ _. k.holds limits then new (adds_all leaves.added h) state)
        (λ fault. StaysMet k limits then old new fault (adds_all leaves.added h) state)
    pub drawn : k.counter then ≤ k.counter before + WORK_DRAWS
    pub excuse : IfErr result (Excuses k WORK_DRAWS before old new)
    pub tells : IfErr result (k.tells limits)

  -- Whatever state the store keeps, and whatever the chip tells: what is added is lawful by what the store counts as clean,
  -- few numbers are drawn, what is worn is known still, and done, what was erased is too; and a fault has its cause.
  pub record WorksBehind (before : S) (old : Told) (result : Result (Unit {0}) Fault) (then : S) (new : Told)
      : Type 0 where
    pub keeps : (limits : Limits) (state : State) (h : History) → k.holds limits before old h state
        → KeepsBehind limits state before h result then old new
    pub tidy : LeavesTidy k before then old new (is_ok result)
    pub draws : Draws k WORK_DRAWS before (IsErrOf result Spent) then
    pub learns : Learns k before old result then new
    pub recalls : DoneRecalls k before old result then new
    pub counts : Counts old new
    pub cause : IfErr result (λ fault. k.cause fault old new)
