-- The states that a run meets, one command after the other.
use Rattle.std.proofs.Common.{◌≡◌, ℕ, zero, suc, true, false, not, List, [], ◌∷◌, length, take, get_or, Option, Some, None, refl, ◌∙◌, ap, arith}
use Rattle.std.specs.Prelude.{is_some}
use Rattle.std.proofs.lemmas.List.{take_all}
use Rattle.ipl_base.specs.declared.fault.Refusal.{Refusal}
use Rattle.ipl_model.specs.State.{Map, State, Limits, at_rest}
use Rattle.ipl_model.specs.declared.command.Command.{Command}
use Rattle.ipl_model.specs.declared.command.Command.TheVariants as command
use Rattle.ipl_model.specs.Step.{Stepped, step, refusal_of, accepted}
use Rattle.ipl_model.specs.Run.{after_all}
use Rattle.serial_view.specs.Serial.{command_at, met_at, is_accepted}
use Rattle.serial_view.proofs.StepLemmas.{step_refused, step_accepted}

-- ---- one command on

after_one_more : (limits : Limits) (state : State) (cs : List Command) (k : ℕ)
    → after_all limits state (take (suc k) cs)
    ≡ (step limits (after_all limits state (take k cs)) (get_or cs k command.Syntax)).0
after_one_more limits state [] zero = refl
after_one_more limits state [] (suc k) = refl
after_one_more limits state (c ∷ cs) zero = refl
after_one_more limits state (c ∷ cs) (suc k) = after_one_more limits (step limits state c).0 cs k

pub met_more : (limits : Limits) (m : Map) (commands : List Command) (k : ℕ)
    → met_at limits m commands (suc k) ≡ (step limits (met_at limits m commands k) (command_at commands k)).0
met_more limits m commands k = after_one_more limits (at_rest m) commands k

pub met_last : (limits : Limits) (m : Map) (commands : List Command)
    → met_at limits m commands (length commands) ≡ after_all limits (at_rest m) commands
met_last limits m commands = ap (after_all limits (at_rest m)) (take_all (length commands) commands (omega arith))

-- ---- whether a command is accepted

module _ (limits : Limits) (m : Map) (commands : List Command) where
  abbrev here : ℕ → State
  here k = met_at limits m commands k

  -- an accepted command passes
  pub passes : (k : ℕ) → is_accepted limits m commands k ≡ true
      → refusal_of limits (here k) (command_at commands k) ≡ None
  passes k e = go (refusal_of limits (here k) (command_at commands k)) e
    where
      go : (o : Option Refusal) → not (is_some o) ≡ true → o ≡ None
      go None e = refl
      go (Some r) e = absurd (cc)

  refuses : (k : ℕ) → is_accepted limits m commands k ≡ false
      → (r : Refusal) × (refusal_of limits (here k) (command_at commands k) ≡ Some r)
  refuses k e = go (refusal_of limits (here k) (command_at commands k)) e
    where
      go : (o : Option Refusal) → not (is_some o) ≡ false → (r : Refusal) × (o ≡ Some r)
      go None e = absurd (cc)
      go (Some r) e = (r, refl)

  -- the state after an accepted command, and after a refused one
  pub met_accepted : (k : ℕ) → is_accepted limits m commands k ≡ true
      → here (suc k) ≡ (accepted (here k) (command_at commands k)).0
  met_accepted k ok =
      met_more limits m commands k
      ∙ ap (λ (p : Stepped). p.0) (step_accepted limits (here k) (command_at commands k) (passes k ok))

  pub met_refused : (k : ℕ) → is_accepted limits m commands k ≡ false → here (suc k) ≡ here k
  met_refused k not_ok =
      let why = refuses k not_ok in
      met_more limits m commands k
      ∙ ap (λ (p : Stepped). p.0) (step_refused limits (here k) (command_at commands k) why.0 why.1)
