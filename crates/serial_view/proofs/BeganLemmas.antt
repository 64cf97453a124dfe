-- Where a session last began, and what it did since.
use Rattle.std.proofs.Common.{◌≡◌, ◌⊎◌, inl, inr, ℕ, suc, ◌-◌, ◌≤◌, Bool, true, false, cond, List, [], ◌∷◌, ◌++◌, refl, sym, ◌∙◌, ap, arith, add-one}
use Rattle.std.specs.Prelude.{filter}
use Rattle.std.specs.List.{range_with_len}
use Rattle.std.proofs.lemmas.Bool.{cases_Bool, eq-eqb}
use Rattle.std.proofs.lemmas.List.{append-nil}
use Rattle.ipl_model.specs.State.{Map, Limits}
use Rattle.ipl_model.specs.declared.command.Command.{Command}
use Rattle.ipl_model.specs.declared.command.Command.TheVariants as command
use Rattle.serial_view.specs.Serial.{command_at, is_accepted, is_begin, is_turn, turns}
use Rattle.serial_view.proofs.SessionStepLemmas.{own}
use Rattle.serial_view.proofs.TurnLemmas.{turn_is, begins_is, turns_begun, turns_on, turns_same}
use Rattle.serial_view.proofs.FilterLemmas.{filter_more}

module _ (limits : Limits) (m : Map) (commands : List Command) where
  -- session s began at a position before k, and these are its turns since
  pub record Since (s k from : ℕ) : Type 0 where
    pub within : from ≤ k
    pub turns_are : turns limits m commands s k ≡ filter (is_turn limits m commands s) (range_with_len from (k - from))

  -- its turns, and a position behind them or not
  abbrev with_turn : ℕ → ℕ → Bool → List ℕ
  with_turn s k b = turns limits m commands s k ++ cond b (k ∷ []) []

  -- a session that doesn't begin goes on from where it began
  pub goes_on : (s k from : ℕ) → is_begin (command_at commands k) ≡ false ⊎ is_turn limits m commands s k ≡ false
      → Since s k from → Since s (suc k) from
  goes_on s k from why old = record {
    within = omega (arith, old.within);
    turns_are =
        more (cases_Bool (is_turn limits m commands s k)) why
        ∙ ap (λ (l : List ℕ). l ++ cond (is_turn limits m commands s k) (k ∷ []) []) old.turns_are
        ∙ sym (filter_more (is_turn limits m commands s) from k old.within)
        ∙ ap (λ (n : ℕ). filter (is_turn limits m commands s) (range_with_len from (n - from))) (add-one k);
  }
    where
      more : (is_turn limits m commands s k ≡ true) ⊎ (is_turn limits m commands s k ≡ false)
          → (is_begin (command_at commands k) ≡ false) ⊎ (is_turn limits m commands s k ≡ false)
          → turns limits m commands s (suc k) ≡ with_turn s k (is_turn limits m commands s k)
      more (inl turn) (inl calm) = turns_on limits m commands s k calm turn ∙ ap (with_turn s k) (sym turn)
      more (inl turn) (inr no_turn) = absurd (cc)
      more (inr no_turn) w =
          turns_same limits m commands s k no_turn ∙ sym (append-nil (turns limits m commands s k))
          ∙ ap (with_turn s k) (sym no_turn)

  pub begins_here : (s k : ℕ) → is_accepted limits m commands k ≡ true → command_at commands k ≡ command.Begin s
      → Since s (suc k) k
  begins_here s k ok is =
      let turn = turn_is limits m commands s k true ok (ap (own s) is ∙ eq-eqb s s refl) in
      let one : suc k - k ≡ 1 = omega arith in
      record {
        within = omega arith;
        turns_are =
            turns_begun limits m commands s k (begins_is limits m commands s k ok is)
            ∙ ap (λ (b : Bool). cond b (k ∷ []) []) (sym turn)
            ∙ ap (λ (n : ℕ). filter (is_turn limits m commands s) (range_with_len k n)) (sym one);
      }
