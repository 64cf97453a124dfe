-- The commands of a trial, as one after another is taken.
use Rattle.std.proofs.Common.{◌≡◌, ℕ, ◌+◌, List, [], ◌∷◌, ◌++◌, sym, ◌∙◌, ap, arith, append_assoc}
use Rattle.ipl_model.specs.declared.command.Command.{Command}
use Rattle.script_run.specs.TrialSource.{WordSource}
use Rattle.script_run.specs.TrialWords.{commands_from}
use Rattle.script_run.proofs.WordLemmas.{commands_none}

-- the first i commands were taken, and these are still to come
abbrev pub GoesOn : WordSource → ℕ → WordSource → Type 0
GoesOn first i later = (rest : ℕ) → commands_from first (i + rest) ≡ commands_from first i ++ commands_from later rest

-- this one is the next
abbrev pub IsNext : WordSource → Command → WordSource → Type 0
IsNext source c later = (count : ℕ) → commands_from source (count + 1) ≡ c ∷ commands_from later count

pub goes_none : (source : WordSource) → GoesOn source 0 source
goes_none source rest =
    let e : 0 + rest ≡ rest = omega arith in
    ap (commands_from source) e ∙ ap (λ (l : List Command). l ++ commands_from source rest) (sym (commands_none source))

module _ (first source later : WordSource) (c : Command) (i : ℕ) (goes : GoesOn first i source)
    (next : IsNext source c later) where
  pub one_more : commands_from first (i + 1) ≡ commands_from first i ++ c ∷ []
  one_more =
      goes 1 ∙ ap (λ (l : List Command). commands_from first i ++ l) (next 0)
      ∙ ap (λ (l : List Command). commands_from first i ++ c ∷ l) (commands_none later)

  pub all_more : (rest : ℕ) → commands_from first (i + 1 + rest)
      ≡ (commands_from first i ++ c ∷ []) ++ commands_from later rest
  all_more rest =
      let e : i + 1 + rest ≡ i + (rest + 1) = omega arith in
      ap (commands_from first) e ∙ goes (rest + 1)
      ∙ ap (λ (l : List Command). commands_from first i ++ l) (next rest)
      ∙ sym (append_assoc (commands_from first i) (c ∷ []) (commands_from later rest))

  pub goes_next : GoesOn first (i + 1) later
  unfolding one_more all_more
  goes_next rest =
      all_more rest ∙ ap (λ (l : List Command). l ++ commands_from later rest) (sym one_more)
