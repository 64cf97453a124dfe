-- `answered` is the greatest number of commands whose replies are all there.
use Rattle.std.proofs.Common.{◌≡◌, inl, inr, ℕ, zero, suc, ◌≤◌, true, false, List, [], ◌∷◌, ◌++◌, length, take, drop, refl, sym, ◌∙◌, ap, subst, arith, append_assoc}
use Rattle.std.proofs.lemmas.Bool.{cases_Bool, cond-true}
use Rattle.std.proofs.lemmas.List.{append_cancel_left}
use Rattle.ipl_model.specs.State.{State, Limits}
use Rattle.ipl_model.specs.declared.command.Command.{Command}
use Rattle.ipl_model.specs.Step.{step}
use Rattle.ipl_model.specs.Run as run
use Rattle.ipl_model.specs.Run.{text, begins_with, answered}
use Rattle.ipl_model.specs.Laws.{Begins, IsGreatest}
use Rattle.ipl_model.proofs.RunLemmas.{text-cons, begins_itself, begins_split, unanswered}

module _ (limits : Limits) (state : State) (c : Command) (cs : List Command) (bytes : List ℕ) where
  abbrev next : State
  next = (step limits state c).0

  abbrev whole : List ℕ
  whole = run.reply limits state c

  further : {r : ℕ} → bytes ≡ whole ++ drop (length whole) bytes
      → ((q : ℕ) → q ≤ length cs → Begins (text limits next (take q cs)) (drop (length whole) bytes) → q ≤ r) → (q : ℕ) → q ≤ length (c ∷ cs) → Begins (text limits state (take q (c ∷ cs))) bytes → q ≤ suc r
  further split most zero le front = omega arith
  further split most (suc q) le front =
      let spoken : whole ++ (text limits next (take q cs) ++ front.0) ≡ bytes =
      sym (append_assoc whole (text limits next (take q cs)) front.0) ∙ ap (λ (l : List ℕ). l ++ front.0) (sym (text-cons limits state c (take q cs))) ∙ front.1 in
      let inner = most q (omega (arith, le)) (front.0, append_cancel_left whole (text limits next (take q cs) ++ front.0) (drop (length whole) bytes) (spoken ∙ split)) in
      omega (arith, inner)

  one_more : begins_with bytes whole ≡ true → IsGreatest limits next cs (drop (length whole) bytes) (answered limits next cs (drop (length whole) bytes))
      → IsGreatest limits state (c ∷ cs) bytes (suc (answered limits next cs (drop (length whole) bytes)))
  one_more begins rest =
      let split = begins_split bytes whole begins in
      let r = answered limits next cs (drop (length whole) bytes) in record {
        within = omega (arith, rest.within);
        begins = (
          rest.begins.0,
          ap (λ (l : List ℕ). l ++ rest.begins.0) (text-cons limits state c (take r cs)) ∙ append_assoc whole (text limits next (take r cs)) rest.begins.0
              ∙ ap (λ (l : List ℕ). whole ++ l) rest.begins.1 ∙ sym split,
        );
        greatest = further split rest.greatest;
      }

  nothing : begins_with bytes whole ≡ false → (q : ℕ) → q ≤ length (c ∷ cs) → Begins (text limits state (take q (c ∷ cs))) bytes → q ≤ 0
  nothing not_yet zero le front = omega arith
  nothing not_yet (suc q) le front =
      let there : begins_with bytes whole ≡ true =
      subst (λ (l : List ℕ). begins_with l whole ≡ true)
      (sym (append_assoc whole (text limits next (take q cs)) front.0) ∙ ap (λ (l : List ℕ). l ++ front.0) (sym (text-cons limits state c (take q cs))) ∙ front.1)
      (begins_itself whole (text limits next (take q cs) ++ front.0)) in
      cc

  none_more : begins_with bytes whole ≡ false → IsGreatest limits state (c ∷ cs) bytes 0
  none_more not_yet = record { within = omega arith; begins = (bytes, refl); greatest = nothing not_yet }

pub is_greatest : (limits : Limits) (state : State) (commands : List Command) (bytes : List ℕ) → IsGreatest limits state commands bytes (answered limits state commands bytes)
is_greatest limits state [] bytes = record { within = omega arith; begins = (bytes, refl); greatest = λ q le front. le }
is_greatest limits state (c ∷ cs) bytes = elim (cases_Bool (begins_with bytes (run.reply limits state c))) [
  | inl begins ↦
      subst (IsGreatest limits state (c ∷ cs) bytes) (sym (cond-true _ _ _ begins))
      (one_more limits state c cs bytes begins (is_greatest limits (step limits state c).0 cs (drop (length (run.reply limits state c)) bytes)))
  | inr not_yet ↦ subst (IsGreatest limits state (c ∷ cs) bytes) (sym (unanswered limits state c cs bytes not_yet)) (none_more limits state c cs bytes not_yet)
]
