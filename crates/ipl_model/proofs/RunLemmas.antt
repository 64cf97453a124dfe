-- Commands, in one part after another.
use Rattle.std.proofs.Common.{◌≡◌, ◌⊎◌, inl, inr, ⊎_elim, ℕ, zero, suc, true, false, nat_eq, List, [], ◌∷◌, ◌++◌, map, length, drop, Option, Some, None, refl, sym, ◌∙◌, ap, subst, append_assoc}
use Rattle.std.specs.Option.{option_map_or}
use Rattle.std.proofs.lemmas.Bool.{cases_Bool, eq-eqb, eqb-true, and_parts, cond-true, cond-false}
use Rattle.std.proofs.lemmas.List.{append_cancel_left}
use Rattle.std.specs.Fmt.{decimal}
use Rattle.ipl_base.specs.declared.fault.Refusal.{Refusal}
use Rattle.ipl_model.specs.State.{State, Limits, see}
use Rattle.ipl_model.specs.Operations.{rows}
use Rattle.ipl_model.specs.declared.command.Command.{Command}
use Rattle.ipl_model.specs.declared.command.Command.TheVariants as command
use Rattle.ipl_model.specs.declared.reply.Reply.{Reply}
use Rattle.ipl_model.specs.declared.reply.Reply.TheVariants as reply
use Rattle.ipl_model.specs.Step.{step, refusal_of, accepted, found_reply, row_reply}
use Rattle.ipl_model.specs.Text.{reply_text, value_text}
use Rattle.ipl_model.specs.Run as run
use Rattle.ipl_model.specs.Run.{joined_lines, reply_lines, lines, text, after_all, after_first, begins_with, answered, IsNear}
use Rattle.ipl_model.specs.Laws.{Begins}

pub joined-append : (a b : List (List ℕ)) → joined_lines (a ++ b) ≡ joined_lines a ++ joined_lines b
joined-append [] b = refl
joined-append (line ∷ a) b = ap (λ (l : List ℕ). line ++ l) (joined-append a b) ∙ sym (append_assoc line (joined_lines a) (joined_lines b))

pub text-cons : (limits : Limits) (state : State) (c : Command) (cs : List Command) → text limits state (c ∷ cs) ≡ run.reply limits state c ++ text limits (step limits state c).0 cs
text-cons limits state c cs = joined-append (reply_lines limits state c) (lines limits (step limits state c).0 cs)

pub begins_itself : (ns bs : List ℕ) → begins_with (ns ++ bs) ns ≡ true
begins_itself [] bs = go bs
  where
    go : (bs : List ℕ) → begins_with bs [] ≡ true
    go [] = refl
    go (b ∷ bs) = refl
begins_itself (n ∷ ns) bs = rw (eq-eqb n n refl) (begins_itself ns bs)

drop_itself : (ns bs : List ℕ) → drop (length ns) (ns ++ bs) ≡ bs
drop_itself [] bs = refl
drop_itself (n ∷ ns) bs = drop_itself ns bs

pub begins_split : (bs ns : List ℕ) → begins_with bs ns ≡ true → bs ≡ ns ++ drop (length ns) bs
begins_split bs [] e = refl
begins_split [] (n ∷ ns) e = cc
begins_split (b ∷ bs) (n ∷ ns) e =
    let parts = and_parts (nat_eq b n) (begins_with bs ns) e in
    ap (λ (c : ℕ). c ∷ bs) (eqb-true b n parts.0) ∙ ap (λ (l : List ℕ). n ∷ l) (begins_split bs ns parts.1)

-- ---- no reply is empty

-- bytes that end with one are not empty
ends_shown : (bs : List ℕ) (n : ℕ) → begins_with [] (bs ++ n ∷ []) ≡ false
ends_shown [] n = refl
ends_shown (b ∷ bs) n = refl

text_shows : (r : Reply) → begins_with [] (reply_text r) ≡ false
text_shows reply.Ok = refl
text_shows reply.Nothing = refl
text_shows (reply.Value value) = refl
text_shows (reply.Row n value) = ends_shown ((decimal n ++ 32 ∷ []) ++ value_text value) 10
text_shows reply.End = refl
text_shows reply.Syntax = refl
text_shows (reply.Refused refusal) = refl

shows_first : (line : List ℕ) (more : List (List ℕ)) → begins_with [] line ≡ false → begins_with [] (joined_lines (line ∷ more)) ≡ false
shows_first [] more e = cc
shows_first (b ∷ line) more e = refl

shows_later : (ls : List (List ℕ)) (line : List ℕ) → begins_with [] line ≡ false → begins_with [] (joined_lines (ls ++ line ∷ [])) ≡ false
shows_later [] line e = shows_first line [] e
shows_later ([] ∷ ls) line e = shows_later ls line e
shows_later ((n ∷ l) ∷ ls) line e = refl

one_shows : (r : Reply) → begins_with [] (joined_lines (map reply_text (r ∷ []))) ≡ false
one_shows r = shows_first (reply_text r) [] (text_shows r)

map-last : (rs : List Reply) (r : Reply) → map reply_text (rs ++ r ∷ []) ≡ map reply_text rs ++ reply_text r ∷ []
map-last [] r = refl
map-last (q ∷ rs) r = ap (λ (l : List (List ℕ)). reply_text q ∷ l) (map-last rs r)

accepted_shows : (state : State) (c : Command) → begins_with [] (joined_lines (map reply_text (accepted state c).1)) ≡ false
accepted_shows state (command.Begin s) = refl
accepted_shows state (command.Get s n) = one_shows (found_reply (see state s n))
accepted_shows state (command.Share s n) = one_shows (found_reply (see state s n))
accepted_shows state (command.Put s n bytes) = refl
accepted_shows state (command.Del s n) = refl
accepted_shows state (command.Commit s) = refl
accepted_shows state (command.Batch ss) = refl
accepted_shows state (command.Abort s) = refl
accepted_shows state (command.List a b) =
    ap (λ (l : List (List ℕ)). begins_with [] (joined_lines l)) (map-last (map row_reply (rows state.map a b)) reply.End) ∙ shows_later (map reply_text (map row_reply (rows state.map a b))) (reply_text reply.End) refl
accepted_shows state (command.Merge u) = refl
accepted_shows state command.Restart = refl
accepted_shows state command.Syntax = refl

pub reply_shows : (limits : Limits) (state : State) (c : Command) → begins_with [] (run.reply limits state c) ≡ false
reply_shows limits state c = by_refusal (refusal_of limits state c)
  where
    by_refusal : (o : Option Refusal) → begins_with [] (joined_lines (map reply_text (option_map_or (λ refusal. (state, reply.Refused refusal ∷ [])) o (accepted state c)).1)) ≡ false
    by_refusal None = accepted_shows state c
    by_refusal (Some refusal) = one_shows (reply.Refused refusal)

-- ---- runs of commands

answered_none : (limits : Limits) (state : State) (cs : List Command) → answered limits state cs [] ≡ 0
answered_none limits state [] = refl
answered_none limits state (c ∷ cs) = rw (reply_shows limits state c) refl

pub lines-append : (limits : Limits) (state : State) (cs ds : List Command) → lines limits state (cs ++ ds) ≡ lines limits state cs ++ lines limits (after_all limits state cs) ds
lines-append limits state [] ds = refl
lines-append limits state (c ∷ cs) ds =
    ap (λ (l : List (List ℕ)). reply_lines limits state c ++ l) (lines-append limits (step limits state c).0 cs ds)
    ∙ sym (append_assoc (reply_lines limits state c) (lines limits (step limits state c).0 cs) (lines limits (after_all limits (step limits state c).0 cs) ds))

pub text-append : (limits : Limits) (state : State) (cs ds : List Command) → text limits state (cs ++ ds) ≡ text limits state cs ++ text limits (after_all limits state cs) ds
text-append limits state cs ds = ap joined_lines (lines-append limits state cs ds) ∙ joined-append (lines limits state cs) (lines limits (after_all limits state cs) ds)

pub after_all-append : (limits : Limits) (state : State) (cs ds : List Command) → after_all limits state (cs ++ ds) ≡ after_all limits (after_all limits state cs) ds
after_all-append limits state [] ds = refl
after_all-append limits state (c ∷ cs) ds = after_all-append limits (step limits state c).0 cs ds

after_none : (limits : Limits) (state : State) (cs : List Command) → after_first limits state cs zero ≡ state
after_none limits state cs = refl

module _ (limits : Limits) (state : State) (c : Command) (cs : List Command) (bytes : List ℕ) where
  -- a whole reply, and then more
  answered_whole : answered limits state (c ∷ cs) (run.reply limits state c ++ bytes) ≡ suc (answered limits (step limits state c).0 cs bytes)
  answered_whole =
      cond-true _ _ _ (begins_itself (run.reply limits state c) bytes)
      ∙ ap (λ (l : List ℕ). suc (answered limits (step limits state c).0 cs l)) (drop_itself (run.reply limits state c) bytes)

  found_step : (Q : State → Type 0) → IsNear Q limits (step limits state c).0 cs bytes → IsNear Q limits state (c ∷ cs) (run.reply limits state c ++ bytes)
  found_step Q found = subst (λ (r : ℕ). Q (after_first limits state (c ∷ cs) r) ⊎ Q (after_first limits state (c ∷ cs) (suc r))) (sym answered_whole) found

  unfound_step : (Q : State → Type 0) → IsNear Q limits state (c ∷ cs) (run.reply limits state c ++ bytes) → IsNear Q limits (step limits state c).0 cs bytes
  unfound_step Q found = subst (λ (r : ℕ). Q (after_first limits state (c ∷ cs) r) ⊎ Q (after_first limits state (c ∷ cs) (suc r))) answered_whole found

  pub unanswered : begins_with bytes (run.reply limits state c) ≡ false → answered limits state (c ∷ cs) bytes ≡ 0
  unanswered e = cond-false _ _ _ e

-- the replies to some commands, and then what was found of more
pub found_after : (limits : Limits) (state : State) (cs ds : List Command) (bytes : List ℕ) (Q : State → Type 0)
    → IsNear Q limits (after_all limits state cs) ds bytes → IsNear Q limits state (cs ++ ds) (text limits state cs ++ bytes)
found_after limits state [] ds bytes Q found = found
found_after limits state (c ∷ cs) ds bytes Q found =
    let next = (step limits state c).0 in
    subst (λ (l : List ℕ). IsNear Q limits state (c ∷ cs ++ ds) l)
    (sym (append_assoc (run.reply limits state c) (text limits next cs) bytes) ∙ ap (λ (l : List ℕ). l ++ bytes) (sym (text-cons limits state c cs)))
    (found_step limits state c (cs ++ ds) (text limits next cs ++ bytes) Q (found_after limits next cs ds bytes Q found))

nil_prefix : (bytes rest : List ℕ) → bytes ++ rest ≡ [] → bytes ≡ []
nil_prefix [] rest e = refl
nil_prefix (b ∷ bytes) rest e = cc

-- more commands to come change nothing of what was said so far
pub found_longer : (limits : Limits) (state : State) (cs ds : List Command) (bytes : List ℕ) (Q : State → Type 0)
    → Begins bytes (text limits state cs) → IsNear Q limits state cs bytes → IsNear Q limits state (cs ++ ds) bytes
found_longer limits state [] ds bytes Q part found =
    let none = nil_prefix bytes part.0 part.1 in
    let here : Q state = ⊎_elim (λ s. s) (λ s. s) found in
    inl (subst (λ (r : ℕ). Q (after_first limits state ds r)) (sym (ap (answered limits state ds) none ∙ answered_none limits state ds)) here)
found_longer limits state (c ∷ cs) ds bytes Q part found = elim (cases_Bool (begins_with bytes (run.reply limits state c))) [
  | inl begins ↦
      let next = (step limits state c).0 in
      let whole = run.reply limits state c in
      let split = begins_split bytes whole begins in
      let rest = drop (length whole) bytes in
      let tail : rest ++ part.0 ≡ text limits next cs =
      append_cancel_left whole (rest ++ part.0) (text limits next cs) (sym (append_assoc whole rest part.0) ∙ ap (λ (l : List ℕ). l ++ part.0) (sym split) ∙ part.1 ∙ text-cons limits state c cs) in
      let inner = unfound_step limits state c cs rest Q (subst (λ (l : List ℕ). IsNear Q limits state (c ∷ cs) l) split found) in
      subst (λ (l : List ℕ). IsNear Q limits state (c ∷ cs ++ ds) l) (sym split)
      (found_step limits state c (cs ++ ds) rest Q (found_longer limits next cs ds rest Q (part.0, tail) inner))
  | inr not_yet ↦
      subst (λ (r : ℕ). Q (after_first limits state (c ∷ cs ++ ds) r) ⊎ Q (after_first limits state (c ∷ cs ++ ds) (suc r))) (sym (unanswered limits state c (cs ++ ds) bytes not_yet))
      (⊎_elim (λ s. inl s) (λ s. inr s)
      (subst (λ (r : ℕ). Q (after_first limits state (c ∷ cs) r) ⊎ Q (after_first limits state (c ∷ cs) (suc r))) (unanswered limits state c cs bytes not_yet) found))
]

-- the state after one command, whatever of its reply was said
pub found_said : (limits : Limits) (state : State) (c : Command) (part : List ℕ) (Q : State → Type 0) → Q (step limits state c).0 → IsNear Q limits state (c ∷ []) part
found_said limits state c part Q stands = elim (cases_Bool (begins_with part (run.reply limits state c))) [
  | inl whole ↦ inl (subst (λ (r : ℕ). Q (after_first limits state (c ∷ []) r)) (sym (cond-true (begins_with part (run.reply limits state c)) 1 0 whole)) stands)
  | inr not_yet ↦ inr (subst (λ (r : ℕ). Q (after_first limits state (c ∷ []) (suc r))) (sym (unanswered limits state c [] part not_yet)) stands)
]

-- and before it, as long as nothing was said
pub found_silent : (limits : Limits) (state : State) (c : Command) (bytes : List ℕ) (Q : State → Type 0) → bytes ≡ [] → Q state ⊎ Q (step limits state c).0 → IsNear Q limits state (c ∷ []) bytes
found_silent limits state c bytes Q none found =
    subst (λ (r : ℕ). Q (after_first limits state (c ∷ []) r) ⊎ Q (after_first limits state (c ∷ []) (suc r))) (sym (ap (answered limits state (c ∷ [])) none ∙ answered_none limits state (c ∷ []))) found
