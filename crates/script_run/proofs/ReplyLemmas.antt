-- What was added last is a piece of a reply.
use Rattle.std.proofs.Common.{◌≡◌, Result, Ok, Err, IsErrAnd, OnOk, ℕ, List, [], ◌∷◌, ◌++◌, inl, inr, refl, ◌∙◌, ap}
use Rattle.std.specs.Option.{option_map}
use Rattle.chip_trait.specs.declared.event.Event.TheVariants.{Said}
use Rattle.chip_trait.specs.Story.{Story}
use Rattle.chip_trait.specs.Told.{Told, Appends, IsBeside, adds_all}
use Rattle.chip_trait.proofs.HistoryLemmas.{same_history, history_then}
use Rattle.script_run.specs.Goes.{EndsReplied}

-- nothing was
pub replied_none : (t : Told) → EndsReplied t t
replied_none t = record { added = []; history = same_history t.history; last = inl refl }

-- one reply was said, and another one later
pub replied_then : (old mid new : Told) → EndsReplied old mid → EndsReplied mid new → EndsReplied old new
replied_then old mid new first second = record {
  added = second.added ++ first.added;
  history = second.history ∙ ap (option_map (adds_all second.added)) first.history
      ∙ history_then second.added first.added old.history;
  last = elim second.last [
    | inl none ↦ elim first.last [
      | inl nothing ↦ inl (ap (λ (s : Story). s ++ first.added) none ∙ nothing)
      | inr (piece, earlier, is) ↦ inr (piece, earlier, ap (λ (s : Story). s ++ first.added) none ∙ is)
    ]
    | inr (piece, earlier, is) ↦ inr (piece, earlier ++ first.added, ap (λ (s : Story). s ++ first.added) is)
  ];
}

-- it was said behind other work
pub replied_said : (piece : List ℕ) (added : Story) (old mid new : Told)
    → mid.history ≡ option_map (adds_all added) old.history → Appends (Said piece) mid new → EndsReplied old new
replied_said piece added old mid new before said = record {
  added = Said piece ∷ added;
  history = said.history ∙ ap (option_map (adds_all (Said piece ∷ []))) before
      ∙ history_then (Said piece ∷ []) added old.history;
  last = inr (piece, added, refl);
}

-- a call that failed is none that was done
pub failed_replies : {T E : Type 0} (P : E → Type 0) (Q : Type 0) (result : Result T E) → IsErrAnd result P → OnOk result Q
failed_replies P Q (Ok v) is = absurd is
failed_replies P Q (Err e) is = tt

-- what is read of a script adds nothing
pub replied_later : (old mid new : Told) → IsBeside old mid → EndsReplied mid new → EndsReplied old new
replied_later old mid new beside replied = record {
  added = replied.added;
  history = replied.history ∙ ap (option_map (adds_all replied.added)) beside.history;
  last = replied.last;
}
