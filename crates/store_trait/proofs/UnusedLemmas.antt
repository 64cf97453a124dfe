-- What isn't used of what a mark says to be clean, one part after another.
use Rattle.std.proofs.Common.{◌≡◌, ℕ, Bool, true, false, List, [], ◌∷◌, ◌++◌, refl, sym, ap, subst, append_assoc}
use Rattle.std.proofs.lemmas.Bool.{false≢true}
use Rattle.chip_trait.specs.declared.event.Event.TheVariants.{Said}
use Rattle.chip_trait.specs.Story.{Story}
use Rattle.chip_trait.specs.Moment.{AtEachMoment}
use Rattle.chip_trait.specs.Told.{History, adds_all}
use Rattle.chip_trait.proofs.MomentLemmas.{at_start, at_next, at_both}
use Rattle.store_trait.specs.Onward.{sayings}
use Rattle.store_trait.specs.Keeping.{Keeping, UsesNothingMarked}

-- some events more, and then others
pub twice : (later earlier : Story) (h : History) → adds_all later (adds_all earlier h) ≡ adds_all (later ++ earlier) h
twice later earlier h = ap (λ (story : Story). record { start = h.start; story = story }) (sym (append_assoc later earlier h.story))

module _ {S : Type 0} (k : Keeping S) where
  -- nothing was added
  pub unused_none : (store : S) (h : History) (done : Bool) → UsesNothingMarked k store h store done []
  unused_none store h done = record {
    marks = λ unused. at_start (λ e. k.marked (adds_all e h)) (k.unused_marked store h unused);
    counts = λ is unused. unused;
  }

  -- a piece was said
  pub unused_piece : (store : S) (h : History) (piece : List ℕ) (done : Bool)
      → UsesNothingMarked k store h store done (Said piece ∷ [])
  unused_piece store h piece done = record {
    marks = λ unused. at_next (λ e. k.marked (adds_all e h)) (Said piece) []
        (at_start (λ e. k.marked (adds_all e h)) (k.unused_marked store h unused))
        (k.unused_marked store (adds_all (Said piece ∷ []) h) (k.unused_said store h piece unused));
    counts = λ is unused. k.unused_said store h piece unused;
  }

  -- one part that was done, and then another
  pub unused_then : (before mid then : S) (h : History) (done : Bool) (later earlier : Story)
      → UsesNothingMarked k before h mid true earlier → UsesNothingMarked k mid (adds_all earlier h) then done later
      → UsesNothingMarked k before h then done (later ++ earlier)
  unused_then before mid then h done later earlier first second = record {
    marks = λ unused. at_both (λ e. k.marked (adds_all e h)) later earlier (first.marks unused)
        (λ more f split. subst k.marked (twice f earlier h) (second.marks (first.counts refl unused) more f split));
    counts = λ is unused. subst (k.unused then) (twice later earlier h) (second.counts is (first.counts refl unused));
  }

  -- a part that isn't done, or of which that isn't said
  pub unused_part : (before then other : S) (h : History) (done : Bool) (added : Story)
      → UsesNothingMarked k before h then done added → UsesNothingMarked k before h other false added
  unused_part before then other h done added did = record {
    marks = did.marks;
    counts = λ is. absurd (false≢true is);
  }

  -- pieces were said, the newest first
  pub unused_sayings : (store : S) (pieces : List (List ℕ)) (h : History) (done : Bool)
      → UsesNothingMarked k store h store done (sayings pieces)
  unused_sayings store [] h done = unused_none store h done
  unused_sayings store (piece ∷ pieces) h done =
      unused_then store store store h done (Said piece ∷ []) (sayings pieces) (unused_sayings store pieces h true)
      (unused_piece store (adds_all (sayings pieces) h) piece done)
