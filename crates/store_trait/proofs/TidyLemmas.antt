-- What is added between stores, one part after another.
use Rattle.std.proofs.Common.{◌≡◌, Bool, true, false, [], ◌∷◌, ◌++◌, ℕ, List, refl, ◌∙◌, ap}
use Rattle.std.specs.Option.{option_map}
use Rattle.std.proofs.lemmas.Bool.{false≢true}
use Rattle.chip_trait.specs.Story.{Story}
use Rattle.chip_trait.specs.Lawful.{IsLawful, AreClean}
use Rattle.chip_trait.specs.Told.{Told, adds_all}
use Rattle.chip_trait.proofs.HistoryLemmas.{same_history, history_then}
use Rattle.chip_trait.proofs.LawfulLemmas.{lawful_none, lawful_then, clean_none, clean_then}
use Rattle.store_trait.specs.Onward.{Still, sayings}
use Rattle.store_trait.specs.Keeping.{Keeping, LeavesTidy}

-- pieces change neither what is lawful nor what is clean
pub lawful_sayings : (pieces : List (List ℕ)) (base : Story) → IsLawful base → IsLawful (sayings pieces ++ base)
lawful_sayings [] base lawful = lawful
lawful_sayings (piece ∷ pieces) base lawful = lawful_sayings pieces base lawful

pub clean_sayings : (sectors : ℕ → ℕ → Type 0) (pieces : List (List ℕ)) (base : Story) → AreClean sectors base
    → AreClean sectors (sayings pieces ++ base)
clean_sayings sectors [] base clean = clean
clean_sayings sectors (piece ∷ pieces) base clean = clean_sayings sectors pieces base clean

module _ {S : Type 0} (k : Keeping S) where
  -- nothing was added
  pub tidy_same : (store : S) (old new : Told) (done : Bool) → new.history ≡ old.history
      → LeavesTidy k store store old new done
  tidy_same store old new done same = record {
    added = [];
    history = same ∙ same_history old.history;
    lawful = lawful_none (k.clean store);
    clean = λ _. clean_none (k.clean store);
  }

  -- one part that was done, and then another
  pub tidy_then : (before between then : S) (old mid new : Told) (done : Bool)
      → LeavesTidy k before between old mid true → LeavesTidy k between then mid new done
      → LeavesTidy k before then old new done
  tidy_then before between then old mid new done first second = record {
    added = second.added ++ first.added;
    history = second.history ∙ ap (option_map (adds_all second.added)) first.history
        ∙ history_then second.added first.added old.history;
    lawful = lawful_then (k.clean before) (k.clean between) second.added first.added first.lawful
        (first.clean refl) second.lawful;
    clean = λ is. clean_then (k.clean before) (k.clean between) (k.clean then) second.added first.added
        first.lawful (first.clean refl) (second.clean is);
  }

  -- a part that isn't done
  pub tidy_part : (before then : S) (old new : Told) (done : Bool) → LeavesTidy k before then old new done
      → LeavesTidy k before then old new false
  tidy_part before then old new done did = record {
    added = did.added;
    history = did.history;
    lawful = did.lawful;
    clean = λ is. absurd (false≢true is);
  }

  -- nothing happened to the chip, whatever was said
  pub tidy_still : (store : S) (old new : Told) (done : Bool) → Still old new
      → LeavesTidy k store store old new done
  tidy_still store old new done still = record {
    added = sayings still.pieces;
    history = still.history;
    lawful = record { lawful = λ base lawful clean. lawful_sayings still.pieces base lawful };
    clean = λ _. record { clean = λ base lawful clean. clean_sayings (k.clean store) still.pieces base clean };
  }
