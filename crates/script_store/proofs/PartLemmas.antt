-- What work leaves, one part after another, where a power cut leaves the same at each moment.
use Rattle.std.proofs.Common.{◌≡◌, Bool, true, false, [], ◌∷◌, ◌++◌, ℕ, List, refl, sym, ◌∙◌, ap, subst, append_assoc}
use Rattle.std.specs.Option.{option_map}
use Rattle.std.proofs.lemmas.Bool.{false≢true}
use Rattle.chip_trait.specs.declared.event.Event.{Event}
use Rattle.chip_trait.specs.Image.{IsNoChanceImage}
use Rattle.chip_trait.specs.Moment.{Leaves}
use Rattle.chip_trait.specs.Story.{Story, Contents, pieces}
use Rattle.chip_trait.specs.Told.{History, Told, adds_all}
use Rattle.chip_trait.proofs.HistoryLemmas.{history_then}
use Rattle.chip_trait.proofs.LawfulLemmas.{lawful_then, clean_then}
use Rattle.chip_trait.proofs.MomentLemmas.{at_both}
use Rattle.chip_trait.proofs.SaidLemmas.{pieces-append}
use Rattle.store_trait.specs.Keeping.{Keeping, AllOf, WorkLeaves}
use Rattle.store_trait.proofs.UnusedLemmas.{unused_then, unused_part}

pub all_then : (P : Event → Type 0) (later earlier : Story) → AllOf P later → AllOf P earlier → AllOf P (later ++ earlier)
all_then P [] earlier more all = all
all_then P (e ∷ later) earlier more all = (more.0, all_then P later earlier more.1 all)

-- some events more, and then others
pub added_then : (later earlier : Story) (h : History)
    → adds_all later (adds_all earlier h) ≡ adds_all (later ++ earlier) h
added_then later earlier h =
    ap (λ (story : Story). record { start = h.start; story = story }) (sym (append_assoc later earlier h.story))

module _ {S : Type 0} (k : Keeping S) where
  -- one part that was done, and then another
  abbrev pub leaves_then : (P : Contents → Type 0) (before mid then : S) (h : History) (old between new : Told) (done : Bool)
      → (first : WorkLeaves k P before h mid old between true)
      → WorkLeaves k P mid (adds_all first.added h) then between new done
      → WorkLeaves k P before h then old new done
  leaves_then P before mid then h old between new done first second = record {
    added = second.added ++ first.added;
    history = second.history ∙ ap (option_map (adds_all second.added)) first.history
        ∙ history_then second.added first.added old.history;
    each_moment = at_both (Leaves k.checks P h) second.added first.added first.each_moment
        (λ later e split x image. second.each_moment later e split x
        (subst (λ (story : Story). IsNoChanceImage k.checks h.start story x) (append_assoc e first.added h.story) image));
    silent = pieces-append second.added first.added
        ∙ ap (λ (l : List (List ℕ)). l ++ pieces second.added) first.silent ∙ second.silent;
    only = all_then k.does second.added first.added second.only first.only;
    lawful = lawful_then (k.clean before) (k.clean mid) second.added first.added first.lawful (first.clean refl)
        second.lawful;
    clean = λ is. clean_then (k.clean before) (k.clean mid) (k.clean then) second.added first.added first.lawful
        (first.clean refl) (second.clean is);
    unused = unused_then k before mid then h done second.added first.added first.unused second.unused;
  }

  -- the same, said less of
  abbrev pub leaves_weaker : (P Q : Contents → Type 0) (before then : S) (h : History) (old new : Told) (done : Bool)
      → ((x : Contents) → P x → Q x) → WorkLeaves k P before h then old new done
      → WorkLeaves k Q before h then old new done
  leaves_weaker P Q before then h old new done weaker did = record {
    added = did.added;
    history = did.history;
    each_moment = λ later e split x image. weaker x (did.each_moment later e split x image);
    silent = did.silent;
    only = did.only;
    lawful = did.lawful;
    clean = did.clean;
    unused = did.unused;
  }

  -- of a part that isn't done nothing is said of the store then
  abbrev pub leaves_failed : (P : Contents → Type 0) (before mid then : S) (h : History) (old new : Told)
      → WorkLeaves k P before h mid old new false → WorkLeaves k P before h then old new false
  leaves_failed P before mid then h old new did = record {
    added = did.added;
    history = did.history;
    each_moment = did.each_moment;
    silent = did.silent;
    only = did.only;
    lawful = did.lawful;
    clean = λ is. absurd (false≢true is);
    unused = unused_part k before mid then h false did.added did.unused;
  }
