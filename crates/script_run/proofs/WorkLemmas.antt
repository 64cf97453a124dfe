-- Work that says nothing, in one part after another.
use Rattle.std.proofs.Common.{ℕ, Bool, true, List, [], ◌++◌, refl, ◌∙◌, ap}
use Rattle.std.specs.Option.{option_map}
use Rattle.chip_trait.specs.Story.{Contents, pieces}
use Rattle.chip_trait.specs.Moment.{Leaves}
use Rattle.chip_trait.specs.Told.{History, Told, adds_all}
use Rattle.chip_trait.proofs.HistoryLemmas.{same_history, history_then}
use Rattle.chip_trait.proofs.LawfulLemmas.{lawful_none, clean_none, lawful_then, clean_then}
use Rattle.chip_trait.proofs.MomentLemmas.{at_start, at_both}
use Rattle.chip_trait.proofs.SaidLemmas.{pieces-append}
use Rattle.store_trait.specs.Keeping.{Keeping, WorkLeaves}
use Rattle.store_trait.proofs.UnusedLemmas.{unused_none, unused_then}
use Rattle.script_run.proofs.RunLemmas.{all_both, regrouped}

module _ {S : Type 0} (k : Keeping S) where
  -- none
  abbrev pub work_none : (P : Contents → Type 0) (store : S) (h : History) (t : Told) → Leaves k.checks P h []
      → WorkLeaves k P store h store t t true
  work_none P store h t here = record {
    added = [];
    history = same_history t.history;
    each_moment = at_start (Leaves k.checks P h) here;
    silent = refl;
    only = tt;
    lawful = lawful_none (k.clean store);
    clean = λ e. clean_none (k.clean store);
    unused = unused_none k store h true;
  }

  -- less said of what is left
  abbrev pub work_weaker : (P Q : Contents → Type 0) (before then : S) (h : History) (old new : Told) (done : Bool)
      → ((x : Contents) → P x → Q x) → WorkLeaves k P before h then old new done → WorkLeaves k Q before h then old new done
  work_weaker P Q before then h old new done f w = record {
    added = w.added;
    history = w.history;
    each_moment = λ later e split x is. f x (w.each_moment later e split x is);
    silent = w.silent;
    only = w.only;
    lawful = w.lawful;
    clean = w.clean;
    unused = w.unused;
  }

  -- one part after another
  abbrev pub work_then : (P : Contents → Type 0) (before mid then : S) (h : History) (old between new : Told)
      (done : Bool) (first : WorkLeaves k P before h mid old between true)
      → WorkLeaves k P mid (adds_all first.added h) then between new done → WorkLeaves k P before h then old new done
  work_then P before mid then h old between new done first two = record {
    added = two.added ++ first.added;
    history = two.history ∙ ap (option_map (adds_all two.added)) first.history
        ∙ history_then two.added first.added old.history;
    each_moment = at_both (Leaves k.checks P h) two.added first.added first.each_moment
        (λ later f split x is. two.each_moment later f split x (regrouped k.checks h f first.added x is));
    silent = pieces-append two.added first.added
        ∙ ap (λ (l : List (List ℕ)). l ++ pieces two.added) first.silent ∙ two.silent;
    only = all_both k.does two.added first.added two.only first.only;
    lawful = lawful_then (k.clean before) (k.clean mid) two.added first.added first.lawful (first.clean refl) two.lawful;
    clean = λ e.
        clean_then (k.clean before) (k.clean mid) (k.clean then) two.added first.added first.lawful (first.clean refl)
        (two.clean e);
    unused = unused_then k before mid then h done two.added first.added first.unused two.unused;
  }
