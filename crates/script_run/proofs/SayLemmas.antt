-- The lines of positions, as they are said.
use Rattle.std.proofs.Common.{◌≡◌, ◌⊎◌, inl, inr, ℕ, ◌+◌, ◌≤◌, ◌<◌, Bool, true, false, List, [], ◌∷◌, ◌++◌, map, take, drop, length, get_or, reverse, refl, sym, ◌∙◌, ap, subst}
use Rattle.std.specs.Option.{option_map}
use Rattle.std.proofs.lemmas.List.{append-nil, map-append, reverse-append, take-append-drop, drop_more, take_more, take_all}
use Rattle.chip_trait.specs.declared.event.Event.TheVariants.{Said}
use Rattle.chip_trait.specs.Story.{Story}
use Rattle.chip_trait.specs.Told.{Told, IsPrefix, Appends, FailsToSay, SayCounts, adds, adds_all}
use Rattle.chip_trait.proofs.HistoryLemmas.{same_history, history_then}
use Rattle.store_trait.specs.Onward.{Further, sayings}
use Rattle.store_trait.proofs.OnwardLemmas.{further_none, further_then, further_onward, onward_said, still_said}
use Rattle.script_run.specs.Run.{IsCut, SaysLines}
use Rattle.script_run.proofs.RunLemmas.{says_none, says_all}
use Rattle.script_run.specs.View.{ReadsScript, SaysOnly, OnlySays}

reverse-sayings : (said : List (List ℕ)) (piece : List ℕ)
    → reverse (sayings (said ++ piece ∷ [])) ≡ Said piece ∷ reverse (sayings said)
reverse-sayings said piece =
    ap reverse (map-append Said said (piece ∷ [])) ∙ reverse-append (sayings said) (Said piece ∷ [])

-- a piece more in the history
more_said : (old mid new : Told) (said : List (List ℕ)) (piece : List ℕ)
    → mid.history ≡ option_map (adds_all (reverse (sayings said))) old.history
    → new.history ≡ option_map (adds (Said piece)) mid.history
    → new.history ≡ option_map (adds_all (reverse (sayings (said ++ piece ∷ [])))) old.history
more_said old mid new said piece before is =
    is ∙ ap (option_map (adds (Said piece))) before
    ∙ history_then (Said piece ∷ []) (reverse (sayings said)) old.history
    ∙ ap (λ (added : Story). option_map (adds_all added) old.history) (sym (reverse-sayings said piece))

pub says_start : (t : Told) → SaysOnly [] t t true
says_start t = record {
  said = [];
  part = says_all [];
  all = λ e. refl;
  history = same_history t.history;
  settled = refl;
  contents = refl;
  further = further_none t;
}

module _ (lines : List (List ℕ)) (old mid new : Told) (piece : List ℕ) (before : SaysOnly lines old mid true)
    (counts : SayCounts mid new) where
  on : new.places ≡ mid.places → Further old new
  on places = further_then old mid new before.further (further_onward mid new (onward_said mid new places counts))

  says_more : Appends (Said piece) mid new → SaysOnly (lines ++ piece ∷ []) old new true
  says_more did =
      let same = ap (λ (l : List (List ℕ)). l ++ piece ∷ []) (before.all refl) in
      record {
        said = before.said ++ piece ∷ [];
        part = subst (SaysLines (lines ++ piece ∷ [])) (sym same) (says_all (lines ++ piece ∷ []));
        all = λ e. same;
        history = more_said old mid new before.said piece before.history did.history;
        settled = did.settled ∙ before.settled;
        contents = (still_said mid new piece did).contents ∙ before.contents;
        further = on did.places;
      }

  says_cut : (more : List (List ℕ)) → FailsToSay piece mid new → SaysOnly (lines ++ piece ∷ more) old new false
  says_cut more did = go did.history
    where
      made : (cut : List (List ℕ)) → IsCut cut (piece ∷ more)
          → new.history ≡ option_map (adds_all (reverse (sayings (before.said ++ cut)))) old.history
          → SaysOnly (lines ++ piece ∷ more) old new false
      made cut is history = record {
        said = before.said ++ cut;
        part = record {
          whole = lines;
          rest = piece ∷ more;
          cut = cut;
          lines_are = refl;
          said_is = ap (λ (l : List (List ℕ)). l ++ cut) (before.all refl);
          is_cut = is;
        };
        all = λ e. absurd (cc);
        history = history;
        settled = did.settled ∙ before.settled;
        contents = did.contents ∙ before.contents;
        further = on did.places;
      }

      go : ((part : List ℕ) × IsPrefix part piece × (new.history ≡ option_map (adds (Said part)) mid.history))
          ⊎ (new.history ≡ mid.history) → SaysOnly (lines ++ piece ∷ more) old new false
      go (inl p) = made (p.0 ∷ []) p.1 (more_said old mid new before.said p.0 before.history p.2)
      go (inr none) = made [] tt (
          none ∙ before.history
          ∙ ap (λ (l : List (List ℕ)). option_map (adds_all (reverse (sayings l))) old.history)
          (sym (append-nil before.said)))

-- ---- positions

module _ (f : ℕ → List ℕ) (positions : List ℕ) (i : ℕ) (within : i < length positions) where
  one_more : map f (take (i + 1) positions) ≡ map f (take i positions) ++ f (get_or positions i 0) ∷ []
  one_more =
      ap (map f) (take_more positions i 0 within) ∙ map-append f (take i positions) (get_or positions i 0 ∷ [])

  with_rest : map f positions
      ≡ map f (take i positions) ++ f (get_or positions i 0) ∷ map f (drop (i + 1) positions)
  with_rest =
      ap (map f) (
      sym (take-append-drop i positions)
      ∙ ap (λ (l : List ℕ). take i positions ++ l) (drop_more positions i 0 within))
      ∙ map-append f (take i positions) (get_or positions i 0 ∷ drop (i + 1) positions)

  pub says_position : (old mid new : Told) → SaysOnly (map f (take i positions)) old mid true → SayCounts mid new
      → Appends (Said (f (get_or positions i 0))) mid new → SaysOnly (map f (take (i + 1) positions)) old new true
  says_position old mid new before counts did =
      subst (λ (l : List (List ℕ)). SaysOnly l old new true) (sym one_more)
      (says_more (map f (take i positions)) old mid new (f (get_or positions i 0)) before counts did)

  pub stops_at : (old mid new : Told) → SaysOnly (map f (take i positions)) old mid true → SayCounts mid new
      → FailsToSay (f (get_or positions i 0)) mid new → SaysOnly (map f positions) old new false
  stops_at old mid new before counts did =
      subst (λ (l : List (List ℕ)). SaysOnly l old new false) (sym with_rest)
      (says_cut (map f (take i positions)) old mid new (f (get_or positions i 0)) before counts
      (map f (drop (i + 1) positions)) did)

pub says_whole : (f : ℕ → List ℕ) (positions : List ℕ) (i : ℕ) (old new : Told) → length positions ≤ i
    → SaysOnly (map f (take i positions)) old new true → SaysOnly (map f positions) old new true
says_whole f positions i old new past all =
    subst (λ (l : List ℕ). SaysOnly (map f l) old new true) (take_all i positions past) all

-- ---- behind reads of the script

pub says_nothing : (lines : List (List ℕ)) (old new : Told) → ReadsScript old new → SaysOnly lines old new false
says_nothing lines old new reads = record {
  said = [];
  part = says_none lines;
  all = λ e. absurd (cc);
  history = reads.history ∙ same_history old.history;
  settled = reads.settled;
  contents = reads.contents;
  further = reads.further;
}

pub says_behind_reads : (lines : List (List ℕ)) (old mid new : Told) (done : Bool) → ReadsScript old mid
    → SaysOnly lines mid new done → SaysOnly lines old new done
says_behind_reads lines old mid new done reads says = record {
  said = says.said;
  part = says.part;
  all = says.all;
  history = says.history ∙ ap (option_map (adds_all (reverse (sayings says.said)))) reads.history;
  settled = says.settled ∙ reads.settled;
  contents = says.contents ∙ reads.contents;
  further = further_then old mid new reads.further says.further;
}

-- ---- nothing else

reverse-of_sayings : (said : List (List ℕ)) → reverse (sayings said) ≡ sayings (reverse said)
reverse-of_sayings [] = refl
reverse-of_sayings (piece ∷ said) =
    reverse-append (Said piece ∷ []) (sayings said)
    ∙ ap (λ (l : Story). l ++ Said piece ∷ []) (reverse-of_sayings said)
    ∙ sym (map-append Said (reverse said) (piece ∷ []))
    ∙ ap sayings (sym (reverse-append (piece ∷ []) said))

pub only_says : (lines : List (List ℕ)) (old new : Told) (done : Bool) → SaysOnly lines old new done
    → OnlySays old new
only_says lines old new done says = record {
  still = record {
    places = says.further.places;
    settled = says.settled;
    contents = says.contents;
    pieces = reverse says.said;
    history = says.history
        ∙ ap (λ (added : Story). option_map (adds_all added) old.history) (reverse-of_sayings says.said);
  };
  further = says.further;
}
