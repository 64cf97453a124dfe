-- Pieces that are said, and nothing else.
use Rattle.std.specs.Prelude.{IfErr, OnErr}
use Rattle.std.proofs.Common.{◌≡◌, ◌⊎◌, inl, inr, ℕ, ◌+◌, ◌<◌, ◌≤◌, Result, Ok, Err, Bool, List, [], ◌∷◌, ◌++◌, take, drop, length, get_or, reverse, refl, sym, ◌∙◌, ap, subst}
use Rattle.std.specs.Option.{option_map}
use Rattle.std.proofs.lemmas.List.{append-nil, reverse-append, reverse-reverse, take-append-drop, drop_more, take_more}
use Rattle.ipl_model.specs.State.{State, Limits}
use Rattle.chip_trait.specs.declared.event.Event.{Event}
use Rattle.chip_trait.specs.declared.event.Event.TheVariants.{Said}
use Rattle.chip_trait.specs.Story.{Contents, pieces}
use Rattle.chip_trait.specs.Moment.{AtEachMoment, Leaves}
use Rattle.chip_trait.specs.Told.{History, Told, IsPrefix, Appends, FailsToSay, Rose, adds, adds_all}
use Rattle.chip_trait.proofs.HistoryLemmas.{same_history, history_then}
use Rattle.chip_trait.proofs.MomentLemmas.{at_start, at_next, at_end}
use Rattle.store_trait.proofs.UnusedLemmas.{unused_sayings}
use Rattle.store_trait.specs.Onward.{Onward, Still, sayings}
use Rattle.store_trait.specs.Keeping.{Keeping, AllOf}
use Rattle.store_trait.proofs.OnwardLemmas.{still_said}
use Rattle.store_trait.proofs.TidyLemmas.{lawful_sayings, clean_sayings}
use Rattle.script_run.specs.declared.fault.Stop.{Stop}
use Rattle.script_run.specs.declared.fault.Stop.TheVariants as stop
use Rattle.script_run.specs.Goes.{Along}
use Rattle.script_run.specs.Run.{IsCut, IsUnsaid, IsSaidOr, SayingLeaves}
use Rattle.script_run.proofs.AlongLemmas.{along_said, along_unsaid}
use Rattle.script_run.proofs.RunLemmas.{said_image}
use Rattle.script_run.specs.Trial.{HasSaid, SaysAll}

-- ---- one piece after another

pub said_none : (t : Told) → HasSaid [] t t
said_none t = record { places = refl; settled = refl; contents = refl; history = same_history t.history }

module _ (said : List (List ℕ)) (old mid new : Told) (piece : List ℕ) (before : HasSaid said old mid) where
  more : (part : List ℕ) → new.history ≡ option_map (adds (Said part)) mid.history
      → new.history ≡ option_map (adds_all (sayings (reverse (said ++ part ∷ [])))) old.history
  more part is =
      is ∙ ap (option_map (adds (Said part))) before.history
      ∙ history_then (Said part ∷ []) (sayings (reverse said)) old.history
      ∙ ap (λ (l : List (List ℕ)). option_map (adds_all (sayings l)) old.history) (sym (reverse-append said (part ∷ [])))

  pub said_more : Appends (Said piece) mid new → HasSaid (said ++ piece ∷ []) old new
  said_more did = record {
    places = did.places ∙ before.places;
    settled = did.settled ∙ before.settled;
    contents = (still_said mid new piece did).contents ∙ before.contents;
    history = more piece did.history;
  }

  -- or it couldn't be said
  pub said_cut : (rest : List (List ℕ)) → FailsToSay piece mid new
      → (all : List (List ℕ)) × IsUnsaid (said ++ piece ∷ rest) all × HasSaid all old new
  said_cut rest did = go did.history
    where
      made : (cut : List (List ℕ)) → IsCut cut (piece ∷ rest)
          → new.history ≡ option_map (adds_all (sayings (reverse (said ++ cut)))) old.history
          → (all : List (List ℕ)) × IsUnsaid (said ++ piece ∷ rest) all × HasSaid all old new
      made cut is history = (
        said ++ cut,
        record { whole = said; line = piece; rest = rest; cut = cut; lines_are = refl; said_is = refl; is_cut = is },
        record {
          places = did.places ∙ before.places;
          settled = did.settled ∙ before.settled;
          contents = did.contents ∙ before.contents;
          history = history;
        },
      )

      go : ((part : List ℕ) × IsPrefix part piece × (new.history ≡ option_map (adds (Said part)) mid.history))
          ⊎ (new.history ≡ mid.history)
          → (all : List (List ℕ)) × IsUnsaid (said ++ piece ∷ rest) all × HasSaid all old new
      go (inl p) = made (p.0 ∷ []) p.1 (more p.0 p.2)
      go (inr none) = made [] tt (
          none ∙ before.history
          ∙ ap (λ (l : List (List ℕ)). option_map (adds_all (sayings (reverse l))) old.history) (sym (append-nil said)))

-- ---- lines

module _ (lines : List (List ℕ)) (i : ℕ) (line : List ℕ) (within : i < length lines)
    (is : line ≡ get_or lines i line) where
  one_more : take (i + 1) lines ≡ take i lines ++ line ∷ []
  one_more =
      take_more lines i line within ∙ ap (λ (l : List ℕ). take i lines ++ l ∷ []) (sym is)

  with_rest : lines ≡ take i lines ++ line ∷ drop (i + 1) lines
  with_rest =
      sym (take-append-drop i lines)
      ∙ ap (λ (l : List (List ℕ)). take i lines ++ l) (drop_more lines i line within)
      ∙ ap (λ (l : List ℕ). take i lines ++ l ∷ drop (i + 1) lines) (sym is)

  pub said_line : (old mid new : Told) → HasSaid (take i lines) old mid → Appends (Said line) mid new
      → HasSaid (take (i + 1) lines) old new
  said_line old mid new before did =
      subst (λ (l : List (List ℕ)). HasSaid l old new) (sym one_more)
      (said_more (take i lines) old mid new line before did)

  pub stops_at : (old mid new : Told) → HasSaid (take i lines) old mid → FailsToSay line mid new
      → (all : List (List ℕ)) × IsUnsaid lines all × HasSaid all old new
  stops_at old mid new before did =
      subst (λ (l : List (List ℕ)). (all : List (List ℕ)) × IsUnsaid l all × HasSaid all old new) (sym with_rest)
      (said_cut (take i lines) old mid new line before (drop (i + 1) lines) did)

-- ---- what they leave of a store that keeps a state

each_saying : (checks : List ℕ → Bool) (P : Contents → Type 0) (h : History) (said : List (List ℕ))
    → Leaves checks P h [] → AtEachMoment (Leaves checks P h) (sayings said)
each_saying checks P h [] here = at_start (Leaves checks P h) here
each_saying checks P h (piece ∷ said) here =
    let before = each_saying checks P h said here in
    at_next (Leaves checks P h) (Said piece) (sayings said) before
    (λ x is. at_end (Leaves checks P h) (sayings said) before x
    (said_image checks h.start piece (sayings said ++ h.story) x is))

pieces-sayings : (said : List (List ℕ)) → pieces (sayings said) ≡ reverse said
pieces-sayings [] = refl
pieces-sayings (piece ∷ said) =
    ap (λ (l : List (List ℕ)). l ++ piece ∷ []) (pieces-sayings said) ∙ sym (reverse-append (piece ∷ []) said)

only_sayings : (P : Event → Type 0) (said : List (List ℕ)) → AllOf (IsSaidOr P) (sayings said)
only_sayings P [] = tt
only_sayings P (piece ∷ said) = (tt, only_sayings P said)

-- nothing happened to the chip
abbrev still_of : (said : List (List ℕ)) (old new : Told) → HasSaid said old new → Still old new
still_of said old new has = record {
  places = has.places;
  settled = has.settled;
  contents = has.contents;
  pieces = reverse said;
  history = has.history;
}

module _ {S : Type 0} (k : Keeping S) (limits : Limits) (state : State) (store : S) (h : History) (old new : Told)
    (said : List (List ℕ)) (holds : k.holds limits store old h state)
    (has : HasSaid said old new) where
  -- the store keeps the state
  pub kept_still : k.holds limits store new (adds_all (sayings (reverse said)) h) state
  kept_still = k.still limits store old new h state (still_of said old new has) holds

  -- so the lines are said
  pub saying_each : (done : Bool) → (leaves : SayingLeaves k limits state.map said store h store old new done)
      × k.holds limits store new (adds_all leaves.added h) state
  saying_each done =
      let leaves : SayingLeaves k limits state.map said store h store old new done = record {
        added = sayings (reverse said);
        history = has.history;
        each_moment = each_saying k.checks (λ x. k.stands limits x state.map) h (reverse said)
            (k.each limits store old h state holds);
        says = pieces-sayings (reverse said) ∙ reverse-reverse said;
        only = only_sayings k.does (reverse said);
        lawful = record { lawful = λ base lawful clean. lawful_sayings (reverse said) base lawful };
        clean = λ e. record { clean = λ base lawful clean. clean_sayings (k.clean store) (reverse said) base clean };
        unused = unused_sayings k store (reverse said) h done;
        recalls = λ e entry. k.recalled_still entry store old new (still_of said old new has);
      } in (leaves, kept_still)

-- ---- what goes along, whatever the chip tells

-- the lines behind the look-ups, said or not
pub along_lines : {S : Type 0} (k : Keeping S) (n m : ℕ) (before then : S) (lines : List (List ℕ)) (old mid new : Told)
    (result : Result (Unit {0}) Stop) → Along k {T = Unit {0}} Onward n before old (Ok tt) then mid
    → SaysAll lines mid result new → Onward mid new → IfErr result (λ s. s ≡ stop.Output)
    → OnErr result (Rose mid.beside.say_faults new.beside.say_faults) → n ≤ m
    → Along k Onward m before old result then new
along_lines k n m before then lines old mid new (Ok u) first says on stop cause few =
    along_said first on (still_of lines mid new says) few
along_lines k n m before then lines old mid new (Err s) first says on is cause few =
    subst (λ (e : Stop). Along k {T = Unit {0}} Onward m before old (Err e) then new) (sym is)
    (along_unsaid first on cause (still_of says.0 mid new says.2) few)
