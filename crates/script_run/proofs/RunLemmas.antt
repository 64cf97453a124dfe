-- What a run leaves, in one part after another.
use Rattle.std.proofs.Common.{◌≡◌, ◌⊎◌, inl, inr, ⊎_elim, ◌||◌, ℕ, Bool, true, false, List, [], ◌∷◌, ◌++◌, Result, Ok, Err, is_ok, refl, sym, ◌∙◌, ap, subst, append_assoc}
use Rattle.std.specs.Option.{option_map}
use Rattle.std.proofs.lemmas.Bool.{false≢true, or_parts}
use Rattle.std.proofs.lemmas.List.{append-nil}
use Rattle.ipl_model.specs.State.{Map, State, Limits}
use Rattle.ipl_model.specs.declared.command.Command.{Command}
use Rattle.ipl_model.specs.Step.{step}
use Rattle.ipl_model.specs.Run.{reply_lines, lines, text, after_all, IsNear}
use Rattle.ipl_model.proofs.RunLemmas.{found_after, found_longer, found_said, found_silent, lines-append}
use Rattle.chip_trait.specs.declared.event.Event.{Event}
use Rattle.chip_trait.specs.declared.event.Event.TheVariants.{Read, Program, Erase, Worn, Barrier, Said}
use Rattle.chip_trait.specs.Story.{Story, Contents, pieces, joined_pieces, said}
use Rattle.chip_trait.specs.Image.{IsNoChanceImage}
use Rattle.chip_trait.specs.Moment.{Leaves}
use Rattle.chip_trait.specs.Told.{History, Told, IsPrefix, IsBeside, Appends, FailsToSay, adds, adds_all}
use Rattle.chip_trait.proofs.HistoryLemmas.{same_history, same_contents, history_then}
use Rattle.chip_trait.proofs.LawfulLemmas.{lawful_none, clean_none, lawful_then, clean_then}
use Rattle.chip_trait.proofs.MomentLemmas.{at_start, at_next, at_both}
use Rattle.chip_trait.proofs.SaidLemmas.{joined-append, pieces-append, said-append, silent-part}
use Rattle.store_trait.proofs.UnusedLemmas.{unused_none, unused_piece, unused_then}
use Rattle.store_trait.specs.Keeping.{Keeping, AllOf, WorkLeaves, StillRecalls, is_restart, restarts}
use Rattle.store_trait.specs.Onward.{Still}
use Rattle.store_trait.proofs.OnwardLemmas.{still_beside}
use Rattle.script_run.specs.declared.fault.Stop.{Stop}
use Rattle.script_run.specs.declared.fault.Stop.TheVariants.{Store}
use Rattle.store_trait.specs.declared.fault.Fault.{Fault}
use Rattle.script_run.specs.Run.{IsCut, SaysLines, IsSaidOr, StandsNear, EndsAt, RunLeaves, SayingLeaves}
use Rattle.script_run.proofs.EndLemmas.{between_none, ends_behind, ends_longer, ends_weaker}

-- ---- lines

pub says_none : (all : List (List ℕ)) → SaysLines all []
says_none all = record { whole = []; rest = all; cut = []; lines_are = refl; said_is = refl; is_cut = tt }

pub says_all : (all : List (List ℕ)) → SaysLines all all
says_all all = record { whole = all; rest = []; cut = []; lines_are = sym (append-nil all); said_is = sym (append-nil all); is_cut = tt }

-- a line cut short
pub says_cut : (line : List ℕ) (more : List (List ℕ)) (cut : List (List ℕ)) → IsCut cut (line ∷ more) → SaysLines (line ∷ more) cut
says_cut line more cut is = record { whole = []; rest = line ∷ more; cut = cut; lines_are = refl; said_is = refl; is_cut = is }

cut_longer : (cut rest more : List (List ℕ)) → IsCut cut rest → IsCut cut (rest ++ more)
cut_longer [] rest more is = tt
cut_longer (piece ∷ []) [] more is = absurd is
cut_longer (piece ∷ []) (line ∷ rest) more is = is
cut_longer (piece ∷ next ∷ cut) rest more is = is

-- more lines to come
pub says_longer : (all more said : List (List ℕ)) → SaysLines all said → SaysLines (all ++ more) said
says_longer all more said s = record {
  whole = s.whole;
  rest = s.rest ++ more;
  cut = s.cut;
  lines_are = ap (λ (l : List (List ℕ)). l ++ more) s.lines_are ∙ append_assoc s.whole s.rest more;
  said_is = s.said_is;
  is_cut = cut_longer s.cut s.rest more s.is_cut;
}

-- behind whole lines
pub says_behind : (front all said : List (List ℕ)) → SaysLines all said → SaysLines (front ++ all) (front ++ said)
says_behind front all said s = record {
  whole = front ++ s.whole;
  rest = s.rest;
  cut = s.cut;
  lines_are = ap (λ (l : List (List ℕ)). front ++ l) s.lines_are ∙ sym (append_assoc front s.whole s.rest);
  said_is = ap (λ (l : List (List ℕ)). front ++ l) s.said_is ∙ sym (append_assoc front s.whole s.cut);
  is_cut = s.is_cut;
}

cut_prefix : (cut rest : List (List ℕ)) → IsCut cut rest → IsPrefix (joined_pieces cut) (joined_pieces rest)
cut_prefix [] rest is = (joined_pieces rest, refl)
cut_prefix (piece ∷ []) [] is = absurd is
cut_prefix (piece ∷ []) (line ∷ rest) is =
    (is.0 ++ joined_pieces rest, ap (λ (l : List ℕ). l ++ (is.0 ++ joined_pieces rest)) (append-nil piece) ∙ sym (append_assoc piece is.0 (joined_pieces rest)) ∙ ap (λ (l : List ℕ). l ++ joined_pieces rest) is.1)
cut_prefix (piece ∷ next ∷ cut) rest is = absurd is

-- so what was said is a beginning of the lines, joined
pub says_prefix : (all said : List (List ℕ)) → SaysLines all said → IsPrefix (joined_pieces said) (joined_pieces all)
says_prefix all said s =
    let part = cut_prefix s.cut s.rest s.is_cut in (
      part.0,
      ap (λ (l : List (List ℕ)). joined_pieces l ++ part.0) s.said_is ∙ ap (λ (l : List ℕ). l ++ part.0) (joined-append s.whole s.cut) ∙ append_assoc (joined_pieces s.whole) (joined_pieces s.cut) part.0
          ∙ ap (λ (l : List ℕ). joined_pieces s.whole ++ l) part.1 ∙ sym (joined-append s.whole s.rest) ∙ ap joined_pieces (sym s.lines_are),
    )

prefix_of_said : (later e : Story) (t : List ℕ) → IsPrefix (said (later ++ e)) t → IsPrefix (said e) t
prefix_of_said later e t part =
    (said later ++ part.0, sym (append_assoc (said e) (said later) part.0) ∙ ap (λ (l : List ℕ). l ++ part.0) (sym (said-append later e)) ∙ part.1)

-- ---- events

pub all_both : (P : Event → Type 0) (later earlier : Story) → AllOf P later → AllOf P earlier → AllOf P (later ++ earlier)
all_both P [] earlier l e = e
all_both P (f ∷ later) earlier l e = (l.0, all_both P later earlier l.1 e)

pub or_said : (P : Event → Type 0) (e : Event) → P e → IsSaidOr P e
or_said P (Read p s) is = is
or_said P (Program p s bytes) is = is
or_said P (Erase p) is = is
or_said P (Worn p) is = is
or_said P Barrier is = is
or_said P (Said piece) is = tt

pub all_or_said : (P : Event → Type 0) (story : Story) → AllOf P story → AllOf (IsSaidOr P) story
all_or_said P [] all = tt
all_or_said P (e ∷ story) all = (or_said P e all.0, all_or_said P story all.1)

pub twice_added : (later earlier : Story) (h : History) → adds_all later (adds_all earlier h) ≡ adds_all (later ++ earlier) h
twice_added later earlier h = ap (λ (story : Story). record { start = h.start; story = story }) (sym (append_assoc later earlier h.story))

-- what is said changes no image
pub said_image : (checks : List ℕ → Bool) (start : Contents) (piece : List ℕ) (story : Story) (x : Contents) → IsNoChanceImage checks start (Said piece ∷ story) x → IsNoChanceImage checks start story x
said_image checks start piece story x is = record { image = is.image; chance = is.chance }

-- an image of more events, as one of the story behind them
pub regrouped : (checks : List ℕ → Bool) (h : History) (later earlier : Story) (x : Contents) → IsNoChanceImage checks h.start ((later ++ earlier) ++ h.story) x → IsNoChanceImage checks h.start (later ++ (earlier ++ h.story)) x
regrouped checks h later earlier x is = subst (λ (story : Story). IsNoChanceImage checks h.start story x) (append_assoc later earlier h.story) is

-- neither of two parts of commands has a restart
restarts_parts : (cs ds : List Command) → restarts (cs ++ ds) ≡ false → (restarts cs ≡ false) × (restarts ds ≡ false)
restarts_parts [] ds calm = (refl, calm)
restarts_parts (c ∷ cs) ds calm =
    let parts = or_parts (is_restart c) (restarts (cs ++ ds)) calm in
    let rest = restarts_parts cs ds parts.1 in (ap (λ (b : Bool). b || restarts cs) parts.0 ∙ rest.0, rest.1)

-- ---- over stores of one kind

module _ {S : Type 0} (k : Keeping S) where
  -- ---- what is said while the store keeps its state

  abbrev pub saying_none : (limits : Limits) (state : State) (store : S) (h : History) (t : Told) (done : Bool) → k.holds limits store t h state → SayingLeaves k limits state.map [] store h store t t done
  saying_none limits state store h t done holds = record {
    added = [];
    history = same_history t.history;
    each_moment = at_start (Leaves k.checks (λ x. k.stands limits x state.map) h) (k.each limits store t h state holds);
    says = refl;
    only = tt;
    lawful = lawful_none (k.clean store);
    clean = λ e. clean_none (k.clean store);
    unused = unused_none k store h done;
    recalls = λ e entry recalled. recalled;
  }

  -- work that says nothing
  abbrev pub saying_work : (limits : Limits) (m : Map) (before then : S) (h : History) (old new : Told) (done : Bool) → WorkLeaves k (λ x. k.stands limits x m) before h then old new done → (done ≡ true → StillRecalls k before old then new) → SayingLeaves k limits m [] before h then old new done
  saying_work limits m before then h old new done did recalls = record {
    added = did.added;
    history = did.history;
    each_moment = did.each_moment;
    says = did.silent;
    only = all_or_said k.does did.added did.only;
    lawful = did.lawful;
    clean = did.clean;
    unused = did.unused;
    recalls = recalls;
  }

  -- one piece, and the store keeps its state
  one_piece : (limits : Limits) (state : State) (store : S) (h : History) (mid new : Told) (piece : List ℕ) (done : Bool) → Still mid new → k.holds limits store mid h state → new.history ≡ option_map (adds (Said piece)) mid.history
      → k.holds limits store new (adds (Said piece) h) state → (leaves : SayingLeaves k limits state.map (piece ∷ []) store h store mid new done) × k.holds limits store new (adds_all leaves.added h) state
  one_piece limits state store h mid new piece done still holds grown after =
      let P = λ (x : Contents). k.stands limits x state.map in
      let here = k.each limits store mid h state holds in (
        record {
          added = Said piece ∷ [];
          history = grown;
          each_moment = at_next (Leaves k.checks P h) (Said piece) [] (at_start (Leaves k.checks P h) here) (λ x is. here x (said_image k.checks h.start piece h.story x is));
          says = refl;
          only = (tt, tt);
          lawful = record { lawful = λ base lawful clean. lawful };
          clean = λ e. record { clean = λ base lawful clean. clean };
          unused = unused_piece k store h piece done;
          recalls = λ e entry. k.recalled_still entry store mid new still;
        },
        after,
      )

  pub saying_said : (limits : Limits) (state : State) (store : S) (h : History) (mid new : Told) (piece : List ℕ) → k.holds limits store mid h state → Appends (Said piece) mid new
      → (leaves : SayingLeaves k limits state.map (piece ∷ []) store h store mid new true) × k.holds limits store new (adds_all leaves.added h) state
  saying_said limits state store h mid new piece holds did =
      let still : Still mid new = record { places = did.places; settled = did.settled; contents = did.contents ∙ sym (same_contents mid.contents); pieces = piece ∷ []; history = did.history } in
      one_piece limits state store h mid new piece true still holds did.history (k.still limits store mid new h state still holds)

  -- a piece cut short
  pub saying_cut : (limits : Limits) (state : State) (store : S) (h : History) (mid new : Told) (piece : List ℕ) (more : List (List ℕ)) → k.holds limits store mid h state → FailsToSay piece mid new
      → (cut : List (List ℕ)) × IsCut cut (piece ∷ more) × (leaves : SayingLeaves k limits state.map cut store h store mid new false) × k.holds limits store new (adds_all leaves.added h) state
  saying_cut limits state store h mid new piece more holds did = elim did.history [
    | inl some ↦
        let still : Still mid new = record { places = did.places; settled = did.settled; contents = did.contents; pieces = some.0 ∷ []; history = some.2 } in
        let one = one_piece limits state store h mid new some.0 false still holds some.2 (k.still limits store mid new h state still holds) in
        (some.0 ∷ [], some.1, one.0, one.1)
    | inr none ↦
        let here = saying_none limits state store h mid false holds in
        let still : Still mid new = record { places = did.places; settled = did.settled; contents = did.contents; pieces = []; history = none ∙ same_history mid.history } in (
          [],
          tt,
          record { added = []; history = none ∙ same_history mid.history; each_moment = here.each_moment; says = refl; only = tt; lawful = here.lawful; clean = here.clean; unused = here.unused; recalls = λ e. absurd (false≢true e) },
          k.still limits store mid new h state still holds,
        )
  ]

  -- one after another, and R is so of the history then
  pub saying_then : (limits : Limits) (m : Map) (a b : List (List ℕ)) (before mid then : S) (h : History) (R : History → Type 0) (old between new : Told) (done : Bool) → (first : SayingLeaves k limits m a before h mid old between true)
      → (two : SayingLeaves k limits m b mid (adds_all first.added h) then between new done) → R (adds_all two.added (adds_all first.added h)) → (leaves : SayingLeaves k limits m (a ++ b) before h then old new done) × R (adds_all leaves.added h)
  saying_then limits m a b before mid then h R old between new done first two r = (
    record {
      added = two.added ++ first.added;
      history = two.history ∙ ap (option_map (adds_all two.added)) first.history ∙ history_then two.added first.added old.history;
      each_moment = at_both (Leaves k.checks (λ x. k.stands limits x m) h) two.added first.added first.each_moment
          (λ later f split x is. two.each_moment later f split x (regrouped k.checks h f first.added x is));
      says = pieces-append two.added first.added ∙ ap (λ (l : List (List ℕ)). l ++ pieces two.added) first.says ∙ ap (λ (l : List (List ℕ)). a ++ l) two.says;
      only = all_both (IsSaidOr k.does) two.added first.added two.only first.only;
      lawful = lawful_then (k.clean before) (k.clean mid) two.added first.added first.lawful (first.clean refl) two.lawful;
      clean = λ e. clean_then (k.clean before) (k.clean mid) (k.clean then) two.added first.added first.lawful (first.clean refl) (two.clean e);
      unused = unused_then k before mid then h done two.added first.added first.unused two.unused;
      recalls = λ e entry recalled. two.recalls e entry (first.recalls refl entry recalled);
    },
    subst R (twice_added two.added first.added h) r,
  )

  -- ---- commands

  abbrev Moment : Limits → State → List Command → History → Story → Type 0
  Moment limits state cs h e = Leaves k.checks (StandsNear k limits state cs (said e)) h e

  -- before any command
  pub run_none : (limits : Limits) (state : State) (store : S) (h : History) (R : History → State → Type 0) (t : Told) (result : Result (Unit {0}) Stop) → k.holds limits store t h state → R h state → EndsAt result limits state [] [] (R h) → RunLeaves k limits state [] store h R store t t result
  run_none limits state store h R t result holds r ends = record {
    added = [];
    history = same_history t.history;
    each_moment = at_start (Moment limits state [] h) (λ x is. inl (k.each limits store t h state holds x is));
    replies = says_none [];
    all = λ e. refl;
    only = tt;
    lawful = lawful_none (k.clean store);
    clean = λ e. clean_none (k.clean store);
    unused = unused_none k store h (is_ok result);
    recalls = λ e calm entry recalled. recalled;
    rests = inl r;
    ends = ends;
  }

  -- the work of one command, and what is said after it
  pub run_command : (limits : Limits) (state : State) (c : Command) (before mid then : S) (h : History) (R : History → State → Type 0) (old between new : Told) (part : List (List ℕ)) (result : Result (Unit {0}) Stop)
      → (did : WorkLeaves k (λ x. k.stands limits x state.map ⊎ k.stands limits x (step limits state c).0.map) before h mid old between true)
      → (is_restart c ≡ false → StillRecalls k before old mid between)
      → (more : SayingLeaves k limits (step limits state c).0.map part mid (adds_all did.added h) then between new (is_ok result))
      → SaysLines (reply_lines limits state c) part → (is_ok result ≡ true → part ≡ reply_lines limits state c) → R (adds_all more.added (adds_all did.added h)) (step limits state c).0
      → EndsAt result limits state (c ∷ []) part (R (adds_all more.added (adds_all did.added h))) → RunLeaves k limits state (c ∷ []) before h R then old new result
  run_command limits state c before mid then h R old between new part result did recalls more front all r ends = record {
    added = more.added ++ did.added;
    history = more.history ∙ ap (option_map (adds_all more.added)) did.history ∙ history_then more.added did.added old.history;
    each_moment = at_both (Moment limits state (c ∷ []) h) more.added did.added
        (λ later e split x is. found_silent limits state c (said e) (λ s. k.stands limits x s.map) (ap joined_pieces (silent-part later e (ap pieces split ∙ did.silent))) (did.each_moment later e split x is))
        (λ later f split x is. found_said limits state c (said (f ++ did.added)) (λ s. k.stands limits x s.map) (more.each_moment later f split x (regrouped k.checks h f did.added x is)));
    replies = subst (SaysLines (reply_lines limits state c ++ [])) (sym all_said) (says_longer (reply_lines limits state c) [] part front);
    all = λ e. all_said ∙ all e ∙ sym (append-nil (reply_lines limits state c));
    only = all_both (IsSaidOr k.does) more.added did.added more.only (all_or_said k.does did.added did.only);
    lawful = lawful_then (k.clean before) (k.clean mid) more.added did.added did.lawful (did.clean refl) more.lawful;
    clean = λ e. clean_then (k.clean before) (k.clean mid) (k.clean then) more.added did.added did.lawful (did.clean refl) (more.clean e);
    unused = unused_then k before mid then h (is_ok result) more.added did.added did.unused more.unused;
    recalls = λ e calm entry recalled. more.recalls e entry (recalls (or_parts (is_restart c) false calm).0 entry recalled);
    rests = found_said limits state c (said (more.added ++ did.added)) (R (adds_all (more.added ++ did.added) h)) (subst (λ (g : History). R g (step limits state c).0) (twice_added more.added did.added h) r);
    ends = subst (λ (l : List (List ℕ)). EndsAt result limits state (c ∷ []) l (R (adds_all (more.added ++ did.added) h))) (sym all_said)
        (subst (λ (g : History). EndsAt result limits state (c ∷ []) part (R g)) (twice_added more.added did.added h) ends);
  }
    where
      all_said : pieces (more.added ++ did.added) ≡ part
      all_said = pieces-append more.added did.added ∙ ap (λ (l : List (List ℕ)). l ++ pieces more.added) did.silent ∙ more.says

  -- the work failed, and nothing was said
  pub run_failed : (limits : Limits) (state : State) (c : Command) (before then : S) (h : History) (R : History → State → Type 0) (old new : Told) (fault : Fault)
      → (did : WorkLeaves k (λ x. k.stands limits x state.map ⊎ k.stands limits x (step limits state c).0.map) before h then old new false) → R (adds_all did.added h) state → RunLeaves k limits state (c ∷ []) before h R then old new (Err (Store fault))
  run_failed limits state c before then h R old new fault did r = record {
    added = did.added;
    history = did.history;
    each_moment = λ later e split x is. found_silent limits state c (said e) (λ s. k.stands limits x s.map) (ap joined_pieces (silent-part later e (ap pieces split ∙ did.silent))) (did.each_moment later e split x is);
    replies = subst (SaysLines (lines limits state (c ∷ []))) (sym did.silent) (says_none (lines limits state (c ∷ [])));
    all = λ e. cc;
    only = all_or_said k.does did.added did.only;
    lawful = did.lawful;
    clean = λ e. cc;
    unused = did.unused;
    recalls = λ e. absurd (false≢true e);
    rests = found_silent limits state c (said did.added) (R (adds_all did.added h)) (ap joined_pieces did.silent) (inl r);
    ends = subst (λ (l : List (List ℕ)). EndsAt (Err (Store fault)) limits state (c ∷ []) l (R (adds_all did.added h))) (sym did.silent) (between_none limits state (c ∷ []) (R (adds_all did.added h)) r);
  }

  -- what was said of the commands by an earlier moment
  said_so_far : (limits : Limits) (state : State) (cs : List Command) (before then : S) (h : History) (R : History → State → Type 0) (old new : Told) (result : Result (Unit {0}) Stop) (r : RunLeaves k limits state cs before h R then old new result)
      (later e : Story) → later ++ e ≡ r.added → IsPrefix (said e) (text limits state cs)
  said_so_far limits state cs before then h R old new result r later e split =
      prefix_of_said later e (text limits state cs) (subst (λ (l : Story). IsPrefix (said l) (text limits state cs)) (sym split) (says_prefix (lines limits state cs) (pieces r.added) r.replies))

  -- then more commands
  pub run_more : (limits : Limits) (state : State) (cs ds : List Command) (before mid then : S) (h : History) (Q R : History → State → Type 0) (old between new : Told) (result : Result (Unit {0}) Stop)
      → (first : RunLeaves k limits state cs before h Q mid old between (Ok tt)) → RunLeaves k limits (after_all limits state cs) ds mid (adds_all first.added h) R then between new result
      → RunLeaves k limits state (cs ++ ds) before h R then old new result
  run_more limits state cs ds before mid then h Q R old between new result first two = record {
    added = two.added ++ first.added;
    history = two.history ∙ ap (option_map (adds_all two.added)) first.history ∙ history_then two.added first.added old.history;
    each_moment = at_both (Moment limits state (cs ++ ds) h) two.added first.added
        (λ later e split x is. found_longer limits state cs ds (said e) (λ s. k.stands limits x s.map) (said_so_far limits state cs before mid h Q old between (Ok tt) first later e split) (first.each_moment later e split x is))
        (λ later f split x is. subst (λ (bytes : List ℕ). StandsNear k limits state (cs ++ ds) bytes x) (sym (both_said f))
        (found_after limits state cs ds (said f) (λ s. k.stands limits x s.map) (two.each_moment later f split x (regrouped k.checks h f first.added x is))));
    replies = subst (λ (l : List (List ℕ)). SaysLines l (pieces (two.added ++ first.added))) (sym (lines-append limits state cs ds))
        (subst (SaysLines (lines limits state cs ++ lines limits (after_all limits state cs) ds)) (sym both_pieces) (says_behind (lines limits state cs) (lines limits (after_all limits state cs) ds) (pieces two.added) two.replies));
    all = λ e. both_pieces ∙ ap (λ (l : List (List ℕ)). lines limits state cs ++ l) (two.all e) ∙ sym (lines-append limits state cs ds);
    only = all_both (IsSaidOr k.does) two.added first.added two.only first.only;
    lawful = lawful_then (k.clean before) (k.clean mid) two.added first.added first.lawful (first.clean refl) two.lawful;
    clean = λ e. clean_then (k.clean before) (k.clean mid) (k.clean then) two.added first.added first.lawful (first.clean refl) (two.clean e);
    unused = unused_then k before mid then h (is_ok result) two.added first.added first.unused two.unused;
    recalls = λ e calm entry recalled.
        let parts = restarts_parts cs ds calm in two.recalls e parts.1 entry (first.recalls refl parts.0 entry recalled);
    rests = subst (λ (bytes : List ℕ). IsNear (R (adds_all (two.added ++ first.added) h)) limits state (cs ++ ds) bytes) (sym (both_said two.added))
        (found_after limits state cs ds (said two.added) (R (adds_all (two.added ++ first.added) h))
        (subst (λ (g : History). IsNear (R g) limits (after_all limits state cs) ds (said two.added)) (twice_added two.added first.added h) two.rests));
    ends = subst (λ (l : List (List ℕ)). EndsAt result limits state (cs ++ ds) l (R (adds_all (two.added ++ first.added) h))) (sym both_pieces)
        (ends_behind limits state result cs ds (pieces two.added) (R (adds_all (two.added ++ first.added) h))
        (subst (λ (g : History). EndsAt result limits (after_all limits state cs) ds (pieces two.added) (R g)) (twice_added two.added first.added h) two.ends));
  }
    where
      both_pieces : pieces (two.added ++ first.added) ≡ lines limits state cs ++ pieces two.added
      both_pieces = pieces-append two.added first.added ∙ ap (λ (l : List (List ℕ)). l ++ pieces two.added) (first.all refl)

      both_said : (f : Story) → said (f ++ first.added) ≡ text limits state cs ++ said f
      both_said f = said-append f first.added ∙ ap (λ (l : List (List ℕ)). joined_pieces l ++ said f) (first.all refl)

  -- and where the run ends, the commands that were not begun
  pub run_longer : (limits : Limits) (state : State) (cs ds : List Command) (before then : S) (h : History) (R : History → State → Type 0) (old new : Told) (s : Stop)
      → RunLeaves k limits state cs before h R then old new (Err s) → RunLeaves k limits state (cs ++ ds) before h R then old new (Err s)
  run_longer limits state cs ds before then h R old new s first = record {
    added = first.added;
    history = first.history;
    each_moment = λ later e split x is. found_longer limits state cs ds (said e) (λ s. k.stands limits x s.map) (said_so_far limits state cs before then h R old new (Err s) first later e split) (first.each_moment later e split x is);
    replies = subst (λ (l : List (List ℕ)). SaysLines l (pieces first.added)) (sym (lines-append limits state cs ds)) (says_longer (lines limits state cs) (lines limits (after_all limits state cs) ds) (pieces first.added) first.replies);
    all = λ e. cc;
    only = first.only;
    lawful = first.lawful;
    clean = λ e. cc;
    unused = first.unused;
    recalls = λ e. absurd (false≢true e);
    rests = found_longer limits state cs ds (said first.added) (R (adds_all first.added h)) (says_prefix (lines limits state cs) (pieces first.added) first.replies) first.rests;
    ends = ends_longer limits state s cs ds (pieces first.added) (R (adds_all first.added h)) first.ends;
  }

  -- less said of how the state is kept at the end
  pub run_weaker : (limits : Limits) (state : State) (cs : List Command) (before then : S) (h : History) (Q R : History → State → Type 0) (old new : Told) (result : Result (Unit {0}) Stop) → ((g : History) (s : State) → Q g s → R g s)
      → RunLeaves k limits state cs before h Q then old new result → RunLeaves k limits state cs before h R then old new result
  run_weaker limits state cs before then h Q R old new result f r = record {
    added = r.added;
    history = r.history;
    each_moment = r.each_moment;
    replies = r.replies;
    all = r.all;
    only = r.only;
    lawful = r.lawful;
    clean = r.clean;
    unused = r.unused;
    recalls = r.recalls;
    rests = ⊎_elim (λ q. inl (f _ _ q)) (λ q. inr (f _ _ q)) r.rests;
    ends = ends_weaker limits state result cs (pieces r.added) (Q (adds_all r.added h)) (R (adds_all r.added h)) (f (adds_all r.added h)) r.ends;
  }

  -- behind a read of the script
  pub run_later : (limits : Limits) (state : State) (cs : List Command) (before then : S) (h : History) (R : History → State → Type 0) (old mid new : Told) (result : Result (Unit {0}) Stop) → IsBeside old mid
      → RunLeaves k limits state cs before h R then mid new result → RunLeaves k limits state cs before h R then old new result
  run_later limits state cs before then h R old mid new result chip r = record {
    added = r.added;
    history = r.history ∙ ap (option_map (adds_all r.added)) chip.history;
    each_moment = r.each_moment;
    replies = r.replies;
    all = r.all;
    only = r.only;
    lawful = r.lawful;
    clean = r.clean;
    unused = r.unused;
    recalls = λ e calm entry recalled. r.recalls e calm entry (k.recalled_still entry before old mid (still_beside old mid chip) recalled);
    rests = r.rests;
    ends = r.ends;
  }
