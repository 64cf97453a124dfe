-- How a run ends, in one part after another.
use Rattle.std.proofs.Common.{◌≡◌, ℕ, List, [], ◌∷◌, ◌++◌, Result, Ok, Err, refl, sym, ◌∙◌, ap, subst, append_assoc}
use Rattle.std.specs.Prelude.{false}
use Rattle.ipl_model.specs.State.{State, Limits}
use Rattle.ipl_model.specs.declared.command.Command.{Command}
use Rattle.ipl_model.specs.Step.{step}
use Rattle.ipl_model.specs.Run.{joined_lines, reply_lines, lines, after_all, begins_with}
use Rattle.ipl_model.proofs.RunLemmas.{lines-append, after_all-append, reply_shows}
use Rattle.chip_trait.specs.Told.{IsPrefix}
use Rattle.script_run.specs.declared.fault.Stop.{Stop}
use Rattle.script_run.specs.declared.fault.Stop.TheVariants as stop
use Rattle.script_run.specs.Run.{IsCut, IsUnsaid, IsUnended, IsNextUnended, EndsBetween, EndsUnsaid, EndsAt}
use Rattle.script_run.specs.Goes.{SaysPart}

-- ---- lines

-- a line that couldn't be said, where more lines come, and behind whole lines
cut_before : (cut : List (List ℕ)) (line : List ℕ) (rest more : List (List ℕ)) → IsCut cut (line ∷ rest) → IsCut cut (line ∷ more)
cut_before [] line rest more is = tt
cut_before (piece ∷ []) line rest more is = is
cut_before (piece ∷ next ∷ cut) line rest more is = is

pub unsaid_longer : (all more said : List (List ℕ)) → IsUnsaid all said → IsUnsaid (all ++ more) said
unsaid_longer all more said u = record {
  whole = u.whole;
  line = u.line;
  rest = u.rest ++ more;
  cut = u.cut;
  lines_are = ap (λ (l : List (List ℕ)). l ++ more) u.lines_are ∙ append_assoc u.whole (u.line ∷ u.rest) more;
  said_is = u.said_is;
  is_cut = cut_before u.cut u.line u.rest (u.rest ++ more) u.is_cut;
}

pub unsaid_behind : (front all said : List (List ℕ)) → IsUnsaid all said → IsUnsaid (front ++ all) (front ++ said)
unsaid_behind front all said u = record {
  whole = front ++ u.whole;
  line = u.line;
  rest = u.rest;
  cut = u.cut;
  lines_are = ap (λ (l : List (List ℕ)). front ++ l) u.lines_are ∙ sym (append_assoc front u.whole (u.line ∷ u.rest));
  said_is = ap (λ (l : List (List ℕ)). front ++ l) u.said_is ∙ sym (append_assoc front u.whole u.cut);
  is_cut = u.is_cut;
}

-- one line, cut short
pub unsaid_line : (line : List ℕ) (more cut : List (List ℕ)) → IsCut cut (line ∷ more) → IsUnsaid (line ∷ more) cut
unsaid_line line more cut is = record { whole = []; line = line; rest = more; cut = cut; lines_are = refl; said_is = refl; is_cut = is }

prefix_longer : (all more said : List (List ℕ)) → IsPrefix said all → IsPrefix said (all ++ more)
prefix_longer all more said is = (is.0 ++ more, sym (append_assoc said is.0 more) ∙ ap (λ (l : List (List ℕ)). l ++ more) is.1)

prefix_behind : (front all said : List (List ℕ)) → IsPrefix said all → IsPrefix (front ++ said) (front ++ all)
prefix_behind front all said is = (is.0, append_assoc front said is.0 ∙ ap (λ (l : List (List ℕ)). front ++ l) is.1)

-- a part of the lines, where more lines come, and behind whole lines
pub part_longer : (s : Stop) (all more said : List (List ℕ)) → SaysPart s all said → SaysPart s (all ++ more) said
part_longer (stop.Store fault) all more said is = prefix_longer all more said is
part_longer stop.Script all more said is = prefix_longer all more said is
part_longer stop.Output all more said is = unsaid_longer all more said is
part_longer stop.TooLong all more said is = prefix_longer all more said is

pub part_behind : (s : Stop) (front all said : List (List ℕ)) → SaysPart s all said → SaysPart s (front ++ all) (front ++ said)
part_behind (stop.Store fault) front all said is = prefix_behind front all said is
part_behind stop.Script front all said is = prefix_behind front all said is
part_behind stop.Output front all said is = unsaid_behind front all said is
part_behind stop.TooLong front all said is = prefix_behind front all said is

-- a beginning of lines after which one line more comes isn't all
unended_before : (all said : List (List ℕ)) (last : List ℕ) → IsPrefix said all → IsUnended (all ++ last ∷ []) said
unended_before all said last ([], is) =
    record { line = last; rest = []; lines_are = ap (λ (l : List (List ℕ)). l ++ last ∷ []) (sym is) ∙ append_assoc said [] (last ∷ []) }
unended_before all said last (line ∷ rest, is) =
    record { line = line; rest = rest ++ last ∷ []; lines_are = ap (λ (l : List (List ℕ)). l ++ last ∷ []) (sym is) ∙ append_assoc said (line ∷ rest) (last ∷ []) }

-- ---- replies

-- no reply is without a line
shown_lines : (all : List (List ℕ)) → begins_with [] (joined_lines all) ≡ false → IsUnended all []
shown_lines [] shows = absurd (cc shows)
shown_lines (line ∷ rest) shows = record { line = line; rest = rest; lines_are = refl }

none_of_next : (limits : Limits) (state : State) (cs : List Command) → IsNextUnended limits state cs []
none_of_next limits state [] = refl
none_of_next limits state (c ∷ cs) = shown_lines (reply_lines limits state c) (reply_shows limits state c)

next_longer : (limits : Limits) (state : State) (cs ds : List Command) (said : List (List ℕ)) → IsNextUnended limits state cs said → IsNextUnended limits state (cs ++ ds) said
next_longer limits state [] ds said none = subst (IsNextUnended limits state ds) (sym none) (none_of_next limits state ds)
next_longer limits state (c ∷ cs) ds said next = next

-- what was said behind the replies to more commands
lines_behind : (limits : Limits) (state : State) (cs ds : List Command) (part said : List (List ℕ)) → said ≡ lines limits (after_all limits state cs) ds ++ part → lines limits state cs ++ said ≡ lines limits state (cs ++ ds) ++ part
lines_behind limits state cs ds part said is =
    ap (λ (l : List (List ℕ)). lines limits state cs ++ l) is ∙ sym (append_assoc (lines limits state cs) (lines limits (after_all limits state cs) ds) part)
    ∙ ap (λ (l : List (List ℕ)). l ++ part) (sym (lines-append limits state cs ds))

module _ (limits : Limits) (state : State) where
  -- ---- where a run stops between commands

  -- nothing was said
  pub between_none : (cs : List Command) (R : State → Type 0) → R state → EndsBetween limits state cs [] R
  between_none cs R r = record { answered = []; later = cs; commands_are = refl; part = []; said_is = refl; next = none_of_next limits state cs; rests = r }

  -- in a reply with one line more
  pub between_lines : (c : Command) (all said : List (List ℕ)) (last : List ℕ) (R : State → Type 0) → all ++ last ∷ [] ≡ reply_lines limits state c → IsPrefix said all → R state → EndsBetween limits state (c ∷ []) said R
  between_lines c all said last R are is r = record {
    answered = [];
    later = c ∷ [];
    commands_are = refl;
    part = said;
    said_is = refl;
    next = subst (λ (l : List (List ℕ)). IsUnended l said) are (unended_before all said last is);
    rests = r;
  }

  -- a line of the reply couldn't be said
  pub unsaid_of : (c : Command) (said : List (List ℕ)) (R : State → Type 0) → IsUnsaid (reply_lines limits state c) said → R (step limits state c).0 → EndsUnsaid limits state (c ∷ []) said R
  unsaid_of c said R next r = record { answered = []; command = c; later = []; commands_are = refl; part = said; said_is = refl; next = next; rests = r }

  -- it stopped in all lines of a reply but the last
  pub ends_in : (s : Stop) (c : Command) (all said : List (List ℕ)) (last : List ℕ) (R : State → Type 0) → all ++ last ∷ [] ≡ reply_lines limits state c → SaysPart s all said → R state → R (step limits state c).0
      → EndsAt (Err s) limits state (c ∷ []) said R
  ends_in (stop.Store fault) c all said last R are part r q = between_lines c all said last R are part r
  ends_in stop.Script c all said last R are part r q = between_lines c all said last R are part r
  ends_in stop.Output c all said last R are part r q = unsaid_of c said R (subst (λ (l : List (List ℕ)). IsUnsaid l said) are (unsaid_longer all (last ∷ []) said part)) q
  ends_in stop.TooLong c all said last R are part r q = between_lines c all said last R are part r

  -- ---- behind commands that are answered

  between_behind : (cs ds : List Command) (said : List (List ℕ)) (R : State → Type 0) → EndsBetween limits (after_all limits state cs) ds said R → EndsBetween limits state (cs ++ ds) (lines limits state cs ++ said) R
  between_behind cs ds said R e = record {
    answered = cs ++ e.answered;
    later = e.later;
    commands_are = ap (λ (l : List Command). cs ++ l) e.commands_are ∙ sym (append_assoc cs e.answered e.later);
    part = e.part;
    said_is = lines_behind limits state cs e.answered e.part said e.said_is;
    next = subst (λ (s : State). IsNextUnended limits s e.later e.part) (sym (after_all-append limits state cs e.answered)) e.next;
    rests = subst R (sym (after_all-append limits state cs e.answered)) e.rests;
  }

  unsaid_after : (cs ds : List Command) (said : List (List ℕ)) (R : State → Type 0) → EndsUnsaid limits (after_all limits state cs) ds said R → EndsUnsaid limits state (cs ++ ds) (lines limits state cs ++ said) R
  unsaid_after cs ds said R e = record {
    answered = cs ++ e.answered;
    command = e.command;
    later = e.later;
    commands_are = ap (λ (l : List Command). cs ++ l) e.commands_are ∙ sym (append_assoc cs e.answered (e.command ∷ e.later));
    part = e.part;
    said_is = lines_behind limits state cs e.answered e.part said e.said_is;
    next = subst (λ (s : State). IsUnsaid (reply_lines limits s e.command) e.part) (sym (after_all-append limits state cs e.answered)) e.next;
    rests = subst (λ (s : State). R (step limits s e.command).0) (sym (after_all-append limits state cs e.answered)) e.rests;
  }

  pub ends_behind : (result : Result (Unit {0}) Stop) (cs ds : List Command) (said : List (List ℕ)) (R : State → Type 0) → EndsAt result limits (after_all limits state cs) ds said R
      → EndsAt result limits state (cs ++ ds) (lines limits state cs ++ said) R
  ends_behind (Ok u) cs ds said R e = subst R (sym (after_all-append limits state cs ds)) e
  ends_behind (Err (stop.Store fault)) cs ds said R e = between_behind cs ds said R e
  ends_behind (Err stop.Script) cs ds said R e = between_behind cs ds said R e
  ends_behind (Err stop.Output) cs ds said R e = unsaid_after cs ds said R e
  ends_behind (Err stop.TooLong) cs ds said R e = between_behind cs ds said R e

  -- ---- where more commands were to come

  between_longer : (cs ds : List Command) (said : List (List ℕ)) (R : State → Type 0) → EndsBetween limits state cs said R → EndsBetween limits state (cs ++ ds) said R
  between_longer cs ds said R e = record {
    answered = e.answered;
    later = e.later ++ ds;
    commands_are = ap (λ (l : List Command). l ++ ds) e.commands_are ∙ append_assoc e.answered e.later ds;
    part = e.part;
    said_is = e.said_is;
    next = next_longer limits (after_all limits state e.answered) e.later ds e.part e.next;
    rests = e.rests;
  }

  pub ends_longer : (s : Stop) (cs ds : List Command) (said : List (List ℕ)) (R : State → Type 0) → EndsAt (Err s) limits state cs said R → EndsAt (Err s) limits state (cs ++ ds) said R
  ends_longer (stop.Store fault) cs ds said R e = between_longer cs ds said R e
  ends_longer stop.Script cs ds said R e = between_longer cs ds said R e
  ends_longer stop.Output cs ds said R e = record {
    answered = e.answered;
    command = e.command;
    later = e.later ++ ds;
    commands_are = ap (λ (l : List Command). l ++ ds) e.commands_are ∙ append_assoc e.answered (e.command ∷ e.later) ds;
    part = e.part;
    said_is = e.said_is;
    next = e.next;
    rests = e.rests;
  }
  ends_longer stop.TooLong cs ds said R e = between_longer cs ds said R e

  -- ---- where less is said of the state

  between_weaker : (cs : List Command) (said : List (List ℕ)) (Q R : State → Type 0) → ((s : State) → Q s → R s) → EndsBetween limits state cs said Q → EndsBetween limits state cs said R
  between_weaker cs said Q R f e =
      record { answered = e.answered; later = e.later; commands_are = e.commands_are; part = e.part; said_is = e.said_is; next = e.next; rests = f _ e.rests }

  pub ends_weaker : (result : Result (Unit {0}) Stop) (cs : List Command) (said : List (List ℕ)) (Q R : State → Type 0) → ((s : State) → Q s → R s) → EndsAt result limits state cs said Q → EndsAt result limits state cs said R
  ends_weaker (Ok u) cs said Q R f e = f _ e
  ends_weaker (Err (stop.Store fault)) cs said Q R f e = between_weaker cs said Q R f e
  ends_weaker (Err stop.Script) cs said Q R f e = between_weaker cs said Q R f e
  ends_weaker (Err stop.Output) cs said Q R f e = record {
    answered = e.answered;
    command = e.command;
    later = e.later;
    commands_are = e.commands_are;
    part = e.part;
    said_is = e.said_is;
    next = e.next;
    rests = f _ e.rests;
  }
  ends_weaker (Err stop.TooLong) cs said Q R f e = between_weaker cs said Q R f e
