-- One command answered: its work, and then what is said.
use Rattle.std.proofs.Common.{◌≡◌, ◌⊎◌, inl, inr, ℕ, zero, suc, ◌+◌, ◌-◌, ◌≤◌, ◌<◌, Bool, true, false, cond, ◌||◌, nat_le, List, [], ◌∷◌, ◌++◌, map, Option, Some, None, Result, Ok, Err, is_ok, refl, sym, ◌∙◌, ap, subst, arith, append_assoc}
use Rattle.std.proofs.lemmas.Bool.{false≢true, or_left, or_right}
use Rattle.std.proofs.lemmas.Bool.Decides.{nat_tests}
use Rattle.std.proofs.lemmas.List.{append-nil, map-append}
use Rattle.std.specs.FinMap.{get}
use Rattle.std.specs.Option.{option_map_or}
use Rattle.ipl_base.specs.declared.fault.Refusal.TheVariants.{BadName}
use Rattle.ipl_model.specs.State.{Map, State, Limits}
use Rattle.ipl_model.specs.Operations.{rows, rows_from, row_of}
use Rattle.ipl_model.specs.declared.command.Command.{Command}
use Rattle.ipl_model.specs.declared.command.Command.TheVariants as command
use Rattle.ipl_model.specs.declared.reply.Reply.{Reply}
use Rattle.ipl_model.specs.declared.reply.Reply.TheVariants as reply
use Rattle.ipl_model.specs.Step.{Stepped, step, accepted, row_reply}
use Rattle.ipl_model.specs.Text.{reply_text}
use Rattle.ipl_model.specs.Run.{reply_lines}
use Rattle.chip_trait.specs.declared.event.Event.TheVariants.{Said}
use Rattle.chip_trait.specs.Moment.{AtEachMoment, Leaves}
use Rattle.chip_trait.specs.Told.{History, Told, Appends, FailsToSay, adds_all}
use Rattle.chip_trait.proofs.HistoryLemmas.{same_history}
use Rattle.chip_trait.proofs.LawfulLemmas.{lawful_none, clean_none}
use Rattle.chip_trait.proofs.MomentLemmas.{at_start}
use Rattle.store_trait.proofs.UnusedLemmas.{unused_none}
use Rattle.store_trait.specs.declared.fault.Fault.{Fault}
use Rattle.store_trait.specs.Keeping.{Keeping, WorkLeaves, WorksFor, LooksUpFor, StillRecalls, is_restart}
use Rattle.script_run.specs.declared.fault.Stop.{Stop}
use Rattle.script_run.specs.declared.fault.Stop.TheVariants as stop
use Rattle.script_run.specs.Run.{SaysLines, IsUnsaid, EndsAt, RunLeaves, SayingLeaves}
use Rattle.script_run.specs.Goes.{StaysAt, SaysPart, SaysSome, row_lines, rows_lines}
use Rattle.store_trait.proofs.OnwardLemmas.{unrisen_later}
use Rattle.script_run.proofs.EndLemmas.{unsaid_line, unsaid_behind, part_longer, part_behind, unsaid_of, ends_in}
use Rattle.script_run.proofs.RunLemmas.{says_none, says_all, says_cut, says_behind, says_longer, saying_none, saying_work, saying_said, saying_cut, saying_then, run_command, run_failed}

-- ---- the rows of a list

-- one row more
pub rows_more : (m : Map) (first n : ℕ) → first ≤ n → rows_lines m first (n + 1 - first) ≡ rows_lines m first (n - first) ++ row_lines n (get m n)
rows_more m first n le =
    let next : n + 1 - first ≡ suc (n - first) = omega arith in
    let here : first + (n - first) ≡ n = omega arith in
    ap (λ (j : ℕ). rows_lines m first j) next
    ∙ ap (map reply_text) (map-append row_reply (rows_from m first (n - first)) (row_of (first + (n - first)) (get m (first + (n - first)))))
    ∙ map-append reply_text (map row_reply (rows_from m first (n - first))) (map row_reply (row_of (first + (n - first)) (get m (first + (n - first)))))
    ∙ ap (λ (j : ℕ). rows_lines m first (n - first) ++ row_lines j (get m j)) here

-- a list that is refused, and one that isn't
pub list_refused : (limits : Limits) (state : State) (a b names : ℕ) → names ≡ limits.names → (names ≤ a) ⊎ (names ≤ b) → step limits state (command.List a b) ≡ (state, reply.Refused BadName ∷ [])
list_refused limits state a b names is out = ap (λ (t : Bool). option_map_or (λ refusal. (state, reply.Refused refusal ∷ [])) (cond t (Some BadName) None) (accepted state (command.List a b))) (test out)
  where
    test : (names ≤ a) ⊎ (names ≤ b) → (nat_le limits.names a || nat_le limits.names b) ≡ true
    test (inl past) = or_left _ _ (let le : nat_le limits.names a ≡ true = grind (arith, nat_tests) in le)
    test (inr past) = or_right _ _ (let le : nat_le limits.names b ≡ true = grind (arith, nat_tests) in le)

pub list_accepted : (limits : Limits) (state : State) (a b names : ℕ) → names ≡ limits.names → a < names → b < names → step limits state (command.List a b) ≡ accepted state (command.List a b)
list_accepted limits state a b names is a_in b_in =
    let first : nat_le limits.names a ≡ false = grind (arith, nat_tests) in
    let last : nat_le limits.names b ≡ false = grind (arith, nat_tests) in
    ap (λ (t : Bool). option_map_or (λ refusal. (state, reply.Refused refusal ∷ [])) (cond (t || nat_le limits.names b) (Some BadName) None) (accepted state (command.List a b))) first
    ∙ ap (λ (t : Bool). option_map_or (λ refusal. (state, reply.Refused refusal ∷ [])) (cond t (Some BadName) None) (accepted state (command.List a b))) last

module _ {S : Type 0} (k : Keeping S) (limits : Limits) (state : State) where
  -- ---- a command with one line as its reply

  abbrev Next : Command → State
  Next c = (step limits state c).0

  one_line : (c : Command) (r : Reply) → (step limits state c).1 ≡ r ∷ [] → reply_text r ∷ [] ≡ reply_lines limits state c
  one_line c r is = sym (ap (map reply_text) is)

  pub answered : (c : Command) (before then : S) (h : History) (old mid new : Told) (r : Reply) → WorksFor k limits state c before h (Ok r) then old mid → (is_restart c ≡ false → StillRecalls k before old then mid) → Appends (Said (reply_text r)) mid new
      → (leaves : RunLeaves k limits state (c ∷ []) before h (k.holds limits then new) then old new (Ok tt)) × k.holds limits then new (adds_all leaves.added h) (Next c)
  answered c before then h old mid new r w recalls did =
      let said = saying_said k limits (Next c) then (adds_all w.leaves.added h) mid new (reply_text r) w.ends.0 did in
      let line = one_line c r w.ends.1 in
      let leaves = run_command k limits state c before then then h (k.holds limits then new) old mid new (reply_text r ∷ []) (Ok tt) w.leaves recalls said.0
      (subst (λ (l : List (List ℕ)). SaysLines l (reply_text r ∷ [])) line (says_all (reply_text r ∷ []))) (λ e. line) said.1 said.1 in
      (leaves, leaves.ends)

  -- the reply couldn't be said
  pub unsaid : (c : Command) (before then : S) (h : History) (old mid new : Told) (r : Reply) → WorksFor k limits state c before h (Ok r) then old mid → (is_restart c ≡ false → StillRecalls k before old then mid) → FailsToSay (reply_text r) mid new
      → RunLeaves k limits state (c ∷ []) before h (StaysAt k limits then old new stop.Output) then old new (Err stop.Output)
  unsaid c before then h old mid new r w recalls did =
      let cut = saying_cut k limits (Next c) then (adds_all w.leaves.added h) mid new (reply_text r) [] w.ends.0 did in
      let line = one_line c r w.ends.1 in
      let g = adds_all cut.2.added (adds_all w.leaves.added h) in
      let stays : StaysAt k limits then old new stop.Output g (Next c) = λ quiet. (cut.3, tt) in
      run_command k limits state c before then then h (StaysAt k limits then old new stop.Output) old mid new cut.0 (Err stop.Output) w.leaves recalls cut.2
      (subst (λ (l : List (List ℕ)). SaysLines l cut.0) line (says_cut (reply_text r) [] cut.0 cut.1)) (λ e. cc) stays
      (unsaid_of limits state c cut.0 (StaysAt k limits then old new stop.Output g) (subst (λ (l : List (List ℕ)). IsUnsaid l cut.0) line (unsaid_line (reply_text r) [] cut.0 cut.1)) stays)

  -- the work failed
  pub failed : (c : Command) (before then : S) (h : History) (old new : Told) (fault : Fault) → WorksFor k limits state c before h (Err fault) then old new
      → RunLeaves k limits state (c ∷ []) before h (StaysAt k limits then old new (stop.Store fault)) then old new (Err (stop.Store fault))
  failed c before then h old new fault w = run_failed k limits state c before then h (StaysAt k limits then old new (stop.Store fault)) old new fault w.leaves w.ends

  -- ---- a row of a list

  -- lines were said, and the store keeps its state
  abbrev Saying : List (List ℕ) → S → History → S → Told → Told → Type 0
  Saying lines before h then old new = (leaves : SayingLeaves k limits state.map lines before h then old new true) × k.holds limits then new (adds_all leaves.added h) state

  pub row_said : (n : ℕ) (before then : S) (h : History) (old mid new : Told) (value : List ℕ) → LooksUpFor k limits state n before h (Ok (Some value)) then old mid → StillRecalls k before old then mid → Appends (Said (reply_text (reply.Row n value))) mid new
      → Saying (row_lines n (get state.map n)) before h then old new
  row_said n before then h old mid new value w recalls did =
      let line = reply_text (reply.Row n value) in
      let said = saying_said k limits state then (adds_all w.leaves.added h) mid new line w.ends.0 did in
      subst (λ (found : Option (List ℕ)). Saying (row_lines n found) before h then old new) w.ends.1
      (saying_then k limits state.map [] (line ∷ []) before then then h (λ g. k.holds limits then new g state) old mid new true (saying_work k limits state.map before then h old mid true w.leaves (λ e. recalls)) said.0 said.1)

  pub row_absent : (n : ℕ) (before then : S) (h : History) (old new : Told) → LooksUpFor k limits state n before h (Ok None) then old new → StillRecalls k before old then new
      → Saying (row_lines n (get state.map n)) before h then old new
  row_absent n before then h old new w recalls = subst (λ (found : Option (List ℕ)). Saying (row_lines n found) before h then old new) w.ends.1 (saying_work k limits state.map before then h old new true w.leaves (λ e. recalls), w.ends.0)

  pub row_unsaid : (n : ℕ) (before then : S) (h : History) (old mid new : Told) (value : List ℕ) → LooksUpFor k limits state n before h (Ok (Some value)) then old mid → StillRecalls k before old then mid → FailsToSay (reply_text (reply.Row n value)) mid new
      → SaysSome k limits state (row_lines n (get state.map n)) before h then old new stop.Output
  row_unsaid n before then h old mid new value w recalls did =
      let line = reply_text (reply.Row n value) in
      let cut = saying_cut k limits state then (adds_all w.leaves.added h) mid new line [] w.ends.0 did in
      let all = saying_then k limits state.map [] cut.0 before then then h (λ g. k.holds limits then new g state) old mid new false (saying_work k limits state.map before then h old mid true w.leaves (λ e. recalls)) cut.2 cut.3 in record {
        said = cut.0;
        part = subst (λ (found : Option (List ℕ)). SaysLines (row_lines n found) cut.0) w.ends.1 (says_cut line [] cut.0 cut.1);
        ends = subst (λ (found : Option (List ℕ)). IsUnsaid (row_lines n found) cut.0) w.ends.1 (unsaid_line line [] cut.0 cut.1);
        leaves = all.0;
        stays = λ quiet. (all.1, tt);
      }

  pub row_failed : (n : ℕ) (before then : S) (h : History) (old new : Told) (fault : Fault) → LooksUpFor k limits state n before h (Err fault) then old new → SaysSome k limits state (row_lines n (get state.map n)) before h then old new (stop.Store fault)
  row_failed n before then h old new fault w =
      record { said = []; part = says_none (row_lines n (get state.map n)); ends = (row_lines n (get state.map n), refl); leaves = saying_work k limits state.map before then h old new false w.leaves (λ e. absurd (false≢true e)); stays = w.ends }

  -- ---- rows, one after another

  pub rows_then : (first n : ℕ) (before mid then : S) (h : History) (old between new : Told) → first ≤ n
      → (so_far : SayingLeaves k limits state.map (rows_lines state.map first (n - first)) before h mid old between true) → Saying (row_lines n (get state.map n)) mid (adds_all so_far.added h) then between new
      → Saying (rows_lines state.map first (n + 1 - first)) before h then old new
  rows_then first n before mid then h old between new le so_far more =
      subst (λ (l : List (List ℕ)). Saying l before h then old new) (sym (rows_more state.map first n le))
      (saying_then k limits state.map (rows_lines state.map first (n - first)) (row_lines n (get state.map n)) before mid then h (λ g. k.holds limits then new g state) old between new true so_far more.0 more.1)

  -- the rows from one on begin with the first of them
  rows_begin : (first j i : ℕ) → (more : List (List ℕ)) × (rows_lines state.map first (j + i) ≡ rows_lines state.map first j ++ more)
  rows_begin first j zero = ([], ap (λ (a : ℕ). rows_lines state.map first a) (let e : j + 0 ≡ j = omega arith in e) ∙ sym (append-nil (rows_lines state.map first j)))
  rows_begin first j (suc i) =
      let before = rows_begin first j i in
      let next : j + suc i ≡ (first + (j + i)) + 1 - first = omega arith in
      let same : (first + (j + i)) - first ≡ j + i = omega arith in
      let row = row_lines (first + (j + i)) (get state.map (first + (j + i))) in (
        before.0 ++ row,
        ap (λ (a : ℕ). rows_lines state.map first a) next ∙ rows_more state.map first (first + (j + i)) (omega arith) ∙ ap (λ (a : ℕ). rows_lines state.map first a ++ row) same
            ∙ ap (λ (l : List (List ℕ)). l ++ row) before.1 ∙ append_assoc (rows_lines state.map first j) before.0 row,
      )

  -- it stopped in a row
  pub rows_stop : (first n end : ℕ) (before mid then : S) (h : History) (old between new : Told) (s : Stop) → first ≤ n → n < end → old.write_faults ≤ between.write_faults
      → (so_far : SayingLeaves k limits state.map (rows_lines state.map first (n - first)) before h mid old between true) → SaysSome k limits state (row_lines n (get state.map n)) mid (adds_all so_far.added h) then between new s
      → SaysSome k limits state (rows_lines state.map first (end - first)) before h then old new s
  rows_stop first n end before mid then h old between new s le lt counted so_far some =
      let rest = rows_begin first (n + 1 - first) (end - (n + 1)) in
      let all : n + 1 - first + (end - (n + 1)) ≡ end - first = omega arith in
      let are : rows_lines state.map first (end - first) ≡ (rows_lines state.map first (n - first) ++ row_lines n (get state.map n)) ++ rest.0 =
      ap (λ (a : ℕ). rows_lines state.map first a) (sym all) ∙ rest.1 ∙ ap (λ (l : List (List ℕ)). l ++ rest.0) (rows_more state.map first n le) in
      let joined = saying_then k limits state.map (rows_lines state.map first (n - first)) some.said before mid then h (λ g. StaysAt k limits then between new s g state) old between new false so_far some.leaves some.stays in record {
        said = rows_lines state.map first (n - first) ++ some.said;
        part = subst (λ (l : List (List ℕ)). SaysLines l (rows_lines state.map first (n - first) ++ some.said)) (sym are)
            (says_longer (rows_lines state.map first (n - first) ++ row_lines n (get state.map n)) rest.0 (rows_lines state.map first (n - first) ++ some.said)
            (says_behind (rows_lines state.map first (n - first)) (row_lines n (get state.map n)) some.said some.part));
        ends = subst (λ (l : List (List ℕ)). SaysPart s l (rows_lines state.map first (n - first) ++ some.said)) (sym are)
            (part_longer s (rows_lines state.map first (n - first) ++ row_lines n (get state.map n)) rest.0 (rows_lines state.map first (n - first) ++ some.said)
            (part_behind s (rows_lines state.map first (n - first)) (row_lines n (get state.map n)) some.said some.ends));
        leaves = joined.0;
        stays = λ quiet. joined.1 (unrisen_later old between new counted quiet);
      }

  -- ---- a whole list

  -- nothing was done yet
  work_none : (c : Command) (store : S) (h : History) (t : Told) → k.holds limits store t h state → WorkLeaves k (λ x. k.stands limits x state.map ⊎ k.stands limits x (Next c).map) store h store t t true
  work_none c store h t holds = record {
    added = [];
    history = same_history t.history;
    each_moment = at_start (Leaves k.checks (λ x. k.stands limits x state.map ⊎ k.stands limits x (Next c).map) h) (λ x is. inl (k.each limits store t h state holds x is));
    silent = refl;
    only = tt;
    lawful = lawful_none (k.clean store);
    clean = λ e. clean_none (k.clean store);
    unused = unused_none k store h true;
  }

  -- what is said of a command that changes nothing
  pub run_saying : (c : Command) (before then : S) (h : History) (R : History → State → Type 0) (old new : Told) (part : List (List ℕ)) (result : Result (Unit {0}) Stop) → k.holds limits before old h state → Next c ≡ state
      → (more : SayingLeaves k limits state.map part before h then old new (is_ok result)) → SaysLines (reply_lines limits state c) part → (is_ok result ≡ true → part ≡ reply_lines limits state c) → R (adds_all more.added h) state
      → EndsAt result limits state (c ∷ []) part (R (adds_all more.added h)) → RunLeaves k limits state (c ∷ []) before h R then old new result
  unfolding work_none
  run_saying c before then h R old new part result holds same more front all r ends =
      let moved : SayingLeaves k limits (Next c).map part before h then old new (is_ok result) = record {
        added = more.added;
        history = more.history;
        each_moment = subst (λ (s : State). AtEachMoment (Leaves k.checks (λ x. k.stands limits x s.map) h) more.added) (sym same) more.each_moment;
        says = more.says;
        only = more.only;
        lawful = more.lawful;
        clean = more.clean;
        unused = more.unused;
        recalls = more.recalls;
      } in
      run_command k limits state c before before then h R old old new part result (work_none c before h old holds) (λ calm entry recalled. recalled) moved front all (subst (R (adds_all more.added h)) (sym same) r) ends

  -- no row yet
  pub rows_none : (first : ℕ) (store : S) (h : History) (t : Told) → k.holds limits store t h state → Saying (rows_lines state.map first (first - first)) store h store t t
  rows_none first store h t holds =
      let none : first - first ≡ 0 = omega arith in
      subst (λ (j : ℕ). Saying (rows_lines state.map first j) store h store t t) (sym none) (saying_none k limits state store h t true holds, holds)

  -- a command that is answered without work, as a refusal is
  pub works_at_once : (c : Command) (store : S) (h : History) (t : Told) (r : Reply) → step limits state c ≡ (state, r ∷ []) → k.holds limits store t h state → WorksFor k limits state c store h (Ok r) store t t
  unfolding work_none
  works_at_once c store h t r is holds = record { leaves = work_none c store h t holds; ends = (subst (k.holds limits store t h) (sym (ap (λ (p : Stepped). p.0) is)) holds, ap (λ (p : Stepped). p.1) is); drawn = omega arith; excuse = tt; tells = tt }

  module _ (a b names : ℕ) (is : names ≡ limits.names) where
    list_lines : a < names → b < names → rows_lines state.map a (b + 1 - a) ++ reply_text reply.End ∷ [] ≡ reply_lines limits state (command.List a b)
    list_lines a_in b_in =
        sym (ap (λ (p : Stepped). map reply_text p.1) (list_accepted limits state a b names is a_in b_in) ∙ map-append reply_text (map row_reply (rows state.map a b)) (reply.End ∷ []))

    list_stays : a < names → b < names → Next (command.List a b) ≡ state
    list_stays a_in b_in = ap (λ (p : Stepped). p.0) (list_accepted limits state a b names is a_in b_in)

    -- all rows were said, and the end
    pub list_done : (before then : S) (h : History) (old mid new : Told) → a < names → b < names → k.holds limits before old h state
        → Saying (rows_lines state.map a (b + 1 - a)) before h then old mid → Appends (Said (reply_text reply.End)) mid new
        → (leaves : RunLeaves k limits state (command.List a b ∷ []) before h (k.holds limits then new) then old new (Ok tt)) × k.holds limits then new (adds_all leaves.added h) (Next (command.List a b))
    list_done before then h old mid new a_in b_in holds rows did =
        let lines = rows_lines state.map a (b + 1 - a) in
        let are = list_lines a_in b_in in
        let end = reply_text reply.End in
        let said = saying_said k limits state then (adds_all rows.0.added h) mid new end rows.1 did in
        let all = saying_then k limits state.map lines (end ∷ []) before then then h (λ g. k.holds limits then new g state) old mid new true rows.0 said.0 said.1 in
        let leaves = run_saying (command.List a b) before then h (k.holds limits then new) old new (lines ++ end ∷ []) (Ok tt) holds (list_stays a_in b_in) all.0
        (subst (λ (l : List (List ℕ)). SaysLines l (lines ++ end ∷ [])) are (says_all (lines ++ end ∷ []))) (λ e. are) all.1 (subst (k.holds limits then new (adds_all all.0.added h)) (sym (list_stays a_in b_in)) all.1) in
        (leaves, leaves.ends)

    -- the end couldn't be said
    pub list_unsaid : (before then : S) (h : History) (old mid new : Told) → a < names → b < names → k.holds limits before old h state
        → Saying (rows_lines state.map a (b + 1 - a)) before h then old mid → FailsToSay (reply_text reply.End) mid new
        → RunLeaves k limits state (command.List a b ∷ []) before h (StaysAt k limits then old new stop.Output) then old new (Err stop.Output)
    list_unsaid before then h old mid new a_in b_in holds rows did =
        let lines = rows_lines state.map a (b + 1 - a) in
        let end = reply_text reply.End in
        let cut = saying_cut k limits state then (adds_all rows.0.added h) mid new end [] rows.1 did in
        let all = saying_then k limits state.map lines cut.0 before then then h (λ g. k.holds limits then new g state) old mid new false rows.0 cut.2 cut.3 in
        let g = adds_all all.0.added h in
        let stays : StaysAt k limits then old new stop.Output g state = λ quiet. (all.1, tt) in
        run_saying (command.List a b) before then h (StaysAt k limits then old new stop.Output) old new (lines ++ cut.0) (Err stop.Output) holds (list_stays a_in b_in) all.0
        (subst (λ (l : List (List ℕ)). SaysLines l (lines ++ cut.0)) (list_lines a_in b_in) (says_behind lines (end ∷ []) cut.0 (says_cut end [] cut.0 cut.1))) (λ e. cc)
        stays
        (unsaid_of limits state (command.List a b) (lines ++ cut.0) (StaysAt k limits then old new stop.Output g)
        (subst (λ (l : List (List ℕ)). IsUnsaid l (lines ++ cut.0)) (list_lines a_in b_in) (unsaid_behind lines (end ∷ []) cut.0 (unsaid_line end [] cut.0 cut.1))) (subst (StaysAt k limits then old new stop.Output g) (sym (list_stays a_in b_in)) stays))

    -- it stopped in the rows
    pub list_failed : (before then : S) (h : History) (old new : Told) (s : Stop) → a < names → b < names → k.holds limits before old h state
        → SaysSome k limits state (rows_lines state.map a (b + 1 - a)) before h then old new s
        → RunLeaves k limits state (command.List a b ∷ []) before h (StaysAt k limits then old new s) then old new (Err s)
    list_failed before then h old new s a_in b_in holds some =
        let g = adds_all some.leaves.added h in
        run_saying (command.List a b) before then h (StaysAt k limits then old new s) old new some.said (Err s) holds (list_stays a_in b_in) some.leaves
        (subst (λ (l : List (List ℕ)). SaysLines l some.said) (list_lines a_in b_in) (says_longer (rows_lines state.map a (b + 1 - a)) (reply_text reply.End ∷ []) some.said some.part)) (λ e. cc) some.stays
        (ends_in limits state s (command.List a b) (rows_lines state.map a (b + 1 - a)) some.said (reply_text reply.End) (StaysAt k limits then old new s g) (list_lines a_in b_in) some.ends some.stays
        (subst (StaysAt k limits then old new s g) (sym (list_stays a_in b_in)) some.stays))

    pub works_refused : (store : S) (h : History) (t : Told) → (names ≤ a) ⊎ (names ≤ b) → k.holds limits store t h state
        → WorksFor k limits state (command.List a b) store h (Ok (reply.Refused BadName)) store t t
    works_refused store h t out holds = works_at_once (command.List a b) store h t (reply.Refused BadName) (list_refused limits state a b names is out) holds

-- one bound or the other is past the names
pub past_names : (names a b : ℕ) → (names ≤ a) ⊎ ((a < names) × (names ≤ b)) → (names ≤ a) ⊎ (names ≤ b)
past_names names a b (inl past) = inl past
past_names names a b (inr (within, past)) = inr past
