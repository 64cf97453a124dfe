-- Why the serial view is right: the turns of an open session, run alone over any records, leave that session; and where
-- the records of its shared names are those of now, its replies are the same. A commit then does alone what it does
-- among the others.
use Rattle.std.proofs.Common.{◌≡◌, inl, inr, ℕ, zero, suc, Bool, true, false, List, [], ◌∷◌, ◌++◌, length, Option, Some, None, refl, sym, ◌∙◌, ap, subst, arith, ◌⊎◌, ◌==◌}
use Rattle.std.specs.Ordering.{nat_cmp}
use Rattle.std.specs.FinMap.{get, empty, get-empty, same_map, nat_cmp-IsAntisymmetric}
use Rattle.std.proofs.lemmas.Bool.{cases_Bool, cases_eq, or_parts, both_ways, eq-eqb}
use Rattle.ipl_model.specs.State.{Map, Session, State, Limits, at_rest, has_shared, is_open_session, with_writes}
use Rattle.ipl_model.specs.Operations.{new_session}
use Rattle.ipl_model.specs.declared.command.Command.{Command}
use Rattle.ipl_model.specs.declared.command.Command.TheVariants as command
use Rattle.ipl_model.specs.declared.reply.Reply.{Reply}
use Rattle.ipl_model.specs.declared.reply.Reply.TheVariants as reply
use Rattle.ipl_model.specs.Step.{Stepped, step, refusal_of, accepted}
use Rattle.ipl_model.specs.Plain.{writes_in}
use Rattle.ipl_model.specs.Run.{after_all}
use Rattle.serial_view.specs.Serial.{command_at, met_at, is_accepted, serial}
use Rattle.ipl_model.specs.Laws.{is_commit}
use Rattle.ipl_model.specs.Operations.{after_batch}
use Rattle.ipl_model.proofs.RuleBatchLemmas.{Distinct, distinct, first_in, later_in, first_or_later, any_fails, any_listed, batches_name_once, same_records, closes, refused_alike}
use Rattle.std.specs.Prelude.{is_some}
use Rattle.std.specs.Cmp.{nat_cmp_total}
use Rattle.std.specs.List.{flat_map, list_any, Contains}
use Rattle.serial_view.specs.Laws.{reply_at, reads_unlocked, is_unlocked}
use Rattle.serial_view.proofs.SessionLemmas.{Sessions, alone, with_session, none_open, get_inserted, get_other}
use Rattle.serial_view.proofs.TestLemmas.{worker}
use Rattle.serial_view.proofs.StepLemmas.{changed, Gives, does, step_accepted, step_commit}
use Rattle.serial_view.proofs.BesideLemmas.{Beside, beside_before, step_begin_beside, step_beside}
use Rattle.serial_view.proofs.BoundLemmas.{may_stand, sole_kept, units_kept, filled_kept}
use Rattle.serial_view.proofs.MemberLemmas.{PartOf}
use Rattle.serial_view.proofs.SessionStepLemmas.{own, Worked, After, how, worker_commits, committer_open}
use Rattle.serial_view.proofs.LockLemmas.{locks_kept, Agree, records_kept, shared_kept}
use Rattle.serial_view.proofs.TurnLemmas.{turn_is, begins_is, turns_begun, turns_on, turns_same, serial_more, serial_same, commits_turns, batch_turns}
use Rattle.serial_view.proofs.MetLemmas.{met_last, met_accepted, passes}
use Rattle.serial_view.proofs.ReplyLemmas.{shares_on, said_alike}
use Rattle.serial_view.proofs.ServeLemmas as serve
use Rattle.serial_view.proofs.ServeLemmas.{run-append, locked_parts, joined, start, same, refused}

commit_case : (c : Command) → (is_commit c ≡ false)
    ⊎ (((s : ℕ) × (c ≡ command.Commit s)) ⊎ ((ss : List ℕ) × (c ≡ command.Batch ss)))
commit_case (command.Commit s) = inr (inl (s, refl))
commit_case (command.Batch ss) = inr (inr (ss, refl))
commit_case other = inl refl

-- a state of these records, with no session open
at_rest_is : (a : State) (m : Map) → a.map ≡ m → ((q : ℕ) → get a.sessions q ≡ None) → a ≡ at_rest m
at_rest_is a m maps none =
    ap (λ (n : Map). record { map = n; sessions = a.sessions }) maps
    ∙ ap (λ (f : Sessions). record { map = m; sessions = f })
    (same_map nat_cmp_total nat_cmp-IsAntisymmetric a.sessions empty (λ q. none q ∙ sym (get-empty nat_cmp q)))

module _ (limits : Limits) (m : Map) (commands : List Command) where
  abbrev mine : ℕ → ℕ → List ℕ
  mine = serve.mine limits m commands

  abbrev view : ℕ → List ℕ
  view = serve.view limits m commands

  abbrev any_unlocked : List ℕ → Bool
  any_unlocked = serve.any_unlocked limits m commands

  abbrev run : State → List ℕ → State
  run = serve.run limits m commands

  abbrev heard : State → List ℕ → List (List Reply)
  heard = serve.heard limits m commands

  abbrev told : List ℕ → List (List Reply)
  told = serve.told limits m commands

  abbrev Serves : State → (ℕ → List ℕ) → List ℕ → Type 0
  Serves = serve.Serves limits m commands

  abbrev at : ℕ → Type 0
  at = serve.at limits m commands

  -- ---- a command that passes

  module _ (k : ℕ) (ok : is_accepted limits m commands k ≡ true) where
    abbrev st : State
    st = met_at limits m commands k

    abbrev c : Command
    c = command_at commands k

    abbrev next : State
    next = (accepted st c).0

    abbrev Before : Type 0
    Before = Serves st (λ s. mine s k) (view k)

    none : refusal_of limits st c ≡ None
    none = passes limits m commands k ok

    reply_is : reply_at limits m commands k ≡ (accepted st c).1
    reply_is = ap (λ (p : Stepped). p.1) (step_accepted limits st c none)

    -- the turns of a session that goes on, of one that stays, and of one that begins
    longer : (s : ℕ) → worker c ≡ Some s → mine s (suc k) ≡ mine s k ++ k ∷ []
    longer s e =
        let facts = worker_commits c s e in
        turns_on limits m commands s k facts.1 (turn_is limits m commands s k true ok facts.2)

    waiting : (s : ℕ) → own s c ≡ false → mine s (suc k) ≡ mine s k
    waiting s e = turns_same limits m commands s k (turn_is limits m commands s k false ok e)

    fresh : (s : ℕ) → c ≡ command.Begin s → mine s (suc k) ≡ k ∷ []
    fresh s e = turns_begun limits m commands s k (begins_is limits m commands s k ok e)

    begun_step : (B : State) (s : ℕ) → c ≡ command.Begin s → get B.sessions s ≡ None
        → Gives (step limits B c) (with_session B s new_session) (reply.Ok ∷ [])
    begun_step B s e shut =
        ap (step limits B) e
        ∙ step_begin_beside limits st B s (subst (λ (d : Command). refusal_of limits st d ≡ None) e none) shut

    -- it could stand there before the command
    earlier : (B : State) (s : ℕ) (y : Session) (w : Worked st c s y) → Beside B s y → Beside B s (changed c w.0)
    earlier B s y w free = subst (λ (z : Session). Beside B s z) w.3 free

    runs_on : Before → (s : ℕ) (y : Session) → get next.sessions s ≡ Some y → (B : State) → Beside B s y
        → run B (mine s (suc k)) ≡ with_session B s y
    runs_on old s y found B free = go (how st c s y found)
      where
        go : After st c s y → run B (mine s (suc k)) ≡ with_session B s y
        go (inl a) = ap (run B) (waiting s a.1) ∙ old.runs s y a.0 B free
        go (inr (inl b)) =
            ap (run B) (fresh s b.0) ∙ ap (λ (p : Stepped). p.0) (begun_step B s b.0 free.shut)
            ∙ ap (with_session B s) (sym b.1)
        go (inr (inr w)) =
            let now = earlier B s y w free in
            ap (run B) (longer s w.2)
            ∙ run-append limits m commands B (mine s k) (k ∷ [])
            ∙ ap (λ (state : State). (step limits state c).0)
            (old.runs s w.0 w.1 B (beside_before B s c w.0 now))
            ∙ ap (λ (p : Stepped). p.0) (step_beside limits st B s w.0 w.1 c w.2 now none)
            ∙ ap (with_session B s) (sym w.3)

    -- the reply to a command of an open session, run beside others behind its turns
    works_alike : Before → (s : ℕ) (y : Session) (w : Worked st c s y) → is_unlocked limits m commands k ≡ false
        → (B : State) → Beside B s y → Agree y B.map next.map → heard (run B (mine s k)) (k ∷ []) ≡ told (k ∷ [])
    works_alike old s y w held B free agree =
        let now = earlier B s y w free in
        let locked : reads_unlocked st c ≡ false = held in
        let kept = records_kept st c (worker_commits c s w.2).0 in
        let wide : Agree (changed c w.0) B.map st.map = λ j is.
        agree j (ap (λ (z : Session). has_shared z j) w.3 ∙ is) ∙ ap (λ (q : Map). get q j) kept in
        ap (λ (state : State). (step limits state c).1 ∷ [])
        (old.runs s w.0 w.1 B (beside_before B s c w.0 now))
        ∙ ap (λ (p : Stepped). p.1 ∷ []) (step_beside limits st B s w.0 w.1 c w.2 now none)
        ∙ ap (λ (r : List Reply). r ∷ []) (said_alike st c s w.0 B.map w.2 w.1 locked wide)
        ∙ ap (λ (p : Stepped). p.1 ∷ []) (sym (does st s w.0 w.1 c w.2))
        ∙ ap (λ (r : List Reply). r ∷ []) (sym reply_is)

    -- before the command the records agreed too
    agreed : (s : ℕ) (y : Session) (w : Worked st c s y) (n : Map) → Agree y n next.map → Agree w.0 n st.map
    agreed s y w n agree j is =
        agree j (ap (λ (z : Session). has_shared z j) w.3 ∙ shares_on c w.0 j is)
        ∙ ap (λ (q : Map). get q j) (records_kept st c (worker_commits c s w.2).0)

    says_on : Before → (s : ℕ) (y : Session) → get next.sessions s ≡ Some y → any_unlocked (mine s (suc k)) ≡ false
        → (B : State) → Beside B s y → Agree y B.map next.map → heard B (mine s (suc k)) ≡ told (mine s (suc k))
    says_on old s y found locks B free agree = go (how st c s y found)
      where
        alike : (l : List ℕ) → mine s (suc k) ≡ l → heard B l ≡ told l
            → heard B (mine s (suc k)) ≡ told (mine s (suc k))
        alike l e same = ap (heard B) e ∙ same ∙ ap told (sym e)

        go : After st c s y → heard B (mine s (suc k)) ≡ told (mine s (suc k))
        go (inl a) =
            let e = waiting s a.1 in
            let before : Agree y B.map st.map =
            λ j is. agree j is ∙ shared_kept st c s y old.locked a.0 a.1 found j is in
            alike (mine s k) e (old.says s y a.0 (ap any_unlocked (sym e) ∙ locks) B free before)
        go (inr (inl b)) =
            alike (k ∷ []) (fresh s b.0) (
            ap (λ (p : Stepped). p.1 ∷ []) (begun_step B s b.0 free.shut)
            ∙ ap (λ (d : Command). (accepted st d).1 ∷ []) (sym b.0)
            ∙ ap (λ (r : List Reply). r ∷ []) (sym reply_is))
        go (inr (inr w)) =
            let e = longer s w.2 in
            let parts = locked_parts limits m commands (mine s k) (k ∷ []) (ap any_unlocked (sym e) ∙ locks) in
            alike (mine s k ++ k ∷ []) e (joined limits m commands B (mine s k) (k ∷ [])
            (old.says s w.0 w.1 parts.0 B (beside_before B s c w.0 (earlier B s y w free)) (agreed s y w B.map agree))
            (works_alike old s y w (or_parts _ _ parts.1).0 B free agree))

    -- an open session may stand beside others of the run, and by itself
    stands : Before → (B : State) (s : ℕ) (x : Session) → B.map ≡ st.map → PartOf B.sessions st.sessions
        → get st.sessions s ≡ Some x → get B.sessions s ≡ None → Beside B s x
    stands old B s x maps part found shut =
        may_stand B st s x old.locked old.sole old.light old.filled maps part found shut

    stands_alone : Before → (s : ℕ) (x : Session) → get st.sessions s ≡ Some x → Beside (at_rest st.map) s x
    stands_alone old s x found =
        stands old (at_rest st.map) s x refl (λ t y there. absurd (none_open t y there)) found (get-empty nat_cmp s)

    -- ---- a commit

    module _ (s : ℕ) (is : c ≡ command.Commit s) where
      passes_commit : refusal_of limits st (command.Commit s) ≡ None
      passes_commit = subst (λ (d : Command). refusal_of limits st d ≡ None) is none

      -- the records after it
      records_then : (x : Session) → get st.sessions s ≡ Some x → next.map ≡ with_writes x.writes st.map
      records_then x found =
          ap (λ (d : Command). (accepted st d).0.map) is
          ∙ ap (λ (o : Option Session). with_writes (writes_in o) st.map) found

      view_then : view (suc k) ≡ view k ++ (mine s k ++ k ∷ [])
      view_then =
          serial_more limits m commands k
          ∙ ap (λ (l : List ℕ). view k ++ l) (commits_turns limits m commands k s ok is)

      commit_step : (x : Session) → get st.sessions s ≡ Some x
          → Gives (step limits (alone st.map s x) c) (at_rest next.map) (reply.Ok ∷ [])
      commit_step x found =
          ap (step limits (alone st.map s x)) is ∙ step_commit limits st st.map s x found passes_commit
          ∙ ap {B = Stepped} (λ (q : Map). (at_rest q, reply.Ok ∷ [])) (sym (records_then x found))

      -- after the view so far, the session's turns over the committed records
      reaches : Before → (x : Session) → get st.sessions s ≡ Some x
          → run (run (at_rest m) (view k)) (mine s k) ≡ alone st.map s x
      reaches old x found =
          ap (λ (state : State). run state (mine s k)) old.all_runs
          ∙ old.runs s x found (at_rest st.map) (stands_alone old s x found)

      runs_commit : Before → (x : Session) → get st.sessions s ≡ Some x
          → run (at_rest m) (view (suc k)) ≡ at_rest next.map
      runs_commit old x found =
          ap (run (at_rest m)) view_then
          ∙ run-append limits m commands (at_rest m) (view k) (mine s k ++ k ∷ [])
          ∙ run-append limits m commands (run (at_rest m) (view k)) (mine s k) (k ∷ [])
          ∙ ap (λ (state : State). (step limits state c).0) (reaches old x found)
          ∙ ap (λ (p : Stepped). p.0) (commit_step x found)

      says_commit : Before → (x : Session) → get st.sessions s ≡ Some x → any_unlocked (view (suc k)) ≡ false
          → heard (at_rest m) (view (suc k)) ≡ told (view (suc k))
      says_commit old x found locks =
          let so_far = run (at_rest m) (view k) in
          let parts = locked_parts limits m commands (view k) (mine s k ++ k ∷ [])
          (ap any_unlocked (sym view_then) ∙ locks) in
          let own_parts = locked_parts limits m commands (mine s k) (k ∷ []) parts.1 in
          let turns_say : heard so_far (mine s k) ≡ told (mine s k) =
          ap (λ (state : State). heard state (mine s k)) old.all_runs
          ∙ old.says s x found own_parts.0 (at_rest st.map) (stands_alone old s x found) (λ j shared. refl) in
          let commit_says : heard (run so_far (mine s k)) (k ∷ []) ≡ told (k ∷ []) =
          ap (λ (state : State). (step limits state c).1 ∷ []) (reaches old x found)
          ∙ ap (λ (p : Stepped). p.1 ∷ []) (commit_step x found)
          ∙ ap (λ (d : Command). (accepted st d).1 ∷ []) (sym is)
          ∙ ap (λ (r : List Reply). r ∷ []) (sym reply_is) in
          ap (heard (at_rest m)) view_then
          ∙ joined limits m commands (at_rest m) (view k) (mine s k ++ k ∷ []) (old.all_says parts.0)
          (joined limits m commands so_far (mine s k) (k ∷ []) turns_say commit_says)
          ∙ ap told (sym view_then)

    -- ---- a batch

    -- the turns of its sessions, one session after the other
    abbrev turns_of : List ℕ → List ℕ
    turns_of ss = flat_map (λ s. mine s k) ss

    -- what they leave beside other sessions: each of them stands as it does in the whole run, and all others as before
    record Together (ss : List ℕ) (B : State) : Type 0 where
      after : State
      runs : run B (turns_of ss) ≡ after
      says : any_unlocked (turns_of ss) ≡ false → heard B (turns_of ss) ≡ told (turns_of ss)
      maps : after.map ≡ st.map
      those : (t : ℕ) → Contains ss t → get after.sessions t ≡ get st.sessions t
      others : (t : ℕ) → list_any (λ u. u == t) ss ≡ false → get after.sessions t ≡ get B.sessions t

    opened_at : (s : ℕ) → is_open_session st s ≡ true → (x : Session) × (get st.sessions s ≡ Some x)
    opened_at s e = go (get st.sessions s) refl
      where
        go : (o : Option Session) → get st.sessions s ≡ o → (x : Session) × (get st.sessions s ≡ Some x)
        go None none = (let shut : is_open_session st s ≡ false = ap is_some none in absurd (cc))
        go (Some x) found = (x, found)

    part_on : (B : State) (s : ℕ) (x : Session) → get st.sessions s ≡ Some x → PartOf B.sessions st.sessions
        → PartOf (with_session B s x).sessions st.sessions
    part_on B s x found part t y there = elim (cases_eq t s) [
      | inl same ↦
          ap (get st.sessions) same ∙ found
          ∙ sym (ap (get (with_session B s x).sessions) same ∙ get_inserted B.sessions s x) ∙ there
      | inr other ↦ part t y (sym (get_other B.sessions s t x other) ∙ there)
    ]

    together : Before → (ss : List ℕ) → Distinct ss → ((t : ℕ) → Contains ss t → is_open_session st t ≡ true) → (B : State)
        → B.map ≡ st.map → PartOf B.sessions st.sessions → ((t : ℕ) → Contains ss t → get B.sessions t ≡ None)
        → Together ss B
    together old [] each opens B maps part shut = record {
      after = B;
      runs = refl;
      says = λ e. refl;
      maps = maps;
      those = λ t at. absurd (omega (arith, at.1));
      others = λ t e. refl;
    }
    together old (s ∷ ss) each opens B maps part shut =
        let opened_is = opened_at s (opens s (first_in s ss)) in
        let x : Session = opened_is.0 in
        let found : get st.sessions s ≡ Some x = opened_is.1 in
        let free : Beside B s x = stands old B s x maps part found (shut s (first_in s ss)) in
        let first : run B (mine s k) ≡ with_session B s x = old.runs s x found B free in
        let rest : Together ss (with_session B s x) =
        together old ss each.1 (λ t at. opens t (later_in s ss t at)) (with_session B s x) maps
        (part_on B s x found part)
        (λ t at. get_other B.sessions s t x (λ same. each.0 (subst (λ (u : ℕ). Contains ss u) same at))
        ∙ shut t (later_in s ss t at)) in
        record {
          after = rest.after;
          runs =
              run-append limits m commands B (mine s k) (turns_of ss)
              ∙ ap (λ (state : State). run state (turns_of ss)) first ∙ rest.runs;
          says = λ locks.
              let parts = locked_parts limits m commands (mine s k) (turns_of ss) locks in
              joined limits m commands B (mine s k) (turns_of ss)
              (old.says s x found parts.0 B free (λ j shared. ap (λ (q : Map). get q j) maps))
              (ap (λ (state : State). heard state (turns_of ss)) first ∙ rest.says parts.1);
          maps = rest.maps;
          those = λ t at. elim (cases_Bool (list_any (λ u. u == t) ss)) [
            | inl later ↦ rest.those t (any_listed ss t later)
            | inr none ↦
                rest.others t none ∙ elim (first_or_later s ss t at) [
                  | inl same ↦
                      ap (get (with_session B s x).sessions) (sym same) ∙ get_inserted B.sessions s x
                      ∙ sym found ∙ ap (get st.sessions) same
                  | inr later ↦
                      let no : (t == t) ≡ false = any_fails (λ u. u == t) ss t none later in
                      absurd (both_ways (t == t) no (eq-eqb t t refl))
                ]
          ];
          others = λ t e.
              let parts = or_parts (s == t) (list_any (λ u. u == t) ss) e in
              rest.others t parts.1
              ∙ get_other B.sessions s t x (λ same. both_ways (s == t) parts.0 (eq-eqb s t (sym same)));
        }

    module _ (ss : List ℕ) (is : c ≡ command.Batch ss) where
      passes_batch : refusal_of limits st (command.Batch ss) ≡ None
      passes_batch = subst (λ (d : Command). refusal_of limits st d ≡ None) is none

      -- all its sessions, in the order named, over the committed records
      all_together : Before → Together ss (at_rest st.map)
      all_together old =
          let names = batches_name_once limits st ss passes_batch in
          together old ss (distinct ss names.once) names.opens (at_rest st.map) refl
          (λ t y there. absurd (none_open t y there)) (λ t at. get-empty nat_cmp t)

      view_batch : view (suc k) ≡ view k ++ (turns_of ss ++ k ∷ [])
      view_batch =
          serial_more limits m commands k
          ∙ ap (λ (l : List ℕ). view k ++ l) (batch_turns limits m commands k ss ok is)

      batch_step : (a : Together ss (at_rest st.map)) → Gives (step limits a.after c) (at_rest next.map) (reply.Ok ∷ [])
      batch_step a =
          let maps : (after_batch a.after ss).map ≡ next.map =
          same_records a.after st ss a.maps a.those ∙ ap (λ (d : Command). (accepted st d).0.map) (sym is) in
          let closed : after_batch a.after ss ≡ at_rest next.map =
          at_rest_is (after_batch a.after ss) next.map maps (λ q. closes ss a.after q
          (elim (cases_Bool (list_any (λ u. u == q) ss)) [
            | inl its ↦ inr (any_listed ss q its)
            | inr not_its ↦ inl (a.others q not_its ∙ get-empty nat_cmp q)
          ])) in
          ap (step limits a.after) is
          ∙ step_accepted limits a.after (command.Batch ss)
          (refused_alike limits a.after st ss a.those ∙ passes_batch)
          ∙ ap {B = Stepped} (λ (state : State). (state, reply.Ok ∷ [])) closed

      runs_batch : Before → run (at_rest m) (view (suc k)) ≡ at_rest next.map
      runs_batch old =
          let a = all_together old in
          ap (run (at_rest m)) view_batch
          ∙ run-append limits m commands (at_rest m) (view k) (turns_of ss ++ k ∷ [])
          ∙ run-append limits m commands (run (at_rest m) (view k)) (turns_of ss) (k ∷ [])
          ∙ ap (λ (state : State). (step limits state c).0)
          (ap (λ (state : State). run state (turns_of ss)) old.all_runs ∙ a.runs)
          ∙ ap (λ (p : Stepped). p.0) (batch_step a)

      says_batch : Before → any_unlocked (view (suc k)) ≡ false
          → heard (at_rest m) (view (suc k)) ≡ told (view (suc k))
      says_batch old locks =
          let a = all_together old in
          let so_far = run (at_rest m) (view k) in
          let parts = locked_parts limits m commands (view k) (turns_of ss ++ k ∷ [])
          (ap any_unlocked (sym view_batch) ∙ locks) in
          let own_parts = locked_parts limits m commands (turns_of ss) (k ∷ []) parts.1 in
          let turns_say : heard so_far (turns_of ss) ≡ told (turns_of ss) =
          ap (λ (state : State). heard state (turns_of ss)) old.all_runs ∙ a.says own_parts.0 in
          let batch_says : heard (run so_far (turns_of ss)) (k ∷ []) ≡ told (k ∷ []) =
          ap (λ (state : State). (step limits state c).1 ∷ [])
          (ap (λ (state : State). run state (turns_of ss)) old.all_runs ∙ a.runs)
          ∙ ap (λ (p : Stepped). p.1 ∷ []) (batch_step a)
          ∙ ap (λ (d : Command). (accepted st d).1 ∷ []) (sym is)
          ∙ ap (λ (r : List Reply). r ∷ []) (sym reply_is) in
          ap (heard (at_rest m)) view_batch
          ∙ joined limits m commands (at_rest m) (view k) (turns_of ss ++ k ∷ []) (old.all_says parts.0)
          (joined limits m commands so_far (turns_of ss) (k ∷ []) turns_say batch_says)
          ∙ ap told (sym view_batch)

    abbrev ViewServes : Type 0
    ViewServes = (run (at_rest m) (view (suc k)) ≡ at_rest next.map)
        × (any_unlocked (view (suc k)) ≡ false → heard (at_rest m) (view (suc k)) ≡ told (view (suc k)))

    all_on : Before → ViewServes
    all_on old = go (commit_case c)
      where
        go : (is_commit c ≡ false) ⊎ (((s : ℕ) × (c ≡ command.Commit s)) ⊎ ((ss : List ℕ) × (c ≡ command.Batch ss)))
            → ViewServes
        go (inl e) =
            let quiet = serial_same limits m commands k (inr e) in (
              ap (run (at_rest m)) quiet ∙ old.all_runs ∙ ap at_rest (sym (records_kept st c e)),
              λ locks. ap (heard (at_rest m)) quiet ∙ old.all_says (ap any_unlocked (sym quiet) ∙ locks)
                  ∙ ap told (sym quiet),
            )
        go (inr (inl (s, is))) =
            let open_is = committer_open limits st s (passes_commit s is) in
            (runs_commit s is old open_is.0 open_is.1, says_commit s is old open_is.0 open_is.1)
        go (inr (inr (ss, is))) = (runs_batch ss is old, says_batch ss is old)

    passed : Before → Serves next (λ s. mine s (suc k)) (view (suc k))
    passed old = record {
      locked = locks_kept limits st c none old.locked;
      sole = sole_kept limits st c none old.sole;
      light = units_kept limits st c none old.light;
      filled = filled_kept limits st c none old.filled;
      runs = runs_on old;
      says = says_on old;
      all_runs = (all_on old).0;
      all_says = (all_on old).1;
    }

    passes_on : at k → at (suc k)
    passes_on old =
        same limits m commands _ _ _ _ _ _ (met_accepted limits m commands k ok) (λ s. refl) refl (passed old)

  -- ---- the laws

  always : (k : ℕ) → at k
  always zero = start limits m commands
  always (suc k) = elim (cases_Bool (is_accepted limits m commands k)) [
    | inl ok ↦ passes_on k ok (always k)
    | inr not_ok ↦ refused limits m commands k not_ok (always k)
  ]

  pub leaves_the_same : run (at_rest m) (serial limits m commands) ≡ at_rest (after_all limits (at_rest m) commands).map
  leaves_the_same =
      let old : at (length commands) = always (length commands) in
      old.all_runs ∙ ap (λ (state : State). at_rest state.map) (met_last limits m commands)

  pub replies_the_same : any_unlocked (serial limits m commands) ≡ false
      → heard (at_rest m) (serial limits m commands) ≡ told (serial limits m commands)
  replies_the_same locks =
      let old : at (length commands) = always (length commands) in
      old.all_says locks
