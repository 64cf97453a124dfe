-- What a commit commits: all that its session did since it began, with no end between.
use Rattle.std.proofs.Common.{◌≡◌, ◌⊎◌, inl, inr, ℕ, zero, suc, ◌+◌, ◌-◌, ◌<◌, ◌≤◌, Bool, true, false, cond, ◌==◌, ◌&&◌, ◌||◌, List, [], ◌∷◌, ◌++◌, Option, Some, None, refl, sym, ◌∙◌, ap, subst, arith}
use Rattle.std.specs.Prelude.{filter, is_some}
use Rattle.std.specs.List.{range_with_len, list_any, Contains}
use Rattle.std.specs.FinMap.{get}
use Rattle.std.proofs.lemmas.Bool.{cases_Bool, cases_lt, and_left, and_right, eq-eqb, ne_eqb, both_ways}
use Rattle.ipl_model.specs.State.{Map, Session, State, Limits}
use Rattle.ipl_model.specs.declared.command.Command.{Command}
use Rattle.ipl_model.specs.declared.command.Command.TheVariants as command
use Rattle.ipl_model.specs.Step.{refusal_of, accepted}
use Rattle.serial_view.specs.Serial.{command_at, met_at, is_accepted, is_turn, begins, turns, committed_at}
use Rattle.serial_view.specs.Laws.{ends, commits, IsTransaction, BatchesCommitTransactions}
use Rattle.serial_view.proofs.SessionLemmas.{none_open}
use Rattle.serial_view.proofs.SessionStepLemmas.{own, After, how, closed, worker_commits, committer_open}
use Rattle.ipl_model.proofs.RuleBatchLemmas.{first_in, later_in, batches_name_once, any_fails}
use Rattle.serial_view.proofs.LockLemmas.{not_named}
use Rattle.serial_view.proofs.TurnLemmas.{turn_is, begins_is, commits_turns, batch_turns}
use Rattle.serial_view.proofs.MetLemmas.{met_accepted, met_refused, passes}
use Rattle.serial_view.proofs.FilterLemmas.{filter_more}
use Rattle.serial_view.proofs.BeganLemmas.{Since, goes_on, begins_here}

-- a command after which a session is open didn't end it
not_ended : (state : State) (c : Command) (s : ℕ) (y : Session) → get (accepted state c).0.sessions s ≡ Some y
    → ends s c ≡ false
not_ended state (command.Commit t) s y found = (closed state t s y found).1
not_ended state (command.Batch ss) s y found = none_named ss (λ t at. not_named ss state s t y found at)
  where
    none_named : (ss : List ℕ) → ((t : ℕ) → Contains ss t → t ≡ s → ⊥) → list_any (λ t. t == s) ss ≡ false
    none_named [] none = refl
    none_named (t ∷ ss) none =
        ap (λ (b : Bool). b || list_any (λ t. t == s) ss) (ne_eqb t s (none t (first_in t ss)))
        ∙ none_named ss (λ u at. none u (later_in t ss u at))
not_ended state (command.Abort t) s y found = (closed state t s y found).1
not_ended state command.Restart s y found = absurd (none_open s y found)
not_ended state other s y found = refl

module _ (limits : Limits) (m : Map) (commands : List Command) where
  abbrev c : ℕ → Command
  c k = command_at commands k

  abbrev met : ℕ → State
  met k = met_at limits m commands k

  -- an accepted command at the position ends what session s has open
  abbrev ends_at : ℕ → ℕ → Bool
  ends_at s k = is_accepted limits m commands k && ends s (c k)

  -- where an open session began
  record Opened (s k first : ℕ) : Type 0 where
    before : first < k
    begun : begins limits m commands s first ≡ true
    unended : (j : ℕ) → first < j → j < k → ends_at s j ≡ false
    since : Since limits m commands s k first

  -- it goes on over a command that doesn't end it
  longer : (s k first : ℕ) → Opened s k first → ends_at s k ≡ false → Since limits m commands s (suc k) first
      → Opened s (suc k) first
  longer s k first old not_here since = record {
    before = omega (arith, old.before);
    begun = old.begun;
    unended = λ j after_first within. go j after_first within (cases_lt j k);
    since = since;
  }
    where
      go : (j : ℕ) → first < j → j < suc k → (j < k) ⊎ (k ≤ j) → ends_at s j ≡ false
      go j after_first within (inl earlier) = old.unended j after_first earlier
      go j after_first within (inr later) =
          let here : k ≡ j = omega arith in
          subst (λ (i : ℕ). ends_at s i ≡ false) here not_here

  -- each open session began somewhere
  abbrev HasBegun : ℕ → ℕ → Type 0
  HasBegun s k = (x : Session) → get (met k).sessions s ≡ Some x → (first : ℕ) × Opened s k first

  begun_on : (k s : ℕ) → is_accepted limits m commands k ≡ true → HasBegun s k → HasBegun s (suc k)
  begun_on k s ok earlier x found = go (how (met k) (c k) s x found_now)
    where
      found_now : get (accepted (met k) (c k)).0.sessions s ≡ Some x
      found_now = ap (λ (state : State). get state.sessions s) (sym (met_accepted limits m commands k ok)) ∙ found

      not_here : ends_at s k ≡ false
      not_here = and_right _ _ (not_ended (met k) (c k) s x found_now)

      go : After (met k) (c k) s x → (first : ℕ) × Opened s (suc k) first
      go (inl a) =
          let old = earlier x a.0 in
          let no_turn = turn_is limits m commands s k false ok a.1 in
          (old.0, longer s k old.0 old.1 not_here (goes_on limits m commands s k old.0 (inr no_turn) old.1.since))
      go (inr (inl b)) = (
        k,
        record {
          before = omega arith;
          begun = begins_is limits m commands s k ok b.0;
          unended = λ j after_first within. absurd (omega arith);
          since = begins_here limits m commands s k ok b.0;
        },
      )
      go (inr (inr w)) =
          let old = earlier w.0 w.1 in
          let calm = (worker_commits (c k) s w.2).1 in
          (old.0, longer s k old.0 old.1 not_here (goes_on limits m commands s k old.0 (inl calm) old.1.since))

  opened : (k s : ℕ) → HasBegun s k
  opened zero s x found = absurd (none_open s x found)
  opened (suc k) s x found = go (cases_Bool (is_accepted limits m commands k)) (opened k s)
    where
      go : (is_accepted limits m commands k ≡ true) ⊎ (is_accepted limits m commands k ≡ false) → HasBegun s k
          → (first : ℕ) × Opened s (suc k) first
      go (inr not_ok) earlier =
          let same = met_refused limits m commands k not_ok in
          let old = earlier x (ap (λ (state : State). get state.sessions s) (sym same) ∙ found) in
          let since = goes_on limits m commands s k old.0 (inr (and_left _ _ not_ok)) old.1.since in
          (old.0, longer s k old.0 old.1 (and_left _ _ not_ok) since)
      go (inl ok) earlier = begun_on k s ok earlier x found

  pub commits_transactions : (s last : ℕ) → is_accepted limits m commands last ≡ true → c last ≡ command.Commit s
      → (first : ℕ) × IsTransaction limits m commands s first last
      × (committed_at limits m commands last
      ≡ filter (is_turn limits m commands s) (range_with_len first (last + 1 - first)))
  commits_transactions s last ok is =
      let passes_here = subst (λ (d : Command). refusal_of limits (met last) d ≡ None) is
      (passes limits m commands last ok) in
      let open_is = committer_open limits (met last) s passes_here in
      let o = opened last s open_is.0 open_is.1 in
      let turn = turn_is limits m commands s last true ok (ap (own s) is ∙ eq-eqb s s refl) in (
        o.0,
        record { before = o.1.before; begun = o.1.begun; committed = (ok, ap (commits s) is ∙ eq-eqb s s refl); unended = o.1.unended },
        commits_turns limits m commands last s ok is
            ∙ ap (λ (l : List ℕ). l ++ last ∷ []) o.1.since.turns_are
            ∙ ap (λ (t : Bool). filter (is_turn limits m commands s) (range_with_len o.0 (last - o.0))
            ++ cond t (last ∷ []) []) (sym turn)
            ∙ sym (filter_more (is_turn limits m commands s) o.0 last (omega (arith, o.1.before))),
      )

  -- so does a batch that of each of its sessions
  pub batch_transactions : (ss : List ℕ) (last : ℕ) → is_accepted limits m commands last ≡ true
      → c last ≡ command.Batch ss → (s : ℕ) → Contains ss s → (first : ℕ) × IsTransaction limits m commands s first last
      × (turns limits m commands s last ≡ filter (is_turn limits m commands s) (range_with_len first (last - first)))
  batch_transactions ss last ok is s at =
      let passes_here = subst (λ (d : Command). refusal_of limits (met last) d ≡ None) is
      (passes limits m commands last ok) in
      let names = batches_name_once limits (met last) ss passes_here in
      let open_is = opened_by (get (met last).sessions s) refl (names.opens s at) in
      let o = opened last s open_is.0 open_is.1 in (
        o.0,
        record {
          before = o.1.before;
          begun = o.1.begun;
          committed = (ok, ap (commits s) is ∙ named ss at);
          unended = o.1.unended;
        },
        o.1.since.turns_are,
      )
    where
      opened_by : (q : Option Session) → get (met last).sessions s ≡ q → is_some (get (met last).sessions s) ≡ true
          → (x : Session) × (get (met last).sessions s ≡ Some x)
      opened_by None none e = (let shut : is_some (get (met last).sessions s) ≡ false = ap is_some none in absurd (cc))
      opened_by (Some x) found e = (x, found)

      named : (ss : List ℕ) → Contains ss s → list_any (λ t. t == s) ss ≡ true
      named ss at = any_at (list_any (λ t. t == s) ss) refl
        where
          any_at : (b : Bool) → list_any (λ t. t == s) ss ≡ b → list_any (λ t. t == s) ss ≡ true
          any_at true e = e
          any_at false e =
              let none : (s == s) ≡ false = any_fails (λ t. t == s) ss s e at in
              absurd (both_ways (s == s) none (eq-eqb s s refl))

pub batches_transactions : BatchesCommitTransactions
batches_transactions limits m commands ss last ok is =
    (batch_turns limits m commands last ss ok is, λ s at. batch_transactions limits m commands ss last ok is s at)
