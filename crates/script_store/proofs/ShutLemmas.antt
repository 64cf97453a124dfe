-- A store that is put down keeps the records.
use Rattle.std.proofs.Common.{ℕ, ◌≡◌, ◌≤◌, ◌<◌, ◌+◌, ◌++◌, max, ◌⊎◌, inl, inr, arith, true, false, Result, Ok, Err, MatchResult, IsErrOf, is_ok, refl, sym, subst}
use Rattle.std.proofs.lemmas.Bool.{false≢true}
use Rattle.std.proofs.lemmas.Result.{IfErr-weaker, on_ok_weaker}
use Rattle.chip_trait.specs.Story.{Contents}
use Rattle.chip_trait.specs.Told.{History, Told, adds_all}
use Rattle.ipl_model.specs.State.{Map, State, Limits}
use Rattle.ipl_model.specs.declared.command.Command.TheVariants as command
use Rattle.ipl_model.specs.declared.reply.Reply.{Reply}
use Rattle.ipl_meaning.specs.Legible.{of}
use Rattle.ipl_meaning.specs.Chart.{chart_of}
use Rattle.ipl_meaning.specs.Rests.{StoryRests}
use Rattle.ipl_meaning.specs.Stands.{StandsIn}
use Rattle.store_trait.specs.declared.fault.Fault.{Fault}
use Rattle.store_trait.specs.declared.fault.Fault.TheVariants.{Spent}
use Rattle.store_trait.specs.Behind.{KeepsBehind, WorksBehind}
use Rattle.store_trait.specs.Keeping.{FOUND_NUMBER, LAST_NUMBER, WORK_DRAWS, StaysMet, Draws, Excuses}
use Rattle.store_trait.proofs.TidyLemmas.{tidy_then}
use Rattle.ipl_store.specs.declared.store.Store.{Store}
use Rattle.ipl_store.specs.Calls.{counter_of}
use Rattle.script_store.specs.declared.store.ScriptStore.{ScriptStore}
use Rattle.script_store.specs.Closes.{Aborts}
use Rattle.store_laws.specs.Keeps.{KnownPages}
use Rattle.script_store.specs.Met.{FaultMet}
use Rattle.script_store.specs.Keeps.{KeepsScript, next_number, script_keeping, DoesCommand}
use Rattle.script_store.proofs.KeepLemmas.{counted_up, counted_few}
use Rattle.script_store.proofs.PartLemmas.{added_then, leaves_then, leaves_weaker, leaves_failed}

-- the store, put down
abbrev pub shut : Store → ScriptStore
shut store = record { store = record store { down = true } }

-- ---- what it keeps

-- a state with the same records
pub shut_keeps : (known : KnownPages) (places : ℕ) (limits : Limits) (s : ScriptStore) (t : Told) (h : History) (now state : State)
    → now.map ≡ state.map → KeepsScript places known limits s t h now → KeepsScript places known limits (shut s.store) t h state
shut_keeps known places limits s t h now state same keeps =
    let rests = subst (λ (m : Map). (rests : StoryRests places (of known.pages m) h) × (rests.each.0 ≡ s.store.units)) same
    (keeps.kept.rests, keeps.kept.many) in record {
      kept = record {
        limits_are = keeps.kept.limits_are;
        steady = keeps.kept.steady;
        rests = rests.0;
        many = rests.1;
        up = λ runs. absurd (cc runs);
      };
      few = keeps.few;
    }

-- it draws no number
draws_none : (known : KnownPages) (places n : ℕ) (a b m : ScriptStore) (c : Store) (WasSpent IsSpent : Type 0) → (IsSpent → WasSpent)
    → Draws (script_keeping places known) n m WasSpent b → counter_of m.store ≤ counter_of a.store → a.store.down ≡ false
    → Draws (script_keeping places known) n a IsSpent (shut c)
draws_none known places n a b m c WasSpent IsSpent was draws fewer up = record {
  most = omega arith;
  spent = λ is. longer (next_number m) (next_number a) FOUND_NUMBER LAST_NUMBER n few (draws.spent (was is));
}
  where
    few : next_number m ≤ next_number a
    few = omega (arith, counted_few m, counted_up a up, fewer)

    longer : (m a b n k : ℕ) → m ≤ a → n < max m b + k → n < max a b + k
    longer m a b n k few late = omega (arith, few, late)

-- ---- work that failed

module _ (known : KnownPages) (m mid : ScriptStore) (before after : Told) (fault : Fault) (up : m.store.down ≡ false)
    (does : DoesCommand known command.Syntax m before (Err fault) mid after) where
  -- what it would have left is what was
  either : (limits : Limits) (state : State) (x : Contents)
      → StandsIn before.places limits.units (chart_of x) (of known.pages state.map)
      ⊎ StandsIn before.places limits.units (chart_of x) (of known.pages state.map)
      → StandsIn before.places limits.units (chart_of x) (of known.pages state.map)
  either limits state x (inl is) = is
  either limits state x (inr is) = is

  failed_keeps : (limits : Limits) (state : State) (h : History)
      → KeepsScript before.places known limits m before h state
      → KeepsBehind (script_keeping before.places known) limits state m h (Err fault) (shut mid.store) before after
  failed_keeps limits state h keeps =
      let did = does.works limits state h keeps in
      let P : Contents → Type 0 = λ x. StandsIn before.places limits.units (chart_of x) (of known.pages state.map) in record {
        leaves = leaves_failed (script_keeping before.places known) P m mid (shut mid.store) h before after
            (leaves_weaker (script_keeping before.places known) (λ x. P x ⊎ P x) P m mid h before after false
            (either limits state) did.leaves);
        ends = λ unrisen. (
          shut_keeps known before.places limits mid after (adds_all did.leaves.added h) state state refl (did.ends unrisen).0,
          (did.ends unrisen).1,
        );
        drawn = omega arith;
        excuse = did.excuse;
        tells = did.tells;
      }

  pub failed_behind : WorksBehind (script_keeping before.places known) m before (Err fault) (shut mid.store) after
  failed_behind = record {
    keeps = failed_keeps;
    tidy = record {
      added = does.tidy.added;
      history = does.tidy.history;
      lawful = does.tidy.lawful;
      clean = λ is. absurd (false≢true is);
    };
    draws = draws_none known before.places WORK_DRAWS m mid m mid.store (IsErrOf {T = Reply} (Err fault) Spent)
        (IsErrOf {T = Unit {0}} (Err fault) Spent) also_spent does.draws (omega arith) up;
    learns = λ entry knows. does.learns entry knows;
    recalls = tt;
    counts = does.counts;
    cause = does.cause;
  }
    where
      also_spent : IsErrOf {T = Unit {0}} (Err fault) Spent → IsErrOf {T = Reply} (Err fault) Spent
      also_spent is =
          let same : fault ≡ Spent = cc is in
          subst (λ (f : Fault). IsErrOf {T = Reply} (Err f) Spent) (sym same) refl

-- ---- behind sessions that were aborted

module _ (known : KnownPages) (a m : ScriptStore) (c : Store) (before after : Told) (result : Result (Unit {0}) Fault)
    (up : a.store.down ≡ false) (aborted : Aborts known a before m)
    (did : WorksBehind (script_keeping before.places known) m before result (shut c) after) where
  excuse_longer : (fault : Fault) → Excuses (script_keeping before.places known) WORK_DRAWS m before after fault
      → Excuses (script_keeping before.places known) WORK_DRAWS a before after fault
  excuse_longer fault excuse few whole =
      let fewer = aborted.drawn in excuse (omega (arith, few, fewer, counted_few m, counted_up a up)) whole

  keeps_records : (limits : Limits) (state : State) (h : History)
      → KeepsScript before.places known limits a before h state
      → KeepsBehind (script_keeping before.places known) limits state a h result (shut c) before after
  keeps_records limits state h keeps =
      let first = aborted.keeps limits state h keeps in
      let k = adds_all first.leaves.added h in
      let more = did.keeps limits first.now k first.keeps in
      let P : Contents → Type 0 = λ x. StandsIn before.places limits.units (chart_of x) (of known.pages state.map) in record {
        leaves = leaves_then (script_keeping before.places known) P a m (shut c) h before before after (is_ok result)
            first.leaves
            (leaves_weaker (script_keeping before.places known)
            (λ x. StandsIn before.places limits.units (chart_of x) (of known.pages first.now.map)) P m (shut c) k before after
            (is_ok result) (λ x. subst (λ (r : Map). StandsIn before.places limits.units (chart_of x) (of known.pages r)) first.records) more.leaves);
        ends = by_end result (adds_all more.leaves.added k) (adds_all (more.leaves.added ++ first.leaves.added) h)
            first.now first.records (added_then more.leaves.added first.leaves.added h) more.ends;
        drawn = omega arith;
        excuse = IfErr-weaker result
            (Excuses (script_keeping before.places known) WORK_DRAWS m before after)
            (Excuses (script_keeping before.places known) WORK_DRAWS a before after) excuse_longer more.excuse;
        tells = more.tells;
      }
    where
      by_end : (r : Result (Unit {0}) Fault) (k l : History) (now : State) → now.map ≡ state.map → k ≡ l
          → MatchResult r
          (λ _. KeepsScript before.places known limits (shut c) after k now)
          (λ fault. StaysMet (script_keeping before.places known) limits (shut c) before after fault k now)
          → MatchResult r
          (λ _. KeepsScript before.places known limits (shut c) after l state)
          (λ fault. StaysMet (script_keeping before.places known) limits (shut c) before after fault l state)
      by_end (Ok v) k l now same is ends = subst (λ (h : History). KeepsScript before.places known limits (shut c) after h state) is
          (shut_keeps known before.places limits (shut c) after k now state same ends)
      by_end (Err fault) k l now same is stays = λ unrisen. (
        subst (λ (h : History). KeepsScript before.places known limits (shut c) after h state) is
            (shut_keeps known before.places limits (shut c) after k now state same (stays unrisen).0),
        subst (λ (h : History). FaultMet before.places after h fault) is (stays unrisen).1,
      )

  pub aborted_behind : WorksBehind (script_keeping before.places known) a before result (shut c) after
  aborted_behind = record {
    keeps = keeps_records;
    tidy = tidy_then (script_keeping before.places known) a m (shut c) before before after (is_ok result) aborted.tidy did.tidy;
    draws = draws_none known before.places WORK_DRAWS a (shut c) m c _ _ (λ is. is) did.draws aborted.drawn up;
    learns = λ entry knows. did.learns entry (aborted.knows entry knows);
    recalls = on_ok_weaker result (λ still entry recalled. still entry (aborted.recalls entry recalled))
        did.recalls;
    counts = did.counts;
    cause = did.cause;
  }
