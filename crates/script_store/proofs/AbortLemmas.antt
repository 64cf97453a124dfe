-- Sessions are aborted, one after another.
use Rattle.std.proofs.Common.{ℕ, ◌≡◌, ◌≤◌, ◌<◌, ◌+◌, ◌⊎◌, inl, inr, arith, Bool, true, [], ◌∷◌, Option, Some, None, Result, Ok, Err, IfErr, OnOk, if◌then◌else◌, refl, sym, ◌∙◌, ap, subst, length}
use Rattle.std.specs.Option.{option_map_or}
use Rattle.chip_trait.specs.Chart.{says}
use Rattle.chip_trait.specs.Moment.{Leaves}
use Rattle.chip_trait.specs.Story.{Contents}
use Rattle.chip_trait.specs.Told.{History, Told, adds_all}
use Rattle.chip_trait.proofs.HistoryLemmas.{same_history}
use Rattle.chip_trait.proofs.LawfulLemmas.{lawful_none, clean_none}
use Rattle.chip_trait.proofs.MomentLemmas.{at_start}
use Rattle.ipl_base.specs.declared.fault.Refusal.{Refusal}
use Rattle.ipl_base.specs.declared.fault.StoreFault.{StoreFault}
use Rattle.ipl_base.specs.declared.fault.StoreFault.TheVariants as store
use Rattle.ipl_model.specs.Operations.{after_abort}
use Rattle.ipl_model.specs.Refusals.{refuses_end}
use Rattle.ipl_model.specs.State.{Map, State, Limits}
use Rattle.ipl_format.specs.Sector.{sector_in}
use Rattle.ipl_model.specs.declared.command.Command.TheVariants as command
use Rattle.ipl_model.specs.declared.reply.Reply.TheVariants as reply
use Rattle.ipl_model.specs.Step.{Stepped, step}
use Rattle.ipl_meaning.specs.Legible.{of}
use Rattle.ipl_meaning.specs.Chart.{chart_of}
use Rattle.ipl_meaning.specs.Stands.{StandsIn}
use Rattle.ipl_meaning.specs.Tables.{IsCountedClean}
use Rattle.record_locks.specs.Held.{SessionSlots, after_end}
use Rattle.record_locks.specs.Standing.{state_of}
use Rattle.store_trait.proofs.UnusedLemmas.{unused_none}
use Rattle.store_trait.specs.Keeping.{WorkLeaves}
use Rattle.store_trait.proofs.TidyLemmas.{tidy_same, tidy_then}
use Rattle.store_laws.specs.Keeps.{KnownPages, keeps_each}
use Rattle.ipl_store.specs.declared.store.Store.{Store}
use Rattle.ipl_store.specs.Calls.{Calls, view_of, counter_of, down_fault, early_fault, limits_of_store}
use Rattle.script_store.specs.declared.store.ScriptStore.{ScriptStore}
use Rattle.script_store.specs.Closes.{Aborts, KeepsRecords}
use Rattle.script_store.specs.Keeps.{IsRunning, KeepsScript, script_keeping, DoesCommand}
use Rattle.script_store.proofs.ClosedLemmas.{AreClosedBelow, ended_more, refused_more}
use Rattle.script_store.proofs.PartLemmas.{added_then, leaves_then, leaves_weaker}
use Rattle.script_store.proofs.WorkLemmas.{ends_do}

-- ---- an abort

-- keeps the records, refused or done
abort_keeps : (limits : Limits) (state : State) (s : ℕ) → (step limits state (command.Abort s)).0.map ≡ state.map
abort_keeps limits state s = by_refusal (refuses_end limits state s)
  where
    by_refusal : (o : Option Refusal)
        → (option_map_or {T = Refusal} {U = Stepped} (λ refusal. (state, reply.Refused refusal ∷ [])) o
        (after_abort state s, reply.Ok ∷ [])).0.map ≡ state.map
    by_refusal None = refl
    by_refusal (Some r) = refl

-- ---- none was aborted

module _ (known : KnownPages) (a : ScriptStore) (told : Told) where
  abbrev nothing_left : (limits : Limits) (state : State) (h : History) → KeepsScript told.places known limits a told h state
      → WorkLeaves (script_keeping told.places known) (λ x. StandsIn told.places limits.units (chart_of x) (of known.pages state.map)) a h a
      told told true
  nothing_left limits state h keeps = record {
    added = [];
    history = same_history told.history;
    each_moment = at_start (Leaves (says sector_in) (λ x. StandsIn told.places limits.units (chart_of x) (of known.pages state.map)) h)
        (keeps_each told.places known.pages limits (view_of a.store) told h state keeps.kept);
    silent = refl;
    only = tt;
    lawful = lawful_none (IsCountedClean (view_of a.store).memory.tables);
    clean = λ _. clean_none (IsCountedClean (view_of a.store).memory.tables);
    unused = unused_none (script_keeping told.places known) a h true;
  }

  pub aborts_none : IsRunning told.places a → Aborts known a told a
  aborts_none runs = record {
    running = runs;
    keeps = λ limits state h keeps. record {
      leaves = nothing_left limits state h keeps;
      now = state;
      records = refl;
      keeps = keeps;
    };
    tidy = tidy_same (script_keeping told.places known) a told told true refl;
    drawn = omega arith;
    knows = λ entry knows. knows;
    recalls = λ entry recalled. recalled;
  }

-- ---- one more was aborted

module _ (known : KnownPages) (a m b : ScriptStore) (told : Told) (s : ℕ) (so_far : Aborts known a told m) where
  -- it keeps the records that were kept so far
  keeps_more : DoesCommand known (command.Abort s) m told (Ok reply.Ok) b told → (limits : Limits) (state : State) (h : History)
      → KeepsScript told.places known limits a told h state → KeepsRecords known limits state a h b told
  keeps_more does limits state h keeps =
      let first = so_far.keeps limits state h keeps in
      let did = does.works limits first.now (adds_all first.leaves.added h) first.keeps in
      let last = (step limits first.now (command.Abort s)).0 in
      let same : last.map ≡ state.map = abort_keeps limits first.now s ∙ first.records in record {
        leaves = leaves_then (script_keeping told.places known)
            (λ x. StandsIn told.places limits.units (chart_of x) (of known.pages state.map)) a m b h told told told true first.leaves
            (leaves_weaker (script_keeping told.places known)
            (λ x. StandsIn told.places limits.units (chart_of x) (of known.pages first.now.map)
            ⊎ StandsIn told.places limits.units (chart_of x) (of known.pages last.map))
            (λ x. StandsIn told.places limits.units (chart_of x) (of known.pages state.map)) m b (adds_all first.leaves.added h)
            told told true (λ x. either limits state first.now.map last.map first.records same x) did.leaves);
        now = last;
        records = same;
        keeps = subst (λ (k : History). KeepsScript told.places known limits b told k last)
            (added_then did.leaves.added first.leaves.added h) did.ends.0;
      }
    where
      either : (limits : Limits) (state : State) (m n : Map) → m ≡ state.map → n ≡ state.map → (x : Contents)
          → StandsIn told.places limits.units (chart_of x) (of known.pages m) ⊎ StandsIn told.places limits.units (chart_of x) (of known.pages n)
          → StandsIn told.places limits.units (chart_of x) (of known.pages state.map)
      either limits state m n one other x (inl is) = subst (λ (r : Map). StandsIn told.places limits.units (chart_of x) (of known.pages r)) one is
      either limits state m n one other x (inr is) = subst (λ (r : Map). StandsIn told.places limits.units (chart_of x) (of known.pages r)) other is

  done_more : DoesCommand known (command.Abort s) m told (Ok reply.Ok) b told → counter_of b.store ≤ counter_of m.store
      → Aborts known a told b
  done_more does few = record {
    running = does.running;
    keeps = keeps_more does;
    tidy = tidy_then (script_keeping told.places known) a m b told told told true so_far.tidy does.tidy;
    drawn = let before = so_far.drawn in omega (arith, before, few);
    knows = λ entry knows. does.learns entry (so_far.knows entry knows);
    recalls = λ entry recalled. does.recalls refl entry (so_far.recalls entry recalled);
  }

-- ---- a call

-- of the chip, which told the same and wasn't asked
pub calls_idle : (m b : ScriptStore) (told mid after : Told) (s : ℕ) (result : Result (Unit {0}) StoreFault)
    → mid ≡ told → after ≡ mid
    → Calls (early_fault (down_fault m.store) (refuses_end (limits_of_store m.store)
    (state_of m.store.transactions.sessions) s)) (λ state. after_abort state s) 0 m.store mid result b.store after
    → Calls (early_fault (down_fault m.store) (refuses_end (limits_of_store m.store)
    (state_of m.store.transactions.sessions) s)) (λ state. after_abort state s) 0 m.store told result b.store told
calls_idle m b told mid after s result first second calls =
    let early = early_fault (down_fault m.store) (refuses_end (limits_of_store m.store)
    (state_of m.store.transactions.sessions) s) in
    subst (λ (t : Told). Calls early (λ state. after_abort state s) 0 m.store t result b.store t) first
    (subst (λ (t : Told). Calls early (λ state. after_abort state s) 0 m.store mid result b.store t) second calls)

module _ (known : KnownPages) (a m b : ScriptStore) (told : Told) (s : ℕ) (result : Result (Unit {0}) StoreFault)
    (so_far : Aborts known a told m) where
  abbrev refusal : Option Refusal
  refusal = refuses_end (limits_of_store m.store) (state_of m.store.transactions.sessions) s

  abbrev early : Option StoreFault
  early = early_fault (down_fault m.store) refusal

  abbrev Called : Result (Unit {0}) StoreFault → Type 0
  Called r = Calls early (λ state. after_abort state s) 0 m.store told r b.store told

  -- that was done draws no number
  drawn_none : (v : Unit {0}) → Called (Ok v) → counter_of b.store ≤ counter_of m.store
  drawn_none v calls = by_early early refl
    where
      by_early : (o : Option StoreFault) → early ≡ o → counter_of b.store ≤ counter_of m.store
      by_early (Some fault) is = let answer = (calls.refuses fault is).0 in absurd (cc answer)
      by_early None is = let drawn = (calls.serves is).drawn in omega (arith, drawn)

  pub aborts_more : Called result → IfErr result (λ fault. early ≡ Some fault) → Aborts known a told b
  aborts_more calls fails = by_result result calls fails
    where
      by_result : (r : Result (Unit {0}) StoreFault) → Called r → IfErr r (λ fault. early ≡ Some fault) → Aborts known a told b
      by_result (Ok v) calls fails =
          done_more known a m b told s so_far
          (ends_do known (λ v. reply.Ok) (command.Abort s) refusal (λ state. after_abort state s) 0 m b told told (Ok v)
          so_far.running (omega arith) refl (λ state. refl) (λ state. refl) (λ state x told shown. refl) calls)
          (drawn_none v calls)
      by_result (Err fault) calls early_is = subst (λ (st : Store). Aborts known a told (record { store = st }))
          (sym (calls.refuses fault early_is).1) so_far

  -- and one session more is closed
  pub closed_more : s < length m.store.transactions.sessions → Called result → IfErr result (λ fault. early ≡ Some fault)
      → OnOk result (b.store.transactions.sessions ≡ after_end m.store.transactions.sessions s)
      → AreClosedBelow s m.store.transactions.sessions → AreClosedBelow (s + 1) b.store.transactions.sessions
  closed_more low calls fails ended below = by_result result calls fails ended
    where
      slots : SessionSlots
      slots = m.store.transactions.sessions

      -- the store isn't down
      by_refusal : (o : Option Refusal) → refusal ≡ o → (fault : StoreFault) → early ≡ Some fault
          → AreClosedBelow (s + 1) slots
      by_refusal (Some r) is fault early_is = refused_more m.store.units s slots r low below is
      by_refusal None is fault early_is =
          let free : early ≡ None =
          ap (λ (down : Bool). early_fault (if down then Some store.Down else None) refusal) so_far.running.up
          ∙ ap (early_fault None) is in
          let clash : None ≡ Some fault = sym free ∙ early_is in absurd (cc clash)

      by_result : (r : Result (Unit {0}) StoreFault) → Called r → IfErr r (λ fault. early ≡ Some fault)
          → OnOk r (b.store.transactions.sessions ≡ after_end slots s)
          → AreClosedBelow (s + 1) b.store.transactions.sessions
      by_result (Ok v) calls fails ended = subst (AreClosedBelow (s + 1)) (sym ended) (ended_more s slots below)
      by_result (Err fault) calls early_is ended =
          subst (λ (st : Store). AreClosedBelow (s + 1) st.transactions.sessions)
          (sym (calls.refuses fault early_is).1) (by_refusal refusal refl fault early_is)
