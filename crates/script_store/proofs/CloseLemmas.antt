-- What a close of the store leaves behind a script.
use Rattle.std.proofs.Common.{ℕ, ◌≡◌, ◌≢◌, ◌⊎◌, ◌++◌, inl, inr, ◌<◌, ◌^◌, arith, false, true, Option, None, Some, Result, Ok, Err, MatchResult, IfErr, IsErrOf, OnOk, is_ok, refl, sym, ◌∙◌, ap, subst, length}
use Rattle.std.specs.Option.{option_map}
use Rattle.chip_trait.specs.Story.{Story, Contents, held}
use Rattle.chip_trait.specs.Told.{History, Told, Counts, Rose, adds_all}
use Rattle.chip_trait.proofs.CountsLemmas.{counts_then}
use Rattle.ipl_base.specs.Calls.{IsFailedCall}
use Rattle.ipl_base.specs.Places.{spares_on}
use Rattle.ipl_base.specs.declared.fault.ChipFault.{ChipFault}
use Rattle.ipl_base.specs.declared.fault.ChipFault.TheVariants.{Stopped}
use Rattle.ipl_base.specs.declared.fault.Refusal.{Refusal}
use Rattle.ipl_base.specs.declared.fault.StoreFault.{StoreFault}
use Rattle.ipl_base.specs.declared.fault.StoreFault.TheVariants as store
use Rattle.ipl_model.specs.State.{State, Limits}
use Rattle.ipl_model.specs.declared.command.Command.TheVariants as command
use Rattle.ipl_model.specs.declared.reply.Reply.TheVariants as reply
use Rattle.ipl_meaning.specs.Legible.{of}
use Rattle.ipl_meaning.specs.Chart.{chart_of}
use Rattle.ipl_meaning.specs.Stands.{StandsIn}
use Rattle.ipl_meaning.specs.Tables.{Places}
use Rattle.unit_io.specs.Accounts.{Accounts}
use Rattle.unit_io.specs.Costs.{Spends}
use Rattle.unit_io.specs.Leads.{IsStopped}
use Rattle.unit_io.proofs.CostLemmas.{spends_then}
use Rattle.ipl_meaning.specs.Marks.{IsMarked}
use Rattle.unit_io.specs.Reads.{OfContents}
use Rattle.unit_io.specs.Steps.{Settled, Tidies}
use Rattle.place_taking.proofs.CountedLemmas.{keeps_counts}
use Rattle.place_taking.specs.Wear.{TellsOfWear}
use Rattle.place_taking.proofs.HomeLemmas.{homes_equal}
use Rattle.place_taking.proofs.WearLemmas.{programs_leave_places}
use Rattle.restart.specs.Closing.{ClosesInSteps, EndsWithMark, MarksUnits}
use Rattle.record_locks.specs.Locks.{refuses_close}
use Rattle.page_frames.specs.Pages.{tables_in}
use Rattle.store_trait.specs.declared.fault.Fault.{Fault}
use Rattle.store_trait.specs.declared.fault.Fault.TheVariants.{Chip, Spent}
use Rattle.store_trait.specs.Behind.{KeepsBehind, WorksBehind}
use Rattle.store_trait.specs.Keeping.{LAST_NUMBER, Works, WorkLeaves, StillRecalls, DoneRecalls}
use Rattle.store_trait.proofs.TidyLemmas.{tidy_then}
use Rattle.store_laws.specs.Keeps.{KnownPages, KeepsStore, IsChipFaultCause, ChipTells, StoreCause, limits_of}
use Rattle.ipl_store.specs.declared.store.Store.{Store}
use Rattle.ipl_store.specs.Calls.{view_of, counter_of, IsSound, entry_fault, early_fault, ends_worn_out, Serves, Calls, numbers_of, limits_of_store}
use Rattle.ipl_store.specs.Closing.{ClosesStore, EndsMarking, MarksStore, ServesClose}
use Rattle.script_store.specs.declared.store.ScriptStore.{ScriptStore}
use Rattle.script_store.specs.Closes.{Aborts, CountsClean, CountsMarked, MarksRecalled, ClosesAtEnd, closed}
use Rattle.script_store.specs.Keeps.{IsRunning, KeepsScript, script_keeping, ended, DoesCommand}
use Rattle.script_store.specs.Worn.{KnowsWorn, ChipWears, FaultWears}
use Rattle.script_store.proofs.KeepLemmas.{works_so, tidy_answered, tidy_so, leaves_so}
use Rattle.script_store.proofs.MarkLemmas.{Marks, marks}
use Rattle.script_store.proofs.ErasedLemmas.{marks_erased}
use Rattle.script_store.proofs.RecallLemmas.{leaves_recall}
use Rattle.script_store.proofs.PartLemmas.{added_then, leaves_then, leaves_weaker}
use Rattle.script_store.proofs.ShutLemmas.{shut, failed_behind, aborted_behind}
use Rattle.script_store.proofs.WorkLemmas.{IsEntry, up_entry, accepted_work, by_call, spent_does}

-- ---- the answer

-- of a mark that was written, or wasn't
abbrev pub marked : Result (Unit {0}) ChipFault → Result (Unit {0}) Fault
marked (Ok v) = Ok v
marked (Err e) = Err (Chip e)

-- ---- the status place was made ready

-- the store in between
abbrev over : Store → ScriptStore
over store = record { store = store }

module _ (known : KnownPages) (m : ScriptStore) (between : Store) (before told : Told) (runs : IsRunning before.places m)
    (alike : limits_of_store between ≡ limits_of_store m.store) where
  abbrev Readied : Result (Unit {0}) StoreFault → Type 0
  Readied readied = Serves (λ state. state) (2 ^ 14) m.store before readied between told

  -- done, each state is kept
  ready_works : (v : Unit {0}) → Readied (Ok v)
      → Works (script_keeping before.places known) command.Syntax m before (Ok reply.Syntax) (over between) told
  ready_works v served = works_so known before.places m (over between) before told runs.up (ap (λ (l : Limits). l.units) alike) command.Syntax
      (Ok reply.Syntax)
      (accepted_work known (λ v. reply.Syntax) command.Syntax (λ state. state) (2 ^ 14) m (over between) before told runs
      (omega arith) alike refl (λ state. refl) (λ state. refl) (Ok v) served (λ state x told shown. refl)) tt

  -- it failed, and so did the close
  ready_failed : numbers_of between ≡ numbers_of m.store → (fault : StoreFault) → Readied (Err fault) → IsSound before.places between
      → Tidies {T = Unit {0}} (tables_in m.store.transactions.pages) (Err fault)
      (tables_in between.transactions.pages) before told
      → TellsOfWear (tables_in m.store.transactions.pages) (tables_in between.transactions.pages) false
      (ends_worn_out {T = Unit {0}} (Err fault)) before told
      → Counts before told
      → WorksBehind (script_keeping before.places known) m before (closed (Err fault)) (shut between) told
  ready_failed room fault served sound tidy wears counts =
      let (e, is, cause, down) = served.ends in
      subst (λ (f : StoreFault). DoesCommand known command.Syntax m before (ended f) (over between) told
      → WorksBehind (script_keeping before.places known) m before (closed (Err f)) (shut between) told) (sym is)
      (λ does. failed_behind known m (over between) before told (Chip e) runs.up does)
      (by_call known (λ v. reply.Syntax) command.Syntax None (λ state. state) (2 ^ 14) m (over between) before told
      (Err fault) runs (omega arith) refl (λ state. refl) (λ state. refl) tt None (inl refl) calls)
    where
      calls : Calls {T = Unit {0}} None (λ state. state) (2 ^ 14) m.store before (Err fault) between told
      calls = record {
        refuses = λ first early. absurd (cc early);
        serves = λ none. served;
        sound = sound;
        units = ap (λ (l : Limits). l.units) alike;
        sessions = ap (λ (l : Limits). l.sessions) alike;
        numbers = room;
        tidy = tidy;
        wears = wears;
        counts = counts;
      }

  -- ---- and then a mark was written, or a write failed

  module _ (c : Store) (after : Told) (written : Result (Unit {0}) ChipFault) (v : Unit {0})
      (served : Readied (Ok v))
      (first : Tidies {T = Unit {0}} {E = StoreFault} (tables_in m.store.transactions.pages) (Ok v)
      (tables_in between.transactions.pages) before told)
      (counts : Counts before told)
      (steps : ClosesInSteps told.places (tables_in between.transactions.pages) (tables_in c.transactions.pages)
      told written after)
      (second : Tidies (tables_in between.transactions.pages) written (tables_in c.transactions.pages) told after)
      (accounts : Accounts IsStopped written told after) (same : limits_of_store c ≡ limits_of_store between)
      (recalled : StillRecalls (script_keeping before.places known) m before (shut c) after) where
    marked_leaves : (limits : Limits) (state : State) (h : History)
        → KeepsScript before.places known limits (over between) told h state
        → Marks before.places known.pages (view_of between) (view_of (shut c).store) told after written same served.ends refl counts.places
        (subst (λ (n : ℕ). ClosesInSteps n (tables_in between.transactions.pages) (tables_in c.transactions.pages)
        told written after) counts.places steps) limits state h
    marked_leaves limits state h keeps =
        marks before.places known.pages (view_of between) (view_of (shut c).store) told after written same served.ends refl counts.places
        (subst (λ (n : ℕ). ClosesInSteps n (tables_in between.transactions.pages) (tables_in c.transactions.pages)
        told written after) counts.places steps) limits state h keeps.kept

    -- a write that failed is told so, and was counted
    stopped : (e : ChipFault) → IsStopped e told after → (e ≡ Stopped) × Rose before.write_faults after.write_faults
    stopped e is = (is.0, let rose = is.1 in let fewer = counts.writes in omega (arith, rose, fewer))

    marked_keeps : (limits : Limits) (state : State) (h : History) → KeepsScript before.places known limits m before h state
        → KeepsBehind (script_keeping before.places known) limits state m h (marked written) (shut c) before after
    marked_keeps limits state h keeps =
        let ready = ready_works v served limits state h keeps in
        let k = adds_all ready.leaves.added h in
        let more = marked_leaves limits state k ready.ends.0 in
        let P : Contents → Type 0 = λ x. StandsIn before.places limits.units (chart_of x) (of known.pages state.map) in
        by_written written accounts.cause (adds_all more.leaves.added k)
        (leaves_then (script_keeping before.places known) P m (over between) (shut c) h before told after (is_ok written)
        (leaves_weaker (script_keeping before.places known) (λ x. P x ⊎ P x) P m (over between) h before told true
        (either state limits) ready.leaves)
        (leaves_so known before.places (over between) (shut c) told after served.ends (ap (λ (l : Limits). l.units) same) P k (is_ok written) more.leaves))
        (added_then more.leaves.added ready.leaves.added h)
        (λ settled. record { kept = more.keeps settled; few = omega (arith, keeps.few, ap (λ (l : Limits). l.units) same, ap (λ (l : Limits). l.units) alike) })
      where
        either : (state : State) (limits : Limits) (x : Contents)
            → StandsIn before.places limits.units (chart_of x) (of known.pages state.map)
            ⊎ StandsIn before.places limits.units (chart_of x) (of known.pages state.map)
            → StandsIn before.places limits.units (chart_of x) (of known.pages state.map)
        either state limits x (inl is) = is
        either state limits x (inr is) = is

        by_written : (w : Result (Unit {0}) ChipFault) → IfErr w (λ e. IsStopped e told after) → (k : History)
            → (leaves : WorkLeaves (script_keeping before.places known)
            (λ x. StandsIn before.places limits.units (chart_of x) (of known.pages state.map)) m h (shut c) before after (is_ok w))
            → k ≡ adds_all leaves.added h
            → (Settled w told after → KeepsScript before.places known limits (shut c) after k state)
            → KeepsBehind (script_keeping before.places known) limits state m h (marked w) (shut c) before after
        by_written (Ok v) cause k leaves is kept = record {
          leaves = leaves;
          ends = subst (λ (l : History). KeepsScript before.places known limits (shut c) after l state) is (kept tt);
          drawn = omega arith;
          excuse = tt;
          tells = tt;
        }
        by_written (Err e) cause k leaves is kept =
            let (stops, rose) = stopped e cause in record {
              leaves = leaves;
              ends = λ unrisen. absurd (omega (arith, rose, unrisen));
              drawn = omega arith;
              excuse = λ few whole. (inr (inl rose), subst IsFailedCall (sym stops) tt);
              tells = subst (ChipTells (spares_on before.places limits.units)) (sym stops) tt;
            }

    pub marked_behind : WorksBehind (script_keeping before.places known) m before (marked written) (shut c) after
    marked_behind = record {
      keeps = marked_keeps;
      tidy = tidy_then (script_keeping before.places known) m (over between) (shut c) before told after
          (is_ok (marked written))
          (tidy_so known {U = Unit {0}} before.places m (over between) before told (Ok v) (Ok v) refl first)
          (tidy_answered known ChipFault before.places (over between) (shut c) told after written (marked written)
          (by_ok written) second);
      draws = record { most = omega arith; spent = λ is. absurd (unspent written is) };
      learns = λ entry knows. learnt entry written accounts.cause;
      recalls = on_ok (marked written);
      counts = counts_then before told after counts accounts.counts;
      cause = caused written accounts.cause;
    }
      where
        by_ok : (w : Result (Unit {0}) ChipFault) → is_ok w ≡ is_ok (marked w)
        by_ok (Ok v) = refl
        by_ok (Err e) = refl

        on_ok : (r : Result (Unit {0}) Fault)
            → DoneRecalls (script_keeping before.places known) m before r (shut c) after
        on_ok (Ok v) = recalled
        on_ok (Err e) = tt

        unspent : (w : Result (Unit {0}) ChipFault) → IsErrOf (marked w) Spent → ⊥
        unspent (Ok v) is = cc is
        unspent (Err e) is = cc is

        learnt : (entry : Told) (w : Result (Unit {0}) ChipFault) → IfErr w (λ e. IsStopped e told after)
            → MatchResult (marked w) (λ _. KnowsWorn entry (shut c) after) (λ fault. FaultWears entry fault after)
        learnt entry (Ok v) cause = λ up. absurd (cc up)
        learnt entry (Err e) cause = subst (λ (f : ChipFault). ChipWears entry f after) (sym cause.0) tt

        caused : (w : Result (Unit {0}) ChipFault) → IfErr w (λ e. IsStopped e told after)
            → IfErr (marked w) (λ fault. StoreCause before.places fault before after)
        caused (Ok v) cause = tt
        caused (Err e) cause =
            let (stops, rose) = stopped e cause in
            subst (λ (f : ChipFault). IsChipFaultCause before.places f before after) (sym stops) rose

    -- what the chip holds then has marks, by what is known of each unit
    units_after : (limits : Limits) (state : State) (k : History) → before.history ≡ Some k
        → KeepsScript before.places known limits m before k state
        → (l : History) × (after.history ≡ Some l)
        × OnOk written (MarksUnits before.places (tables_in c.transactions.pages) (held l.start l.story))
    units_after limits state k is keeps =
        let ready = ready_works v served limits state k keeps in
        let j = adds_all ready.leaves.added k in
        let more = marked_leaves limits state j ready.ends.0 in (
          adds_all more.leaves.added j,
          more.leaves.history ∙ ap (option_map (adds_all more.leaves.added))
              (ready.leaves.history ∙ ap (option_map (adds_all ready.leaves.added)) is),
          more.marked,
        )

    -- done, what was erased since an entry and not programmed is marked
    erased_marked : OnOk (marked written) (MarksRecalled known m before after)
    erased_marked = by_written written units_after
      where
        Units : History → Type 0
        Units l = MarksUnits before.places (tables_in c.transactions.pages) (held l.start l.story)

        by_written : (w : Result (Unit {0}) ChipFault)
            → ((limits : Limits) (state : State) (k : History) → before.history ≡ Some k
            → KeepsScript before.places known limits m before k state
            → (l : History) × (after.history ≡ Some l) × OnOk w (Units l))
            → OnOk (marked w) (MarksRecalled known m before after)
        by_written (Ok v) known = λ entry h at recalls limits state k is keeps.
            let (l, ends, units) = known limits state k is keeps in
            let since = recalled entry recalls h at in
            let both : Some l ≡ Some (adds_all since.added h) = sym ends ∙ since.history in
            let same : l ≡ adds_all since.added h = cc both in record {
              added = since.added;
              history = since.history;
              marked = marks_erased before.places (tables_in c.transactions.pages) h since.added
                  (subst Units same units) since.untried;
            }
        by_written (Err e) known = tt

    -- done, what is marked is counted as clean
    marked_counted : OnOk (marked written) (CountsMarked known m before (shut c) after)
    marked_counted = by_written written counted_after
      where
        Counted : Contents → Type 0
        Counted x = (p s : ℕ) → IsMarked before.places x p s → CountsClean (shut c) p s

        by_end : (w : Result (Unit {0}) ChipFault) (limits : Limits) (state : State) (l : History)
            → (Settled w told after → KeepsStore before.places known.pages limits (view_of (shut c).store) after l state)
            → OnOk w (Counted (held l.start l.story)) → OnOk w (OfContents after Counted)
        by_end (Ok v) limits state l kept counted = λ x is.
            let both : Some (held l.start l.story) ≡ Some x = sym (kept tt).steady.holds ∙ is in
            let same : held l.start l.story ≡ x = cc both in subst Counted same counted
        by_end (Err e) limits state l kept counted = tt

        counted_after : (limits : Limits) (state : State) (k : History) → KeepsScript before.places known limits m before k state
            → OnOk written (OfContents after Counted)
        counted_after limits state k keeps =
            let ready = ready_works v served limits state k keeps in
            let j = adds_all ready.leaves.added k in
            let more = marked_leaves limits state j ready.ends.0 in
            by_end written limits state (adds_all more.leaves.added j) more.keeps more.counted

        by_written : (w : Result (Unit {0}) ChipFault)
            → ((limits : Limits) (state : State) (k : History) → KeepsScript before.places known limits m before k state
            → OnOk w (OfContents after Counted))
            → OnOk (marked w) (CountsMarked known m before (shut c) after)
        by_written (Ok v) counted = λ limits state k keeps. counted limits state k keeps
        by_written (Err e) counted = tt

    -- done, the mark is the last that was written
    marked_last : OnOk written (Spends EndsWithMark told after) → OnOk (marked written) (Spends EndsWithMark before after)
    marked_last last = by_written written last
      where
        later_ends : (later earlier : Story) → EndsWithMark later → EndsWithMark (later ++ earlier)
        later_ends later earlier ends = record {
          place = ends.place;
          number = ends.number;
          bytes = ends.bytes;
          mark = ends.mark;
          spelled = ends.spelled;
          kind = ends.kind;
          before = ends.before ++ earlier;
          events = ap (λ (story : Story). story ++ earlier) ends.events;
        }

        by_written : (w : Result (Unit {0}) ChipFault) → OnOk w (Spends EndsWithMark told after)
            → OnOk (marked w) (Spends EndsWithMark before after)
        by_written (Ok v) last = spends_then _ EndsWithMark EndsWithMark before told after
            (λ later earlier does ends. later_ends later earlier ends) first last
        by_written (Err e) last = tt

-- ---- the close

-- What it leaves of a store that is put down then: it wasn't refused.
pub record Ends (known : KnownPages) (a : ScriptStore) (before : Told) (r : Result (Unit {0}) StoreFault) (c : Store) (after : Told)
    : Type 0 where
  pub up : r ≢ Err store.Down
  pub free : (refusal : Refusal) → r ≢ Err (store.Refused refusal)
  pub closes : ClosesAtEnd known a before (closed r) (shut c) after

-- by its answer, and by the store then
pub answer_closes : (known : KnownPages) (a : ScriptStore) (before : Told) (r : Result (Unit {0}) StoreFault) (c : Store) (after : Told)
    (answer : Result (Unit {0}) Fault) (new : Store) → answer ≡ closed r → new ≡ (shut c).store
    → Ends known a before r c after → ClosesAtEnd known a before answer (over new) after
answer_closes known a before r c after answer new is same ends =
    subst (λ (x : Result (Unit {0}) Fault). ClosesAtEnd known a before x (over new) after) (sym is)
    (subst (λ (s : Store). ClosesAtEnd known a before (closed r) (over s) after) (sym same) ends.closes)

module _ (known : KnownPages) (a m : ScriptStore) (c : Store) (before after : Told) (result : Result (Unit {0}) StoreFault)
    (runs : IsRunning before.places a) (aborted : Aborts known a before m)
    (none : refuses_close m.store.transactions.sessions ≡ None) where
  abbrev early : Option StoreFault
  early = early_fault (entry_fault m.store) (refuses_close m.store.transactions.sessions)

  abbrev Ended : Result (Unit {0}) StoreFault → Type 0
  Ended r = Ends known a before r c after

  -- it wasn't refused
  early_is : (e : Option StoreFault) → entry_fault m.store ≡ e → early ≡ early_fault e None
  early_is e is = ap (early_fault (entry_fault m.store)) none ∙ ap (λ (o : Option StoreFault). early_fault o None) is

  spent_ends : LAST_NUMBER < counter_of m.store → result ≡ Err store.Spent → c ≡ m.store → after ≡ before → Ended result
  spent_ends late is same still = subst Ended (sym is) (record {
    up = λ down. cc down;
    free = λ refusal refused. cc refused;
    closes = record {
      works = subst (λ (t : Told). WorksBehind (script_keeping before.places known) a before (Err Spent) (shut c) t) (sym still)
          (subst (λ (s : Store). WorksBehind (script_keeping before.places known) a before (Err Spent) (shut s) before) (sym same)
          (aborted_behind known a m m.store before before (Err Spent) runs.up aborted
          (failed_behind known m m before before Spent aborted.running.up
          (spent_does known command.Syntax m before aborted.running late))));
      last = tt;
      marked = tt;
      counted = tt;
    };
  })

  ready_ends : (between : Store) (told : Told) (fault : StoreFault)
      → Serves {T = Unit {0}} (λ state. state) (2 ^ 14) m.store before (Err fault) between told
      → WorksBehind (script_keeping before.places known) m before (closed (Err fault)) (shut between) told
      → result ≡ Err fault → c ≡ between → after ≡ told → Ended result
  ready_ends between told fault served behind is same still = subst Ended (sym is) (record {
    up = λ down. let which : store.Down ≡ store.Chip served.ends.0 = sym (cc down) ∙ served.ends.1 in cc which;
    free = λ refusal refused.
        let which : store.Refused refusal ≡ store.Chip served.ends.0 = sym (cc refused) ∙ served.ends.1 in cc which;
    closes = record {
      works = subst (λ (t : Told). WorksBehind (script_keeping before.places known) a before (closed (Err fault)) (shut c) t)
          (sym still)
          (subst (λ (s : Store). WorksBehind (script_keeping before.places known) a before (closed (Err fault)) (shut s) told)
          (sym same) (aborted_behind known a m between before told (closed (Err fault)) runs.up aborted behind));
      last = subst (λ (f : StoreFault). OnOk (closed (Err f)) (Spends EndsWithMark before after)) (sym served.ends.1) tt;
      marked = subst (λ (f : StoreFault). OnOk (closed (Err f)) (MarksRecalled known a before after)) (sym served.ends.1) tt;
      counted = subst (λ (f : StoreFault). OnOk (closed (Err f)) (CountsMarked known a before (shut c) after)) (sym served.ends.1) tt;
    };
  })

  -- what was erased before sessions were aborted is marked too
  aborted_marked : MarksRecalled known m before after → MarksRecalled known a before after
  aborted_marked marks entry h at recalls limits state k is keeps =
      let first = aborted.keeps limits state k keeps in
      marks entry h at (aborted.recalls entry recalls) limits first.now (adds_all first.leaves.added k)
      (first.leaves.history ∙ ap (option_map (adds_all first.leaves.added)) is) first.keeps

  -- and what is marked then is counted
  aborted_counted : CountsMarked known m before (shut c) after → CountsMarked known a before (shut c) after
  aborted_counted counted limits state k keeps =
      let first = aborted.keeps limits state k keeps in
      counted limits first.now (adds_all first.leaves.added k) first.keeps

  marked_ends : (written : Result (Unit {0}) ChipFault) → EndsMarking written result
      → WorksBehind (script_keeping before.places known) m before (marked written) (shut c) after
      → OnOk (marked written) (Spends EndsWithMark before after)
      → OnOk (marked written) (MarksRecalled known m before after)
      → OnOk (marked written) (CountsMarked known m before (shut c) after) → Ended result
  marked_ends (Ok v) is behind last marks counted = subst Ended (sym is) (record {
    up = λ down. cc down;
    free = λ refusal refused. cc refused;
    closes = record {
      works = aborted_behind known a m c before after (Ok v) runs.up aborted behind;
      last = last;
      marked = aborted_marked marks;
      counted = aborted_counted counted;
    };
  })
  marked_ends (Err e) is behind last marks counted = subst Ended (sym is) (record {
    up = λ down. cc down;
    free = λ refusal refused. cc refused;
    closes = record {
      works = aborted_behind known a m c before after (Err (Chip e)) runs.up aborted behind;
      last = last;
      marked = tt;
      counted = tt;
    };
  })

  served_ends : IsSound before.places c → ServesClose m.store before result c after → Ended result
  served_ends sound served = by_ready served.readied served.ready served.tidy served.wears served.then
    where
      between : Store
      between = served.between

      told : Told
      told = served.told

      -- the limits stay
      ready_alike : limits_of_store between ≡ limits_of_store m.store
      ready_alike = λ i. limits_of (served.sessions i) (served.units i)

      mark_alike : MarksStore between told result c after → limits_of_store c ≡ limits_of_store between
      mark_alike marked = λ i. limits_of (length (marked.sessions i)) (marked.units i)

      -- what was erased is known still: the status place was made ready, and then programmed
      marked_recalls : TellsOfWear (tables_in m.store.transactions.pages) (tables_in between.transactions.pages)
          true false before told → MarksStore between told result c after
          → StillRecalls (script_keeping before.places known) m before (shut c) after
      marked_recalls wears marked entry recalled =
          let same = marked.directory in
          leaves_recall known (over between) (shut c) told after false
          (programs_leave_places between.transactions.pages.parts.directory
          c.transactions.pages.parts.directory _ 1 2 7 told after
          (ap (λ (d : Places). d.retired) same)
          (homes_equal between.transactions.pages.parts.directory c.transactions.pages.parts.directory same)
          (keeps_counts between.transactions.pages.parts.directory c.transactions.pages.parts.directory same)
          marked.costs) entry
          (leaves_recall known m (over between) before told false wears.places entry recalled)

      by_ready : (r : Result (Unit {0}) StoreFault)
          → Serves (λ state. state) (2 ^ 14) m.store before r between told
          → Tidies (tables_in m.store.transactions.pages) r (tables_in between.transactions.pages) before told
          → TellsOfWear (tables_in m.store.transactions.pages) (tables_in between.transactions.pages) (is_ok r)
          (ends_worn_out r) before told
          → MatchResult r (λ _. MarksStore between told result c after)
          (λ fault. (result ≡ Err fault) × (c ≡ between) × (after ≡ told)) → Ended result
      by_ready (Ok v) ready tidy wears marked =
          marked_ends marked.written marked.ends
          (marked_behind known m between before told aborted.running ready_alike c after marked.written v ready tidy
          served.counts marked.steps marked.tidy marked.accounts (mark_alike marked) (marked_recalls wears marked))
          (marked_last known m between before told aborted.running ready_alike c after marked.written v ready tidy
          served.counts marked.steps marked.tidy marked.accounts (mark_alike marked) (marked_recalls wears marked)
          marked.last)
          (erased_marked known m between before told aborted.running ready_alike c after marked.written v ready tidy
          served.counts marked.steps marked.tidy marked.accounts (mark_alike marked) (marked_recalls wears marked))
          (marked_counted known m between before told aborted.running ready_alike c after marked.written v ready tidy
          served.counts marked.steps marked.tidy marked.accounts (mark_alike marked) (marked_recalls wears marked))
      by_ready (Err fault) ready tidy wears (is, same, still) =
          ready_ends between told fault ready
          (ready_failed known m between before told aborted.running ready_alike served.numbers fault ready
          (subst (IsSound before.places) same sound) tidy wears served.counts) is same still

  ends_at_once : ClosesStore early m.store before result c after → Ended result
  ends_at_once did = by_entry (up_entry m aborted.running.up)
    where
      by_entry : IsEntry m (entry_fault m.store) → Ended result
      by_entry (inl free) = served_ends did.sound (did.serves (early_is None free))
      by_entry (inr (spent, late)) =
          let (answer, same, still) = did.refuses store.Spent (early_is (Some store.Spent) spent) in
          spent_ends late answer same still

  -- over the chip, which told the same since
  pub close_ends : (mid : Told) → mid ≡ before → ClosesStore early m.store mid result c after → Ended result
  close_ends mid idle did = ends_at_once (subst (λ (t : Told). ClosesStore early m.store t result c after) idle did)
