-- Looking records up: what sessions see, and what is committed.
use Rattle.std.proofs.Common.{ℕ, ◌≡◌, ◌⊎◌, inl, inr, ◌≤◌, ◌<◌, ◌+◌, arith, Bool, true, false, nat_le, Option, None, Some, List, ◌∷◌, [], Result, Ok, Err, IfOk, OnOk, if◌then◌else◌, refl, sym, ◌∙◌, ap, subst}
use Rattle.std.proofs.lemmas.Bool.Decides.{nat_tests}
use Rattle.chip_trait.specs.Story.{Contents, held}
use Rattle.chip_trait.specs.Told.{History, Told, Counts}
use Rattle.chip_trait.proofs.CountsLemmas.{counts_none}
use Rattle.ipl_base.specs.declared.fault.ChipFault.{ChipFault}
use Rattle.ipl_base.specs.declared.fault.Refusal.{Refusal}
use Rattle.ipl_base.specs.declared.fault.Refusal.TheVariants.{BadName}
use Rattle.ipl_base.specs.declared.fault.StoreFault.{StoreFault}
use Rattle.ipl_base.specs.declared.fault.StoreFault.TheVariants as store
use Rattle.ipl_model.specs.State.{State, Limits, see}
use Rattle.ipl_model.specs.declared.command.Command.TheVariants as command
use Rattle.ipl_model.specs.declared.reply.Reply.TheVariants as reply
use Rattle.ipl_model.specs.Step.{found_reply}
use Rattle.ipl_base.specs.Places.{home_of}
use Rattle.ipl_meaning.specs.Legible.{Legibility}
use Rattle.ipl_meaning.specs.Tables.{Places}
use Rattle.unit_io.specs.Reads.{OfContents}
use Rattle.unit_io.specs.Steps.{Tidies}
use Rattle.page_frames.specs.Pages.{tables_in, IsFramed, PageCause}
use Rattle.store_trait.specs.declared.fault.Fault.TheVariants.{Chip, Spent}
use Rattle.store_trait.specs.Keeping.{LAST_NUMBER, LOOK_UP_DRAWS, WorkLeaves, Works, LooksUp, LeavesTidy, Learns, StillRecalls}
use Rattle.store_trait.proofs.TidyLemmas.{tidy_same}
use Rattle.store_laws.specs.Advances.{TurnsMapOf}
use Rattle.store_laws.specs.Keeps.{KnownPages, View, limits_of, ShowsState, store_keeping}
use Rattle.store_laws.proofs.AdvanceLemmas.{answers_advance}
use Rattle.store_laws.proofs.KeepLemmas.{is_at, at_limits, leads_are_work}
use Rattle.store_laws.proofs.FaultLemmas.{idle_faults_look_up}
use Rattle.ipl_store.specs.declared.store.Store.{Store}
use Rattle.ipl_store.specs.Calls.{memory_of_store, view_of, counter_of, IsSound, early_fault, entry_fault, refuses_name, Serves, Calls, limits_of_store}
use Rattle.ipl_store.specs.Shown.{IsSeen, HasCommitted}
use Rattle.ipl_store.proofs.ShownLemmas.{framed_shows}
use Rattle.script_store.specs.declared.store.ScriptStore.{ScriptStore}
use Rattle.script_store.specs.Keeps.{IsRunning, script_keeping, not_found, looked_up, Finds}
use Rattle.script_store.proofs.KeepLemmas.{looks_up_so, draws_few, tidy_so}
use Rattle.script_store.proofs.RecallLemmas.{calls_recall}
use Rattle.script_store.proofs.WornLemmas.{look_up_learns}
use Rattle.script_store.proofs.MetLemmas.{call_met}
use Rattle.script_store.proofs.WorkLemmas.{stays_up, AreCounted, chip_rose, chip_cause, chip_tells, IsEntry, up_entry}

-- ---- a call that lends what it found, once that is copied

abbrev pub copied_of : {T U : Type 0} → (T → U) → Result T StoreFault → Result U StoreFault
copied_of copy (Ok found) = Ok (copy found)
copied_of copy (Err fault) = Err fault

pub calls_copied : {T U : Type 0} (copy : T → U) (early : Option StoreFault)
    (next : State → State) (most : ℕ) (old : Store) (before : Told) (result : Result T StoreFault)
    (new : Store) (after : Told) → Calls early next most old before result new after
    → Calls early next most old before (copied_of copy result) new after
calls_copied copy early next most old before (Ok found) new after calls = record {
  refuses = λ fault is. let no = (calls.refuses fault is).0 in absurd (cc no);
  serves = λ none.
      let did = calls.serves none in record {
        leads = answers_advance (TurnsMapOf next) next (memory_of_store old) (memory_of_store new)
            (Ok found) (Ok (copy found)) before after refl did.leads;
        ends = did.ends;
        counted = did.counted;
        least = did.least;
        drawn = did.drawn;
        complete = λ x told state shown. tt;
        faults = λ x told it state fits. tt;
      };
  sound = calls.sound;
  units = calls.units;
  sessions = calls.sessions;
  numbers = calls.numbers;
  tidy = calls.tidy;
  wears = calls.wears;
  counts = calls.counts;
}
calls_copied {U = U} copy early next most old before (Err e) new after calls = record {
  refuses = λ fault is.
      let (answer, same, still) = calls.refuses fault is in
      let one : e ≡ fault = cc answer in (ap (λ (f : StoreFault). err f) one, same, still);
  serves = λ none.
      let did = calls.serves none in record {
        leads = answers_advance (TurnsMapOf next) next (memory_of_store old) (memory_of_store new)
            (Err e) (Err e) before after refl did.leads;
        ends = did.ends;
        counted = did.counted;
        least = did.least;
        drawn = did.drawn;
        complete = did.complete;
        faults = did.faults;
      };
  sound = calls.sound;
  units = calls.units;
  sessions = calls.sessions;
  numbers = calls.numbers;
  tidy = calls.tidy;
  wears = calls.wears;
  counts = calls.counts;
}
  where
    err : StoreFault → Result U StoreFault
    err fault = Err fault

-- one that was done
pub found_calls : {T U : Type 0} (copy : T → U) (early : Option StoreFault) (next : State → State)
    (most : ℕ) (old : Store) (before : Told) (result : Result T StoreFault) (found : T) (value : U)
    (new : Store) (after : Told) → result ≡ Ok found → value ≡ copy found
    → Calls early next most old before result new after
    → Calls early next most old before (Ok value) new after
found_calls {T = T} {U = U} copy early next most old before result found value new after is same
    calls =
    subst (λ (v : U). Calls early next most old before (Ok v) new after) (sym same)
    (calls_copied copy early next most old before (Ok found) new after
    (subst (λ (r : Result T StoreFault). Calls early next most old before r new after) is calls))

-- one that failed
pub failed_calls : {T U : Type 0} (copy : T → U) (early : Option StoreFault)
    (next : State → State) (most : ℕ) (old : Store) (before : Told) (result : Result T StoreFault)
    (fault : StoreFault) (new : Store) (after : Told) → result ≡ Err fault
    → Calls early next most old before result new after
    → Calls {T = U} early next most old before (Err fault) new after
failed_calls {T = T} copy early next most old before result fault new after is calls =
    calls_copied copy early next most old before (Err fault) new after
    (subst (λ (r : Result T StoreFault). Calls early next most old before r new after) is calls)

-- ---- what is seen

-- what is seen is the model's reply
pub seen_replies : (known : KnownPages) (s n : ℕ) (next : State → State) (early : Option StoreFault) (most : ℕ)
    (a b : ScriptStore) (before after : Told) (result : Result (Option (List ℕ)) StoreFault)
    → Calls early next most a.store before result b.store after
    → OnOk result (IsFramed b.store.transactions.pages (home_of n).unit (home_of n).page)
    → IfOk result (λ found. IsSeen s n a.store before found)
    → IfOk result (λ found. (state : State) → OfContents before (λ x.
    ShowsState before.places known.pages (view_of a.store) state x
    → found_reply (see state s n) ∷ [] ≡ found_reply found ∷ []))
seen_replies known s n next early most a b before after (Err fault) calls framed seen = tt
seen_replies known s n next early most a b before after (Ok found) calls framed seen = by_early early refl
  where
    by_early : (o : Option StoreFault) → early ≡ o → (state : State) → OfContents before (λ x.
        ShowsState before.places known.pages (view_of a.store) state x
        → found_reply (see state s n) ∷ [] ≡ found_reply found ∷ [])
    by_early (Some fault) is state x told shown = let answer = (calls.refuses fault is).0 in absurd (cc answer)
    by_early None is state x told shown =
        let named = framed_shows known.pages next most n a.store b.store before after found known.apart (calls.serves is) framed state x
        told shown in
        ap (λ (value : Option (List ℕ)). found_reply value ∷ []) (sym (seen state x told named))

-- ---- a record is looked up

either_way : {A : Type 0} → A ⊎ A → A
either_way (inl a) = a
either_way (inr a) = a

-- a power cut leaves the records, of which the next ones are the same
abbrev leaves_same : (known : KnownPages) (places : ℕ) (P : Contents → Type 0) (first last : View) (h : History)
    (old new : Told) (done : Bool)
    → WorkLeaves (store_keeping places known.pages) (λ x. P x ⊎ P x) first h last old new done
    → WorkLeaves (store_keeping places known.pages) P first h last old new done
leaves_same known places P first last h old new done leaves = record {
  added = leaves.added;
  history = leaves.history;
  each_moment = λ later e split x image. either_way (leaves.each_moment later e split x image);
  silent = leaves.silent;
  only = leaves.only;
  lawful = leaves.lawful;
  clean = leaves.clean;
  unused = leaves.unused;
}

-- a name below the limit isn't refused
pub low_is_free : (limits : Limits) (n : ℕ) (r : Refusal) → refuses_name limits n ≡ Some r
    → n < limits.names → ⊥
low_is_free limits n r is low = by_test (nat_le limits.names n) refl is
  where
    by_test : (high : Bool) → nat_le limits.names n ≡ high
        → (if high then Some BadName else None) ≡ Some r → ⊥
    by_test true past found = grind (arith, nat_tests, past, low)
    by_test false past found = absurd (cc found)

module _ (known : KnownPages) (n : ℕ) (a b : ScriptStore) (before after : Told) (runs : IsRunning before.places a) where
  abbrev first : View
  first = view_of a.store

  abbrev last : View
  last = view_of b.store

  spent_finds : LAST_NUMBER < counter_of a.store → Finds known n a before (Err Spent) a before
  spent_finds late = record {
    looks_up = looks_up_so known before.places a a before before runs.up refl n (Err Spent)
        (idle_faults_look_up known.pages n first before late) (λ limits state h added was is tells. tt);
    tidy = tidy_same (script_keeping before.places known) a before before false refl;
    draws = draws_few known before.places LOOK_UP_DRAWS _ a a runs.up (omega arith) (λ is. late);
    running = tt;
    learns = λ entry knows. tt;
    recalls = tt;
    counts = counts_none before;
    cause = tt;
  }

  refused_finds : (r : Refusal) → refuses_name (limits_of_store a.store) n ≡ Some r
      → Finds known n a before (Ok None) a before
  refused_finds r is = record {
    looks_up = looks_up_so known before.places a a before before runs.up refl n (Ok None)
        (λ limits state h keeps low. absurd (low_is_free (limits_of_store a.store) n r is
        (subst (λ (l : Limits). n < l.names) keeps.limits_are low))) tt;
    tidy = tidy_same (script_keeping before.places known) a before before true refl;
    draws = draws_few known before.places LOOK_UP_DRAWS _ a a runs.up (omega arith)
        (λ spent. absurd (cc spent));
    running = runs;
    learns = λ entry knows. knows;
    recalls = λ entry recalled. recalled;
    counts = counts_none before;
    cause = tt;
  }

  module _ (same : limits_of_store b.store ≡ limits_of_store a.store) where
    -- and so as many units
    many : b.store.units ≡ a.store.units
    many = ap (λ (l : Limits). l.units) same

    done_finds : (found : Option (List ℕ))
        → IsFramed b.store.transactions.pages (home_of n).unit (home_of n).page
        → Serves (λ state. state) 14 a.store before (Ok found) b.store after
        → HasCommitted n a.store before found → IsRunning before.places b
        → LeavesTidy (script_keeping before.places known) a b before after true
        → Learns (script_keeping before.places known) a before (Ok found) b after
        → StillRecalls (script_keeping before.places known) a before b after
        → (counts : Counts before after) → Finds known n a before (Ok found) b after
    done_finds found framed did committed running tidy learns recalls counts = record {
      looks_up = looks_up_so known before.places a b before after runs.up many n (Ok found) looks tt;
      tidy = tidy;
      draws = draws_few known before.places LOOK_UP_DRAWS _ a b runs.up few (λ spent. absurd (cc spent));
      running = running;
      learns = learns;
      recalls = recalls;
      counts = counts;
      cause = tt;
    }
      where
        few : counter_of b.store ≤ counter_of a.store + LOOK_UP_DRAWS
        few = let drawn = did.drawn in omega (arith, drawn)

        works : Works (store_keeping before.places known.pages) command.Syntax first before (Ok reply.Syntax)
            last after
        works = leads_are_work known.pages command.Syntax (λ state. state) first last (Ok reply.Syntax) before after
            same runs.up
            (answers_advance (TurnsMapOf (λ state. state)) (λ state. state) first.memory
            last.memory (Ok found) (Ok reply.Syntax) before after refl did.leads)
            (λ h state keeps. refl)
            (λ pages h state keeps. let drawn = did.drawn in omega (arith, drawn)) tt

        looks : LooksUp (store_keeping before.places known.pages) n first before (Ok found) last after
        looks limits state h keeps low =
            let did_work = works limits state h keeps in
            let here = is_at known.pages first before h state runs.up
            (at_limits before.places known.pages limits first before h state keeps) in record {
              leaves = leaves_same known before.places _ first last h before after true did_work.leaves;
              ends = (
                did_work.ends.0,
                committed state _ here.steady.holds
                    (framed_shows known.pages (λ state. state) 14 n a.store b.store before after found known.apart did
                    framed state _
                    here.steady.holds here.shown),
              );
              drawn = few;
              excuse = tt;
              tells = tt;
            }

    failed_finds : (e : ChipFault)
        → (did : Serves {T = Option (List ℕ)} (λ state. state) 14 a.store before
        (Err (store.Chip e)) b.store after)
        → PageCause b.store.transactions.pages.parts.directory e before after
        → IsSound before.places b.store
        → LeavesTidy (script_keeping before.places known) a b before after false
        → Learns (script_keeping before.places known) {T = Option (List ℕ)} a before (Err (Chip e)) b after
        → (counts : Counts before after) → Finds known n a before (Err (Chip e)) b after
    failed_finds e did cause sound tidy learns counts = record {
      looks_up = looks_up_so known before.places a b before after runs.up many n (Err (Chip e)) looks
          (λ limits state h added was is tells unfailed.
          call_met known before.places a b before after limits state h added was is runs.up (stays_up (Option (List ℕ)) e before after b.store did.ends unfailed) many
          refl counts.places (Option (List ℕ)) e did.faults tells unfailed);
      tidy = tidy;
      draws = draws_few known before.places LOOK_UP_DRAWS _ a b runs.up few (λ spent. absurd (cc spent));
      running = tt;
      learns = learns;
      recalls = tt;
      counts = counts;
      cause = chip_cause before.places a.store.units d e before after are cause;
    }
      where
        d : Places
        d = b.store.transactions.pages.parts.directory

        are : AreCounted before.places a.store.units d
        are = record {
          all = sound.made.directory;
          current = did.counted ∙ many;
          keeps = runs.sound.made.units;
        }

        few : counter_of b.store ≤ counter_of a.store + LOOK_UP_DRAWS
        few = let drawn = did.drawn in omega (arith, drawn)

        works : Works (store_keeping before.places known.pages) command.Syntax first before (Err (Chip e)) last
            after
        works = leads_are_work known.pages command.Syntax (λ state. state) first last (Err (Chip e)) before after
            same runs.up
            (answers_advance (TurnsMapOf (λ state. state)) (λ state. state) first.memory
            last.memory (Err (store.Chip e)) (Err (Chip e)) before after refl did.leads)
            (λ h state keeps. refl)
            (λ pages h state keeps. let drawn = did.drawn in omega (arith, drawn))
            (λ h state keeps. (
              λ low whole. chip_rose d e before after (did.complete _ keeps.steady.holds state
                  (subst (λ (pages : Legibility). ShowsState before.places pages first state (held h.start h.story)) whole (keeps.up runs.up).shows)) cause,
              chip_tells before.places a.store.units d e before after are cause,
            ))

        looks : LooksUp (store_keeping before.places known.pages) n first before (Err (Chip e)) last after
        looks limits state h keeps low =
            let did_work = works limits state h keeps in
            let here = is_at known.pages first before h state runs.up
            (at_limits before.places known.pages limits first before h state keeps) in record {
              leaves = leaves_same known before.places _ first last h before after false did_work.leaves;
              ends = did_work.ends;
              drawn = few;
              excuse = λ low whole. chip_rose d e before after (did.complete _ here.steady.holds state
                  (subst (λ (pages : Legibility). ShowsState before.places pages first state (held h.start h.story)) whole here.shown)) cause;
              tells = did_work.tells;
            }

    served_finds : (result : Result (Option (List ℕ)) StoreFault)
        → OnOk result (IsFramed b.store.transactions.pages (home_of n).unit (home_of n).page)
        → Serves (λ state. state) 14 a.store before result b.store after
        → IfOk result (λ found. HasCommitted n a.store before found)
        → IsSound before.places b.store
        → Tidies (tables_in a.store.transactions.pages) result (tables_in b.store.transactions.pages)
        before after → Learns (script_keeping before.places known) a before (looked_up result) b after
        → StillRecalls (script_keeping before.places known) a before b after
        → Counts before after → Finds known n a before (looked_up result) b after
    served_finds (Ok found) framed did committed sound tidy learns recalls counts =
        done_finds found framed did committed (record { sound = sound; up = did.ends })
        (tidy_so known {U = Option (List ℕ)} before.places a b before after (Ok found) (Ok found) refl
        tidy) learns recalls counts
    served_finds (Err fault) framed did committed sound tidy learns recalls counts =
        let (e, is_chip, cause, down) = did.ends in
        subst (λ (f : StoreFault). Serves {T = Option (List ℕ)} (λ state. state) 14 a.store before
        (Err f) b.store after → Learns (script_keeping before.places known) a before (not_found f) b after
        → Finds known n a before (not_found f) b after) (sym is_chip)
        (λ of_chip of_it. failed_finds e of_chip cause sound
        (tidy_so known {T = Option (List ℕ)} {U = Option (List ℕ)} before.places a b before after
        (Err fault) (Err (Chip e)) refl tidy) of_it counts) did learns

  -- ---- the call

  module _ (result : Result (Option (List ℕ)) StoreFault)
      (framed : OnOk result (IsFramed b.store.transactions.pages (home_of n).unit (home_of n).page))
      (committed : IfOk result (λ found. HasCommitted n a.store before found)) where
    idle_finds : (fault : StoreFault) → Finds known n a before (not_found fault) a before
        → result ≡ Err fault → b.store ≡ a.store → after ≡ before
        → Finds known n a before (looked_up result) b after
    idle_finds fault base is same still =
        subst (λ (r : Result (Option (List ℕ)) StoreFault). Finds known n a before (looked_up r) b after)
        (sym is)
        (subst (λ (t : Told). Finds known n a before (not_found fault) b t) (sym still)
        (subst (λ (s : Store). Finds known n a before (not_found fault) (record { store = s }) before)
        (sym same) base))

    by_refusal : (r : Option Refusal) → refuses_name (limits_of_store a.store) n ≡ r
        → Calls (early_fault None r) (λ state. state) 14 a.store before result b.store after
        → Finds known n a before (looked_up result) b after
    by_refusal (Some r) is calls =
        let (answer, same, still) = calls.refuses (store.Refused r) refl in
        idle_finds (store.Refused r) (refused_finds r is) answer same still
    by_refusal None is calls =
        served_finds (λ i. limits_of (calls.sessions i) (calls.units i)) result framed
        (calls.serves refl) committed calls.sound calls.tidy
        (look_up_learns known a b before after result runs (early_fault None None) (λ state. state) 14 calls)
        (calls_recall known a b before after result (early_fault None None) (λ state. state) 14 calls)
        calls.counts

    by_entry : (entry : Option StoreFault) → IsEntry a entry
        → Calls (early_fault entry (refuses_name (limits_of_store a.store) n)) (λ state. state) 14
        a.store before result b.store after
        → Finds known n a before (looked_up result) b after
    by_entry entry (inl none) calls = by_refusal (refuses_name (limits_of_store a.store) n) refl
        (subst (λ (o : Option StoreFault). Calls (early_fault o
        (refuses_name (limits_of_store a.store) n)) (λ state. state) 14 a.store before result
        b.store after) none calls)
    by_entry entry (inr (is, late)) calls =
        let (answer, same, still) = calls.refuses store.Spent (ap (λ (o : Option StoreFault).
        early_fault o (refuses_name (limits_of_store a.store) n)) is) in
        idle_finds store.Spent (spent_finds late) answer same still

    pub call_finds : Calls (early_fault (entry_fault a.store)
        (refuses_name (limits_of_store a.store) n)) (λ state. state) 14 a.store before result
        b.store after → Finds known n a before (looked_up result) b after
    call_finds calls = by_entry (entry_fault a.store) (up_entry a runs.up) calls
