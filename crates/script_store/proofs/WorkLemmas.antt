-- Calls of the store are the work of their commands.
use Rattle.std.proofs.Common.{ℕ, ◌≡◌, ◌≢◌, ◌⊎◌, inl, inr, ◌≤◌, ◌<◌, ◌+◌, arith, Bool, true, false, nat_lt, ◌∷◌, [], List, length, Option, None, Some, Result, Ok, Err, IfOk, if◌then◌else◌, refl, sym, ◌∙◌, ap, subst}
use Rattle.std.proofs.lemmas.Bool.Decides.{nat_tests}
use Rattle.chip_trait.specs.Story.{held}
use Rattle.chip_trait.specs.Told.{Told, Counts}
use Rattle.chip_trait.proofs.CountsLemmas.{counts_none}
use Rattle.ipl_base.specs.Calls.{IsFailedCall}
use Rattle.ipl_base.specs.Places.{KeepsUnits, spares_on}
use Rattle.ipl_base.specs.declared.fault.ChipFault.{ChipFault}
use Rattle.ipl_base.specs.declared.fault.ChipFault.TheVariants.{ReadFault, Stopped, Damaged, Malformed, WornOut}
use Rattle.ipl_base.specs.declared.fault.Refusal.{Refusal}
use Rattle.ipl_base.specs.declared.fault.Refusal.TheVariants.{PageFull}
use Rattle.ipl_base.specs.declared.fault.StoreFault.{StoreFault}
use Rattle.ipl_base.specs.declared.fault.StoreFault.TheVariants as store
use Rattle.ipl_model.specs.State.{State, Limits}
use Rattle.ipl_model.specs.declared.command.Command.{Command}
use Rattle.ipl_model.specs.declared.command.Command.TheVariants as command
use Rattle.ipl_model.specs.declared.reply.Reply.{Reply}
use Rattle.ipl_model.specs.declared.reply.Reply.TheVariants as reply
use Rattle.ipl_model.specs.Step.{Stepped, accepted, step}
use Rattle.ipl_meaning.specs.Legible.{Legibility}
use Rattle.ipl_meaning.specs.Tables.{Places}
use Rattle.unit_directory.specs.Free.{spares_of}
use Rattle.unit_io.specs.Reads.{OfContents}
use Rattle.store_laws.specs.Fits.{AreSessionsOf}
use Rattle.unit_io.specs.Steps.{Tidies}
use Rattle.page_frames.specs.Pages.{tables_in, PageCause}
use Rattle.store_trait.specs.declared.fault.Fault.TheVariants.{Chip, Spent}
use Rattle.store_trait.specs.Keeping.{LAST_NUMBER, WORK_DRAWS, ChipRose, Works, LeavesTidy, Learns, StillRecalls}
use Rattle.store_trait.proofs.TidyLemmas.{tidy_same}
use Rattle.store_laws.specs.Advances.{TurnsMapOf}
use Rattle.store_laws.specs.Keeps.{KnownPages, View, ChipTells, ShowsState, StoreCause, store_keeping, limits_of}
use Rattle.store_laws.specs.Refusals.{finds_full, sessions_refuse}
use Rattle.store_laws.proofs.AdvanceLemmas.{answers_advance}
use Rattle.store_laws.proofs.LeadLemmas.{answers_are_alike, memory_leads}
use Rattle.store_laws.proofs.RefusalLemmas.{refusals_answer, accepted_are_done, refusals_lead}
use Rattle.store_laws.proofs.KeepLemmas.{leads_are_work}
use Rattle.store_laws.proofs.FaultLemmas.{idle_faults_are_work}
use Rattle.ipl_store.specs.declared.store.Store.{Store}
use Rattle.ipl_store.specs.Calls.{view_of, counter_of, IsSound, entry_fault, down_fault, early_fault, IsOfTheChip, EndsFor, Serves, Calls, puts_down, limits_of_store}
use Rattle.script_store.specs.declared.store.ScriptStore.{ScriptStore}
use Rattle.script_store.specs.Keeps.{IsRunning, script_keeping, ended, answer_of, DoesCommand}
use Rattle.script_store.proofs.KeepLemmas.{works_so, draws_few, tidy_so}
use Rattle.script_store.proofs.MetLemmas.{call_met}
use Rattle.script_store.proofs.RecallLemmas.{calls_recall}
use Rattle.script_store.proofs.WornLemmas.{spares_at, calls_learn}

-- ---- faults of the chip

-- a fault of a call of the chip has its excuse, and says so
call_rose : (d : Places) (e : ChipFault) (before after : Told) → IsFailedCall e
    → PageCause d e before after → ChipRose before after × IsFailedCall e
call_rose d ReadFault before after failed cause = (inl cause, tt)
call_rose d Stopped before after failed cause = (inr (inl cause), tt)
call_rose d (Damaged p s stored computed) before after none cause = absurd none
call_rose d (Malformed p s) before after none cause = absurd none
call_rose d (WornOut n) before after failed cause = (inr (inr cause.2), tt)

pub chip_rose : (d : Places) (e : ChipFault) (before after : Told) → IsOfTheChip (store.Chip e)
    → PageCause d e before after → ChipRose before after × IsFailedCall e
chip_rose d e before after (f, is, failed) cause =
    let same : e ≡ f = cc is in
    call_rose d e before after (subst IsFailedCall (sym same) failed) cause

-- the tables are of a chip of so many places, with so many units, of which as many may be kept
pub record AreCounted (places units : ℕ) (d : Places) : Type 0 where
  pub all : length d.in_use ≡ places
  pub current : length d.current ≡ units
  pub keeps : KeepsUnits places units

-- so as many places are spare
spares_are : (places units : ℕ) (d : Places) → AreCounted places units d
    → spares_of d ≡ spares_on places units
spares_are places units d are = spares_at places units d are.all are.current

-- and its cause
pub chip_cause : (places units : ℕ) (d : Places) (e : ChipFault) (before after : Told)
    → AreCounted places units d → PageCause d e before after
    → StoreCause places (Chip e) before after
chip_cause places units d ReadFault before after are cause = cause
chip_cause places units d Stopped before after are cause = cause
chip_cause places units d (Damaged p s stored computed) before after are cause = cause.1
chip_cause places units d (Malformed p s) before after are cause = tt
chip_cause places units d (WornOut n) before after are cause = (
  record {
    units = units;
    keeps = are.keeps;
    one_more = omega (arith, cause.0, spares_are places units d are);
  },
  cause.2,
)

-- and it tells no other number of worn places than one more than are spare
pub chip_tells : (places units : ℕ) (d : Places) (e : ChipFault) (before after : Told)
    → AreCounted places units d → PageCause d e before after
    → ChipTells (spares_on places units) e
chip_tells places units d ReadFault before after are cause = tt
chip_tells places units d Stopped before after are cause = tt
chip_tells places units d (Damaged p s stored computed) before after are cause = tt
chip_tells places units d (Malformed p s) before after are cause = tt
chip_tells places units d (WornOut n) before after are cause =
    omega (arith, cause.0, spares_are places units d are)

-- ---- how a call may end early

-- it doesn't, or the numbers are used up
abbrev pub IsEntry : ScriptStore → Option StoreFault → Type 0
IsEntry a entry = (entry ≡ None) ⊎ ((entry ≡ Some store.Spent) × (LAST_NUMBER < counter_of a.store))

pub up_entry : (a : ScriptStore) → a.store.down ≡ false → IsEntry a (entry_fault a.store)
up_entry a up = subst (IsEntry a)
    (sym (ap (λ (down : Bool). if down then Some store.Down else rest) up))
    (by_spent (nat_lt LAST_NUMBER (counter_of a.store)) refl)
  where
    rest : Option StoreFault
    rest = if nat_lt LAST_NUMBER (counter_of a.store) then Some store.Spent else None

    by_spent : (spent : Bool) → nat_lt LAST_NUMBER (counter_of a.store) ≡ spent
        → IsEntry a (if spent then Some store.Spent else None)
    by_spent true is = inr (refl, grind (arith, nat_tests, is))
    by_spent false is = inl refl

-- ---- a call of a store that isn't down doesn't say that it is

-- one that ends early doesn't
early_up : (a : ScriptStore) (entry : Option StoreFault) (refusal : Option Refusal)
    → IsEntry a entry → early_fault entry refusal ≢ Some store.Down
early_up a entry refusal (inr (spent, late)) is =
    let no : Some store.Spent ≡ Some store.Down =
    ap (λ (o : Option StoreFault). early_fault o refusal) (sym spent) ∙ is in cc no
early_up a entry refusal (inl none) is =
    by_refusal refusal (ap (λ (o : Option StoreFault). early_fault o refusal) (sym none) ∙ is)
  where
    by_refusal : (r : Option Refusal) → early_fault None r ≢ Some store.Down
    by_refusal (Some r) down = let no : Some (store.Refused r) ≡ Some store.Down = down in cc no
    by_refusal None down = let no : None ≡ Some store.Down = down in cc no

-- nor does one that was let in
served_up : {T : Type 0} (before : Told) (result : Result T StoreFault) (new : Store)
    (after : Told) → EndsFor before result new after → result ≢ Err store.Down
served_up before (Ok found) new after ends is = cc is
served_up before (Err fault) new after (e, of_chip, cause, down) is =
    let same : fault ≡ store.Down = cc is in
    let no : store.Chip e ≡ store.Down = sym of_chip ∙ same in cc no

-- so none does
pub never_down : {T : Type 0} (a : ScriptStore) (refusal : Option Refusal) (next : State → State)
    (most : ℕ) (before : Told) (result : Result T StoreFault) (new : Store) (after : Told)
    → a.store.down ≡ false
    → Calls (early_fault (entry_fault a.store) refusal) next most a.store before result new after
    → result ≢ Err store.Down
never_down a refusal next most before result new after up calls is =
    by_early (early_fault (entry_fault a.store) refusal) refl
  where
    by_early : (o : Option StoreFault) → early_fault (entry_fault a.store) refusal ≡ o → ⊥
    by_early (Some fault) early =
        let answer = sym (calls.refuses fault early).0 ∙ is in
        let same : fault ≡ store.Down = cc answer in
        early_up a (entry_fault a.store) refusal (up_entry a up) (early ∙ ap Some same)
    by_early None early = served_up before result new after (calls.serves early).ends is

-- ---- a step by its parts

-- one whose reply is told
says_it : (x : Stepped) (replies : List Reply) → x.1 ≡ replies → x ≡ (x.0, replies)
says_it x replies is = ap (λ (r : List Reply). (x.0, r)) is

-- and one whose state is told too
both_are : (x : Stepped) (state : State) (replies : List Reply) → x.0 ≡ state → x.1 ≡ replies
    → x ≡ (state, replies)
both_are x state replies state_is is =
    says_it x replies is ∙ ap (λ (s : State). (s, replies)) state_is

-- ---- the store as it was

module _ (known : KnownPages) (c : Command) (a : ScriptStore) (told : Told) (runs : IsRunning told.places a) where
  pub spent_does : LAST_NUMBER < counter_of a.store → DoesCommand known c a told (Err Spent) a told
  spent_does late = record {
    works = works_so known told.places a a told told runs.up refl c (Err Spent)
        (idle_faults_are_work known.pages c (view_of a.store) told late) (λ limits state h added was is tells. tt);
    tidy = tidy_same (script_keeping told.places known) a told told false refl;
    draws = draws_few known told.places WORK_DRAWS _ a a runs.up (omega arith) (λ is. late);
    running = tt;
    learns = λ entry knows. tt;
    recalls = λ calm. tt;
    counts = counts_none told;
    cause = tt;
  }

  refused_does : (r : Refusal)
      → sessions_refuse (limits_of_store a.store) a.store.transactions.sessions c ≡ Some r
      → DoesCommand known c a told (Ok (reply.Refused r)) a told
  refused_does r is = record {
    works = works_so known told.places a a told told runs.up refl c (Ok (reply.Refused r))
        (leads_are_work known.pages c (λ state. (step (limits_of_store a.store) state c).0) (view_of a.store)
        (view_of a.store) (Ok (reply.Refused r)) told told refl runs.up
        (refusals_lead (limits_of_store a.store) c r (view_of a.store).memory told is)
        (λ h state keeps. says_it (step (limits_of_store a.store) state c) _
        (ap (λ (y : Stepped). y.1) (refusals_answer (limits_of_store a.store)
        a.store.transactions.sessions state c r (keeps.up runs.up).sessions is)))
        (λ pages h state keeps. omega arith) tt) tt;
    tidy = tidy_same (script_keeping told.places known) a told told true refl;
    draws = draws_few known told.places WORK_DRAWS _ a a runs.up (omega arith)
        (λ spent. absurd (cc spent));
    running = runs;
    learns = λ entry knows. knows;
    recalls = λ calm entry recalled. recalled;
    counts = counts_none told;
    cause = tt;
  }

-- a line that is no command
module _ (known : KnownPages) (a : ScriptStore) (told : Told) (runs : IsRunning told.places a) where
  abbrev same : View
  same = view_of a.store

  pub syntax_does : DoesCommand known command.Syntax a told (Ok reply.Syntax) a told
  syntax_does = record {
    works = works_so known told.places a a told told runs.up refl command.Syntax (Ok reply.Syntax)
        (leads_are_work known.pages command.Syntax (λ state. state) same same (Ok reply.Syntax) told told
        refl runs.up
        (answers_are_alike (λ state. state) same.memory same.memory
        (Ok tt) (Ok reply.Syntax) told told refl
        (memory_leads (λ state. state) same.memory same.memory told
        (λ places c it state settled fits. fits) (λ places c it state fits. refl)
        (λ p s counted. counted)))
        (λ h state keeps. refl) (λ pages h state keeps. omega arith) tt) tt;
    tidy = tidy_same (script_keeping told.places known) a told told true refl;
    draws = draws_few known told.places WORK_DRAWS _ a a runs.up (omega arith)
        (λ spent. absurd (cc spent));
    running = runs;
    learns = λ entry knows. knows;
    recalls = λ calm entry recalled. recalled;
    counts = counts_none told;
    cause = tt;
  }

-- a store whose call ended with a page's fault isn't down
pub stays_up : (T : Type 0) (e : ChipFault) (before after : Told) (new : Store)
    → EndsFor {T = T} before (Err (store.Chip e)) new after → ¬ IsFailedCall e → new.down ≡ false
stays_up T e before after new ends unfailed =
    let same : e ≡ ends.0 = cc ends.1 in
    ends.3 ∙ ap puts_down (sym same) ∙ by_fault e unfailed
  where
    by_fault : (f : ChipFault) → ¬ IsFailedCall f → puts_down f ≡ false
    by_fault ReadFault other = refl
    by_fault Stopped other = absurd (other tt)
    by_fault (Damaged p s stored computed) other = refl
    by_fault (Malformed p s) other = refl
    by_fault (WornOut n) other = absurd (other tt)

-- ---- a call that is let in

-- Done, it is the work of its command; failed, it left the map of the model's step at least.
module _ (known : KnownPages) {T : Type 0} (say : T → Reply) (c : Command) (next : State → State) (most : ℕ)
    (a b : ScriptStore) (before after : Told) (runs : IsRunning before.places a)
    (few : most ≤ WORK_DRAWS) (same : limits_of_store b.store ≡ limits_of_store a.store) where
  -- and so as many units
  many : b.store.units ≡ a.store.units
  many = ap (λ (l : Limits). l.units) same

  abbrev first : View
  first = view_of a.store

  abbrev last : View
  last = view_of b.store

  -- what the store found is the model's reply, and what it keeps then the next state
  abbrev IsWork : T → Type 0
  IsWork found = Works (store_keeping before.places known.pages) c first before (Ok (say found)) last after

  -- the model's step leaves the next state's map
  abbrev StepsToMap : Type 0
  StepsToMap = (state : State) → AreSessionsOf a.store.transactions.sessions state
      → (step (limits_of_store a.store) state c).0.map ≡ (next state).map

  pub few_drawn : counter_of b.store ≤ counter_of a.store + most
      → counter_of b.store ≤ counter_of a.store + WORK_DRAWS
  few_drawn drawn = omega (arith, drawn, few)

  pub done_does : (found : T) (did : Serves next most a.store before (Ok found) b.store after)
      → IsWork found → IsRunning before.places b
      → LeavesTidy (script_keeping before.places known) a b before after true
      → Learns (script_keeping before.places known) a before (Ok (say found)) b after
      → StillRecalls (script_keeping before.places known) a before b after
      → (counts : Counts before after) → DoesCommand known c a before (Ok (say found)) b after
  done_does found did works running tidy learns recalls counts = record {
    works = works_so known before.places a b before after runs.up many c (Ok (say found)) works tt;
    tidy = tidy;
    draws = draws_few known before.places WORK_DRAWS _ a b runs.up (few_drawn did.drawn)
        (λ spent. absurd (cc spent));
    running = running;
    learns = learns;
    recalls = λ calm. recalls;
    counts = counts;
    cause = tt;
  }

  failed_does : StepsToMap → (e : ChipFault)
      (did : Serves {T = T} next most a.store before (Err (store.Chip e)) b.store after)
      → PageCause b.store.transactions.pages.parts.directory e before after
      → IsSound before.places b.store
      → LeavesTidy (script_keeping before.places known) a b before after false
      → Learns (script_keeping before.places known) {T = Reply} a before (Err (Chip e)) b after
      → (counts : Counts before after) → DoesCommand known c a before (Err (Chip e)) b after
  failed_does steps e did cause sound tidy learns counts = record {
    works = works_so known before.places a b before after runs.up many c (Err (Chip e))
        (leads_are_work known.pages c next first last (Err (Chip e)) before after
        same runs.up (answers_advance (TurnsMapOf next) next first.memory
        last.memory (Err (store.Chip e)) (Err (Chip e)) before after refl did.leads)
        (λ h state keeps. steps state (keeps.up runs.up).sessions)
        (λ pages h state keeps. few_drawn did.drawn)
        (λ h state keeps. (
          λ low whole. chip_rose d e before after (did.complete _ keeps.steady.holds state
              (subst (λ (pages : Legibility). ShowsState before.places pages first state (held h.start h.story)) whole (keeps.up runs.up).shows)) cause,
          chip_tells before.places a.store.units d e before after are cause,
        )))
        (λ limits state h added was is tells unfailed.
        call_met known before.places a b before after limits state h added was is runs.up (stays_up T e before after b.store did.ends unfailed) many
        refl counts.places T e did.faults tells unfailed);
    tidy = tidy;
    draws = draws_few known before.places WORK_DRAWS _ a b runs.up (few_drawn did.drawn)
        (λ spent. absurd (cc spent));
    running = tt;
    learns = learns;
    recalls = λ calm. tt;
    counts = counts;
    cause = chip_cause before.places a.store.units d e before after are cause;
  }
    where
      d : Places
      d = b.store.transactions.pages.parts.directory

      are : AreCounted before.places a.store.units d
      are = record {
        all = sound.made.directory;
        current = did.counted ∙ many;
        keeps = runs.sound.made.units;
      }

  pub served_does : StepsToMap → (result : Result T StoreFault)
      → Serves next most a.store before result b.store after → IfOk result IsWork
      → IsSound before.places b.store
      → Tidies (tables_in a.store.transactions.pages) result (tables_in b.store.transactions.pages)
      before after → Learns (script_keeping before.places known) a before (answer_of say result) b after
      → StillRecalls (script_keeping before.places known) a before b after
      → Counts before after → DoesCommand known c a before (answer_of say result) b after
  served_does steps (Ok found) did works sound tidy learns recalls counts =
      done_does found did works (record { sound = sound; up = did.ends })
      (tidy_so known before.places a b before after (Ok found) (Ok (say found)) refl tidy) learns recalls
      counts
  served_does steps (Err fault) did works sound tidy learns recalls counts =
      let (e, is_chip, cause, down) = did.ends in
      subst (λ (f : StoreFault). Serves {T = T} next most a.store before (Err f) b.store after
      → Learns (script_keeping before.places known) a before (ended f) b after
      → DoesCommand known c a before (ended f) b after) (sym is_chip)
      (λ of_chip of_it. failed_does steps e of_chip cause sound
      (tidy_so known {T = T} {U = Reply} before.places a b before after (Err fault) (Err (Chip e)) refl
      tidy) of_it counts) did learns

-- ---- the work of a command that asks no page for room

module _ (known : KnownPages) {T : Type 0} (say : T → Reply) (c : Command) (next : State → State) (most : ℕ)
    (a b : ScriptStore) (before after : Told) (runs : IsRunning before.places a)
    (few : most ≤ WORK_DRAWS) (same : limits_of_store b.store ≡ limits_of_store a.store)
    (free : sessions_refuse (limits_of_store a.store) a.store.transactions.sessions c ≡ None)
    (roomy : (state : State) → finds_full state c ≡ false)
    (nexts : (state : State) → (accepted state c).0 ≡ next state) where
  -- it is done
  steps_on : (state : State) → AreSessionsOf a.store.transactions.sessions state
      → step (limits_of_store a.store) state c ≡ accepted state c
  steps_on state sessions =
      accepted_are_done (limits_of_store a.store) a.store.transactions.sessions state c sessions free
      ∙ ap (λ (full : Bool). if full then (state, reply.Refused PageFull ∷ []) else accepted state c)
      (roomy state)

  pub steps_to_map : StepsToMap known say c next most a b before after runs few same
  steps_to_map state sessions = ap (λ (x : Stepped). x.0.map) (steps_on state sessions)
      ∙ ap (λ (s : State). s.map) (nexts state)

  -- what the store found is the model's reply
  abbrev Replies : T → Type 0
  Replies found = (state : State) → OfContents before (λ x.
      ShowsState before.places known.pages (view_of a.store) state x
      → (accepted state c).1 ≡ say found ∷ [])

  pub accepted_work : (result : Result T StoreFault)
      → Serves next most a.store before result b.store after → IfOk result Replies
      → IfOk result (IsWork known say c next most a b before after runs few same)
  accepted_work (Err fault) did replies = tt
  accepted_work (Ok found) did replies =
      leads_are_work known.pages c next (view_of a.store) (view_of b.store) (Ok (say found)) before after
      same runs.up (answers_advance (TurnsMapOf next) next
      (view_of a.store).memory (view_of b.store).memory (Ok found) (Ok (say found)) before after
      refl did.leads)
      (λ h state keeps. steps_on state (keeps.up runs.up).sessions
      ∙ both_are (accepted state c) (next state) (say found ∷ []) (nexts state)
      (replies state _ keeps.steady.holds (keeps.up runs.up).shows))
      (λ pages h state keeps. few_drawn known say c next most a b before after runs few same did.drawn) tt

-- ---- a call

module _ (known : KnownPages) {T : Type 0} (say : T → Reply) (c : Command) (refusal : Option Refusal)
    (next : State → State) (most : ℕ) (a b : ScriptStore) (before after : Told)
    (result : Result T StoreFault) (runs : IsRunning before.places a)
    (refuses : refusal ≡ sessions_refuse (limits_of_store a.store) a.store.transactions.sessions c)
  where
    -- one that did nothing
    idle_does : (fault : StoreFault) → DoesCommand known c a before (ended fault) a before
        → result ≡ Err fault → b.store ≡ a.store → after ≡ before
        → DoesCommand known c a before (answer_of say result) b after
    idle_does fault base is same still =
        subst (λ (r : Result T StoreFault). DoesCommand known c a before (answer_of say r) b after) (sym is)
        (subst (λ (t : Told). DoesCommand known c a before (ended fault) b t) (sym still)
        (subst (λ (s : Store). DoesCommand known c a before (ended fault) (record { store = s }) before) (sym same)
        base))

    module _ (entry : Option StoreFault)
        (calls : Calls (early_fault entry refusal) next most a.store before result b.store after)
        -- where it is let in, it is the command's work, and else it failed
        (works : early_fault entry refusal ≡ None
        → sessions_refuse (limits_of_store a.store) a.store.transactions.sessions c ≡ None
        → limits_of_store b.store ≡ limits_of_store a.store → DoesCommand known c a before (answer_of say result) b after) where
      early_is : (e : Option StoreFault) (r : Option Refusal) → entry ≡ e → refusal ≡ r
          → early_fault entry refusal ≡ early_fault e r
      early_is e r entry_is is = ap (λ (o : Option StoreFault). early_fault o refusal) entry_is
          ∙ ap (early_fault e) is

      by_refusal : (r : Option Refusal) → refusal ≡ r → entry ≡ None
          → DoesCommand known c a before (answer_of say result) b after
      by_refusal (Some r) is none =
          let (answer, same, still) = calls.refuses (store.Refused r) (early_is None (Some r) none is)
          in
          idle_does (store.Refused r) (refused_does known c a before runs r (sym refuses ∙ is))
          answer same still
      by_refusal None is none = works (early_is None None none is) (sym refuses ∙ is)
          (λ i. limits_of (calls.sessions i) (calls.units i))

      pub by_entry : IsEntry a entry → DoesCommand known c a before (answer_of say result) b after
      by_entry (inl none) = by_refusal refusal refl none
      by_entry (inr (is, late)) =
          let (answer, same, still) = calls.refuses store.Spent
          (ap (λ (o : Option StoreFault). early_fault o refusal) is) in
          idle_does store.Spent (spent_does known c a before runs late) answer same still

-- ---- a call of a command that asks no page for room

module _ (known : KnownPages) {T : Type 0} (say : T → Reply) (c : Command) (refusal : Option Refusal)
    (next : State → State) (most : ℕ) (a b : ScriptStore) (before after : Told)
    (result : Result T StoreFault) (runs : IsRunning before.places a)
    (few : most ≤ WORK_DRAWS)
    (refuses : refusal ≡ sessions_refuse (limits_of_store a.store) a.store.transactions.sessions c)
    (roomy : (state : State) → finds_full state c ≡ false)
    (nexts : (state : State) → (accepted state c).0 ≡ next state)
    (replies : IfOk result (λ found. (state : State)
    → OfContents before (λ x. ShowsState before.places known.pages (view_of a.store) state x
    → (accepted state c).1 ≡ say found ∷ []))) where
  pub by_call : (entry : Option StoreFault) → IsEntry a entry
      → Calls (early_fault entry refusal) next most a.store before result b.store after
      → DoesCommand known c a before (answer_of say result) b after
  by_call entry is calls =
      by_entry known say c refusal next most a b before after result runs refuses entry calls
      (λ none free same.
      served_does known say c next most a b before after runs few same
      (steps_to_map known say c next most a b before after runs few same free roomy nexts) result
      (calls.serves none)
      (accepted_work known say c next most a b before after runs few same free roomy nexts result
      (calls.serves none) replies)
      calls.sound calls.tidy
      (calls_learn known a b before after say result runs (early_fault entry refusal) next most calls)
      (calls_recall known a b before after result (early_fault entry refusal) next most calls)
      calls.counts) is

  -- that the store refuses once its numbers are used up
  pub calls_do : Calls (early_fault (entry_fault a.store) refusal) next most a.store before result
      b.store after → DoesCommand known c a before (answer_of say result) b after
  calls_do calls = by_call (entry_fault a.store) (up_entry a runs.up) calls

  -- and one that draws none
  pub ends_do : Calls (early_fault (down_fault a.store) refusal) next most a.store before result
      b.store after → DoesCommand known c a before (answer_of say result) b after
  ends_do calls = by_call (down_fault a.store)
      (inl (ap (λ (down : Bool). if down then Some store.Down else None) runs.up)) calls
