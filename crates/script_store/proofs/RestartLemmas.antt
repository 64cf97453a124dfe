-- A chip that is opened again is the work of a restart.
use Rattle.std.proofs.Common.{ℕ, ◌≡◌, ◌≢◌, ◌⊎◌, inl, inr, ◌≤◌, ◌<◌, ◌+◌, ◌^◌, arith, Bool, true, false, [], None, Some, Result, Ok, Err, OnOk, length, if◌then◌else◌, refl, sym, ◌∙◌, ap, subst}
use Rattle.std.proofs.lemmas.Bool.{true≢false}
use Rattle.chip_trait.specs.Lawful.{AreClean}
use Rattle.chip_trait.specs.Story.{Story, Contents, held}
use Rattle.chip_trait.specs.Told.{History, Told, adds_all}
use Rattle.ipl_base.specs.declared.fault.ChipFault.{ChipFault}
use Rattle.ipl_base.specs.declared.fault.ChipFault.TheVariants.{ReadFault, Stopped, Damaged, Malformed, WornOut}
use Rattle.ipl_base.specs.Places.{KeepsUnits, spares_on}
use Rattle.ipl_base.specs.declared.fault.ImageFault.{ImageFault}
use Rattle.ipl_base.specs.declared.fault.ImageFault.TheVariants as image
use Rattle.ipl_model.specs.Operations.{after_restart}
use Rattle.ipl_model.specs.State.{Map, State, Limits}
use Rattle.ipl_model.specs.declared.command.Command.TheVariants as command
use Rattle.ipl_model.specs.declared.reply.Reply.{Reply}
use Rattle.ipl_model.specs.declared.reply.Reply.TheVariants as reply
use Rattle.ipl_meaning.specs.Legible.{Legibility, every, of, whole}
use Rattle.ipl_meaning.specs.Chart.{Chart, chart_of}
use Rattle.ipl_meaning.specs.Found.{IsAbove}
use Rattle.ipl_meaning.specs.Layout.{Layout, Laid}
use Rattle.ipl_meaning.specs.Rests.{StoryRests}
use Rattle.ipl_meaning.specs.Stands.{Says}
use Rattle.ipl_meaning.specs.Tables.{Places, Tables, IsCountedClean}
use Rattle.ipl_meaning.specs.Chosen.{units_at}
use Rattle.ipl_meaning.specs.Faults.{first_fault, greatest_found}
use Rattle.ipl_meaning.specs.LaidOut.{layout_in}
use Rattle.ipl_meaning.specs.OpeningLaws.{IsByteChart}
use Rattle.ipl_meaning.proofs.LaidLemmas.{laid_has_no_fault, laid_is_fine_or_spent, laid_says_its_units}
use Rattle.ipl_meaning.proofs.NoFaultLemmas.{no_fault_is_laid}
use Rattle.ipl_meaning.proofs.NumberLemmas.{greatest_is_found}
use Rattle.unit_io.specs.Leads.{IsSteady}
use Rattle.page_frames.specs.Pages.{tables_in}
use Rattle.unit_io.specs.StepLaws.{Preserves}
use Rattle.place_taking.proofs.SpendingLemmas.{or_right}
use Rattle.restart.proofs.CompleteLemmas.{completes_whole}
use Rattle.restart.specs.Recovers.{IsOpeningFault, FailsApart, FailsByCallAlone, OpeningCause, tells_wear}
use Rattle.restart.proofs.ReadyLemmas.{layouts_say}
use Rattle.store_trait.specs.declared.fault.Fault.{Fault}
use Rattle.store_trait.specs.declared.fault.Fault.TheVariants.{Image}
use Rattle.store_trait.specs.Keeping.{FOUND_NUMBER, WORK_DRAWS, ChipRose, SaysFailedCall, Works}
use Rattle.store_laws.specs.Advances.{memory_of, TurnsMapOf}
use Rattle.store_laws.specs.Keeps.{KnownPages, View, ImageCause, ImageTells, DrawsFew, IsExcused, KeepsStore, ShowsState, limits_of, store_keeping, limits_in}
use Rattle.store_laws.proofs.AdvanceLemmas.{answers_advance}
use Rattle.store_laws.proofs.KeepLemmas.{at_limits, leads_are_work}
use Rattle.store_laws.proofs.FaultLemmas.{faults_that_leave_down}
use Rattle.ipl_store.specs.Calls.{memory_of_store, view_of, counter_of, IsSound}
use Rattle.ipl_store.specs.Openings.{OpensStore, KeepsRoom, Reopens, Restarts, Tries}
use Rattle.script_store.specs.declared.store.ScriptStore.{ScriptStore}
use Rattle.script_store.specs.Met.{FaultMet}
use Rattle.script_store.specs.Keeps.{IsRunning, next_number, script_keeping, DoesCommand}
use Rattle.script_store.proofs.KeepLemmas.{counted_few, works_so, draws_found}
use Rattle.script_store.proofs.MetLemmas.{opening_met}
use Rattle.script_store.proofs.ReopenLemmas.{restart_learns_done, restart_learns_failed}

-- ---- the answer

-- what an opening answers, as a restart does
abbrev pub restarted : Result (Unit {0}) ImageFault → Result Reply Fault
restarted (Ok v) = Ok reply.Ok
restarted (Err e) = Err (Image e)

-- ---- tables that count no sector as clean

abbrev none_clean : ℕ → Tables
none_clean next = record {
  places = record {
    current = [];
    in_use = [];
    erases = [];
    retired = [];
    written = [];
    generations = [];
    masks = [];
  };
  overflow = record { places = 0; spots = []; masks = []; in_use = [] };
  status = record { place = 0; generation = 0; numbers = []; most = 0; first = 256 };
  next = next;
  active = [];
}

none_counted : (next p s : ℕ) → IsCountedClean (none_clean next) p s → ⊥
none_counted next p s (within, inl (u, low, at, from)) = absurd (omega (arith, low))
none_counted next p s (within, inr (inl (first, listed, from))) = absurd (omega (arith, listed.1))
none_counted next p s (within, inr (inr (place, from))) = absurd (omega (arith, within, from))

-- ---- a store that is down keeps its story

module _ (known : KnownPages) (a b : ScriptStore) (old new : Told) (up : a.store.down ≡ false)
    (units : b.store.units ≡ a.store.units) (down : b.store.down ≡ true) where
  -- whatever is left of its memory
  abbrev left : View
  left = record {
    memory = memory_of (none_clean (counter_of a.store)) (λ u page. None) b.store.transactions.sessions;
    units = b.store.units;
    down = true;
  }

  pub works_down : (fault : Fault)
      → Works (store_keeping old.places known.pages) command.Restart (view_of a.store) old (Err fault) left new
      → ((limits : Limits) (state : State) (h : History) (added : Story)
      → KeepsStore old.places known.pages limits (view_of a.store) old h state → FaultMet old.places new (adds_all added h) fault)
      → Works (script_keeping old.places known) command.Restart a old (Err fault) b new
  works_down fault works met limits state h keeps =
      let did = works limits state h keeps.kept in record {
        leaves = record {
          added = did.leaves.added;
          history = did.leaves.history;
          each_moment = did.leaves.each_moment;
          silent = did.leaves.silent;
          only = did.leaves.only;
          lawful = did.leaves.lawful;
          clean = λ done. absurd (cc done);
          unused = record { marks = did.leaves.unused.marks; counts = λ done. absurd (cc done) };
        };
        ends = λ unrisen.
            let stays = (did.ends unrisen).0 in
            let few = keeps.few in (
              record {
                kept = record {
                  limits_are = stays.limits_are;
                  steady = stays.steady;
                  rests = stays.rests;
                  many = stays.many;
                  up = λ runs. absurd (let clash : true ≡ false = sym down ∙ runs in cc clash);
                };
                few = omega (arith, few, units);
              },
              met limits state h did.leaves.added keeps.kept,
            );
        drawn = let none = none_drawn in omega (arith, none);
        excuse = λ few whole. did.excuse (subst (λ (k : ℕ). k + WORK_DRAWS < 2 ^ 63)
            (ap (λ (is : Bool). if is then 0 else counter_of a.store) up) few) whole;
        tells = did.tells;
      }
    where
      none_drawn : next_number b ≡ 0
      none_drawn = ap (λ (is : Bool). if is then 0 else counter_of b.store) down

-- ---- a fault of the opening

-- it says that a call of the chip failed, where one did
says_call : (e : ImageFault) → FailsByCallAlone e → SaysFailedCall (Image e)
says_call e (fault, is, failed) =
    subst (λ (f : ImageFault). SaysFailedCall (Image f)) (sym is) failed

-- one that doesn't say so would not have come
never_else : (e : ImageFault) → ¬ SaysFailedCall (Image e)
    → (¬ FailsByCallAlone e → FailsByCallAlone e) → ⊥
never_else e other fails = other (says_call e (fails (λ by. other (says_call e by))))

-- one that isn't since numbers have no room says it too
call_alone : (e : ImageFault) → e ≢ image.TooManyNumbers → FailsApart e → FailsByCallAlone e
call_alone e fits (inl call) = call
call_alone e fits (inr many) = absurd (fits many)

-- where no call of the chip failed it would have been done
rose_for : (most : ℕ) (d : Places) (e : ImageFault) (before after : Told) → OpeningCause most d e before after
    → (¬ FailsByCallAlone e → FailsByCallAlone e)
    → ChipRose before after × SaysFailedCall (Image e)
rose_for most d (image.Chip ReadFault) before after cause fails = (inl (cause.read refl), tt)
rose_for most d (image.Chip Stopped) before after cause fails = (inr (inl (cause.stopped refl)), tt)
rose_for most d (image.Chip (Damaged p s stored computed)) before after cause fails =
    absurd (never_else (image.Chip (Damaged p s stored computed)) (λ none. none) fails)
rose_for most d (image.Chip (Malformed p s)) before after cause fails =
    absurd (never_else (image.Chip (Malformed p s)) (λ none. none) fails)
rose_for most d (image.Chip (WornOut n)) before after cause fails =
    (inr (inr (cause.worn n refl).2), tt)
rose_for most d image.Geometry before after cause fails =
    absurd (never_else image.Geometry (λ none. none) fails)
rose_for most d image.NotFormatted before after cause fails =
    absurd (never_else image.NotFormatted (λ none. none) fails)
rose_for most d (image.Missing u) before after cause fails =
    absurd (never_else (image.Missing u) (λ none. none) fails)
rose_for most d image.Spent before after cause fails =
    absurd (never_else image.Spent (λ none. none) fails)
rose_for most d (image.NoSpare n) before after cause fails =
    absurd (never_else (image.NoSpare n) (λ none. none) fails)
rose_for most d image.TooManyNumbers before after cause fails =
    absurd (never_else image.TooManyNumbers (λ none. none) fails)

-- and its cause, where the tables then are of so many places, and as many units as may be kept
image_cause : (most places : ℕ) (d : Places) (e : ImageFault) (before after : Told)
    → length d.in_use ≡ places → KeepsUnits places (length d.current)
    → OpeningCause most d e before after → ImageCause places e before after
image_cause most places d (image.Chip ReadFault) before after all keeps cause = cause.read refl
image_cause most places d (image.Chip Stopped) before after all keeps cause = cause.stopped refl
image_cause most places d (image.Chip (Damaged p s stored computed)) before after all keeps cause =
    cause.damaged p s stored computed refl
image_cause most places d (image.Chip (Malformed p s)) before after all keeps cause = tt
image_cause most places d (image.Chip (WornOut n)) before after all keeps cause =
    let worn = cause.worn n refl in (
      record {
        units = length d.current;
        keeps = keeps;
        one_more = worn.0 ∙ ap (λ (k : ℕ). 1 + spares_on k (length d.current)) all;
      },
      worn.2,
    )
image_cause most places d image.Geometry before after all keeps cause = tt
image_cause most places d image.NotFormatted before after all keeps cause = tt
image_cause most places d (image.Missing u) before after all keeps cause = tt
image_cause most places d image.Spent before after all keeps cause = tt
image_cause most places d (image.NoSpare n) before after all keeps cause = tt
image_cause most places d image.TooManyNumbers before after all keeps cause = tt

-- a chip that is laid out fails with what is wrong with a page, or since its numbers are used up, or where a call failed
never_laid : (places : ℕ) (x : Contents) (it : Layout) (e : ImageFault) → Laid places (chart_of x) it
    → (¬ FailsByCallAlone e → IsOpeningFault places x e)
    → ((f : ChipFault) → e ≢ image.Chip f) → e ≢ image.Spent → ⊥
never_laid places x it e laid unless apart unspent = elim (unless (λ (f, is, call). apart f is)) [
  | inl first ↦ elim (laid_is_fine_or_spent (chart_of x) places it laid) [
    | inl none ↦ (let both : None ≡ Some e = sym none ∙ first in cc both)
    | inr spent ↦ unspent (let both : Some e ≡ Some image.Spent = sym first ∙ spent in cc both)
  ]
  | inr fault ↦ apart fault.1.fault fault.1.is
]

-- it tells no other number of worn places than one more than are spare, where the tables then have
-- so many units
image_tells : (most places units : ℕ) (d : Places) (e : ImageFault) (before after : Told)
    → length d.in_use ≡ places → (tells_wear e ≡ true → length d.current ≡ units)
    → OpeningCause most d e before after → (((f : ChipFault) → e ≢ image.Chip f) → e ≢ image.Spent → ⊥)
    → ImageTells (spares_on places units) e
image_tells most places units d (image.Chip ReadFault) before after all many cause never = tt
image_tells most places units d (image.Chip Stopped) before after all many cause never = tt
image_tells most places units d (image.Chip (Damaged p s stored computed)) before after all many cause never =
    tt
image_tells most places units d (image.Chip (Malformed p s)) before after all many cause never = tt
image_tells most places units d (image.Chip (WornOut n)) before after all many cause never =
    (cause.worn n refl).0 ∙ ap (λ (k : ℕ). 1 + spares_on k (length d.current)) all
    ∙ ap (λ (k : ℕ). 1 + spares_on places k) (many refl)
image_tells most places units d image.Geometry before after all many cause never = never (λ f is. cc is) (λ is. cc is)
image_tells most places units d image.NotFormatted before after all many cause never = never (λ f is. cc is) (λ is. cc is)
image_tells most places units d (image.Missing u) before after all many cause never = never (λ f is. cc is) (λ is. cc is)
image_tells most places units d image.Spent before after all many cause never = tt
image_tells most places units d (image.NoSpare n) before after all many cause never = never (λ f is. cc is) (λ is. cc is)
image_tells most places units d image.TooManyNumbers before after all many cause never = never (λ f is. cc is) (λ is. cc is)

-- the fault is that the numbers are used up, or the chart has none
spent_or_none : (places : ℕ) (x : Contents) (it : Layout) (e : ImageFault)
    → Laid places (chart_of x) it → IsOpeningFault places x e
    → (e ≡ image.Spent) ⊎ (first_fault (chart_of x) places ≡ None)
spent_or_none places x it e laid (inr fault) = inr fault.0
spent_or_none places x it e laid (inl first) = elim (laid_is_fine_or_spent (chart_of x) places it laid) [
  | inl none ↦ inr none
  | inr spent ↦ inl (let both : Some e ≡ Some image.Spent = sym first ∙ spent in cc both)
]

-- ---- the numbers found are below the counter

few_found : (places : ℕ) (c : Chart) (it : Layout) (next : ℕ) → IsByteChart places c
    → Laid places c it → IsAbove places c it next → greatest_found c places ≤ next
few_found places c it next bytes laid above = elim (greatest_is_found c places it bytes laid) [
  | inl zero_is ↦ omega (arith, zero_is)
  | inr found ↦ (let below = above (greatest_found c places) found in omega (arith, below))
]

-- ---- an opening

module _ (known : KnownPages) (a b : ScriptStore) (before after : Told) (runs : IsRunning before.places a)
    (sound : IsSound before.places b.store)
    (sessions : length b.store.transactions.sessions ≡ length a.store.transactions.sessions) where
  -- the tables then
  abbrev t : Tables
  t = tables_in b.store.transactions.pages

  abbrev first : View
  first = view_of a.store

  abbrev last : View
  last = view_of b.store

  -- a chip on which the store kept a state says as many units as it had
  as_many : (state : State) (h : History)
      → KeepsStore before.places known.pages (limits_in first) first before h state
      → units_at (chart_of (held h.start h.story)) before.places ≡ a.store.units
  as_many state h keeps =
      let shown = (keeps.up runs.up).shows in
      laid_says_its_units (chart_of (held h.start h.story)) before.places shown.layout
      shown.fits.mirrors.laid ∙ shown.count

  opened_does : OpensStore before.places before b.store after
      → Tries false before.places before (Ok tt) t after
      → Restarts (memory_of_store a.store) before (memory_of_store b.store) after
      → DoesCommand known command.Restart a before (Ok reply.Ok) b after
  opened_does opens tries leads = record {
    works = λ limits state h keeps.
        let kept = at_limits before.places known.pages limits first before h state keeps.kept in
        let units = opens.units _ kept.steady.holds ∙ as_many state h kept in
        works_so known before.places a b before after runs.up units command.Restart (Ok reply.Ok)
        (leads_are_work known.pages command.Restart (λ state. after_restart state) first last (Ok reply.Ok)
        before after (λ i. limits_of (sessions i) (units i)) runs.up
        (answers_advance (TurnsMapOf (λ state. after_restart state)) (λ state. after_restart state)
        first.memory last.memory (Ok tt) (Ok reply.Ok) before after refl leads)
        (λ h state keeps. refl) few tt) tt limits state h keeps;
    tidy = record {
      added = tries.tidy.tidies.added;
      history = tries.tidy.tidies.history;
      lawful = record {
        lawful = λ base is clean. tries.tidy.tidies.does.lawful.lawful base is (took_none base);
      };
      clean = λ done. record {
        clean = λ base is clean. tries.tidy.tidies.does.clean refl base (took_none base);
      };
    };
    draws = draws_found known before.places WORK_DRAWS _ a b found (λ spent. absurd (cc spent));
    running = record { sound = sound; up = opens.fresh.up };
    learns = λ entry knows.
        restart_learns_done a b before after runs entry knows opens tries;
    recalls = λ calm. absurd (true≢false calm);
    counts = tries.accounts.counts;
    cause = tt;
  }
    where
      took_none : (base : Story) → AreClean (IsCountedClean tries.tidy.first) base
      took_none base p s counted = absurd (tries.tidy.takes.none refl p s counted)

      found : next_number b ≤ FOUND_NUMBER
      found = let left = opens.left in let most = counted_few b in omega (arith, left, most)

      few : DrawsFew WORK_DRAWS first before last
      few pages h state keeps =
          let x = held h.start h.story in
          let told = keeps.steady.holds in
          let shown = (keeps.up runs.up).shows in
          let below = few_found before.places (chart_of x) shown.layout (counter_of a.store)
          (tries.bytes x told) shown.fits.mirrors.laid shown.fits.mirrors.numbers.above in
          let number = opens.number x told in omega (arith, below, number)

  failed_does : (e : ImageFault) → b.store.down ≡ true → b.store.units ≡ a.store.units
      → KeepsRoom (memory_of_store a.store) before (Err e)
      → Tries false before.places before (Err e) t after → DoesCommand known command.Restart a before (Err (Image e)) b after
  failed_does e down units room tries = record {
    works = works_down known a b before after runs.up units down (Image e)
        (faults_that_leave_down known.pages command.Restart first
        (left known a b before after runs.up units down) (Image e) before after
        (λ i. limits_of (sessions i) (units i)) runs.up refl
        (λ h it state steady story. preserved state.map h steady story.rests)
        (omega arith) excused) (λ limits state h added keeps tells.
        opening_met false before.places e before after t tries h added keeps.steady.holds);
    tidy = record {
      added = tries.tidy.tidies.added;
      history = tries.tidy.tidies.history;
      lawful = record {
        lawful = λ base is clean. tries.tidy.tidies.does.lawful.lawful base is
            (λ p s counted. absurd (tries.tidy.takes.none refl p s counted));
      };
      clean = λ done. absurd (cc done);
    };
    draws = draws_found known before.places WORK_DRAWS _ a b
        (let none = none_drawn in omega (arith, none)) (λ spent. absurd (cc spent));
    running = tt;
    learns = λ entry knows.
        restart_learns_failed a b before after runs entry knows e t tries;
    recalls = λ calm. tt;
    counts = tries.accounts.counts;
    cause = image_cause t.status.most before.places t.places e before after tries.all tries.units
        tries.accounts.cause;
  }
    where
      none_drawn : next_number b ≡ 0
      none_drawn = ap (λ (is : Bool). if is then 0 else counter_of b.store) down

      preserved : (m : Map) (h : History) → IsSteady h before → StoryRests before.places (of known.pages m) h
          → Preserves {T = Reply} before.places (of known.pages m) first.memory.tables
          (none_clean (counter_of a.store)) h (Err (Image e)) before after
      preserved m h steady rests =
          let (took, takes, did) = tries.steps (of known.pages m) h steady rests in record {
            added = did.added;
            places = did.places;
            history = did.history;
            each_moment = did.each_moment;
            marks = did.marks;
            does = record {
              silent = did.does.silent;
              lawful = record {
                lawful = λ base is clean. did.does.lawful.lawful base is
                    (λ p s counted. absurd (takes.none refl p s counted));
              };
              clean = λ done base clean p s counted.
                  absurd (none_counted (counter_of a.store) p s counted);
            };
            steady = did.steady;
            ends = did.ends;
          }

      excused : IsExcused known.pages WORK_DRAWS first before after (Image e)
      excused h state keeps = (
        λ low all. rose_for t.status.most t.places e before after tries.accounts.cause (fails low all),
        image_tells t.status.most before.places a.store.units t.places e before after tries.all
            (λ worn. tries.costs.units (or_right false (tells_wear e) worn) x told
            ∙ as_many state h keeps) tries.accounts.cause
            (never_laid before.places x shown.layout e laid
            (λ unfailed. tries.tells x told (λ apart. unfailed (call_alone e fits apart)))),
      )
        where
          x : Contents
          x = held h.start h.story

          told : before.contents ≡ Some x
          told = keeps.steady.holds

          shown : ShowsState before.places known.pages first state x
          shown = (keeps.up runs.up).shows

          laid : Laid before.places (chart_of x) shown.layout
          laid = shown.fits.mirrors.laid

          fits : e ≢ image.TooManyNumbers
          fits = room x told shown.layout state shown.fits

          above : counter_of a.store + WORK_DRAWS < 2 ^ 63
              → IsAbove before.places (chart_of x) shown.layout (2 ^ 63)
          above low n found =
              let below = shown.fits.mirrors.numbers.above n found in omega (arith, below, low)

          fails : counter_of a.store + WORK_DRAWS < 2 ^ 63 → known.pages ≡ every → ¬ FailsByCallAlone e
              → FailsByCallAlone e
          fails low all unfailed =
              let fault = tries.tells x told (λ apart. unfailed (call_alone e fits apart)) in
              let bytes = tries.bytes x told (λ is. unfailed (ReadFault, is, tt))
              (λ is. unfailed (Stopped, is, tt)) fits
              (spent_or_none before.places x shown.layout e laid fault) in
              let none = laid_has_no_fault (chart_of x) before.places shown.layout bytes laid
              (above low) in
              let in_it = no_fault_is_laid (chart_of x) before.places bytes none in
              call_alone e fits
              (completes_whole t.status.most before.places (Err e) before tries.complete x told state.map none
              (layouts_say before.places (chart_of x) (layout_in (chart_of x) before.places)
              (whole state.map) in_it (record {
                layout = shown.layout;
                laid = laid;
                says = subst (λ (pages : Legibility). Says before.places (chart_of x) shown.layout (of pages state.map)) all
                    shown.says;
              })))

  -- a restart
  pub restart_does : (result : Result (Unit {0}) ImageFault)
      → Reopens before.places a.store before result b.store after
      → Tries false before.places before result t after
      → KeepsRoom (memory_of_store a.store) before result
      → OnOk result (Restarts (memory_of_store a.store) before (memory_of_store b.store) after)
      → DoesCommand known command.Restart a before (restarted result) b after
  restart_does (Ok v) opens tries room leads = opened_does opens tries leads
  restart_does (Err e) closed tries room leads = failed_does e closed.0 closed.1 room tries
