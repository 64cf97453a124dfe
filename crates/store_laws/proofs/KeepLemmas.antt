-- What calls of a store leave, as a run over a script asks for it.
use Rattle.std.specs.FinMap.{get}
use Rattle.std.proofs.Common.{◌≡◌, ℕ, ◌⊎◌, ◌<◌, ◌≤◌, ◌*◌, true, false, [], ◌∷◌, Option, List, Result, MatchResult, IfOk, Ok, Err, is_ok, refl, sym, ◌∙◌, ap, subst, arith, length}
use Rattle.std.proofs.lemmas.Result.{IfErr-weaker}
use Rattle.chip_trait.specs.Moment.{AtEachMoment, Leaves}
use Rattle.chip_trait.specs.Chart.{says}
use Rattle.chip_trait.specs.Story.{Story, Contents, held}
use Rattle.chip_trait.specs.Told.{History, Told, Unrisen, adds_all}
use Rattle.ipl_base.specs.Places.{spares_on}
use Rattle.ipl_model.specs.State.{Map, State, Limits}
use Rattle.ipl_model.specs.declared.command.Command.{Command}
use Rattle.ipl_model.specs.declared.reply.Reply.{Reply}
use Rattle.ipl_model.specs.Step.{Stepped, step}
use Rattle.ipl_format.specs.Sector.{sector_in}
use Rattle.record_locks.specs.Held.{SessionSlots}
use Rattle.ipl_meaning.proofs.CarriedLemmas.{tidy_is_carried, unused_is_carried}
use Rattle.ipl_meaning.specs.Chart.{Chart, chart_of}
use Rattle.ipl_meaning.specs.Layout.{Layout, Laid}
use Rattle.ipl_meaning.specs.Legible.{Legibility, of}
use Rattle.ipl_meaning.specs.Stands.{Says, StandsIn}
use Rattle.ipl_meaning.specs.Rests.{now, EachStandsIn, EachStandsEitherIn, StoryRests}
use Rattle.ipl_meaning.proofs.StoryLemmas.{moments_keep_units, moments_of_one, rests_in_units}
use Rattle.unit_io.specs.Leads.{IsSteady}
use Rattle.unit_io.specs.Steps.{Settled, EndsWith, Steps}
use Rattle.store_laws.specs.Fits.{AreSessionsOf}
use Rattle.store_trait.specs.declared.fault.Fault.{Fault}
use Rattle.store_trait.specs.Keeping.{AllOf, WORK_DRAWS, LOOK_UP_DRAWS, Excuses, WorkLeaves, WorksFor, LooksUpFor}
use Rattle.store_laws.specs.Advances.{memory_of, MemoryFitsStory, ShowsNext, state_then, Advances, KeepsMapOf, TurnsMapOf}
use Rattle.store_laws.specs.Keeps.{View, limits_of, limits_in, ShowsState, FaultTells, KeepsStore, store_keeping, IsExcused, StepsAs, LeadsAreWork, KeepersLookUp}
use Rattle.store_laws.proofs.AdvanceLemmas.{same_held}

-- ---- small facts

-- any events
pub all_done : (story : Story) → AllOf (λ e. Unit {0}) story
all_done [] = tt
all_done (e ∷ story) = (tt, all_done story)

-- a call that was done has settled
pub done_settles : {T E : Type 0} (result : Result T E) (old new : Told) → is_ok result ≡ true
    → Settled result old new
done_settles (Ok v) old new done = tt
done_settles (Err e) old new done = absurd (cc done)

-- pages that showed all of the one map show all of the other
pub says_next : (places : ℕ) (pages : Legibility) (c y : Chart) (it new : Layout) (state next : State)
    → ShowsNext places c it state.map y new next.map → Says places c it (of pages state.map)
    → Says places y new (of pages next.map)
says_next places pages c y it new state next shows says = record {
  pages = λ u page low few reads.
      let was = rw shows.count at low in shows.pages u page was few (says.pages u page was few reads);
  rotten = λ u page base low few is reads.
      let was = rw shows.count at low in
      let before = shows.no_more u page base was few reads in
      says.rotten u page before.0 was few is before.1;
  nowhere_else = λ n high.
      let was : 960 * it.count ≤ n = omega (arith, high, shows.count) in
      shows.nowhere_else n was (says.nowhere_else n was);
}

rests_then : {T E : Type 0} (result : Result T E) (places : ℕ) (pages : Legibility) (next : State → State)
    (state : State) (k : History)
    → EndsWith result (λ v k. StoryRests places (of pages (next state).map) k)
    (λ k. StoryRests places (of pages state.map) k) k
    → StoryRests places (of pages (state_then result next state).map) k
rests_then (Ok v) places pages next state k rests = rests
rests_then (Err e) places pages next state k rests = rests

-- ---- a store that keeps a state

-- what it has, where it isn't down
pub record IsAt (pages : Legibility) (store : View) (old : Told) (state : State) (h : History) : Type 0 where
  pub steady : IsSteady h old
  pub sessions : AreSessionsOf store.memory.slots state
  pub shown : ShowsState old.places pages store state (held h.start h.story)
  pub story : MemoryFitsStory old.places pages h shown.layout store.memory state

pub is_at : (pages : Legibility) (store : View) (old : Told) (h : History) (state : State) → store.down ≡ false
    → KeepsStore old.places pages (limits_in store) store old h state → IsAt pages store old state h
is_at pages store old h state up keeps = let runs = keeps.up up in record {
  steady = keeps.steady;
  sessions = runs.sessions;
  shown = runs.shows;
  story = record { fits = runs.shows.fits; tidy = runs.tidy; rests = keeps.rests };
}

-- ---- a call of it

-- what work leaves on the way
abbrev pub work_leaves : {T E : Type 0} (pages : Legibility) (Each : History → Type 0) (Then : T → History → Type 0)
    (Else : History → Type 0) (before after : View) (h : History) (state : State) (result : Result T E)
    (old new : Told) (P : Contents → Type 0) → IsAt pages before old state h
    → (did : Steps Each before.memory.tables after.memory.tables Then Else h result old new)
    → AtEachMoment (Leaves (says sector_in) P h) did.added
    → WorkLeaves (store_keeping old.places pages) P before h after old new (is_ok result)
work_leaves pages Each Then Else before after h state result old new P at did moments = record {
  added = did.added;
  history = did.history;
  each_moment = moments;
  silent = did.does.silent;
  only = all_done did.added;
  lawful = did.does.lawful;
  clean = λ done. record {
    clean = λ base is clean. did.does.clean (done_settles result old new done) base clean;
  };
  unused = record {
    marks = λ unused later e split. did.marks tt later e split unused.0;
    counts = λ done unused. (
      did.marks tt [] did.added refl unused.0,
      unused_is_carried old.places h at.shown.layout before.memory.tables after.memory.tables did.added
          (record { mirrors = at.shown.fits.mirrors; tidy = at.story.tidy })
          (did.does.clean (done_settles result old new done)) unused.1,
    );
  };
}

module _ {T E : Type 0} (pages : Legibility) (Each : ℕ → Legibility → State → History → Type 0) (next : State → State)
    (before after : View) (result : Result T E) (old new : Told) (state : State) (h : History)
    (at : IsAt pages before old state h) (same : limits_in after ≡ limits_in before)
    (advances : Advances Each next before.memory old result after.memory new) where
  abbrev places : ℕ
  places = old.places

  -- what is left over the story
  did : Steps (Each places pages state) before.memory.tables after.memory.tables
      (λ v k. StoryRests places (of pages (next state).map) k) (λ k. StoryRests places (of pages state.map) k)
      h result old new
  did = advances.steps places pages h at.shown.layout state refl at.steady at.story

  abbrev then : State
  then = state_then result next state

  -- what the store keeps then
  keeps_then : Settled result old new
      → KeepsStore places pages (limits_in before) after new (adds_all did.added h) then
  keeps_then settled =
      let (y, told_then, had) = advances.fits places refl settled (held h.start h.story)
      at.steady.holds in
      let at_end = had at.shown.layout state at.shown.fits in
      let showing : ShowsState places pages after then y = record {
        layout = at_end.layout;
        count = at_end.shows.count ∙ at.shown.count ∙ sym (ap (λ (l : Limits). l.units) same);
        fits = at_end.fits;
        says = says_next places pages (now h) (chart_of y) at.shown.layout at_end.layout state then
            at_end.shows at.shown.says;
      } in
      let k = adds_all did.added h in
      let steady = did.steady settled in record {
        limits_are = sym same;
        steady = steady;
        rests = rests_then result places pages next state k (did.ends settled);
        many = rests_in_units places (of pages then.map) k at_end.layout
            (rests_then result places pages next state k (did.ends settled))
            (subst (λ (x : Contents). Laid places (chart_of x) at_end.layout)
            (same_held y (held k.start k.story) new told_then steady.holds) at_end.fits.mirrors.laid)
            ∙ showing.count;
        up = λ runs. record {
          sessions = at_end.fits.sessions;
          shows = subst (ShowsState places pages after then)
              (same_held y (held k.start k.story) new told_then steady.holds) showing;
          tidy = tidy_is_carried places h at.shown.layout before.memory.tables after.memory.tables did.added
              (record { mirrors = at.shown.fits.mirrors; tidy = at.story.tidy }) (did.does.clean settled);
        };
      }

-- ---- work, and looking up

-- the limits are those of the units
pub at_limits : (places : ℕ) (pages : Legibility) (limits : Limits) (store : View) (t : Told) (h : History) (state : State)
    → KeepsStore places pages limits store t h state
    → KeepsStore places pages (limits_in store) store t h state
at_limits places pages limits store t h state keeps =
    subst (λ (l : Limits). KeepsStore places pages l store t h state) keeps.limits_are keeps

-- the step's map is that of the next state, done or not
step_map : (limits : Limits) (state : State) (c : Command) (next : State) (result : Result Reply Fault)
    → StepsAs limits state c next result → next.map ≡ (step limits state c).0.map
step_map limits state c next (Ok reply) is = sym (ap (λ (x : Stepped). x.0.map) is)
step_map limits state c next (Err fault) is = sym is

pub leads_are_work : LeadsAreWork
leads_are_work pages c next before after result old new same up leads steps drawn excused limits state
    h keeps =
    subst (λ (l : Limits). WorksFor (store_keeping old.places pages) l state c before h result after old new)
    (sym keeps.limits_are) (record {
      leaves = work_leaves pages (TurnsMapOf next old.places pages state)
          (λ v k. StoryRests old.places (of pages (next state).map) k)
          (λ k. StoryRests old.places (of pages state.map) k) before after h state result old new _ here way
          (subst (λ (m : Map). AtEachMoment (Leaves (says sector_in) (λ x.
          StandsIn old.places before.units (chart_of x) (of pages state.map)
          ⊎ StandsIn old.places before.units (chart_of x) (of pages m))
          h) way.added) (step_map (limits_in before) state c (next state) result own_step)
          (subst (λ (units : ℕ). AtEachMoment (λ e. EachStandsEitherIn old.places units (of pages state.map)
          (of pages (next state).map) (adds_all e h)) way.added) here.shown.count
          (moments_keep_units old.places (of pages state.map) (of pages (next state).map) h here.shown.layout way.added
          here.shown.fits.mirrors.laid way.each_moment)));
      ends = by_end result own_step
          (keeps_then pages (TurnsMapOf next) next before after result old new state h here same
          leads);
      drawn = drawn pages h state own;
      excuse = IfErr-weaker result (IsExcused pages WORK_DRAWS before old new)
          (Excuses (store_keeping old.places pages) WORK_DRAWS before old new)
          (λ fault excuse. (excuse h state own).0) excused;
      tells = IfErr-weaker result (IsExcused pages WORK_DRAWS before old new)
          (FaultTells (spares_on old.places before.units)) (λ fault excuse. (excuse h state own).1) excused;
    })
  where
    own : KeepsStore old.places pages (limits_in before) before old h state
    own = at_limits old.places pages limits before old h state keeps

    own_step : StepsAs (limits_in before) state c (next state) result
    own_step = steps h state own

    here : IsAt pages before old state h
    here = is_at pages before old h state up own

    way : Steps (TurnsMapOf next old.places pages state) before.memory.tables after.memory.tables
        (λ v k. StoryRests old.places (of pages (next state).map) k)
        (λ k. StoryRests old.places (of pages state.map) k) h result old new
    way = did pages (TurnsMapOf next) next before after result old new state h here same leads

    then : History
    then = adds_all way.added h

    by_end : (r : Result Reply Fault) → StepsAs (limits_in before) state c (next state) r
        → (Settled r old new → KeepsStore old.places pages (limits_in before) after new then
        (state_then r next state))
        → MatchResult r
        (λ reply. KeepsStore old.places pages (limits_in before) after new then
        (step (limits_in before) state c).0
        × ((step (limits_in before) state c).1 ≡ reply ∷ []))
        (λ fault. Unrisen old new → KeepsStore old.places pages (limits_in before) after new then state × Unit {0})
    by_end (Ok reply) is kept = (
      subst (λ (s : State). KeepsStore old.places pages (limits_in before) after new then s)
          (sym (ap (λ (x : Stepped). x.0) is)) (kept tt),
      ap (λ (x : Stepped). x.1) is,
    )
    by_end (Err fault) is kept = λ unrisen. (kept unrisen, tt)

pub keepers_look_up : KeepersLookUp
keepers_look_up pages n before after result old new units up slots keeper finds drawn excused limits
    state h keeps low =
    subst (λ (l : Limits). LooksUpFor (store_keeping old.places pages) l state n before h result after old new)
    (sym keeps.limits_are) (record {
      leaves = work_leaves pages (KeepsMapOf old.places pages state)
          (λ v k. StoryRests old.places (of pages state.map) k)
          (λ k. StoryRests old.places (of pages state.map) k) before after h state result old new _ here way
          (subst (λ (units : ℕ). AtEachMoment (λ e. EachStandsIn old.places units (of pages state.map)
          (adds_all e h)) way.added) here.shown.count
          (moments_of_one old.places (of pages state.map) h here.shown.layout way.added
          here.shown.fits.mirrors.laid way.each_moment));
      ends = by_end result finds
          (keeps_then pages KeepsMapOf (λ state. state) before after result old new state h here
          same whole);
      drawn = drawn;
      excuse = IfErr-weaker result (IsExcused pages LOOK_UP_DRAWS before old new)
          (Excuses (store_keeping old.places pages) LOOK_UP_DRAWS before old new)
          (λ fault excuse. (excuse h state own).0) excused;
      tells = IfErr-weaker result (IsExcused pages LOOK_UP_DRAWS before old new)
          (FaultTells (spares_on old.places before.units)) (λ fault excuse. (excuse h state own).1) excused;
    })
  where
    own : KeepsStore old.places pages (limits_in before) before old h state
    own = at_limits old.places pages limits before old h state keeps

    here : IsAt pages before old state h
    here = is_at pages before old h state up own

    same : limits_in after ≡ limits_in before
    same = λ i. limits_of (length (slots i)) (units i)

    whole : Advances KeepsMapOf (λ state. state) before.memory old result after.memory new
    whole = subst (λ (s : SessionSlots). Advances KeepsMapOf (λ state. state) before.memory old result
        (memory_of after.memory.tables after.memory.frames s) new) (sym slots)
        (keeper before.memory.slots)

    way : Steps (KeepsMapOf old.places pages state) before.memory.tables after.memory.tables
        (λ v k. StoryRests old.places (of pages state.map) k)
        (λ k. StoryRests old.places (of pages state.map) k) h result old new
    way = did pages KeepsMapOf (λ state. state) before after result old new state h here same whole

    then : History
    then = adds_all way.added h

    low_here : n < 960 * before.units
    low_here = subst (λ (l : Limits). n < l.names) keeps.limits_are low

    by_end : (r : Result (Option (List ℕ)) Fault)
        → IfOk r (λ found. (h : History) (state : State)
        → KeepsStore old.places pages (limits_in before) before old h state
        → n < 960 * before.units → found ≡ get state.map n)
        → (Settled r old new → KeepsStore old.places pages (limits_in before) after new then
        (state_then r (λ state. state) state))
        → MatchResult r
        (λ found. KeepsStore old.places pages (limits_in before) after new then state × (found ≡ get state.map n))
        (λ fault. Unrisen old new → KeepsStore old.places pages (limits_in before) after new then state × Unit {0})
    by_end (Ok found) found_is kept = (kept tt, found_is h state own low_here)
    by_end (Err fault) found_is kept = λ unrisen. (kept unrisen, tt)
