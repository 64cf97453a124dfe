-- What calls of the store leave over a story, of records and of keys.
use Rattle.std.proofs.Common.{◌≡◌, ◌∙◌, ℕ, inl, inr, false, Result, Ok, Err, refl, sym, ap, subst}
use Rattle.chip_trait.specs.Moment.{AtEachMoment}
use Rattle.chip_trait.specs.Story.{Contents, held}
use Rattle.chip_trait.specs.Told.{History, Told, adds_all}
use Rattle.ipl_base.specs.declared.fault.StoreFault.{StoreFault}
use Rattle.ipl_model.specs.State.{Map, State, Limits}
use Rattle.ipl_meaning.specs.Legible.{of}
use Rattle.ipl_meaning.proofs.CarriedLemmas.{tidy_is_carried}
use Rattle.ipl_meaning.specs.Chart.{chart_of}
use Rattle.ipl_meaning.specs.Layout.{Laid}
use Rattle.ipl_meaning.specs.Rests.{now, EachStandsEitherIn, StoryRests}
use Rattle.ipl_meaning.specs.Tables.{Tables, IsCountedClean}
use Rattle.ipl_meaning.proofs.StoryLemmas.{moments_keep_units, rests_in_units}
use Rattle.unit_io.specs.Steps.{Settled, EndsWith, TidyWork, Steps}
use Rattle.unit_io.proofs.StepLemmas.{outcome_none, outcome_weaker}
use Rattle.unit_io.proofs.StepTidyLemmas.{tidy_none, tidy_weaker}
use Rattle.page_frames.specs.Pages.{tables_in}
use Rattle.store_laws.specs.Advances.{state_then, TurnsMapOf, LeadsTo}
use Rattle.store_laws.specs.Keeps.{KnownPages, ShowsState, KeepsStore, keeps_each}
use Rattle.store_laws.proofs.AdvanceLemmas.{same_held}
use Rattle.store_laws.proofs.KeepLemmas.{IsAt, is_at, says_next}
use Rattle.ipl_store.specs.declared.store.Store.{Store}
use Rattle.ipl_store.specs.Calls.{memory_of_store, view_of, limits_of_store}
use Rattle.ipl_keys.specs.declared.fault.KeyFault.{KeyFault}
use Rattle.ipl_keys.specs.KeyState.{KeyMap, KeyState}
use Rattle.ipl_keys.specs.Records.{HasKeys}
use Rattle.ipl_keys.specs.Sessions.{HasKeyState}
use Rattle.ipl_keys.specs.Keeps.{LeavesKeys, KeepsKeys, KeptKeysLast}
use Rattle.ipl_keys.specs.Calls.{IsNoBadBucket, ServesFor}

-- ---- of records

-- what a call leaves of a store that keeps this state
abbrev pub StoreSteps : {T E : Type 0} → KnownPages → (State → State) → Store → Told → Result T E → Store → Told
    → History → State → Type 0
StoreSteps known next a before result b after h state =
    Steps (EachStandsEitherIn before.places a.units (of known.pages state.map) (of known.pages (next state).map))
    (tables_in a.transactions.pages) (tables_in b.transactions.pages)
    (λ v later. KeepsStore before.places known.pages (limits_of_store a) (view_of b) after later (next state))
    (λ later. KeepsStore before.places known.pages (limits_of_store a) (view_of b) after later state) h result
    before after

rests_then : {T E : Type 0} (known : KnownPages) (result : Result T E) (places : ℕ) (next : State → State)
    (state : State) (k : History)
    → EndsWith result (λ v k. StoryRests places (of known.pages (next state).map) k)
    (λ k. StoryRests places (of known.pages state.map) k) k
    → StoryRests places (of known.pages (state_then result next state).map) k
rests_then known (Ok v) places next state k rests = rests
rests_then known (Err e) places next state k rests = rests

-- one that leads to the next state
module _ {T E : Type 0} (known : KnownPages) (next : State → State) (a b : Store) (before after : Told) (result : Result T E)
    (h : History) (state : State) (alike : limits_of_store b ≡ limits_of_store a)
    (at : IsAt known.pages (view_of a) before state h)
    (leads : LeadsTo next (memory_of_store a) before result (memory_of_store b) after) where
  abbrev places : ℕ
  places = before.places

  did : Steps (TurnsMapOf next places known.pages state) (tables_in a.transactions.pages)
      (tables_in b.transactions.pages) (λ v k. StoryRests places (of known.pages (next state).map) k)
      (λ k. StoryRests places (of known.pages state.map) k) h result before after
  did = leads.steps places known.pages h at.shown.layout state refl at.steady at.story

  abbrev then : State
  then = state_then result next state

  keeps_then : Settled result before after
      → KeepsStore places known.pages (limits_of_store a) (view_of b) after (adds_all did.added h) then
  keeps_then settled =
      let (y, told_then, had) = leads.fits places refl settled (held h.start h.story)
      at.steady.holds in
      let at_end = had at.shown.layout state at.shown.fits in
      let showing : ShowsState places known.pages (view_of b) then y = record {
        layout = at_end.layout;
        count = at_end.shows.count ∙ at.shown.count ∙ sym (ap (λ (l : Limits). l.units) alike);
        fits = at_end.fits;
        says = says_next places known.pages (now h) (chart_of y) at.shown.layout at_end.layout state then
            at_end.shows at.shown.says;
      } in
      let k = adds_all did.added h in
      let steady = did.steady settled in record {
        limits_are = sym alike;
        steady = steady;
        rests = rests_then known result places next state k (did.ends settled);
        many = rests_in_units places (of known.pages then.map) k at_end.layout
            (rests_then known result places next state k (did.ends settled))
            (subst (λ (x : Contents). Laid places (chart_of x) at_end.layout)
            (same_held y (held k.start k.story) after told_then steady.holds)
            at_end.fits.mirrors.laid) ∙ showing.count;
        up = λ runs. record {
          sessions = at_end.fits.sessions;
          shows = subst (ShowsState places known.pages (view_of b) then)
              (same_held y (held k.start k.story) after told_then steady.holds) showing;
          tidy = tidy_is_carried places h at.shown.layout (view_of a).memory.tables (view_of b).memory.tables did.added
              (record { mirrors = at.shown.fits.mirrors; tidy = at.story.tidy }) (did.does.clean settled);
        };
      }

  ends_so : {U F : Type 0} (r : Result U F) (k : History)
      → KeepsStore places known.pages (limits_of_store a) (view_of b) after k (state_then r next state)
      → EndsWith r (λ v later. KeepsStore places known.pages (limits_of_store a) (view_of b) after later (next state))
      (λ later. KeepsStore places known.pages (limits_of_store a) (view_of b) after later state) k
  ends_so (Ok v) k keeps = keeps
  ends_so (Err e) k keeps = keeps

  pub leading_steps : StoreSteps known next a before result b after h state
  leading_steps = record {
    added = did.added;
    places = did.places;
    history = did.history;
    each_moment = subst (λ (units : ℕ). AtEachMoment (λ e. EachStandsEitherIn places units (of known.pages state.map)
        (of known.pages (next state).map) (adds_all e h)) did.added) at.shown.count
        (moments_keep_units places (of known.pages state.map) (of known.pages (next state).map) h at.shown.layout did.added
        at.shown.fits.mirrors.laid did.each_moment);
    marks = did.marks;
    does = did.does;
    steady = did.steady;
    ends = λ settled. ends_so result (adds_all did.added h) (keeps_then settled);
  }

pub leads_steps : {T E : Type 0} (known : KnownPages) (next : State → State) (a b : Store) (before after : Told)
    (result : Result T E) (h : History) (state : State) → a.down ≡ false → limits_of_store b ≡ limits_of_store a
    → LeadsTo next (memory_of_store a) before result (memory_of_store b) after
    → KeepsStore before.places known.pages (limits_of_store a) (view_of a) before h state
    → StoreSteps known next a before result b after h state
leads_steps known next a b before after result h state up alike leads keeps =
    leading_steps known next a b before after result h state alike
    (is_at known.pages (view_of a) before h state up keeps) leads

-- ---- of keys

pub keeps_keys : (known : KnownPages) (places : ℕ) (a b : Store) (t : Told) (h : History) (state : State) (k : KeyState)
    → KeepsStore places known.pages (limits_of_store a) (view_of b) t h state → HasKeyState a.units state k
    → KeepsKeys places known b t h k
keeps_keys known places a b t h state k keeps has = record {
  state = state;
  keeps = subst (λ (l : Limits). KeepsStore places known.pages l (view_of b) t h state) keeps.limits_are keeps;
  has = subst (λ (n : ℕ). HasKeyState n state k) (ap (λ (l : Limits). l.units) keeps.limits_are) has;
}

-- the same call, with an answer that says more or less
pub steps_as : {T U E F : Type 0} (Each : History → Type 0) (t then : Tables)
    (A : T → History → Type 0) (B : History → Type 0) (C : U → History → Type 0) (D : History → Type 0)
    (h : History) (r : Result T E) (answer : Result U F) (old new : Told)
    → (Settled answer old new → Settled r old new)
    → ((later : History) → EndsWith r A B later → EndsWith answer C D later)
    → Steps Each t then A B h r old new → Steps Each t then C D h answer old new
steps_as Each t then A B C D h r answer old new less ends did =
    outcome_weaker Each Each
    (TidyWork (IsCountedClean t) (IsCountedClean then) (Settled r old new))
    (TidyWork (IsCountedClean t) (IsCountedClean then) (Settled answer old new))
    (Settled r old new) (Settled answer old new) (EndsWith r A B) (EndsWith answer C D) h old new
    (λ later is. is)
    (λ added is. tidy_weaker (IsCountedClean t) (IsCountedClean then) (Settled r old new)
    (Settled answer old new) added less is)
    less (λ settled later is. ends later is) did

-- what stands for records that have keys stands for the keys
pub leaves_keys : (known : KnownPages) (places count : ℕ) (m n : Map) (keys others : KeyMap) → HasKeys count m keys
    → HasKeys count n others → (h : History) → EachStandsEitherIn places count (of known.pages m) (of known.pages n) h
    → LeavesKeys places known count keys others h
leaves_keys known places count m n keys others one other h each x image = elim (each x image) [
  | inl stands ↦ inl (record { map = m; stands = stands; has = one })
  | inr stands ↦ inr (record { map = n; stands = stands; has = other })
]

-- a call of keys by one of the store
module _ {T U : Type 0} (known : KnownPages) (next : State → State) (turn : KeyState → KeyState)
    (Answers : KeyState → U → Type 0) (a b : Store) (before after : Told) (r : Result T StoreFault)
    (answer : Result U KeyFault) (h : History) (state : State) (k : KeyState)
    (keys : HasKeys a.units state.map k.map)
    (then_keys : HasKeys a.units (next state).map (turn k).map) where
  pub keys_steps : (Settled answer before after → Settled r before after)
      → ((later : History) → EndsWith r
      (λ v l. KeepsStore before.places known.pages (limits_of_store a) (view_of b) after l (next state))
      (λ l. KeepsStore before.places known.pages (limits_of_store a) (view_of b) after l state) later
      → EndsWith answer (λ v l. KeepsKeys before.places known b after l (turn k) × Answers k v)
      (λ l. KeepsKeys before.places known b after l k) later)
      → StoreSteps known next a before r b after h state
      → Steps (LeavesKeys before.places known a.units k.map (turn k).map) (tables_in a.transactions.pages)
      (tables_in b.transactions.pages) (λ v l. KeepsKeys before.places known b after l (turn k) × Answers k v)
      (λ l. KeepsKeys before.places known b after l k) h answer before after
  keys_steps less ends did =
      let counted = IsCountedClean (tables_in a.transactions.pages) in
      let clean = IsCountedClean (tables_in b.transactions.pages) in
      outcome_weaker (EachStandsEitherIn before.places a.units (of known.pages state.map) (of known.pages (next state).map))
      (LeavesKeys before.places known a.units k.map (turn k).map)
      (TidyWork counted clean (Settled r before after)) (TidyWork counted clean (Settled answer before after))
      (Settled r before after) (Settled answer before after)
      (EndsWith r (λ v l. KeepsStore before.places known.pages (limits_of_store a) (view_of b) after l (next state))
      (λ l. KeepsStore before.places known.pages (limits_of_store a) (view_of b) after l state))
      (EndsWith answer (λ v l. KeepsKeys before.places known b after l (turn k) × Answers k v)
      (λ l. KeepsKeys before.places known b after l k))
      h before after
      (leaves_keys known before.places a.units state.map (next state).map k.map (turn k).map keys then_keys)
      (λ added is. tidy_weaker counted clean (Settled r before after) (Settled answer before after) added less is)
      less (λ settled later is. ends later is) did

-- a call that did nothing
pub nothing_serves : {U : Type 0} (known : KnownPages) (turn : KeyState → KeyState) (Answers : KeyState → U → Type 0)
    (a : Store) (told : Told) (fault : KeyFault) (h : History) (k : KeyState) → IsNoBadBucket fault
    → KeepsKeys told.places known a told h k → ServesFor known turn Answers a told (Err fault) a told h k
nothing_serves {U} known turn Answers a told fault h k good keeps = record {
  steps = outcome_none (LeavesKeys told.places known a.units k.map (turn k).map)
      (TidyWork counted counted (Settled answer told told)) (Settled answer told told)
      (EndsWith answer (λ v l. KeepsKeys told.places known a told l (turn k) × Answers k v)
      (λ l. KeepsKeys told.places known a told l k))
      h told keeps.keeps.steady
      (λ x image. inl (record {
        map = keeps.state.map;
        stands = keeps_each told.places known.pages (limits_of_store a) (view_of a) told h keeps.state keeps.keeps
            x image;
        has = keeps.has.keys;
      }))
      (tidy_none counted (Settled answer told told)) keeps;
  buckets = good;
}
  where
    answer : Result U KeyFault
    answer = Err fault

    counted : ℕ → ℕ → Type 0
    counted = IsCountedClean (tables_in a.transactions.pages)

pub kept_keys_last : KeptKeysLast
kept_keys_last places known store t h k keeps x image = inl (record {
  map = keeps.state.map;
  stands = keeps_each places known.pages (limits_of_store store) (view_of store) t h keeps.state keeps.keeps x image;
  has = keeps.has.keys;
})
