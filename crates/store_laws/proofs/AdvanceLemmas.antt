-- What calls of a store leave, joined.
use Rattle.std.proofs.Common.{◌≡◌, ℕ, ◌≤◌, ◌*◌, Result, Ok, Err, Some, is_ok, refl, sym, ◌∙◌, subst, arith}
use Rattle.chip_trait.specs.Story.{Contents, held}
use Rattle.chip_trait.specs.Told.{History, Told, Counts, adds_all}
use Rattle.ipl_model.specs.State.{Map, State}
use Rattle.ipl_meaning.proofs.CarriedLemmas.{tidy_is_carried}
use Rattle.ipl_meaning.specs.Chart.{Chart, chart_of}
use Rattle.ipl_meaning.specs.Legible.{Legibility, of}
use Rattle.ipl_meaning.specs.Layout.{Layout}
use Rattle.ipl_meaning.specs.Rests.{now, EachStands, EachStandsEither, StoryRests}
use Rattle.ipl_meaning.specs.Tables.{IsCountedClean}
use Rattle.unit_io.specs.Leads.{IsSteady}
use Rattle.unit_io.proofs.ReadsAtLemmas.{at_rests}
use Rattle.unit_io.specs.Steps.{Settled, EndsWith, TidyWork, Steps}
use Rattle.unit_io.proofs.StepLemmas.{outcome_reads, outcome_weaker}
use Rattle.unit_io.proofs.StepTidyLemmas.{tidy_reads}
use Rattle.store_laws.specs.Advances.{Memory, MemoryFits, MemoryFitsStory, ShowsNext, FitsOn, state_then, Advances, LeadsTo, ReadsInto}
use Rattle.store_laws.proofs.StepLemmas.{later_settled, steps_then}

-- ---- pages

-- pages show what they showed
pub shows_same : (places : ℕ) (c : Chart) (it : Layout) (m n : Map) → n ≡ m
    → ShowsNext places c it m c it n
shows_same places c it m n same =
    subst (ShowsNext places c it m c it) (sym same)
    (record {
      count = refl;
      pages = λ u page low few shows. shows;
      no_more = λ u page base low few reads. (base, reads);
      nowhere_else = λ name high none. none;
    })

pub shows_then : (places : ℕ) (c y z : Chart) (it new last : Layout) (k m n : Map)
    → ShowsNext places c it k y new m → ShowsNext places y new m z last n
    → ShowsNext places c it k z last n
shows_then places c y z it new last k m n one two = record {
  count = two.count ∙ one.count;
  pages = λ u page low few shows.
      let then = rw (← one.count) at low in
      two.pages u page then few (one.pages u page low few shows);
  no_more = λ u page base low few reads.
      let then = rw (← one.count) at low in
      let was = two.no_more u page base then few reads in
      one.no_more u page was.0 low few was.1;
  nowhere_else = λ name high none.
      let then : 960 * new.count ≤ name = omega (arith, high, one.count) in
      two.nowhere_else name then (one.nowhere_else name high none);
}

-- ---- reads

-- the map is the same at either end
same_end : {T E : Type 0} (result : Result T E) (places : ℕ) (pages : Legibility) (next : State → State)
    (state : State) (k : History) → (next state).map ≡ state.map
    → StoryRests places (of pages state.map) k
    → EndsWith result (λ v k. StoryRests places (of pages (next state).map) k)
    (λ k. StoryRests places (of pages state.map) k) k
same_end (Ok v) places pages next state k map rests =
    subst (λ (m : Map). StoryRests places (of pages m) k) (sym map) rests
same_end (Err e) places pages next state k map rests = rests

same_map : {T E : Type 0} (result : Result T E) (next : State → State) (state : State)
    → (next state).map ≡ state.map → (state_then result next state).map ≡ state.map
same_map (Ok v) next state map = map
same_map (Err e) next state map = refl

pub reads_advance : {T E : Type 0} (Each : ℕ → Legibility → State → History → Type 0) (At : ℕ → ℕ → Type 0)
    (next : State → State) (before : Memory) (old : Told) (result : Result T E) (after : Memory)
    (new : Told) → ((places : ℕ) (pages : Legibility) (state : State) (k : History) → EachStands places (of pages state.map) k
    → Each places pages state k) → ReadsInto At next before old result after new
    → Advances Each next before old result after new
reads_advance Each At next before old result after new each did = record {
  fits = λ places same settled x told. (
    x,
    did.reads.contents ∙ told,
    λ it state fits. record {
      layout = it;
      fits = did.fits places same x told it state fits;
      shows = shows_same places (chart_of x) it state.map (state_then result next state).map
          (same_map result next state (did.map places (chart_of x) it state fits));
    },
  );
  steps = λ places pages h it state same steady story.
      let reads = did.reads in
      let Tidy = TidyWork (IsCountedClean before.tables) (IsCountedClean after.tables)
      (Settled result old new) in
      let end = same_end result places pages next state (adds_all reads.added h)
      (did.map places (now h) it state story.fits)
      (at_rests At places (of pages state.map) h reads.added reads.each story.rests) in
      let tidy = tidy_reads At (IsCountedClean before.tables) (Settled result old new) old new
      reads in
      outcome_weaker (EachStands places (of pages state.map)) (Each places pages state) Tidy Tidy
      (Settled result old new) (Settled result old new)
      (EndsWith result (λ v k. StoryRests places (of pages (next state).map) k)
      (λ k. StoryRests places (of pages state.map) k))
      (EndsWith result (λ v k. StoryRests places (of pages (next state).map) k)
      (λ k. StoryRests places (of pages state.map) k)) h old new (each places pages state) (λ a is. is) (λ z. z)
      (λ _ k is. is)
      (outcome_reads At places (of pages state.map) Tidy (Settled result old new)
      (EndsWith result (λ v k. StoryRests places (of pages (next state).map) k)
      (λ k. StoryRests places (of pages state.map) k)) h old new steady story.rests reads
      (record {
        silent = tidy.silent;
        lawful = tidy.lawful;
        clean = λ done base clean p s counted. tidy.clean done base clean p s
            (did.clean p s counted);
      }) end);
}

-- ---- one call after another

pub same_held : (x y : Contents) (t : Told) → t.contents ≡ Some x → t.contents ≡ Some y → x ≡ y
same_held x y t one two = let both : Some x ≡ Some y = sym one ∙ two in cc both

-- one call that keeps each state and was done, and then another call
pub calls_advance : {T U E F : Type 0} (First Second Each : ℕ → Legibility → State → History → Type 0)
    (next : State → State) (before between after : Memory) (v : T) (result : Result U F)
    (old mid new : Told)
    → ((places : ℕ) (pages : Legibility) (state : State) (k : History) → First places pages state k → Each places pages state k)
    → ((places : ℕ) (pages : Legibility) (state : State) (k : History) → Second places pages state k → Each places pages state k)
    → Counts old mid
    → Advances {T = T} {E = E} First (λ state. state) before old (Ok v) between mid
    → Advances Second next between mid result after new
    → Advances Each next before old result after new
calls_advance {T = T} {U = U} {E = E} {F = F} First Second Each next before between after v result
    old mid new one two counts first second = record {
      fits = λ places same settled x told.
          let (y, there, had) = first.fits places same tt x told in
          let (z, last, has) = second.fits places (counts.places ∙ same)
          (later_settled result old mid new counts settled) y there in (
            z,
            last,
            λ it state fits.
                let at_first = had it state fits in
                let at_last = has at_first.layout state at_first.fits in record {
                  layout = at_last.layout;
                  fits = at_last.fits;
                  shows = shows_then places (chart_of x) (chart_of y) (chart_of z) it at_first.layout
                      at_last.layout state.map state.map (state_then result next state).map
                      at_first.shows at_last.shows;
                },
          );
      steps = λ places pages h it state same steady story.
          let did = first.steps places pages h it state same steady story in
          let k = adds_all did.added h in
          let then_steady : IsSteady k mid = did.steady tt in
          let x = held h.start h.story in
          let (y, there, had) = first.fits places same tt x steady.holds in
          let fitted = had it state story.fits in
          let is : y ≡ held k.start k.story = same_held y (held k.start k.story) mid there
          then_steady.holds in
          let then_story : MemoryFitsStory places pages k fitted.layout between state = record {
            fits = subst (λ (z : Contents). MemoryFits places (chart_of z) fitted.layout between state)
                is fitted.fits;
            tidy = tidy_is_carried places h it before.tables between.tables did.added
                (record { mirrors = story.fits.mirrors; tidy = story.tidy }) (did.does.clean tt);
            rests = did.ends tt;
          } in
          steps_then T U E F (First places pages state) (Second places pages state)
          (Each places pages state) before.tables
          between.tables after.tables (λ v k. StoryRests places (of pages state.map) k)
          (λ k. StoryRests places (of pages state.map) k) (λ v k. StoryRests places (of pages (next state).map) k)
          (λ k. StoryRests places (of pages state.map) k) h v result old mid new (one places pages state)
          (two places pages state) counts did
          (second.steps places pages k fitted.layout state (counts.places ∙ same) then_steady then_story);
    }

-- ---- one call, said otherwise

-- a call that failed, where nothing else is done then: whatever the next state would be
pub failures_advance : {T U E F : Type 0} (First Each : ℕ → Legibility → State → History → Type 0)
    (before after : Memory) (next other : State → State) (e : E) (f : F) (old new : Told)
    → ((places : ℕ) (pages : Legibility) (state : State) (k : History) → First places pages state k → Each places pages state k)
    → Advances {T = T} First next before old (Err e) after new
    → Advances {T = U} Each other before old (Err f) after new
failures_advance {U = U} {F = F} First Each before after next other e f old new each did = record {
  fits = did.fits;
  steps = λ places pages h it state same steady story.
      outcome_weaker (First places pages state) (Each places pages state)
      (TidyWork (IsCountedClean before.tables) (IsCountedClean after.tables)
      (Settled {T = U} {E = F} (Err f) old new))
      (TidyWork (IsCountedClean before.tables) (IsCountedClean after.tables)
      (Settled {T = U} {E = F} (Err f) old new))
      (Settled {T = U} {E = F} (Err f) old new) (Settled {T = U} {E = F} (Err f) old new)
      (StoryRests places (of pages state.map)) (StoryRests places (of pages state.map)) h old new (each places pages state)
      (λ a is. is) (λ z. z) (λ _ k is. is) (did.steps places pages h it state same steady story);
}

-- another answer, where the call was done as well
pub answers_advance : {T U E F : Type 0} (Each : ℕ → Legibility → State → History → Type 0)
    (next : State → State) (before after : Memory) (result : Result T E) (other : Result U F)
    (old new : Told) → is_ok result ≡ is_ok other
    → Advances Each next before old result after new
    → Advances Each next before old other after new
answers_advance Each next before after (Ok v) (Ok w) old new same did =
    record { fits = did.fits; steps = did.steps }
answers_advance Each next before after (Err e) (Err f) old new same did =
    record { fits = did.fits; steps = did.steps }
answers_advance Each next before after (Ok v) (Err f) old new same did = absurd (cc same)
answers_advance Each next before after (Err e) (Ok w) old new same did = absurd (cc same)

-- another next state, which is the same for each state that fits
pub next_states_advance : {T E : Type 0} (next other : State → State) (before after : Memory)
    (result : Result T E) (old new : Told)
    → ((places : ℕ) (c : Chart) (it : Layout) (state : State) → MemoryFits places c it before state
    → next state ≡ other state)
    → LeadsTo next before old result after new → LeadsTo other before old result after new
next_states_advance next other before after result old new alike did = record {
  fits = λ places same settled x told.
      let (y, there, had) = did.fits places same settled x told in (
        y,
        there,
        λ it state fits. subst (FitsOn places (chart_of x) it state.map (chart_of y) after)
            (then_alike result next other state (alike places (chart_of x) it state fits))
            (had it state fits),
      );
  steps = λ places pages h it state same steady story.
      subst (λ (s : State). Steps (EachStandsEither places (of pages state.map) (of pages s.map)) before.tables
      after.tables (λ v k. StoryRests places (of pages s.map) k) (λ k. StoryRests places (of pages state.map) k) h result
      old new) (alike places (now h) it state story.fits)
      (did.steps places pages h it state same steady story);
}
  where
    then_alike : {T E : Type 0} (result : Result T E) (next other : State → State) (state : State)
        → next state ≡ other state
        → state_then result next state ≡ state_then result other state
    then_alike (Ok v) next other state same = same
    then_alike (Err e) next other state same = refl
