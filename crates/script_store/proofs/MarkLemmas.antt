-- A mark is written behind a store that keeps a state.
use Rattle.std.proofs.Common.{ℕ, ◌≡◌, ◌++◌, true, false, [], Result, Ok, Err, OnOk, is_ok, slice_index, refl, sym, ◌∙◌, ap, subst}
use Rattle.chip_trait.specs.Chart.{says}
use Rattle.chip_trait.specs.Moment.{AtEachMoment}
use Rattle.chip_trait.specs.Story.{Contents, held}
use Rattle.chip_trait.specs.Told.{History, Told, adds_all}
use Rattle.chip_trait.proofs.ImageLemmas.{held_is_image}
use Rattle.chip_trait.proofs.MomentLemmas.{at_end}
use Rattle.ipl_base.specs.declared.fault.ChipFault.{ChipFault}
use Rattle.ipl_model.specs.State.{Map, State, Limits}
use Rattle.ipl_format.specs.Sector.{sector_in}
use Rattle.ipl_meaning.specs.Legible.{Legibility, of}
use Rattle.ipl_meaning.specs.Chart.{chart_of}
use Rattle.ipl_meaning.specs.Rests.{EachStandsIn, StoryRests}
use Rattle.ipl_meaning.specs.Stands.{StandsIn}
use Rattle.ipl_meaning.specs.Marks.{IsMarked, KeepsMarks, MarksAreUnused}
use Rattle.ipl_meaning.specs.Tables.{Tables, IsCountedClean}
use Rattle.ipl_meaning.proofs.CarriedLemmas.{unused_is_carried}
use Rattle.ipl_meaning.proofs.StoryLemmas.{moments_of_one, rests_in_units}
use Rattle.unit_io.specs.Steps.{Settled, NoOtherEnd, EndsWith}
use Rattle.restart.specs.Closing.{Closes, ClosesInSteps, MarksUnits, MarksWhatCounts, RestsMarked}
use Rattle.store_trait.specs.Keeping.{WorkLeaves}
use Rattle.store_laws.specs.Keeps.{View, KeepsStore, IsUp, UsedNothing, store_keeping, limits_in}
use Rattle.store_laws.proofs.KeepLemmas.{all_done, at_limits, done_settles}

-- a mark was written, and the story rests; it is not written only where a write failed
rests_marked : (places : ℕ) (pages : Legibility) (m : Map) (t : Tables) (written : Result (Unit {0}) ChipFault) (k : History)
    → EndsWith written (λ v k. RestsMarked places (of pages m) t k) NoOtherEnd k → StoryRests places (of pages m) k
rests_marked places pages m t (Ok v) k marked = marked.rests
rests_marked places pages m t (Err e) k none = absurd none

-- and then what holds 512 bytes FF is marked of each unit of which something is known
units_marked : (places : ℕ) (pages : Legibility) (m : Map) (t : Tables) (old new : Told) (written : Result (Unit {0}) ChipFault) (k : History)
    → (Settled written old new → EndsWith written (λ v k. RestsMarked places (of pages m) t k) NoOtherEnd k)
    → OnOk written (MarksUnits places t (held k.start k.story))
units_marked places pages m t old new (Ok v) k ends = (ends tt).units
units_marked places pages m t old new (Err e) k ends = tt

-- what is marked is counted as clean, where exactly that is marked at the units' places
counted_where : (places : ℕ) (t : Tables) (x : Contents) → MarksWhatCounts places t x → MarksUnits places t x
    → (p s : ℕ) → IsMarked places x p s → IsCountedClean t p s
counted_where places t x counts units p s is =
    let unit = units is.layout is.laid is.unit is.within in
    let here : slice_index t.places.current is.unit ≡ p = unit.current ∙ sym is.home in
    subst (λ (q : ℕ). IsCountedClean t q s) here
    ((counts is.unit s unit.low).0 (subst (λ (q : ℕ). IsMarked places x q s) (sym here) is))

units_counted : (places : ℕ) (pages : Legibility) (m : Map) (t : Tables) (old new : Told) (written : Result (Unit {0}) ChipFault) (k : History)
    → (Settled written old new → EndsWith written (λ v k. RestsMarked places (of pages m) t k) NoOtherEnd k)
    → OnOk written ((p s : ℕ) → IsMarked places (held k.start k.story) p s → IsCountedClean t p s)
units_counted places pages m t old new (Ok v) k ends =
    counted_where places t (held k.start k.story) (ends tt).marks (ends tt).units
units_counted places pages m t old new (Err e) k ends = tt

module _ (places : ℕ) (pages : Legibility) (before after : View) (old new : Told) (written : Result (Unit {0}) ChipFault)
    (alike : limits_in after ≡ limits_in before) (up : before.down ≡ false) (down : after.down ≡ true)
    (same : old.places ≡ places)
    (steps : ClosesInSteps places before.memory.tables after.memory.tables old written new) where
  -- what is left of a store that is down then
  pub record Marks (limits : Limits) (state : State) (h : History) : Type 0 where
    pub leaves : WorkLeaves (store_keeping places pages) (λ x. StandsIn places limits.units (chart_of x) (of pages state.map))
        before h after old new (is_ok written)
    pub keeps : Settled written old new → KeepsStore places pages limits after new (adds_all leaves.added h) state
    pub marked : OnOk written (MarksUnits places after.memory.tables (held h.start (leaves.added ++ h.story)))
    pub counted : OnOk written ((p s : ℕ) → IsMarked places (held h.start (leaves.added ++ h.story)) p s
        → IsCountedClean after.memory.tables p s)

  module _ (state : State) (h : History) (keeps : KeepsStore places pages (limits_in before) before old h state) where
    runs : IsUp places pages before h state
    runs = keeps.up up

    way : Closes places (of pages state.map) before.memory.tables after.memory.tables written h old new
    way = steps (of pages state.map) runs.shows.layout h keeps.steady keeps.rests
        (record { mirrors = runs.shows.fits.mirrors; tidy = runs.tidy })

    moments : AtEachMoment (λ e. EachStandsIn places before.units (of pages state.map) (adds_all e h)) way.added
    moments = subst (λ (n : ℕ). AtEachMoment (λ e. EachStandsIn places n (of pages state.map) (adds_all e h)) way.added)
        runs.shows.count
        (moments_of_one places (of pages state.map) h runs.shows.layout way.added runs.shows.fits.mirrors.laid way.each_moment)

    many_marked : (rests : StoryRests places (of pages state.map) (adds_all way.added h)) → rests.each.0 ≡ after.units
    many_marked rests =
        let k = adds_all way.added h in
        let is = at_end (λ e. EachStandsIn places before.units (of pages state.map) (adds_all e h)) way.added moments
        (held k.start k.story) (held_is_image (says sector_in) k.start k.story) in
        rests_in_units places (of pages state.map) k is.stands.layout rests is.stands.laid ∙ is.count ∙ sym (ap (λ (l : Limits). l.units) alike)

    -- nothing that is marked was used
    kept_marks : UsedNothing places before h → AtEachMoment (λ e. MarksAreUnused places (adds_all e h)) way.added
    kept_marks unused later e split = subst (λ (n : ℕ). KeepsMarks n h (adds_all e h)) same
        (way.marks unused.1 later e split) unused.0

    marks_here : Marks (limits_in before) state h
    marks_here = record {
      leaves = record {
        added = way.added;
        history = way.history;
        each_moment = λ later e split x image. moments later e split x image;
        silent = way.does.silent;
        only = all_done way.added;
        lawful = way.does.lawful;
        clean = λ done. record {
          clean = λ base is clean. way.does.clean (done_settles written old new done) base clean;
        };
        unused = record {
          marks = λ unused later e split. kept_marks unused later e split;
          counts = λ done unused. (
            kept_marks unused [] way.added refl,
            unused_is_carried places h runs.shows.layout before.memory.tables after.memory.tables way.added
                (record { mirrors = runs.shows.fits.mirrors; tidy = runs.tidy })
                (way.does.clean (done_settles written old new done)) unused.1,
          );
        };
      };
      keeps = λ settled.
          let rests = rests_marked places pages state.map after.memory.tables written (adds_all way.added h)
          (way.ends settled) in record {
            limits_are = sym alike;
            steady = way.steady settled;
            rests = rests;
            many = many_marked rests;
            up = λ runs. absurd (let clash : true ≡ false = sym down ∙ runs in cc clash);
          };
      marked = units_marked places pages state.map after.memory.tables old new written (adds_all way.added h) way.ends;
      counted = units_counted places pages state.map after.memory.tables old new written (adds_all way.added h) way.ends;
    }

  pub marks : (limits : Limits) (state : State) (h : History) → KeepsStore places pages limits before old h state
      → Marks limits state h
  marks limits state h keeps = subst (λ (l : Limits). Marks l state h) (sym keeps.limits_are)
      (marks_here state h (at_limits places pages limits before old h state keeps))
