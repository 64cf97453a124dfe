-- A store of keys is closed.
use Rattle.std.proofs.Common.{◌≡◌, ℕ, ◌^◌, inl, true, false, Option, Some, None, Result, Ok, Err, MatchResult, refl, sym, ◌∙◌, ap, subst, arith, length}
use Rattle.chip_trait.specs.Chart.{says}
use Rattle.chip_trait.specs.Moment.{AtEachMoment}
use Rattle.chip_trait.specs.Story.{held}
use Rattle.chip_trait.specs.Told.{History, Told, Counts, adds_all}
use Rattle.chip_trait.proofs.ImageLemmas.{held_is_image}
use Rattle.chip_trait.proofs.MomentLemmas.{at_end}
use Rattle.ipl_base.specs.declared.fault.ChipFault.{ChipFault}
use Rattle.ipl_base.specs.declared.fault.Refusal.{Refusal}
use Rattle.ipl_base.specs.declared.fault.StoreFault.{StoreFault}
use Rattle.ipl_format.specs.Sector.{sector_in}
use Rattle.ipl_model.specs.State.{Map, State, Limits}
use Rattle.ipl_meaning.specs.Legible.{of}
use Rattle.ipl_meaning.specs.Rests.{EachStandsIn, StoryRests}
use Rattle.ipl_meaning.specs.Tables.{Tables, IsCountedClean}
use Rattle.ipl_meaning.proofs.CarriedLemmas.{unused_is_carried}
use Rattle.ipl_meaning.proofs.StoryLemmas.{moments_of_one, rests_in_units}
use Rattle.unit_io.specs.Steps.{Settled, NoOtherEnd, EndsWith, OutcomeWhere, TidyWork}
use Rattle.unit_io.proofs.StepLemmas.{outcome_then}
use Rattle.unit_io.proofs.StepTidyLemmas.{tidy_then, tidy_weaker}
use Rattle.restart.specs.Closing.{CountsUnused, RestsMarked, Closes, ClosesInSteps}
use Rattle.page_frames.specs.Pages.{tables_in}
use Rattle.store_laws.specs.Keeps.{KnownPages, limits_of, KeepsStore, IsUp}
use Rattle.ipl_store.specs.declared.store.Store.{Store}
use Rattle.ipl_store.specs.Calls.{view_of, early_fault, entry_fault, Serves, limits_of_store}
use Rattle.ipl_store.specs.Closing.{ClosesStore, EndsMarking, MarksStore, ServesClose}
use Rattle.ipl_store.proofs.CallLemmas.{let_in}
use Rattle.ipl_keys.specs.declared.fault.KeyFault.{KeyFault}
use Rattle.ipl_keys.specs.declared.fault.KeyFault.TheVariants as key
use Rattle.ipl_keys.specs.KeyState.{KeyState}
use Rattle.ipl_keys.specs.Sessions.{HasKeyState}
use Rattle.ipl_keys.specs.Keeps.{LeavesKeys, KeepsKeys}
use Rattle.ipl_keys.specs.Calls.{handed, HandsOn, AnswersNothing, ServesFor}
use Rattle.ipl_keys.specs.Closing.{ClosesFor, ClosesKeys}
use Rattle.ipl_keys.proofs.ServeLemmas.{StoreSteps, leads_steps, keeps_keys, leaves_keys, nothing_serves}
use Rattle.ipl_keys.proofs.SessionLemmas.{served}

-- ---- the mark

-- it was written, and the story rests; it wasn't only where a write failed
rests_marked : (known : KnownPages) (places : ℕ) (m : Map) (t : Tables) (written : Result (Unit {0}) ChipFault) (later : History)
    → EndsWith written (λ v k. RestsMarked places (of known.pages m) t k) NoOtherEnd later → StoryRests places (of known.pages m) later
rests_marked known places m t (Ok v) later marked = marked.rests
rests_marked known places m t (Err e) later none = absurd none

-- no write failed in writing it where none failed in the close
settled_marked : (written : Result (Unit {0}) ChipFault) (r : Result (Unit {0}) StoreFault)
    (before told after : Told) → EndsMarking written r → Counts before told
    → Settled (handed r) before after → Settled written told after
settled_marked (Ok v) r before told after is counts settled = tt
settled_marked (Err e) r before told after is counts settled =
    let unrisen = subst (λ (q : Result (Unit {0}) StoreFault). Settled (handed q) before after) is settled in
    omega (arith, counts.writes, unrisen)

-- ---- a call that ended early

-- it leaves as much as any call
as_closes : (known : KnownPages) (a b : Store) (before after : Told) (fault : KeyFault) (h : History) (k : KeyState)
    → ServesFor known (λ k. k) AnswersNothing a before (Err fault) b after h k
    → ClosesFor known a before (Err fault) b after h k
as_closes known a b before after fault h k did = record {
  added = did.steps.added;
  places = did.steps.places;
  history = did.steps.history;
  each_moment = did.steps.each_moment;
  marks = λ unused. did.steps.marks tt;
  does = did.steps.does;
  steady = did.steps.steady;
  ends = did.steps.ends;
}

-- ---- the status place was made ready, and a mark written

module _ (known : KnownPages) (a between : Store) (before told : Told) (h : History) (state : State) (k : KeyState)
    (up : a.down ≡ false) (alike : limits_of_store between ≡ limits_of_store a)
    (keeps : KeepsStore before.places known.pages (limits_of_store a) (view_of a) before h state)
    (has : HasKeyState a.units state k) where
  abbrev places : ℕ
  places = before.places

  abbrev Readied : Result (Unit {0}) StoreFault → Type 0
  Readied readied = Serves (λ state. state) (2 ^ 14) a before readied between told

  units : between.units ≡ a.units
  units = ap (λ (l : Limits). l.units) alike

  ready_steps : (readied : Result (Unit {0}) StoreFault) → Readied readied
      → StoreSteps known (λ state. state) a before readied between told h state
  ready_steps readied serves =
      leads_steps known (λ state. state) a between before told readied h state up alike serves.leads keeps

  -- it wasn't made ready, and so the store wasn't closed
  pub unready_closes : (fault : StoreFault) → Readied (Err fault)
      → ClosesFor known a before (handed (Err fault)) between told h k
  unready_closes fault serves = as_closes known a between before told (key.Store fault) h k
      (served known (λ state. state) (λ k. k) a between before told h k (Err fault) state has has
      (ready_steps (Err fault) serves))

  module _ (c : Store) (after : Told) (v : Unit {0}) (r : Result (Unit {0}) StoreFault)
      (serves : Readied (Ok v)) (counts : Counts before told)
      (marked : MarksStore between told r c after) where
    abbrev Each : History → Type 0
    Each = LeavesKeys places known a.units k.map k.map

    abbrev Settles : Type 0
    Settles = Settled (handed r) before after

    abbrev counted : ℕ → ℕ → Type 0
    counted = IsCountedClean (tables_in a.transactions.pages)

    abbrev clean : ℕ → ℕ → Type 0
    clean = IsCountedClean (tables_in between.transactions.pages)

    abbrev last : ℕ → ℕ → Type 0
    last = IsCountedClean (tables_in c.transactions.pages)

    abbrev Unused : Type 0
    Unused = CountsUnused (tables_in a.transactions.pages) h

    ready : StoreSteps {T = Unit {0}} {E = StoreFault} known (λ state. state) a before (Ok v) between told h state
    ready = ready_steps (Ok v) serves

    abbrev then : History
    then = adds_all ready.added h

    kept : KeepsStore places known.pages (limits_of_store a) (view_of between) told then state
    kept = ready.ends tt

    runs : IsUp places known.pages (view_of between) then state
    runs = kept.up serves.ends

    way : Closes places (of known.pages state.map) (tables_in between.transactions.pages) (tables_in c.transactions.pages)
        marked.written then told after
    way =
        let steps = subst (λ (n : ℕ). ClosesInSteps n (tables_in between.transactions.pages)
        (tables_in c.transactions.pages) told marked.written after) counts.places marked.steps in
        steps (of known.pages state.map) runs.shows.layout then kept.steady kept.rests
        (record { mirrors = runs.shows.fits.mirrors; tidy = runs.tidy })

    moments : AtEachMoment (λ e. EachStandsIn places a.units (of known.pages state.map) (adds_all e then)) way.added
    moments = subst (λ (n : ℕ). AtEachMoment (λ e. EachStandsIn places n (of known.pages state.map) (adds_all e then)) way.added)
        (runs.shows.count ∙ units)
        (moments_of_one places (of known.pages state.map) then runs.shows.layout way.added runs.shows.fits.mirrors.laid
        way.each_moment)

    unused_then : Unused → CountsUnused (tables_in between.transactions.pages) then
    unused_then =
        let was = keeps.up up in
        unused_is_carried places h was.shows.layout (tables_in a.transactions.pages)
        (tables_in between.transactions.pages) ready.added
        (record { mirrors = was.shows.fits.mirrors; tidy = was.tidy }) (ready.does.clean tt)

    less : Settles → Settled marked.written told after
    less = settled_marked marked.written r before told after marked.ends counts

    many_marked : (rests : StoryRests places (of known.pages state.map) (adds_all way.added then)) → rests.each.0 ≡ c.units
    many_marked rests =
        let later = adds_all way.added then in
        let is = at_end (λ e. EachStandsIn places a.units (of known.pages state.map) (adds_all e then)) way.added moments
        (held later.start later.story) (held_is_image (says sector_in) later.start later.story) in
        rests_in_units places (of known.pages state.map) later is.stands.layout rests is.stands.laid ∙ is.count
        ∙ sym (marked.units ∙ units)

    -- the store is down, and keeps the records
    down_keeps : Settles
        → KeepsStore places known.pages (limits_of_store a) (view_of c) after (adds_all way.added then) state
    down_keeps settled =
        let rests = rests_marked known places state.map (tables_in c.transactions.pages) marked.written
        (adds_all way.added then) (way.ends (less settled)) in record {
          limits_are = sym ((λ i. limits_of (length (marked.sessions i)) (marked.units i)) ∙ alike);
          steady = way.steady (less settled);
          rests = rests;
          many = many_marked rests;
          up = λ runs. absurd (let clash : true ≡ false = sym marked.down ∙ runs in cc clash);
        }

    abbrev first : OutcomeWhere Unused Each (TidyWork counted clean (Unit {0})) (Unit {0})
        (λ later. KeepsStore places known.pages (limits_of_store a) (view_of between) told later state) h before told
    first = record {
      added = ready.added;
      places = ready.places;
      history = ready.history;
      each_moment = λ later e split. leaves_keys known places a.units state.map state.map k.map k.map has.keys has.keys
          (adds_all e h) (ready.each_moment later e split);
      marks = λ unused. ready.marks tt;
      does = ready.does;
      steady = ready.steady;
      ends = ready.ends;
    }

    abbrev second : OutcomeWhere Unused Each (TidyWork clean last Settles) Settles
        (λ later. KeepsKeys places known c after later k) then told after
    second = record {
      added = way.added;
      places = way.places;
      history = way.history;
      each_moment = λ later e split x image. inl (record {
        map = state.map;
        stands = moments later e split x image;
        has = has.keys;
      });
      marks = λ unused. way.marks (unused_then unused);
      does = tidy_weaker clean last (Settled marked.written told after) Settles way.added less way.does;
      steady = λ settled. way.steady (less settled);
      ends = λ settled. keeps_keys known places a c after (adds_all way.added then) state k (down_keeps settled) has;
    }

    pub marked_closes : ClosesFor known a before (handed r) c after h k
    marked_closes = outcome_then Each (TidyWork counted clean (Unit {0})) (TidyWork clean last Settles)
        (TidyWork counted last Settles) (Unit {0}) Settles
        (λ later. KeepsStore places known.pages (limits_of_store a) (view_of between) told later state)
        (λ later. KeepsKeys places known c after later k) h before told after first tt second
        (λ x y one two. tidy_then counted clean last (Unit {0}) Settles x y one tt two)

-- ---- the close

module _ (known : KnownPages) (a c : Store) (before after : Told) (r : Result (Unit {0}) StoreFault) (h : History) (k : KeyState)
    (keeps : KeepsKeys before.places known a before h k) where
  served_closes : a.down ≡ false → ServesClose a before r c after
      → ClosesFor known a before (handed r) c after h k
  served_closes up did = by_ready did.readied did.ready did.then
    where
      by_ready : (readied : Result (Unit {0}) StoreFault)
          → Serves (λ state. state) (2 ^ 14) a before readied did.between did.told
          → MatchResult readied (λ _. MarksStore did.between did.told r c after)
          (λ fault. (r ≡ Err fault) × (c ≡ did.between) × (after ≡ did.told))
          → ClosesFor known a before (handed r) c after h k
      by_ready (Ok v) ready marked =
          marked_closes known a did.between before did.told h keeps.state k up (λ i. limits_of (did.sessions i) (did.units i)) keeps.keeps keeps.has c
          after v r ready did.counts marked
      by_ready (Err fault) ready (is, same, still) =
          subst (λ (t : Told). ClosesFor known a before (handed r) c t h k) (sym still)
          (subst (λ (s : Store). ClosesFor known a before (handed r) s did.told h k) (sym same)
          (subst (λ (q : Result (Unit {0}) StoreFault). ClosesFor known a before (handed q) did.between did.told h k)
          (sym is) (unready_closes known a did.between before did.told h keeps.state k up (λ i. limits_of (did.sessions i) (did.units i)) keeps.keeps
          keeps.has fault ready)))

  store_closes : (refusal : Option Refusal)
      → ClosesStore (early_fault (entry_fault a) refusal) a before r c after
      → ClosesFor known a before (handed r) c after h k
  store_closes refusal did = by_early (early_fault (entry_fault a) refusal) refl
    where
      by_early : (o : Option StoreFault) → early_fault (entry_fault a) refusal ≡ o
          → ClosesFor known a before (handed r) c after h k
      by_early None is = served_closes (let_in a refusal is).0 (did.serves is)
      by_early (Some fault) is =
          let (answer, same, idle) = did.refuses fault is in
          subst (λ (t : Told). ClosesFor known a before (handed r) c t h k) (sym idle)
          (subst (λ (s : Store). ClosesFor known a before (handed r) s before h k) (sym same)
          (subst (λ (q : Result (Unit {0}) StoreFault). ClosesFor known a before (handed q) a before h k)
          (sym answer) (as_closes known a a before before (key.Store fault) h k
          (nothing_serves known (λ k. k) AnswersNothing a before (key.Store fault) h k tt keeps))))

pub hands_on_closes : (a c : Store) (before after : Told) (refusal : Option Refusal)
    (result : Result (Unit {0}) KeyFault)
    → HandsOn (λ answer. ClosesStore (early_fault (entry_fault a) refusal) a before answer c after) result
    → ClosesKeys a before result c after
hands_on_closes a c before after refusal result (r, is, did) known h k keeps =
    subst (λ (q : Result (Unit {0}) KeyFault). ClosesFor known a before q c after h k) (sym is)
    (store_closes known a c before after r h k keeps refusal did)
