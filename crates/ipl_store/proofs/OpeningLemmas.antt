-- What an opening of a chip leaves of a store.
use Rattle.std.proofs.Common.{◌≡◌, inl, inr, ℕ, ◌+◌, ◌<◌, ◌≤◌, ◌^◌, Bool, false, List, Option, Some, None, Ok, get_or, length, slice_index_or, count_by, replicate, refl, sym, ◌∙◌, ap, subst, arith, zero, suc, []}
use Rattle.std.specs.FinMap.{empty}
use Rattle.std.specs.Option.{option_map}
use Rattle.std.proofs.lemmas.Bool.{cases_lt}
use Rattle.std.proofs.lemmas.List.{get_or-replicate, get_or_past, length-replicate}
use Rattle.number_set.specs.Flags.{Flags}
use Rattle.chip_trait.specs.Story.{Contents}
use Rattle.chip_trait.specs.Told.{History, Told}
use Rattle.ipl_base.specs.Places.{KeepsUnits}
use Rattle.ipl_base.specs.declared.fault.ChipFault.{ChipFault}
use Rattle.ipl_model.specs.Operations.{after_restart}
use Rattle.ipl_model.specs.State.{Map, at_rest}
use Rattle.ipl_meaning.specs.Legible.{Legibility, Legible, of}
use Rattle.ipl_meaning.specs.Agrees.{IsTidy}
use Rattle.ipl_meaning.specs.Chart.{Chart, chart_of}
use Rattle.ipl_meaning.specs.Laws.{AreOneLayout}
use Rattle.ipl_meaning.specs.Layout.{Layout, Shape, Laid, ReadsWell}
use Rattle.ipl_meaning.specs.Mirrors.{Mirrors}
use Rattle.ipl_meaning.specs.Rests.{now, StoryRests}
use Rattle.ipl_meaning.specs.Stands.{Shows, Says, Stands}
use Rattle.ipl_meaning.specs.Tables.{Tables}
use Rattle.ipl_meaning.specs.Values.{Values}
use Rattle.ipl_meaning.proofs.OnceLemmas.{laid_once}
use Rattle.ipl_meaning.proofs.StandsLemmas.{kept_pages_keep_the_map}
use Rattle.ipl_meaning.specs.Chosen.{units_at}
use Rattle.ipl_meaning.specs.Faults.{greatest_found}
use Rattle.ipl_meaning.specs.LaidOut.{layout_in}
use Rattle.record_locks.specs.Held.{Held, number_of, numbers_in, SessionSlots}
use Rattle.slab.specs.Slab.{get}
use Rattle.buffer_pool.specs.declared.pool.Buffer.{Buffer}
use Rattle.buffer_pool.specs.Holding.{is_pinned, pinned_count}
use Rattle.buffer_pool.specs.Laws.{buffer_in}
use Rattle.selective_merge.specs.declared.parts.Parts.{Parts}
use Rattle.unit_io.specs.StepLaws.{Preserves}
use Rattle.unit_io.specs.Charts.{Charts}
use Rattle.unit_io.specs.Leads.{IsSteady}
use Rattle.unit_io.specs.Reads.{OfContents}
use Rattle.restart.specs.Recovers.{IsDrawnBehind, RecoversTold, RecoversInSteps, HoldsOpened}
use Rattle.restart.proofs.ReadyLemmas.{layouts_say}
use Rattle.store_laws.proofs.FirstLemmas.{empty_slots_are_at_rest}
use Rattle.store_laws.proofs.MemoryFitLemmas.{openings_fit}
use Rattle.store_laws.specs.Advances.{Memory, memory_of, MemoryFits, LeadsTo}
use Rattle.store_laws.specs.Laws.{IsReopened}
use Rattle.store_laws.specs.Keeps.{View, limits_in, ShowsState, KeepsStore, opened_with}
use Rattle.store_laws.proofs.AdvanceLemmas.{same_held}
use Rattle.store_laws.proofs.FaultLemmas.{opened_stores_keep}
use Rattle.store_laws.proofs.LeadLemmas.{restarts_lead}
use Rattle.page_frames.specs.Views.{frame_in}
use Rattle.page_frames.specs.Pages.{tables_in, frames_in}
use Rattle.ipl_store.specs.declared.store.Store.{Store}
use Rattle.ipl_store.specs.Calls.{memory_of_store, view_of, counter_of, IsMade, IsSound}
use Rattle.ipl_base.specs.declared.limits.TheConstants.{SESSIONS}
use Rattle.ipl_store.specs.Openings.{IsJustOpened, OpensStore, Restarts}

-- ---- pages

-- two layouts of a chart show the same
shows_as : (c : Chart) (it other : Layout) (u page : ℕ) (values : Values)
    → AreOneLayout it other → u < it.count
    → Shows c it.committed u (it.units u) page values
    → Shows c other.committed u (other.units u) page values
shows_as c it other u page values same low shows =
    subst (λ (shape : Shape). Shows c other.committed u shape page values) (same.units u low)
    (subst (λ (f : ℕ → Bool). Shows c f u (it.units u) page values)
    (λ i tid. same.committed tid i) shows)

-- ---- no session

abbrev no_one : Option Held
no_one = None

none_at : (n s : ℕ) → get_or (replicate n no_one) s no_one ≡ no_one
none_at n s = elim (cases_lt s n) [
  | inl low ↦ get_or-replicate n s no_one no_one low
  | inr past ↦ get_or_past (replicate n no_one) s no_one
      (omega (arith, past, length-replicate n no_one))
]

none_open : (n s : ℕ) → number_of (replicate n None) s ≡ None
none_open n s = ap (option_map (λ (h : Held). h.number)) (none_at n s)

no_numbers : (n : ℕ) → numbers_in (replicate n None) ≡ []
no_numbers zero = refl
no_numbers (suc n) = no_numbers n

-- sessions that were all closed are as many as before
pub all_closed : (old new : SessionSlots) → new ≡ replicate (length old) None
    → (length new ≡ length old) × (new ≡ replicate (length new) None)
all_closed old new is =
    let same : length new ≡ length old = ap (λ (v : SessionSlots). length v) is ∙ length-replicate (length old) no_one in
    (same, is ∙ ap (λ (n : ℕ). replicate n no_one) (sym same))

-- ---- a store of which a chip was opened

module _ (marks : Bool) (places : ℕ) (t : Tables) (old new : Told)
    (tells : RecoversTold places old (Ok tt) t new)
    (steps : RecoversInSteps marks places old (Ok tt) t new)
    (holds : HoldsOpened places t) where
  opened_says : (m : Legible) (x y : Contents) → old.contents ≡ Some x
      → Stands places (chart_of x) m → new.contents ≡ Some y
      → (it : Layout) × Mirrors places (chart_of y) it t × Says places (chart_of y) it m
  opened_says m x y told stands then =
      let (z, there, is) = tells x told in
      let said = layouts_say places (chart_of x) (layout_in (chart_of x) places) m is.laid stands in
      subst (λ (v : Contents). (it : Layout) × Mirrors places (chart_of v) it t
      × Says places (chart_of v) it m) (same_held z y new there then) (
        is.now,
        is.mirrors,
        kept_pages_keep_the_map places (chart_of x) (chart_of z)
            (layout_in (chart_of x) places) is.now m is.pages is.count said,
      )

  -- where no mark counts, it leads to the state without sessions
  pub opened_leads : (sessions : ℕ) → sessions ≤ SESSIONS → marks ≡ false → (before : Memory) → old.places ≡ places
      → LeadsTo {T = Unit {0}} {E = ChipFault} (λ state. after_restart state) before old (Ok tt)
      (memory_of t (λ u page. None) (replicate sessions None)) new
  opened_leads sessions few unmarked before suits = restarts_lead before t (replicate sessions None) old new
      holds.active (none_open sessions) (λ m. empty_slots_are_at_rest sessions m few) opens keeps
    where
      reopened : (x : Contents) → old.contents ≡ Some x → (y : Contents)
          × (new.contents ≡ Some y) × ((it : Layout) → Laid places (chart_of x) it
          → IsReopened places (chart_of x) it (chart_of y) t)
      reopened x told =
          let (y, there, is) = tells x told in (
            y,
            there,
            λ it laid.
                let one = laid_once places (chart_of x) it (layout_in (chart_of x) places) laid
                is.laid in record {
                  layout = is.now;
                  count = is.count ∙ sym one.count;
                  mirrors = is.mirrors;
                  none_lost = holds.known.none_lost;
                  pages = record {
                    shown = λ u page values low few shows. is.pages.shown u page values
                        (rw one.count at low) few
                        (shows_as (chart_of x) it (layout_in (chart_of x) places) u page values one
                        low shows);
                    no_more = λ u page base low few reads.
                        let was = is.pages.no_more u page base (rw one.count at low) few reads in (
                          was.0,
                          subst (λ (shape : Shape). ReadsWell (chart_of x) u shape page was.0)
                              (sym (one.units u low)) was.1,
                        );
                  };
                },
          )

      opens : (all : ℕ) → old.places ≡ all → Charts (λ c y. (it : Layout) → Laid all c it
          → IsReopened all c it y t) old new
      opens all same = subst (λ (n : ℕ). Charts (λ c y. (it : Layout) → Laid n c it
          → IsReopened n c it y t) old new) (sym suits ∙ same) reopened

      preserved : (m : Legible) (h : History) → IsSteady h old → StoryRests places m h
          → Preserves {T = Unit {0}} {E = ChipFault} places m before.tables t h (Ok tt) old new
      preserved m h steady rests =
          let (first, takes, did) = steps m h steady rests in record {
            added = did.added;
            places = did.places;
            history = did.history;
            each_moment = did.each_moment;
            marks = did.marks;
            does = record {
              silent = did.does.silent;
              lawful = record {
                lawful = λ base is clean. did.does.lawful.lawful base is
                    (λ p s counts. absurd (takes.none unmarked p s counts));
              };
              clean = λ done base clean. did.does.clean refl base
                  (λ p s counts. absurd (takes.none unmarked p s counts));
            };
            steady = λ done. did.steady tt;
            ends = λ done. (did.ends tt).rests;
          }

      keeps : (all : ℕ) (m : Legible) (it : Layout) (h : History) → old.places ≡ all → IsSteady h old
          → StoryRests all m h → Laid all (now h) it
          → Preserves {T = Unit {0}} {E = ChipFault} all m before.tables t h (Ok tt) old new
      keeps all m it h same steady rests laid =
          subst (λ (n : ℕ). StoryRests n m h → Preserves {T = Unit {0}} {E = ChipFault} n m
          before.tables t h (Ok tt) old new) (sym suits ∙ same) (preserved m h steady) rests

module _ (marks : Bool) (places units sessions : ℕ) (few : sessions ≤ SESSIONS) (t : Tables) (old new : Told)
    (tells : RecoversTold places old (Ok tt) t new)
    (steps : RecoversInSteps marks places old (Ok tt) t new)
    (holds : HoldsOpened places t) (many : length t.places.current ≡ units) where
  -- as many as the status header says
  pub opened_counts : OfContents old (λ x. units ≡ units_at (chart_of x) places)
  opened_counts x told =
      let (y, there, is) = tells x told in
      sym many ∙ is.mirrors.directory.units ∙ is.count

  -- over contents that stood for a map
  pub opened_shows : (pages : Legibility) (m : Map) (x y : Contents) → old.contents ≡ Some x
      → Stands places (chart_of x) (of pages m) → new.contents ≡ Some y
      → ShowsState places pages (opened_with units t (replicate sessions None)) (at_rest m) y
  opened_shows pages m x y told stands then =
      let (it, mirrors, says) = opened_says marks places t old new tells steps holds (of pages m) x y told stands then
      in record {
        layout = it;
        count = sym mirrors.directory.units ∙ many;
        fits = openings_fit places (chart_of y) it t (replicate sessions None) m mirrors
            holds.known.none_lost holds.active (none_open sessions) (empty_slots_are_at_rest sessions m few);
        says = says;
      }

  -- whatever the pages say, the tables fit the chart that they mirror
  pub opened_fits : (c : Chart) (it : Layout) → Mirrors places c it t
      → MemoryFits places c it (opened_with units t (replicate sessions None)).memory (at_rest empty)
  opened_fits c it mirrors =
      openings_fit places c it t (replicate sessions None) empty mirrors holds.known.none_lost holds.active
      (none_open sessions) (empty_slots_are_at_rest sessions empty few)

  -- and over a history then that rests on it
  pub opened_keeps : (pages : Legibility) (m : Map) (k : History) (x : Contents) → old.contents ≡ Some x
      → Stands places (chart_of x) (of pages m) → IsSteady k new → StoryRests places (of pages m) k
      → IsTidy k t
      → KeepsStore places pages (limits_in (opened_with units t (replicate sessions None))) (opened_with units t (replicate sessions None)) new k
      (at_rest m)
  opened_keeps pages m k x told stands =
      opened_stores_keep places units pages t (replicate sessions None) new k m holds.known.none_lost
      holds.active (none_open sessions) (empty_slots_are_at_rest sessions m few)
      (λ y then.
      let (it, mirrors, says) = opened_says marks places t old new tells steps holds (of pages m) x y told stands then
      in (it, sym mirrors.directory.units ∙ many, mirrors, says))

-- ---- as its fields have it

pub fresh_view : (store : Store) → IsJustOpened store
    → opened_with store.units (tables_in store.transactions.pages)
    (replicate (length store.transactions.sessions) None)
    ≡ view_of store
fresh_view store fresh = λ i. record {
  memory = memory_of (tables_in store.transactions.pages)
      (λ u page. option_map frame_in (buffer_in (sym fresh.empty i) u page)) (sym fresh.idle i);
  units = store.units;
  down = sym fresh.up i;
}

-- ---- the store

module _ (places : ℕ) (store : Store) (made : IsMade places store) (fresh : IsJustOpened store)
    (few : length store.transactions.sessions ≤ SESSIONS) (holds : HoldsOpened places (tables_in store.transactions.pages))
    (many : length store.transactions.pages.parts.directory.current ≡ store.units) where
  no_frame : (u page : ℕ) → frames_in store.transactions.pages u page ≡ None
  no_frame u page = ap (λ (slots : List (Option Buffer)). option_map frame_in
      (buffer_in slots u page)) fresh.empty

  no_buffer : (key : ℕ) → get store.transactions.pages.pool.buffers key ≡ None
  no_buffer key = ap (λ (slots : List (Option Buffer)). slice_index_or slots key None) fresh.empty

  none_pinned : pinned_count store.transactions.pages.pool.buffers ≡ 0
  none_pinned = ap (λ (slots : List (Option Buffer)). count_by is_pinned slots) fresh.empty

  -- its memory is in order
  pub fresh_sound : IsSound places store
  fresh_sound = record {
    made = made;
    order = λ up. record {
      ready = record {
        known = holds.known;
        within = λ u page f there.
            let nothing : None ≡ Some f = sym (no_frame u page) ∙ there in absurd (cc nothing);
        rest = record {
          one = λ key b stored.
              let nothing : None ≡ Some b = sym (no_buffer key) ∙ stored in absurd (cc nothing);
          few = omega (arith, none_pinned, made.frames, made.two);
        };
      };
      active = holds.active ∙ sym (no_numbers (length store.transactions.sessions)) ∙ ap numbers_in (sym fresh.idle);
    };
    count = λ up. many;
  }

  -- and it has the records for which the chip stood
  pub fresh_opens : (marks : Bool) (old new : Told)
      → RecoversTold places old (Ok tt) (tables_in store.transactions.pages) new
      → RecoversInSteps marks places old (Ok tt) (tables_in store.transactions.pages) new
      → OfContents old (λ x. IsDrawnBehind (greatest_found (chart_of x) places) (counter_of store))
      → counter_of store ≤ 2 ^ 63 + 2 ^ 14 → OpensStore places old store new
  fresh_opens marks old new tells steps number left = record {
    fresh = fresh;
    units = opened_counts marks places store.units sessions few t old new tells steps holds many;
    anew = λ x told.
        let (y, then, has) = tells x told in (
          y,
          then,
          record {
            layout = has.now;
            fits = subst (λ (v : View). MemoryFits places (chart_of y) has.now v.memory (at_rest empty))
                (fresh_view store fresh)
                (opened_fits marks places store.units sessions few t old new tells steps holds many (chart_of y) has.now
                has.mirrors);
            lists = has.lists;
          },
        );
    shows = λ pages m x told stands y then.
        subst (λ (v : View). ShowsState places pages v (at_rest m) y) (fresh_view store fresh)
        (opened_shows marks places store.units sessions few t old new tells steps holds many pages m x y told stands then);
    keeps = λ pages m k x told stands steady rests tidy.
        subst (λ (v : View). KeepsStore places pages (limits_in v) v new k (at_rest m))
        (fresh_view store fresh)
        (opened_keeps marks places store.units sessions few t old new tells steps holds many pages m k x told stands steady
        rests tidy);
    number = number;
    left = left;
  }
    where
      t : Tables
      t = tables_in store.transactions.pages

      sessions : ℕ
      sessions = length store.transactions.sessions

  -- a store that stood for states stands for them with no session open, where no mark counts
  pub fresh_restarts : (marks : Bool) → marks ≡ false → (before : Memory) (old new : Told) → old.places ≡ places
      → RecoversTold places old (Ok tt) (tables_in store.transactions.pages) new
      → RecoversInSteps marks places old (Ok tt) (tables_in store.transactions.pages) new
      → Restarts before old (memory_of_store store) new
  fresh_restarts marks unmarked before old new suits tells steps =
      subst (λ (v : View). Restarts before old v.memory new) (fresh_view store fresh)
      (opened_leads marks places (tables_in store.transactions.pages) old new tells steps holds
      (length store.transactions.sessions) few unmarked before suits)

-- ---- a store whose tables an opening wrote

abbrev pub recovered : Store → Parts → Flags → ℕ → ℕ → Bool → Store
recovered store parts kept scratch units down = record store {
  transactions = record store.transactions {
    pages = record store.transactions.pages { parts = parts };
  };
  kept = kept;
  scratch = scratch;
  units = units;
  down = down;
}

pub made_recovered : (places : ℕ) (store : Store) (parts : Parts) (kept : Flags)
    (scratch units : ℕ) (down : Bool) → IsMade places store
    → (scratch ≡ store.scratch) × (length parts.directory.in_use ≡ places)
    × (parts.overflow.places ≡ places)
    → (parts.status.most ≡ store.transactions.pages.parts.status.most) × (kept.room ≡ store.kept.room)
    → KeepsUnits places units
    → IsMade places (recovered store parts kept scratch units down)
made_recovered places store parts kept scratch units down made sized roomy suits = record {
  geometry = made.geometry;
  units = suits;
  scratch = sized.0 ∙ made.scratch;
  directory = sized.1;
  overflow = sized.2;
  room = roomy.1 ∙ made.room ∙ sym roomy.0;
  frames = made.frames;
  two = made.two;
}
