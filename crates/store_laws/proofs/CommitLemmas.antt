-- The end of a commit: the numbers of sessions are added, and the sessions are closed.
use Rattle.std.specs.List.{All, Contains, list_any}
use Rattle.std.specs.Option.{option_map_or}
use Rattle.std.proofs.Common.{◌≡◌, ℕ, ◌<◌, ◌≤◌, ◌+◌, ◌||◌, Bool, true, false, List, [], eqb, Option, Some, None, Result, Ok, Err, inl, inr, refl, sym, ◌∙◌, ap, ap₂, subst, arith, if◌then◌else◌}
use Rattle.std.proofs.lemmas.Bool.{cases_eq, eq-eqb, ne_eqb}
use Rattle.std.proofs.lemmas.List.Elements.{All-contains}
use Rattle.chip_trait.specs.Told.{History, Told}
use Rattle.ipl_base.specs.Places.{home_of}
use Rattle.ipl_base.specs.declared.fault.ChipFault.{ChipFault}
use Rattle.ipl_model.specs.Operations.{after_batch}
use Rattle.ipl_model.specs.State.{State}
use Rattle.ipl_model.proofs.RuleBatchLemmas.{any_alike, batches_keep, distinct}
use Rattle.record_locks.specs.Held.{SessionSlots, number_of, written_of, written_by, writer_numbers}
use Rattle.record_locks.specs.Held.{after_batch as slots_after}
use Rattle.ipl_meaning.specs.Chart.{Chart, chart_of}
use Rattle.ipl_meaning.specs.Layout.{Layout}
use Rattle.ipl_meaning.specs.Stands.{Says}
use Rattle.ipl_meaning.specs.Rests.{now, EachStandsEither, StoryRests}
use Rattle.ipl_meaning.specs.Mirrors.{Mirrors, NoneIsLost}
use Rattle.ipl_meaning.specs.Steps.{KeepsPages, with_committed}
use Rattle.ipl_meaning.specs.Tables.{Tables, IsCountedClean}
use Rattle.unit_io.specs.Charts.{Charts}
use Rattle.unit_io.specs.Leads.{IsSteady}
use Rattle.unit_io.specs.Steps.{Settled, NoOtherEnd, TidyWork, RestsAgreeing, Steps}
use Rattle.unit_io.proofs.StepLemmas.{outcome_weaker}
use Rattle.number_set.specs.Numbers.{also}
use Rattle.txn_status.specs.Adding.{with_added, layout_added, Added}
use Rattle.store_laws.specs.Pending.{name_at, wrote, IsWrittenOut}
use Rattle.store_laws.specs.PendingLaws.{StateHasOneWriter, NumbersJoin, JoinInTurn}
use Rattle.store_laws.specs.Frames.{PageFrame, Frames, logs_of}
use Rattle.store_laws.specs.Fits.{LocksHold}
use Rattle.store_laws.specs.StepLaws.{AreOpen}
use Rattle.store_laws.proofs.ActiveLemmas.{is_listed}
use Rattle.store_laws.proofs.PendingBatchLemmas.{batch_shows, batches_say_writes}
use Rattle.store_laws.proofs.BatchFitLemmas.{batches_fit, sessions_join, fits_wait, all_left}
use Rattle.store_laws.proofs.FitLemmas.{wrote_listed, sessions_are_sound, resting_pages_say}
use Rattle.store_laws.proofs.FollowLemmas.{changed_pages_suffice}
use Rattle.store_laws.specs.Advances.{Memory, memory_of, MemoryFits, MemoryFitsStory, ShowsNext, FitsOn}
use Rattle.store_laws.specs.NamedFrames.{ApplyInTurn}
use Rattle.store_laws.specs.Numbers.{IsOut, added_to, others_of, AddsNumbers, AddsNumbersInSteps}
use Rattle.store_laws.specs.Refusals.{AreOpenSessions}
use Rattle.store_laws.specs.SessionLaws.{with_numbers_of}
use Rattle.store_laws.specs.Laws.{NamesOutSuffice, NumbersLead, FailedNumbersLead}
use Rattle.store_laws.proofs.BatchLemmas.{all_written, numbers_hold, applied_in_turn}
use Rattle.ipl_meaning.specs.Legible.{Legibility, of}

-- ---- all that a session wrote is on the chip

pub names_out_suffice : NamesOutSuffice
names_out_suffice places c it memory state s tid fits mine out =
    changed_pages_suffice it.count it (logs_of memory.frames) (number_of memory.slots) state s
    tid fits.pending mine changed (λ u page past. outside u page past (memory.frames u page) refl)
  where
    changed : (u page slot : ℕ) → u < it.count → wrote state s (name_at u page slot) ≡ true
        → page < 15 → slot < 64 → logs_of memory.frames u page ≡ []
    changed u page slot low by_s few less =
        let n = name_at u page slot in
        let there = wrote_listed memory.slots state fits.sessions s n by_s in
        let unit : (home_of n).unit ≡ u = omega (arith, few, less) in
        let of_page : (home_of n).page ≡ page = omega (arith, few, less) in
        ap₂ (logs_of memory.frames) (sym unit) (sym of_page)
        ∙ All-contains (IsOut memory.frames) (written_of memory.slots s) n out there

    outside : (u page : ℕ) → it.count ≤ u → (o : Option PageFrame) → memory.frames u page ≡ o
        → logs_of memory.frames u page ≡ []
    outside u page past None is = ap (λ o. option_map_or (λ f. f.log) o []) is
    outside u page past (Some f) is =
        absurd (let low = (fits.framed.within u page f is).0 in omega (arith, low, past))

-- ---- the set of numbers

eqb_turned : (a b : ℕ) → eqb a b ≡ eqb b a
eqb_turned a b = elim (cases_eq a b) [
  | inl same ↦ eq-eqb a b same ∙ sym (eq-eqb b a (sym same))
  | inr other ↦ ne_eqb a b other ∙ sym (ne_eqb b a (λ same. other (sym same)))
]

either : (a b : Bool) → (a || b) ≡ (if b then true else a)
either true true = refl
either true false = refl
either false true = refl
either false false = refl

numbers_join : (committed : ℕ → Bool) (tids : List ℕ)
    → NumbersJoin committed tids (also committed tids)
numbers_join committed tids n =
    either (committed n) (list_any (λ tid. eqb tid n) tids)
    ∙ ap (λ (b : Bool). if b then true else committed n)
    (any_alike (λ tid. eqb tid n) (λ tid. eqb n tid) tids (λ tid there. eqb_turned tid n))

-- ---- open sessions, none named twice, that have no record in memory

are_open : (slots : SessionSlots) (ss : List ℕ) → AreOpenSessions slots ss → AreOpen slots ss
are_open slots ss opened = record {
  within = λ s there. (opened.opens s there).low;
  number = λ s there. let o = opened.opens s there in (o.number, o.number_is);
  once = opened.once;
}

module _ (ss : List ℕ) (before : Memory) (opened : AreOpenSessions before.slots ss)
    (out : All (IsOut before.frames) (written_by before.slots ss)) where
  abbrev t : Tables
  t = before.tables

  -- the numbers of those that wrote something
  abbrev tids : List ℕ
  tids = writer_numbers before.slots ss

  -- the tables with these numbers, and the others' numbers as they stood
  abbrev with_them : Tables
  with_them = with_added t tids (1 + t.next) (others_of t tids)

  -- the memory then
  abbrev ended : Frames → Memory
  ended later = memory_of (added_to t tids (slots_after before.slots ss)) later
      (slots_after before.slots ss)

  module _ (places : ℕ) (c : Chart) (it : Layout) (state : State)
      (fits : MemoryFits places c it before state) where
    -- none of their records is in memory
    written_out : (s tid : ℕ) → Contains ss s → number_of before.slots s ≡ Some tid
        → IsWrittenOut (logs_of before.frames) tid
    written_out s tid there mine = names_out_suffice places c it before state s tid fits mine
        (all_written (IsOut before.frames) before.slots ss s out there)

    -- the tables have their numbers
    have_numbers : All (Contains t.active) tids
    have_numbers = numbers_hold (Contains t.active) before.slots ss
        (λ s tid there mine. is_listed (number_of before.slots) t fits.active s tid mine)

    -- the numbers join one after the other
    join_so : (committed : ℕ → Bool) → NumbersJoin it.committed tids committed
        → JoinInTurn (number_of before.slots) (logs_of before.frames) state ss it.committed
        committed
    join_so committed joins = sessions_join places c it t before.frames before.slots state ss
        committed fits (are_open before.slots ss opened) written_out joins

    -- with the frames settled, and tables of the numbers, all fits
    pub batch_fits : (y : Chart) (later : Tables) (frames : Frames) (committed : ℕ → Bool)
        → NumbersJoin it.committed tids committed
        → ApplyInTurn before.slots ss before.frames frames
        → LocksHold (slots_after before.slots ss)
        → Mirrors places y (with_committed it committed) later
        → t.next ≤ later.next → NoneIsLost places later
        → KeepsPages places c (with_committed it committed) y (with_committed it committed)
        → MemoryFits places y (with_committed it committed)
        (memory_of (with_numbers_of later (slots_after before.slots ss)) frames
        (slots_after before.slots ss)) (after_batch state ss)
    batch_fits y later frames committed joins settles locked mirrors more none_lost keeps =
        batches_fit places c y it t later before.frames frames before.slots state ss committed fits
        (are_open before.slots ss opened) written_out joins
        (applied_in_turn places c it before.frames frames before.slots (number_of before.slots)
        state ss committed (fits_wait places c it t before.frames before.slots state fits)
        (distinct ss opened.once) (all_left before.slots state ss fits.sessions)
        (join_so committed joins) settles) locked mirrors more none_lost keeps

    abbrev committed : ℕ → Bool
    committed = also it.committed tids

    one_writer : StateHasOneWriter state
    one_writer = (sessions_are_sound before.slots state fits.sessions).0

    join_all : JoinInTurn (number_of before.slots) (logs_of before.frames) state ss it.committed
        committed
    join_all = join_so committed (numbers_join it.committed tids)

    -- the pages say the map after it
    says_added : (pages : Legibility) → Says places c it (of pages state.map)
        → Says places c (layout_added it tids) (of pages (after_batch state ss).map)
    says_added pages = batches_say_writes places pages c it (logs_of before.frames) (number_of before.slots)
        state ss committed fits.pending fits.filled one_writer join_all

    -- and those that showed the map show it
    shows_added : (y : Chart) → Added places c y it t tids (1 + t.next) (others_of t tids)
        → ShowsNext places c it state.map y (layout_added it tids) (after_batch state ss).map
    shows_added y added = record {
      count = refl;
      pages = λ u page low few shows.
          added.pages.shown u page _ low few
          (batch_shows it.count c it (logs_of before.frames) (number_of before.slots) state ss
          committed fits.pending fits.filled one_writer join_all u page low few shows);
      no_more = added.pages.no_more;
      nowhere_else = λ name high none.
          batches_keep state ss name (λ s there. fits.pending.nowhere_else s name high) ∙ none;
    }

    -- over what the chip holds
    fits_added : (y : Chart) (later : Frames) → ApplyInTurn before.slots ss before.frames later
        → LocksHold (slots_after before.slots ss) → AddsNumbers places t.status t.next tids c y
        → FitsOn places c it state.map y (ended later) (after_batch state ss)
    fits_added y later settles locked adds =
        let added = adds it t fits.mirrors (record { status_is = refl; next_is = refl })
        have_numbers in record {
          layout = layout_added it tids;
          fits = batch_fits y with_them later committed (numbers_join it.committed tids) settles
              locked added.mirrors (omega arith) fits.none_lost added.pages;
          shows = shows_added y added;
        }

  -- over a story
  adds_in_steps : (result : Result (Unit {0}) ChipFault) (old new : Told)
      → AddsNumbersInSteps old.places t.status t.next tids result old new
      → (places : ℕ) (pages : Legibility) (h : History) (it : Layout) (state : State) → old.places ≡ places
      → IsSteady h old → MemoryFitsStory places pages h it before state
      → Steps (EachStandsEither places (of pages state.map) (of pages (after_batch state ss).map)) t with_them
      (λ v k. StoryRests places (of pages (after_batch state ss).map) k) NoOtherEnd h result old new
  adds_in_steps result old new adds places pages h it state same steady story =
      let fits = story.fits in
      let agreeing : RestsAgreeing places (of pages state.map) it t h = record {
        rests = story.rests;
        agrees = record { mirrors = fits.mirrors; tidy = story.tidy };
      } in
      subst (λ (n : ℕ). AddsNumbersInSteps n t.status t.next tids result old new) same adds
      h it t (of pages state.map) (of pages (after_batch state ss).map) steady
      (record { status_is = refl; next_is = refl })
      (have_numbers places (now h) it state fits) agreeing
      (says_added places (now h) it state fits pages
      (resting_pages_say places h it (of pages state.map) story.rests fits.mirrors.laid))

-- ---- the numbers are added

pub numbers_lead : NumbersLead
numbers_lead ss before later old new opened out adds steps settles locked = record {
  fits = λ places same settled x told.
      let (y, there, added) = subst (λ (n : ℕ). Charts (AddsNumbers n before.tables.status
      before.tables.next (writer_numbers before.slots ss)) old new) same adds x told in (
        y,
        there,
        λ it state fits. fits_added ss before opened out places (chart_of x) it state fits
            (chart_of y) later settles locked added,
      );
  steps = λ places pages h it state same steady story.
      adds_in_steps ss before opened out (Ok tt) old new steps places pages h it state same steady story;
}

pub failed_numbers_lead : FailedNumbersLead
failed_numbers_lead ss before after e f old new opened out steps stopped = record {
  fits = λ places same unrisen. absurd (omega (arith, stopped.1, unrisen));
  steps = λ places pages h it state same steady story.
      let m = of pages state.map in
      let n = of pages (after_batch state ss).map in
      let t = before.tables in
      let Soft = Settled {T = Unit {0}} {E = ChipFault} (Err f) old new in
      outcome_weaker (EachStandsEither places m n) (EachStandsEither places m n)
      (TidyWork (IsCountedClean t) (IsCountedClean (with_them ss before opened out)) Soft)
      (TidyWork (IsCountedClean t) (IsCountedClean after.tables) Soft) Soft Soft NoOtherEnd
      (StoryRests places m) h old new (λ k is. is)
      (λ a is. record {
        silent = is.silent;
        lawful = is.lawful;
        clean = λ unrisen. absurd (omega (arith, stopped.1, unrisen));
      }) (λ z. z) (λ _ k is. absurd is)
      (adds_in_steps ss before opened out (Err e) old new steps places pages h it state same steady
      story);
}
