-- The numbers of sessions, added between two barriers.
use Rattle.std.specs.List.{All, Contains}
use Rattle.std.specs.Option.{option_map}
use Rattle.std.proofs.Common.{◌≡◌, ℕ, ◌<◌, ◌+◌, Bool, true, List, [], ◌∷◌, Result, Ok, Err, OnOk, refl, sym, ◌∙◌, ap, subst}
use Rattle.std.proofs.lemmas.Bool.{both_ways, not-true}
use Rattle.std.proofs.lemmas.List.Elements.{All-contains, All-filter, All-contains_itself, All-weaker, filter_passes}
use Rattle.std.proofs.lemmas.List.Kept.{AllPairs-filter}
use Rattle.chip_trait.specs.declared.event.Event.TheVariants.{Barrier}
use Rattle.chip_trait.specs.Story.{Story, after}
use Rattle.chip_trait.specs.Told.{History, Told, Counts, Appends, adds, adds_all}
use Rattle.ipl_base.specs.declared.fault.ChipFault.{ChipFault}
use Rattle.ipl_meaning.specs.Legible.{Legible}
use Rattle.ipl_meaning.specs.Chart.{Chart}
use Rattle.ipl_meaning.specs.Layout.{Layout}
use Rattle.ipl_meaning.specs.Rests.{EachStandsEither, StoryRests}
use Rattle.ipl_meaning.specs.Tables.{Tables, StatusTable, IsCountedClean}
use Rattle.ipl_meaning.specs.Mirrors.{AreApart, Mirrors}
use Rattle.ipl_meaning.proofs.AgreeLemmas.{barriers_agree}
use Rattle.ipl_meaning.proofs.StoryLemmas.{held_stands, barriers_rest, barriers_keep_either, one_is_either}
use Rattle.unit_io.specs.Charts.{Charts}
use Rattle.unit_io.specs.Leads.{IsSteady, Leads, Waited, IsStopped}
use Rattle.unit_io.proofs.LeadsLemmas.{leads_waited}
use Rattle.unit_io.specs.Steps.{NoOtherEnd, TidyWork, RestsAgreeing, Steps}
use Rattle.unit_io.proofs.StepLemmas.{writes_are_steps, failed_writes_are_steps}
use Rattle.unit_io.proofs.StepTidyLemmas.{tidy_none}
use Rattle.txn_status.specs.Adding.{MayAdd, Adds, AddsInSteps, IsReadyToAdd, with_added, layout_added, KeepsFirstAt}
use Rattle.record_locks.specs.Held.{is_among}
use Rattle.store_laws.specs.Fits.{is_none_of}
use Rattle.store_laws.proofs.ActiveLemmas.{among_listed}
use Rattle.store_laws.specs.Numbers.{others_of, AddsNumbers, AddsNumbersInSteps}
use Rattle.store_laws.proofs.StepLemmas.{steps_then, steps_weaker}

-- ---- the numbers of open sessions may be committed

pub may_add : (places : ℕ) (c : Chart) (it : Layout) (t : Tables) (tids : List ℕ)
    → Mirrors places c it t → All (Contains t.active) tids → MayAdd t tids (others_of t tids)
may_add places c it t tids mirrors mine = record {
  below = All-weaker (Contains t.active) (λ n. n < t.next)
      (λ n there. All-contains (λ n. n < t.next) t.active n mirrors.numbers.below there) tids mine;
  open_still = All-filter (is_none_of tids) (Contains t.active) t.active
      (All-contains_itself t.active);
  once = AllPairs-filter AreApart (is_none_of tids) t.active mirrors.numbers.once;
  waits = All-weaker (λ n. is_none_of tids n ≡ true) (λ n. ¬ Contains tids n) none_of
      (others_of t tids) (filter_passes (is_none_of tids) t.active);
}
  where
    none_of : (n : ℕ) → is_none_of tids n ≡ true → ¬ Contains tids n
    none_of n passes there =
        both_ways (is_among n tids) (not-true (is_among n tids) passes) (among_listed tids n there)

-- ---- what the chip holds

pub numbers_add : (places next_places : ℕ) (status : StatusTable) (next : ℕ) (tids : List ℕ)
    (result : Result (Unit {0}) ChipFault) (old mid new : Told) → next_places ≡ places
    → Appends Barrier old mid
    → OnOk result (Charts (Adds next_places status next tids) mid new)
    → OnOk result (Charts (AddsNumbers places status next tids) old new)
numbers_add places next_places status next tids (Err e) old mid new same did tells = tt
numbers_add places next_places status next tids (Ok v) old mid new same did tells = λ x told.
    let (y, there, added) = subst (λ (n : ℕ). Charts (Adds n status next tids) mid new) same
    tells x (did.contents ∙ ap (option_map (after Barrier)) told) in (
      y,
      there,
      λ it t mirrors has mine. added it t (others_of t tids) mirrors has
          (may_add places _ it t tids mirrors mine),
    )

-- and the header of the status place is as it was
pub header_stays : (p : ℕ) (result : Result (Unit {0}) ChipFault) (old mid new : Told)
    → Appends Barrier old mid → OnOk result (Charts (KeepsFirstAt p) mid new)
    → OnOk result (Charts (KeepsFirstAt p) old new)
header_stays p (Err e) old mid new did stays = tt
header_stays p (Ok v) old mid new did stays = λ x told.
    stays x (did.contents ∙ ap (option_map (after Barrier)) told)

-- ---- the first barrier

tidy_barrier : (before : ℕ → ℕ → Type 0) → TidyWork before before (Unit {0}) (Barrier ∷ [])
tidy_barrier before = record {
  silent = refl;
  lawful = record { lawful = λ base is clean. is };
  clean = λ _ base clean p s counted. rw (clean p s counted) refl;
}

module _ (places : ℕ) (m n : Legible) (h : History) (it : Layout) (t : Tables) (old mid : Told)
    (steady : IsSteady h old) (agreeing : RestsAgreeing places m it t h) where
  abbrev Each : History → Type 0
  Each = EachStandsEither places m n

  abbrev Tidy : Bool → Story → Type 0
  Tidy done a = TidyWork (IsCountedClean t) (IsCountedClean t) (Unit {0}) a

  abbrev HasWaited : Unit {0} → History → Type 0
  HasWaited done k = k ≡ adds Barrier h

  at_start : Each h
  at_start = one_is_either places m n h agreeing.rests.each

  waited : (result : Result (Unit {0}) ChipFault) → Waited result old mid
      → Leads Each Tidy HasWaited h old result mid
  waited result did = leads_waited Each Tidy h old mid steady HasWaited result did at_start
      (barriers_keep_either places m n h at_start) (tidy_barrier (IsCountedClean t))
      (tidy_none (IsCountedClean t) (Unit {0})) refl

  waited_steps : Waited (Ok tt) old mid
      → Steps {T = Unit {0}} {E = ChipFault} Each t t HasWaited NoOtherEnd h (Ok tt) old mid
  waited_steps did = writes_are_steps (Unit {0}) Each Tidy HasWaited HasWaited t t h old mid (Ok tt)
      (waited (Ok tt) did) tt (λ done a tidy. (tidy.silent, tidy.lawful))
      (λ v a tidy is base clean. tidy.clean tt base clean) (λ v a tidy is. is)

-- ---- what a power cut leaves

pub numbers_in_steps : (places next_places : ℕ) (status : StatusTable) (next : ℕ) (tids : List ℕ)
    (result : Result (Unit {0}) ChipFault) (old mid new : Told) → next_places ≡ places
    → Counts old mid → Waited (Ok tt) old mid
    → AddsInSteps next_places status next tids result mid new
    → AddsNumbersInSteps places status next tids result old new
numbers_in_steps places next_places status next tids result old mid new same counts did steps h it t
    m n steady has mine agreeing says =
    let Each = EachStandsEither places m n in
    let active = others_of t tids in
    let first = waited_steps places m n h it t old mid steady agreeing did in
    let k = adds_all first.added h in
    let ready : IsReadyToAdd places (adds Barrier h) it t m n tids active = record {
      rests = barriers_rest places m h (held_stands places m h agreeing.rests.each)
          agreeing.rests.worn;
      closed = λ p s. refl;
      agrees = barriers_agree places h it t agreeing.agrees;
      may = may_add places _ it t tids agreeing.agrees.mirrors mine;
      then_says = says;
    } in
    let second = subst (λ (p : ℕ). AddsInSteps p status next tids result mid new) same steps k
    it t m n active (first.steady tt) has
    (subst (λ (j : History). IsReadyToAdd places j it t m n tids active) (sym (first.ends tt))
    ready) in
    let after = with_added t tids (1 + next) active in
    steps_then (Unit {0}) (Unit {0}) ChipFault ChipFault Each Each Each t t after
    (λ v j. j ≡ adds Barrier h) NoOtherEnd (λ v j. StoryRests places n j) NoOtherEnd h tt result old
    mid new (λ j is. is) (λ j is. is) counts first
    (steps_weaker Each Each t after
    (λ v j. RestsAgreeing places n (layout_added it tids) after j)
    (λ v j. StoryRests places n j) NoOtherEnd NoOtherEnd k result mid new (λ j is. is)
    (λ v j is. is.rests) (λ j is. is) second)

-- where the barrier failed
pub no_numbers_in_steps : (places : ℕ) (status : StatusTable) (next : ℕ) (tids : List ℕ)
    (e : ChipFault) (old new : Told) → Waited (Err e) old new → IsStopped e old new
    → AddsNumbersInSteps places status next tids (Err e) old new
no_numbers_in_steps places status next tids e old new did stopped h it t m n steady has mine
    agreeing says =
    let active = others_of t tids in
    failed_writes_are_steps (Unit {0}) (Unit {0}) (EachStandsEither places m n)
    (λ done a. TidyWork (IsCountedClean t) (IsCountedClean t) (Unit {0}) a)
    (λ done k. k ≡ adds Barrier h)
    (λ v j. StoryRests places n j) t (with_added t tids (1 + next) active) h old new e e
    (waited places m n h it t old new steady agreeing (Err e) did) stopped
    (λ a tidy. (tidy.silent, tidy.lawful))
