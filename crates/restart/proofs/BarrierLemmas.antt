-- A barrier before the mark.
use Rattle.std.proofs.Common.{◌≡◌, ◌∷◌, ◌++◌, ℕ, Bool, true, false, [], Result, Ok, Err, OnOk, IfErr, is_ok, refl, sym, ap, subst}
use Rattle.chip_trait.specs.declared.event.Event.TheVariants.{Barrier}
use Rattle.chip_trait.specs.Lawful.{settled}
use Rattle.chip_trait.specs.Story.{Story}
use Rattle.chip_trait.specs.Told.{History, Told, Counts, adds, adds_all}
use Rattle.ipl_base.specs.declared.fault.ChipFault.{ChipFault}
use Rattle.ipl_meaning.specs.Legible.{Legible}
use Rattle.ipl_meaning.specs.Agrees.{Agrees}
use Rattle.ipl_meaning.specs.Layout.{Layout}
use Rattle.ipl_meaning.specs.Rests.{EachStands, StoryRests}
use Rattle.ipl_meaning.specs.Tables.{Tables, IsCountedClean}
use Rattle.ipl_meaning.proofs.AgreeLemmas.{barriers_agree}
use Rattle.ipl_meaning.proofs.CarriedLemmas.{unused_is_carried}
use Rattle.unit_io.specs.Costs.{ProgramsAt, Spends}
use Rattle.unit_io.specs.Leads.{IsSteady, IsStopped, Waited}
use Rattle.unit_io.specs.Spots.{Programs}
use Rattle.unit_io.proofs.CostLemmas.{spends_barred, spends_at_then, spends_then, spends_waited}
use Rattle.unit_io.proofs.LeadsLemmas.{leads_waited}
use Rattle.unit_io.proofs.SealLemmas.{settled_rests}
use Rattle.unit_io.proofs.SpotLemmas.{programs_none, programs_barrier}
use Rattle.unit_io.specs.Steps.{Settled, NoOtherEnd, EndsWith, OutcomeWhere, TidyWork, Tidies}
use Rattle.unit_io.proofs.StepLemmas.{outcome_then, outcome_weaker, outcome_written, failures_settle}
use Rattle.unit_io.proofs.TablesLemmas.{tables_then}
use Rattle.unit_io.proofs.StepTidyLemmas.{tidy_none, tidy_programs, tidy_then, tidy_weaker}
use Rattle.restart.specs.Closing.{CountsUnused, RestsMarked, Closes, ClosesInSteps, ClosesClosed, EndsWithMark}

-- nothing is programmed
abbrev Nowhere : ℕ → Type 0
Nowhere s = ⊥

-- the events are tidy, and the tables are as they were
abbrev Idles : Tables → Type 0 → Story → Type 0
Idles t Settles = TidyWork (IsCountedClean t) (IsCountedClean t) Settles

no_programs : (t : Tables) (Settles : Type 0) (done : Bool) (added : Story) → Programs 0 Nowhere done added
    → Idles t Settles added
no_programs t Settles done added did =
    tidy_programs 0 Nowhere done (IsCountedClean t) (IsCountedClean t) Settles added did (λ s none. absurd none)
    (λ _ q s counted. (counted, λ at none. none))

-- ---- what a power cut leaves

-- it waited, and the history ends in the barrier
abbrev HasWaited : History → Unit {0} → History → Type 0
HasWaited h v k = k ≡ adds Barrier h

-- it waited, or it stopped
waited_outcome : {Sound : Type 0} (places : ℕ) (m : Legible) (t : Tables) (h : History) (old new : Told)
    (result : Result (Unit {0}) ChipFault)
    → IsSteady h old → StoryRests places m h → Waited result old new → IfErr result (λ fault. IsStopped fault old new)
    → OutcomeWhere Sound (EachStands places m) (Idles t (Settled result old new)) (Settled result old new)
    (EndsWith result (HasWaited h) NoOtherEnd) h old new
waited_outcome places m t h old new result steady rests did stopped =
    let Each = EachStands places m in
    let Settles = Settled result old new in
    let Ends = EndsWith result (HasWaited h) NoOtherEnd in
    let leads = leads_waited Each (Programs 0 Nowhere) h old new steady (HasWaited h) result did
    rests.each (settled_rests places m h rests).each (programs_barrier 0 Nowhere true) (programs_none 0 Nowhere false) refl in
    outcome_weaker Each Each (Programs 0 Nowhere (is_ok result)) (Idles t Settles) Settles Settles Ends Ends h old new
    (λ k each. each) (no_programs t Settles (is_ok result)) (λ settled. settled) (λ settled k end. end)
    (outcome_written (Unit {0}) Each (Programs 0 Nowhere) (HasWaited h) NoOtherEnd h old new result leads stopped)

-- the condition on which marks are kept holds where another does
outcome_where : {Sound Other : Type 0} (Each : History → Type 0) (Does : Story → Type 0) (Settles : Type 0)
    (Then : History → Type 0) (h : History) (old new : Told) → (Other → Sound)
    → OutcomeWhere Sound Each Does Settles Then h old new → OutcomeWhere Other Each Does Settles Then h old new
outcome_where Each Does Settles Then h old new holds did = record {
  added = did.added;
  places = did.places;
  history = did.history;
  each_moment = did.each_moment;
  marks = λ other. did.marks (holds other);
  does = did.does;
  steady = did.steady;
  ends = did.ends;
}

-- what is counted as clean is unused behind a barrier too
unused_settled : (places : ℕ) (h : History) (it : Layout) (t : Tables) → Agrees places h it t
    → CountsUnused t h → CountsUnused t (adds Barrier h)
unused_settled places h it t agrees =
    unused_is_carried places h it t t (Barrier ∷ []) agrees (λ base clean p s counted. ap settled (clean p s counted))

-- no write failed in a later part of a call where none failed in all of it
settled_later : (result : Result (Unit {0}) ChipFault) (old mid new : Told) → Counts old mid
    → Settled result old new → Settled result mid new
settled_later (Ok v) old mid new counts settled = tt
settled_later (Err e) old mid new counts settled =
    failures_settle (Unit {0}) (Unit {0}) (Unit {0}) (Unit {0}) tt tt old mid new counts settled

module _ (places : ℕ) (t after : Tables) (result : Result (Unit {0}) ChipFault) (old mid new : Told) (counts : Counts old mid)
    (m : Legible) (h : History) where
  abbrev Settles : Type 0
  Settles = Settled result old new

  abbrev Work : Story → Type 0
  Work = TidyWork (IsCountedClean t) (IsCountedClean after) Settles

  abbrev Ends : History → Type 0
  Ends = EndsWith result (λ v k. RestsMarked places m after k) NoOtherEnd

  -- the later part, said of the whole call
  later_part : (it : Layout) → Agrees places h it t → Closes places m t after result (adds Barrier h) mid new
      → OutcomeWhere (CountsUnused t h) (EachStands places m) Work Settles Ends (adds Barrier h) mid new
  later_part it agrees did =
      let Each = EachStands places m in
      let Now = Settled result mid new in
      let later = settled_later result old mid new counts in
      outcome_where Each Work Settles Ends (adds Barrier h) mid new (unused_settled places h it t agrees)
      (outcome_weaker Each Each (TidyWork (IsCountedClean t) (IsCountedClean after) Now) Work Now Settles Ends Ends
      (adds Barrier h) mid new (λ k each. each)
      (λ a. tidy_weaker (IsCountedClean t) (IsCountedClean after) Now Settles a later) later (λ settled k end. end) did)

  both_parts : (it : Layout) → IsSteady h old → StoryRests places m h → Agrees places h it t → Waited (Ok tt) old mid
      → ClosesClosed places t after mid result new → Closes places m t after result h old new
  both_parts it steady rests agrees did marks =
      let first = waited_outcome {Sound = CountsUnused t h} places m t h old mid (Ok tt) steady rests did tt in
      let there : adds_all first.added h ≡ adds Barrier h = first.ends tt in
      let here = subst (λ (k : History). IsSteady k mid) there (first.steady tt) in
      -- behind the barrier nothing is open
      let mark = marks m it (adds Barrier h) here (settled_rests places m h rests) (λ p s. refl)
      (barriers_agree places h it t agrees) in
      outcome_then (EachStands places m) (Idles t (Unit {0})) Work Work (Unit {0}) Settles (HasWaited h tt) Ends
      h old mid new first tt
      (subst (λ (k : History). OutcomeWhere (CountsUnused t h) (EachStands places m) Work Settles Ends k mid new) (sym there)
      (later_part it agrees mark))
      (λ a b one two. tidy_then (IsCountedClean t) (IsCountedClean t) (IsCountedClean after) (Unit {0}) Settles a b one tt two)

-- a barrier, and then what is done where nothing is open
pub closes_behind : (places : ℕ) (t after : Tables) (result : Result (Unit {0}) ChipFault) (old mid new : Told)
    → Counts old mid → Waited (Ok tt) old mid → ClosesClosed places t after mid result new
    → ClosesInSteps places t after old result new
closes_behind places t after result old mid new counts did marks m it h steady rests agrees =
    both_parts places t after result old mid new counts m h it steady rests agrees did marks

-- it stopped, and no mark was written
pub closes_stopped : (places : ℕ) (t : Tables) (fault : ChipFault) (old new : Told)
    → Waited (Err fault) old new → IsStopped fault old new → ClosesInSteps places t t old (Err fault) new
closes_stopped places t fault old new did stopped m it h steady rests agrees =
    waited_outcome places m t h old new (Err fault) steady rests did stopped

-- ---- what is added, whatever the chip tells

pub waited_tidies : (t : Tables) (result : Result (Unit {0}) ChipFault) (old new : Told) → Waited result old new
    → Tidies t result t old new
waited_tidies t result old new did =
    let Settles = Settled result old new in
    spends_waited (Idles t Settles) old new result
    (no_programs t Settles true (Barrier ∷ []) (programs_barrier 0 Nowhere true)) (tidy_none (IsCountedClean t) Settles) did

pub tidies_behind : (t after : Tables) (result : Result (Unit {0}) ChipFault) (old mid new : Told) → Counts old mid
    → Waited (Ok tt) old mid → Tidies t result after mid new → Tidies t result after old new
tidies_behind t after result old mid new counts did =
    tables_then (Unit {0}) ChipFault t t after tt result old mid new counts (waited_tidies t (Ok tt) old mid did)

-- the last two events are still those
pub ends_behind : {T E : Type 0} (result : Result T E) (old mid new : Told) → Waited (Ok tt) old mid
    → OnOk result (Spends EndsWithMark mid new) → OnOk result (Spends EndsWithMark old new)
ends_behind (Ok v) old mid new did ends =
    spends_then (λ a. Unit {0}) EndsWithMark EndsWithMark old mid new
    (λ later earlier first second. record {
      place = second.place;
      number = second.number;
      bytes = second.bytes;
      mark = second.mark;
      spelled = second.spelled;
      kind = second.kind;
      before = second.before ++ earlier;
      events = ap (λ (a : Story). a ++ earlier) second.events;
    })
    (spends_waited (λ a. Unit {0}) old mid (Ok tt) tt tt did) ends
ends_behind (Err e) old mid new did ends = tt

pub costs_behind : (place : ℕ) (old mid new : Told) → Waited (Ok tt) old mid → Spends (ProgramsAt place 1 1 7) mid new
    → Spends (ProgramsAt place 1 2 7) old new
costs_behind place old mid new did = spends_at_then place 0 1 1 1 7 old mid new (spends_barred place 7 old mid (Ok tt) did)
