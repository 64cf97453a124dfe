-- Calls that lead to a next state.
use Rattle.std.proofs.Common.{ℕ, Result, Ok, Err}
use Rattle.chip_trait.specs.Told.{History, Told, Counts}
use Rattle.ipl_base.specs.declared.fault.ChipFault.{ChipFault}
use Rattle.ipl_model.specs.State.{State}
use Rattle.ipl_model.specs.Operations.{after_restart}
use Rattle.ipl_meaning.specs.Chart.{chart_of}
use Rattle.ipl_meaning.specs.Tables.{Tables}
use Rattle.ipl_meaning.specs.Legible.{Legibility, of}
use Rattle.ipl_meaning.specs.Rests.{EachStands, StoryRests}
use Rattle.ipl_meaning.proofs.StoryLemmas.{one_is_either}
use Rattle.unit_io.proofs.ReadsAtLemmas.{at_none}
use Rattle.store_laws.specs.Frames.{Frames}
use Rattle.store_laws.proofs.MemoryFitLemmas.{openings_fit}
use Rattle.store_laws.specs.Advances.{Memory, memory_of, KeepsMapOf, TurnsMapOf, KeepsState, LeadsTo}
use Rattle.store_laws.specs.Laws.{KeepersLead, MemoryLeads, KeepersThenLead, FailedKeepersLead, NextStatesAreAlike, AnswersAreAlike, RestartsLead}
use Rattle.store_laws.proofs.AdvanceLemmas.{reads_advance, calls_advance, failures_advance, next_states_advance, answers_advance}
use Rattle.store_laws.proofs.KeeperLemmas.{Nowhere, kept_shows}
use Rattle.store_laws.proofs.StepLemmas.{steps_weaker}

-- what leaves the map leaves one of two
pub either_map : (next : State → State) (places : ℕ) (pages : Legibility) (state : State) (k : History)
    → KeepsMapOf places pages state k → TurnsMapOf next places pages state k
either_map next places pages state k each = one_is_either places (of pages state.map) (of pages (next state).map) k each

pub memory_leads : MemoryLeads
memory_leads next before after old fits map clean =
    reads_advance (TurnsMapOf next) Nowhere next before old (Ok tt) after old (either_map next)
    (record {
      reads = at_none Nowhere old;
      fits = λ places same x told it state fitted.
          fits places (chart_of x) it state same fitted;
      map = map;
      clean = clean;
    })

-- a call that keeps each state, whatever it answers
pub keepers_lead_still : {T E : Type 0} (before : Memory) (after : Tables) (later : Frames)
    (result : Result T E) (old new : Told)
    → KeepsState before.tables before.frames old result after later new
    → LeadsTo (λ state. state) before old result (memory_of after later before.slots) new
keepers_lead_still before after later result old new did = record {
  fits = (did before.slots).fits;
  steps = λ places pages h it state same steady story.
      let Rests = StoryRests places (of pages state.map) in
      steps_weaker (KeepsMapOf places pages state) (TurnsMapOf (λ state. state) places pages state)
      before.tables after (λ v k. Rests k) (λ v k. Rests k) Rests Rests h result old new
      (either_map (λ state. state) places pages state) (λ v k is. is) (λ k is. is)
      ((did before.slots).steps places pages h it state same steady story);
}

pub keepers_lead : KeepersLead
keepers_lead = keepers_lead_still

-- a call that keeps each state and was done, and then one that leads to the next, whatever they
-- answer
pub keepers_lead_on : {T U E F : Type 0} (next : State → State) (before : Memory)
    (between : Tables) (middle : Frames) (after : Memory) (v : T) (result : Result U F)
    (old mid new : Told) → Counts old mid
    → KeepsState {T = T} {E = E} before.tables before.frames old (Ok v) between middle mid
    → LeadsTo next (memory_of between middle before.slots) mid result after new
    → LeadsTo next before old result after new
keepers_lead_on next before between middle after v result old mid new counts first second =
    calls_advance KeepsMapOf (TurnsMapOf next) (TurnsMapOf next) next before
    (memory_of between middle before.slots) after v result old mid new (either_map next)
    (λ places pages state k is. is) counts (first before.slots) second

pub keepers_then_lead : KeepersThenLead
keepers_then_lead next before between middle after = keepers_lead_on next before between middle
    after tt

-- one that failed, where nothing else is done then, whatever is answered
pub keepers_lead_nowhere : {T U E F : Type 0} (next : State → State) (before : Memory)
    (after : Tables) (later : Frames) (e : E) (f : F) (old new : Told)
    → KeepsState {T = T} before.tables before.frames old (Err e) after later new
    → LeadsTo {T = U} next before old (Err f) (memory_of after later before.slots) new
keepers_lead_nowhere next before after later e f old new did =
    failures_advance KeepsMapOf (TurnsMapOf next) before (memory_of after later before.slots)
    (λ state. state) next e f old new (either_map next) (did before.slots)

pub failed_keepers_lead : FailedKeepersLead
failed_keepers_lead = keepers_lead_nowhere

-- ---- said otherwise

pub next_states_are_alike : NextStatesAreAlike
next_states_are_alike = next_states_advance

pub answers_are_alike : AnswersAreAlike
answers_are_alike next before after result answer old new =
    answers_advance (TurnsMapOf next) next before after result answer old new

-- ---- a restart

pub restarts_lead : RestartsLead
restarts_lead before t slots old new none closed sessions opens preserves = record {
  fits = λ places same settled x told.
      let (y, there, opened) = opens places same x told in (
        y,
        there,
        λ it state fits.
            let is = opened it fits.mirrors.laid in record {
              layout = is.layout;
              fits = openings_fit places (chart_of y) is.layout t slots state.map is.mirrors
                  is.none_lost none closed (sessions state.map);
              shows = kept_shows places (chart_of x) (chart_of y) it is.layout state.map is.count
                  is.pages;
            },
      );
  steps = λ places pages h it state same steady story.
      let Rests = StoryRests places (of pages state.map) in
      steps_weaker {T = Unit {0}} {E = ChipFault} (EachStands places (of pages state.map))
      (TurnsMapOf (λ state. after_restart state) places pages state) before.tables t (λ v k. Rests k)
      (λ v k. Rests k) Rests Rests h (Ok tt) old new
      (either_map (λ state. after_restart state) places pages state) (λ v k is. is) (λ k is. is)
      (preserves places (of pages state.map) it h same steady story.rests story.fits.mirrors.laid);
}
