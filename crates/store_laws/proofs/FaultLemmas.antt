-- A store whose chip was opened, and faults, as a run over a script asks for them.
use Rattle.std.proofs.Common.{◌≡◌, ℕ, arith, true, false, [], Err, inl, refl, sym, ◌∙◌, ap, subst}
use Rattle.chip_trait.specs.Moment.{AtEachMoment, Leaves}
use Rattle.chip_trait.specs.Chart.{says}
use Rattle.chip_trait.specs.Story.{Contents, held}
use Rattle.chip_trait.specs.Told.{History, Told, adds_all}
use Rattle.chip_trait.proofs.HistoryLemmas.{same_history}
use Rattle.chip_trait.proofs.ImageLemmas.{held_is_image}
use Rattle.chip_trait.proofs.MomentLemmas.{at_start, at_end}
use Rattle.ipl_model.specs.State.{Limits}
use Rattle.ipl_model.specs.declared.reply.Reply.{Reply}
use Rattle.ipl_format.specs.Sector.{sector_in}
use Rattle.ipl_meaning.specs.Chart.{chart_of}
use Rattle.ipl_meaning.specs.Legible.{Legibility, of}
use Rattle.ipl_meaning.specs.Rests.{EachStandsIn, StoryRests}
use Rattle.ipl_meaning.proofs.StoryLemmas.{moments_of_one, rests_in_units}
use Rattle.unit_io.specs.StepLaws.{Preserves}
use Rattle.store_laws.proofs.MemoryFitLemmas.{openings_fit}
use Rattle.store_trait.specs.declared.fault.Fault.{Fault}
use Rattle.store_trait.specs.Keeping.{WorkLeaves, WorksFor}
use Rattle.store_trait.proofs.UnusedLemmas.{unused_none}
use Rattle.store_laws.specs.Advances.{KeepsMapOf}
use Rattle.store_laws.specs.Keeps.{View, limits_in, KeepsStore, store_keeping, keeps_each, OpenedStoresKeep, IdleFaultsAreWork, IdleFaultsLookUp, FaultsThatLeaveDown}
use Rattle.store_laws.proofs.KeepLemmas.{IsAt, is_at, work_leaves, at_limits}

-- ---- a store whose chip was opened

pub opened_stores_keep : OpenedStoresKeep
opened_stores_keep places units pages t slots told h m none_lost none closed sessions shown steady rests tidy =
    let (it, count, mirrors, says) = shown (held h.start h.story) steady.holds in record {
      limits_are = refl;
      steady = steady;
      rests = rests;
      many = rests_in_units places (of pages m) h it rests mirrors.laid ∙ count;
      up = λ runs. record {
        sessions = sessions;
        shows = record {
          layout = it;
          count = count;
          fits = openings_fit places (chart_of (held h.start h.story)) it t slots m mirrors
              none_lost none closed sessions;
          says = says;
        };
        tidy = tidy;
      };
    }

-- ---- faults

-- nothing was left
abbrev nothing_leaves : (pages : Legibility) (P : Contents → Type 0) (store : View) (h : History) (told : Told)
    → Leaves (says sector_in) P h [] → WorkLeaves (store_keeping told.places pages) P store h store told told false
nothing_leaves pages P store h told each = record {
  added = [];
  history = same_history told.history;
  each_moment = at_start (Leaves (says sector_in) P h) each;
  silent = refl;
  only = tt;
  lawful = record { lawful = λ base lawful clean. lawful };
  clean = λ done. absurd (cc done);
  unused = unused_none (store_keeping told.places pages) store h false;
}

pub idle_faults_are_work : IdleFaultsAreWork
idle_faults_are_work pages c store told late limits state h keeps = record {
  leaves = nothing_leaves pages _ store h told
      (λ x image. inl (keeps_each told.places pages limits store told h state keeps x image));
  ends = λ unrisen. (keeps, tt);
  drawn = omega arith;
  excuse = λ few whole. absurd (omega (arith, late, few));
  tells = tt;
}

pub idle_faults_look_up : IdleFaultsLookUp
idle_faults_look_up pages n store told late limits state h keeps low = record {
  leaves = nothing_leaves pages _ store h told (keeps_each told.places pages limits store told h state keeps);
  ends = λ unrisen. (keeps, tt);
  drawn = omega arith;
  excuse = λ few whole. absurd (omega (arith, late, few));
  tells = tt;
}

pub faults_that_leave_down : FaultsThatLeaveDown
faults_that_leave_down pages c before after fault old new same up down preserves drawn excused limits
    state h keeps =
    subst (λ (l : Limits). WorksFor (store_keeping old.places pages) l state c before h (Err fault) after old new)
    (sym keeps.limits_are) (record {
      leaves = work_leaves {T = Reply} {E = Fault} pages (KeepsMapOf old.places pages state)
          (λ v k. StoryRests old.places (of pages state.map) k)
          (λ k. StoryRests old.places (of pages state.map) k) before after h state (Err fault) old new _ here way
          (λ later e split x image. inl (moments later e split x image));
      ends = λ unrisen. (
        record {
          limits_are = sym same;
          steady = way.steady unrisen;
          rests = way.ends unrisen;
          many =
              let k = adds_all way.added h in
              let is = at_end (λ e. EachStandsIn old.places before.units (of pages state.map) (adds_all e h))
              way.added moments (held k.start k.story)
              (held_is_image (says sector_in) k.start k.story) in
              rests_in_units old.places (of pages state.map) k is.stands.layout (way.ends unrisen) is.stands.laid
              ∙ is.count ∙ sym (ap (λ (l : Limits). l.units) same);
          up = λ runs. absurd (let clash : true ≡ false = sym down ∙ runs in cc clash);
        },
        tt,
      );
      drawn = drawn;
      excuse = (excused h state own).0;
      tells = (excused h state own).1;
    })
  where
    own : KeepsStore old.places pages (limits_in before) before old h state
    own = at_limits old.places pages limits before old h state keeps

    here : IsAt pages before old state h
    here = is_at pages before old h state up own

    way : Preserves {T = Reply} old.places (of pages state.map) before.memory.tables
        after.memory.tables h (Err fault) old new
    way = preserves h here.shown.layout state here.steady here.story

    moments : AtEachMoment (λ e. EachStandsIn old.places before.units (of pages state.map) (adds_all e h)) way.added
    moments = subst (λ (units : ℕ). AtEachMoment (λ e. EachStandsIn old.places units (of pages state.map)
        (adds_all e h)) way.added) here.shown.count
        (moments_of_one old.places (of pages state.map) h here.shown.layout way.added
        here.shown.fits.mirrors.laid way.each_moment)
