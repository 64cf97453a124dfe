-- What a store with frames keeps whose records are written out.
use Rattle.std.proofs.Common.{◌≡◌, ◌≢◌, ℕ, List, false, [], Some, Ok, Err, inl, inr, refl, sym, ◌∙◌, ap, subst, arith}
use Rattle.std.specs.List.{All}
use Rattle.chip_trait.specs.Told.{Told}
use Rattle.log_records.specs.View.{Versioned, Spells}
use Rattle.ipl_base.specs.declared.fault.ChipFault.{ChipFault}
use Rattle.ipl_base.specs.declared.fault.ChipFault.TheVariants.{Stopped}
use Rattle.ipl_format.specs.Record.{Record}
use Rattle.ipl_model.specs.State.{State}
use Rattle.ipl_meaning.specs.Legible.{of}
use Rattle.ipl_meaning.specs.Chart.{Chart, chart_of}
use Rattle.ipl_meaning.specs.Layout.{Layout}
use Rattle.ipl_meaning.specs.Mirrors.{Mirrors, NoneIsLost}
use Rattle.ipl_meaning.specs.Rests.{now}
use Rattle.ipl_meaning.specs.Stands.{page_in}
use Rattle.ipl_meaning.specs.Steps.{KeepsPages, with_log}
use Rattle.ipl_meaning.specs.Tables.{Places, Tables}
use Rattle.record_locks.specs.Held.{SessionSlots, number_of}
use Rattle.unit_io.specs.Charts.{Charts}
use Rattle.unit_io.specs.Steps.{Settled}
use Rattle.selective_merge.specs.Merged.{merged_shape}
use Rattle.store_laws.specs.Pending.{IsPending}
use Rattle.store_laws.specs.Frames.{PageFrame, Frames, with_frame_at, with_frame_log}
use Rattle.store_laws.specs.Fits.{Fits}
use Rattle.store_laws.proofs.ActiveLemmas.{is_listed}
use Rattle.store_laws.proofs.ChipFitLemmas.{log_sectors_fit, merges_fit, other_steps_fit}
use Rattle.store_laws.proofs.SameLemmas.{log_in}
use Rattle.store_laws.specs.Advances.{memory_of, MemoryFits, FitsOn, TurnsTables}
use Rattle.store_laws.proofs.KeeperLemmas.{table_calls_keep_states}
use Rattle.page_frames.specs.Rooms.{IsMergedOrSame}
use Rattle.page_frames.specs.Writing.{IsPayloadOf, AreRecordsWritten, WritesOutInSteps}
use Rattle.page_frames.specs.RecordLaws.{WritingsKeepStates}
use Rattle.page_frames.specs.Causes.{WritingCause}
use Rattle.page_frames.proofs.CauseLemmas.{writing_rose}
use Rattle.page_frames.proofs.RecordRoomLemmas.{merged_records}

-- ---- the log in memory of a page

-- its records are of open sessions
payload_of_frame : (places : ℕ) (c : Chart) (it : Layout) (t : Tables) (frames : Frames)
    (slots : SessionSlots) (state : State) (u page : ℕ) (f : PageFrame) (payload : Versioned)
    → Fits places c it t frames slots state → frames u page ≡ Some f → Spells payload f.log
    → IsPayloadOf t payload f.log
payload_of_frame places c it t frames slots state u page f payload fits there spelled = record {
  spelled = spelled;
  active = λ i d within.
      let pending = subst (λ (l : List Record). All (IsPending (number_of slots) page) l)
      (ap log_in there) (fits.pending.in_memory u page) i d within in
      is_listed (number_of slots) t fits.active pending.session _ pending.open_as;
}

-- ---- done

-- the memory fits, where the unit may have been merged
unit_fits : (places : ℕ) (c y : Chart) (it : Layout) (t : Tables) (u : ℕ) (after : Tables)
    (frames : Frames) (slots : SessionSlots) (state : State) (new : Layout)
    → Fits places c it t frames slots state → IsMergedOrSame places c y it t u after new
    → Mirrors places y new after → NoneIsLost places after → after.active ≡ t.active
    → KeepsPages places c it y new → Fits places y new after frames slots state
unit_fits places c y it t u after frames slots state new fits (inl same) mirrors none active keeps =
    subst (λ (l : Layout). Fits places y l after frames slots state) (sym same)
    (other_steps_fit places c y it it t after frames slots state fits refl (λ v low. refl)
    (λ v low i d within. refl) (subst (λ (l : Layout). Mirrors places y l after) same mirrors) none
    active (subst (λ (l : Layout). KeepsPages places c it y l) same keeps))
unit_fits places c y it t u after frames slots state new fits (inr (is, same)) mirrors none active
    keeps =
    subst (λ (l : Layout). Fits places y l after frames slots state) (sym same)
    (merges_fit places c y it t after frames slots state u
    (merged_shape t (it.units u) u is.place is.head is.pieces is.serial) fits
    (merged_records t (it.units u) u is.place is.head is.pieces is.serial) is.mirrors none active
    is.keeps)

out_fits : (places : ℕ) (c y : Chart) (it : Layout) (t after : Tables) (frames : Frames)
    (slots : SessionSlots) (state : State) (u page : ℕ) (f : PageFrame) (payload : Versioned)
    → Fits places c it t frames slots state → frames u page ≡ Some f
    → AreRecordsWritten places c it t u payload f.log y after
    → FitsOn places c it state.map y
    (memory_of after (with_frame_at frames u page (Some (with_frame_log f []))) slots) state
out_fits places c y it t after frames slots state u page f payload fits there out =
    let turned = out.room.turned in
    let logged = out.log.logged in
    let mid = unit_fits places c out.middle it t u out.between frames slots state turned.layout fits
    out.room.unit turned.mirrors turned.none_lost turned.active turned.pages in record {
      layout = with_log turned.layout u logged.entry;
      fits = log_sectors_fit places out.middle y turned.layout out.between after frames slots state
          u page f logged.entry mid there logged.records_are logged.mirrors logged.none_lost
          logged.active logged.pages;
      shows = record {
        count = turned.count;
        pages = λ v q low few shows.
            logged.pages.shown v q (page_in state.map v q) (rw (← turned.count) at low) few
            (turned.pages.shown v q (page_in state.map v q) low few shows);
        no_more = λ v q base low few reads.
            let was = logged.pages.no_more v q base (rw (← turned.count) at low) few reads in
            turned.pages.no_more v q was.0 low few was.1;
        nowhere_else = λ name high none. none;
      };
    }

-- ---- not done

-- a chip that tells what it holds, and of which a write has failed
abbrev unsettled : Told → Told
unsettled t = record t { settled = false }

unwritten_fits : (t after : Tables) (frames : Frames) (e : ChipFault) (old new : Told)
    (slots : SessionSlots) (places : ℕ) → Settled {T = Unit {0}} (Err e) old new → old.places ≡ places
    → Charts (TurnsTables places t after) old new
    → Charts (λ c y. (it : Layout) (state : State)
    → MemoryFits places c it (memory_of t frames slots) state
    → FitsOn places c it state.map y (memory_of after frames slots) state) old new
unwritten_fits t after frames e old new slots places settled same turns =
    (table_calls_keep_states t after frames (Err e) (unsettled old) (unsettled new)
    (λ other is _. subst (λ (n : ℕ). Charts (TurnsTables n t after) old new) (sym same ∙ is) turns)
    (λ other m it h is steady. absurd (let none = steady.settled in cc none)) slots).fits places same
    settled

-- ---- the law

soft : (after : Places) (t : Tables) (u : ℕ) (e : ChipFault) (old new : Told)
    → WritingCause after t u e old new → Settled {T = Unit {0}} (Err e) old new → e ≢ Stopped
soft after t u e old new cause unrisen is =
    let risen = writing_rose after t u e old new cause is in omega (arith, risen, unrisen)

pub writings_keep_states : WritingsKeepStates
writings_keep_states t after frames u page f payload old new (Ok v) there spelled tells steps cause
    slots = record {
      fits = λ places same settled.
          subst (λ (n : ℕ). Charts (λ c y. (it : Layout) (state : State)
          → MemoryFits n c it (memory_of t frames slots) state
          → FitsOn n c it state.map y (memory_of after
          (with_frame_at frames u page (Some (with_frame_log f []))) slots) state) old new) same
          (λ x told.
          let (y, then_told, writes) = tells x told in (
            y,
            then_told,
            λ it state fits. out_fits old.places (chart_of x) (chart_of y) it t after frames slots
                state u page f payload fits there
                (writes it f.log fits.mirrors
                (payload_of_frame old.places (chart_of x) it t frames slots state u page f payload
                fits there spelled)),
          ));
      steps = λ places pages h it state same steady story.
          (subst (λ (n : ℕ). WritesOutInSteps n payload t after old (Ok v) new) same steps)
          (of pages state.map) it f.log h steady story.rests
          (record { mirrors = story.fits.mirrors; tidy = story.tidy })
          (payload_of_frame places (now h) it t frames slots state u page f payload story.fits there
          spelled);
    }
writings_keep_states t after frames u page f payload old new (Err e) there spelled tells steps cause
    slots = record {
      fits = λ places same settled.
          unwritten_fits t after frames e old new slots places settled same
          (subst (λ (n : ℕ). Charts (TurnsTables n t after) old new) same
          (tells (soft after.places t u e old new cause settled)));
      steps = λ places pages h it state same steady story.
          (subst (λ (n : ℕ). WritesOutInSteps n payload t after old (Err e) new) same steps)
          (of pages state.map) it f.log h steady story.rests
          (record { mirrors = story.fits.mirrors; tidy = story.tidy })
          (payload_of_frame places (now h) it t frames slots state u page f payload story.fits there
          spelled);
    }
