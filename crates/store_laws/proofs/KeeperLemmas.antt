-- Calls that keep each state.
use Rattle.std.proofs.Common.{◌≡◌, ℕ, ◌<◌, [], length, Result, Ok, Err, is_ok, Some, None, refl, sym, subst, arith}
use Rattle.chip_trait.specs.Told.{Told, Counts}
use Rattle.ipl_base.specs.declared.fault.ChipFault.{ChipFault}
use Rattle.ipl_model.specs.State.{Map, State}
use Rattle.record_locks.specs.Held.{SessionSlots, number_of}
use Rattle.ipl_meaning.specs.Chart.{Chart, chart_of}
use Rattle.ipl_meaning.specs.Legible.{of}
use Rattle.ipl_meaning.specs.Layout.{Layout}
use Rattle.ipl_meaning.specs.Mirrors.{Mirrors}
use Rattle.ipl_meaning.specs.Stands.{page_in}
use Rattle.ipl_meaning.specs.Steps.{KeepsPages, with_log}
use Rattle.ipl_meaning.specs.Tables.{Tables}
use Rattle.unit_io.specs.Reads.{OfContents}
use Rattle.unit_io.specs.ReadsAt.{Anywhere, ReadsAt}
use Rattle.unit_io.proofs.ReadsAtLemmas.{at_none}
use Rattle.store_laws.specs.Pending.{HasPending}
use Rattle.store_laws.specs.Room.{PagesHaveRoom}
use Rattle.store_laws.specs.Frames.{PageFrame, Frames, logs_of, with_frame_at, IsFrameOf, AreFramesOf}
use Rattle.store_laws.specs.Fits.{is_active, Fits}
use Rattle.store_laws.proofs.ActiveLemmas.{still_active, waits_for}
use Rattle.store_laws.proofs.ChipFitLemmas.{log_sectors_fit}
use Rattle.store_laws.proofs.FitLemmas.{sessions_are_sound}
use Rattle.store_laws.proofs.FrameLemmas.{other_steps_keep_frames}
use Rattle.store_laws.proofs.RenewLemmas.{renewals_keep_pending}
use Rattle.store_laws.proofs.RoomLemmas.{room_kept}
use Rattle.store_laws.proofs.SameLemmas.{placed, frames_still}
use Rattle.store_laws.proofs.MemoryFitLemmas.{loads_fit, evictions_fit}
use Rattle.store_laws.specs.Advances.{Memory, memory_of, MemoryFits, ShowsNext, KeepsTablesOn, state_then, KeepsMapOf, KeepsState}
use Rattle.store_laws.specs.Laws.{NothingKeepsStates, KeepersAreJoined, FailedKeepersKeep, LookUpsAreAlike, ReadsKeepStates, LoadsKeepStates, EvictionsKeepStates, LogSectorsKeepStates, TableCallsKeepStates}
use Rattle.store_laws.proofs.AdvanceLemmas.{reads_advance, calls_advance, failures_advance, answers_advance}

-- whatever is answered
still_fits : {T E : Type 0} (result : Result T E) (memory : Memory) (places : ℕ) (c : Chart)
    (it : Layout) (state : State) → MemoryFits places c it memory state
    → MemoryFits places c it memory (state_then result (λ state. state) state)
still_fits (Ok v) memory places c it state fits = fits
still_fits (Err e) memory places c it state fits = fits

-- pages that are kept, of as many units, show the same map
pub kept_shows : (places : ℕ) (c y : Chart) (it new : Layout) (m : Map) → new.count ≡ it.count
    → KeepsPages places c it y new → ShowsNext places c it m y new m
kept_shows places c y it new m count keeps = record {
  count = count;
  pages = λ u page low few shows. keeps.shown u page (page_in m u page) low few shows;
  no_more = keeps.no_more;
  nowhere_else = λ name high none. none;
}

-- no sector
abbrev pub Nowhere : ℕ → ℕ → Type 0
Nowhere p s = ⊥

-- ---- calls that keep each state

pub nothing_keeps_states : NothingKeepsStates
nothing_keeps_states t frames old slots =
    let memory = memory_of t frames slots in
    reads_advance KeepsMapOf Nowhere (λ state. state) memory old (Ok tt) memory old
    (λ places pages state k is. is) (record {
      reads = at_none Nowhere old;
      fits = λ places same x told it state fits. fits;
      map = λ places c it state fits. refl;
      clean = λ p s counted. counted;
    })

-- one call that was done, and then another, whatever they answer
pub keepers_then : {T U E F : Type 0} (t between after : Tables) (frames middle later : Frames)
    (v : T) (result : Result U F) (old mid new : Told)
    → Counts old mid
    → KeepsState {T = T} {E = E} t frames old (Ok v) between middle mid
    → KeepsState between middle mid result after later new
    → KeepsState t frames old result after later new
keepers_then t between after frames middle later v result old mid new counts first second slots =
    calls_advance KeepsMapOf KeepsMapOf KeepsMapOf (λ state. state) (memory_of t frames slots)
    (memory_of between middle slots) (memory_of after later slots) v result old mid new
    (λ places pages state k is. is) (λ places pages state k is. is) counts
    (first slots) (second slots)

pub keepers_are_joined : KeepersAreJoined
keepers_are_joined t between after frames middle later = keepers_then t between after frames middle
    later tt

-- one that failed, where nothing else is done then, whatever is answered
pub keepers_fail : {T U E F : Type 0} (t after : Tables) (frames later : Frames) (e : E) (f : F)
    (old new : Told) → KeepsState {T = T} t frames old (Err e) after later new
    → KeepsState {T = U} t frames old (Err f) after later new
keepers_fail t after frames later e f old new did slots =
    failures_advance KeepsMapOf KeepsMapOf (memory_of t frames slots) (memory_of after later slots)
    (λ state. state) (λ state. state) e f old new (λ places pages state k is. is) (did slots)

pub failed_keepers_keep : FailedKeepersKeep
failed_keepers_keep = keepers_fail

-- another answer, where the call was done as well
pub keepers_answer : {T U E F : Type 0} (t after : Tables) (frames later : Frames)
    (result : Result T E) (answer : Result U F) (old new : Told) → is_ok result ≡ is_ok answer
    → KeepsState t frames old result after later new
    → KeepsState t frames old answer after later new
keepers_answer t after frames later result answer old new same did slots =
    answers_advance KeepsMapOf (λ state. state) (memory_of t frames slots)
    (memory_of after later slots) result answer old new same (did slots)

pub look_ups_are_alike : LookUpsAreAlike
look_ups_are_alike = keepers_answer

pub reads_keep_states : {T E : Type 0} (At : ℕ → ℕ → Type 0) (t : Tables) (frames : Frames)
    (result : Result T E) (old new : Told) → ReadsAt At old new
    → KeepsState t frames old result t frames new
reads_keep_states At t frames result old new did slots =
    let memory = memory_of t frames slots in
    reads_advance KeepsMapOf At (λ state. state) memory old result memory new
    (λ places pages state k is. is) (record {
      reads = did;
      fits = λ places same x told it state fits.
          still_fits result memory places (chart_of x) it state fits;
      map = λ places c it state fits. refl;
      clean = λ p s counted. counted;
    })

pub reads_anywhere_keep_states : ReadsKeepStates
reads_anywhere_keep_states = reads_keep_states Anywhere

pub loads_keep_states : (At : ℕ → ℕ → Type 0) (t : Tables) (frames : Frames) (u page : ℕ)
    (f : PageFrame) (old new : Told) → ReadsAt At old new → u < length t.places.current → page < 15
    → frames u page ≡ None → f.log ≡ []
    → OfContents old (λ x. (it : Layout) → Mirrors old.places (chart_of x) it t
    → IsFrameOf (chart_of x) it (logs_of frames) (is_active t) u page f.values f.pending)
    → KeepsState {T = Unit {0}} {E = ChipFault} t frames old (Ok tt) t
    (with_frame_at frames u page (Some f)) new
loads_keep_states At t frames u page f old new did low few none empty read slots =
    reads_advance KeepsMapOf At (λ state. state) (memory_of t frames slots) old (Ok tt)
    (memory_of t (with_frame_at frames u page (Some f)) slots) new (λ places pages state k is. is)
    (record {
      reads = did;
      fits = λ places same x told it state fits.
          loads_fit places (chart_of x) it t frames slots state u page f fits
          (subst (λ (n : ℕ). u < n) fits.mirrors.directory.units low) few none empty
          (read x told it (subst (λ (n : ℕ). Mirrors n (chart_of x) it t) (sym same)
          fits.mirrors));
      map = λ places c it state fits. refl;
      clean = λ p s counted. counted;
    })

pub loads_anywhere_keep_states : LoadsKeepStates
loads_anywhere_keep_states = loads_keep_states Anywhere

pub evictions_keep_states : EvictionsKeepStates
evictions_keep_states t frames u page f old there empty slots =
    reads_advance KeepsMapOf Nowhere (λ state. state) (memory_of t frames slots) old (Ok tt)
    (memory_of t (with_frame_at frames u page None) slots) old (λ places pages state k is. is) (record {
      reads = at_none Nowhere old;
      fits = λ places same x told it state fits.
          evictions_fit places (chart_of x) it t frames slots state u page f fits there empty;
      map = λ places c it state fits. refl;
      clean = λ p s counted. counted;
    })

-- ---- calls that know the tables alone

-- the memory fits, where the tables turned so
turned_fits : (places : ℕ) (c y : Chart) (it : Layout) (t after : Tables) (frames : Frames)
    (slots : SessionSlots) (state : State) → Fits places c it t frames slots state
    → (on : KeepsTablesOn places c it t y after) → Fits places y on.layout after frames slots state
turned_fits places c y it t after frames slots state fits on =
    let still = still_active (number_of slots) t after on.active fits.active in record {
      mirrors = on.mirrors;
      none_lost = on.none_lost;
      pending = subst (λ (n : ℕ). HasPending n on.layout (logs_of frames) (number_of slots) state)
          (sym on.count)
          (renewals_keep_pending it.count it on.layout (logs_of frames) (number_of slots) state
          (is_active t) fits.pending (sessions_are_sound slots state fits.sessions).0 fits.active
          on.alike on.kept
          (waits_for on.layout (number_of slots) after still on.mirrors.numbers.waits));
      filled = subst (λ (n : ℕ). PagesHaveRoom n y on.layout state) (sym on.count)
          (room_kept it.count c y it on.layout state state on.pages.shown (λ n. omega arith) fits.filled);
      active = still;
      framed = subst (λ (n : ℕ). AreFramesOf n y on.layout (is_active after) frames) (sym on.count)
          (frames_still it.count y on.layout t after frames on.active (record {
            within = fits.framed.within;
            each = λ u page f is.
                let (low, few, was) = placed it.count c it (is_active t) frames fits.framed u page f
                is in
                other_steps_keep_frames places c y it on.layout (logs_of frames) (is_active t) u
                page f.values f.pending (on.alike u low) on.pages low few was;
          }));
      sessions = fits.sessions;
    }

pub table_calls_keep_states : TableCallsKeepStates
table_calls_keep_states t after frames result old new turns preserves slots = record {
  fits = λ places same settled x told.
      let (y, there, turned) = turns places same settled x told in (
        y,
        there,
        λ it state fits.
            let on = turned it fits.mirrors fits.none_lost in record {
              layout = on.layout;
              fits = still_fits result (memory_of after frames slots) places
                  (chart_of y) on.layout state
                  (turned_fits places (chart_of x) (chart_of y) it t after frames slots state fits
                  on);
              shows = same_map_shows result places (chart_of x) (chart_of y) it on.layout state
                  on.count on.pages;
            },
      );
  steps = λ places pages h it state same steady story.
      preserves places (of pages state.map) it h same steady story.rests
      (record { mirrors = story.fits.mirrors; tidy = story.tidy });
}
  where
    same_map_shows : {T E : Type 0} (result : Result T E) (places : ℕ) (c y : Chart)
        (it new : Layout) (state : State) → new.count ≡ it.count → KeepsPages places c it y new
        → ShowsNext places c it state.map y new (state_then result (λ state. state) state).map
    same_map_shows (Ok v) places c y it new state = kept_shows places c y it new state.map
    same_map_shows (Err e) places c y it new state = kept_shows places c y it new state.map

-- ---- a log sector

pub log_sectors_keep_states : LogSectorsKeepStates
log_sectors_keep_states t after frames u page f old new there logged preserves slots = record {
  fits = λ places same settled x told.
      let (y, then_told, is_logged) = logged places same x told in (
        y,
        then_told,
        λ it state fits.
            let is = is_logged it slots state fits in record {
              layout = with_log it u is.entry;
              fits = log_sectors_fit places (chart_of x) (chart_of y) it t after frames slots state
                  u page f is.entry fits there is.records_are is.mirrors is.none_lost is.active
                  is.pages;
              shows = kept_shows places (chart_of x) (chart_of y) it (with_log it u is.entry)
                  state.map refl is.pages;
            },
      );
  steps = λ places pages h it state same steady story.
      preserves places pages h it slots state same steady story;
}
