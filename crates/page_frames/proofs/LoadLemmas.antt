-- A page that is loaded into a frame.
use Rattle.std.proofs.Common.{◌≡◌, ◌<◌, ◌++◌, ℕ, List, [], length, false, Option, Some, None, Result, Ok, Err, IfErr, refl, sym, ◌∙◌, ap, subst, inl, inr, arith}
use Rattle.std.specs.Option.{option_map_or}
use Rattle.std.specs.Prelude.{Bool, is_ok}
use Rattle.std.proofs.lemmas.List.{append-nil}
use Rattle.std.proofs.lemmas.Result.{IfErr-weaker}
use Rattle.chip_trait.specs.Told.{Told}
use Rattle.ipl_base.specs.declared.fault.ChipFault.{ChipFault}
use Rattle.ipl_base.specs.declared.fault.ChipFault.TheVariants.{ReadFault, Stopped, Damaged, Malformed, WornOut}
use Rattle.ipl_meaning.specs.Chart.{Chart, chart_of}
use Rattle.ipl_meaning.specs.Layout.{Layout, records_of}
use Rattle.ipl_meaning.specs.Last.{last_that}
use Rattle.ipl_meaning.specs.Mirrors.{Mirrors}
use Rattle.ipl_meaning.specs.Tables.{Places, Tables}
use Rattle.ipl_meaning.specs.Values.{counts_for}
use Rattle.number_set.specs.Numbers.{among}
use Rattle.page_ops.specs.Frames.{FrameView, values_in, pending_in}
use Rattle.page_rebuild.specs.Loaded.{IsLoaded, IsLoadCause, IsLoadRead}
use Rattle.store_laws.specs.Frames.{PageFrame, Frames, logs_of, with_frame_at, IsFrameOf, pending_of}
use Rattle.place_taking.specs.Spending.{is_worn_out, tells_worn}
use Rattle.place_taking.specs.Wear.{TellsOfWear}
use Rattle.place_taking.proofs.WearLemmas.{alike_tables, reads_wear_at}
use Rattle.restart.specs.Passes.{RenewCause}
use Rattle.unit_io.specs.Steps.{Tidies}
use Rattle.unit_io.proofs.TablesLemmas.{tables_read}
use Rattle.store_laws.specs.Advances.{KeepsState}
use Rattle.store_laws.specs.Views.{frame_of}
use Rattle.store_laws.proofs.KeeperLemmas.{loads_anywhere_keep_states, reads_anywhere_keep_states}
use Rattle.unit_io.specs.Reads.{OfContents}
use Rattle.unit_io.specs.ReadsAt.{Anywhere, ReadsAt}
use Rattle.unit_io.proofs.ReadsAtLemmas.{at_wider}
use Rattle.page_frames.proofs.FrameViewLemmas.{put_again, put_same}
use Rattle.unit_io.specs.Accounts.{Accounts}
use Rattle.selective_merge.specs.Known.{KnowsPlaces}
use Rattle.buffer_pool.specs.Holding.{KeepsPins}
use Rattle.buffer_pool.proofs.HoldingLemmas.{rest_stays}
use Rattle.store_laws.proofs.MemoryLemmas.{cases_page}
use Rattle.store_laws.proofs.SameLemmas.{frame_other}
use Rattle.page_frames.specs.declared.pages.Pages.{Pages}
use Rattle.page_frames.specs.Asks.{AsksToLoad}
use Rattle.page_frames.specs.Pages.{tables_in, frames_in, ArePagesReady, Upholds, PageCause}

-- why it isn't loaded
load_cause : (after : Places) (home : ℕ) (spots : List (ℕ × ℕ)) (page : ℕ) → page < 15
    → (fault : ChipFault) (old new : Told) → IsLoadCause home spots page fault old new
    → RenewCause after fault old new
load_cause after home spots page few ReadFault old new (inl rose) = rose
load_cause after home spots page few ReadFault old new (inr rose) = rose
load_cause after home spots page few Stopped old new (inl none) = absurd none
load_cause after home spots page few Stopped old new (inr none) = absurd none
load_cause after home spots page few (Damaged p s stored computed) old new (inl none) = absurd none
load_cause after home spots page few (Damaged p s stored computed) old new (inr is) =
    (omega (arith, few, is.1), is.2)
load_cause after home spots page few (Malformed p s) old new cause = tt
load_cause after home spots page few (WornOut n) old new (inl none) = absurd none
load_cause after home spots page few (WornOut n) old new (inr none) = absurd none

-- too many places were worn for no load
load_unworn : (home : ℕ) (spots : List (ℕ × ℕ)) (page : ℕ) (result : Result (Unit {0}) ChipFault)
    (old new : Told) → IfErr result (λ fault. IsLoadCause home spots page fault old new)
    → is_worn_out result ≡ false
load_unworn home spots page (Ok v) old new cause = refl
load_unworn home spots page (Err ReadFault) old new cause = refl
load_unworn home spots page (Err Stopped) old new cause = refl
load_unworn home spots page (Err (Damaged p s stored computed)) old new cause = refl
load_unworn home spots page (Err (Malformed p s)) old new cause = refl
load_unworn home spots page (Err (WornOut n)) old new (inl none) = absurd none
load_unworn home spots page (Err (WornOut n)) old new (inr none) = absurd none

-- what a load asks
pub load_asks : (after : Places) (home : ℕ) (spots : List (ℕ × ℕ)) (page : ℕ)
    (result : Result (Unit {0}) ChipFault) (old new : Told) → page < 15
    → ReadsAt (IsLoadRead home spots page) old new
    → IfErr result (λ fault. IsLoadCause home spots page fault old new)
    → AsksToLoad result after old new
load_asks after home spots page result old new few reads cause = record {
  reads = at_wider (IsLoadRead home spots page) Anywhere old new (λ p s is. tt) reads;
  unworn = load_unworn home spots page result old new cause;
  accounts = record {
    counts = reads.counts;
    cause = IfErr-weaker result (λ fault. IsLoadCause home spots page fault old new)
        (λ fault. RenewCause after fault old new)
        (λ fault. load_cause after home spots page few fault old new) cause;
  };
}

-- what is loaded is the frame of a page without records in memory
loaded_frame : (c : Chart) (it : Layout) (frames : Frames) (active : List ℕ) (u page : ℕ)
    (view : FrameView) → logs_of frames u page ≡ [] → IsLoaded c it (among active) u page view
    → IsFrameOf c it (logs_of frames) (among active) u page (values_in view) (pending_in view)
loaded_frame c it frames active u page view none is = record {
  shows = is.shows;
  changes = λ slot low. is.pending slot low
      ∙ ap (λ l. pending_of (last_that (counts_for (among active) page slot) l None))
      (sym (ap (λ l. records_of (it.units u).log ++ l) none ∙ append-nil _));
}

-- ---- the frames

-- a frame was taken, and written
pub loaded_then : (frames middle later : Frames) (u page : ℕ) (empty f : PageFrame)
    → middle ≡ with_frame_at frames u page (Some empty)
    → later ≡ with_frame_at middle u page (Some f) → later ≡ with_frame_at frames u page (Some f)
loaded_then frames middle later u page empty f one two =
    two ∙ (ap (λ (F : Frames). with_frame_at F u page (Some f)) one
    ∙ put_again frames u page (Some empty) (Some f))

-- and freed again
pub freed_then : (frames later last : Frames) (u page : ℕ) (f : PageFrame) → frames u page ≡ None
    → later ≡ with_frame_at frames u page (Some f) → last ≡ with_frame_at later u page None
    → last ≡ frames
freed_then frames later last u page f none one two =
    two ∙ (ap (λ (F : Frames). with_frame_at F u page None) one
    ∙ (put_again frames u page (Some f) None ∙ put_same frames u page None none))

-- ---- the state is kept

-- a page that was loaded into a frame that was free
load_keeps : (t : Tables) (frames : Frames) (u page : ℕ) (view : FrameView) (old new : Told)
    → u < length t.places.current → page < 15 → frames u page ≡ None → ReadsAt Anywhere old new
    → OfContents old (λ x. (it : Layout) → Mirrors old.places (chart_of x) it t
    → IsLoaded (chart_of x) it (among t.active) u page view)
    → KeepsState {T = Unit {0}} {E = ChipFault} t frames old (Ok tt) t
    (with_frame_at frames u page (Some (frame_of view []))) new
load_keeps t frames u page view old new low few none reads loaded =
    loads_anywhere_keep_states t frames u page (frame_of view []) old new reads low few none refl
    (λ x told it mirrors.
    loaded_frame (chart_of x) it frames t.active u page view
    (ap (λ (o : Option PageFrame). option_map_or (λ f. f.log) o []) none) (loaded x told it mirrors))

-- calls that leave the tables
frames_uphold : (old new : Pages) (later : Frames) (result : Result (Unit {0}) ChipFault)
    (before after : Told) → ArePagesReady before.places old → tables_in new ≡ tables_in old
    → frames_in new ≡ later
    → ((v q : ℕ) (g : PageFrame) → later v q ≡ Some g → v < length old.parts.directory.current)
    → KeepsState (tables_in old) (frames_in old) before result (tables_in old) later after
    → ReadsAt Anywhere before after → is_worn_out result ≡ false
    → KeepsPins old.pool new.pool → Accounts (PageCause new.parts.directory) result before after
    → Upholds 0 old before result new after
frames_uphold old new later result before after ready tables is within keeps reads unworn pins
    accounts = record {
      keeps = subst (λ (t : Tables). KeepsState (tables_in old) (frames_in old) before result t
          (frames_in new) after) (sym tables)
          (subst (λ (F : Frames). KeepsState (tables_in old) (frames_in old) before result
          (tables_in old) F after) (sym is) keeps);
      tidy = subst (λ (t : Tables). Tidies (tables_in old) result t before after) (sym tables)
          (tables_read Anywhere (tables_in old) result before after reads);
      wears = subst (λ (b : Bool). TellsOfWear (tables_in old) (tables_in new) (is_ok result) b before after)
          (sym unworn) (reads_wear_at Anywhere (tables_in old) (tables_in new) (is_ok result) before after
          (alike_tables (tables_in old) (tables_in new) (ap (λ (t : Tables). t.places) tables)
          (ap (λ (t : Tables). t.status.place) tables)) reads);
      ready = record {
        known = subst (KnowsPlaces before.places) (sym tables) ready.known;
        within = λ v q g there. subst (λ (t : Tables). v < length t.places.current) (sym tables)
            (within v q g (ap (λ (F : Frames). F v q) (sym is) ∙ there));
        rest = rest_stays old.pool new.pool pins ready.rest;
      };
      units = ap (λ (t : Tables). length t.places.current) tables;
      room = ap (λ (t : Tables). t.status.most) tables;
      active = ap (λ (t : Tables). t.active) tables;
      pins = pins;
      least = let same = ap (λ (t : Tables). t.next) tables in omega (arith, same);
      drawn = let same = ap (λ (t : Tables). t.next) tables in omega (arith, same);
      accounts = accounts;
    }

-- done
pub load_upholds : (u page : ℕ) (view : FrameView) (old new : Pages) (before after : Told)
    → ArePagesReady before.places old → u < length old.parts.directory.current → page < 15
    → frames_in old u page ≡ None → tables_in new ≡ tables_in old
    → frames_in new ≡ with_frame_at (frames_in old) u page (Some (frame_of view []))
    → ReadsAt Anywhere before after
    → OfContents before (λ x. (it : Layout) → Mirrors before.places (chart_of x) it (tables_in old)
    → IsLoaded (chart_of x) it (among old.parts.active) u page view)
    → KeepsPins old.pool new.pool → Upholds {T = Unit {0}} 0 old before (Ok tt) new after
load_upholds u page view old new before after ready low few none tables is reads loaded pins =
    frames_uphold old new (with_frame_at (frames_in old) u page (Some (frame_of view []))) (Ok tt)
    before after ready tables is within
    (load_keeps (tables_in old) (frames_in old) u page view before after low few none reads loaded)
    reads refl pins (record { counts = reads.counts; cause = tt })
  where
    within : (v q : ℕ) (g : PageFrame)
        → with_frame_at (frames_in old) u page (Some (frame_of view [])) v q ≡ Some g
        → v < length old.parts.directory.current
    within v q g there = elim (cases_page u page v q) [
      | inl here ↦ let same = here.0 in omega (arith, low, same)
      | inr apart ↦ ready.within v q g
          (sym (frame_other (frames_in old) u page (Some (frame_of view [])) v q apart) ∙ there)
    ]

-- not done
pub fail_upholds : (old new : Pages) (e : ChipFault) (before after : Told) → ArePagesReady before.places old
    → tables_in new ≡ tables_in old → frames_in new ≡ frames_in old → ReadsAt Anywhere before after
    → tells_worn e ≡ false → KeepsPins old.pool new.pool
    → RenewCause new.parts.directory e before after
    → Upholds {T = Unit {0}} 0 old before (Err e) new after
fail_upholds old new e before after ready tables is reads unworn pins cause =
    frames_uphold old new (frames_in old) (Err e) before after ready tables is ready.within
    (reads_anywhere_keep_states (tables_in old) (frames_in old) (Err e) before after reads) reads
    unworn pins (record { counts = reads.counts; cause = cause })
