-- What a write makes of the memory of a store.
use Rattle.std.proofs.Common.{true, ◌≡◌, ◌≢◌, ℕ, ◌<◌, ◌≤◌, ◌*◌, Bool, false, length, Some, None, IsSome, Ok, Err, inl, inr, refl, sym, ◌∙◌, ap, subst, arith}
use Rattle.std.specs.Prelude.{IfSome}
use Rattle.chip_trait.specs.Told.{Told}
use Rattle.chip_trait.proofs.CountsLemmas.{counts_none}
use Rattle.ipl_base.specs.declared.limits.TheConstants.{PAGE_LEN, SLOTS, VERSION}
use Rattle.ipl_base.specs.declared.fault.ChipFault.{ChipFault}
use Rattle.ipl_base.specs.Places.{home_of}
use Rattle.ipl_base.specs.Sizes.{size_in_page}
use Rattle.ipl_base.specs.declared.spot.Home.{Home}
use Rattle.ipl_format.specs.Record.{Change, Record, IsRecord}
use Rattle.ipl_model.specs.Operations as rules
use Rattle.ipl_model.specs.State.{State}
use Rattle.record_locks.specs.Held.{peaks_in, number_of, numbers_in, after_write, SessionSlots}
use Rattle.ipl_meaning.specs.Chart.{chart_of}
use Rattle.chip_trait.specs.Story.{Contents}
use Rattle.ipl_meaning.specs.Layout.{Layout}
use Rattle.ipl_meaning.specs.Values.{Values}
use Rattle.unit_io.specs.Reads.{OfContents}
use Rattle.selective_merge.specs.declared.parts.Parts.{Parts}
use Rattle.selective_merge.specs.Moving.{tables_of}
use Rattle.selective_merge.specs.Spotting.{HasHomeSpot}
use Rattle.buffer_pool.specs.Holding.{KeepsPins}
use Rattle.page_ops.specs.Pending.{peak_of}
use Rattle.store_laws.specs.Pending.{name_at}
use Rattle.store_laws.specs.Frames.{PageFrame, Frames, with_frame_at, IsWrittenFrame}
use Rattle.store_laws.specs.Fits.{LocksHold}
use Rattle.store_laws.specs.Room.{PageHasRoomFor, fill_at, peaked_by}
use Rattle.store_laws.proofs.FullLemmas.{puts_that_pass_have_room, same_values_have_room}
use Rattle.store_laws.proofs.PendingRoomLemmas.{frames_keep_peaks}
use Rattle.store_laws.proofs.MemoryLemmas.{cases_page}
use Rattle.store_laws.proofs.SameLemmas.{frame_here, frame_other}
use Rattle.unit_io.specs.Costs.{Spends}
use Rattle.unit_io.specs.Steps.{Tidies}
use Rattle.unit_io.proofs.TablesLemmas.{tables_none}
use Rattle.store_laws.specs.Advances.{Memory, memory_of, MemoryFits, KeepsState, LeadsTo}
use Rattle.store_laws.proofs.SessionLemmas.{writes_lead}
use Rattle.page_frames.specs.Changes.{FrameChanges, MayPut, PutHasRoom}
use Rattle.page_frames.proofs.FrameRoomLemmas.{puts_by_peaks_have_room}
use Rattle.page_frames.specs.Spending.{ErasesAndLogs}
use Rattle.page_frames.specs.declared.pages.Pages.{Pages}
use Rattle.page_frames.specs.Pages.{tables_in, frames_in, IsFramed, KeepsValues, Upholds}
use Rattle.place_taking.proofs.WearLemmas.{alike_tables, nothing_wears}
use Rattle.ipl_store.specs.declared.transactions.Transactions.{Transactions}
use Rattle.page_frames.specs.Asks.{AsksToPrepare}
use Rattle.ipl_store.specs.Costs.{HasRoomFor, AsksToWrite}
use Rattle.ipl_store.specs.Turns.{memory_in, CompletesFor, IsInOrder, MayTake, TellsFaultsForBy, Turns}
use Rattle.ipl_store.proofs.OrderLemmas.{HadFrames, still_ready}
use Rattle.ipl_store.proofs.SessionLemmas.{writes_keep_numbers}
use Rattle.record_locks.proofs.BatchLemmas.{calls_keep_slots}
use Rattle.ipl_store.proofs.TurnLemmas.{upheld_order_then, upheld_then}

-- one page's frame changed
put_had : (R : PageFrame → PageFrame → Type 0) (u page : ℕ) (old new : Pages)
    → FrameChanges R (frames_in old) (frames_in new) u page → HadFrames old new
put_had R u page old new did v q f is = elim (cases_page u page v q) [
  | inl here ↦
      (did.was, ap (λ (w : ℕ). frames_in old w q) here.0 ∙ ap (frames_in old u) here.1 ∙ did.there)
  | inr apart ↦ (
    f,
    sym (frame_other (frames_in old) u page (Some did.now) v q apart)
        ∙ sym (ap (λ (frames : Frames). frames v q) did.frames)
        ∙ is,
  )
]

-- that page is in a frame then
pub put_framed : (R : PageFrame → PageFrame → Type 0) (u page : ℕ) (at : Home) (old new : Pages)
    → at.unit ≡ u → at.page ≡ page → FrameChanges R (frames_in old) (frames_in new) u page
    → IsFramed new at.unit at.page
put_framed R u page at old new same also did =
    let now : frames_in new at.unit at.page ≡ Some did.now =
    ap (λ (frames : Frames). frames at.unit at.page) did.frames
    ∙ frame_here (frames_in old) u page (Some did.now) at.unit at.page same also in
    subst IsSome (sym now) refl

-- a record fits behind those of its page
pub room_put : (pages : Pages) (n : ℕ) (at : Home) (r : Record) → at ≡ home_of n
    → r.page ≡ at.page → HasRoomFor pages n r.change → MayPut (frames_in pages) at.unit r
room_put pages n at r home page room = record {
  frame = room.frame;
  there = ap (frames_in pages at.unit) page
      ∙ ap (λ (h : Home). frames_in pages h.unit h.page) home ∙ room.there;
  fits = room.fits;
}

-- the page of a name was made ready for its record
pub prepared_asks : (pages mid new : Pages) (first worn_out : Bool) (n : ℕ) (at : Home) (r : Record)
    (before after : Told) → at ≡ home_of n → r.page ≡ at.page
    → new.parts ≡ mid.parts → worn_out ≡ first
    → AsksToPrepare at.unit r first pages mid before after
    → AsksToWrite n r.change worn_out pages new before after
prepared_asks pages mid new first worn_out n at r before after home page same worn asks =
    let there : frames_in pages at.unit r.page ≡ frames_in pages (home_of n).unit (home_of n).page =
    ap (frames_in pages at.unit) page ∙ ap (λ (h : Home). frames_in pages h.unit h.page) home in record {
      idle = λ room. (asks.idle (room_put pages n at r home page room)).1;
      free = λ none free. asks.free (there ∙ none) free;
      home = λ framed has. asks.home (subst IsSome (sym there) framed)
          (subst (λ (h : Home). HasHomeSpot (tables_in pages) h.unit) (sym home) has);
      costs = subst (λ (b : Bool). Spends
          (ErasesAndLogs pages.parts.directory new.parts.directory b) before after) (sym worn)
          (subst (λ (p : Parts). Spends (ErasesAndLogs pages.parts.directory p.directory
          first) before after) (sym same) asks.costs);
    }

-- which leaves the tables where the record fits, and finds no place worn
pub prepared_idle : (pages mid : Pages) (first worn_out : Bool) (n : ℕ) (at : Home)
    (r : Record) (before after : Told) → at ≡ home_of n → r.page ≡ at.page → worn_out ≡ first
    → AsksToPrepare at.unit r first pages mid before after
    → HasRoomFor pages n r.change → (mid.parts ≡ pages.parts) × (worn_out ≡ false)
prepared_idle pages mid first worn_out n at r before after home page worn asks room =
    let (only, idle, still) = asks.idle (room_put pages n at r home page room) in
    (only.parts, worn ∙ still)

-- ---- room in the page

-- a record has room by what its page's frame has now, where it had by what that had before
pub page_has_room : (n : ℕ) (at : Home) (r : Record) (it : Transactions) (mid : Pages) (now : PageFrame)
    → at ≡ home_of n → r.page ≡ at.page → r.slot ≡ at.slot → MayTake it n r.change
    → KeepsValues at.unit r.page it.pages mid → frames_in mid at.unit r.page ≡ Some now
    → PageHasRoomFor (peaks_in it.sessions) at.unit r now.values
page_has_room n at r it mid now home page slot may kept there = go r.change refl may
  where
    go : (o : Change) → r.change ≡ o → MayTake it n o
        → PageHasRoomFor (peaks_in it.sessions) at.unit r now.values
    go None is room = subst (λ (o : Change). IfSome o (λ bytes.
        fill_at (peaked_by (peaks_in it.sessions) at.unit r) at.unit r.page now.values ≤ PAGE_LEN))
        (sym is) tt
    go (Some bytes) is (f, was, fits) =
        let here : frames_in it.pages at.unit r.page ≡ Some f =
        ap (frames_in it.pages at.unit) page
        ∙ ap (λ (h : Home). frames_in it.pages h.unit h.page) home ∙ was in
        let (g, found, same) = kept f here in
        let one : Some g ≡ Some now = sym found ∙ there in
        let which : g ≡ now = cc one in
        let values : now.values ≡ f.values = ap (λ (h : PageFrame). h.values) (sym which) ∙ same in
        same_values_have_room (peaks_in it.sessions) at.unit r f.values now.values
        (λ slot low. ap (λ (v : Values). v slot) values)
        (subst (λ (h : Home). PageHasRoomFor (peaks_in it.sessions) h.unit r f.values) (sym home)
        (puts_that_pass_have_room (peaks_in it.sessions) n bytes f.values r
        (page ∙ ap (λ (h : Home). h.page) home) (slot ∙ ap (λ (h : Home). h.slot) home) is fits))

-- A put was answered no: its page was made ready, and its frame has no room for it. The page has room
-- by the sessions' peaks.
pub record IsRefused (u : ℕ) (r : Record) (old : Transactions) (mid : Pages) (before after : Told)
    : Type 0 where
  pub now : PageFrame
  pub there : frames_in mid u r.page ≡ Some now
  pub keeps : KeepsState {T = Unit {0}} {E = ChipFault} (tables_in old.pages) (frames_in old.pages)
      before (Ok tt) (tables_in mid) (frames_in mid) after
  pub room : PageHasRoomFor (peaks_in old.sessions) u r now.values
  pub some : r.change ≢ None
  pub full : ¬ PutHasRoom now r

-- That isn't so over memory that fits: what is pending there the sessions wrote.
module _ (u : ℕ) (r : Record) (old : Transactions) (mid : Pages) (before after : Told)
    (is : IsRefused u r old mid before after) where
  fits_none : OfContents before (λ x. (layout : Layout) (state : State)
      → MemoryFits before.places (chart_of x) layout (memory_in old) state → ⊥)
  fits_none x told layout state fits =
      let (y, held, had) = (is.keeps old.sessions).fits before.places refl tt x told in
      let on = had layout state fits in
      by_change r.change refl (λ slot low. frames_keep_peaks before.places (chart_of y) on.layout
      (tables_in mid) (frames_in mid) old.sessions state u r.page slot is.now on.fits is.there low)
    where
      by_change : (o : Change) → r.change ≡ o
          → ((slot : ℕ) → slot < SLOTS
          → peak_of (is.now.pending slot) ≤ peaks_in old.sessions (name_at u r.page slot)) → ⊥
      by_change None none less = is.some none
      by_change (Some bytes) some less =
          is.full (puts_by_peaks_have_room (peaks_in old.sessions) u r is.now bytes less some
          is.room)

  pub refused_completes : (e : ChipFault) → CompletesFor {T = Unit {0}} old (Err e) before
  refused_completes e x told layout state fits says = absurd (fits_none x told layout state fits)

  pub refused_tells : (F : Contents → Layout → ℕ → ℕ → ChipFault → Type 0) (e : ChipFault) (new : Pages)
      → TellsFaultsForBy {T = Unit {0}} F old (Err e) before new
  refused_tells F e new x told layout state fits = absurd (fits_none x told layout state fits)

-- a put that has room has its page in a frame
pub unframed_put : (n : ℕ) (it : Transactions) (change : Change) → MayTake it n change
    → change ≢ None → frames_in it.pages (home_of n).unit (home_of n).page ≡ None → ⊥
unframed_put n it None may some none = some refl
unframed_put n it (Some bytes) (f, was, fits) some none =
    let no : Some f ≡ None = sym was ∙ none in cc no

-- ---- the record put

-- a record was put behind those of its page, which has room for it
pub was_put : (s n u : ℕ) (r : Record) (old new : Transactions) (told : Told)
    → IsInOrder told.places old → s < length old.sessions → number_of old.sessions s ≡ Some r.tid
    → u < length old.pages.parts.directory.current → IsRecord VERSION r → name_at u r.page r.slot ≡ n
    → new.sessions ≡ after_write old.sessions s n (size_in_page r.change) → LocksHold new.sessions
    → new.pages.parts ≡ old.pages.parts
    → (did : FrameChanges (IsWrittenFrame r) (frames_in old.pages) (frames_in new.pages) u r.page)
    → PageHasRoomFor (peaks_in old.sessions) u r did.was.values
    → KeepsPins old.pages.pool new.pages.pool
    → Turns {T = Unit {0}} (λ state. rules.after_write state s (n, r.change)) 0 old told (Ok tt)
    new told
was_put s n u r old new told order low mine of_unit valid home slots locks parts did room pins =
    let t = tables_in old.pages in
    let size = size_in_page r.change in
    let next = λ (state : State). rules.after_write state s (n, r.change) in
    let after = after_write old.sessions s n size in
    let locked : LocksHold after = subst LocksHold slots locks in
    let led = subst (λ (k : ℕ). LocksHold (after_write old.sessions s k size)
    → LeadsTo {T = Unit {0}} {E = ChipFault}
    (λ state. rules.after_write state s (k, r.change)) (memory_in old) told (Ok tt)
    (memory_of t (with_frame_at (frames_in old.pages) u r.page (Some did.now))
    (after_write old.sessions s k size)) told) home
    (writes_lead s u r did.was did.now (memory_in old) told
    low mine of_unit valid did.there did.changes room) locked in
    record {
      leads = subst (λ (m : Memory). LeadsTo {T = Unit {0}} {E = ChipFault} next (memory_in old)
          told (Ok tt) m told)
          (λ i. memory_of (tables_of (sym parts i)) (sym did.frames i) (sym slots i)) led;
      tidy = subst (λ (p : Parts). Tidies {T = Unit {0}} {E = ChipFault} t (Ok tt) (tables_of p) told told)
          (sym parts) (tables_none {T = Unit {0}} {E = ChipFault} t (Ok tt) told);
      wears = nothing_wears t (tables_in new.pages) true told (alike_tables t (tables_in new.pages)
          (ap (λ (p : Parts). p.directory) parts) (ap (λ (p : Parts). p.status.place) parts));
      order = record {
        ready = still_ready told.places old.pages new.pages (record {
          places = ap (λ (p : Parts). p.directory) parts;
          overflow = ap (λ (p : Parts). p.overflow) parts;
          status = ap (λ (p : Parts). p.status.place) parts;
        }) pins (put_had (IsWrittenFrame r) u r.page old.pages new.pages did) order.ready;
        active = ap (λ (p : Parts). p.active) parts ∙ order.active
            ∙ sym (writes_keep_numbers old.sessions s n size) ∙ ap numbers_in (sym slots);
      };
      units = ap (λ (p : Parts). length p.directory.current) parts;
      sessions = ap (λ (v : SessionSlots). length v) slots ∙ (calls_keep_slots old.sessions s).writes n size;
      numbers = ap (λ (p : Parts). p.status.most) parts;
      pins = pins;
      least = omega (arith, ap (λ (p : Parts). p.counter) parts);
      drawn = omega (arith, ap (λ (p : Parts). p.counter) parts);
      accounts = record { counts = counts_none told; cause = tt };
    }

-- after the record's page was brought into its frame
pub was_written : (s n u : ℕ) (r : Record) (old new : Transactions) (mid : Pages)
    (before after : Told) → IsInOrder before.places old → s < length old.sessions → number_of old.sessions s ≡ Some r.tid
    → n < 960 * length old.pages.parts.directory.current → n ≡ name_at u r.page r.slot → IsRecord VERSION r
    → Upholds 14 old.pages before (Ok (tt {0})) mid after
    → new.sessions ≡ after_write old.sessions s n (size_in_page r.change) → LocksHold new.sessions
    → new.pages.parts ≡ mid.parts
    → (put : FrameChanges (IsWrittenFrame r) (frames_in mid) (frames_in new.pages) u r.page)
    → PageHasRoomFor (peaks_in old.sessions) u r put.was.values
    → KeepsPins mid.pool new.pages.pool
    → Turns {T = Unit {0}} (λ state. rules.after_write state s (n, r.change)) 14 old before (Ok tt)
    new after
was_written s n u r old new mid before after order low mine within home valid did slots locks parts
    changes room pins =
    let between : Transactions = record { pages = mid; sessions = old.sessions } in
    let next = λ (state : State). rules.after_write state s (n, r.change) in
    upheld_then next 14 0 old between new (Ok tt) before after after did refl
    (was_put s n u r between new after
    (upheld_order_then 14 old between (Ok tt) before after order did refl) low mine
    (omega (arith, within, home, did.units, valid.page, valid.slot)) valid (sym home) slots locks parts
    changes room pins)
