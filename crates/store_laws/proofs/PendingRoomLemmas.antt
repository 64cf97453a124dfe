-- What is pending in a page takes no more than the sessions' writes of its names.
use Rattle.std.proofs.Common.{◌≡◌, ℕ, Bool, ◌+◌, ◌<◌, ◌≤◌, true, List, Option, Some, None, refl, sym, subst, arith}
use Rattle.std.specs.List.{Contains}
use Rattle.std.proofs.lemmas.List.Elements.{Contains-append_left}
use Rattle.ipl_base.specs.Sizes.{size_in_page}
use Rattle.ipl_model.specs.Peaks.{peaks}
use Rattle.ipl_model.specs.State.{State, writes_of}
use Rattle.ipl_model.proofs.RulePeakLemmas.{le_trans, own_most}
use Rattle.record_locks.specs.Held.{number_of}
use Rattle.record_locks.proofs.SameLemmas.{peaks_are}
use Rattle.ipl_format.specs.Record.{Record}
use Rattle.ipl_meaning.specs.Layout.{Layout, records_of}
use Rattle.ipl_meaning.specs.Last.{last_that}
use Rattle.ipl_meaning.specs.Values.{counts_for}
use Rattle.page_ops.specs.Pending.{Pending, peak_of}
use Rattle.store_laws.specs.Pending.{Logs, SessionNumbers, name_at, records_at, HasPending}
use Rattle.store_laws.specs.PendingLaws.{AreActive}
use Rattle.store_laws.specs.Frames.{logs_of, pending_of}
use Rattle.store_laws.specs.Fits.{is_active}
use Rattle.store_laws.specs.FittingLaws.{LoadedPagesFit, FramesKeepPeaks}
use Rattle.store_laws.proofs.LastLemmas.{counted, last_listed}
use Rattle.store_laws.proofs.RoomLemmas.{fewer_peaks, one_less, shown_fill}
use Rattle.store_laws.proofs.WeightLemmas.{peaked}

-- the last change of an open session, of records of a page or the first of these, takes no more than its name's peak
module _ (units : ℕ) (it : Layout) (logs : Logs) (numbers : SessionNumbers) (state : State) (active : ℕ → Bool)
    (has : HasPending units it logs numbers state) (tells : AreActive numbers active) (u page slot : ℕ) (low : u < units)
  where
    written_peak : (r : Record) → Contains (records_at it logs u page) r → counts_for active page slot r ≡ true
        → 1 + size_in_page r.change ≤ peaks state (name_at u page slot)
    written_peak r there counts =
        let (page_is, slot_is, running) = counted active page slot r counts in
        let (s, mine) = (tells r.tid).0 running in
        let n = name_at u r.page r.slot in
        let by_s = peaked (writes_of state s) (n, r.change) (has.among s u page r mine low there) in
        let here : n ≡ name_at u page slot = omega (arith, page_is, slot_is) in
        subst (λ (k : ℕ). 1 + size_in_page r.change ≤ peaks state k) here (le_trans by_s (own_most state s n))

    pub last_peak : (records : List Record)
        → ((r : Record) → Contains records r → Contains (records_at it logs u page) r)
        → peak_of (pending_of (last_that (counts_for active page slot) records None)) ≤ peaks state (name_at u page slot)
    last_peak records among = go (last_that (counts_for active page slot) records None) refl
      where
        go : (o : Option Record) → last_that (counts_for active page slot) records None ≡ o
            → peak_of (pending_of o) ≤ peaks state (name_at u page slot)
        go None is = omega arith
        go (Some r) is =
            let (there, counts) = last_listed (counts_for active page slot) records r is in
            written_peak r (among r there) counts

-- ---- what memory gives

pub loaded_pages_fit : LoadedPagesFit
loaded_pages_fit places c it t frames slots state u page now fits low few shows =
    let live = records_of (it.units u).log in
    le_trans (fewer_peaks _ _ now (λ slot less. one_less (last_peak it.count it (logs_of frames) (number_of slots)
    state (is_active t) fits.pending fits.active u page slot low live
    (λ r there. Contains-append_left live (logs_of frames u page) r there))))
    (shown_fill it.count c it state u page now fits.filled low few shows)

pub frames_keep_peaks : FramesKeepPeaks
frames_keep_peaks places c it t frames slots state u page slot f fits there less =
    let (low, few) = fits.framed.within u page f there in
    let framed = fits.framed.each u page f there in
    subst (λ (m : ℕ). peak_of (f.pending slot) ≤ m) (sym (peaks_are slots state fits.sessions.peaks (name_at u page slot)))
    (subst (λ (p : Option Pending). peak_of p ≤ peaks state (name_at u page slot)) (sym (framed.changes slot less))
    (last_peak it.count it (logs_of frames) (number_of slots) state (is_active t) fits.pending fits.active u page slot
    low (records_at it (logs_of frames) u page) (λ r in_page. in_page)))
