-- What a store gives that fits.
use Rattle.std.proofs.Common.{Bool, Some, arith, inl, inr, not, refl, subst, sym, true, ℕ, ◌*◌, ◌+◌, ◌<◌, ◌∙◌, ◌≡◌, ◌≤◌}
use Rattle.std.specs.List.{Contains}
use Rattle.std.proofs.lemmas.Bool.{not-false, not_from_true}
use Rattle.std.proofs.lemmas.List.Elements.{Contains-append_left}
use Rattle.ipl_model.specs.Peaks.{peaks, weight_of_peak, weights}
use Rattle.ipl_model.specs.State.{Map, State}
use Rattle.ipl_model.proofs.RulePeakLemmas.{le_trans}
use Rattle.ipl_model.proofs.WeightLemmas.{weights_less}
use Rattle.record_locks.specs.Held.{SessionSlots, is_among, peaks_in, number_of, written_of}
use Rattle.record_locks.specs.Standing.{state_of}
use Rattle.record_locks.proofs.SameLemmas.{peaks_are, new_writes_alike}
use Rattle.record_locks.proofs.StandingLemmas.{new_write_at}
use Rattle.ipl_meaning.specs.Chart.{Chart, chart_of}
use Rattle.ipl_meaning.specs.Laws.{AreOneLayout}
use Rattle.ipl_meaning.specs.Last.{weight_of}
use Rattle.ipl_meaning.specs.Layout.{Layout, ReadsWell, Shape, records_of}
use Rattle.ipl_meaning.specs.Rests.{now}
use Rattle.ipl_meaning.specs.Stands.{Says, Shows, page_in}
use Rattle.ipl_meaning.specs.Steps.{KeepsPages}
use Rattle.ipl_meaning.specs.Tables.{Tables}
use Rattle.ipl_meaning.proofs.OnceLemmas.{laid_once, shows_once}
use Rattle.ipl_meaning.proofs.PackLemmas.{few_are_carried}
use Rattle.ipl_meaning.proofs.StoryLemmas.{held_stands}
use Rattle.store_laws.specs.Pending.{name_at, wrote}
use Rattle.store_laws.specs.Frames.{AreFramesOf, PageFrame, Frames, logs_of}
use Rattle.store_laws.specs.FrameLaws.{TellsSlot}
use Rattle.store_laws.specs.Fits.{AreSessionsOf, is_active, Fits}
use Rattle.store_laws.specs.FittingLaws.{FitsWhateverTheMap, SessionsAreSound, MergesAreSmall, RestingPagesSay, RestingPagesKeep, FittingFramesTell, FittingContentsTell}
use Rattle.store_laws.proofs.ActiveLemmas.{listed_among}
use Rattle.store_laws.proofs.FrameLemmas.{frames_tell}
use Rattle.store_laws.proofs.WeightLemmas.{records_weigh_no_more}
use Rattle.ipl_meaning.specs.Legible.{Legibility, Legible, of, whole, IsToldApart}

-- ---- the map

pub fits_whatever_the_map : FitsWhateverTheMap
fits_whatever_the_map places c it t frames slots state m fits = record {
  mirrors = fits.mirrors;
  none_lost = fits.none_lost;
  pending = record {
    opens = fits.pending.opens;
    apart = fits.pending.apart;
    waits = fits.pending.waits;
    among = fits.pending.among;
    last = fits.pending.last;
    nowhere_else = fits.pending.nowhere_else;
    none_behind = fits.pending.none_behind;
    valid = fits.pending.valid;
    in_memory = fits.pending.in_memory;
  };
  filled = λ u page slot low few less peaked.
      let is = fits.filled u page slot low few less peaked in
      record { values = is.values; shows = is.shows; room = is.room };
  active = fits.active;
  framed = fits.framed;
  sessions =
      record { names = fits.sessions.names; peaks = fits.sessions.peaks; locked = fits.sessions.locked };
}

-- ---- sessions

pub wrote_is : (slots : SessionSlots) (state : State) → AreSessionsOf slots state → (s n : ℕ) → wrote state s n ≡ true
    → is_among n (written_of slots s) ≡ true
wrote_is slots state are s n is =
    let alike : not (is_among n (written_of slots s)) ≡ not (wrote state s n) =
    sym (new_write_at slots s n) ∙ new_writes_alike (state_of slots) state are.names s n in
    not-false (is_among n (written_of slots s)) (alike ∙ not_from_true (wrote state s n) is)

-- what a session wrote is among the names that it holds
pub wrote_listed : (slots : SessionSlots) (state : State) → AreSessionsOf slots state → (s n : ℕ) → wrote state s n ≡ true
    → Contains (written_of slots s) n
wrote_listed slots state are s n is = listed_among (written_of slots s) n (wrote_is slots state are s n is)

pub sessions_are_sound : SessionsAreSound
sessions_are_sound slots state are = (
  λ s t n by_s by_t.
      are.locked.one_writer s t n (wrote_is slots state are s n by_s) (wrote_is slots state are t n by_t),
  λ u. le_trans (weights_less (peaks state) (peaks_in slots) u (λ n. same_less (peaks_are slots state are.peaks n)))
      (are.locked.few u),
)
  where
    same_less : {a b : ℕ} → b ≡ a → a ≤ b
    same_less same = omega (arith, same)

-- the number of a name within its unit
in_unit : (u page slot : ℕ) → name_at u page slot ≡ 960 * u + (64 * page + slot)
in_unit u page slot = omega arith

pub merges_are_small : MergesAreSmall
unfolding weights
merges_are_small places c it t frames slots state u fits low =
    let live = records_of (it.units u).log in
    few_are_carried (is_active t) (it.units u).log (λ i. weight_of_peak (peaks state (960 * u + i)))
    (fits.pending.valid u low) ((sessions_are_sound slots state fits.sessions).1 u) (λ r there is.
    subst (λ (n : ℕ). weight_of r ≤ weight_of_peak (peaks state n)) (in_unit u r.page r.slot)
    (records_weigh_no_more it.count it (logs_of frames) (number_of slots) state (is_active t) u r.page r
    fits.pending fits.active low (Contains-append_left live (logs_of frames u r.page) r there) is))

-- ---- pages

-- as any layout of the chart does
says_as : (places : ℕ) (c : Chart) (it other : Layout) (m : Legible) → AreOneLayout it other
    → Says places c other m → Says places c it m
says_as places c it other m same says = record {
  pages = λ u page low few reads.
      let shows = subst (λ (f : ℕ → Bool). Shows c f u (other.units u) page (page_in m.map u page))
      (λ i tid. sym (same.committed tid) i) (says.pages u page (omega (arith, low, same.count)) few reads) in
      subst (λ (shape : Shape). Shows c it.committed u shape page (page_in m.map u page)) (sym (same.units u low))
      shows;
  rotten = λ u page base low few is reads. says.rotten u page base (omega (arith, low, same.count)) few is
      (subst (λ (shape : Shape). ReadsWell c u shape page base) (same.units u low) reads);
  nowhere_else = λ n high. says.nowhere_else n (omega (arith, high, same.count));
}

pub resting_pages_say : RestingPagesSay
resting_pages_say places h it m rests laid =
    let stands = held_stands places m h rests.each in
    let one = laid_once places (now h) it stands.layout laid stands.laid in
    says_as places (now h) it stands.layout m one stands.says

-- where both say one map, each page is kept
says_keep : (places : ℕ) (c y : Chart) (it new : Layout) (m : Map) → new.count ≡ it.count → Says places c it (whole m)
    → Says places y new (whole m) → KeepsPages places c it y new
says_keep places c y it new m count before after = record {
  shown = λ u page shown low few shows.
      let there = after.pages u page (omega (arith, low, count)) few refl in record {
        base = there.base;
        reads = there.reads;
        says = λ slot less.
            shows_once c it.committed it.committed u (it.units u) page shown (page_in m u page) (λ tid. refl) shows
            (before.pages u page low few refl) slot less
            ∙ there.says slot less;
        room = shows.room;
      };
  no_more = λ u page base low few reads. let was = before.pages u page low few refl in (was.base, was.reads);
}

pub resting_pages_keep : RestingPagesKeep
resting_pages_keep places m h k it new first second one two count =
    says_keep places (now h) (now k) it new m count
    (resting_pages_say places h it (whole m) first one) (resting_pages_say places k new (whole m) second two)

-- ---- frames

-- a page that is in a frame reads well, so it is one of whose names it is said
pub framed_is_said : (places units : ℕ) (pages : Legibility) (c : Chart) (it : Layout) (m : Map) (active : ℕ → Bool) (frames : Frames)
    (u page : ℕ) (f : PageFrame) → IsToldApart pages → units ≡ it.count → Says places c it (of pages m)
    → AreFramesOf units c it active frames → frames u page ≡ Some f → pages.reads u page ≡ true
framed_is_said places units pages c it m active frames u page f apart same says framed there =
    let (low, few) = framed.within u page f there in
    elim (apart u page) [
      | inl reads ↦ reads
      | inr rotten ↦ let shows = (framed.each u page f there).shows in
          absurd (says.rotten u page shows.base (subst (λ (n : ℕ). u < n) same low) few rotten shows.reads)
    ]

-- where the pages say the map, a frame tells it
fits_tell : (places : ℕ) (pages : Legibility) (c : Chart) (it : Layout) (t : Tables) (frames : Frames) (slots : SessionSlots) (state : State)
    (u page slot : ℕ) (f : PageFrame) → IsToldApart pages → Fits places c it t frames slots state → Says places c it (of pages state.map)
    → frames u page ≡ Some f → slot < 64 → TellsSlot (number_of slots) state u page slot f.values f.pending
fits_tell places pages c it t frames slots state u page slot f apart fits says there less =
    let (low, few) = fits.framed.within u page f there in
    let one = (sessions_are_sound slots state fits.sessions).0 in
    frames_tell it.count c it (logs_of frames) (number_of slots) state (is_active t) u page slot
    f.values f.pending fits.pending one fits.active (says.pages u page low few (framed_is_said places it.count pages c it state.map (is_active t) frames u page f apart refl says fits.framed there)) low few less
    (fits.framed.each u page f there)

pub fitting_frames_tell : FittingFramesTell
fitting_frames_tell places pages h it t frames slots state u page slot f apart story =
    fits_tell places pages (now h) it t frames slots state u page slot f apart story.fits
    (resting_pages_say places h it (of pages state.map) story.rests story.fits.mirrors.laid)

pub fitting_contents_tell : FittingContentsTell
fitting_contents_tell places pages x it t frames slots state u page slot f apart told =
    fits_tell places pages (chart_of x) it t frames slots state u page slot f apart told.fits told.says
