-- What a store gives whose memory and chip stand for a state, and that there is one.
use Rattle.std.specs.Prelude.{ℕ, ◌≡◌, ◌<◌, ◌≤◌, ◌+◌, ◌/◌, not, false, List, count_by, length, replicate, Some, None}
use Rattle.std.specs.FinMap.{empty}
use Rattle.ipl_base.specs.declared.limits.TheConstants.{LEAST_PLACES, MOST_PLACES, PAGE_LEN, PAGES, SLOTS, CARRIED_SECTORS, SESSIONS}
use Rattle.chip_trait.specs.Story.{Contents}
use Rattle.chip_trait.specs.Told.{History}
use Rattle.ipl_base.specs.Places.{home_of, KeepsUnits, spares_on}
use Rattle.ipl_model.specs.Peaks.{Peaks, peaks, overfills}
use Rattle.ipl_model.specs.State.{Map, State, at_rest}
use Rattle.ipl_format.specs.Record.{Record}
use Rattle.record_locks.specs.Held.{SessionSlots, peaks_in, number_of}
use Rattle.ipl_meaning.specs.Chart.{Chart}
use Rattle.ipl_meaning.specs.Legible.{Legibility, Legible, whole, IsToldApart}
use Rattle.ipl_meaning.specs.Layout.{Layout, Laid, records_of}
use Rattle.ipl_meaning.specs.Last.{carried_count, last_that}
use Rattle.ipl_meaning.specs.Stands.{Says, Shows, page_in}
use Rattle.ipl_meaning.specs.Values.{Values, counts_for}
use Rattle.ipl_meaning.specs.Rests.{now, StoryRests}
use Rattle.ipl_meaning.specs.Steps.{KeepsPages}
use Rattle.ipl_meaning.specs.Tables.{IsFree, Tables}
use Rattle.ipl_meaning.specs.Mirrors.{Mirrors, NoneIsLost}
use Rattle.ipl_meaning.specs.Formatted.{formatted}
use Rattle.ipl_meaning.specs.FirstTables.{first_layout, first_tables}
use Rattle.ipl_model.specs.FillLaws.{PageFits, UnitsFit}
use Rattle.page_ops.specs.Pending.{fill_by, peak_of}
use Rattle.store_laws.specs.Pending.{name_at}
use Rattle.store_laws.specs.PendingLaws.{StateHasOneWriter}
use Rattle.store_laws.specs.Room.{PageHasRoomFor, overfills_at}
use Rattle.store_laws.specs.Frames.{PageFrame, Frames, pending_of}
use Rattle.store_laws.specs.FrameLaws.{TellsSlot}
use Rattle.store_laws.specs.Fits.{AreSessionsOf, is_active, Fits, FitsStory, FitsContents}

-- ---- what it gives

-- one place more is free or retired than are spare
abbrev pub SparesAreFreeOrRetired : Type 0
SparesAreFreeOrRetired =
    (places : ℕ) (c : Chart) (it : Layout) (t : Tables) → Mirrors places c it t → NoneIsLost places t
    → 1 + spares_on places it.count ≤ count_by not t.places.in_use + length t.places.retired

-- so a place is free, as long as no more are retired than are spare
abbrev pub APlaceIsFree : Type 0
APlaceIsFree = (places : ℕ) (c : Chart) (it : Layout) (t : Tables) → Mirrors places c it t → NoneIsLost places t
    → length t.places.retired ≤ spares_on places it.count
    → (p : ℕ) × (p < places) × IsFree t.places p

-- memory and chart fit whatever the records of the state are
abbrev pub FitsWhateverTheMap : Type 0
FitsWhateverTheMap =
    (places : ℕ) (c : Chart) (it : Layout) (t : Tables) (frames : Frames) (slots : SessionSlots) (state : State) (m : Map)
    → Fits places c it t frames slots state → Fits places c it t frames slots (record state { map = m })

-- no name of the state is written by two sessions, and the pending names of each unit weigh at most 48
abbrev pub SessionsAreSound : Type 0
SessionsAreSound = (slots : SessionSlots) (state : State) → AreSessionsOf slots state
    → StateHasOneWriter state × UnitsFit state

-- where the pages say the map, each page of which an open session wrote a name has room for whatever comes of them
abbrev pub WrittenPagesFit : Type 0
WrittenPagesFit =
    (places : ℕ) (c : Chart) (it : Layout) (t : Tables) (frames : Frames) (slots : SessionSlots) (state : State) (n : ℕ)
    → Fits places c it t frames slots state → Says places c it (whole state.map) → 0 < peaks state n
    → PageFits state (n / SLOTS)

-- where these are the records of its page, the sessions' peaks tell whether a put is refused since the page is full
abbrev pub PeaksTellFullPages : Type 0
PeaksTellFullPages =
    (slots : SessionSlots) (state : State) (n : ℕ) (bytes : List ℕ) (values : Values) → AreSessionsOf slots state
    → ((slot : ℕ) → slot < SLOTS → values slot ≡ page_in state.map (home_of n).unit (home_of n).page slot)
    → overfills state n bytes ≡ overfills_at (peaks_in slots) n bytes values

-- where it isn't, its record has room there
abbrev pub PutsThatPassHaveRoom : Type 0
PutsThatPassHaveRoom =
    (peaks : Peaks) (n : ℕ) (bytes : List ℕ) (values : Values) (r : Record) → r.page ≡ (home_of n).page
    → r.slot ≡ (home_of n).slot → r.change ≡ Some bytes → overfills_at peaks n bytes values ≡ false
    → PageHasRoomFor peaks (home_of n).unit r values

-- and so it has over the same values
abbrev pub SameValuesHaveRoom : Type 0
SameValuesHaveRoom =
    (peaks : Peaks) (u : ℕ) (r : Record) (values now : Values)
    → ((slot : ℕ) → slot < SLOTS → now slot ≡ values slot) → PageHasRoomFor peaks u r values
    → PageHasRoomFor peaks u r now

-- a page that is read from the chip has room for what it shows and for what is pending there
abbrev pub LoadedPagesFit : Type 0
LoadedPagesFit =
    (places : ℕ) (c : Chart) (it : Layout) (t : Tables) (frames : Frames) (slots : SessionSlots) (state : State) (u page : ℕ)
    (now : Values)
    → Fits places c it t frames slots state → u < it.count → page < PAGES
    → Shows c it.committed u (it.units u) page now
    → fill_by now
    (λ slot. pending_of (last_that (counts_for (is_active t) page slot) (records_of (it.units u).log) None)) ≤ PAGE_LEN

-- a change that is pending in a frame takes no more than the sessions' writes of its name
abbrev pub FramesKeepPeaks : Type 0
FramesKeepPeaks =
    (places : ℕ) (c : Chart) (it : Layout) (t : Tables) (frames : Frames) (slots : SessionSlots) (state : State)
    (u page slot : ℕ) (f : PageFrame)
    → Fits places c it t frames slots state → frames u page ≡ Some f → slot < SLOTS
    → peak_of (f.pending slot) ≤ peaks_in slots (name_at u page slot)

-- a merge of a unit carries at most 12 sectors
abbrev pub MergesAreSmall : Type 0
MergesAreSmall =
    (places : ℕ) (c : Chart) (it : Layout) (t : Tables) (frames : Frames) (slots : SessionSlots) (state : State) (u : ℕ)
    → Fits places c it t frames slots state → u < it.count → carried_count (is_active t) (it.units u).log ≤ CARRIED_SECTORS

-- where the story rests on a map the pages say it
abbrev pub RestingPagesSay : Type 0
RestingPagesSay = (places : ℕ) (h : History) (it : Layout) (m : Legible) → StoryRests places m h
    → Laid places (now h) it → Says places (now h) it m

-- and two stories that rest on one map keep all pages between any layouts of theirs that have as many units
abbrev pub RestingPagesKeep : Type 0
RestingPagesKeep =
    (places : ℕ) (m : Map) (h k : History) (it new : Layout) → StoryRests places (whole m) h → StoryRests places (whole m) k
    → Laid places (now h) it → Laid places (now k) new → new.count ≡ it.count
    → KeepsPages places (now h) it (now k) new

-- where each page reads or is known not to, each frame tells the records of its page, and what each session sees of them
abbrev pub FittingFramesTell : Type 0
FittingFramesTell =
    (places : ℕ) (pages : Legibility) (h : History) (it : Layout) (t : Tables) (frames : Frames) (slots : SessionSlots) (state : State)
    (u page slot : ℕ) (f : PageFrame)
    → IsToldApart pages → FitsStory places pages h it t frames slots state → frames u page ≡ Some f → slot < SLOTS
    → TellsSlot (number_of slots) state u page slot f.values f.pending

-- so it does where the chip tells its contents and no story
abbrev pub FittingContentsTell : Type 0
FittingContentsTell =
    (places : ℕ) (pages : Legibility) (x : Contents) (it : Layout) (t : Tables) (frames : Frames) (slots : SessionSlots) (state : State)
    (u page slot : ℕ) (f : PageFrame)
    → IsToldApart pages → FitsContents places pages x it t frames slots state → frames u page ≡ Some f → slot < SLOTS
    → TellsSlot (number_of slots) state u page slot f.values f.pending

-- ---- that there is one

-- with no session open the sessions are those of a state at rest
abbrev pub EmptySlotsAreAtRest : Type 0
EmptySlotsAreAtRest = (sessions : ℕ) (m : Map) → sessions ≤ SESSIONS → AreSessionsOf (replicate sessions None) (at_rest m)

-- a chip that was just formatted, with its first tables, and as many sessions as there may be
abbrev pub FirstStoresFit : Type 0
FirstStoresFit = (places units sessions : ℕ) → LEAST_PLACES ≤ places → places ≤ MOST_PLACES → KeepsUnits places units → sessions ≤ SESSIONS
    → Fits places (formatted units) (first_layout units) (first_tables places units) (λ u page. None)
    (replicate sessions None) (at_rest empty)
