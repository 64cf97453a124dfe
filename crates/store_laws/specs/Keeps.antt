-- How a store keeps a state on a chip, as a run over a script asks for it.
use Rattle.std.specs.Prelude.{ℕ, ◌≡◌, ◌≢◌, ◌<◌, ◌≤◌, ◌+◌, ◌*◌, Bool, true, false, [], ◌∷◌, ◌++◌, List, Option, Some, None, refl, Result, Ok, Err, IfOk, IfErr, length}
use Rattle.std.specs.FinMap.{get}
use Rattle.std.proofs.Common.{sym, ◌∙◌, ap, subst, arith}
use Rattle.ipl_base.specs.declared.limits.TheConstants.{UNIT_NAMES}
use Rattle.chip_trait.specs.Chart.{says}
use Rattle.chip_trait.specs.Moment.{Leaves}
use Rattle.chip_trait.specs.declared.event.Event.TheVariants.{Said}
use Rattle.chip_trait.specs.Story.{Story, Contents, held}
use Rattle.chip_trait.specs.Told.{History, Told, Rose, adds_all}
use Rattle.ipl_base.specs.declared.fault.ChipFault.{ChipFault}
use Rattle.ipl_base.specs.declared.fault.ChipFault.TheVariants.{ReadFault, Stopped, Damaged, Malformed, WornOut}
use Rattle.ipl_base.specs.declared.fault.ImageFault.{ImageFault}
use Rattle.ipl_base.specs.declared.fault.ImageFault.TheVariants as image
use Rattle.ipl_base.specs.Places.{home_of, KeepsUnits, spares_on}
use Rattle.ipl_model.specs.State.{Map, State, Limits, at_rest, see}
use Rattle.ipl_model.specs.declared.command.Command.{Command}
use Rattle.ipl_model.specs.declared.reply.Reply.{Reply}
use Rattle.ipl_model.specs.Step.{step}
use Rattle.ipl_format.specs.Sector.{sector_in}
use Rattle.record_locks.specs.Held.{SessionSlots, number_of}
use Rattle.ipl_meaning.specs.Chart.{chart_of}
use Rattle.ipl_meaning.specs.Layout.{Layout, Laid}
use Rattle.ipl_meaning.specs.Marks.{AreUnused, MarksAreUnused}
use Rattle.ipl_meaning.specs.Legible.{Legibility, Legible, of, every, IsToldApart}
use Rattle.ipl_meaning.specs.Stands.{Says, StandsIn}
use Rattle.ipl_meaning.specs.Rests.{EachStandsIn, StoryRests}
use Rattle.ipl_meaning.specs.Tables.{Tables, IsCountedClean}
use Rattle.ipl_meaning.specs.Mirrors.{Mirrors, NoneIsLost}
use Rattle.ipl_meaning.specs.Agrees.{IsTidy}
use Rattle.ipl_meaning.proofs.RotLemmas.{every_is_told_apart}
use Rattle.ipl_meaning.proofs.StoryLemmas.{held_stands, rests_in_units, says_keep}
use Rattle.unit_io.specs.Leads.{IsSteady}
use Rattle.unit_io.specs.Reads.{OfContents}
use Rattle.unit_io.specs.StepLaws.{Preserves}
use Rattle.page_ops.specs.Pending.{seen_by}
use Rattle.store_laws.specs.Frames.{PageFrame, Frames}
use Rattle.store_laws.specs.Fits.{AreSessionsOf}
use Rattle.store_trait.specs.declared.fault.Fault.{Fault}
use Rattle.store_trait.specs.declared.fault.Fault.TheVariants.{Chip, Image, Spent}
use Rattle.store_trait.specs.Onward.{Still, Further, sayings}
use Rattle.store_trait.specs.Keeping.{Keeping, LAST_NUMBER, WORK_DRAWS, LOOK_UP_DRAWS, Excuses, Works, LooksUp}
use Rattle.store_laws.specs.Advances.{Memory, memory_of, MemoryFits, MemoryFitsStory, KeepsState, LeadsTo}

-- ---- what is known of pages

-- What is known of a chip's pages: of whose names it is said which records they have, and which don't read well. Each page
-- is of the one kind or of the other.
pub record KnownPages : Type 0 where
  pub pages : Legibility
  pub apart : IsToldApart pages

-- every page reads
abbrev pub all_pages : KnownPages
all_pages = record { pages = every; apart = every_is_told_apart }

-- ---- what a store keeps

-- A store, as contracts see it: what it has in memory, the number of units, and whether it is down.
-- One that is down does nothing until its chip is opened again.
pub record View : Type 0 where
  pub memory : Memory
  pub units : ℕ
  pub down : Bool

-- so many sessions, as many units as the chip has, and the names of all of them
abbrev pub limits_of : ℕ → ℕ → Limits
limits_of sessions units = record { sessions = sessions; names = UNIT_NAMES * units; units = units }

-- those of a store, which has as many sessions as slots for them
abbrev pub limits_in : View → Limits
limits_in store = limits_of (length store.memory.slots) store.units

-- the memory fits what the chip of so many places holds, which is laid out in as many units, and these pages
-- say the map
pub record ShowsState (places : ℕ) (pages : Legibility) (store : View) (state : State) (x : Contents) : Type 0 where
  pub layout : Layout
  pub count : layout.count ≡ store.units
  pub fits : MemoryFits places (chart_of x) layout store.memory state
  pub says : Says places (chart_of x) layout (of pages state.map)

-- What a store keeps that isn't down. The sessions are the state's; what the chip holds shows the
-- state; and what is counted as clean is clean after the story.
pub record IsUp (places : ℕ) (pages : Legibility) (store : View) (h : History) (state : State) : Type 0 where
  pub sessions : AreSessionsOf store.memory.slots state
  pub shows : ShowsState places pages store state (held h.start h.story)
  pub tidy : IsTidy h store.memory.tables

-- The chip holds what the history leaves, and no write has failed; the story rests on the state's
-- records of these pages, in as many units as the store has; and a store that isn't down keeps the rest.
pub record KeepsStore (places : ℕ) (pages : Legibility) (limits : Limits) (store : View) (t : Told) (h : History)
    (state : State) : Type 0 where
  pub limits_are : limits ≡ limits_in store
  pub steady : IsSteady h t
  pub rests : StoryRests places (of pages state.map) h
  pub many : rests.each.0 ≡ store.units
  pub up : store.down ≡ false → IsUp places pages store h state

-- the store of a chip that was opened: no page is in a frame
abbrev pub opened_with : ℕ → Tables → SessionSlots → View
opened_with units t slots =
    record { memory = memory_of t (λ u page. None) slots; units = units; down = false }

-- ---- causes

-- So many places are worn, of so many: one more than are spare beside as many units as may be kept.
pub record IsWornCount (places n : ℕ) : Type 0 where
  pub units : ℕ
  pub keeps : KeepsUnits places units
  pub one_more : n ≡ 1 + spares_on places units

-- when a chip of so many places fails so
abbrev pub IsChipFaultCause : ℕ → ChipFault → Told → Told → Type 0
IsChipFaultCause places ReadFault old new = Rose old.read_faults new.read_faults
IsChipFaultCause places Stopped old new = Rose old.write_faults new.write_faults
IsChipFaultCause places (Damaged p s stored computed) old new = stored ≢ computed
IsChipFaultCause places (Malformed p s) old new = Unit {0}
IsChipFaultCause places (WornOut n) old new = IsWornCount places n × Rose old.worn_erases new.worn_erases

-- when an image isn't opened again
abbrev pub ImageCause : ℕ → ImageFault → Told → Told → Type 0
ImageCause places image.Geometry old new = Unit {0}
ImageCause places image.NotFormatted old new = Unit {0}
ImageCause places (image.Missing u) old new = Unit {0}
ImageCause places (image.Chip e) old new = IsChipFaultCause places e old new
ImageCause places image.Spent old new = Unit {0}
ImageCause places (image.NoSpare n) old new = Unit {0}
ImageCause places image.TooManyNumbers old new = Unit {0}

-- when each fault comes
abbrev pub StoreCause : ℕ → Fault → Told → Told → Type 0
StoreCause places (Chip e) old new = IsChipFaultCause places e old new
StoreCause places (Image e) old new = ImageCause places e old new
StoreCause places Spent old new = Unit {0}

-- a fault that says how many places are worn says one more than are spare
abbrev pub ChipTells : ℕ → ChipFault → Type 0
ChipTells spares ReadFault = Unit {0}
ChipTells spares Stopped = Unit {0}
ChipTells spares (Damaged p s stored computed) = Unit {0}
ChipTells spares (Malformed p s) = Unit {0}
ChipTells spares (WornOut n) = n ≡ 1 + spares

-- and what stands for records, whichever pages read well, is formatted, misses no unit and has as many places as it needs,
-- and its numbers have room in a store that kept them
abbrev pub ImageTells : ℕ → ImageFault → Type 0
ImageTells spares image.Geometry = ⊥
ImageTells spares image.NotFormatted = ⊥
ImageTells spares (image.Missing u) = ⊥
ImageTells spares (image.Chip e) = ChipTells spares e
ImageTells spares image.Spent = Unit {0}
ImageTells spares (image.NoSpare n) = ⊥
ImageTells spares image.TooManyNumbers = ⊥

abbrev pub FaultTells : ℕ → Fault → Type 0
FaultTells spares (Chip e) = ChipTells spares e
FaultTells spares (Image e) = ImageTells spares e
FaultTells spares Spent = Unit {0}

rose_longer : (first old new last : ℕ) → first ≤ old → Rose old new → new ≤ last → Rose first last
rose_longer first old new last before rose after = omega (arith, before, rose, after)

chip_longer : (places : ℕ) (e : ChipFault) (first old new last : Told) → Further first old
    → IsChipFaultCause places e old new → Further new last → IsChipFaultCause places e first last
chip_longer places ReadFault first old new last before cause after =
    rose_longer first.read_faults old.read_faults new.read_faults last.read_faults before.reads
    cause after.reads
chip_longer places Stopped first old new last before cause after =
    rose_longer first.write_faults old.write_faults new.write_faults last.write_faults
    before.writes cause after.writes
chip_longer places (Damaged p s stored computed) first old new last before cause after = cause
chip_longer places (Malformed p s) first old new last before cause after = tt
chip_longer places (WornOut n) first old new last before cause after = (
  cause.0,
  rose_longer first.worn_erases old.worn_erases new.worn_erases last.worn_erases before.worn
      cause.1 after.worn,
)

image_longer : (places : ℕ) (e : ImageFault) (first old new last : Told) → Further first old
    → ImageCause places e old new → Further new last → ImageCause places e first last
image_longer places image.Geometry first old new last before cause after = tt
image_longer places image.NotFormatted first old new last before cause after = tt
image_longer places (image.Missing u) first old new last before cause after = tt
image_longer places (image.Chip e) first old new last before cause after =
    chip_longer places e first old new last before cause after
image_longer places image.Spent first old new last before cause after = tt
image_longer places (image.NoSpare n) first old new last before cause after = tt
image_longer places image.TooManyNumbers first old new last before cause after = tt

-- a cause is one for a longer time too
pub cause_longer : (places : ℕ) (fault : Fault) (first old new last : Told) → Further first old
    → StoreCause places fault old new → Further new last → StoreCause places fault first last
cause_longer places (Chip e) first old new last before cause after =
    chip_longer places e first old new last before cause after
cause_longer places (Image e) first old new last before cause after =
    image_longer places e first old new last before cause after
cause_longer places Spent first old new last before cause after = tt

-- ---- what is said and what is read of a script

-- a story that rests goes on resting, whatever is said
said_rests : (places : ℕ) (m : Legible) (pieces : List (List ℕ)) (h : History) → StoryRests places m h
    → StoryRests places m (adds_all (sayings pieces) h)
said_rests places m [] h rests = rests
said_rests places m (piece ∷ pieces) h rests =
    says_keep places m (adds_all (sayings pieces) h) piece (said_rests places m pieces h rests)

-- and what was clean is clean
said_tidy : (t : Tables) (pieces : List (List ℕ)) (h : History) → IsTidy h t
    → IsTidy (adds_all (sayings pieces) h) t
said_tidy t [] h tidy = tidy
said_tidy t (piece ∷ pieces) h tidy = said_tidy t pieces h tidy

-- and what the chip holds is what it held
said_held : (start : Contents) (pieces : List (List ℕ)) (story : Story)
    → held start (sayings pieces ++ story) ≡ held start story
said_held start [] story = refl
said_held start (piece ∷ pieces) story = said_held start pieces story

-- in as many units
said_many : (places : ℕ) (m : Legible) (pieces : List (List ℕ)) (h : History)
    → (rests : StoryRests places m h)
    → (said_rests places m pieces h rests).each.0 ≡ rests.each.0
said_many places m pieces h rests =
    let stands = held_stands places m h rests.each in
    rests_in_units places m (adds_all (sayings pieces) h) stands.layout
    (said_rests places m pieces h rests)
    (subst (λ (x : Contents). Laid places (chart_of x) stands.layout)
    (sym (said_held h.start pieces h.story)) stands.laid)
    ∙ sym (rests_in_units places m h stands.layout rests stands.laid)

pub keeps_still : (places : ℕ) (pages : Legibility) (limits : Limits) (store : View) (old new : Told) (h : History)
    (state : State) → (still : Still old new) → KeepsStore places pages limits store old h state
    → KeepsStore places pages limits store new (adds_all (sayings still.pieces) h) state
keeps_still places pages limits store old new h state still keeps = record {
  limits_are = keeps.limits_are;
  steady = record {
    holds = still.contents ∙ keeps.steady.holds
        ∙ ap Some (sym (said_held h.start still.pieces h.story));
    settled = still.settled ∙ keeps.steady.settled;
  };
  rests = said_rests places (of pages state.map) still.pieces h keeps.rests;
  many = said_many places (of pages state.map) still.pieces h keeps.rests ∙ keeps.many;
  up = λ runs.
      let was = keeps.up runs in record {
        sessions = was.sessions;
        shows = subst (ShowsState places pages store state) (sym (said_held h.start still.pieces h.story)) was.shows;
        tidy = said_tidy store.memory.tables still.pieces h was.tidy;
      };
}

pub keeps_each : (places : ℕ) (pages : Legibility) (limits : Limits) (store : View) (t : Told) (h : History) (state : State)
    → KeepsStore places pages limits store t h state
    → Leaves (says sector_in) (λ x. StandsIn places limits.units (chart_of x) (of pages state.map)) h []
keeps_each places pages limits store t h state keeps =
    subst (λ (units : ℕ). EachStandsIn places units (of pages state.map) h)
    (keeps.many ∙ sym (ap (λ (l : Limits). l.units) keeps.limits_are)) keeps.rests.each.1

-- nothing that is marked was used, in whatever a power cut leaves of this history, but by chance; nor what the store counts
-- as clean
abbrev pub UsedNothing : ℕ → View → History → Type 0
UsedNothing places store h = MarksAreUnused places h × AreUnused (IsCountedClean store.memory.tables) h.story

-- what is said uses nothing
pub said_unused : (places : ℕ) (store : View) (h : History) (piece : List ℕ) → UsedNothing places store h
    → UsedNothing places store (adds_all (Said piece ∷ []) h)
said_unused places store h piece unused = (
  λ x image p s marked. unused.0 x (record { image = image.image; chance = image.chance }) p s marked,
  λ p s counted. unused.1 p s counted,
)

-- ---- the seam

-- Such a store over a chip of so many places, as a run knows it that is told of the records of these pages. It says nothing of worn places, of
-- what was erased and of pages at fault: a store's own calls do.
abbrev pub store_keeping : ℕ → Legibility → Keeping View
store_keeping places pages = record {
  checks = says sector_in;
  whole = pages ≡ every;
  stands = λ limits x m. StandsIn places limits.units (chart_of x) (of pages m);
  holds = KeepsStore places pages;
  suits = λ store. store.down ≡ false;
  clean = λ store p s. IsCountedClean store.memory.tables p s;
  marked = MarksAreUnused places;
  unused = UsedNothing places;
  counter = λ store. store.memory.tables.next;
  does = λ e. Unit {0};
  cause = StoreCause places;
  knows = λ entry store t. Unit {0};
  wears = λ entry fault t. Unit {0};
  recalls = λ entry store t. Unit {0};
  tells = λ limits fault. FaultTells (spares_on places limits.units) fault;
  met = λ told h fault. Unit {0};
  each = keeps_each places pages;
  still = keeps_still places pages;
  known_still = λ entry store old new still known. tt;
  unused_marked = λ store h unused. unused.0;
  unused_said = said_unused places;
  recalled_still = λ entry store old new still known. tt;
  caused = cause_longer places;
}

-- a store whose chip was opened keeps the state at rest of the map that the chip stands for
abbrev pub OpenedStoresKeep : Type 0
OpenedStoresKeep = (places units : ℕ) (pages : Legibility) (t : Tables) (slots : SessionSlots) (told : Told) (h : History) (m : Map)
    → NoneIsLost places t → t.active ≡ [] → ((s : ℕ) → number_of slots s ≡ None)
    → AreSessionsOf slots (at_rest m)
    → OfContents told (λ x. (it : Layout) × (it.count ≡ units) × Mirrors places (chart_of x) it t
    × Says places (chart_of x) it (of pages m))
    → IsSteady h told → StoryRests places (of pages m) h → IsTidy h t
    → KeepsStore places pages (limits_of (length slots) units) (opened_with units t slots) told h (at_rest m)

-- A fault of a call has its excuse, where the store keeps a state, and says no other number of worn
-- places than one more than are spare.
abbrev pub IsExcused : Legibility → ℕ → View → Told → Told → Fault → Type 0
IsExcused pages n store old new fault = (h : History) (state : State)
    → KeepsStore old.places pages (limits_in store) store old h state
    → Excuses (store_keeping old.places pages) n store old new fault
    × FaultTells (spares_on old.places store.units) fault

-- Few numbers were drawn, where the store keeps a state: a chip that tells nothing may have any when
-- it is opened again.
abbrev pub DrawsFew : ℕ → View → Told → View → Type 0
DrawsFew n before old after = (pages : Legibility) (h : History) (state : State)
    → KeepsStore old.places pages (limits_in before) before old h state
    → after.memory.tables.next ≤ before.memory.tables.next + n

-- the model's step is to this state, with this reply; where the call failed, to its map at least
abbrev pub StepsAs : Limits → State → Command → State → Result Reply Fault → Type 0
StepsAs limits state c next (Ok reply) = step limits state c ≡ (next, reply ∷ [])
StepsAs limits state c next (Err fault) = (step limits state c).0.map ≡ next.map

-- What a call leaves that leads to a next state, which is the model's, as is the answer, where the
-- store keeps a state, is the work of the command, where few numbers were drawn and a fault has its
-- excuse. The limits stay.
abbrev pub LeadsAreWork : Type 0
LeadsAreWork = (pages : Legibility) (c : Command) (next : State → State) (before after : View)
    (result : Result Reply Fault) (old new : Told)
    → limits_in after ≡ limits_in before
    → before.down ≡ false → LeadsTo next before.memory old result after.memory new
    → ((h : History) (state : State)
    → KeepsStore old.places pages (limits_in before) before old h state
    → StepsAs (limits_in before) state c (next state) result)
    → DrawsFew WORK_DRAWS before old after
    → IfErr result (IsExcused pages WORK_DRAWS before old new)
    → Works (store_keeping old.places pages) c before old result after new

-- what the frame of its page tells of a name: the record, and what each session sees
pub record TellsName (slots : SessionSlots) (state : State) (n : ℕ) (f : PageFrame) : Type 0 where
  pub committed : f.values (home_of n).slot ≡ get state.map n
  pub seen : (s tid : ℕ) → number_of slots s ≡ Some tid
      → seen_by tid (f.values (home_of n).slot) (f.pending (home_of n).slot) ≡ see state s n

-- after a call that keeps each state and was done, where each page reads or is known not to
abbrev pub KeptFramesTell : Type 0
KeptFramesTell = (pages : Legibility) (n : ℕ) (store : View) (t : Tables) (later : Frames) (f : PageFrame) (h : History)
    (state : State) (old new : Told) → IsToldApart pages → store.down ≡ false
    → KeepsState {T = Unit {0}} {E = ChipFault} store.memory.tables store.memory.frames old (Ok tt)
    t later new
    → later (home_of n).unit (home_of n).page ≡ Some f
    → KeepsStore old.places pages (limits_in store) store old h state
    → TellsName store.memory.slots state n f

-- What a call leaves that keeps each state, and answers a record of its map, looks the record up,
-- likewise.
abbrev pub KeepersLookUp : Type 0
KeepersLookUp = (pages : Legibility) (n : ℕ) (before after : View) (result : Result (Option (List ℕ)) Fault)
    (old new : Told)
    → after.units ≡ before.units
    → before.down ≡ false → after.memory.slots ≡ before.memory.slots
    → KeepsState before.memory.tables before.memory.frames old result after.memory.tables
    after.memory.frames new
    → IfOk result (λ found. (h : History) (state : State)
    → KeepsStore old.places pages (limits_in before) before old h state
    → n < UNIT_NAMES * before.units → found ≡ get state.map n)
    → after.memory.tables.next ≤ before.memory.tables.next + LOOK_UP_DRAWS
    → IfErr result (IsExcused pages LOOK_UP_DRAWS before old new)
    → LooksUp (store_keeping old.places pages) n before old result after new

-- ---- faults

-- a fault before anything was done: the numbers are used up
abbrev pub IdleFaultsAreWork : Type 0
IdleFaultsAreWork = (pages : Legibility) (c : Command) (store : View) (told : Told)
    → LAST_NUMBER < store.memory.tables.next → Works (store_keeping told.places pages) c store told (Err Spent) store told

abbrev pub IdleFaultsLookUp : Type 0
IdleFaultsLookUp = (pages : Legibility) (n : ℕ) (store : View) (told : Told)
    → LAST_NUMBER < store.memory.tables.next
    → LooksUp (store_keeping told.places pages) n store told (Err Spent) store told

-- a fault that leaves the store down, where the call kept the map on which the story rested, drew
-- few numbers and has its excuse
abbrev pub FaultsThatLeaveDown : Type 0
FaultsThatLeaveDown = (pages : Legibility) (c : Command) (before after : View) (fault : Fault) (old new : Told)
    → limits_in after ≡ limits_in before
    → before.down ≡ false → after.down ≡ true
    → ((h : History) (it : Layout) (state : State) → IsSteady h old
    → MemoryFitsStory old.places pages h it before.memory state
    → Preserves {T = Reply} old.places (of pages state.map) before.memory.tables after.memory.tables h
    (Err fault) old new)
    → after.memory.tables.next ≤ before.memory.tables.next + WORK_DRAWS
    → IsExcused pages WORK_DRAWS before old new fault
    → Works (store_keeping old.places pages) c before old (Err fault) after new
