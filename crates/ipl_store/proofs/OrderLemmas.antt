-- Memory in order: what of it decides that it is, and calls in memory that keep it so.
use Rattle.std.proofs.Common.{◌≡◌, ℕ, ◌<◌, length, Option, Some, None, Ok, Contains, ◌⊎◌, refl, sym, ◌∙◌, ap, subst}
use Rattle.chip_trait.specs.Told.{Told}
use Rattle.ipl_base.specs.declared.fault.ChipFault.{ChipFault}
use Rattle.ipl_model.specs.State.{State}
use Rattle.ipl_meaning.specs.Tables.{Places, StatusTable, Tables, IsFree, overflow_places, IsCountedClean}
use Rattle.record_locks.specs.Held.{SessionSlots, numbers_in}
use Rattle.selective_merge.specs.Known.{KnowsPlaces}
use Rattle.buffer_pool.specs.Holding.{KeepsPins}
use Rattle.buffer_pool.proofs.HoldingLemmas.{rest_stays}
use Rattle.store_laws.specs.Frames.{PageFrame, Frames, ChangesSo, EachFrameChanges}
use Rattle.store_laws.specs.Advances.{Memory, memory_of, LeadsTo}
use Rattle.page_frames.specs.declared.pages.Pages.{Pages}
use Rattle.page_frames.specs.Pages.{tables_in, frames_in, ArePagesReady}
use Rattle.ipl_store.specs.declared.transactions.Transactions.{Transactions}
use Rattle.ipl_store.specs.Turns.{memory_in, TurnsInMemory}

-- ---- tables

-- the same places are of units, of overflow and of the status
pub record SamePlaces (t after : Tables) : Type 0 where
  pub places : after.places ≡ t.places
  pub overflow : after.overflow ≡ t.overflow
  pub status : after.status.place ≡ t.status.place

-- other tables that have the places of these
abbrev with_rest_of : Tables → Tables → Tables
with_rest_of t after = record {
  places = t.places;
  overflow = t.overflow;
  status = after.status;
  next = after.next;
  active = after.active;
}

rest_known : (places : ℕ) (t after : Tables) → after.status.place ≡ t.status.place
    → KnowsPlaces places t → KnowsPlaces places (with_rest_of t after)
rest_known places t after same known = record {
  suits = record {
    all = known.suits.all;
    units = known.suits.units;
    overflow = known.suits.overflow;
    sized = known.suits.sized;
  };
  none_lost = subst (λ (s : ℕ). (p : ℕ) → p < places → (IsFree t.places p → ⊥)
      → Contains t.places.current p ⊎ (p ≡ s) ⊎ Contains (overflow_places t) p
      ⊎ Contains t.places.retired p) (sym same) known.none_lost;
  used = subst (λ (s : ℕ). (p : ℕ)
      → Contains t.places.current p ⊎ (p ≡ s) ⊎ Contains (overflow_places t) p
      → IsFree t.places p → ⊥) (sym same) known.used;
  retired_apart = subst (λ (s : ℕ). (p : ℕ) → Contains t.places.retired p
      → (Contains t.places.current p ⊎ (p ≡ s) ⊎ Contains (overflow_places t) p → ⊥)
      × (IsFree t.places p → ⊥)) (sym same) known.retired_apart;
  homes_apart = known.homes_apart;
  overflows_apart = known.overflows_apart;
  no_home = known.no_home;
  status_apart = subst (λ (s : ℕ). (Contains t.places.current s → ⊥)
      × (Contains (overflow_places t) s → ⊥)) (sym same) known.status_apart;
  two = known.two;
  status_placed = subst (λ (s : ℕ). s < places) (sym same) known.status_placed;
}

pub places_known : (places : ℕ) (t after : Tables) → SamePlaces t after → KnowsPlaces places t
    → KnowsPlaces places after
places_known places t after same known =
    subst (KnowsPlaces places)
    (λ i. record {
      places = sym same.places i;
      overflow = sym same.overflow i;
      status = after.status;
      next = after.next;
      active = after.active;
    }) (rest_known places t after same.status known)

-- ---- frames

had_frame : (R : PageFrame → PageFrame → Type 0) (a b : Option PageFrame) (f : PageFrame) → ChangesSo R a b
    → b ≡ Some f → (g : PageFrame) × (a ≡ Some g)
had_frame R None None f so is = absurd (cc is)
had_frame R None (Some b) f so is = absurd so
had_frame R (Some a) b f so is = (a, refl)

-- pages in the frames that they were in, or some of them
abbrev pub HadFrames : Pages → Pages → Type 0
HadFrames old new = (u page : ℕ) (f : PageFrame) → frames_in new u page ≡ Some f
    → (g : PageFrame) × (frames_in old u page ≡ Some g)

pub changed_had : (R : PageFrame → PageFrame → Type 0) (old new : Pages)
    → EachFrameChanges R (frames_in old) (frames_in new) → HadFrames old new
changed_had R old new each u page f is =
    had_frame R (frames_in old u page) (frames_in new u page) f (each u page) is

pub same_had : (old new : Pages) → frames_in new ≡ frames_in old → HadFrames old new
same_had old new same u page f is = (f, ap (λ (o : Frames). o u page) (sym same) ∙ is)

pub still_ready : (places : ℕ) (old new : Pages) → SamePlaces (tables_in old) (tables_in new)
    → KeepsPins old.pool new.pool → HadFrames old new → ArePagesReady places old → ArePagesReady places new
still_ready places old new same pins had ready = record {
  known = places_known places (tables_in old) (tables_in new) same ready.known;
  within = λ u page f is.
      let was = had u page f is in
      subst (λ (d : Places). u < length d.current) (sym same.places) (ready.within u page was.0 was.1);
  rest = rest_stays old.pool new.pool pins ready.rest;
}

-- ---- memory, part by part

pub record IsMemory (t : Tables) (frames : Frames) (slots : SessionSlots) (it : Transactions)
    : Type 0 where
  pub places : it.pages.parts.directory ≡ t.places
  pub overflow : it.pages.parts.overflow ≡ t.overflow
  pub status : it.pages.parts.status ≡ t.status
  pub next : it.pages.parts.counter ≡ t.next
  pub active : it.pages.parts.active ≡ t.active
  pub frames_are : frames_in it.pages ≡ frames
  pub slots_are : it.sessions ≡ slots

pub memory_is : (t : Tables) (frames : Frames) (slots : SessionSlots) (it : Transactions)
    → IsMemory t frames slots it → memory_of t frames slots ≡ memory_in it
memory_is t frames slots it is = λ i. record {
  tables = record {
    places = sym is.places i;
    overflow = sym is.overflow i;
    status = sym is.status i;
    next = sym is.next i;
    active = sym is.active i;
  };
  frames = sym is.frames_are i;
  slots = sym is.slots_are i;
}

-- a call in memory that makes these of it
pub turned_in_memory : (next : State → State) (old new : Transactions) (t : Tables)
    (frames : Frames) (slots : SessionSlots) → IsMemory t frames slots new
    → length slots ≡ length old.sessions → SamePlaces (tables_in old.pages) t
    → t.status.most ≡ old.pages.parts.status.most
    → ((p s : ℕ) → IsCountedClean t p s → IsCountedClean (tables_in old.pages) p s)
    → KeepsPins old.pages.pool new.pages.pool
    → HadFrames old.pages new.pages
    → (old.pages.parts.active ≡ numbers_in old.sessions → t.active ≡ numbers_in slots)
    → ((told : Told) → LeadsTo {T = Unit {0}} {E = ChipFault} next (memory_in old) told (Ok tt)
    (memory_of t frames slots) told)
    → TurnsInMemory next old new
turned_in_memory next old new t frames slots is count same roomy clean pins had active leads = record {
  leads = λ told. subst (λ (m : Memory). LeadsTo {T = Unit {0}} {E = ChipFault} next
      (memory_in old) told (Ok tt) m told) (memory_is t frames slots new is) (leads told);
  fewer = λ p s counted. clean p s (subst (λ (m : Memory). IsCountedClean m.tables p s)
      (sym (memory_is t frames slots new is)) counted);
  sessions = ap (λ (v : SessionSlots). length v) is.slots_are ∙ count;
  numbers = ap (λ (s : StatusTable). s.most) is.status ∙ roomy;
  directory = is.places ∙ same.places;
  status = ap (λ (s : StatusTable). s.place) is.status ∙ same.status;
  order = λ places order. record {
    ready = still_ready places old.pages new.pages (record {
      places = is.places ∙ same.places;
      overflow = is.overflow ∙ same.overflow;
      status = ap (λ (s : StatusTable). s.place) is.status ∙ same.status;
    }) pins had order.ready;
    active = is.active ∙ active order.active ∙ ap numbers_in (sym is.slots_are);
  };
  pins = pins;
}
