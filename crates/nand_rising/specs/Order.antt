-- Which programs are taken, and stories of which each one is.
use Rattle.std.specs.Prelude.{◌≡◌, ◌≢◌, ◌<◌, ◌≤◌, ℕ, true, ◌+◌, ◌==◌, ◌&&◌, List, [], ◌∷◌, slice_index, get_or, nat_lt, if◌then◌else◌, Option, Some, None}
use Rattle.chip_trait.specs.declared.event.Event.{Event}
use Rattle.chip_trait.specs.declared.event.Event.TheVariants.{Read, Program, Erase, Worn, Barrier, Said}
use Rattle.chip_trait.specs.Story.{Contents, Story}
use Rattle.nand_rising.specs.declared.place.Place.{Place}
use Rattle.nand_rising.specs.declared.place.Place.TheVariants.{Unread, Bare, Fresh, Headed}
use Rattle.nand_rising.specs.declared.place.Step.{Step}
use Rattle.nand_rising.specs.Slots.{checks, tagged, is_searched, header_of, slot_under, IsErasedFrom}
use Rattle.nand_rising.specs.Steps.{with_slot}

-- the slot for a header of these bytes where those from `next` on are free: that of a unit (byte 4 is 1) is 240 or one behind it
unfoldable pub header_slot : List ℕ → ℕ → ℕ
header_slot bytes next = if (slice_index bytes 4 == 1) && nat_lt next 240 then 240 else next

-- from which slot on a place is free, where it was erased since the chip was made and has no header yet
abbrev pub next_in : Place → Option ℕ
next_in Unread = None
next_in Bare = None
next_in (Fresh next) = Some next
next_in (Headed h last) = None

unfoldable pub next_of_each : List Place → ℕ → Option ℕ
next_of_each places p = next_in (get_or places p Unread)

-- of no place
abbrev pub none_next : ℕ → Option ℕ
none_next p = None

-- There is a slot for these bytes as sector s, at a place with these slots. They check. Where the place was erased since the
-- chip was made and has no header yet, s is above all sectors that it got, or it is the header, and a header may stand in
-- its slot; else the place has its header, and the slot of s is erased with all behind it.
pub record HasRoom (next : Option ℕ) (s : ℕ) (bytes : List ℕ) (y : ℕ → List ℕ) : Type 0 where
  pub checked : checks bytes ≡ true
  pub header : (n : ℕ) → next ≡ Some n → s ≡ 0 → is_searched (header_slot bytes n) ≡ true
  pub above : (n : ℕ) → next ≡ Some n → s ≢ 0 → n < s
  pub behind : next ≡ None → (s ≢ 0) × ((h : ℕ) × ((header_of y ≡ Some h) × IsErasedFrom (slot_under h s) y))

-- What may be programmed at a place: nothing; or the header, and sectors above the one of this number, which is the last that
-- it got since its erase (0 where it got none); or sectors above the one of this number alone.
pub data Standing : Type 0 where
  Shut : Standing
  Open : ℕ → Standing
  Closed : ℕ → Standing

-- sector s may follow, with these bytes
abbrev pub MayFollow : ℕ → List ℕ → Standing → Type 0
MayFollow s bytes Shut = ⊥
MayFollow s bytes (Open n) = (s ≡ 0 → is_searched (header_slot bytes n) ≡ true) × (s ≢ 0 → n < s)
MayFollow s bytes (Closed n) = n < s

-- and what may be programmed behind it
abbrev pub behind : ℕ → List ℕ → Standing → Standing
behind s bytes Shut = Shut
behind s bytes (Open n) = if s == 0 then Closed (header_slot bytes n) else Open s
behind s bytes (Closed n) = Closed s

-- what may be programmed at each place after an event
abbrev pub standing_after : Event → (ℕ → Standing) → ℕ → Standing
standing_after (Read q t) f = f
standing_after (Program q t bytes) f = λ p. if q == p then behind t bytes (f p) else f p
standing_after (Erase q) f = λ p. if q == p then Open 0 else f p
standing_after (Worn q) f = λ p. if q == p then Shut else f p
standing_after Barrier f = f
standing_after (Said piece) f = f

-- and after a story
abbrev pub standing : (ℕ → Standing) → Story → ℕ → Standing
standing start [] = start
standing start (e ∷ story) = standing_after e (standing start story)

-- Each program is of a sector that checks, and that is above those that its place got since its erase, or the header. Behind a
-- unit's header it is above 240 too. At most 64 sectors come before a header, or 240 to 252, or before a unit's 0 to 252.
abbrev pub IsRisingStory : (ℕ → Standing) → Story → Type 0
IsRisingStory start [] = Unit {0}
IsRisingStory start (Read q t ∷ story) = IsRisingStory start story
IsRisingStory start (Program q t bytes ∷ story) = (checks bytes ≡ true) × MayFollow t bytes (standing start story q) × IsRisingStory start story
IsRisingStory start (Erase q ∷ story) = IsRisingStory start story
IsRisingStory start (Worn q ∷ story) = IsRisingStory start story
IsRisingStory start (Barrier ∷ story) = IsRisingStory start story
IsRisingStory start (Said piece ∷ story) = IsRisingStory start story

-- that this may be programmed at a place is so by what is known of it and by its slots
abbrev pub StandsAs : Option ℕ → (ℕ → List ℕ) → Standing → Type 0
StandsAs next y Shut = Unit {0}
StandsAs next y (Open n) = next ≡ Some n
StandsAs next y (Closed n) = (next ≡ None) × ((h : ℕ) × ((header_of y ≡ Some h) × (h ≤ n) × IsErasedFrom (n + 1) y))

-- of each place
abbrev pub AreStanding : (ℕ → Option ℕ) → Contents → (ℕ → Standing) → Type 0
AreStanding next x f = (p : ℕ) → StandsAs (next p) (x p) (f p)

-- what stood so before an event stands so after it
abbrev pub GoesOn : Event → (ℕ → Option ℕ) → Option Contents → (ℕ → Option ℕ) → Option Contents → Type 0
GoesOn e old_next old new_next new = (x z : Contents) (f : ℕ → Standing) → old ≡ Some x → new ≡ Some z → AreStanding old_next x f → AreStanding new_next z (standing_after e f)

-- the step is to the slot that the sector has room in, and what may follow there may
pub record HasStep (next : Option ℕ) (s : ℕ) (bytes : List ℕ) (step : Step) (y : ℕ → List ℕ) : Type 0 where
  pub room : HasRoom next s bytes y
  pub stands : (st : Standing) → StandsAs next y st → StandsAs (next_in step.then) (with_slot y step.slot (tagged s bytes)) (behind s bytes st)

-- a program that goes on a rising story is never refused
abbrev pub RisingHasRoom : Type 0
RisingHasRoom = (start : ℕ → Standing) (story : Story) (p s : ℕ) (bytes : List ℕ) (next : ℕ → Option ℕ) (x : Contents)
    → IsRisingStory start (Program p s bytes ∷ story) → AreStanding next x (standing start story) → HasRoom (next p) s bytes (x p)
