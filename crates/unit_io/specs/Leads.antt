-- What a call leaves that writes to a chip.
use Rattle.std.specs.Prelude.{ℕ, ◌≡◌, ◌⊎◌, Bool, true, false, List, Result, Ok, Err, MatchResult, IfOk, is_ok, Some}
use Rattle.std.specs.Option.{option_map}
use Rattle.chip_trait.specs.declared.event.Event.{Event}
use Rattle.chip_trait.specs.declared.event.Event.TheVariants.{Program, Erase, Worn, Barrier}
use Rattle.chip_trait.specs.declared.wear.Wear.{Wear}
use Rattle.chip_trait.specs.declared.wear.Wear.TheVariants.{Done, Worn as IsWorn}
use Rattle.chip_trait.specs.Wears.{Wears}
use Rattle.chip_trait.specs.Story.{Story, held}
use Rattle.chip_trait.specs.Moment.{AtEachMoment}
use Rattle.chip_trait.specs.Told.{History, Told, Appends, Breaks, Halts, Rose, adds, adds_all}
use Rattle.ipl_base.specs.declared.fault.ChipFault.{ChipFault}
use Rattle.ipl_base.specs.declared.fault.ChipFault.TheVariants.{Stopped}
use Rattle.ipl_meaning.specs.Legible.{Legible}
use Rattle.ipl_format.specs.Sector.{Sector, sector_in}
use Rattle.ipl_meaning.specs.Chart.{Chart}
use Rattle.ipl_meaning.specs.Rests.{now, EachStands, EachStandsEither, StoryRests}
use Rattle.ipl_meaning.specs.Marks.{KeepsMarks}

-- The chip holds what this history leaves, and no write has failed. The chip need not tell this history: of one that tells
-- only what it holds, that may be taken as the start.
pub record IsSteady (h : History) (t : Told) : Type 0 where
  pub holds : t.contents ≡ Some (held h.start h.story)
  pub settled : t.settled ≡ true

-- What a call leaves that began at a history. What the chip tells grew by the added events, and its places are as many as
-- before. At each moment of them Each holds of the history then, and where the first condition holds, marks are kept: where no
-- marked sector was used before, none is then. Does holds of the events, whether the call was done or not. Done, the chip holds
-- what the history then leaves, and Then holds of the answer and that history.
pub record LeadsWhere {T E : Type 0} (Sound : Type 0) (Each : History → Type 0) (Does : Bool → Story → Type 0) (Then : T → History → Type 0) (h : History) (old : Told) (result : Result T E) (new : Told) : Type 0 where
  pub added : Story
  pub places : new.places ≡ old.places
  pub history : new.history ≡ option_map (adds_all added) old.history
  pub each_moment : AtEachMoment (λ e. Each (adds_all e h)) added
  pub marks : Sound → AtEachMoment (λ e. KeepsMarks old.places h (adds_all e h)) added
  pub does : Does (is_ok result) added
  pub ends : IfOk result (λ v. IsSteady (adds_all added h) new × Then v (adds_all added h))

-- the same, where marks are kept in any case
abbrev pub Leads : {T E : Type 0} → (History → Type 0) → (Bool → Story → Type 0) → (T → History → Type 0) → History → Told → Result T E → Told → Type 0
Leads Each Does Then h old result new = LeadsWhere (Unit {0}) Each Does Then h old result new

-- The story rests on the map, and F holds of the answer, of the chart at the history before and of the chart then.
abbrev pub RestsWith : {T : Type 0} → ℕ → Legible → (T → Chart → Chart → Type 0) → History → T → History → Type 0
RestsWith places m F h v then = StoryRests places m then × F v (now h) (now then)

-- What a call leaves that keeps the map. Whatever a power cut leaves at any moment of it stands for the map; and done, the
-- story rests on it, with F of the answer and of the charts before and after.
abbrev pub KeepsMap : {T E : Type 0} → ℕ → Legible → (Bool → Story → Type 0) → (T → Chart → Chart → Type 0)
    → History → Told → Result T E → Told → Type 0
KeepsMap places m Does F h old result new = Leads (EachStands places m) Does (RestsWith places m F h) h old result new

-- What a call leaves that switches the map. Whatever a power cut leaves at any moment of it stands for the old map or for the
-- new one; and done, the story rests on the new one, with F of the answer and of the charts before and after.
abbrev pub SwitchesMap : {T E : Type 0} → ℕ → Legible → Legible → (Bool → Story → Type 0) → (T → Chart → Chart → Type 0)
    → History → Told → Result T E → Told → Type 0
SwitchesMap places m n Does F h old result new =
    Leads (EachStandsEither places m n) Does (RestsWith places n F h) h old result new

abbrev pub SwitchesMapWhere : {T E : Type 0} → Type 0 → ℕ → Legible → Legible → (Bool → Story → Type 0) → (T → Chart → Chart → Type 0)
    → History → Told → Result T E → Told → Type 0
SwitchesMapWhere Sound places m n Does F h old result new =
    LeadsWhere Sound (EachStandsEither places m n) Does (RestsWith places n F h) h old result new

-- the history is that of before with the program of this sector, at this spot, and a barrier
pub record IsSectorAdded (p s : ℕ) (sector : Sector) (h k : History) : Type 0 where
  pub bytes : List ℕ
  pub spelled : sector_in bytes ≡ Some sector
  pub is : k ≡ adds Barrier (adds (Program p s bytes) h)

-- the story rests on the map, with that sector added
pub record RestsAdded (places : ℕ) (m : Legible) (p s : ℕ) (sector : Sector) (h k : History) : Type 0 where
  pub rests : StoryRests places m k
  pub added : IsSectorAdded p s sector h k

-- a program or an erase was done, or it broke
abbrev pub Did : Event → Result (Unit {0}) ChipFault → Told → Told → Type 0
Did e result old new = MatchResult result (λ _. Appends e old new) (λ _. Breaks e old new)

-- an erase was answered, or it broke
abbrev pub Wore : ℕ → Result Wear ChipFault → Told → Told → Type 0
Wore p result old new = MatchResult result (λ wear. Wears wear p old new) (λ _. Breaks (Erase p) old new)

-- the place was erased
abbrev pub is_done : Result Wear ChipFault → Bool
is_done (Ok Done) = true
is_done (Ok IsWorn) = false
is_done (Err fault) = false

-- a barrier was passed, or it wasn't
abbrev pub Waited : Result (Unit {0}) ChipFault → Told → Told → Type 0
Waited result old new = MatchResult result (λ _. Appends Barrier old new) (λ _. Halts old new)

-- The place was erased, and that was made sure of; or it was found worn, nothing else was done, and the
-- count of such erases rose; or one of the two calls broke.
abbrev pub Erases : ℕ → Told → Result Wear ChipFault → Told → Type 0
Erases p old (Ok Done) new = (mid : Told) × Appends (Erase p) old mid × Appends Barrier mid new
Erases p old (Ok IsWorn) new = Appends (Worn p) old new × Rose old.worn_erases new.worn_erases
Erases p old (Err fault) new =
    Breaks (Erase p) old new ⊎ ((mid : Told) × Appends (Erase p) old mid × Halts mid new)

-- a write failed, and its count rose
abbrev pub IsStopped : ChipFault → Told → Told → Type 0
IsStopped fault old new = (fault ≡ Stopped) × Rose old.write_faults new.write_faults
