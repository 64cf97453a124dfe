-- What a call asks of a chip that reads, and what it leaves.
use Rattle.std.specs.Prelude.{ℕ, zero, suc, ◌≡◌, ◌≤◌, [], ◌∷◌, Result, MatchResult, Some}
use Rattle.std.specs.Option.{option_map}
use Rattle.chip_trait.specs.declared.event.Event.{Event}
use Rattle.chip_trait.specs.declared.event.Event.TheVariants.{Read, Program, Erase, Worn, Barrier, Said}
use Rattle.chip_trait.specs.Story.{Story, Contents}
use Rattle.chip_trait.specs.Told.{Told, Appends, Misses, Rose, adds_all}
use Rattle.ipl_base.specs.declared.fault.ChipFault.{ChipFault}
use Rattle.ipl_base.specs.declared.fault.ChipFault.TheVariants.{ReadFault}
use Rattle.ipl_format.specs.Place.{base_sector_of}
use Rattle.unit_io.specs.Spots.{IsPieceSpot}

-- where the chip tells what it holds, this is so of it
abbrev pub OfContents : Told → (Contents → Type 0) → Type 0
OfContents t P = (x : Contents) → t.contents ≡ Some x → P x

-- one sector was read, or the read failed
abbrev pub Asked : {T : Type 0} → Event → Result T ChipFault → Told → Told → Type 0
Asked e result old new = MatchResult result (λ _. Appends e old new) (λ _. Misses e old new)

-- a read failed, and its count rose
abbrev pub IsReadFault : ChipFault → Told → Told → Type 0
IsReadFault fault old new = (fault ≡ ReadFault) × Rose old.read_faults new.read_faults

-- these reads were added, and nothing else has changed
pub record Reads (added : Story) (old new : Told) : Type 0 where
  pub places : new.places ≡ old.places
  pub settled : new.settled ≡ old.settled
  pub history : new.history ≡ option_map (adds_all added) old.history
  pub contents : new.contents ≡ old.contents

-- the reads of the first n base sectors of a page at a place, in their order
abbrev pub page_reads : ℕ → ℕ → ℕ → Story
page_reads place page zero = []
page_reads place page (suc n) = Read place (base_sector_of page n) ∷ page_reads place page n

-- the page's base sectors were read, or some of the first ones
abbrev pub PageAsked : {T : Type 0} → ℕ → ℕ → ℕ → Result T ChipFault → Told → Told → Type 0
PageAsked place page pieces result old new = MatchResult result
    (λ _. Reads (page_reads place page pieces) old new)
    (λ _. (n : ℕ) × (n ≤ pieces) × Reads (page_reads place page n) old new)

-- one of the first n base sectors of a page was read
abbrev pub IsPageRead : ℕ → ℕ → ℕ → Event → Type 0
IsPageRead place page n (Read p s) = (p ≡ place) × IsPieceSpot page n s
IsPageRead place page n (Program p s bytes) = ⊥
IsPageRead place page n (Erase p) = ⊥
IsPageRead place page n Barrier = ⊥
IsPageRead place page n (Worn q) = ⊥
IsPageRead place page n (Said piece) = ⊥
