-- A new chip.
use Rattle.std.proofs.Common.{◌≡◌, ℕ, Bool, false, List, [], replicate, reverse, Result, Ok, Err, OnOk, ◌∙◌, ap}
use Rattle.chip_trait.specs.declared.event.Event.{Event}
use Rattle.chip_trait.specs.Story.{Contents}
use Rattle.chip_mem.specs.Sectors.{contents_of, written_contents, erased}
use Rattle.chip_mem.specs.Tells.{none_yet, telling_all, telling_contents, starting}
use Rattle.chip_mem.specs.declared.faults.Faults.{Faults}
use Rattle.chip_mem.specs.declared.sectors.TheConstants.{BLANK}
use Rattle.chip_mem.proofs.SectorLemmas.{contents_of-replicate, written_none}

pub erased_contents : (xs : List (List ℕ)) (n : ℕ) → xs ≡ replicate n BLANK → contents_of xs ≡ erased
erased_contents xs n is = ap contents_of is ∙ contents_of-replicate n

-- a chip with no events tells its start
pub starts : (places : ℕ) (faults : Faults) (start sectors : List (List ℕ)) (events : List Event) (x : Contents) → contents_of start ≡ x → contents_of sectors ≡ x → events ≡ [] → faults ≡ none_yet
    → telling_all places faults 0 (record { start = contents_of start; story = reverse events }) (contents_of sectors) ≡ starting places x
starts places faults start sectors events x begins holds none unfailed =
    ap (λ (f : Faults). telling_all places f 0 (record { start = contents_of start; story = reverse events }) (contents_of sectors)) unfailed
    ∙ ap (λ (y : Contents). telling_all places none_yet 0 (record { start = y; story = reverse events }) (contents_of sectors)) begins
    ∙ ap (λ (y : Contents). telling_all places none_yet 0 (record { start = x; story = reverse events }) y) holds
    ∙ ap (λ (es : List Event). telling_all places none_yet 0 (record { start = x; story = reverse es }) x) none

pub plain_starts_erased : (places n : ℕ) (written : List Bool) (sectors : List (List ℕ)) → written ≡ replicate n false
    → telling_contents places (written_contents written sectors) ≡ telling_contents places erased
plain_starts_erased places n written sectors none = ap (λ (x : Contents). telling_contents places x)
    (ap (λ (ws : List Bool). written_contents ws sectors) none ∙ written_none n sectors)

-- what holds anyway holds of a success
pub on_ok : {T E : Type 0} (P : Type 0) (r : Result T E) → P → OnOk r P
on_ok P (Ok x) holds = holds
on_ok P (Err e) holds = tt
