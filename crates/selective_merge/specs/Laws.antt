-- Laws of merges.
use Rattle.std.specs.Prelude.{ℕ, ◌≡◌, ◌<◌, ◌≤◌, ◌+◌, List, [], length, slice_set, None}
use Rattle.ipl_base.specs.declared.limits.TheConstants.{LOG_SECTORS, CARRIED_SECTORS}
use Rattle.chip_trait.specs.Chart.{with_sector}
use Rattle.ipl_meaning.specs.Legible.{Legible}
use Rattle.ipl_format.specs.Sector.{Sector}
use Rattle.ipl_meaning.specs.Chart.{Chart}
use Rattle.ipl_meaning.specs.Last.{last_that}
use Rattle.ipl_meaning.specs.Layout.{Shape, Layout, records_of}
use Rattle.ipl_meaning.specs.Mirrors.{Mirrors}
use Rattle.ipl_meaning.specs.Stands.{Says, StandsBeside}
use Rattle.ipl_meaning.specs.Steps.{KeepsPages, IsMerged}
use Rattle.ipl_meaning.specs.Tables.{Tables}
use Rattle.ipl_meaning.specs.TableSteps.{IsReady, with_next, taken, IsMoved, TellsShape}
use Rattle.ipl_meaning.specs.Values.{counts_for}
use Rattle.unit_log.specs.Often.{times}
use Rattle.selective_merge.specs.Often.{all_of}
use Rattle.selective_merge.specs.Packs.{among, masks_of_packs}
use Rattle.selective_merge.specs.Merged.{MayMerge, packs_in, merged_shape, merged_layout}

-- the place that was filled is ready for its header, and shows what the unit showed
abbrev pub FilledPlacesAreReady : Type 0
FilledPlacesAreReady =
    (places : ℕ) (c y : Chart) (it : Layout) (t : Tables) (u p : ℕ)
    (head : Sector) (pieces : List ℕ) (serial : ℕ)
    → MayMerge places c y it t u p head pieces serial
    → let fresh = merged_shape t (it.units u) u p head pieces serial in
    IsReady places y (with_next (taken t p) head.generation) u p fresh × IsMerged y it u fresh

-- with the header the chip stands for the same map
abbrev pub StandsAfterFilling : Type 0
StandsAfterFilling =
    (places : ℕ) (c y : Chart) (it : Layout) (t : Tables) (u p : ℕ)
    (head : Sector) (pieces : List ℕ) (serial : ℕ) (m : Legible)
    → MayMerge places c y it t u p head pieces serial → Says places c it m
    → StandsBeside places y (with_sector y p 0 head) m

-- and the tables mirror it, once they have the unit at its new place
abbrev pub TablesFollowFilling : Type 0
TablesFollowFilling =
    (places : ℕ) (c y : Chart) (it : Layout) (t after : Tables) (u p : ℕ)
    (head : Sector) (pieces : List ℕ) (serial : ℕ)
    → MayMerge places c y it t u p head pieces serial
    → let used = length (packs_in t (it.units u)) in
    let new = merged_layout t it u p head pieces serial in
    IsMoved (with_next (taken t p) head.generation) after u p used
    → TellsShape (with_next (taken t p) head.generation) after u (merged_shape t (it.units u) u p head pieces serial)
    → serial + used ≤ after.next
    → Mirrors places (with_sector y p 0 head) new after
    × KeepsPages places c it (with_sector y p 0 head) new

-- of each name, the last record of an active number is in the log of the merged unit
abbrev pub MergesKeepTheLast : Type 0
MergesKeepTheLast =
    (t : Tables) (it : Shape) (u p : ℕ) (head : Sector) (pieces : List ℕ) (serial : ℕ)
    (page slot : ℕ)
    → let fresh = merged_shape t it u p head pieces serial in
    last_that (counts_for (among t.active) page slot) (records_of fresh.log) None
    ≡ last_that (counts_for (among t.active) page slot) (records_of it.log) None

-- tables that have the new generation and the masks of what was carried, and none elsewhere, tell of the merged unit
abbrev pub PacksAreTold : Type 0
PacksAreTold =
    (t before after : Tables) (it : Shape) (u p : ℕ) (head : Sector) (pieces : List ℕ) (serial : ℕ)
    → length (packs_in t it) ≤ CARRIED_SECTORS
    → after.places.generations ≡ slice_set before.places.generations u head.generation
    → after.places.masks ≡ slice_set before.places.masks u (masks_of_packs LOG_SECTORS (packs_in t it))
    → after.overflow.masks ≡ slice_set before.overflow.masks u []
    → TellsShape before after u (merged_shape t it u p head pieces serial)

-- where the tables mirror a chart, all that a merge reads of a unit is listed once: no sector is read twice
abbrev pub MergesReadOnce : Type 0
MergesReadOnce = (places : ℕ) (c : Chart) (it : Layout) (t : Tables) (u : ℕ) → Mirrors places c it t
    → u < it.count → (p s : ℕ) → times (all_of t u) p s ≤ 1
