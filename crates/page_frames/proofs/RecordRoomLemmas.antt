-- Room for a log sector: how the tables turned.
use Rattle.std.proofs.Common.{◌≡◌, ◌⊎◌, ℕ, List, inl, inr, refl, ◌∙◌, subst}
use Rattle.ipl_base.specs.declared.spot.Spot.{Spot}
use Rattle.ipl_format.specs.Sector.{Sector}
use Rattle.ipl_meaning.specs.Chart.{Chart}
use Rattle.ipl_meaning.specs.Last.{carried}
use Rattle.ipl_meaning.specs.Layout.{Shape, Layout, records_of}
use Rattle.ipl_meaning.specs.Mirrors.{Mirrors, NoneIsLost}
use Rattle.ipl_meaning.specs.Steps.{KeepsPages}
use Rattle.ipl_meaning.specs.Tables.{Tables}
use Rattle.selective_merge.specs.Merged.{IsMergedUnit, merged_layout, merged_shape, packs_in}
use Rattle.selective_merge.proofs.PacksLemmas.{entries_records, packs_join}
use Rattle.selective_merge.specs.Placing.{IsPlaced}
use Rattle.store_laws.specs.Fits.{is_active}
use Rattle.store_laws.proofs.CarriedLemmas.{merged_or_same}
use Rattle.store_laws.specs.Advances.{KeepsTablesOn}
use Rattle.page_frames.specs.Rooms.{HasLogRoom}

-- ---- the tables turned

-- a merged unit has the records that the merge carries
pub merged_records : (t : Tables) (it : Shape) (u p : ℕ) (head : Sector) (pieces : List ℕ)
    (serial : ℕ) → records_of (merged_shape t it u p head pieces serial).log
    ≡ carried (is_active t) (records_of it.log)
merged_records t it u p head pieces serial =
    entries_records p u head.generation 241 serial (packs_in t it)
    ∙ packs_join t.active (records_of it.log)

-- the layout is the same
abbrev pub turned_same : (places : ℕ) (c y : Chart) (it : Layout) (t after : Tables)
    → Mirrors places y it after → KeepsPages places c it y it → NoneIsLost places after
    → after.active ≡ t.active → KeepsTablesOn places c it t y after
turned_same places c y it t after mirrors keeps none active = record {
  layout = it;
  count = refl;
  mirrors = mirrors;
  none_lost = none;
  active = active;
  alike = λ v low. inl refl;
  kept = λ v low i d within. refl;
  pages = keeps;
}

-- the unit was merged
abbrev pub turned_merged : (places : ℕ) (c y : Chart) (it : Layout) (t : Tables) (u : ℕ) (after : Tables)
    → IsMergedUnit places c y it t u after → NoneIsLost places after → after.active ≡ t.active
    → KeepsTablesOn places c it t y after
turned_merged places c y it t u after is none active = record {
  layout = merged_layout t it u is.place is.head is.pieces is.serial;
  count = refl;
  mirrors = is.mirrors;
  none_lost = none;
  active = active;
  alike = λ v low. merged_or_same (is_active t) it u v
      (merged_shape t (it.units u) u is.place is.head is.pieces is.serial)
      (merged_records t (it.units u) u is.place is.head is.pieces is.serial);
  kept = λ v low i d within. refl;
  pages = is.keeps;
}

-- ---- room

-- there is room by the rules
pub log_room : (places : ℕ) (c y : Chart) (it : Layout) (t : Tables) (u : ℕ) (after : Tables)
    (at : Spot) → IsPlaced places c y it t u after at.place at.sector → NoneIsLost places after
    → after.active ≡ t.active → HasLogRoom places c y it t u after at
log_room places c y it t u after at placed none active = by_how placed.room.how
  where
    by_how : (placed.room.layout ≡ it) ⊎ IsMergedUnit places c y it t u after
        → HasLogRoom places c y it t u after at
    by_how (inl same) = record {
      placed = placed;
      turned = turned_same places c y it t after
          (subst (λ (l : Layout). Mirrors places y l after) same placed.room.mirrors)
          (subst (λ (l : Layout). KeepsPages places c it y l) same placed.room.keeps) none active;
      unit = inl refl;
    }
    by_how (inr is) = record {
      placed = placed;
      turned = turned_merged places c y it t u after is none active;
      unit = inr (is, refl);
    }
