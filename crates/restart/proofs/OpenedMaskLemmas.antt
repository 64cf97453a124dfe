-- The masks of all log sectors that were found are those of the chart.
use Rattle.std.proofs.Common.{◌≡◌, ◌≢◌, ◌<◌, ◌+◌, ◌*◌, ◌-◌, ◌==◌, ℕ, false, List, [], map, length, get_or, Option, Some, None, refl, sym, ◌∙◌, ap, arith}
use Rattle.std.proofs.lemmas.Bool.{eqb-true, and_parts, lt-ltb}
use Rattle.ipl_meaning.specs.Chart.{Chart}
use Rattle.ipl_meaning.specs.Tables.{Places, OverflowLists}
use Rattle.overflow.specs.Lists.{spots_in as listed_in, IsSoundOverflow}
use Rattle.unit_directory.specs.Directory.{IsSoundDirectory}
use Rattle.ipl_meaning.specs.First.{at}
use Rattle.ipl_meaning.specs.Chosen.{KeptHeader, Winner, current_at, units_at}
use Rattle.ipl_meaning.specs.Live.{is_overflow_place}
use Rattle.ipl_meaning.specs.LaidOut.{place_of}
use Rattle.ipl_meaning.specs.FoundLogs.{spots_in, mask_found}
use Rattle.ipl_meaning.specs.Opened.{AreOpenedMasks}
use Rattle.restart.specs.Masked.{mask_below, mask_by, IsMasked}
use Rattle.restart.specs.Shown.{ShowsHeaders, AreChosen}
use Rattle.restart.proofs.OpenLemmas.{to_chart}
use Rattle.restart.proofs.KnownLemmas.{home_of}

below_all : (k j mask : ℕ) → j < k → mask_below k j mask ≡ mask
below_all k j mask low = rw (lt-ltb j k low) refl

-- a header of a unit isn't that of an overflow place
not_overflow : (o : Option KeptHeader) (head : KeptHeader) → o ≡ Some head → head.kind ≡ 1 → is_overflow_place o ≡ false
not_overflow o head is kind = rw (is, kind) refl

module _ (c : Chart) (places : ℕ) (heads : List (Option KeptHeader)) (current : List (Option Winner)) (status : Winner)
    (shows : ShowsHeaders c places heads current status) (chosen : AreChosen heads current status)
    (there : (u : ℕ) → u < length current → at current u ≢ None) (sized : length heads ≡ places) where
  same_mask : (u k : ℕ) → mask_by (at heads) (at current) c u k ≡ mask_found c places u k
  same_mask u k =
      to_chart c places heads current status shows
      (λ h cur st. mask_by (at heads) (at current) c u k ≡ mask_by h cur c u k) refl

  same_masks : (u : ℕ) (spots : List (ℕ × ℕ)) → map (λ spot. mask_by (at heads) (at current) c u (spot.0 * 256 + spot.1)) spots
      ≡ map (λ spot. mask_found c places u (spot.0 * 256 + spot.1)) spots
  same_masks u spots =
      to_chart c places heads current status shows
      (λ h cur st. map (λ (spot : ℕ × ℕ). mask_by (at heads) (at current) c u (spot.0 * 256 + spot.1)) spots
      ≡ map (λ (spot : ℕ × ℕ). mask_by h cur c u (spot.0 * 256 + spot.1)) spots) refl

  pub opened_masks : (before d : Places) (found lists : OverflowLists) → IsSoundDirectory d → IsSoundOverflow lists
      → length d.current ≡ length current → length lists.spots ≡ length current → d.masks ≡ before.masks
      → lists.masks ≡ found.masks → lists.spots ≡ found.spots
      → ((u : ℕ) → u < units_at c places → get_or lists.spots u [] ≡ spots_in c places u)
      → IsMasked (at heads) (at current) (mask_by (at heads) (at current) c) (places * 256) before found
      → AreOpenedMasks places c d lists
  opened_masks before d found lists sound sound_lists units spots same same_lists same_spots spots_are masked = record {
    units = omega (arith, sound.masks, units, shows.units_are);
    lists = omega (arith, sound_lists.lists, spots, shows.units_are);
    sectors = λ u low. sound.sectors u (omega (arith, low, units, shows.units_are));
    home = λ u s low least most.
        let (w, w_is, best) = home_of heads current status chosen there u (omega (arith, low, shows.units_are)) in
        let kind = and_parts (w.head.kind == 1) (w.head.unit == u) best.of_kind in
        let apart = not_overflow (at heads w.place) w.head best.here (eqb-true w.head.kind 1 kind.0) in
        let at_w : place_of (current_at c places u) ≡ w.place = ap place_of (ap (λ (cur : ℕ → Option Winner). cur u) (sym shows.current_are) ∙ w_is) in
        ap (λ (xs : List (List ℕ)). get_or (get_or xs u []) (s - 241) 0) same
        ∙ masked.home u s w w_is apart least most
        ∙ below_all (places * 256) (w.place * 256 + s) (mask_by (at heads) (at current) c u (w.place * 256 + s)) (omega (arith, best.within, sized, most))
        ∙ same_mask u (w.place * 256 + s)
        ∙ ap (λ (p : ℕ). mask_found c places u (p * 256 + s)) (sym at_w);
    elsewhere = λ u low.
        ap (λ (xs : List (List ℕ)). get_or xs u []) same_lists ∙ masked.elsewhere u ∙ same_masks u (listed_in found u)
        ∙ ap (map (λ (spot : ℕ × ℕ). mask_found c places u (spot.0 * 256 + spot.1)))
        (ap (λ (xs : List (List (ℕ × ℕ))). get_or xs u []) (sym same_spots) ∙ spots_are u low);
  }
