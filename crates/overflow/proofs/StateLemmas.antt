-- What is kept of the table, and what the calls leave of it.
use Rattle.std.proofs.Common.{◌≡◌, ◌==◌, inl, inr, true, ℕ, zero, suc, ◌<◌, ◌≤◌, ◌+◌, List, [], ◌∷◌, ◌++◌, length, map, take, drop, set, get_or, replicate, insert, refl, sym, ◌∙◌, ap, ap₂, subst, arith, add-one}
use Rattle.std.specs.List.{Contains, filter, remove_range, refill}
use Rattle.std.proofs.lemmas.Bool.{cases_Bool, eqb-true}
use Rattle.bounded_vec.proofs.WriteLemmas.{item_written}
use Rattle.std.proofs.lemmas.List.{length-take-le, length-drop, length-map, length-set, length-append, take-append-drop, map-append, take-map, drop-map}
use Rattle.std.proofs.lemmas.List.Elements.{All-set, All-replicate, All-contains, filter_agree}
use Rattle.std.specs.Prelude.{not}
use Rattle.ipl_base.specs.Places.{IsGeometry, KeepsUnits, units_on}
use Rattle.ipl_meaning.specs.Tables.{OverflowLists, place_of}
use Rattle.overflow.specs.declared.entries.Entry.{Entry}
use Rattle.overflow.specs.Lists.{IsSoundOverflow, IsUnused, AreUnused, names_place, clean_behind, empty_lists, after_add, after_drop, as_used, places_left, is_kept, is_left, without_unit, spots_in, masks_at}
use Rattle.overflow.specs.Parted.{spot_of, mask_of, total, parted, lists_of, keeps, leaves, passed, standing, most_entries, IsFew, FitsTable}
use Rattle.overflow.proofs.PartLemmas.{total_part, total_take, length-parted, part_at, parted_none, parted_insert, parted_cut, named_parted}
use Rattle.overflow.proofs.TableLemmas.{behind_added, behind_cut, behind_all, few_entries, few_counts, passed_push}
use Rattle.overflow.proofs.ElementLemmas.{contains_here, contains_there}
use Rattle.overflow.proofs.SoundLemmas.{sound_added, sound_dropped, sound_empty, sound_placed, sound_used}

module _ (places : ℕ) (counts : List ℕ) (entries : List Entry) (in_use : List (ℕ × ℕ)) where
  abbrev held : OverflowLists
  held = lists_of places counts entries in_use

  abbrev Fits : Type 0
  Fits = FitsTable counts (map spot_of entries) in_use

  pub unit_is : (u : ℕ) → u < length held.spots → u < length counts
  unit_is u low = omega (arith, low, length-parted counts (map spot_of entries))

  pub entries_are : Fits → total counts ≡ length entries
  entries_are fits = fits.all ∙ length-map entries spot_of

  module _ (sound : IsSoundOverflow held) (fits : Fits) where
    pub entries_few : length entries ≤ 510
    entries_few =
        let few = few_entries in_use (map spot_of entries) sound.firsts fits.behind in
        omega (arith, few, sound.two, length-map entries spot_of)

    pub total_small : total counts < 65536
    total_small = omega (arith, entries_few, entries_are fits)

  -- a unit's entries stand within all
  pub within : Fits → (u : ℕ) → total (take u counts) + get_or counts u 0 ≤ length entries
  within fits u = let part = total_part counts u in omega (arith, part, entries_are fits)

  size_of : {X : Type 0} (xs : List X) → total counts ≡ length xs → (u : ℕ) → length (get_or (parted counts xs) u []) ≡ get_or counts u 0
  size_of xs all u =
      let part = total_part counts u in
      ap length (part_at counts xs u)
      ∙ length-take-le (get_or counts u 0) (drop (total (take u counts)) xs)
      (omega (arith, part, all, length-drop (total (take u counts)) xs))

  pub count_is : Fits → (u : ℕ) → length (spots_in held u) ≡ get_or counts u 0
  count_is fits u = size_of (map spot_of entries) fits.all u

  pub mask_count_is : Fits → (u : ℕ) → length (masks_at held u) ≡ get_or counts u 0
  mask_count_is fits u = size_of (map mask_of entries) (entries_are fits ∙ sym (length-map entries mask_of)) u

  pub spots_are : (u : ℕ) → take (get_or counts u 0) (drop (total (take u counts)) (map spot_of entries)) ≡ spots_in held u
  spots_are u = sym (part_at counts (map spot_of entries) u)

  pub masks_are : (u : ℕ) → take (get_or counts u 0) (drop (total (take u counts)) (map mask_of entries)) ≡ masks_at held u
  masks_are u = sym (part_at counts (map mask_of entries) u)

  -- ---- one more

  module _ (u p s mask : ℕ) (entry : Entry) (spot : spot_of entry ≡ (p, s)) (names : mask_of entry ≡ mask)
      (sound : IsSoundOverflow held) (fits : Fits) (low : u < length counts) (few : get_or counts u 0 < 16)
      (unused : IsUnused in_use p s) where
    abbrev at : ℕ
    at = total (take (suc u) counts)

    abbrev more : List Entry
    more = insert entries at entry

    abbrev counted : List ℕ
    counted = set counts u (get_or counts u 0 + 1)

    mapped : {X : Type 0} (f : Entry → X) → map f more ≡ insert (map f entries) at (f entry)
    mapped f =
        map-append f (take at entries) (entry ∷ drop at entries)
        ∙ ap₂ (λ a b. a ++ f entry ∷ b) (sym (take-map f at entries)) (sym (drop-map f at entries))

    pub added_is : lists_of places counted more (map (clean_behind p s) in_use) ≡ after_add held u p s mask
    added_is =
        let spots : parted counted (map spot_of more) ≡ set held.spots u (spots_in held u ++ (p, s) ∷ []) =
        ap (parted counted) (mapped spot_of)
        ∙ parted_insert counts (map spot_of entries) u (spot_of entry) low (omega (arith, fits.all))
        ∙ ap (λ x. set held.spots u (spots_in held u ++ x ∷ [])) spot in
        let masks : parted counted (map mask_of more) ≡ set held.masks u (masks_at held u ++ mask ∷ []) =
        ap (parted counted) (mapped mask_of)
        ∙ parted_insert counts (map mask_of entries) u (mask_of entry) low (omega (arith, entries_are fits, length-map entries mask_of))
        ∙ ap (λ x. set held.masks u (masks_at held u ++ x ∷ [])) names in
        ap₂ (λ a b. let it : OverflowLists = record { places = places; spots = a; masks = b; in_use = map (clean_behind p s) in_use } in it) spots masks

    total_set : total counted ≡ total counts + 1
    total_set = grown counts u low
      where
        grown : (l : List ℕ) (v : ℕ) → v < length l → total (set l v (get_or l v 0 + 1)) ≡ total l + 1
        grown [] v there = absurd (omega (arith, there))
        grown (n ∷ l) zero there = omega arith
        grown (n ∷ l) (suc v) there = let rest = grown l v (omega (arith, there)) in omega (arith, rest)

    pub added_fits : FitsTable counted (map spot_of more) (map (clean_behind p s) in_use)
    added_fits = record {
      all =
          let one : length (map spot_of more) ≡ length entries + 1 = length-map more spot_of ∙ longer in
          omega (arith, total_set, entries_are fits, one);
      few = All-set IsFew counts u (get_or counts u 0 + 1) (omega (arith, few)) fits.few;
      behind = λ q.
          subst (λ l. standing q l ≤ passed q (map (clean_behind p s) in_use))
          (sym (mapped spot_of ∙ ap (λ x. insert (map spot_of entries) at x) spot))
          (behind_added p s at (map spot_of entries) in_use sound.firsts unused fits.behind q);
    }
      where
        longer : length more ≡ length entries + 1
        longer =
            let split = length-append (take at entries) (entry ∷ drop at entries) in
            let all = length-append (take at entries) (drop at entries) in
            let whole = ap length (take-append-drop at entries) in omega (arith, split, all, whole)

    -- there is room for it
    pub room_left : IsSoundOverflow (after_add held u p s mask) → length entries < most_entries (units_on places)
    room_left sound_then =
        let grown : lists_of places counted more (map (clean_behind p s) in_use) ≡ after_add held u p s mask = added_is in
        let most = few_entries (map (clean_behind p s) in_use) (map spot_of more) sound_then.firsts added_fits.behind in
        let fewer = few_counts counted added_fits.few in
        let units = length-parted counts (map spot_of entries) in
        let keeps_units : KeepsUnits places (length held.spots) = sound.units in
        omega (arith, most, fewer, sound_then.two, added_fits.all, total_set, entries_are fits, units, keeps_units.1, length-set counts u (get_or counts u 0 + 1))

  -- ---- those of a unit less

  module _ (u : ℕ) (fits : Fits) (low : u < length counts) where
    abbrev from : ℕ
    from = total (take u counts)

    abbrev left : List Entry
    left = remove_range entries from (from + get_or counts u 0)

    unmapped : {X : Type 0} (f : Entry → X) → map f left ≡ remove_range (map f entries) from (from + get_or counts u 0)
    unmapped f =
        map-append f (take from entries) (drop (from + get_or counts u 0) entries)
        ∙ ap₂ (λ a b. a ++ b) (sym (take-map f from entries)) (sym (drop-map f (from + get_or counts u 0) entries))

    total_less : total (set counts u 0) + get_or counts u 0 ≡ total counts
    total_less = fallen counts u low
      where
        fallen : (l : List ℕ) (v : ℕ) → v < length l → total (set l v 0) + get_or l v 0 ≡ total l
        fallen [] v there = absurd (omega (arith, there))
        fallen (n ∷ l) zero there = omega arith
        fallen (n ∷ l) (suc v) there = let rest = fallen l v (omega (arith, there)) in omega (arith, rest)

    all_left : total (set counts u 0) ≡ length (map spot_of left)
    all_left =
        let part = within fits u in
        let split = length-append (take from entries) (drop (from + get_or counts u 0) entries) in
        let front = length-take-le from entries (omega (arith, part)) in
        let rest = length-drop (from + get_or counts u 0) entries in
        omega (arith, total_less, entries_are fits, part, split, front, rest, length-map left spot_of)

    spots_left : parted (set counts u 0) (map spot_of left) ≡ without_unit held u
    spots_left =
        ap (parted (set counts u 0)) (unmapped spot_of)
        ∙ parted_cut counts (map spot_of entries) u low (omega (arith, fits.all))

    masks_left : parted (set counts u 0) (map mask_of left) ≡ set held.masks u []
    masks_left =
        ap (parted (set counts u 0)) (unmapped mask_of)
        ∙ parted_cut counts (map mask_of entries) u low (omega (arith, entries_are fits, length-map entries mask_of))

    -- what the entries name is what the lists name
    same_named : (p : ℕ) → keeps (map spot_of left) (p, 0) ≡ is_kept (without_unit held u) (p, 0)
    same_named p =
        sym (named_parted p (set counts u 0) (map spot_of left) all_left)
        ∙ ap (λ l. is_kept l (p, 0)) spots_left

    pub places_kept : filter (keeps (map spot_of left)) in_use ≡ filter (is_kept (without_unit held u)) in_use
    places_kept = filter_agree (keeps (map spot_of left)) (is_kept (without_unit held u)) (λ o. same_named o.0) in_use

    pub left_is : filter (leaves (map spot_of left)) (map place_of in_use) ≡ places_left held u
    left_is = filter_agree (leaves (map spot_of left)) (is_left (without_unit held u))
        (λ p. ap not (same_named p)) (map place_of in_use)

    pub dropped_is : lists_of places (set counts u 0) left (filter (keeps (map spot_of left)) in_use) ≡ after_drop held u
    dropped_is =
        ap₂ (λ a b. let it : OverflowLists = record { places = places; spots = a; masks = b; in_use = filter (keeps (map spot_of left)) in_use } in it)
        spots_left masks_left
        ∙ ap (λ l. let it : OverflowLists = record { places = places; spots = without_unit held u; masks = set held.masks u []; in_use = l } in it) places_kept

    pub dropped_fits : FitsTable (set counts u 0) (map spot_of left) (filter (keeps (map spot_of left)) in_use)
    dropped_fits = record {
      all = all_left;
      few = All-set IsFew counts u 0 (omega arith) fits.few;
      behind = λ q.
          subst (λ l. standing q l ≤ passed q (filter (keeps l) in_use)) (sym (unmapped spot_of))
          (behind_cut from (get_or counts u 0) (map spot_of entries) in_use fits.behind q);
    }

  -- ---- places

  pub place_fits : Fits → (p : ℕ) → FitsTable counts (map spot_of entries) (in_use ++ (p, 1) ∷ [])
  place_fits fits p = record {
    all = fits.all;
    few = fits.few;
    behind = λ q. let before = fits.behind q in omega (arith, before, passed_push q p in_use);
  }

  pub used_fits : Fits → IsSoundOverflow held → FitsTable counts (map spot_of entries) (map as_used in_use)
  used_fits fits sound = record {
    all = fits.all;
    few = fits.few;
    behind = behind_all (map spot_of entries) in_use sound.firsts fits.behind;
  }

-- ---- what is asked of the lists is asked of the fields

pub unit_asked : (it now : OverflowLists) (u : ℕ) → it ≡ now → u < length now.spots → u < length it.spots
unit_asked it now u is low = subst (λ (v : OverflowLists). u < length v.spots) (sym is) low

pub add_asked : (it now : OverflowLists) (u p s : ℕ) → it ≡ now → u < length now.spots → length (spots_in now u) < 16
    → p < now.places → IsUnused now.in_use p s
    → (u < length it.spots) × (length (spots_in it u) < 16) × (p < it.places) × IsUnused it.in_use p s
add_asked it now u p s is low few place unused =
    subst (λ (v : OverflowLists). (u < length v.spots) × (length (spots_in v u) < 16) × (p < v.places) × IsUnused v.in_use p s)
    (sym is) (low, few, place, unused)

-- ---- the fields after a call

-- one more is added
module _ (places : ℕ) (counts : List ℕ) (entries : List Entry) (in_use : List (ℕ × ℕ)) (u p s mask : ℕ) (entry : Entry)
    (spot : spot_of entry ≡ (p, s)) (names : mask_of entry ≡ mask)
    (sound : IsSoundOverflow (lists_of places counts entries in_use)) (fits : FitsTable counts (map spot_of entries) in_use)
    (low : u < length (parted counts (map spot_of entries)))
    (few : length (get_or (parted counts (map spot_of entries)) u []) < 16)
    (place : p < places) (sector : s < 256) (unused : IsUnused in_use p s) where
  abbrev here : u < length counts
  here = unit_is places counts entries in_use u low

  abbrev less : get_or counts u 0 < 16
  less = omega (arith, few, count_is places counts entries in_use fits u)

  sound_then : IsSoundOverflow (after_add (lists_of places counts entries in_use) u p s mask)
  sound_then = sound_added (lists_of places counts entries in_use) u p s mask sound low few place sector

  pub add_room : length entries < most_entries (units_on places)
  add_room = room_left places counts entries in_use u p s mask entry spot names sound fits here less unused sound_then

  module _ (at : ℕ) (counted : List ℕ) (more : List Entry) (used : List (ℕ × ℕ)) (at_is : at ≡ total (take (u + 1) counts))
      (counted_is : counted ≡ set counts u (get_or counts u 0 + 1)) (more_is : more ≡ insert entries at entry)
      (used_is : used ≡ map (clean_behind p s) in_use) where
    more_there : more ≡ insert entries (total (take (suc u) counts)) entry
    more_there = more_is ∙ ap (λ (k : ℕ). insert entries k entry) (at_is ∙ ap (λ (k : ℕ). total (take k counts)) (add-one u))

    pub add_view : lists_of places counted more used ≡ after_add (lists_of places counts entries in_use) u p s mask
    add_view = rw (counted_is, more_there, used_is)
        (added_is places counts entries in_use u p s mask entry spot names sound fits here less unused)

    pub add_state : IsSoundOverflow (lists_of places counted more used) × FitsTable counted (map spot_of more) used
    add_state = (
      subst IsSoundOverflow (sym add_view) sound_then,
      rw (counted_is, more_there, used_is)
          (added_fits places counts entries in_use u p s mask entry spot names sound fits here less unused),
    )

-- those of a unit are dropped
module _ (places : ℕ) (counts : List ℕ) (entries : List Entry) (in_use : List (ℕ × ℕ)) (u : ℕ)
    (sound : IsSoundOverflow (lists_of places counts entries in_use)) (fits : FitsTable counts (map spot_of entries) in_use)
    (low : u < length (parted counts (map spot_of entries)))
    (counted : List ℕ) (left : List Entry) (kept : List (ℕ × ℕ)) (counted_is : counted ≡ set counts u 0)
    (left_are : left ≡ remove_range entries (total (take u counts)) (total (take u counts) + get_or counts u 0))
    (kept_are : kept ≡ filter (keeps (map spot_of left)) in_use) where
  pub drop_view : lists_of places counted left kept ≡ after_drop (lists_of places counts entries in_use) u
  drop_view = rw (kept_are, counted_is, left_are)
      (dropped_is places counts entries in_use u fits (unit_is places counts entries in_use u low))

  pub drop_state : IsSoundOverflow (lists_of places counted left kept) × FitsTable counted (map spot_of left) kept
  drop_state = (
    subst IsSoundOverflow (sym drop_view) (sound_dropped (lists_of places counts entries in_use) u sound),
    rw (kept_are, counted_is, left_are)
        (dropped_fits places counts entries in_use u fits (unit_is places counts entries in_use u low)),
  )

  pub drop_left : filter (leaves (map spot_of left)) (map place_of in_use) ≡ places_left (lists_of places counts entries in_use) u
  drop_left = rw left_are (left_is places counts entries in_use u fits (unit_is places counts entries in_use u low))

-- ---- a unit's entries, in lists that are lent

module _ (places : ℕ) (counts : List ℕ) (entries : List Entry) (in_use : List (ℕ × ℕ)) (now : OverflowLists) (u : ℕ)
    (is : lists_of places counts entries in_use ≡ now) where
  pub low_lent : (lent : List ℕ) → u < length now.spots → lent ≡ counts → u < length lent
  low_lent lent low same =
      let here = unit_is places counts entries in_use u (unit_asked (lists_of places counts entries in_use) now u is low) in
      omega (arith, here, ap length same)

  pub counted_lent : (lent : List ℕ) (count : ℕ) → FitsTable counts (map spot_of entries) in_use → lent ≡ counts
      → count ≡ get_or lent u 0 → count ≡ length (spots_in now u)
  counted_lent lent count fits same read =
      read ∙ ap (λ (l : List ℕ). get_or l u 0) same ∙ sym (count_is places counts entries in_use fits u)
      ∙ ap (λ (it : OverflowLists). length (spots_in it u)) is

  pub spots_lent : (first second : List ℕ) (lent : List Entry) (from count : ℕ) → first ≡ counts → second ≡ counts → lent ≡ entries
      → from ≡ total (take u first) → count ≡ get_or second u 0
      → take count (drop from (map spot_of lent)) ≡ spots_in now u
  spots_lent first second lent from count one two same starts read =
      rw (same, starts, read, one, two) (spots_are places counts entries in_use u) ∙ ap (λ (it : OverflowLists). spots_in it u) is

  pub masks_lent : (first second : List ℕ) (lent : List Entry) (from count : ℕ) → first ≡ counts → second ≡ counts → lent ≡ entries
      → from ≡ total (take u first) → count ≡ get_or second u 0
      → take count (drop from (map mask_of lent)) ≡ masks_at now u
  masks_lent first second lent from count one two same starts read =
      rw (same, starts, read, one, two) (masks_are places counts entries in_use u) ∙ ap (λ (it : OverflowLists). masks_at it u) is

  pub each_lent : FitsTable counts (map spot_of entries) in_use → length (masks_at now u) ≡ length (spots_in now u)
  each_lent fits =
      subst (λ (it : OverflowLists). length (masks_at it u) ≡ length (spots_in it u)) is
      (mask_count_is places counts entries in_use fits u ∙ sym (count_is places counts entries in_use fits u))

pub small_lent : (places : ℕ) (counts lent : List ℕ) (entries : List Entry) (in_use : List (ℕ × ℕ))
    → IsSoundOverflow (lists_of places counts entries in_use) → FitsTable counts (map spot_of entries) in_use
    → lent ≡ counts → total lent < 65536
small_lent places counts lent entries in_use sound fits same =
    subst (λ (l : List ℕ). total l < 65536) (sym same) (total_small places counts entries in_use sound fits)

pub within_lent : (places : ℕ) (counts first second : List ℕ) (entries lent : List Entry) (in_use : List (ℕ × ℕ)) (u from count : ℕ)
    → FitsTable counts (map spot_of entries) in_use → first ≡ counts → second ≡ counts → lent ≡ entries
    → from ≡ total (take u first) → count ≡ get_or second u 0 → from + count ≤ length lent
within_lent places counts first second entries lent in_use u from count fits one two same starts read =
    rw (same, starts, read, one, two) (within places counts entries in_use fits u)

pub end_within : (places : ℕ) (counts lent : List ℕ) (entries : List Entry) (in_use : List (ℕ × ℕ)) (u at : ℕ)
    → FitsTable counts (map spot_of entries) in_use → lent ≡ counts → at ≡ total (take (u + 1) lent) → at ≤ length entries
end_within places counts lent entries in_use u at fits same starts =
    let all = total_take counts (u + 1) in
    let is : at ≡ total (take (u + 1) counts) = starts ∙ ap (λ (l : List ℕ). total (take (u + 1) l)) same in
    omega (arith, all, is, entries_are places counts entries in_use fits)

-- what is cut out, by lists that are lent
pub cut_lent : (counts first second : List ℕ) (entries : List Entry) (u from count : ℕ) → first ≡ counts → second ≡ counts
    → from ≡ total (take u first) → count ≡ get_or second u 0
    → remove_range entries from (from + count)
    ≡ remove_range entries (total (take u counts)) (total (take u counts) + get_or counts u 0)
cut_lent counts first second entries u from count one two starts read = rw (starts, read, one, two) refl

-- the count of one more, in a list that is lent
pub counted_one : (counts lent : List ℕ) (u : ℕ) → lent ≡ counts
    → refill (length counts) counts (set lent u (get_or lent u 0 + 1)) ≡ set counts u (get_or counts u 0 + 1)
counted_one counts lent u same =
    item_written counts lent u (get_or lent u 0 + 1) same
    ∙ ap (λ (l : List ℕ). set counts u (get_or l u 0 + 1)) same

-- an empty list
pub none_of : {X : Type 0} (xs : List X) → 0 ≡ length xs → [] ≡ xs
none_of [] none = refl
none_of (x ∷ xs) none = absurd (omega (arith, none))

-- one place more is in use
pub place_state : (places : ℕ) (counts : List ℕ) (entries : List Entry) (in_use now : List (ℕ × ℕ)) (p : ℕ)
    → IsSoundOverflow (lists_of places counts entries in_use) → FitsTable counts (map spot_of entries) in_use
    → length in_use < 2 → p < places → now ≡ in_use ++ (p, 1) ∷ []
    → IsSoundOverflow (lists_of places counts entries now) × FitsTable counts (map spot_of entries) now
place_state places counts entries in_use now p sound fits few low is = rw is (
  sound_placed (lists_of places counts entries in_use) p sound few low,
  place_fits places counts entries in_use fits p,
)

-- none has a sector that is known clean
pub used_state : (places : ℕ) (counts : List ℕ) (entries : List Entry) (in_use now : List (ℕ × ℕ))
    → IsSoundOverflow (lists_of places counts entries in_use) → FitsTable counts (map spot_of entries) in_use
    → now ≡ map as_used in_use
    → IsSoundOverflow (lists_of places counts entries now) × FitsTable counts (map spot_of entries) now
used_state places counts entries in_use now sound fits is = rw is (
  sound_used (lists_of places counts entries in_use) sound,
  used_fits places counts entries in_use fits sound,
)

-- a place that is in use, of which no sector from this one on is used
pub found_unused : (in_use : List (ℕ × ℕ)) (p s : ℕ) → names_place p in_use ≡ true → AreUnused in_use p s → IsUnused in_use p s
found_unused in_use p s named unused =
    let (first, there) = named_there in_use named in
    (first, there, All-contains (λ place. place.0 ≡ p → place.1 ≤ s) in_use (p, first) unused there refl)
  where
    named_there : (l : List (ℕ × ℕ)) → names_place p l ≡ true → (first : ℕ) × Contains l (p, first)
    named_there [] named = absurd (cc)
    named_there (o ∷ l) named = elim (cases_Bool (o.0 == p)) [
      | inl here ↦ (o.1, subst (λ (q : ℕ). Contains (o ∷ l) (q, o.1)) (eqb-true o.0 p here) (contains_here o l))
      | inr apart ↦
          let (first, there) = named_there l (rw apart at named) in (first, contains_there o l (p, first) there)
    ]

pub new_unused : (in_use : List (ℕ × ℕ)) (p s : ℕ) → 1 ≤ s → IsUnused (in_use ++ (p, 1) ∷ []) p s
new_unused in_use p s least = (1, at_end in_use, least)
  where
    at_end : (l : List (ℕ × ℕ)) → Contains (l ++ (p, 1) ∷ []) (p, 1)
    at_end [] = contains_here (p, 1) []
    at_end (o ∷ l) = contains_there o (l ++ (p, 1) ∷ []) (p, 1) (at_end l)

-- ---- none

pub none_is : (places units : ℕ) → lists_of places (replicate units 0) [] [] ≡ empty_lists places units
none_is places units = ap₂ (λ a b. let it : OverflowLists = record { places = places; spots = a; masks = b; in_use = [] } in it)
    (parted_none units) (parted_none units)

pub none_fits : (units : ℕ) → FitsTable (replicate units 0) [] []
none_fits units = record {
  all = zeros units;
  few = All-replicate IsFew units 0 (omega arith);
  behind = λ q. omega arith;
}
  where
    zeros : (n : ℕ) → total (replicate n 0) ≡ 0
    zeros zero = refl
    zeros (suc n) = let rest = zeros n in omega (arith, rest)

pub empty_view : (places units : ℕ) (counts : List ℕ) (entries : List Entry) (in_use : List (ℕ × ℕ)) → counts ≡ replicate units 0
    → entries ≡ [] → in_use ≡ [] → lists_of places counts entries in_use ≡ empty_lists places units
empty_view places units counts entries in_use zeros none idle = rw (zeros, none, idle) (none_is places units)

pub empty_state : (places units : ℕ) (counts : List ℕ) (entries : List Entry) (in_use : List (ℕ × ℕ)) → IsGeometry places
    → KeepsUnits places units → counts ≡ replicate units 0 → entries ≡ [] → in_use ≡ []
    → IsSoundOverflow (lists_of places counts entries in_use) × FitsTable counts (map spot_of entries) in_use
empty_state places units counts entries in_use geometry keeps zeros none idle = (
  subst IsSoundOverflow (sym (empty_view places units counts entries in_use zeros none idle)) (sound_empty places units geometry keeps),
  rw (zeros, none, idle) (none_fits units),
)
