-- The masks of live log sectors, as these are found one after another.
use Rattle.std.proofs.Common.{◌≡◌, ◌≢◌, inl, inr, ◌≤◌, ◌<◌, ◌+◌, ◌-◌, ◌*◌, ℕ, zero, suc, Bool, true, false, List, [], ◌∷◌, ◌++◌, map, length, get_or, set, replicate, Option, Some, refl, sym, ◌∙◌, ap, ap₂, subst, arith, get_or-set_same, get_or-set_other}
use Rattle.std.proofs.lemmas.Bool.{cases_eq, cases_lt, cases_Bool, eq-eqb, ne_eqb, lt-ltb, le-ltb, and_parts}
use Rattle.std.proofs.lemmas.List.{map-append}
use Rattle.std.proofs.lemmas.Option.{same_Some}
use Rattle.ipl_format.specs.Sector.{Sector}
use Rattle.log_records.specs.Reading.{records_of}
use Rattle.ipl_meaning.specs.Masks.{mask_of}
use Rattle.ipl_meaning.specs.Tables.{Places, OverflowLists, masks_in, with_mask}
use Rattle.overflow.specs.Lists.{spots_in, masks_at, empty_lists, has_room_for, IsSoundOverflow}
use Rattle.unit_directory.specs.Directory.{IsSoundDirectory}
use Rattle.ipl_meaning.specs.Chosen.{KeptHeader, Winner}
use Rattle.ipl_meaning.specs.Live.{kept, is_live, is_log_spot, is_overflow_place}
use Rattle.ipl_meaning.specs.FoundLogs.{mask_of_sector}
use Rattle.restart.specs.Notes.{listed}
use Rattle.restart.specs.Masked.{masked, mask_below, NoneNamed, IsMasked}
use Rattle.restart.proofs.ListedLemmas.{found_lists, left_out}
use Rattle.restart.proofs.LogLemmas.{spot_of}

-- ---- the number k and those before it

below_step : (k j mask : ℕ) → j ≢ k → mask_below k j mask ≡ mask_below (k + 1) j mask
below_step k j mask other = elim (cases_lt j k) [
  | inl low ↦ rw (lt-ltb j k low, lt-ltb j (k + 1) (omega arith)) refl
  | inr past ↦ rw (le-ltb j k past, le-ltb j (k + 1) (omega (arith, past, other))) refl
]

below_none : (k mask : ℕ) → mask_below k k mask ≡ 0
below_none k mask = rw (le-ltb k k (omega arith)) refl

below_here : (k mask : ℕ) → mask_below (k + 1) k mask ≡ mask
below_here k mask = rw (lt-ltb k (k + 1) (omega arith)) refl

-- where nothing is found, nothing changes
none_step : (k j : ℕ) (found : ℕ → ℕ) → found k ≡ 0 → mask_below k j (found j) ≡ mask_below (k + 1) j (found j)
none_step k j found none = elim (cases_eq j k) [
  | inl same ↦
      rw same (below_none k (found k) ∙ sym none ∙ sym (below_here k (found k)))
  | inr other ↦ below_step k j (found j) other
]

module _ (heads : ℕ → Option KeptHeader) (current : ℕ → Option Winner) (found : ℕ → ℕ → ℕ) where
  pub masked_none : (k : ℕ) (it : Places) (lists : OverflowLists) → ((u : ℕ) → found u k ≡ 0)
      → IsMasked heads current found k it lists → IsMasked heads current found (k + 1) it lists
  masked_none k it lists none so_far = record {
    home = λ u s winner is over least most.
        so_far.home u s winner is over least most ∙ none_step k (winner.place * 256 + s) (found u) (none u);
    elsewhere = so_far.elsewhere;
  }

  empty_at : (n u : ℕ) → get_or (replicate n (let xs : List ℕ = [] in xs)) u [] ≡ []
  empty_at zero u = refl
  empty_at (suc n) zero = refl
  empty_at (suc n) (suc u) = empty_at n u

  empty_spots_at : (n u : ℕ) → get_or (replicate n (let xs : List (ℕ × ℕ) = [] in xs)) u [] ≡ []
  empty_spots_at zero u = refl
  empty_spots_at (suc n) zero = refl
  empty_spots_at (suc n) (suc u) = empty_spots_at n u

  -- at first nothing is found
  pub masked_first : (places n units : ℕ) (it : Places) (lists : OverflowLists) → ((u : ℕ) (winner : Winner) → current u ≡ Some winner → u < units)
      → NoneNamed units it → lists ≡ empty_lists places n → IsMasked heads current found 0 it lists
  masked_first places n units it lists low none is = record {
    home = λ u s winner there over least most.
        none u s (low u winner there) least most ∙ sym (zero_below (winner.place * 256 + s) (found u (winner.place * 256 + s)));
    elsewhere = λ u.
        let f : ℕ × ℕ → ℕ = λ spot. found u (spot.0 * 256 + spot.1) in
        ap (λ (l : OverflowLists). masks_at l u) is ∙ empty_at n u
        ∙ sym (ap (map f) (ap (λ (l : OverflowLists). spots_in l u) is ∙ empty_spots_at n u));
  } where
    zero_below : (j mask : ℕ) → mask_below 0 j mask ≡ 0
    zero_below j mask = rw (le-ltb j 0 (omega arith)) refl

  module _ (p s : ℕ) (below : s < 256) (sector : Sector) (spot : is_log_spot heads current p s ≡ true)
      (live : is_live heads current p sector ≡ true) (it : Places) (lists : OverflowLists) (units mask : ℕ)
      (sound : IsSoundDirectory it) (sound_lists : IsSoundOverflow lists) (of_units : length it.current ≡ units)
      (listed_units : length lists.spots ≡ units) (low : sector.unit < units)
      (mask_is : mask ≡ mask_of (records_of sector.version sector.payload))
      (is : (u : ℕ) → found u (p * 256 + s) ≡ mask_of_sector u (kept (is_live heads current p) (Some sector)))
      (so_far : IsMasked heads current found (p * 256 + s) it lists) where
    abbrev k : ℕ
    k = p * 256 + s

    own : (u : ℕ) → sector.unit ≡ u → found u k ≡ mask
    own u same =
        let here : found u k ≡ mask_of_sector u (Some sector) = rw live at (is u) in
        let mine : found u k ≡ mask_of (records_of sector.version sector.payload) = rw (eq-eqb sector.unit u same) at here in mine ∙ sym mask_is

    others : (u : ℕ) → sector.unit ≢ u → found u k ≡ 0
    others u other =
        let here : found u k ≡ mask_of_sector u (Some sector) = rw live at (is u) in
        let none : found u k ≡ 0 = rw (ne_eqb sector.unit u other) at here in none

    abbrev over : Bool
    over = is_overflow_place (heads p)

    -- a unit's home that isn't an overflow place is another place than one that is
    apart : over ≡ true → (winner : Winner) (t : ℕ) → is_overflow_place (heads winner.place) ≡ false → t < 256 → (winner.place * 256 + t) ≢ k
    apart here winner t none small same =
        let place : winner.place ≡ p = omega (arith, same, small, below) in
        let no : is_overflow_place (heads p) ≡ false = subst (λ (q : ℕ). is_overflow_place (heads q) ≡ false) place none in
        absurd (let both : true ≡ false = sym here ∙ no in cc)

    pub masked_live : (now : Places) (after : OverflowLists) → now ≡ masked over it sector.unit s mask
        → after ≡ listed over lists sector.unit p s mask → IsMasked heads current found (k + 1) now after
    masked_live now after now_is after_is = elim (cases_Bool over) [
      | inl here ↦ in_overflow here
      | inr home ↦ at_home home
    ] where
      in_overflow : over ≡ true → IsMasked heads current found (k + 1) now after
      in_overflow here =
          let same : now ≡ it = rw here at now_is in
          record {
            home = λ u t winner there none least most.
                ap (λ (d : Places). get_or (masks_in d u) (t - 241) 0) same ∙ so_far.home u t winner there none least most
                ∙ below_step k (winner.place * 256 + t) (found u (winner.place * 256 + t)) (apart here winner t none most);
            elsewhere = λ u. elim (cases_Bool (has_room_for lists p)) [
              | inl room ↦ in_lists (rw here at after_is) room u
              | inr none ↦
                  let f : ℕ × ℕ → ℕ = λ spot. found u (spot.0 * 256 + spot.1) in
                  let new : after ≡ listed true lists sector.unit p s mask = rw here at after_is in
                  let same_lists : after ≡ lists = new ∙ left_out lists sector.unit p s mask none in
                  ap (λ (l : OverflowLists). masks_at l u) same_lists ∙ so_far.elsewhere u
                  ∙ ap (λ (l : OverflowLists). map f (spots_in l u)) (sym same_lists)
            ];
          }
        where
          in_lists : after ≡ listed true lists sector.unit p s mask → has_room_for lists p ≡ true → (u : ℕ)
              → masks_at after u ≡ map (λ spot. found u (spot.0 * 256 + spot.1)) (spots_in after u)
          in_lists new room u =
              let f : ℕ × ℕ → ℕ = λ spot. found u (spot.0 * 256 + spot.1) in
              let (spots_are, masks_are) = found_lists lists sector.unit p s mask room in
              let all_masks = ap (λ (l : OverflowLists). get_or l.masks u []) new ∙ ap (λ (ms : List (List ℕ)). get_or ms u []) masks_are in
              let all_spots = ap (λ (l : OverflowLists). get_or l.spots u []) new ∙ ap (λ (ms : List (List (ℕ × ℕ))). get_or ms u []) spots_are in
              elim (cases_eq sector.unit u) [
                | inl mine ↦
                    let masks : masks_at after u ≡ masks_at lists u ++ mask ∷ [] =
                    all_masks
                    ∙ ap (λ (v : ℕ). get_or (set lists.masks sector.unit (masks_at lists sector.unit ++ mask ∷ [])) v []) (sym mine)
                    ∙ get_or-set_same lists.masks sector.unit (masks_at lists sector.unit ++ mask ∷ []) [] (omega (arith, low, listed_units, sound_lists.lists))
                    ∙ ap (λ (v : ℕ). masks_at lists v ++ mask ∷ []) mine in
                    let spots : spots_in after u ≡ spots_in lists u ++ (p, s) ∷ [] =
                    all_spots
                    ∙ ap (λ (v : ℕ). get_or (set lists.spots sector.unit (spots_in lists sector.unit ++ (p, s) ∷ [])) v []) (sym mine)
                    ∙ get_or-set_same lists.spots sector.unit (spots_in lists sector.unit ++ (p, s) ∷ []) [] (omega (arith, low, listed_units))
                    ∙ ap (λ (v : ℕ). spots_in lists v ++ (p, s) ∷ []) mine in
                    masks ∙ ap₂ (λ (xs : List ℕ) (m : ℕ). xs ++ m ∷ []) (so_far.elsewhere u) (sym (own u mine))
                    ∙ sym (map-append f (spots_in lists u) ((p, s) ∷ [])) ∙ ap (map f) (sym spots)
                | inr other ↦
                    let masks : masks_at after u ≡ masks_at lists u =
                    all_masks
                    ∙ get_or-set_other lists.masks sector.unit u (masks_at lists sector.unit ++ mask ∷ []) [] (λ e. other (sym e)) in
                    let spots : spots_in after u ≡ spots_in lists u =
                    all_spots
                    ∙ get_or-set_other lists.spots sector.unit u (spots_in lists sector.unit ++ (p, s) ∷ []) [] (λ e. other (sym e)) in
                    masks ∙ so_far.elsewhere u ∙ ap (map f) (sym spots)
              ]

      at_home : over ≡ false → IsMasked heads current found (k + 1) now after
      at_home here =
          let set_one : now ≡ with_mask it sector.unit s mask = rw here at now_is in
          let same : after ≡ lists = rw here at after_is in
          record {
            home = λ u t winner there none least most.
                elim (cases_eq sector.unit u) [
                  | inl mine ↦ ours here set_one u t winner there none least most mine
                  | inr other ↦
                      ap (λ (d : Places). get_or (masks_in d u) (t - 241) 0) set_one
                      ∙ ap (λ (xs : List ℕ). get_or xs (t - 241) 0)
                      (get_or-set_other it.masks sector.unit u (set (masks_in it sector.unit) (s - 241) mask) [] (λ e. other (sym e)))
                      ∙ so_far.home u t winner there none least most
                      ∙ none_step k (winner.place * 256 + t) (found u) (others u other)
                ];
            elsewhere = λ u.
                let f : ℕ × ℕ → ℕ = λ spot. found u (spot.0 * 256 + spot.1) in
                ap (λ (l : OverflowLists). masks_at l u) same ∙ so_far.elsewhere u
                ∙ ap (λ (l : OverflowLists). map f (spots_in l u)) (sym same);
          }
        where
          ours : over ≡ false → now ≡ with_mask it sector.unit s mask → (u t : ℕ) (winner : Winner) → current u ≡ Some winner
              → is_overflow_place (heads winner.place) ≡ false → 241 ≤ t → t < 256 → sector.unit ≡ u
              → get_or (masks_in now u) (t - 241) 0 ≡ mask_below (k + 1) (winner.place * 256 + t) (found u (winner.place * 256 + t))
          ours here set_one u t winner there none least most mine =
              elim (spot_of current p s sector.unit (heads p) spot (and_parts _ _ live).0) [
                | inl in_over ↦ absurd (let both : true ≡ false = sym in_over ∙ here in cc)
                | inr (w, w_is, at_p, last) ↦
                    let same_w : w ≡ winner = same_Some w winner (sym w_is ∙ ap current mine ∙ there) in
                    let place : winner.place ≡ p = ap (λ (x : Winner). x.place) (sym same_w) ∙ at_p in
                    let row : masks_in now u ≡ set (masks_in it u) (s - 241) mask =
                    ap (λ (d : Places). masks_in d u) set_one
                    ∙ ap (λ (v : ℕ). get_or (set it.masks sector.unit (set (masks_in it sector.unit) (s - 241) mask)) v []) (sym mine)
                    ∙ get_or-set_same it.masks sector.unit (set (masks_in it sector.unit) (s - 241) mask) [] (omega (arith, low, of_units, sound.masks))
                    ∙ ap (λ (v : ℕ). set (masks_in it v) (s - 241) mask) mine in
                    let size : length (masks_in it u) ≡ 15 = sound.sectors u (omega (arith, low, mine, of_units)) in
                    elim (cases_eq t s) [
                      | inl now_s ↦
                          let number : winner.place * 256 + t ≡ k = omega (arith, place, now_s) in
                          ap (λ (xs : List ℕ). get_or xs (t - 241) 0) row
                          ∙ ap (λ (v : ℕ). get_or (set (masks_in it u) (s - 241) mask) (v - 241) 0) now_s
                          ∙ get_or-set_same (masks_in it u) (s - 241) mask 0 (omega (arith, size, last, below))
                          ∙ sym (own u mine) ∙ sym (below_here k (found u k))
                          ∙ ap (λ (j : ℕ). mask_below (k + 1) j (found u j)) (sym number)
                      | inr not_s ↦
                          let apart_from : (t - 241) ≢ (s - 241) = λ e. not_s (omega (arith, e, least, last)) in
                          let number : (winner.place * 256 + t) ≢ k = λ e. not_s (omega (arith, e, place)) in
                          ap (λ (xs : List ℕ). get_or xs (t - 241) 0) row
                          ∙ get_or-set_other (masks_in it u) (s - 241) (t - 241) mask 0 apart_from
                          ∙ so_far.home u t winner there none least most
                          ∙ below_step k (winner.place * 256 + t) (found u (winner.place * 256 + t)) number
                    ]
              ]
