-- After an opening, the tables mirror the chart.
use Rattle.std.proofs.Common.{◌≡◌, ◌≢◌, inl, inr, ◌<◌, ◌≤◌, ◌+◌, ◌*◌, ◌/◌, ◌%◌, ℕ, Bool, true, false, List, length, map, Option, Some, None, sym, ◌∙◌, ap, subst, arith}
use Rattle.std.specs.List.{Contains, AllPairs}
use Rattle.std.specs.Prelude.{IsTrue}
use Rattle.std.proofs.lemmas.List.{length-map}
use Rattle.std.proofs.lemmas.List.Elements.{All-contains}
use Rattle.std.proofs.lemmas.Bool.{eq-eqb, and_parts, and_from}
use Rattle.std.proofs.lemmas.Option.{same_Some}
use Rattle.ipl_format.specs.Sector.{Sector}
use Rattle.ipl_meaning.specs.Chart.{Chart, IsLive, IsOverflow}
use Rattle.ipl_meaning.specs.Layout.{Layout, Laid, IsHomeOrListed, IsLiveIn}
use Rattle.ipl_meaning.specs.Found.{IsAbove}
use Rattle.ipl_meaning.specs.Tables.{Tables, IsFree, spots_of, overflow_places, written_of, IsCountedClean}
use Rattle.ipl_meaning.specs.Mirrors.{MirrorsMasks, MirrorsLogs, Mirrors, AreApart}
use Rattle.ipl_meaning.specs.First.{passes, count_below}
use Rattle.ipl_meaning.specs.Chosen.{KeptHeader, Winner, header_at, current_at, status_at, units_at, head_of}
use Rattle.ipl_meaning.specs.Live.{is_overflow_place, Mark, mark_of, mark_at, marks_in}
use Rattle.ipl_meaning.specs.Faults.{is_in, holds_live}
use Rattle.ipl_meaning.specs.LaidOut.{layout_in, committed_numbers}
use Rattle.ipl_meaning.proofs.HeaderLemmas.{chosen_are_current, chosen_are_status}
use Rattle.ipl_meaning.proofs.LiveLemmas.{live_from, live_to, away_is_overflow, overflow_from, home_apart}
use Rattle.ipl_meaning.proofs.NumberLemmas.{greatest_is_above}
use Rattle.ipl_meaning.proofs.BelowLemmas.{all_has, all_from, any_some, count_within}
use Rattle.ipl_meaning.proofs.LaidLemmas.{mark_from, mark_to, passes_from, number_of_spot, is_formed}
use Rattle.ipl_meaning.specs.Masks.{mask_at_spot}
use Rattle.ipl_meaning.proofs.MaskLemmas.{map_same}
use Rattle.ipl_meaning.specs.FoundLogs.{spot_of, spots_in, generation_of, mask_found}
use Rattle.ipl_meaning.proofs.FoundMaskLemmas.{mask_is}
use Rattle.ipl_meaning.specs.Opened.{AreOpened, OpenedTablesMirror}
use Rattle.ipl_meaning.proofs.LogLemmas.{opened_beyond, opened_whole, opened_clean}
use Rattle.ipl_meaning.proofs.ListLemmas.{any, all_apart, all_length}
use Rattle.ipl_meaning.proofs.SpotLemmas.{free_low, number_has, has_number, spot_listed, spot_from, spot_to, same_spot, in_use_from, listed_holds, held_listed, places_apart, as_many}

module _ (places : ℕ) (c : Chart) (t : Tables) (it : AreOpened places c t) (laid : Laid places c (layout_in c places)) where
  abbrev heads : ℕ → Option KeptHeader
  heads = header_at c places

  abbrev current : ℕ → Option Winner
  current = current_at c places

  abbrev lay : Layout
  lay = layout_in c places

  abbrev holds : ℕ → Bool
  holds = holds_live heads (marks_in c places (places * 256))

  -- the spot of the unit at a number, where there is one
  abbrev spots : ℕ → ℕ → Option (ℕ × ℕ)
  spots u k = spot_of u (mark_at heads current c k)

  -- the live log sectors of the unit, whose header stands there
  abbrev LiveAs : Winner → ℕ → ℕ → ℕ → Sector → Type 0
  LiveAs winner u p s sector = IsLive c places u winner.place winner.head.generation p s sector

  -- the unit's header, as it is found
  abbrev own : ℕ → Winner
  own u = record { place = (lay.units u).home; head = head_of places (lay.units u).head }

  own_is : (u : ℕ) → u < units_at c places → current u ≡ Some (own u)
  own_is u low =
      chosen_are_current c places u (lay.units u).home (lay.units u).head low (laid.each u low).chosen

  -- ---- the directory

  free_within : (p : ℕ) → IsFree t.places p → p < places
  free_within p free = omega (arith, free_low t.places.in_use p free, it.directory.all)

  not_home : (p : ℕ) → IsFree t.places p → (u : ℕ) → u < units_at c places → (lay.units u).home ≢ p
  not_home p free u low =
      ((it.directory.free p (free_within p free)).0 free).0.not_home u (own u) low (own_is u low)

  not_status : (p : ℕ) → IsFree t.places p → lay.status ≢ p
  not_status p free =
      ((it.directory.free p (free_within p free)).0 free).0.not_status
      (record { place = lay.status; head = head_of places lay.head })
      (chosen_are_status c places lay.status lay.head laid.chosen)

  above : IsAbove places c lay t.next
  above n found =
      let less = greatest_is_above c places lay laid n found in omega (arith, less, it.directory.number)

  -- ---- the spots of a unit

  -- at each of them a live sector of the unit stands, in an overflow place
  spot_live : (u p s k : ℕ) → u < units_at c places → spots u k ≡ Some (p, s)
      → (p ≢ (lay.units u).home) × (sector : Sector) × IsLiveIn c places lay u p s sector
  spot_live u p s k low is =
      let spot = spot_from u (mark_at heads current c k) p s is in
      let from = mark_from c places k spot.mark spot.here in
      let place : k / 256 ≡ p = ap (λ (m : Mark). m.place) from.is ∙ spot.place in
      let number : k % 256 ≡ s = ap (λ (m : Mark). m.number) from.is ∙ spot.number in
      let unit : from.sector.unit ≡ u = ap (λ (m : Mark). m.unit) from.is ∙ spot.unit in
      let overflow : is_overflow_place (heads p) ≡ true =
      ap (λ (q : ℕ). is_overflow_place (heads q)) (sym place)
      ∙ (ap (λ (m : Mark). m.in_overflow) from.is ∙ spot.in_overflow) in
      let found = live_from c places k from.sector from.live in
      let one : found.winner ≡ own u =
      same_Some found.winner (own u) (sym found.current ∙ (ap current unit ∙ own_is u low)) in
      let away : p ≢ (lay.units u).home = λ at.
      home_apart c places u (lay.units u).home (lay.units u).head (laid.each u low).chosen
      (subst (IsOverflow c) at (overflow_from c places p overflow).1) in
      let mine : LiveAs (own u) u (k / 256) (k % 256) from.sector =
      subst (λ (x : Winner). LiveAs x u (k / 256) (k % 256) from.sector) one
      (subst (λ (v : ℕ). LiveAs found.winner v (k / 256) (k % 256) from.sector) unit found.live) in (
        away,
        from.sector,
        subst (λ (n : ℕ). LiveAs (own u) u p n from.sector) number
            (subst (λ (q : ℕ). LiveAs (own u) u q (k % 256) from.sector) place mine),
      )

  -- and each such sector stands at one of them
  live_spot : (u p s : ℕ) (sector : Sector) → u < units_at c places → IsLiveIn c places lay u p s sector
      → p ≢ (lay.units u).home → spots u (p * 256 + s) ≡ Some (p, s)
  live_spot u p s sector low live away =
      let k : ℕ = p * 256 + s in
      let place : k / 256 ≡ p = omega (arith, live.within) in
      let number : k % 256 ≡ s = omega (arith, live.within) in
      let mine : LiveAs (own u) u (k / 256) (k % 256) sector =
      subst (λ (n : ℕ). LiveAs (own u) u (k / 256) n sector) (sym number)
      (subst (λ (q : ℕ). LiveAs (own u) u q s sector) (sym place) live) in
      let found = live_to c places k u (own u) sector (own_is u low) mine in
      let overflow : is_overflow_place (heads (k / 256)) ≡ true =
      ap (λ (q : ℕ). is_overflow_place (heads q)) place
      ∙ away_is_overflow c places u (own u).place (own u).head.generation p s sector live away in
      spot_to u (mark_at heads current c k) (mark_of heads k sector) (mark_to c places k sector found)
      overflow live.of_unit
      ∙ ap Some (same_spot (k / 256) (k % 256) p s place number)

  spots_are : (u : ℕ) → u < units_at c places → spots_of t u ≡ spots_in c places u
  spots_are u low = it.overflow.spots_are u low

  listed : (u p s : ℕ) (sector : Sector) → u < units_at c places → IsLiveIn c places lay u p s sector
      → p ≢ (lay.units u).home → Contains (spots_of t u) (p, s)
  listed u p s sector low live away =
      subst (λ (xs : List (ℕ × ℕ)). Contains xs (p, s)) (sym (spots_are u low))
      (all_has (spots u) (places * 256) (p * 256 + s) (p, s) (omega (arith, live.within))
      (live_spot u p s sector low live away))

  -- one of the spots, and its number
  spot_at : (u p s : ℕ) → u < units_at c places → Contains (spots_of t u) (p, s)
      → (k : ℕ) × (k < places * 256) × (spots u k ≡ Some (p, s))
  spot_at u p s low has =
      all_from (spots u) (places * 256) (p, s)
      (subst (λ (xs : List (ℕ × ℕ)). Contains xs (p, s)) (spots_are u low) has)

  only : (u p s : ℕ) → u < units_at c places → Contains (spots_of t u) (p, s)
      → (p ≢ (lay.units u).home) × (sector : Sector) × IsLiveIn c places lay u p s sector
  only u p s low has = let at = spot_at u p s low has in spot_live u p s at.0 low at.2

  -- a spot says its number
  number_from : (u p s k : ℕ) → spots u k ≡ Some (p, s) → k ≡ p * 256 + s
  number_from u p s k is =
      let spot = spot_from u (mark_at heads current c k) p s is in
      let from = mark_from c places k spot.mark spot.here in
      let place : k / 256 ≡ p = ap (λ (m : Mark). m.place) from.is ∙ spot.place in
      let number : k % 256 ≡ s = ap (λ (m : Mark). m.number) from.is ∙ spot.number in
      omega (arith, place, number)

  once : (u : ℕ) → u < units_at c places → AllPairs AreApart (spots_of t u)
  once u low =
      subst (AllPairs AreApart) (sym (spots_are u low))
      (all_apart (spots u) (places * 256)
      (λ j k a before within first second.
      omega (arith, before, number_from u a.0 a.1 j first, number_from u a.0 a.1 k second)))

  few : (u : ℕ) → u < units_at c places → length (spots_of t u) ≤ 16
  few u low =
      let log = (laid.each u low).log in
      let size : length (spots_of t u) ≡ count_below (λ k. passes any (spots u k)) (places * 256) =
      ap length (spots_are u low) ∙ all_length (spots u) (places * 256) in
      let among = count_within (λ k. passes any (spots u k)) (places * 256)
      (map number_of_spot log.spots)
      (λ k within is.
      let there = passes_from any (spots u k) is in
      let (away, sector, live) = spot_live u there.0.0 there.0.1 k low there.1 in
      let (e, has, place, number) = log.all there.0.0 there.0.1 sector live in
      let spot = All-contains (IsHomeOrListed log.spots (lay.units u).home) (lay.units u).log e log.listed has
      (λ at. away (sym place ∙ at)) in
      spot_listed log.spots e.place e.number k spot
      (omega (arith, place, number, number_from u there.0.0 there.0.1 k there.1))) in
      omega (arith, size, among, length-map log.spots number_of_spot, log.few)

  -- ---- the overflow places

  headed : (p : ℕ) → Contains (overflow_places t) p → (p < places) × IsOverflow c p
  headed p has =
      let held = listed_holds holds places t.overflow.in_use it.overflow.in_use_are p has in
      overflow_from c places p (and_parts _ _ held.0).0

  in_overflow : (u p s : ℕ) → u < units_at c places → Contains (spots_of t u) (p, s)
      → Contains (overflow_places t) p
  in_overflow u p s low has =
      let at = spot_at u p s low has in
      let spot = spot_from u (mark_at heads current c at.0) p s at.2 in
      let (away, sector, live) = spot_live u p s at.0 low at.2 in
      let overflow =
      away_is_overflow c places u (own u).place (own u).head.generation p s sector live away in
      let marked = any_some (mark_at heads current c) (is_in p) (places * 256) at.0 spot.mark at.1
      spot.here (eq-eqb spot.mark.place p spot.place) in
      held_listed holds places t.overflow.in_use it.overflow.in_use_are p live.within.0
      (and_from _ _ overflow marked)

  two : length t.overflow.in_use ≤ 2
  two =
      let size = as_many holds places t.overflow.in_use it.overflow.in_use_are in
      omega (arith, size, (is_formed c places lay laid).few_overflows)

  not_overflow : (p : ℕ) → IsFree t.places p → ¬ Contains (overflow_places t) p
  not_overflow p free has =
      let held = listed_holds holds places t.overflow.in_use it.overflow.in_use_are p has in
      let none = ((it.directory.free p (free_within p free)).0 free).0.not_held in
      let no_way : true ≡ false = sym held.0 ∙ none in cc no_way

  -- ---- the log sectors at the units' places

  -- only of these some may count as clean, and none of them checks
  counted_clean : (p s : ℕ) → IsCountedClean t p s → c p s ≡ None
  counted_clean p s (small, inl (u, less, is, first)) =
      let low : u < units_at c places = omega (arith, less, it.directory.units) in
      ap (λ (q : ℕ). c q s) (is ∙ it.directory.current u low)
      ∙ opened_clean places c u (written_of t u) (it.directory.written u low) s first small
  counted_clean p s (small, inr (inl (first, is, above_it))) =
      let held = in_use_from holds places t.overflow.in_use it.overflow.in_use_are p first is in
      absurd (omega (arith, small, above_it, held.1))
  counted_clean p s (small, inr (inr (is, above_it))) = absurd (omega (arith, small, above_it, it.status.first_is))

  logs : MirrorsLogs c lay t
  logs = record {
    unmarked = λ u low first.
        let beyond = opened_beyond places c u (written_of t u) (it.directory.written u low) in
        absurd (omega (arith, beyond, first));
    whole = λ u n low. opened_whole places c u (written_of t u) (it.directory.written u low) n;
  }

  -- ---- all of it

  numbers : (tid : ℕ) → (IsTrue (lay.committed tid) → Contains t.status.numbers tid)
      × (Contains t.status.numbers tid → IsTrue (lay.committed tid))
  numbers tid =
      let found = committed_numbers c (status_at c places) in (
        λ is. (it.status.numbers_are tid).1 (number_has tid found is),
        λ has. has_number tid found ((it.status.numbers_are tid).0 has),
      )

  none_active : (k : ℕ) → k < length t.active → ⊥
  none_active k within = omega (arith, within, ap length it.active)

  home_low : (u : ℕ) → u < units_at c places → (lay.units u).home < places
  home_low u low = (laid.each u low).chosen.within

  masks : MirrorsMasks lay t
  masks = record {
    units = it.masks.units;
    lists = it.masks.lists;
    sectors = it.masks.sectors;
    home = λ u s low least most. it.masks.home u s low least most
        ∙ sym (mask_is c places u (lay.units u).home s (home_low u low) most);
    elsewhere = λ u low. it.masks.elsewhere u low
        ∙ map_same (λ (spot : ℕ × ℕ). mask_found c places u (spot.0 * 256 + spot.1)) (mask_at_spot (lay.units u).log) (spots_in c places u) (λ spot has.
        let listed_is = subst (λ (xs : List (ℕ × ℕ)). Contains xs spot) (sym (spots_are u low)) has in
        let (away, sector, live) = only u spot.0 spot.1 low listed_is in
        sym (mask_is c places u spot.0 spot.1 live.within.0 live.within.1))
        ∙ ap (map (mask_at_spot (lay.units u).log)) (sym (spots_are u low));
  }

  pub mirror : Mirrors places c lay t
  mirror = record {
    laid = laid;
    directory = record {
      units = it.directory.units;
      logs = it.directory.logs;
      all = it.directory.all;
      counts = it.directory.counts;
      current = it.directory.current;
      heads = it.directory.heads;
      generation = λ u low. it.directory.generation u low ∙ ap generation_of (own_is u low);
      not_home = not_home;
      not_status = not_status;
      not_overflow = not_overflow;
    };
    overflow = record {
      units = it.overflow.units;
      listed = listed;
      only = only;
      once = once;
      few = few;
      in_overflow = in_overflow;
      headed = headed;
      two = two;
      apart = places_apart holds places t.overflow.in_use it.overflow.in_use_are;
    };
    status = record {
      place = it.status.place_is;
      generation = it.status.generation_is;
      numbers = numbers;
    };
    numbers = record {
      above = above;
      below = λ k e within. absurd (none_active k within);
      once = λ i j e before within. absurd (none_active j within);
      waits = λ k e within. absurd (none_active k within);
    };
    masks = masks;
    logs = logs;
    counted_clean = counted_clean;
  }

pub opened_tables_mirror : OpenedTablesMirror
opened_tables_mirror places c t it laid = mirror places c t it laid
