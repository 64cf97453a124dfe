-- How the tables follow a unit to its new place.
use Rattle.std.proofs.Common.{◌≡◌, ◌≢◌, ◌⊎◌, ℕ, ◌<◌, ◌≤◌, ◌+◌, ◌-◌, List, [], length, get_or, slice_index, None, inl, inr, refl, sym, ◌∙◌, ap, subst, arith}
use Rattle.std.specs.List.{Contains}
use Rattle.std.proofs.lemmas.Bool.{cases_eq, eq-eqb, ne_eqb}
use Rattle.std.proofs.lemmas.List.{length-set, get_or-set_same, get_or-set_other, length-map, get_or-map}
use Rattle.std.proofs.lemmas.List.Elements.{All-contains}
use Rattle.chip_trait.specs.Chart.{with_sector}
use Rattle.ipl_format.specs.Sector.{Sector}
use Rattle.ipl_meaning.specs.Chart.{Chart, IsOverflow, IsLive}
use Rattle.ipl_meaning.specs.Layout.{Entry, Shape, Layout, IsMark, IsLiveIn}
use Rattle.ipl_meaning.specs.Steps.{with_unit, NoMarkHas, MaySeal}
use Rattle.ipl_meaning.specs.Found.{MentionsBelow, IsPlaceBelow}
use Rattle.ipl_meaning.specs.Tables.{IsFree, StatusTable, Tables, spots_of, overflow_places, place_of, written_of, IsCountedClean}
use Rattle.ipl_meaning.specs.Mirrors.{MirrorsPlaces, MirrorsOverflow, MirrorsMasks, MirrorsLogs, Mirrors}
use Rattle.ipl_meaning.specs.TableSteps.{IsReady, IsMoved, TellsShape}
use Rattle.ipl_meaning.specs.MovingLaws.{CountedFollowMerges, TablesFollowMerges}
use Rattle.ipl_meaning.proofs.PutLemmas.{kept, live_still, live_back, mark_before}
use Rattle.ipl_meaning.proofs.SwitchLemmas.{headers_switch}
use Rattle.ipl_meaning.proofs.CounterLemmas.{new_serials_pass_the_status, headers_keep_the_counter}
use Rattle.ipl_meaning.proofs.MirrorLemmas.{map_contains, headers_may_go}
use Rattle.ipl_meaning.proofs.ApartLemmas.{home_not_over, home_not_status, homes_apart, none_still, some_still, status_not_over}
use Rattle.ipl_meaning.proofs.KnownLogLemmas.{counted_few, unmarked_still}

module _ (places : ℕ) (c : Chart) (it : Layout) (t after : Tables) (u p used : ℕ) (fresh : Shape) (mirrors : Mirrors places c it t) (low : u < it.count) (ready : IsReady places c t u p fresh)
    (in_use : ¬ IsFree t.places p) (moved : IsMoved t after u p used) (below : MentionsBelow after.next fresh.head) (all_below : IsPlaceBelow after.next c p) (clean : (s : ℕ) → 241 + used ≤ s → s < 256 → c p s ≡ None) where
  may : MaySeal places c it u p fresh
  may = headers_may_go places c it t u p fresh mirrors low ready

  abbrev y : Chart
  y = with_sector c p 0 fresh.head

  abbrev jt : Layout
  jt = with_unit it u fresh

  abbrev old : ℕ
  old = slice_index t.places.current u

  old_is : old ≡ (it.units u).home
  old_is = mirrors.directory.current u low

  bare_not_home : (v : ℕ) → v < it.count → p ≢ (it.units v).home
  bare_not_home v less at = let head = (mirrors.laid.each v less).chosen.here in let none : c (it.units v).home 0 ≡ None = rw at at ready.bare in cc (head, none)

  bare_not_over : ¬ IsOverflow c p
  bare_not_over over = let there = over.1 in let none = ready.bare in cc (there, none)

  bare_not_status : p ≢ it.status
  bare_not_status at = let head = mirrors.laid.chosen.here in let none : c it.status 0 ≡ None = rw at at ready.bare in cc (head, none)

  home_mine : (jt.units u).home ≡ p
  home_mine = rw (eq-eqb u u refl) ready.home

  shape_other : (v : ℕ) → v ≢ u → jt.units v ≡ it.units v
  shape_other v apart = rw (ne_eqb v u apart) refl

  shape_mine : jt.units u ≡ fresh
  shape_mine = rw (eq-eqb u u refl) refl

  overflow_part : (q : ℕ) → Contains (overflow_places after) q → Contains (overflow_places t) q
  overflow_part q (k, within, is) =
      let inside : k < length after.overflow.in_use = omega (arith, within, length-map after.overflow.in_use place_of) in
      let o = get_or after.overflow.in_use k (q, 0) in
      let same : place_of o ≡ q = sym (get_or-map place_of after.overflow.in_use k (q, 0) q inside) ∙ is in
      subst (Contains (overflow_places t)) same (map_contains t.overflow.in_use o.0 o.1 (moved.some k (q, 0) inside))

  -- a place that is free now is none of these
  not_home : (q : ℕ) → IsFree after.places q → (v : ℕ) → v < it.count → (jt.units v).home ≢ q
  not_home q free v less is = elim (moved.free q free) [
    | inl was ↦ elim (cases_eq v u) [
      | inl same ↦ in_use (rw (sym (sym home_mine ∙ ap (λ (w : ℕ). (jt.units w).home) (sym same) ∙ is)) at was)
      | inr apart ↦ mirrors.directory.not_home q was v less (ap (λ (z : Shape). z.home) (sym (shape_other v apart)) ∙ is)
    ]
    | inr (inl at_old) ↦ elim (cases_eq v u) [
      | inl same ↦ bare_not_home u low (sym home_mine ∙ ap (λ (w : ℕ). (jt.units w).home) (sym same) ∙ is ∙ at_old ∙ old_is)
      | inr apart ↦ apart (homes_apart places c it mirrors.laid v u less low (ap (λ (z : Shape). z.home) (sym (shape_other v apart)) ∙ is ∙ at_old ∙ old_is))
    ]
    | inr (inr (overflow, _)) ↦
        let over = (mirrors.overflow.headed q overflow).1 in
        elim (cases_eq v u) [
          | inl same ↦ bare_not_over (rw (sym (sym home_mine ∙ ap (λ (w : ℕ). (jt.units w).home) (sym same) ∙ is)) at over)
          | inr apart ↦ home_not_over places c it mirrors.laid v less (rw (sym (ap (λ (z : Shape). z.home) (sym (shape_other v apart)) ∙ is)) at over)
        ]
  ]

  not_status : (q : ℕ) → IsFree after.places q → it.status ≢ q
  not_status q free is = elim (moved.free q free) [
    | inl was ↦ mirrors.directory.not_status q was is
    | inr (inl at_old) ↦ home_not_status places c it mirrors.laid u low (sym old_is ∙ sym at_old ∙ sym is)
    | inr (inr (overflow, _)) ↦ status_not_over places c it mirrors.laid (let over = (mirrors.overflow.headed q overflow).1 in rw (sym is) at over)
  ]

  not_overflow : (q : ℕ) → IsFree after.places q → ¬ Contains (overflow_places after) q
  not_overflow q free listed = elim (moved.free q free) [
    | inl was ↦ mirrors.directory.not_overflow q was (overflow_part q listed)
    | inr (inl at_old) ↦ home_not_over places c it mirrors.laid u low (let over = (mirrors.overflow.headed q (overflow_part q listed)).1 in rw (at_old ∙ old_is) at over)
    | inr (inr (_, gone)) ↦ gone listed
  ]

  current : (v : ℕ) → v < it.count → slice_index after.places.current v ≡ (jt.units v).home
  current v less = elim (cases_eq v u) [
    | inl same ↦ rw (same, moved.current) (get_or-set_same t.places.current u p 0 (omega (arith, low, mirrors.directory.units)) ∙ sym home_mine)
    | inr apart ↦ rw moved.current (get_or-set_other t.places.current u v p 0 apart ∙ mirrors.directory.current v less ∙ ap (λ (z : Shape). z.home) (sym (shape_other v apart)))
  ]

  generation : TellsShape t after u fresh → (v : ℕ) → v < it.count
      → slice_index after.places.generations v ≡ (jt.units v).head.generation
  generation told v less = elim (cases_eq v u) [
    | inl same ↦ rw (same, told.generation) (get_or-set_same t.places.generations u fresh.head.generation 0 (omega (arith, low, mirrors.directory.heads)) ∙ ap (λ (z : Shape). z.head.generation) (sym shape_mine))
    | inr apart ↦ rw told.generation (get_or-set_other t.places.generations u v fresh.head.generation 0 apart ∙ mirrors.directory.generation v less ∙ ap (λ (z : Shape). z.head.generation) (sym (shape_other v apart)))
  ]

  units : length after.places.current ≡ it.count
  units = ap (λ (l : List ℕ). length l) moved.current ∙ length-set t.places.current u p ∙ mirrors.directory.units

  directory : TellsShape t after u fresh → MirrorsPlaces places jt after
  directory told = let was = mirrors.directory in record {
    units = units;
    logs = ap (λ (l : List ℕ). length l) moved.written ∙ length-set t.places.written u used ∙ was.logs;
    all = moved.all ∙ was.all;
    counts = ap (λ (l : List ℕ). length l) moved.erases ∙ was.counts;
    current = current;
    heads = ap (λ (l : List ℕ). length l) told.generation ∙ length-set t.places.generations u fresh.head.generation ∙ was.heads;
    generation = generation told;
    not_home = not_home;
    not_status = not_status;
    not_overflow = not_overflow;
  }

  no_overflow : (zero_is : ◌≡◌ {A = ℕ} 0 0) → fresh.head.kind ≢ 3
  no_overflow zero_is is = omega (arith, may.fits.0, is)

  back : (v home generation q s : ℕ) (x : Sector) → IsLive y places v home generation q s x → IsLive c places v home generation q s x
  back v home generation = live_back c p 0 fresh.head may.free no_overflow places v home generation (λ is _. omega (arith, may.fits.0, is))

  -- the unit's live sectors all stand at its place now
  gathered : (q s : ℕ) (x : Sector) → IsLiveIn y places jt u q s x → q ≡ p
  gathered q s x live =
      let now : IsLive y places u p fresh.head.generation q s x = rw (shape_mine, may.home) at live in
      let (e, listed, place, number) = may.log.all q s x (back u p fresh.head.generation q s x now) in
      sym place ∙ All-contains (λ (e : Entry). e.place ≡ p) fresh.log e ready.gathered listed

  spots_mine : spots_of after u ≡ []
  spots_mine = rw moved.spots (get_or-set_same t.overflow.spots u [] [] (omega (arith, low, mirrors.overflow.units)))

  spots_other : (v : ℕ) → v ≢ u → spots_of after v ≡ spots_of t v
  spots_other v apart = rw moved.spots (get_or-set_other t.overflow.spots u v [] [] apart)

  none_listed : (q n : ℕ) → ¬ Contains (spots_of after u) (q, n)
  none_listed q n is = let (k, within, same) = rw spots_mine at is in omega (arith, within)

  live_same : (v q n : ℕ) (x : Sector) → v ≢ u → IsLiveIn y places jt v q n x → IsLiveIn c places it v q n x
  live_same v q n x apart live = back v (it.units v).home (it.units v).head.generation q n x (rw (shape_other v apart) at live)

  overflow_there : MirrorsOverflow places y jt after
  overflow_there = let was = mirrors.overflow in record {
    units = ap (λ (l : List (List (ℕ × ℕ))). length l) moved.spots ∙ length-set t.overflow.spots u [] ∙ was.units;
    listed = λ v q n x less live away. elim (cases_eq v u) [
      | inl same ↦ absurd (away (gathered q n x (rw same at live) ∙ sym home_mine ∙ ap (λ (w : ℕ). (jt.units w).home) (sym same)))
      | inr apart ↦ rw (spots_other v apart) (was.listed v q n x less (live_same v q n x apart live) (λ at. away (at ∙ ap (λ (z : Shape). z.home) (sym (shape_other v apart)))))
    ];
    only = λ v q n less is. elim (cases_eq v u) [
      | inl same ↦ absurd (none_listed q n (rw same at is))
      | inr apart ↦
          let (away, x, live) = was.only v q n less (rw (spots_other v apart) at is) in
          (λ at. away (at ∙ ap (λ (z : Shape). z.home) (shape_other v apart)), x, rw (shape_other v apart) (live_still c p 0 fresh.head may.free places v (it.units v).home (it.units v).head.generation q n x live))
    ];
    once = λ v less. elim (cases_eq v u) [
      | inl same ↦ rw (same, spots_mine) (λ i j d before within. absurd (omega (arith, within)))
      | inr apart ↦ rw (spots_other v apart) (was.once v less)
    ];
    few = λ v less. elim (cases_eq v u) [
      | inl same ↦ rw (same, spots_mine) (omega arith)
      | inr apart ↦ rw (spots_other v apart) (was.few v less)
    ];
    in_overflow = λ v q n less is. elim (cases_eq v u) [
      | inl same ↦ absurd (none_listed q n (rw same at is))
      | inr apart ↦ let listed = rw (spots_other v apart) at is in moved.named v q n apart listed (was.in_overflow v q n less listed)
    ];
    headed = λ q is. let (within, over) = was.headed q (overflow_part q is) in (within, (over.0, kept c p 0 fresh.head may.free q 0 over.0 over.1, over.2));
    two = moved.two;
    apart = moved.apart;
  }

  written_mine : written_of after u ≡ used
  written_mine = rw moved.written (get_or-set_same t.places.written u used 0 (omega (arith, low, mirrors.directory.logs)))

  written_other : (v : ℕ) → v ≢ u → written_of after v ≡ written_of t v
  written_other v apart = rw moved.written (get_or-set_other t.places.written u v used 0 apart)

  -- what is counted as clean now was so before, or stands behind the log sectors of the new place
  merge_counted : (q n : ℕ) → IsCountedClean after q n → (IsCountedClean t q n ⊎ ((q ≡ p) × (241 + used ≤ n) × (n < 256))) × (q ≡ p → n ≢ 0)
  merge_counted q n (small, inl (v, less, is, first)) =
      let inside : v < it.count = omega (arith, less, units) in
      let number : n ≢ 0 = λ none. omega (arith, first, none) in
      elim (cases_eq v u) [
        | inl same ↦
            let at : q ≡ p = is ∙ current v inside ∙ ap (λ (w : ℕ). (jt.units w).home) same ∙ home_mine in
            let from : 241 + used ≤ n = rw (same, written_mine, counted_few used moved.few) at first in
            (inr (at, from, small), λ _. number)
        | inr apart ↦
            let home : q ≡ slice_index t.places.current v = is ∙ current v inside ∙ ap (λ (z : Shape). z.home) (shape_other v apart) ∙ sym (mirrors.directory.current v inside) in
            (inl (small, inl (v, omega (arith, inside, mirrors.directory.units), home, rw (written_other v apart) at first)), λ _. number)
      ]
  merge_counted q n (small, inr (inl (first, is, above))) = (
    inl (small, inr (inl (first, All-contains (Contains t.overflow.in_use) after.overflow.in_use (q, first) moved.some is, above))),
    λ at _. bare_not_over (let over = (mirrors.overflow.headed q (overflow_part q (map_contains after.overflow.in_use q first is))).1 in rw at at over),
  )
  merge_counted q n (small, inr (inr (is, above))) = (
    inl (small, inr (inr (rw moved.status at is, rw moved.status at above))),
    λ at _. bare_not_status (sym at ∙ is ∙ ap (λ (s : StatusTable). s.place) moved.status ∙ mirrors.status.place),
  )

  -- nothing was put where a sector is counted as clean
  counted_clean : (q n : ℕ) → IsCountedClean after q n → y q n ≡ None
  counted_clean q n is = let (was, apart) = merge_counted q n is in
      none_still c p 0 fresh.head q n (elim was [ inl before ↦ mirrors.counted_clean q n before | inr (at, from, small) ↦ rw at (clean n from small) ]) apart

  masks_there : TellsShape t after u fresh → MirrorsMasks jt after
  masks_there told = let was = mirrors.masks in record {
    units = ap (λ (l : List (List ℕ)). length l) told.home ∙ length-set t.places.masks u told.masks ∙ was.units;
    lists = ap (λ (l : List (List ℕ)). length l) told.elsewhere ∙ length-set t.overflow.masks u [] ∙ was.lists;
    sectors = λ v less. elim (cases_eq v u) [
      | inl same ↦ rw (same, told.home) (ap length (get_or-set_same t.places.masks u told.masks [] (omega (arith, low, was.units))) ∙ told.sectors)
      | inr apart ↦ rw told.home (ap length (get_or-set_other t.places.masks u v told.masks [] apart) ∙ was.sectors v less)
    ];
    home = λ v s less least most. elim (cases_eq v u) [
      | inl same ↦ rw (same, told.home, shape_mine) (ap (λ (l : List ℕ). slice_index l (s - 241)) (get_or-set_same t.places.masks u told.masks [] (omega (arith, low, was.units))) ∙ told.each s least most)
      | inr apart ↦ rw (told.home, shape_other v apart) (ap (λ (l : List ℕ). slice_index l (s - 241)) (get_or-set_other t.places.masks u v told.masks [] apart) ∙ was.home v s less least most)
    ];
    elsewhere = λ v less. elim (cases_eq v u) [
      | inl same ↦ rw (same, told.elsewhere, spots_mine) (get_or-set_same t.overflow.masks u [] [] (omega (arith, low, was.lists)))
      | inr apart ↦ rw (told.elsewhere, spots_other v apart, shape_other v apart) (get_or-set_other t.overflow.masks u v [] [] apart ∙ was.elsewhere v less)
    ];
  }

  mark_then : (s : ℕ) (mark : Sector) → IsMark y it.status it.head.generation s mark → IsMark c it.status it.head.generation s mark
  mark_then = mark_before c p 0 fresh.head may.free (λ is. omega (arith, is, may.fits.0)) it.status it.head.generation

  -- no mark comes behind the new header
  none_behind : NoMarkHas y jt u
  none_behind s mark w has =
      let passed = (new_serials_pass_the_status places c it t.next fresh.head.serial mirrors.numbers.above ready.new_serial).0 s mark (mark_then s mark w) in
      rw shape_mine (omega (arith, passed))

  logs : ((s : ℕ) → 241 ≤ s → s < 241 + used → c p s ≢ None) → MirrorsLogs y jt after
  logs carried = let was = mirrors.logs in record {
    unmarked = λ v less first. elim (cases_eq v u) [
      | inl same ↦ rw same none_behind
      | inr apart ↦ unmarked_still c y it jt mark_then v (ap (λ (z : Shape). z.head) (shape_other v apart))
          (was.unmarked v less (rw (written_other v apart) at first))
    ];
    whole = λ v n less known least most. elim (cases_eq v u) [
      | inl same ↦
          let end : n < 241 + used = rw (same, written_mine, counted_few used moved.few) at most in
          rw (same, home_mine) (some_still c p 0 fresh.head p n (carried n least end))
      | inr apart ↦ rw (shape_other v apart) (some_still c p 0 fresh.head (it.units v).home n
          (was.whole v n less (rw (written_other v apart) at known) least (rw (written_other v apart) at most)))
    ];
  }

  merge_followed : TellsShape t after u fresh → ((s : ℕ) → 241 ≤ s → s < 241 + used → c p s ≢ None) → Mirrors places y jt after
  merge_followed told carried = record {
    laid = (headers_switch places c it u p fresh mirrors.laid may).0;
    directory = directory told;
    overflow = overflow_there;
    status = let was = mirrors.status in record {
      place = ap (λ (s : StatusTable). s.place) moved.status ∙ was.place;
      generation = ap (λ (s : StatusTable). s.generation) moved.status ∙ was.generation;
      numbers = rw moved.status was.numbers;
    };
    numbers = let was = mirrors.numbers in record {
      above = (headers_keep_the_counter places c it p fresh.head after.next ready.bare (omega (arith, may.fits.0), omega (arith, may.fits.0)) below all_below (λ n found. let low = was.above n found in omega (arith, low, moved.next))).0 u fresh ready.home;
      below = rw moved.active (λ k none within. let low = was.below k none within in omega (arith, low, moved.next));
      once = rw moved.active was.once;
      waits = rw moved.active was.waits;
    };
    masks = masks_there told;
    logs = logs carried;
    counted_clean = counted_clean;
  }

pub tables_follow_merges : TablesFollowMerges
tables_follow_merges places c it t after u p used fresh mirrors low ready in_use moved masked below all_below clean carried =
    merge_followed places c it t after u p used fresh mirrors low ready in_use moved below all_below clean masked carried

pub counted_follow_merges : CountedFollowMerges
counted_follow_merges places c it t after u p used fresh mirrors low ready in_use moved below all_below clean = merge_counted places c it t after u p used fresh mirrors low ready in_use moved below all_below clean
