-- How the tables follow a log sector in an overflow place.
use Rattle.std.proofs.Common.{◌≡◌, ◌≢◌, ◌⊎◌, ℕ, ◌<◌, ◌≤◌, List, [], ◌∷◌, ◌++◌, length, map, false, Some, inl, inr, refl, sym, ◌∙◌, ap, ap₂, arith, zero, suc}
use Rattle.std.specs.List.{Contains}
use Rattle.std.proofs.lemmas.Bool.{cases_eq}
use Rattle.std.proofs.lemmas.List.{length-set, get_or-set_same, get_or-set_other, length-map, length-append, map-append, get_or_default}
use Rattle.std.proofs.lemmas.List.Quantifiers.{all_pairs_push}
use Rattle.std.proofs.lemmas.List.Elements.{Contains-append_left, Contains-append_right, Contains-append_cases}
use Rattle.chip_trait.specs.Chart.{with_sector}
use Rattle.ipl_format.specs.Sector.{Sector}
use Rattle.ipl_format.specs.Record.{Record}
use Rattle.ipl_meaning.specs.Chart.{Chart, IsOverflow, IsLive}
use Rattle.ipl_meaning.specs.Layout.{Entry, Layout, IsLiveIn}
use Rattle.ipl_meaning.specs.Masks.{mask_of, mask_at_spot, stands_at}
use Rattle.ipl_meaning.specs.Steps.{with_log, MayLog, entry_at}
use Rattle.ipl_meaning.specs.Found.{MentionsBelow}
use Rattle.ipl_meaning.specs.Tables.{Tables, spots_of, masks_of}
use Rattle.ipl_meaning.specs.Mirrors.{AreApart, MirrorsPlaces, MirrorsOverflow, MirrorsMasks, Mirrors}
use Rattle.ipl_meaning.specs.TableSteps.{IsFreshLog, after_overflow_log, with_next_spot}
use Rattle.ipl_meaning.specs.FollowingLaws.{TablesFollowOverflowLogs}
use Rattle.ipl_meaning.proofs.PutLemmas.{here, kept, mark_before}
use Rattle.ipl_meaning.proofs.WaitLemmas.{log_sectors_wait}
use Rattle.ipl_meaning.proofs.MirrorLemmas.{map_contains, log_sectors_may_go_elsewhere}
use Rattle.ipl_meaning.proofs.ApartLemmas.{home_not_over, none_still, some_still}
use Rattle.ipl_meaning.proofs.KnownLogLemmas.{logs_still}
use Rattle.ipl_meaning.proofs.CountedLemmas.{same_places, overflow_counted}
use Rattle.ipl_meaning.proofs.MaskLemmas.{NoneStands, mask_of_new, mask_of_others, stands_here, stands_away, map_same}
use Rattle.ipl_meaning.proofs.LogFollowLemmas.{log_mine, log_other, none_stands, live_then, new_or_live, numbers_then, over_then, same_head, same_home}

module _ (places : ℕ) (c : Chart) (it : Layout) (t : Tables) (u p s next : ℕ) (sector : Sector) (records : List Record) (mirrors : Mirrors places c it t) (low : u < it.count)
    (spot : Contains t.overflow.in_use (p, s)) (some : 1 ≤ s) (small : s < 256) (room : length (spots_of t u) < 16) (fresh : IsFreshLog it t u sector records) (more : t.next ≤ next) (below : MentionsBelow next sector) where
  may : MayLog places c it u p s sector records
  may = log_sectors_may_go_elsewhere places c it t u p s sector records mirrors low spot some small room fresh

  abbrev y : Chart
  y = with_sector c p s sector

  abbrev jt : Layout
  jt = with_log it u (entry_at p s sector records)

  abbrev tables : Tables
  tables = after_overflow_log t u p s (mask_of records) next

  is_over : IsOverflow c p
  is_over = (mirrors.overflow.headed p (map_contains t.overflow.in_use p s spot)).1

  directory : MirrorsPlaces places jt tables
  directory = let was = mirrors.directory in record {
    units = was.units;
    logs = was.logs;
    all = was.all;
    counts = was.counts;
    current = λ v less. was.current v less ∙ sym (same_home places c it u p s sector records may v);
    heads = was.heads;
    generation = λ v less. was.generation v less ∙ ap (λ (x : Sector). x.generation) (sym (same_head places c it u p s sector records may v));
    not_home = λ q free v less is. was.not_home q free v less (sym (same_home places c it u p s sector records may v) ∙ is);
    not_status = was.not_status;
    not_overflow = λ q free. rw (same_places p t.overflow.in_use) (was.not_overflow q free);
  }

  mine : spots_of tables u ≡ spots_of t u ++ (p, s) ∷ []
  mine = get_or-set_same t.overflow.spots u (spots_of t u ++ (p, s) ∷ []) [] (omega (arith, low, mirrors.overflow.units))

  spots_other : (v : ℕ) → v ≢ u → spots_of tables v ≡ spots_of t v
  spots_other v apart = get_or-set_other t.overflow.spots u v (spots_of t u ++ (p, s) ∷ []) [] apart

  -- a spot of before is one now
  listed_then : (v q n : ℕ) → Contains (spots_of t v) (q, n) → Contains (spots_of tables v) (q, n)
  listed_then v q n is = elim (cases_eq v u) [
    | inl same ↦ rw (same, mine) (Contains-append_left (spots_of t u) ((p, s) ∷ []) (q, n) (rw same at is))
    | inr apart ↦ rw (spots_other v apart) is
  ]

  new_or_listed : (v q n : ℕ) → Contains (spots_of tables v) (q, n) → ((v ≡ u) × (q ≡ p) × (n ≡ s)) ⊎ Contains (spots_of t v) (q, n)
  new_or_listed v q n is = elim (cases_eq v u) [
    | inl same ↦ elim (Contains-append_cases (spots_of t u) ((p, s) ∷ []) (q, n) (rw (same, mine) at is)) [
      | inl old ↦ inr (rw same old)
      | inr (zero, _, new) ↦ inl (same, ap (λ (z : ℕ × ℕ). z.0) (sym new), ap (λ (z : ℕ × ℕ). z.1) (sym new))
      | inr (suc k, inside, new) ↦ absurd (omega (arith, inside))
    ]
    | inr apart ↦ inr (rw (spots_other v apart) at is)
  ]

  live_new : IsLiveIn y places jt u p s sector
  live_new = rw (same_home places c it u p s sector records may u, same_head places c it u p s sector records may u) (let live : IsLive y places u (it.units u).home (it.units u).head.generation p s sector = record {
    here = here c p s sector may.free;
    kind = may.kind;
    of_unit = may.of_unit;
    of_generation = may.of_generation;
    within = may.within;
    counts = inr ((is_over.0, kept c p s sector may.free p 0 is_over.0 is_over.1, is_over.2), some);
  } in live)

  stands_away_home : (v : ℕ) → v < it.count → p ≢ (it.units v).home
  stands_away_home v less at = home_not_over places c it mirrors.laid v less (rw at at is_over)

  overflow : MirrorsOverflow places y jt tables
  overflow = let was = mirrors.overflow in record {
    units = length-set t.overflow.spots u (spots_of t u ++ (p, s) ∷ []) ∙ was.units;
    listed = λ v q n x less live away. elim (new_or_live places c it u p s sector records may v q n x live) [
      | inl new ↦ rw (new.0, new.1, new.2, mine) (Contains-append_right (spots_of t u) ((p, s) ∷ []) (p, s) (0, omega arith, refl))
      | inr old ↦ listed_then v q n (was.listed v q n x less old (λ is. away (is ∙ sym (same_home places c it u p s sector records may v))))
    ];
    only = λ v q n less is. elim (new_or_listed v q n is) [
      | inl new ↦ rw (new.0, new.1, new.2) (λ at. stands_away_home u low (at ∙ same_home places c it u p s sector records may u), sector, live_new)
      | inr old ↦ let (away, x, live) = was.only v q n less old in (λ same. away (same ∙ same_home places c it u p s sector records may v), x, live_then places c it u p s sector records may v q n x live)
    ];
    once = λ v less. elim (cases_eq v u) [
      | inl same ↦ rw (same, mine) (all_pairs_push AreApart (spots_of t u) (p, s) (was.once u low) (λ k d within is.
          let listed : Contains (spots_of t u) (p, s) = (k, within, get_or_default (spots_of t u) k (p, s) d within ∙ is) in
          let there = (was.only u p s low listed).2 in
          absurd (let nothing = may.free in let something = there.here in cc (something, nothing))))
      | inr apart ↦ rw (spots_other v apart) (was.once v less)
    ];
    few = λ v less. elim (cases_eq v u) [
      | inl same ↦ rw (same, mine) (omega (arith, room, length-append (spots_of t u) ((p, s) ∷ [])))
      | inr apart ↦ rw (spots_other v apart) (was.few v less)
    ];
    in_overflow = λ v q n less is. rw (same_places p t.overflow.in_use) (elim (new_or_listed v q n is) [
      | inl new ↦ rw new.1 (map_contains t.overflow.in_use p s spot)
      | inr old ↦ was.in_overflow v q n less old
    ]);
    headed = λ q is. let (within, over) = was.headed q (rw (same_places p t.overflow.in_use) at is) in (within, over_then places c it u p s sector records may q over);
    two = omega (arith, was.two, length-map t.overflow.in_use (with_next_spot p));
    apart = rw (same_places p t.overflow.in_use) was.apart;
  }

  abbrev entry : Entry
  entry = entry_at p s sector records

  masks : MirrorsMasks jt tables
  masks = let was = mirrors.masks in record {
    units = was.units;
    lists = length-set t.overflow.masks u (masks_of t u ++ mask_of records ∷ []) ∙ was.lists;
    sectors = was.sectors;
    home = λ v n less least most. elim (cases_eq v u) [
      | inl same ↦ rw (same, log_mine places c it u p s sector records, same_home places c it u p s sector records may u) (was.home u n low least most
          ∙ sym (mask_of_others (it.units u).log entry (it.units u).home n (stands_away entry (it.units u).home n (λ place number. stands_away_from u low place))))
      | inr apart ↦ rw (log_other places c it u p s sector records v apart, same_home places c it u p s sector records may v) (was.home v n less least most)
    ];
    elsewhere = λ v less. elim (cases_eq v u) [
      | inl same ↦ rw (same, masks_mine, mine, log_mine places c it u p s sector records) (both (was.elsewhere u low))
      | inr apart ↦ rw (masks_other v apart, spots_other v apart, log_other places c it u p s sector records v apart) (was.elsewhere v less)
    ];
  }
    where
      stands_away_from : (v : ℕ) → v < it.count → p ≢ (it.units v).home
      stands_away_from = stands_away_home

      masks_mine : masks_of tables u ≡ masks_of t u ++ mask_of records ∷ []
      masks_mine = get_or-set_same t.overflow.masks u (masks_of t u ++ mask_of records ∷ []) [] (omega (arith, low, mirrors.masks.lists))

      masks_other : (v : ℕ) → v ≢ u → masks_of tables v ≡ masks_of t v
      masks_other v apart = get_or-set_other t.overflow.masks u v (masks_of t u ++ mask_of records ∷ []) [] apart

      none_stood : NoneStands (it.units u).log p s
      none_stood = none_stands places c it u p s mirrors.laid low may.free

      not_listed : (q : ℕ × ℕ) → Contains (spots_of t u) q → stands_at entry q.0 q.1 ≡ false
      not_listed q has = stands_away entry q.0 q.1 (λ place number.
          let (away, x, live) = mirrors.overflow.only u q.0 q.1 low has in
          let nothing = may.free in
          let something : c p s ≡ Some x = ap₂ c place number ∙ live.here in cc (something, nothing))

      both : masks_of t u ≡ map (mask_at_spot (it.units u).log) (spots_of t u)
          → masks_of t u ++ mask_of records ∷ [] ≡ map (mask_at_spot ((it.units u).log ++ entry ∷ [])) (spots_of t u ++ (p, s) ∷ [])
      both was =
          ap₂ (λ (a b : List ℕ). a ++ b)
          (was ∙ map_same (mask_at_spot (it.units u).log) (mask_at_spot ((it.units u).log ++ entry ∷ [])) (spots_of t u) (λ q has.
          sym (mask_of_others (it.units u).log entry q.0 q.1 (not_listed q has))))
          (ap (λ (m : ℕ). m ∷ []) (sym (mask_of_new (it.units u).log entry p s none_stood (stands_here entry p s refl refl))))
          ∙ sym (map-append (mask_at_spot ((it.units u).log ++ entry ∷ [])) (spots_of t u) ((p, s) ∷ []))

  overflow_followed : Mirrors places y jt tables
  overflow_followed = record {
    laid = (log_sectors_wait places c it u p s sector records mirrors.laid may).0;
    directory = directory;
    overflow = overflow;
    status = let was = mirrors.status in record { place = was.place; generation = was.generation; numbers = was.numbers };
    numbers = numbers_then places c it u p s sector records may t tables next mirrors.numbers more below refl refl;
    masks = masks;
    logs = logs_still c y it jt (mark_before c p s sector may.free (λ is. omega (arith, is, may.kind)) it.status it.head.generation) refl
        (same_home places c it u p s sector records may) (same_head places c it u p s sector records may)
        (λ v n less. some_still c p s sector (it.units v).home n) t tables (λ v. refl) mirrors.logs;
    counted_clean = λ q n is. let (before, apart) = overflow_counted places c it t mirrors u p s (mask_of records) next spot q n is in none_still c p s sector q n (mirrors.counted_clean q n before) apart;
  }

pub tables_follow_overflow_logs : TablesFollowOverflowLogs
tables_follow_overflow_logs places c it t u p s next sector records mirrors low spot some small room fresh more below = overflow_followed places c it t u p s next sector records mirrors low spot some small room fresh more below
