-- How the tables follow a log sector at home.
use Rattle.std.proofs.Common.{◌≡◌, ℕ, ◌<◌, ◌≤◌, ◌+◌, ◌-◌, ◌≢◌, List, [], slice_index, slice_set, inl, inr, refl, sym, ◌∙◌, ap, arith}
use Rattle.std.proofs.lemmas.Bool.{cases_eq}
use Rattle.std.proofs.lemmas.List.{length-set, get_or-set_same, get_or-set_other}
use Rattle.chip_trait.specs.Chart.{with_sector}
use Rattle.ipl_format.specs.Sector.{Sector}
use Rattle.ipl_format.specs.Record.{Record}
use Rattle.ipl_meaning.specs.Chart.{Chart}
use Rattle.ipl_meaning.specs.Layout.{Layout}
use Rattle.ipl_meaning.specs.Steps.{with_log, MayLog, entry_at}
use Rattle.ipl_meaning.specs.Found.{MentionsBelow}
use Rattle.ipl_meaning.specs.Masks.{mask_of, mask_at, mask_at_spot}
use Rattle.ipl_meaning.specs.Tables.{Tables, written_of, first_log, masks_in, home_mask, spots_of}
use Rattle.ipl_meaning.specs.Mirrors.{MirrorsPlaces, MirrorsOverflow, MirrorsMasks, MirrorsLogs, Mirrors}
use Rattle.ipl_meaning.specs.TableSteps.{IsFreshLog, after_home_log}
use Rattle.ipl_meaning.specs.FollowingLaws.{TablesFollowHomeLogs}
use Rattle.ipl_meaning.proofs.PutLemmas.{here, mark_before}
use Rattle.ipl_meaning.proofs.WaitLemmas.{log_sectors_wait}
use Rattle.ipl_meaning.proofs.MirrorLemmas.{log_sectors_may_go_home}
use Rattle.ipl_meaning.proofs.ApartLemmas.{none_still, some_still}
use Rattle.ipl_meaning.proofs.KnownLogLemmas.{counted_few, unmarked_still}
use Rattle.ipl_meaning.proofs.CountedLemmas.{home_counted}
use Rattle.ipl_meaning.proofs.MaskLemmas.{NoneStands, mask_of_new, mask_of_others, stands_here, stands_away, map_same}
use Rattle.ipl_meaning.proofs.LogFollowLemmas.{log_mine, log_other, none_stands, live_then, new_or_live, numbers_then, over_then, same_head, same_home}

module _ (places : ℕ) (c : Chart) (it : Layout) (t : Tables) (u next : ℕ) (sector : Sector) (records : List Record) (mirrors : Mirrors places c it t) (low : u < it.count)
    (left : slice_index t.places.written u < 15) (fresh : IsFreshLog it t u sector records) (more : t.next ≤ next) (below : MentionsBelow next sector) where
  abbrev p : ℕ
  p = slice_index t.places.current u

  abbrev s : ℕ
  s = first_log t u

  may : MayLog places c it u p s sector records
  may = log_sectors_may_go_home places c it t u sector records mirrors low left fresh

  abbrev jt : Layout
  jt = with_log it u (entry_at p s sector records)

  abbrev tables : Tables
  tables = after_home_log t u (mask_of records) next

  at : p ≡ (it.units u).home
  at = mirrors.directory.current u low

  directory : MirrorsPlaces places jt tables
  directory = let was = mirrors.directory in record {
    units = was.units;
    logs = length-set t.places.written u _ ∙ was.logs;
    all = was.all;
    counts = was.counts;
    current = λ v less. was.current v less ∙ sym (same_home places c it u p s sector records may v);
    heads = was.heads;
    generation = λ v less. was.generation v less ∙ ap (λ (x : Sector). x.generation) (sym (same_head places c it u p s sector records may v));
    not_home = λ q free v less is. was.not_home q free v less (sym (same_home places c it u p s sector records may v) ∙ is);
    not_status = was.not_status;
    not_overflow = was.not_overflow;
  }

  overflow : MirrorsOverflow places (with_sector c p s sector) jt tables
  overflow = let was = mirrors.overflow in record {
    units = was.units;
    listed = λ v q n x less live away. elim (new_or_live places c it u p s sector records may v q n x live) [
      | inl new ↦ absurd (away (new.1 ∙ at ∙ ap (λ (w : ℕ). (it.units w).home) (sym new.0) ∙ sym (same_home places c it u p s sector records may v)))
      | inr old ↦ was.listed v q n x less old (λ is. away (is ∙ sym (same_home places c it u p s sector records may v)))
    ];
    only = λ v q n less is. let (away, x, live) = was.only v q n less is in (λ same. away (same ∙ same_home places c it u p s sector records may v), x, live_then places c it u p s sector records may v q n x live);
    once = was.once;
    few = was.few;
    in_overflow = was.in_overflow;
    headed = λ q is. let (within, over) = was.headed q is in (within, over_then places c it u p s sector records may q over);
    two = was.two;
    apart = was.apart;
  }

  -- no log sector stood there
  none_stood : NoneStands (it.units u).log p s
  none_stood = none_stands places c it u p s mirrors.laid low may.free

  masks : MirrorsMasks jt tables
  masks = let was = mirrors.masks in record {
    units = length-set t.places.masks u _ ∙ was.units;
    lists = was.lists;
    sectors = λ v less. elim (cases_eq v u) [
      | inl same ↦ rw (same, masks_mine) (length-set (masks_in t.places u) _ (mask_of records) ∙ was.sectors u low)
      | inr apart ↦ rw (masks_other v apart) (was.sectors v less)
    ];
    home = λ v n less least most. elim (cases_eq v u) [
      | inl same ↦ rw same (home_mine n least most)
      | inr apart ↦ rw (masks_other v apart, log_other places c it u p s sector records v apart, same_home places c it u p s sector records may v) (was.home v n less least most)
    ];
    elsewhere = λ v less. elim (cases_eq v u) [
      | inl same ↦ rw same (was.elsewhere u low ∙ map_same (mask_at_spot (it.units u).log) (mask_at_spot (jt.units u).log) (spots_of t u) (λ spot has.
          rw (log_mine places c it u p s sector records) (sym (mask_of_others (it.units u).log (entry_at p s sector records) spot.0 spot.1
          (stands_away (entry_at p s sector records) spot.0 spot.1 (λ place number. (mirrors.overflow.only u spot.0 spot.1 low has).0 (sym place ∙ at)))))))
      | inr apart ↦ rw (log_other places c it u p s sector records v apart) (was.elsewhere v less)
    ];
  }
    where
      masks_mine : masks_in tables.places u ≡ slice_set (masks_in t.places u) (s - 241) (mask_of records)
      masks_mine = get_or-set_same t.places.masks u _ [] (omega (arith, low, mirrors.masks.units))

      masks_other : (v : ℕ) → v ≢ u → masks_in tables.places v ≡ masks_in t.places v
      masks_other v apart = get_or-set_other t.places.masks u v _ [] apart

      home_mine : (n : ℕ) → 241 ≤ n → n < 256 → home_mask tables u n ≡ mask_at (jt.units u).log (jt.units u).home n
      home_mine n least most = elim (cases_eq n s) [
        | inl same ↦ rw (same, masks_mine, log_mine places c it u p s sector records, same_home places c it u p s sector records may u, sym at)
            (get_or-set_same (masks_in t.places u) (s - 241) (mask_of records) 0 (omega (arith, left, mirrors.masks.sectors u low))
            ∙ sym (mask_of_new (it.units u).log (entry_at p s sector records) p s none_stood (stands_here (entry_at p s sector records) p s refl refl)))
        | inr apart ↦ rw (masks_mine, log_mine places c it u p s sector records, same_home places c it u p s sector records may u)
            (get_or-set_other (masks_in t.places u) (s - 241) (n - 241) (mask_of records) 0 (λ is. apart (omega (arith, is, least)))
            ∙ mirrors.masks.home u n low least most
            ∙ sym (mask_of_others (it.units u).log (entry_at p s sector records) (it.units u).home n
            (stands_away (entry_at p s sector records) (it.units u).home n (λ place number. apart (sym number)))))
      ]

  -- the one more that counts as written checks
  logs : MirrorsLogs (with_sector c p s sector) jt tables
  logs = let was = mirrors.logs in record {
    unmarked = λ v less first. unmarked_still c (with_sector c p s sector) it jt
        (mark_before c p s sector may.free (λ is. omega (arith, is, may.kind)) it.status it.head.generation) v (same_head places c it u p s sector records may v) (elim (cases_eq v u) [
          | inl same ↦ rw same (was.unmarked u low (omega (arith, left)))
          | inr apart ↦ was.unmarked v less (rw (written_other v apart) at first)
        ]);
    whole = λ v n less known least most. rw (same_home places c it u p s sector records may v) (elim (cases_eq v u) [
      | inl same ↦
          let one_more = counted_few (slice_index t.places.written u + 1) (omega (arith, left)) in
          let end : n < 241 + (slice_index t.places.written u + 1) = rw (same, written_mine, one_more) at most in
          elim (cases_eq n s) [
            | inl last ↦ rw (last, same, ← at, here c p s sector may.free) (λ none. cc none)
            | inr before ↦ some_still c p s sector (it.units v).home n (rw same (was.whole u n low (omega (arith, left)) least
                (rw (counted_few (slice_index t.places.written u) (omega (arith, left))) (omega (arith, end, before)))))
          ]
      | inr apart ↦ some_still c p s sector (it.units v).home n
          (was.whole v n less (rw (written_other v apart) at known) least (rw (written_other v apart) at most))
    ]);
  }
    where
      written_mine : written_of tables u ≡ slice_index t.places.written u + 1
      written_mine = get_or-set_same t.places.written u _ 0 (omega (arith, low, mirrors.directory.logs))

      written_other : (v : ℕ) → v ≢ u → written_of tables v ≡ written_of t v
      written_other v apart = get_or-set_other t.places.written u v _ 0 apart

  home_followed : Mirrors places (with_sector c p s sector) jt tables
  home_followed = record {
    laid = (log_sectors_wait places c it u p s sector records mirrors.laid may).0;
    directory = directory;
    overflow = overflow;
    status = let was = mirrors.status in record { place = was.place; generation = was.generation; numbers = was.numbers };
    numbers = numbers_then places c it u p s sector records may t tables next mirrors.numbers more below refl refl;
    masks = masks;
    logs = logs;
    counted_clean = λ q n is. let (before, apart) = home_counted places c it t mirrors u (mask_of records) next low left q n is in none_still c p s sector q n (mirrors.counted_clean q n before) apart;
  }

pub tables_follow_home_logs : TablesFollowHomeLogs
tables_follow_home_logs places c it t u next sector records mirrors low left fresh more below = home_followed places c it t u next sector records mirrors low left fresh more below
