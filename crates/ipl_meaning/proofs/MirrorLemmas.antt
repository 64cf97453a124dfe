-- What the tables give.
use Rattle.std.proofs.Common.{◌≡◌, ◌≢◌, ◌⊎◌, ℕ, ◌<◌, ◌≤◌, List, [], ◌∷◌, ◌++◌, length, map, get_or, inl, inr, refl, sym, ◌∙◌, ap, subst, arith, false, length-append, slice_index}
use Rattle.std.proofs.lemmas.List.{length-map, get_or-map}
use Rattle.std.specs.List.{All, Contains}
use Rattle.std.proofs.lemmas.List.Elements.{All-contains, Contains-append_left, Contains-append_right}
use Rattle.std.proofs.lemmas.Bool.{cases_eq}
use Rattle.ipl_format.specs.Sector.{Sector}
use Rattle.ipl_format.specs.Record.{Record}
use Rattle.ipl_format.specs.Mark.{SpellsMark}
use Rattle.ipl_format.specs.Header.{SpellsDataHeader, SpellsStatusHeader}
use Rattle.ipl_meaning.specs.Chart.{Chart}
use Rattle.ipl_meaning.specs.Layout.{Entry, Layout, IsLiveIn}
use Rattle.ipl_meaning.specs.Steps.{IsIdle, MayLog}
use Rattle.ipl_meaning.specs.Tables.{IsFree, Tables, spots_of, overflow_places, place_of, written_of, first_log}
use Rattle.ipl_meaning.specs.Mirrors.{Mirrors}
use Rattle.ipl_meaning.specs.TableSteps.{IsFreshLog}
use Rattle.ipl_meaning.specs.TableLaws.{FreePlacesAreIdle, LogSectorsMayGoHome, LogSectorsMayGoElsewhere, CommitSectorsMayGo, MarksMayGo, HeadersMayGo, StatusHeadersMayGo, OverflowHeadersMayGo}
use Rattle.ipl_meaning.proofs.CounterLemmas.{new_generations_wake_nothing, new_serials_are_greatest}
use Rattle.ipl_meaning.proofs.ApartLemmas.{home_not_over}
use Rattle.ipl_meaning.proofs.KnownLogLemmas.{counted_few}

pub map_contains : (l : List (ℕ × ℕ)) (p s : ℕ) → Contains l (p, s) → Contains (map place_of l) p
map_contains l p s (k, within, is) = (k, omega (arith, within, length-map l place_of), get_or-map place_of l k (p, s) p within ∙ ap place_of is)

module _ (places : ℕ) (c : Chart) (it : Layout) (t : Tables) (mirrors : Mirrors places c it t) where
  -- a live sector stands at home, or in an overflow place in use
  home_or_overflow : (u p s : ℕ) (sector : Sector) → u < it.count → IsLiveIn c places it u p s sector → (p ≡ (it.units u).home) ⊎ (Contains (spots_of t u) (p, s) × Contains (overflow_places t) p)
  home_or_overflow u p s sector low live = elim (cases_eq p (it.units u).home) [
    | inl at ↦ inl at
    | inr away ↦ let listed = mirrors.overflow.listed u p s sector low live away in inr (listed, mirrors.overflow.in_overflow u p s low listed)
  ]

  free_is_idle : (p : ℕ) → IsFree t.places p → IsIdle places c it p
  free_is_idle p free = record {
    not_status = mirrors.directory.not_status p free;
    not_home = mirrors.directory.not_home p free;
    no_live = λ u low s sector live. elim (home_or_overflow u p s sector low live) [
      | inl at ↦ mirrors.directory.not_home p free u low (sym at)
      | inr (listed, overflow) ↦ mirrors.directory.not_overflow p free overflow
    ];
  }

  in_overflow : (v q number : ℕ) (other : Sector) → v < it.count → IsLiveIn c places it v q number other → q ≢ (it.units v).home → Contains (overflow_places t) q
  in_overflow v q number other low live away = mirrors.overflow.in_overflow v q number low (mirrors.overflow.listed v q number other low live away)

  two : length (overflow_places t) ≤ 2
  two = omega (arith, mirrors.overflow.two, length-map t.overflow.in_use place_of)

  waits : (records : List Record) → All (λ r. Contains t.active r.tid) records → All (λ r. it.committed r.tid ≡ false) records
  waits records active k none low = All-contains (λ n. it.committed n ≡ false) t.active (get_or records k none).tid mirrors.numbers.waits (active k none low)

  module _ (u : ℕ) (low : u < it.count) (sector : Sector) (records : List Record) (fresh : IsFreshLog it t u sector records) where
    last : (q number : ℕ) (other : Sector) → IsLiveIn c places it u q number other → other.serial < sector.serial
    last q number other live = (new_serials_are_greatest places c it t.next sector.serial mirrors.numbers.above fresh.new).1 u q number other low live

    may_go_home : slice_index t.places.written u < 15 → MayLog places c it u (slice_index t.places.current u) (first_log t u) sector records
    may_go_home left = let at = mirrors.directory.current u low in let few = counted_few (written_of t u) (omega (arith, left)) in record {
      unit = low;
      free = mirrors.counted_clean _ _ (omega (arith, left), inl (u, omega (arith, low, mirrors.directory.units), refl, rw few (omega arith)));
      kind = fresh.kind;
      of_unit = fresh.of_unit;
      of_generation = fresh.of_generation;
      within = (rw at (mirrors.laid.each u low).chosen.within, omega (arith, left));
      counts = inl (at, omega arith);
      spelled = fresh.spelled;
      waits = waits records fresh.active;
      last = last;
      unmarked = λ _. mirrors.logs.unmarked u low (omega (arith, left));
      spots = spots_of t u;
      few = mirrors.overflow.few u low;
      listed = λ q number other live away. mirrors.overflow.listed u q number other low live away;
      listed_here = λ away. absurd (away at);
      overflows = overflow_places t;
      two = two;
      in_overflow = in_overflow;
      in_overflow_here = λ away. absurd (away at);
    }

    may_go_elsewhere : (p s : ℕ) → Contains t.overflow.in_use (p, s) → 1 ≤ s → s < 256 → length (spots_of t u) < 16 → MayLog places c it u p s sector records
    may_go_elsewhere p s open_there some small room =
        let overflow : Contains (overflow_places t) p = map_contains t.overflow.in_use p s open_there in
        let (within, over) = mirrors.overflow.headed p overflow in
        record {
          unit = low;
          free = mirrors.counted_clean p s (small, inr (inl (s, open_there, omega arith)));
          kind = fresh.kind;
          of_unit = fresh.of_unit;
          of_generation = fresh.of_generation;
          within = (within, small);
          counts = inr (over, some);
          spelled = fresh.spelled;
          waits = waits records fresh.active;
          last = last;
          unmarked = λ home. absurd (home_not_over places c it mirrors.laid u low (rw (← home) over));
          spots = spots_of t u ++ (p, s) ∷ [];
          few = omega (arith, room, length-append (spots_of t u) ((p, s) ∷ []));
          listed = λ q number other live away. Contains-append_left (spots_of t u) ((p, s) ∷ []) (q, number) (mirrors.overflow.listed u q number other low live away);
          listed_here = λ away. Contains-append_right (spots_of t u) ((p, s) ∷ []) (p, s) (0, omega arith, refl);
          overflows = overflow_places t;
          two = two;
          in_overflow = in_overflow;
          in_overflow_here = λ away. overflow;
        }

pub free_places_are_idle : FreePlacesAreIdle
free_places_are_idle places c it t p mirrors free = free_is_idle places c it t mirrors p free

pub log_sectors_may_go_home : LogSectorsMayGoHome
log_sectors_may_go_home places c it t u sector records mirrors low left fresh = may_go_home places c it t mirrors u low sector records fresh left

pub log_sectors_may_go_elsewhere : LogSectorsMayGoElsewhere
log_sectors_may_go_elsewhere places c it t u p s sector records mirrors low open_there some small room fresh = may_go_elsewhere places c it t mirrors u low sector records fresh p s open_there some small room

pub commit_sectors_may_go : CommitSectorsMayGo
commit_sectors_may_go places c it t sector numbers committed mirrors some small kind generation spelled only both = record {
  free = mirrors.counted_clean it.status t.status.first (small, inr (inr (sym mirrors.status.place, omega arith)));
  kind = kind;
  of_generation = generation ∙ mirrors.status.generation;
  where_it_is = (some, small);
  spelled = spelled;
  old_too = λ tid old. both tid (inl old);
  new_too = λ tid new. both tid (inr new);
  no_more = only;
}

pub marks_may_go : MarksMayGo
marks_may_go places c it t mark mirrors some small kind generation spelled = record {
  free = mirrors.counted_clean it.status t.status.first (small, inr (inr (sym mirrors.status.place, omega arith)));
  kind = kind;
  of_generation = generation ∙ mirrors.status.generation;
  where_it_is = (some, small);
  spelled = subst (λ (n : ℕ). SpellsMark n mark.payload) mirrors.directory.units spelled;
}

pub headers_may_go : HeadersMayGo
headers_may_go places c it t u p fresh mirrors low ready = record {
  unit = low;
  within = ready.within;
  free = ready.bare;
  home = ready.home;
  fits = ready.fits;
  counts = subst (λ (n : ℕ). SpellsDataHeader fresh.head.version n fresh.pieces fresh.head.payload) mirrors.directory.units ready.counts;
  newest = λ q other less there fits. (new_serials_are_greatest places c it t.next fresh.head.serial mirrors.numbers.above ready.new_serial).0 q other less there (omega (arith, fits.0), omega (arith, fits.0));
  log = record {
    each = ready.each;
    all = λ q s sector live.
        let (at, region) = new_generations_wake_nothing places c it t.next fresh.head.generation u p q s sector mirrors.numbers.above ready.new_generation live in
        let (e, listed, number) = ready.all s sector (rw at at live) in
        (e, listed, All-contains (λ (e : Entry). e.place ≡ p) fresh.log e ready.gathered listed ∙ sym at, number);
    rising = ready.rising;
    spots = [];
    few = omega arith;
    listed = λ k none within away. absurd (away (ready.gathered k none within));
  };
  gathered = ready.gathered;
}

pub status_headers_may_go : StatusHeadersMayGo
status_headers_may_go places c it t p head committed mirrors within bare fits counts new commits none = record {
  within = within;
  free = bare;
  fits = fits;
  counts = subst (λ (n : ℕ). SpellsStatusHeader head.version places n head.payload) mirrors.directory.units counts;
  newest = λ q other less there it_fits. (new_serials_are_greatest places c it t.next head.serial mirrors.numbers.above new).0 q other less there (omega (arith, it_fits), omega (arith, it_fits));
  commits = commits;
  unmarked = none;
}

pub overflow_headers_may_go : OverflowHeadersMayGo
overflow_headers_may_go places c it p head none kind = record { free = none 0; kind = kind; no_log = λ u s sector low there. absurd (let nothing = none s in cc (there, nothing)) }
