-- How the tables follow the status to its new place.
use Rattle.std.proofs.Common.{◌≡◌, ◌≢◌, ◌⊎◌, ◌↔◌, ℕ, List, ◌<◌, ◌≤◌, [], length, map, get_or, slice_index, Some, None, inl, inr, sym, ◌∙◌, ap, arith, Bool, false, IsTrue}
use Rattle.std.specs.List.{All, Contains}
use Rattle.chip_trait.specs.Chart.{with_sector}
use Rattle.ipl_format.specs.Sector.{Sector}
use Rattle.ipl_meaning.specs.Chart.{Chart}
use Rattle.ipl_meaning.specs.Layout.{Layout, IsLiveIn}
use Rattle.ipl_meaning.specs.Steps.{with_status, MaySwitch}
use Rattle.ipl_meaning.specs.Found.{MentionsBelow, IsPlaceBelow}
use Rattle.ipl_meaning.specs.Tables.{IsFree, OverflowLists, Tables, spots_of, overflow_places, place_of, written_of, clean_from, IsCountedClean}
use Rattle.ipl_meaning.specs.Mirrors.{MirrorsPlaces, Mirrors}
use Rattle.ipl_meaning.specs.TableSteps.{IsRenewed}
use Rattle.ipl_meaning.specs.MovingLaws.{CountedFollowRenewals, TablesFollowRenewals}
use Rattle.ipl_meaning.proofs.PutLemmas.{kept, live_still, live_back, mark_before}
use Rattle.ipl_meaning.proofs.SwitchLemmas.{status_headers_switch}
use Rattle.ipl_meaning.proofs.CounterLemmas.{headers_keep_the_counter}
use Rattle.ipl_meaning.proofs.MirrorLemmas.{map_contains}
use Rattle.ipl_meaning.proofs.ApartLemmas.{home_not_status, none_still, some_still, status_not_over}

module _ (places : ℕ) (c : Chart) (it : Layout) (t after : Tables) (p first : ℕ) (head : Sector) (committed : ℕ → Bool) (mirrors : Mirrors places c it t) (may : MaySwitch places it.count c p head committed) (in_use : ¬ IsFree t.places p)
    (renewed : IsRenewed t after p head.generation first) (numbers : (tid : ℕ) → IsTrue (committed tid) ↔ Contains after.status.numbers tid) (wait_still : All (λ n. committed n ≡ false) t.active)
    (below : MentionsBelow after.next head) (all_below : IsPlaceBelow after.next c p) (some : 1 ≤ first) (clean : (s : ℕ) → first ≤ s → s < 256 → c p s ≡ None) where
  abbrev y : Chart
  y = with_sector c p 0 head

  abbrev jt : Layout
  jt = with_status it p head committed

  no_overflow : (zero_is : ◌≡◌ {A = ℕ} 0 0) → head.kind ≢ 3
  no_overflow zero_is is = omega (arith, may.fits, is)

  back : (v q n : ℕ) (x : Sector) → IsLiveIn y places jt v q n x → IsLiveIn c places it v q n x
  back v q n x live = live_back c p 0 head may.free no_overflow places v (it.units v).home (it.units v).head.generation (λ is _. omega (arith, may.fits, is)) q n x live

  bare_apart : (q : ℕ) (x : Sector) → c q 0 ≡ Some x → q ≢ p
  bare_apart q x there at = let none : c q 0 ≡ None = rw at may.free in cc (there, none)

  same_overflows : overflow_places after ≡ overflow_places t
  same_overflows = ap (λ (s : OverflowLists). map place_of s.in_use) renewed.overflow

  same_spots : (v : ℕ) → spots_of after v ≡ spots_of t v
  same_spots v = ap (λ (s : OverflowLists). get_or s.spots v []) renewed.overflow

  same_written : (v : ℕ) → written_of after v ≡ written_of t v
  same_written v = ap (λ (l : List ℕ). slice_index l v) renewed.written

  directory : MirrorsPlaces places jt after
  directory = let was = mirrors.directory in record {
    units = rw renewed.current was.units;
    logs = rw renewed.written was.logs;
    all = renewed.all ∙ was.all;
    counts = rw renewed.erases was.counts;
    current = λ v less. rw renewed.current (was.current v less);
    heads = rw renewed.generations was.heads;
    generation = λ v less. rw renewed.generations (was.generation v less);
    not_home = λ q free v less is. elim (renewed.free q free) [
      | inl before ↦ was.not_home q before v less is
      | inr status ↦ home_not_status places c it mirrors.laid v less (is ∙ status ∙ mirrors.status.place)
    ];
    not_status = λ q free is. elim (renewed.free q free) [
      | inl before ↦ in_use (rw (← is) at before)
      | inr status ↦ bare_apart it.status it.head mirrors.laid.chosen.here (sym mirrors.status.place ∙ sym status ∙ sym is)
    ];
    not_overflow = λ q free. rw same_overflows (λ listed. elim (renewed.free q free) [
      | inl before ↦ was.not_overflow q before listed
      | inr status ↦ status_not_over places c it mirrors.laid (let over = (mirrors.overflow.headed q listed).1 in rw (status ∙ mirrors.status.place) at over)
    ]);
  }

  renewal_counted : (q n : ℕ) → IsCountedClean after q n → (IsCountedClean t q n ⊎ ((q ≡ p) × (first ≤ n) × (n < 256))) × (q ≡ p → n ≢ 0)
  renewal_counted q n (small, inl (v, less, is, above)) =
      let inside : v < it.count = omega (arith, less, directory.units) in
      let home : q ≡ slice_index t.places.current v = rw renewed.current at is in
      let from : clean_from t v ≤ n = rw renewed.written at above in
      (inl (small, inl (v, omega (arith, inside, mirrors.directory.units), home, from)), λ _ none. omega (arith, above, none))
  renewal_counted q n (small, inr (inl (its_first, is, above))) =
      let listed : Contains t.overflow.in_use (q, its_first) = rw renewed.overflow at is in (
        inl (small, inr (inl (its_first, listed, above))),
        λ at _. let over = (mirrors.overflow.headed q (map_contains t.overflow.in_use q its_first listed)).1 in bare_apart q over.0 over.1 at,
      )
  renewal_counted q n (small, inr (inr (is, above))) =
      let from : first ≤ n = rw renewed.first at above in
      (inr (is ∙ renewed.place, from, small), λ _ none. omega (arith, some, from, none))

  counted_clean : (q n : ℕ) → IsCountedClean after q n → y q n ≡ None
  counted_clean q n is = let (was, apart) = renewal_counted q n is in
      none_still c p 0 head q n (elim was [ inl before ↦ mirrors.counted_clean q n before | inr (at, from, small) ↦ rw at (clean n from small) ]) apart

  renewal_followed : Mirrors places y jt after
  renewal_followed = record {
    laid = (status_headers_switch places c it p head committed mirrors.laid may).0;
    directory = directory;
    overflow = let was = mirrors.overflow in record {
      units = ap (λ (s : OverflowLists). length s.spots) renewed.overflow ∙ was.units;
      listed = λ v q n x less live away. rw (same_spots v) (was.listed v q n x less (back v q n x live) away);
      only = λ v q n less is. let (away, x, live) = was.only v q n less (rw (same_spots v) at is) in (away, x, live_still c p 0 head may.free places v (it.units v).home (it.units v).head.generation q n x live);
      once = λ v less. rw (same_spots v) (was.once v less);
      few = λ v less. rw (same_spots v) (was.few v less);
      in_overflow = λ v q n less is. rw same_overflows (was.in_overflow v q n less (rw (same_spots v) at is));
      headed = λ q is. let (within, over) = was.headed q (rw same_overflows at is) in (within, (over.0, kept c p 0 head may.free q 0 over.0 over.1, over.2));
      two = rw renewed.overflow was.two;
      apart = rw same_overflows was.apart;
    };
    status = record { place = renewed.place; generation = renewed.generation; numbers = numbers };
    numbers = let was = mirrors.numbers in record {
      above = (headers_keep_the_counter places c it p head after.next may.free (omega (arith, may.fits), omega (arith, may.fits)) below all_below (λ n found. let low = was.above n found in omega (arith, low, renewed.next))).1 committed;
      below = rw renewed.active (λ k none within. let low = was.below k none within in omega (arith, low, renewed.next));
      once = rw renewed.active was.once;
      waits = rw renewed.active wait_still;
    };
    masks = let was = mirrors.masks in record {
      units = ap (λ (l : List (List ℕ)). length l) renewed.masks ∙ was.units;
      lists = ap (λ (s : OverflowLists). length s.masks) renewed.overflow ∙ was.lists;
      sectors = λ v less. rw renewed.masks (was.sectors v less);
      home = λ v s less least most. rw renewed.masks (was.home v s less least most);
      elsewhere = λ v less. rw renewed.overflow (was.elsewhere v less);
    };
    logs = record {
      unmarked = λ v less first s mark w.
          absurd (may.unmarked s mark (mark_before c p 0 head may.free (λ is. omega (arith, is, may.fits)) p head.generation s mark w));
      whole = λ v n less known least most. some_still c p 0 head (it.units v).home n
          (mirrors.logs.whole v n less (rw (same_written v) at known) least (rw (same_written v) at most));
    };
    counted_clean = counted_clean;
  }

pub tables_follow_renewals : TablesFollowRenewals
tables_follow_renewals places c it t after p first head committed mirrors may in_use renewed numbers wait_still below all_below some clean = renewal_followed places c it t after p first head committed mirrors may in_use renewed numbers wait_still below all_below some clean

pub counted_follow_renewals : CountedFollowRenewals
counted_follow_renewals places c it t after p first head committed mirrors may in_use renewed numbers wait_still below all_below some clean = renewal_counted places c it t after p first head committed mirrors may in_use renewed numbers wait_still below all_below some clean
