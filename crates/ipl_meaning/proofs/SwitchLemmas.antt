-- Headers that switch a unit, or the status, to a new place at once, and headers of overflow places.
use Rattle.std.proofs.Common.{◌≡◌, ◌≢◌, ℕ, ◌<◌, inl, inr, refl, sym, ◌∙◌, ap, arith, All, List, [], ◌∷◌, suc, Option, Bool, ◌&&◌, eqb}
use Rattle.std.proofs.lemmas.Bool.{cases_eq, eq-eqb, ne_eqb}
use Rattle.chip_trait.specs.Chart.{with_sector}
use Rattle.ipl_format.specs.Sector.{Sector}
use Rattle.ipl_format.specs.Record.{Record}
use Rattle.ipl_format.specs.Page.{value_in}
use Rattle.ipl_meaning.specs.Chart.{Chart, IsDataHeader, IsStatusHeader, IsLive}
use Rattle.ipl_meaning.specs.Values.{counts_for, after_records}
use Rattle.ipl_meaning.specs.Layout.{Shape, IsUnit, IsInOverflow, Layout, Laid, records_of}
use Rattle.ipl_meaning.specs.Steps.{with_unit, with_status, MaySeal, MaySwitch, MayOpenOverflow}
use Rattle.ipl_meaning.specs.Laws.{HeadersSwitch, MergesKeepPages, SameUnitsKeepPages, StatusHeadersSwitch, KeptNumbersKeepPages, OverflowHeadersWait}
use Rattle.ipl_meaning.proofs.WaitLemmas.{waiting}
use Rattle.ipl_meaning.proofs.PutLemmas.{new_or_old, pages_still, chosen_still, chosen_new, live_back, log_still, unit_still, status_still, mark_before, marks_still}

-- ---- Data headers
module _ (places : ℕ) (c : Chart) (it : Layout) (u p : ℕ) (fresh : Shape) (laid : Laid places c it) (may : MaySeal places c it u p fresh) where
  abbrev y : Chart
  y = with_sector c p 0 fresh.head

  no_overflow : (zero_is : ◌≡◌ {A = ℕ} 0 0) → fresh.head.kind ≢ 3
  no_overflow zero_is is = omega (arith, may.fits.0, is)

  back : (v home generation q t : ℕ) (x : Sector) → IsLive y places v home generation q t x → IsLive c places v home generation q t x
  back v home generation = live_back c p 0 fresh.head may.free no_overflow places v home generation (λ is _. omega (arith, may.fits.0, is))

  -- the unit at its new place
  moved : IsUnit y places it.count u fresh
  moved = record {
    chosen = rw may.home (chosen_new c p 0 fresh.head may.free places (IsDataHeader u) refl may.within may.fits may.newest);
    counts = may.counts;
    log = rw may.home (log_still c p 0 fresh.head may.free places u p fresh.head.generation fresh.log (back u p fresh.head.generation) may.log);
  }

  abbrev jt : Layout
  jt = with_unit it u fresh

  each_unit : (v : ℕ) → v < it.count → IsUnit y places it.count v (jt.units v)
  each_unit v low = elim (cases_eq v u) [
    | inl same ↦ rw (same, eq-eqb u u refl) moved
    | inr apart ↦ rw (ne_eqb v u apart) (unit_still c p 0 fresh.head may.free places it.count v (it.units v) (λ _ fits. apart (sym fits.1 ∙ may.fits.1)) (back v (it.units v).home (it.units v).head.generation) (laid.each v low))
  ]

  in_overflow : (v : ℕ) → v < it.count → All (IsInOverflow laid.overflows (jt.units v).home) (jt.units v).log
  in_overflow v low = elim (cases_eq v u) [
    | inl same ↦ rw (same, eq-eqb u u refl) (λ k none within away. absurd (away (may.gathered k none within ∙ sym may.home)))
    | inr apart ↦ rw (ne_eqb v u apart) (laid.in_overflow v low)
  ]

  switched : Laid places y jt
  switched = record {
    least = laid.least;
    most = laid.most;
    count = laid.count;
    chosen = chosen_still c p 0 fresh.head may.free places IsStatusHeader it.status it.head (λ _ is. omega (arith, may.fits.0, is)) laid.chosen;
    counts = laid.counts;
    commits = status_still c p 0 fresh.head may.free (λ is. omega (arith, may.fits.0, is)) it.status it.head.generation it.committed laid.commits;
    marks = marks_still c p 0 fresh.head may.free (λ is. omega (arith, may.fits.0, is)) it.status it.head.generation it.count laid.marks;
    each = each_unit;
    overflows = laid.overflows;
    two = laid.two;
    in_overflow = in_overflow;
  }

pub headers_switch : HeadersSwitch
headers_switch places c it u p fresh laid may = (switched places c it u p fresh laid may, pages_still c p 0 fresh.head may.free places (with_unit it u fresh) (λ is. omega (arith, may.fits.0, is)))

-- a place that shows the unit's pages may become its home
pub same_units_keep_pages : SameUnitsKeepPages
same_units_keep_pages places c it u fresh same = record {
  shown = λ v page now low few shows. elim (cases_eq v u) [
    | inl is ↦ rw (is, eq-eqb u u refl) (same.shown page now few (rw is at shows))
    | inr apart ↦ rw (ne_eqb v u apart) shows
  ];
  no_more = λ v page base low few reads. elim (cases_eq v u) [
    | inl is ↦ rw is (same.no_more page base few (rw (is, eq-eqb u u refl) at reads))
    | inr apart ↦ (base, rw (ne_eqb v u apart) at reads)
  ];
}

-- a merged unit says what it said
pub merges_keep_pages : MergesKeepPages
merges_keep_pages c it u fresh merged = record {
  shown = λ page now few was.
      let (new, reads, same) = merged.pages page was.base few was.reads in record {
        base = new;
        reads = reads;
        room = was.room;
        says = λ slot less. was.says slot less ∙ sym (same slot less) ∙ sym (waiting it.committed page slot (records_of fresh.log) (value_in new slot) merged.waits);
      };
  no_more = λ page base few reads. merged.all page few;
}

-- ---- Status headers
module _ (places : ℕ) (c : Chart) (it : Layout) (p : ℕ) (head : Sector) (committed : ℕ → Bool) (laid : Laid places c it) (may : MaySwitch places it.count c p head committed) where
  no_overflow_status : (zero_is : ◌≡◌ {A = ℕ} 0 0) → head.kind ≢ 3
  no_overflow_status zero_is is = omega (arith, may.fits, is)

  renewed : Laid places (with_sector c p 0 head) (with_status it p head committed)
  renewed = record {
    least = laid.least;
    most = laid.most;
    count = laid.count;
    chosen = chosen_new c p 0 head may.free places IsStatusHeader refl may.within may.fits may.newest;
    counts = may.counts;
    commits = status_still c p 0 head may.free (λ is. omega (arith, may.fits, is)) p head.generation committed may.commits;
    marks = λ t mark w. absurd (may.unmarked t mark (mark_before c p 0 head may.free (λ is. omega (arith, may.fits, is)) p head.generation t mark w));
    each = λ v low. unit_still c p 0 head may.free places it.count v (it.units v) (λ _ fits. omega (arith, may.fits, fits.0))
        (live_back c p 0 head may.free no_overflow_status places v (it.units v).home (it.units v).head.generation (λ is _. omega (arith, may.fits, is))) (laid.each v low);
    overflows = laid.overflows;
    two = laid.two;
    in_overflow = laid.in_overflow;
  }

pub status_headers_switch : StatusHeadersSwitch
status_headers_switch places c it p head committed laid may = (renewed places c it p head committed laid may, pages_still c p 0 head may.free places (with_status it p head committed) (λ is. omega (arith, may.fits, is)))

-- records are applied alike where their numbers are committed alike
pub same_applied : (committed other : ℕ → Bool) (page slot : ℕ) (records : List Record) (value : Option (List ℕ)) → All (λ r. other r.tid ≡ committed r.tid) records → after_records committed page slot records value ≡ after_records other page slot records value
same_applied committed other page slot [] value same = refl
same_applied committed other page slot (r ∷ records) value same =
    let first : other r.tid ≡ committed r.tid = same 0 r (omega arith) in
    let alike : counts_for other page slot r ≡ counts_for committed page slot r = ap (λ (b : Bool). eqb r.page page && (eqb r.slot slot && b)) first in
    rw alike (same_applied committed other page slot records _ (λ k d low. same (suc k) d (omega arith)))

pub kept_numbers_keep_pages : KeptNumbersKeepPages
kept_numbers_keep_pages places c it p head committed keeps = record {
  shown = λ u page now low few was. record {
    base = was.base;
    reads = was.reads;
    room = was.room;
    says = λ slot less. was.says slot less ∙ same_applied it.committed committed page slot (records_of (it.units u).log) (value_in was.base slot) (keeps u low);
  };
  no_more = λ u page base low few reads. (base, reads);
}

-- ---- Overflow headers
module _ (places : ℕ) (c : Chart) (it : Layout) (p : ℕ) (head : Sector) (laid : Laid places c it) (may : MayOpenOverflow places c it p head) where
  abbrev z : Chart
  z = with_sector c p 0 head

  -- what is live with the new header was live before
  pub live_before_overflow : (v : ℕ) → v < it.count → (q t : ℕ) (x : Sector) → IsLive z places v (it.units v).home (it.units v).head.generation q t x → IsLive c places v (it.units v).home (it.units v).head.generation q t x
  live_before_overflow v low q t x live = elim (new_or_old c p 0 head may.free q t x live.here) [
    | inl new ↦ absurd (omega (arith, may.kind, live.kind, ap (λ (s : Sector). s.kind) new.2))
    | inr old ↦ record {
      here = old;
      kind = live.kind;
      of_unit = live.of_unit;
      of_generation = live.of_generation;
      within = live.within;
      counts = elim live.counts [
        | inl at_home ↦ inl at_home
        | inr over ↦ elim (new_or_old c p 0 head may.free q 0 over.0.0 over.0.1) [
          | inl new ↦ absurd (may.no_log v t x low (rw new.0 at old) live.kind live.of_unit live.of_generation)
          | inr before ↦ inr ((over.0.0, before, over.0.2), over.1)
        ]
      ];
    }
  ]

  put_up : Laid places z it
  put_up = record {
    least = laid.least;
    most = laid.most;
    count = laid.count;
    chosen = chosen_still c p 0 head may.free places IsStatusHeader it.status it.head (λ _ is. omega (arith, may.kind, is)) laid.chosen;
    counts = laid.counts;
    commits = status_still c p 0 head may.free (λ is. omega (arith, may.kind, is)) it.status it.head.generation it.committed laid.commits;
    marks = marks_still c p 0 head may.free (λ is. omega (arith, may.kind, is)) it.status it.head.generation it.count laid.marks;
    each = λ v low. unit_still c p 0 head may.free places it.count v (it.units v) (λ _ fits. omega (arith, may.kind, fits.0)) (live_before_overflow v low) (laid.each v low);
    overflows = laid.overflows;
    two = laid.two;
    in_overflow = laid.in_overflow;
  }

pub overflow_headers_wait : OverflowHeadersWait
overflow_headers_wait places c it p head laid may = (put_up places c it p head laid may, pages_still c p 0 head may.free places it (λ is. omega (arith, may.kind, is)))
