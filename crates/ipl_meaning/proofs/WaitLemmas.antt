-- A log sector none of whose records is committed may join those of its unit.
use Rattle.std.proofs.Common.{◌≡◌, ◌≢◌, ℕ, suc, ◌<◌, Option, inl, inr, refl, sym, ◌∙◌, arith, List, [], ◌∷◌, ◌++◌, All, get_or, Bool, true, false, eqb, ◌&&◌}
use Rattle.std.proofs.lemmas.Bool.{cases_eq, eq-eqb, ne_eqb}
use Rattle.std.proofs.lemmas.List.Elements.{All-push, Contains-append_left, Contains-append_right}
use Rattle.std.proofs.lemmas.List.Quantifiers.{all_pairs_push}
use Rattle.std.proofs.lemmas.Grind.{flat_map-append}
use Rattle.std.proofs.lemmas.List.{append-nil}
use Rattle.chip_trait.specs.Chart.{with_sector}
use Rattle.ipl_format.specs.Sector.{Sector}
use Rattle.ipl_format.specs.Record.{Record}
use Rattle.ipl_format.specs.Page.{value_in}
use Rattle.ipl_meaning.specs.Chart.{Chart, IsDataHeader, IsStatusHeader}
use Rattle.ipl_meaning.specs.Values.{Values, counts_for, after_records}
use Rattle.ipl_meaning.specs.Layout.{Shape, Entry, IsEntry, IsHomeOrListed, IsInOverflow, IsBelow, IsUnit, Layout, Laid, records_of}
use Rattle.ipl_meaning.specs.Stands.{Shows}
use Rattle.ipl_meaning.specs.Steps.{with_log, grown, KeepsPages, MayLog}
use Rattle.ipl_meaning.specs.Laws.{LogSectorsWait}
use Rattle.ipl_meaning.proofs.PutLemmas.{new_or_old, here, kept, chosen_still, entries_still, live_before, live_back, unit_still, status_still, marks_still, shows_more, reads_before}

not_and : (a b : Bool) → b ≡ false → (a && b) ≡ false
not_and true b none = none
not_and false b none = refl

-- records that are not committed change nothing
pub waiting : (committed : ℕ → Bool) (page slot : ℕ) (records : List Record) (value : Option (List ℕ)) → All (λ r. committed r.tid ≡ false) records → after_records committed page slot records value ≡ value
waiting committed page slot [] value none = refl
waiting committed page slot (r ∷ records) value none =
    let first : committed r.tid ≡ false = none 0 r (omega arith) in
    let skipped : counts_for committed page slot r ≡ false = not_and (eqb r.page page) _ (not_and (eqb r.slot slot) _ first) in
    rw skipped (waiting committed page slot records value (λ k d low. none (suc k) d (omega arith)))

after_both : (committed : ℕ → Bool) (page slot : ℕ) (first second : List Record) (value : Option (List ℕ)) → after_records committed page slot (first ++ second) value ≡ after_records committed page slot second (after_records committed page slot first value)
after_both committed page slot [] second value = refl
after_both committed page slot (r ∷ first) second value = after_both committed page slot first second _

module _ (places : ℕ) (c : Chart) (it : Layout) (u p s : ℕ) (sector : Sector) (records : List Record) (laid : Laid places c it) (may : MayLog places c it u p s sector records) where
  abbrev entry : Entry
  entry = record { place = p; number = s; sector = sector; records = records }

  abbrev was : Shape
  was = it.units u

  abbrev after : Chart
  after = with_sector c p s sector

  pub no_header : s ≢ 0
  no_header none = elim may.counts [ inl at_home ↦ omega (arith, at_home.1) | inr over ↦ omega (arith, over.1) ]

  abbrev old : IsUnit c places it.count u was
  old = laid.each u may.unit

  joined : IsEntry after places u was.home was.head.generation entry
  joined = record {
    live = record {
      here = here c p s sector may.free;
      kind = may.kind;
      of_unit = may.of_unit;
      of_generation = may.of_generation;
      within = may.within;
      counts = elim may.counts [ inl at_home ↦ inl at_home | inr over ↦ inr ((over.0.0, kept c p s sector may.free p 0 _ over.0.1, over.0.2), over.1) ];
    };
    records = may.spelled;
  }

  listed_still : All (IsHomeOrListed may.spots was.home) was.log
  listed_still k none low away = may.listed _ _ _ (old.log.each k none low).live away

  -- the unit with the new sector
  unit_grown : IsUnit after places it.count u (grown was entry)
  unit_grown = record {
    chosen = chosen_still c p s sector may.free places (IsDataHeader u) was.home was.head (λ none. absurd (no_header none)) old.chosen;
    counts = old.counts;
    log = record {
      each = All-push (IsEntry after places u was.home was.head.generation) was.log entry (entries_still c p s sector may.free places u was.home was.head.generation was.log old.log.each) joined;
      all = λ q t x live. elim (new_or_old c p s sector may.free q t x live.here) [
        | inl new ↦ (entry, Contains-append_right was.log (entry ∷ []) entry (0, omega arith, refl), sym new.0, sym new.1)
        | inr before ↦
            let (e, listed, at_place, at_number) = old.log.all q t x (live_before c p s sector may.free (λ none. absurd (no_header none)) places u was.home was.head.generation q t x live before) in
            (e, Contains-append_left was.log (entry ∷ []) e listed, at_place, at_number)
      ];
      rising = all_pairs_push IsBelow was.log entry old.log.rising (λ k none low. may.last _ _ _ (old.log.each k none low).live);
      spots = may.spots;
      few = may.few;
      listed = All-push (IsHomeOrListed may.spots was.home) was.log entry listed_still may.listed_here;
    };
  }

  abbrev jt : Layout
  jt = with_log it u entry

  each_unit : (v : ℕ) → v < it.count → IsUnit after places it.count v (jt.units v)
  each_unit v low = elim (cases_eq v u) [
    | inl same ↦ rw (same, eq-eqb u u refl) unit_grown
    | inr apart ↦ rw (ne_eqb v u apart) (unit_still c p s sector may.free places it.count v (it.units v) (λ none. absurd (no_header none))
        (live_back c p s sector may.free (λ none. absurd (no_header none)) places v (it.units v).home (it.units v).head.generation (λ _ is. apart (sym is ∙ may.of_unit))) (laid.each v low))
  ]

  in_overflow_still : (v : ℕ) → v < it.count → All (IsInOverflow may.overflows (it.units v).home) (it.units v).log
  in_overflow_still v low k none within away = let e = get_or (it.units v).log k none in may.in_overflow v e.place e.number e.sector low ((laid.each v low).log.each k none within).live away

  in_overflow : (v : ℕ) → v < it.count → All (IsInOverflow may.overflows (jt.units v).home) (jt.units v).log
  in_overflow v low = elim (cases_eq v u) [
    | inl same ↦ rw (same, eq-eqb u u refl) (All-push (IsInOverflow may.overflows was.home) was.log entry (in_overflow_still u may.unit) may.in_overflow_here)
    | inr apart ↦ rw (ne_eqb v u apart) (in_overflow_still v low)
  ]

  same_values : (page slot : ℕ) (base : Option (List ℕ)) → after_records it.committed page slot (records_of (was.log ++ entry ∷ [])) base ≡ after_records it.committed page slot (records_of was.log) base
  same_values page slot base =
      rw (flat_map-append (λ (e : Entry). e.records) was.log (entry ∷ []), append-nil records)
      (after_both it.committed page slot (records_of was.log) records base ∙ waiting it.committed page slot records _ may.waits)

  laid_still : Laid places after jt
  laid_still = record {
    least = laid.least;
    most = laid.most;
    count = laid.count;
    chosen = chosen_still c p s sector may.free places IsStatusHeader it.status it.head (λ none. absurd (no_header none)) laid.chosen;
    counts = laid.counts;
    commits = status_still c p s sector may.free (λ is. omega (arith, is, may.kind)) it.status it.head.generation it.committed laid.commits;
    marks = marks_still c p s sector may.free (λ is. omega (arith, is, may.kind)) it.status it.head.generation it.count laid.marks;
    each = each_unit;
    overflows = may.overflows;
    two = may.two;
    in_overflow = in_overflow;
  }

  shown_still : (v page : ℕ) (now : Values) → Shows c it.committed v (it.units v) page now → Shows after jt.committed v (jt.units v) page now
  shown_still v page now shows =
      let there = shows_more c after (kept c p s sector may.free) it.committed v (it.units v) page now shows in
      elim (cases_eq v u) [
        | inl same ↦ rw (same, eq-eqb u u refl) (
            let shown : Shows after it.committed u was page now = rw same at there in
            record {
              base = shown.base;
              reads = let r = shown.reads in
                  record { fits = r.fits; cut = r.cut; here = r.here };
              room = shown.room;
              says =
                  λ slot less. shown.says slot less
                  ∙ sym (same_values page slot (value_in shown.base slot));
            })
        | inr apart ↦ rw (ne_eqb v u apart) there
      ]

  pages_still : KeepsPages places c it after jt
  pages_still = record {
    shown = λ v page now low few shows. shown_still v page now shows;
    no_more = λ v page base low few reads. elim (cases_eq v u) [
      | inl same ↦ (
        base,
        rw same (
            let there = rw (same, eq-eqb u u refl) at reads in
            reads_before c p s sector may.free (λ is. omega (arith, is, may.kind)) u was page base (record { fits = there.fits; cut = there.cut; here = there.here })),
      )
      | inr apart ↦ (base, reads_before c p s sector may.free (λ is. omega (arith, is, may.kind)) v (it.units v) page base (rw (ne_eqb v u apart) at reads))
    ];
  }

pub log_sectors_wait : LogSectorsWait
log_sectors_wait places c it u p s sector records laid may = (laid_still places c it u p s sector records laid may, pages_still places c it u p s sector records laid may)
