-- Marks in a chart: they change nothing, what they say goes over to the tables, and what ends them.
use Rattle.std.proofs.Common.{◌≡◌, ◌≢◌, ℕ, ◌<◌, map, length, None, inl, inr, refl, sym, ◌∙◌, ap, subst, arith}
use Rattle.std.proofs.lemmas.Bool.{cases_eq, cases_lt, eq-eqb, ne_eqb}
use Rattle.std.proofs.lemmas.List.{length-map, get_or-map, get_or_past}
use Rattle.chip_trait.specs.Chart.{with_sector}
use Rattle.ipl_format.specs.Sector.{Sector}
use Rattle.ipl_format.specs.Mark.{SpellsMark}
use Rattle.ipl_meaning.specs.Chart.{Chart, IsStatusHeader}
use Rattle.ipl_meaning.specs.Layout.{Shape, Layout, IsCommitSector, IsMark, AreMarks}
use Rattle.ipl_meaning.specs.Laws.{MarksWait}
use Rattle.ipl_meaning.specs.Steps.{with_unit, with_status, with_committed}
use Rattle.ipl_meaning.specs.Tables.{Tables, unmarked_written, written_of, clean_from}
use Rattle.ipl_meaning.specs.TableSteps.{without_marks}
use Rattle.ipl_meaning.specs.MovingLaws.{TablesFollowEndsOfMarks, CountedFollowEndsOfMarks}
use Rattle.ipl_meaning.specs.Marks.{IsMarkedUnit}
use Rattle.ipl_meaning.specs.MarkLaws.{CommitsMarkNoMore, HeadersMarkNoMore, RenewalsMarkNoMore, OverflowsMarkNoMore}
use Rattle.ipl_meaning.proofs.PutLemmas.{new_or_old, chosen_still, live_back, unit_still, status_still, pages_still, mark_before, mark_still, commit_sector_still}
use Rattle.ipl_meaning.proofs.IdleLemmas.{bare_is_idle}
use Rattle.ipl_meaning.proofs.CommitLemmas.{commit_sectors_add}
use Rattle.ipl_meaning.proofs.SwitchLemmas.{headers_switch, status_headers_switch, overflow_headers_wait}
use Rattle.ipl_meaning.proofs.CounterLemmas.{new_serials_pass_the_status}
use Rattle.ipl_meaning.proofs.ApartLemmas.{home_not_status}
use Rattle.ipl_meaning.proofs.MirrorLemmas.{headers_may_go}
use Rattle.ipl_meaning.proofs.KnownLogLemmas.{counted_unmarked, unmarked_known}

-- ---- a mark more

pub marks_wait : MarksWait
marks_wait places c it s mark laid may = (
  record {
    least = laid.least;
    most = laid.most;
    count = laid.count;
    chosen = chosen_still c it.status s mark may.free places IsStatusHeader it.status it.head no_header laid.chosen;
    counts = laid.counts;
    commits = status_still c it.status s mark may.free (λ is. omega (arith, is, may.kind)) it.status it.head.generation it.committed laid.commits;
    marks = marks;
    each = λ u low. unit_still c it.status s mark may.free places it.count u (it.units u) no_header
        (live_back c it.status s mark may.free no_header places u (it.units u).home (it.units u).head.generation (λ is _. omega (arith, is, may.kind)))
        (laid.each u low);
    overflows = laid.overflows;
    two = laid.two;
    in_overflow = laid.in_overflow;
  },
  pages_still c it.status s mark may.free places it (λ is. omega (arith, is, may.kind)),
)
  where
    no_header : {A : Type 0} → s ≡ 0 → A
    no_header none = absurd (omega (arith, none, may.where_it_is.0))

    marks : AreMarks (with_sector c it.status s mark) it.status it.head.generation it.count
    marks t other w = elim (new_or_old c it.status s mark may.free it.status t other w.here) [
      | inl new ↦ subst (λ (x : Sector). SpellsMark it.count x.payload) new.2 may.spelled
      | inr old ↦ laid.marks t other (record { here = old; kind = w.kind; of_generation = w.of_generation; where_it_is = w.where_it_is })
    ]

-- ---- the end of marks

-- what is known then of a unit's log sectors
written_then : (t : Tables) (u : ℕ) → written_of (without_marks t) u ≡ unmarked_written (written_of t u)
written_then t u = elim (cases_lt u (length t.places.written)) [
  | inl low ↦ get_or-map unmarked_written t.places.written u 0 0 low
  | inr high ↦ get_or_past (map unmarked_written t.places.written) u 0 (omega (arith, high, length-map t.places.written unmarked_written))
      ∙ ap unmarked_written (sym (get_or_past t.places.written u 0 high))
]

-- the first that is known clean stays
clean_then : (t : Tables) (u : ℕ) → clean_from (without_marks t) u ≡ clean_from t u
clean_then t u = rw (written_then t u, counted_unmarked (written_of t u)) refl

pub counted_follow_ends_of_marks : CountedFollowEndsOfMarks
counted_follow_ends_of_marks t p s = (
  λ (small, is). (small, elim is [ inl (u, less, at, first) ↦ inl (u, less, at, rw (clean_then t u) first) | inr other ↦ inr other ]),
  λ (small, is). (small, elim is [ inl (u, less, at, first) ↦ inl (u, less, at, rw (clean_then t u) at first) | inr other ↦ inr other ]),
)

pub tables_follow_ends_of_marks : TablesFollowEndsOfMarks
tables_follow_ends_of_marks places c it t mirrors none = record {
  laid = mirrors.laid;
  directory = let was = mirrors.directory in record {
    units = was.units;
    logs = length-map t.places.written unmarked_written ∙ was.logs;
    all = was.all;
    counts = was.counts;
    current = was.current;
    heads = was.heads;
    generation = was.generation;
    not_home = was.not_home;
    not_status = was.not_status;
    not_overflow = was.not_overflow;
  };
  overflow = let was = mirrors.overflow in record {
    units = was.units;
    listed = was.listed;
    only = was.only;
    once = was.once;
    few = was.few;
    in_overflow = was.in_overflow;
    headed = was.headed;
    two = was.two;
    apart = was.apart;
  };
  status = let was = mirrors.status in record { place = was.place; generation = was.generation; numbers = was.numbers };
  numbers = let was = mirrors.numbers in record { above = was.above; below = was.below; once = was.once; waits = was.waits };
  masks = let was = mirrors.masks in record { units = was.units; lists = was.lists; sectors = was.sectors; home = was.home; elsewhere = was.elsewhere };
  logs = record {
    unmarked = λ u low first s mark w. absurd (none s mark w);
    whole = λ u n low known least most.
        mirrors.logs.whole u n low (unmarked_known (written_of t u) (rw (written_then t u) at known)) least (rw (clean_then t u) at most);
  };
  counted_clean = λ p s is. mirrors.counted_clean p s ((counted_follow_ends_of_marks t p s).1 is);
}

-- ---- after which no more is marked

-- a unit that is marked in the one chart is so in the other, where both have the same marks, and the one has the other's commit sectors
module _ (c y : Chart) (it jt : Layout)
    (back : (s : ℕ) (mark : Sector) → IsMark y jt.status jt.head.generation s mark → IsMark c it.status it.head.generation s mark)
    (forth : (s : ℕ) (mark : Sector) → IsMark c it.status it.head.generation s mark → IsMark y jt.status jt.head.generation s mark)
    (commits : (s : ℕ) (sector : Sector) → IsCommitSector c it.status it.head.generation s sector
    → IsCommitSector y jt.status jt.head.generation s sector) where
  pub marked_back : (u : ℕ) → (jt.units u).head ≡ (it.units u).head → IsMarkedUnit y jt u → IsMarkedUnit c it u
  marked_back u same is = record {
    number = is.number;
    mark = is.mark;
    counts = record {
      is = back is.number is.mark is.counts.is;
      last = λ t other w. is.counts.last t other (forth t other w);
      ends = λ t sector w. is.counts.ends t sector (commits t sector w);
    };
    has = is.has;
    behind = subst (λ (head : Sector). head.serial < is.mark.serial) same is.behind;
  }

-- or the same sectors at the status place
module _ (c y : Chart) (it jt : Layout) (same : (s : ℕ) → y jt.status s ≡ c it.status s) (head : jt.head ≡ it.head) where
  generation : jt.head.generation ≡ it.head.generation
  generation = ap (λ (z : Sector). z.generation) head

  pub marked_by_status : (u : ℕ) → (jt.units u).head ≡ (it.units u).head → IsMarkedUnit y jt u → IsMarkedUnit c it u
  marked_by_status = marked_back c y it jt
      (λ s mark w. record { here = sym (same s) ∙ w.here; kind = w.kind; of_generation = w.of_generation ∙ generation; where_it_is = w.where_it_is })
      (λ s mark w. record { here = same s ∙ w.here; kind = w.kind; of_generation = w.of_generation ∙ sym generation; where_it_is = w.where_it_is })
      (λ s sector w. record { here = same s ∙ w.here; kind = w.kind; of_generation = w.of_generation ∙ sym generation; where_it_is = w.where_it_is })

-- a sector more that is no mark
module _ (c : Chart) (it : Layout) (p s : ℕ) (sector : Sector) (free : c p s ≡ None) (other : sector.kind ≢ 7) where
  pub marked_before : (jt : Layout) → jt.status ≡ it.status → jt.head ≡ it.head → (u : ℕ) → (jt.units u).head ≡ (it.units u).head
      → IsMarkedUnit (with_sector c p s sector) jt u → IsMarkedUnit c it u
  marked_before jt status head u same = marked_back c (with_sector c p s sector) it jt
      (rw (status, head) (mark_before c p s sector free other it.status it.head.generation))
      (rw (status, head) (mark_still c p s sector free it.status it.head.generation))
      (rw (status, head) (commit_sector_still c p s sector free it.status it.head.generation)) u same

pub commits_mark_no_more : CommitsMarkNoMore
commits_mark_no_more places c it s sector numbers committed laid may =
    let new = with_committed it committed in record {
      before = it;
      laid_before = laid;
      no_home = home_not_status places c it laid;
      then = new;
      laid_then = (commit_sectors_add places c it s sector numbers committed laid may).0;
      each = λ u low marked. (low, marked_before c it it.status s sector may.free (λ is. omega (arith, is, may.kind)) new refl refl u refl marked, refl);
    }

pub headers_mark_no_more : HeadersMarkNoMore
headers_mark_no_more places c it t u p fresh mirrors low ready =
    let may = headers_may_go places c it t u p fresh mirrors low ready in
    let new = with_unit it u fresh in
    let other : fresh.head.kind ≢ 7 = λ is. omega (arith, is, ready.fits.0) in record {
      before = it;
      laid_before = mirrors.laid;
      no_home = (bare_is_idle places c it p mirrors.laid ready.bare).not_home;
      then = new;
      laid_then = (headers_switch places c it u p fresh mirrors.laid may).0;
      each = λ v less marked. elim (cases_eq v u) [
        | inl same ↦ absurd (
            let was = mark_before c p 0 fresh.head ready.bare other it.status it.head.generation marked.number marked.mark marked.counts.is in
            let marks = (new_serials_pass_the_status places c it t.next fresh.head.serial mirrors.numbers.above ready.new_serial).0 in
            let behind : fresh.head.serial < marked.mark.serial = rw (same, eq-eqb u u refl) at marked.behind in
            omega (arith, marks marked.number marked.mark was, behind))
        | inr apart ↦
            let shape : it.units v ≡ new.units v = rw (ne_eqb v u apart) refl in (
              less,
              marked_before c it p 0 fresh.head ready.bare other new refl refl v (ap (λ (z : Shape). z.head) (sym shape)) marked,
              ap (λ (z : Shape). z.home) shape,
            )
      ];
    }

pub renewals_mark_no_more : RenewalsMarkNoMore
renewals_mark_no_more places c it p head committed laid may = record {
  before = it;
  laid_before = laid;
  no_home = (bare_is_idle places c it p laid may.free).not_home;
  then = with_status it p head committed;
  laid_then = (status_headers_switch places c it p head committed laid may).0;
  each = λ u low marked. absurd (may.unmarked marked.number marked.mark
      (mark_before c p 0 head may.free (λ is. omega (arith, is, may.fits)) p head.generation marked.number marked.mark marked.counts.is));
}

pub overflows_mark_no_more : OverflowsMarkNoMore
overflows_mark_no_more places c it p head laid may = record {
  before = it;
  laid_before = laid;
  no_home = (bare_is_idle places c it p laid may.free).not_home;
  then = it;
  laid_then = (overflow_headers_wait places c it p head laid may).0;
  each = λ u low marked. (low, marked_before c it p 0 head may.free (λ is. omega (arith, is, may.kind)) it refl refl u refl marked, refl);
}
