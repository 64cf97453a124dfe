-- A clean close: its mark is the one that counts, and what is marked then is what is counted as clean.
use Rattle.std.proofs.Common.{◌≡◌, ◌≢◌, ◌⊎◌, ℕ, ◌<◌, ◌≤◌, ◌∷◌, length, true, None, inl, inr, refl, sym, ◌∙◌, ap, subst, arith}
use Rattle.std.proofs.lemmas.Bool.{cases_lt, ne_eqb}
use Rattle.chip_trait.specs.declared.event.Event.TheVariants.{Program}
use Rattle.chip_trait.specs.Story.{blank, held}
use Rattle.chip_trait.specs.Lawful.{Used, age}
use Rattle.chip_trait.specs.Chart.{with_sector}
use Rattle.chip_trait.specs.Told.{History, adds}
use Rattle.chip_trait.proofs.AgeLemmas.{age_apart}
use Rattle.chip_trait.proofs.ClosedLemmas.{held_program}
use Rattle.ipl_format.specs.Sector.{Sector, sector_in}
use Rattle.ipl_format.specs.Mark.{has_unit}
use Rattle.ipl_format.proofs.SectorLemmas.{blank_says_nothing}
use Rattle.ipl_meaning.specs.Chart.{Chart, chart_of}
use Rattle.ipl_meaning.specs.Layout.{Layout, Laid, IsCommitSector, IsMark}
use Rattle.ipl_meaning.specs.Rests.{now}
use Rattle.ipl_meaning.specs.Steps.{MayMark}
use Rattle.ipl_meaning.specs.Tables.{Tables, written_of, clean_from, IsCountedClean}
use Rattle.ipl_meaning.specs.Mirrors.{Mirrors}
use Rattle.ipl_meaning.specs.Marks.{IsLastMark, IsMarkedUnit}
use Rattle.ipl_meaning.specs.MarkLaws.{ClosesKeepMarks, ClosesMarkWhatIsClean}
use Rattle.ipl_meaning.proofs.PutLemmas.{new_or_old, here, commit_sector_before}
use Rattle.ipl_meaning.proofs.CounterLemmas.{new_serials_are_greatest, new_serials_pass_the_status}
use Rattle.ipl_meaning.proofs.MirrorLemmas.{map_contains}
use Rattle.ipl_meaning.proofs.KnownLogLemmas.{counted_unknown}
use Rattle.ipl_meaning.proofs.ApartLemmas.{homes_apart, home_not_over, home_not_status}
use Rattle.ipl_meaning.proofs.MarkLemmas.{marks_wait}
use Rattle.ipl_meaning.proofs.MarkStoryLemmas.{in_layout}
use Rattle.ipl_meaning.proofs.MarkProgramLemmas.{before, earlier, with_or_without, free_before, same_away, unused_then, what_is_left, laid_there, home_as_held}

-- ---- the mark that counts

-- a mark whose serial passes those of the others
module _ (c : Chart) (it : Layout) (s : ℕ) (mark : Sector) (may : MayMark c it s mark)
    (passed : (t : ℕ) (other : Sector) → IsMark c it.status it.head.generation t other → other.serial < mark.serial) where
  abbrev y : Chart
  y = with_sector c it.status s mark

  mark_here : IsMark y it.status it.head.generation s mark
  mark_here = record { here = here c it.status s mark may.free; kind = may.kind; of_generation = may.of_generation; where_it_is = may.where_it_is }

  new_or_old_mark : (t : ℕ) (other : Sector) → IsMark y it.status it.head.generation t other
      → ((t ≡ s) × (mark ≡ other)) ⊎ IsMark c it.status it.head.generation t other
  new_or_old_mark t other w = elim (new_or_old c it.status s mark may.free it.status t other w.here) [
    | inl new ↦ inl (new.1, new.2)
    | inr old ↦ inr (record { here = old; kind = w.kind; of_generation = w.of_generation; where_it_is = w.where_it_is })
  ]

  -- it has each unit that is marked
  pub new_mark_has : (u : ℕ) → IsMarkedUnit y it u → has_unit mark.payload u ≡ true
  new_mark_has u is = elim (new_or_old_mark is.number is.mark is.counts.is) [
    | inl new ↦ subst (λ (x : Sector). has_unit x.payload u ≡ true) (sym new.1) is.has
    | inr old ↦
        let less = passed is.number is.mark old in
        absurd (elim (is.counts.last s mark mark_here) [ inl below ↦ omega (arith, less, below) | inr same ↦ omega (arith, less, same.0) ])
  ]

  commit_before : (t : ℕ) (sector : Sector) → IsCommitSector y it.status it.head.generation t sector → IsCommitSector c it.status it.head.generation t sector
  commit_before = commit_sector_before c it.status s mark may.free (λ is. omega (arith, is, may.kind)) it.status it.head.generation

  -- and counts, where it passes the commit sectors too
  pub new_mark_counts : ((t : ℕ) (sector : Sector) → IsCommitSector c it.status it.head.generation t sector → sector.serial < mark.serial)
      → IsLastMark y it s mark
  new_mark_counts commits = record {
    is = mark_here;
    last = λ t other w. elim (new_or_old_mark t other w) [
      | inl new ↦ inr (ap (λ (x : Sector). x.serial) (sym new.1), omega (arith, new.0))
      | inr old ↦ inl (passed t other old)
    ];
    ends = λ t sector w. let less = commits t sector (commit_before t sector w) in omega (arith, less);
  }

-- ---- what is known

module _ (places : ℕ) (c : Chart) (it : Layout) (t : Tables) (mirrors : Mirrors places c it t) (u n : ℕ) (low : u < it.count) where
  -- where something is known, each log sector that doesn't check is counted as clean
  pub bare_is_counted : written_of t u < 32 → 241 ≤ n → n < 256 → c (it.units u).home n ≡ None → IsCountedClean t (it.units u).home n
  bare_is_counted known least most none = elim (cases_lt n (clean_from t u)) [
    | inl less ↦ absurd (mirrors.logs.whole u n low known least less none)
    | inr from ↦ (most, inl (u, omega (arith, low, mirrors.directory.units), sym (mirrors.directory.current u low), from))
  ]

  -- what is counted as clean at a unit's place is a log sector, and something is known of these
  counted_is_known : IsCountedClean t (it.units u).home n → (written_of t u < 32) × (241 ≤ n) × (n < 256)
  counted_is_known (small, inl (v, less, is, first)) =
      let inside : v < it.count = omega (arith, less, mirrors.directory.units) in
      let mine : u ≡ v = homes_apart places c it mirrors.laid u v low inside (is ∙ mirrors.directory.current v inside) in
      let from : clean_from t u ≤ n = rw mine first in
      elim (cases_lt (written_of t u) 32) [
        | inl known ↦ (known, omega (arith, from), small)
        | inr unknown ↦ absurd (let none : 256 ≤ n = rw (counted_unknown (written_of t u) unknown) at from in omega (arith, none, small))
      ]
  counted_is_known (small, inr (inl (first, is, above))) =
      let over = (mirrors.overflow.headed (it.units u).home (map_contains t.overflow.in_use (it.units u).home first is)).1 in
      absurd (home_not_over places c it mirrors.laid u low over)
  counted_is_known (small, inr (inr (is, above))) = absurd (home_not_status places c it mirrors.laid u low (is ∙ mirrors.status.place))

-- ---- closes

pub closes_keep_marks : ClosesKeepMarks
closes_keep_marks places m h it t s bytes mark rests closed agrees counted_unused may new known untouched spelled unused x image q n marked =
    let mirrors = agrees.mirrors in
    let laid = mirrors.laid in
    let z = before places m h it.status s bytes mark rests untouched spelled x image in
    let z_is = earlier places m h it.status s bytes mark rests untouched spelled x image in
    let laid_z = laid_there places m h it rests closed laid z z_is in
    let may_z : MayMark (chart_of z) it s mark = record {
      free = free_before places m h it.status s bytes mark rests untouched spelled x image;
      kind = may.kind;
      of_generation = may.of_generation;
      where_it_is = may.where_it_is;
      spelled = may.spelled;
    } in
    let passed : (k : ℕ) (other : Sector) → IsMark (chart_of z) it.status it.head.generation k other → other.serial < mark.serial = λ k other w.
    let there = what_is_left places m h it rests closed laid z z_is it.status k other w.here in
    (new_serials_pass_the_status places (now h) it t.next mark.serial mirrors.numbers.above new).0 k other
    (record { here = there; kind = w.kind; of_generation = w.of_generation; where_it_is = w.where_it_is }) in
    elim (with_or_without places m h it.status s bytes mark rests untouched spelled x image) [
      | inl (some, same) ↦
          let (u, low, home, unit) = in_layout places x it q n (rw same (marks_wait places (chart_of z) it s mark laid_z may_z).0) marked in
          let elsewhere : it.status ≢ q = λ at. home_not_status places (now h) it laid u low (sym home ∙ sym at) in
          let has = new_mark_has (chart_of z) it s mark may_z passed u (rw same at unit) in
          let something = (known u (omega (arith, low, mirrors.directory.units))).0 has in
          let as_before = same_away places m h it.status s bytes mark rests untouched spelled x image q n elsewhere in
          let was : held h.start h.story (it.units u).home n ≡ blank =
          sym (home_as_held places m h it rests closed laid z z_is u n low) ∙ ap (λ (r : ℕ). z r n) (sym home) ∙ as_before ∙ marked.is_blank in
          let none : now h (it.units u).home n ≡ None = ap sector_in was ∙ blank_says_nothing in
          let fresh = counted_unused (it.units u).home n (bare_is_counted places (now h) it t mirrors u n low something marked.region.0 marked.region.1 none) in
          let same_age : age (Program it.status s bytes ∷ h.story) q n ≡ age h.story (it.units u).home n =
          age_apart h.story it.status s bytes q n (rw (ne_eqb it.status q elsewhere) refl) ∙ ap (λ (r : ℕ). age h.story r n) home in
          λ used. fresh (sym same_age ∙ used)
      | inr same ↦
          let (u, low, home, unit) = in_layout places x it q n (rw same laid_z) marked in
          let elsewhere : it.status ≢ q = λ at. home_not_status places (now h) it laid u low (sym home ∙ sym at) in
          unused_then places m h it.status s bytes mark rests untouched spelled x image unused it laid_z q n u low home (rw same at unit)
          (rw (ne_eqb it.status q elsewhere) refl) marked
    ]

pub closes_mark_what_is_clean : ClosesMarkWhatIsClean
closes_mark_what_is_clean places h it t s bytes mark agrees may new known spelled u n low =
    let k : History = adds (Program it.status s bytes) h in
    let x = held k.start k.story in
    let mirrors = agrees.mirrors in
    let laid = mirrors.laid in
    let same : chart_of x ≡ with_sector (now h) it.status s mark = held_program sector_in h.start h.story it.status s bytes mark spelled in
    let laid_x : Laid places (chart_of x) it = rw same (marks_wait places (now h) it s mark laid may).0 in
    let (marks, commits) = new_serials_pass_the_status places (now h) it t.next mark.serial mirrors.numbers.above new in
    let inside : u < length t.places.current = omega (arith, low, mirrors.directory.units) in
    let there : x (it.units u).home n ≡ held h.start h.story (it.units u).home n =
    rw (ne_eqb it.status (it.units u).home (λ at. home_not_status places (now h) it laid u low (sym at))) refl in
    let head = (laid.each u low).chosen in (
      λ marked.
          let (v, less, home, unit) = in_layout places x it (it.units u).home n laid_x marked in
          let mine : v ≡ u = homes_apart places (now h) it laid v u less low (sym home) in
          let has = new_mark_has (now h) it s mark may marks v (rw same at unit) in
          let something = (known u inside).0 (subst (λ (w : ℕ). has_unit mark.payload w ≡ true) mine has) in
          let none : now h (it.units u).home n ≡ None = ap sector_in (sym there ∙ marked.is_blank) ∙ blank_says_nothing in
          bare_is_counted places (now h) it t mirrors u n low something marked.region.0 marked.region.1 none,
      λ counted_clean. let (something, least, most) = counted_is_known places (now h) it t mirrors u n low counted_clean in record {
        layout = it;
        laid = laid_x;
        unit = u;
        within = low;
        home = refl;
        marked = record {
          number = s;
          mark = mark;
          counts = rw same (new_mark_counts (now h) it s mark may marks commits);
          has = (known u inside).1 something;
          behind = (new_serials_are_greatest places (now h) it t.next mark.serial mirrors.numbers.above new).0 (it.units u).home (it.units u).head
              head.within head.here (omega (arith, head.fits.0), omega (arith, head.fits.0));
        };
        region = (least, most);
        is_blank = there ∙ (agrees.tidy (it.units u).home n counted_clean).0;
      },
    )
