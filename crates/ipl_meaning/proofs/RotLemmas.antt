-- Rot of one page takes nothing from the others.
use Rattle.std.proofs.Common.{◌≡◌, ◌≢◌, ℕ, ◌<◌, ◌≤◌, Some, true, false, inl, inr, refl, sym, ◌∙◌, ap, subst, arith, get_or, slice_index, ◌==◌, not}
use Rattle.std.proofs.lemmas.Bool.{cases_eq, cases_Bool, false≢true, and_from, and_parts, or_cases, or_left, or_right, not-true, not_from_false, eq-eqb, eqb-true}
use Rattle.std.proofs.lemmas.List.Elements.{All-get_or}
use Rattle.ipl_format.specs.Header.{IsCount}
use Rattle.ipl_format.specs.Sector.{Sector}
use Rattle.ipl_format.specs.Place.{base_sector_of}
use Rattle.ipl_format.specs.Page.{Slots}
use Rattle.ipl_meaning.specs.Chart.{Chart, IsChosen, IsDataHeader, IsStatusHeader, IsLive}
use Rattle.ipl_meaning.specs.Values.{Values}
use Rattle.ipl_meaning.specs.Layout.{Shape, IsUnit, IsCommitSector, IsStatus, IsMark, Layout, Laid, ReadsWell}
use Rattle.ipl_meaning.specs.Legible.{Legible, of, with_rotten, is_page}
use Rattle.ipl_meaning.specs.Stands.{Shows, Says}
use Rattle.ipl_meaning.specs.Laws.{SameButPage, RotCostsAPage, RotTellsApart, EveryIsToldApart}

module _ (places : ℕ) (c y : Chart) (it : Layout) (u page : ℕ) (laid : Laid places c it) (low : u < it.count) (same : SameButPage it u page c y) where
  abbrev w : ℕ
  w = (it.units u).home

  first : (p : ℕ) → y p 0 ≡ c p 0
  first p = same.apart p 0 (λ at. inl refl)

  -- another kind of header doesn't stand there
  header_there : (p : ℕ) (head : Sector) → c p 0 ≡ Some head → head.kind ≢ 1 → p ≢ w
  header_there p head there other at =
      let unit = (laid.each u low).chosen in
      let both : Some head ≡ Some (it.units u).head = sym there ∙ (ap (λ (q : ℕ). c q 0) at ∙ unit.here) in
      let one : head ≡ (it.units u).head = cc both in
      other (ap (λ (s : Sector). s.kind) one ∙ unit.fits.0)

  chosen_same : (Fits : Sector → Type 0) (p : ℕ) (head : Sector) → IsChosen c places Fits p head → IsChosen y places Fits p head
  chosen_same Fits p head chosen = record {
    within = chosen.within;
    here = first p ∙ chosen.here;
    fits = chosen.fits;
    best = λ q other few there fits. chosen.best q other few (sym (first q) ∙ there) fits;
  }

  -- a live sector isn't a base sector
  live_same : (v home generation p s : ℕ) (x : Sector) → IsLive c places v home generation p s x → y p s ≡ c p s
  live_same v home generation p s x live = same.apart p s (λ at. elim live.counts [
    | inl at_home ↦ inr at_home.1
    | inr over ↦ absurd (header_there p over.0.0 over.0.1 (λ is. omega (arith, is, over.0.2)) at)
  ])

  live_same_back : (v home generation p s : ℕ) (x : Sector) → IsLive y places v home generation p s x → y p s ≡ c p s
  live_same_back v home generation p s x live = same.apart p s (λ at. elim live.counts [
    | inl at_home ↦ inr at_home.1
    | inr over ↦ absurd (header_there p over.0.0 (sym (first p) ∙ over.0.1) (λ is. omega (arith, is, over.0.2)) at)
  ])

  live_forth : (v home generation p s : ℕ) (x : Sector) → IsLive c places v home generation p s x → IsLive y places v home generation p s x
  live_forth v home generation p s x live = record {
    here = live_same v home generation p s x live ∙ live.here;
    kind = live.kind;
    of_unit = live.of_unit;
    of_generation = live.of_generation;
    within = live.within;
    counts = elim live.counts [ inl at_home ↦ inl at_home | inr over ↦ inr ((over.0.0, first p ∙ over.0.1, over.0.2), over.1) ];
  }

  live_back : (v home generation p s : ℕ) (x : Sector) → IsLive y places v home generation p s x → IsLive c places v home generation p s x
  live_back v home generation p s x live = record {
    here = sym (live_same_back v home generation p s x live) ∙ live.here;
    kind = live.kind;
    of_unit = live.of_unit;
    of_generation = live.of_generation;
    within = live.within;
    counts = elim live.counts [ inl at_home ↦ inl at_home | inr over ↦ inr ((over.0.0, sym (first p) ∙ over.0.1, over.0.2), over.1) ];
  }

  unit_same : (count v : ℕ) (shape : Shape) → IsUnit c places count v shape → IsUnit y places count v shape
  unit_same count v shape unit = record {
    chosen = chosen_same (IsDataHeader v) shape.home shape.head unit.chosen;
    counts = unit.counts;
    log = let log = unit.log in record {
      each = λ k none few. let e = get_or shape.log k none in let was = log.each k none few in record { live = live_forth v shape.home shape.head.generation e.place e.number e.sector was.live; records = was.records };
      all = λ p s x live. log.all p s x (live_back v shape.home shape.head.generation p s x live);
      rising = log.rising;
      spots = log.spots;
      few = log.few;
      listed = log.listed;
    };
  }

  -- the status place isn't the unit's
  at_status : (s : ℕ) → y it.status s ≡ c it.status s
  at_status s = same.apart it.status s (λ at. absurd (header_there it.status it.head laid.chosen.here (λ is. omega (arith, is, laid.chosen.fits)) at))

  commit_forth : (s : ℕ) (x : Sector) → IsCommitSector c it.status it.head.generation s x → IsCommitSector y it.status it.head.generation s x
  commit_forth s x is = record { here = at_status s ∙ is.here; kind = is.kind; of_generation = is.of_generation; where_it_is = is.where_it_is }

  commit_back : (s : ℕ) (x : Sector) → IsCommitSector y it.status it.head.generation s x → IsCommitSector c it.status it.head.generation s x
  commit_back s x is = record { here = sym (at_status s) ∙ is.here; kind = is.kind; of_generation = is.of_generation; where_it_is = is.where_it_is }

  status_same : IsStatus y it.status it.head.generation it.committed
  status_same = let was = laid.commits in record {
    spelled = λ s x is. was.spelled s x (commit_back s x is);
    told = λ tid is_so. let is = was.told tid is_so in record { number = is.number; sector = is.sector; is = commit_forth is.number is.sector is.is; numbers = is.numbers; spelled = is.spelled; has = is.has };
    all_told = λ tid is. was.all_told tid (record { number = is.number; sector = is.sector; is = commit_back is.number is.sector is.is; numbers = is.numbers; spelled = is.spelled; has = is.has });
  }

  mark_back : (s : ℕ) (x : Sector) → IsMark y it.status it.head.generation s x → IsMark c it.status it.head.generation s x
  mark_back s x is = record { here = sym (at_status s) ∙ is.here; kind = is.kind; of_generation = is.of_generation; where_it_is = is.where_it_is }

  laid_still : Laid places y it
  laid_still = record {
    least = laid.least;
    most = laid.most;
    count = laid.count;
    chosen = chosen_same IsStatusHeader it.status it.head laid.chosen;
    counts = laid.counts;
    commits = status_same;
    marks = λ s x is. laid.marks s x (mark_back s x is);
    each = λ v few. unit_same it.count v (it.units v) (laid.each v few);
    overflows = laid.overflows;
    two = laid.two;
    in_overflow = laid.in_overflow;
  }

  -- homes of two units are two places
  homes_apart : (v : ℕ) → v < it.count → v ≢ u → (it.units v).home ≢ w
  homes_apart v few apart at =
      let mine = (laid.each u low).chosen in
      let theirs = (laid.each v few).chosen in
      let both : Some (it.units v).head ≡ Some (it.units u).head = sym theirs.here ∙ (ap (λ (q : ℕ). c q 0) at ∙ mine.here) in
      let one : (it.units v).head ≡ (it.units u).head = cc both in
      apart (sym theirs.fits.1 ∙ (ap (λ (s : Sector). s.unit) one ∙ mine.fits.1))

  shown_by : (v q : ℕ) (now : Values) → v < it.count → q < 15
      → ((i : ℕ) → i < 16 → y (it.units v).home (base_sector_of q i) ≡ c (it.units v).home (base_sector_of q i))
      → Shows c it.committed v (it.units v) q now → Shows y it.committed v (it.units v) q now
  shown_by v q now few small alike was =
      let r = was.reads in
      let unit = laid.each v few in
      let most : slice_index (it.units v).pieces q ≤ 16 = All-get_or IsCount (it.units v).pieces q 0 (omega (arith, small, unit.counts.fifteen)) unit.counts.each in
      record {
        base = was.base;
        reads = record { fits = r.fits; cut = r.cut; here = λ i within. alike i (omega (arith, within, most)) ∙ r.here i within };
        says = was.says;
        room = was.room;
      }

  -- a page of another unit, or another page, is held as before
  held_still : (v q : ℕ) → v < it.count → q < 15 → is_page u page v q ≡ false
      → (i : ℕ) → i < 16 → y (it.units v).home (base_sector_of q i) ≡ c (it.units v).home (base_sector_of q i)
  held_still v q few small elsewhere i within = elim (cases_eq v u) [
    | inl same_unit ↦ subst (λ (k : ℕ). y (it.units k).home (base_sector_of q i) ≡ c (it.units k).home (base_sector_of q i)) (sym same_unit)
        (same.others q i (λ is. false≢true (sym elsewhere ∙ and_from (v == u) (q == page) (eq-eqb v u same_unit) (eq-eqb q page is))) within)
    | inr apart ↦ same.apart (it.units v).home (base_sector_of q i) (λ at. absurd (homes_apart v few apart at))
  ]

  read_before : (v q : ℕ) (base : Slots) → v < it.count → q < 15 → is_page u page v q ≡ false → ReadsWell y v (it.units v) q base → ReadsWell c v (it.units v) q base
  read_before v q base few small elsewhere r =
      let unit = laid.each v few in
      let most : slice_index (it.units v).pieces q ≤ 16 = All-get_or IsCount (it.units v).pieces q 0 (omega (arith, small, unit.counts.fifteen)) unit.counts.each in
      record { fits = r.fits; cut = r.cut; here = λ i within. sym (held_still v q few small elsewhere i (omega (arith, within, most))) ∙ r.here i within }

  says_still : (m : Legible) → ((base : Slots) → ¬ ReadsWell y u (it.units u) page base) → Says places c it m → Says places y it (of (with_rotten m.pages u page) m.map)
  says_still m bad says = record {
    pages = λ v q few small reads.
        let (was, other) = and_parts (m.pages.reads v q) (not (is_page u page v q)) reads in
        shown_by v q _ few small (held_still v q few small (not-true (is_page u page v q) other)) (says.pages v q few small was);
    rotten = λ v q base few small is reads. elim (cases_Bool (is_page u page v q)) [
      | inl there ↦ let at = and_parts (v == u) (q == page) there in
          bad base (subst (λ (k : ℕ). ReadsWell y u (it.units u) k base) (eqb-true q page at.1)
          (subst (λ (k : ℕ). ReadsWell y k (it.units k) q base) (eqb-true v u at.0) reads))
      | inr elsewhere ↦ elim (or_cases (m.pages.rotten v q) (is_page u page v q) is) [
        | inl was ↦ says.rotten v q base few small was (read_before v q base few small elsewhere reads)
        | inr there ↦ absurd (false≢true (sym elsewhere ∙ there))
      ]
    ];
    nowhere_else = says.nowhere_else;
  }

pub rot_costs_a_page : RotCostsAPage
rot_costs_a_page places c y it m u page laid low same bad says =
    (laid_still places c y it u page laid low same, says_still places c y it u page laid low same m bad says)

pub rot_tells_apart : RotTellsApart
rot_tells_apart pages u page apart v q = elim (cases_Bool (is_page u page v q)) [
  | inl there ↦ inr (or_right (pages.rotten v q) (is_page u page v q) there)
  | inr elsewhere ↦ elim (apart v q) [
    | inl reads ↦ inl (and_from (pages.reads v q) (not (is_page u page v q)) reads (not_from_false (is_page u page v q) elsewhere))
    | inr is ↦ inr (or_left (pages.rotten v q) (is_page u page v q) is)
  ]
]

pub every_is_told_apart : EveryIsToldApart
every_is_told_apart u page = inl refl
