-- What a commit sector makes of a chart, of the tables, and of what a power cut leaves.
use Rattle.std.proofs.Common.{◌≡◌, ℕ, ◌<◌, ◌≤◌, ◌+◌, Bool, true, List, [], length, Result, Ok, Err, IfErr, OnOk, ◌++◌, inl, inr, refl, sym, ◌∙◌, ap, subst, arith, get_or, ◌^◌}
use Rattle.std.specs.List.{All, Contains}
use Rattle.std.proofs.lemmas.List.Elements.{All-contains, Contains-append_cases, Contains-append_left, Contains-append_right, All-from_get_or}
use Rattle.chip_trait.specs.Chart.{with_sector}
use Rattle.chip_trait.specs.Lawful.{Clean, age, AreClean}
use Rattle.chip_trait.specs.Story.{Story}
use Rattle.chip_trait.specs.Told.{Told, adds_all}
use Rattle.ipl_base.specs.declared.fault.ChipFault.{ChipFault}
use Rattle.ipl_format.specs.Sector.{Sector}
use Rattle.ipl_format.specs.Commit.{SpellsCommit, IsLong}
use Rattle.ipl_format.proofs.PayloadLemmas.{commits_spell_once}
use Rattle.ipl_meaning.specs.Legible.{Legible}
use Rattle.ipl_meaning.specs.Chart.{Chart}
use Rattle.ipl_meaning.specs.Layout.{Layout}
use Rattle.ipl_meaning.specs.Stands.{Says, StandsBeside}
use Rattle.ipl_meaning.specs.Rests.{now, EachStandsEither, WornAreIdle, StoryRests}
use Rattle.ipl_meaning.proofs.CarriedLemmas.{tidy_is_carried}
use Rattle.ipl_meaning.proofs.PartLemmas.{idle_still}
use Rattle.ipl_meaning.proofs.WornLemmas.{worn_by_layout}
use Rattle.std.proofs.lemmas.Bool.{ne_eqb}
use Rattle.ipl_meaning.specs.Steps.{with_committed, MayCommit}
use Rattle.ipl_meaning.specs.Found.{MentionsBelow}
use Rattle.ipl_meaning.specs.Tables.{StatusTable, Tables, IsCountedClean}
use Rattle.ipl_meaning.specs.TableSteps.{after_commit, CountedShrink}
use Rattle.ipl_meaning.specs.Mirrors.{Mirrors}
use Rattle.ipl_meaning.specs.Marks.{MarksNoMore}
use Rattle.ipl_meaning.proofs.MirrorLemmas.{commit_sectors_may_go}
use Rattle.ipl_meaning.proofs.CommitLemmas.{commit_sectors_add}
use Rattle.ipl_meaning.proofs.CommitFollowLemmas.{tables_follow_commits}
use Rattle.ipl_meaning.proofs.StandsLemmas.{stands_after_commits}
use Rattle.ipl_meaning.proofs.CountedLemmas.{counted_follow}
use Rattle.ipl_meaning.proofs.MarkLemmas.{commits_mark_no_more}
use Rattle.unit_io.specs.Leads.{IsStopped}
use Rattle.unit_io.specs.Spots.{Programs, IsSpot}
use Rattle.unit_io.specs.Charts.{Charts, Gains}
use Rattle.unit_io.specs.Steps.{RestsAgreeing}
use Rattle.unit_io.proofs.StepLemmas.{writes_are_steps}
use Rattle.number_set.specs.Numbers.{with_numbers, also}
use Rattle.number_set.proofs.NumberLemmas.{numbers_are_a_union}
use Rattle.number_set.proofs.AmongLemmas.{also_is_a_union}
use Rattle.txn_status.specs.Commits.{commit_sector}
use Rattle.txn_status.specs.Adding.{HasStatus, MayAdd, with_added, layout_added, Added, Adds, AddsInSteps}
use Rattle.unit_io.specs.Costs.{ProgramsAt}
use Rattle.unit_io.specs.Writing.{LeadsCommit, OnlyPrograms}
use Rattle.txn_status.specs.Writing.{WritesOneSector}
use Rattle.txn_status.proofs.SetLemmas.{mirrors_looks_at_the_set}

-- ---- what is programmed

-- one sector of a kind, and a barrier
pub one_sector : (p s kind : ℕ) (result : Result (Unit {0}) ChipFault) (old new : Told)
    → OnlyPrograms (ProgramsAt p 1 1 kind) p (IsSpot s) result old new
    → WritesOneSector p s kind result old new
one_sector p s kind result old new only =
    record { costs = only.costs; tidy = only.tidy; accounts = only.accounts }

-- ---- the chart and the tables

-- 1 to 60 numbers that were drawn
pub record AreSpelled (numbers : List ℕ) : Type 0 where
  pub some : 1 ≤ length numbers
  pub few : length numbers ≤ 60
  pub long_each : All IsLong numbers

pub spelled_in : (generation serial : ℕ) (numbers : List ℕ) → AreSpelled numbers
    → SpellsCommit (commit_sector generation serial numbers).payload numbers
spelled_in generation serial numbers are =
    record { bytes = refl; some = are.some; most = are.few; each = are.long_each }

module _ (places : ℕ) (c : Chart) (it : Layout) (t : Tables) (numbers active : List ℕ)
    (mirrors : Mirrors places c it t) (may : MayAdd t numbers active) (are : AreSpelled numbers)
    (least : 1 ≤ t.status.first) (room : t.status.first < 256) where
  abbrev sector : Sector
  sector = commit_sector t.status.generation t.next numbers

  abbrev committed : ℕ → Bool
  committed = also it.committed numbers

  may_commit : MayCommit c it t.status.first sector numbers committed
  may_commit = commit_sectors_may_go places c it t sector numbers committed mirrors least room refl
      refl
      (spelled_in t.status.generation t.next numbers are)
      (λ tid. (also_is_a_union numbers [] it.committed tid).either.0)
      (λ tid. (also_is_a_union numbers [] it.committed tid).either.1)

  generation_below : t.status.generation < t.next
  generation_below = rw mirrors.status.generation
      (mirrors.numbers.above it.head.generation (
        it.status,
        0,
        it.head,
        inl (
          refl,
          mirrors.laid.chosen.within,
          mirrors.laid.chosen.here,
          (kind_low, kind_high),
        ),
        inl refl,
      ))
    where
      kind_low : 1 ≤ it.head.kind
      kind_low = omega (arith, mirrors.laid.chosen.fits)

      kind_high : it.head.kind ≤ 3
      kind_high = omega (arith, mirrors.laid.chosen.fits)

  mentions : MentionsBelow (1 + t.next) sector
  mentions n (inl is) = omega (arith, is, generation_below)
  mentions n (inr (inl is)) = omega (arith, is)
  mentions n (inr (inr (inl (kind, told, spelled, has)))) =
      let same : told ≡ numbers = commits_spell_once sector.payload told numbers spelled
      (spelled_in t.status.generation t.next numbers are) in
      let low : n < t.next = All-contains (λ k. k < t.next) numbers n may.below
      (subst (λ (l : List ℕ). Contains l n) same has) in
      omega (arith, low)
  mentions n (inr (inr (inr log))) = absurd (omega (arith, log.0))

  abbrev y : Chart
  y = with_sector c it.status t.status.first sector

  mirrors_then : Mirrors places y (with_committed it committed)
      (with_added t numbers (1 + t.next) active)
  mirrors_then = mirrors_looks_at_the_set places y (with_committed it committed)
      (after_commit t numbers (1 + t.next) active) (with_numbers numbers t.status.numbers)
      (λ n. let (there, back) = numbers_are_a_union numbers t.status.numbers n in (
        λ is. back (elim (Contains-append_cases t.status.numbers numbers n is) [
          | inl old ↦ inr old
          | inr new ↦ inl new
        ]),
        λ is. elim (there is) [
          | inl new ↦ Contains-append_right t.status.numbers numbers n new
          | inr
              old ↦ Contains-append_left t.status.numbers numbers n old
        ],
      ))
      (tables_follow_commits places c it t sector numbers committed
      (1 + t.next) active mirrors may_commit
      (omega arith) mentions may.open_still may.once may.waits)

  pub added : Added places c y it t numbers (1 + t.next) active
  added = record {
    mirrors = mirrors_then;
    pages =
        (commit_sectors_add places c it t.status.first sector numbers committed mirrors.laid
        may_commit).1;
  }

  pub stands_added : (n : Legible) → Says places c (with_committed it committed) n → StandsBeside places c y n
  stands_added n says = stands_after_commits places c it n t.status.first sector numbers committed
      mirrors.laid may_commit says

  pub marked_added : MarksNoMore places c y it.status
  marked_added = commits_mark_no_more places c it t.status.first sector numbers committed mirrors.laid
      may_commit

  pub counted_added : CountedShrink t
      (with_added t numbers (1 + t.next) active) it.status t.status.first
  counted_added q s counted_clean = (counted_follow places c it t mirrors).2 numbers active
      (1 + t.next) q s counted_clean

-- with what is known of the status
same_chart : (places : ℕ) (status : StatusTable) (next : ℕ) (numbers : List ℕ) (c : Chart) (it : Layout)
    (t : Tables) → Mirrors places c it t → HasStatus t status next
    → with_sector c it.status t.status.first
    (commit_sector t.status.generation t.next numbers)
    ≡ with_sector c status.place status.first (commit_sector status.generation next numbers)
same_chart places status next numbers c it t mirrors has =
    let at : status.place ≡ it.status =
    ap (λ (s : StatusTable). s.place) (sym has.status_is) ∙ mirrors.status.place in
    ap (λ (s : StatusTable). with_sector c it.status s.first (commit_sector s.generation t.next numbers))
    has.status_is
    ∙ ap (λ (k : ℕ). with_sector c it.status status.first
    (commit_sector status.generation k numbers))
    has.next_is
    ∙ ap (λ (p : ℕ). with_sector c p status.first (commit_sector status.generation next numbers))
    (sym at)

pub adds_chart : (places : ℕ) (status : StatusTable) (next : ℕ) (numbers : List ℕ) (c y : Chart)
    → AreSpelled numbers → 1 ≤ status.first → status.first < 256
    → Gains status.place status.first (commit_sector status.generation next numbers) c y
    → Adds places status next numbers c y
adds_chart places status next numbers c y are least room gains it t active mirrors has may =
    let first : t.status.first ≡ status.first = ap (λ (s : StatusTable). s.first) has.status_is in
    let done = added places c it t numbers active mirrors may are (omega (arith, first))
    (omega (arith, first)) in
    let own : Chart = with_sector c it.status t.status.first
    (commit_sector t.status.generation t.next numbers) in
    subst (λ (z : Chart). Added places c z it t numbers (1 + next) active)
    (same_chart places status next numbers c it t mirrors has ∙ sym gains)
    (subst (λ (k : ℕ). Added places c own it t numbers (1 + k) active) has.next_is done)

pub adds_told : (places : ℕ) (status : StatusTable) (next : ℕ) (numbers : List ℕ)
    (result : Result (Unit {0}) ChipFault) (old new : Told) → AreSpelled numbers → 1 ≤ status.first
    → status.first < 256
    → OnOk result (Charts (Gains status.place status.first
    (commit_sector status.generation next numbers)) old new)
    → OnOk result (Charts (Adds places status next numbers) old new)
adds_told places status next numbers (Err e) old new are least room tells = tt
adds_told places status next numbers (Ok v) old new are least room tells = λ x told.
    let (z, there, gains) = tells x told in
    (z, there, adds_chart places status next numbers _ _ are least room gains)

-- ---- what a power cut leaves

pub added_in_steps : (places : ℕ) (status : StatusTable) (next : ℕ) (numbers : List ℕ)
    (result : Result (Unit {0}) ChipFault) (old new : Told)
    → AreSpelled numbers → 1 ≤ status.first → status.first < 256
    → LeadsCommit places status.place status.first
    (commit_sector status.generation next numbers) old result new
    → IfErr result (λ fault. IsStopped fault old new)
    → AddsInSteps places status next numbers result old new
added_in_steps places status next numbers result old new are least room leads stopped h it t m n
    active steady has ready =
    let mirrors = ready.agrees.mirrors in
    let at : status.place ≡ it.status =
    ap (λ (s : StatusTable). s.place) (sym has.status_is) ∙ mirrors.status.place in
    let first : t.status.first ≡ status.first = ap (λ (s : StatusTable). s.first) has.status_is in
    let sector = commit_sector status.generation next numbers in
    let fits_least : 1 ≤ t.status.first = omega (arith, first) in
    let fits_room : t.status.first < 256 = omega (arith, first) in
    let counted : IsCountedClean t status.place status.first =
    (room, inr (inr (ap (λ (s : StatusTable). s.place) (sym has.status_is), omega (arith, first)))) in
    let stands : StandsBeside places (now h) (with_sector (now h) status.place status.first sector) n =
    subst (λ (z : Chart). StandsBeside places (now h) z n)
    (same_chart places status next numbers (now h) it t mirrors has)
    (stands_added places (now h) it t numbers active mirrors ready.may are fits_least fits_room n
    ready.then_says) in
    let y : Chart = with_sector (now h) status.place status.first sector in
    let then = adds_chart places status next numbers (now h) y are least room refl it t active mirrors has ready.may in
    let worn : WornAreIdle places h.story y = worn_by_layout places h.story y (layout_added it numbers) then.mirrors.laid (λ q on.
    let idle = ready.rests.worn it mirrors.laid q on in
    idle_still places (now h) y it (layout_added it numbers) q (λ s. rw (ne_eqb status.place q (λ is. idle.not_status (sym at ∙ is))) refl) refl refl (λ u low. (refl, refl)) idle) in
    let no_more : MarksNoMore places (now h) y status.place =
    subst (λ (p : ℕ). MarksNoMore places (now h) y p) (sym at)
    (subst (λ (z : Chart). MarksNoMore places (now h) z it.status)
    (same_chart places status next numbers (now h) it t mirrors has)
    (marked_added places (now h) it t numbers active mirrors ready.may are fits_least fits_room)) in
    let apart : (base : Story) → AreClean (IsCountedClean t) base → (a : Story)
    → Programs status.place (IsSpot status.first) true a
    → AreClean (IsCountedClean (with_added t numbers (1 + next) active)) (a ++ base) =
    λ base clean a programs q s after.
    let (before, other) = counted_added places (now h) it t numbers active mirrors ready.may are
    fits_least fits_room q s after in
    programs.others base q s (λ same here. other (same ∙ at) (here ∙ sym first))
    (clean q s before) in
    writes_are_steps (Unit {0}) (EachStandsEither places m n)
    (Programs status.place (IsSpot status.first))
    (λ done k. StoryRests places n k × Gains status.place status.first sector (now h) (now k))
    (λ done k. RestsAgreeing places n (layout_added it numbers)
    (with_added t numbers (1 + next) active) k)
    t (with_added t numbers (1 + next) active) h old new result
    (leads m n h steady ready.rests ready.closed
    (ready.agrees.tidy status.place status.first counted)
    stands worn no_more) stopped
    (λ done a programs. (
      programs.silent,
      record {
        lawful = λ base is clean. programs.lawful base is
            (λ s spot. subst (λ (z : ℕ). age base status.place z ≡ Clean) (sym spot)
            (clean status.place status.first counted));
      },
    ))
    (λ done a programs is base clean. apart base clean a programs)
    (λ done a programs is. record {
      rests = is.0;
      agrees = record {
        mirrors = (adds_chart places status next numbers (now h) (now (adds_all a h)) are least room
            is.1 it t active mirrors has ready.may).mirrors;
        tidy = tidy_is_carried places h it t (with_added t numbers (1 + next) active) a ready.agrees
            (λ base clean. apart base clean a programs);
      };
    })

pub spelled_from : (numbers : List ℕ) → 1 ≤ length numbers → length numbers ≤ 60
    → ((i : ℕ) → get_or numbers i 0 < 2 ^ 64) → AreSpelled numbers
spelled_from numbers some few each =
    record {
      some = some;
      few = few;
      long_each =
          All-from_get_or IsLong numbers 0 (λ i within. each i);
    }
