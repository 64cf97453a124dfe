-- What a new status place makes of a chart, of the tables, and of what a power cut leaves.
use Rattle.std.proofs.Common.{◌≡◌, ◌≢◌, ◌↔◌, ℕ, zero, suc, ◌<◌, ◌≤◌, ◌+◌, ◌-◌, ◌*◌, ◌/◌, ◌%◌, false, min, List, length, drop, get_or, slice_index, Some, None, IsTrue, inl, inr, refl, sym, ◌∙◌, ap, subst, arith}
use Rattle.std.specs.List.{All, Contains}
use Rattle.std.proofs.lemmas.Bool.{cases_lt, cases_eq, cases_Bool, eq-eqb, ne_eqb, false≢true}
use Rattle.std.proofs.lemmas.List.{length-take, length-drop, get_or-take, get_or-drop}
use Rattle.std.proofs.lemmas.List.Elements.{All-contains, All-take, All-drop, All-weaker}
use Rattle.chip_trait.specs.Chart.{with_sector}
use Rattle.chip_trait.specs.Image.{is_worn}
use Rattle.chip_trait.specs.Story.{Story}
use Rattle.ipl_format.specs.Sector.{Sector}
use Rattle.ipl_format.specs.Commit.{SpellsCommit, IsLong}
use Rattle.ipl_format.proofs.PayloadLemmas.{commits_spell_once}
use Rattle.ipl_meaning.specs.Legible.{Legible}
use Rattle.ipl_meaning.specs.Chart.{Chart}
use Rattle.ipl_meaning.specs.Layout.{Layout, Laid, IsStatus, HasNoMark}
use Rattle.ipl_meaning.specs.Rests.{WornAreIdle}
use Rattle.ipl_meaning.specs.Stands.{Says, StandsBeside}
use Rattle.ipl_meaning.specs.Steps.{SameBut, KeepsPages, KeepsNumbers, with_status, ComesToNothing, MaySwitch}
use Rattle.ipl_meaning.specs.Found.{MentionsBelow, IsPlaceBelow}
use Rattle.ipl_meaning.specs.Tables.{StatusTable, Tables}
use Rattle.ipl_meaning.specs.TableSteps.{IsRenewed}
use Rattle.ipl_meaning.specs.Mirrors.{Mirrors}
use Rattle.ipl_meaning.specs.Marks.{MarksNoMore}
use Rattle.ipl_meaning.proofs.MirrorLemmas.{status_headers_may_go}
use Rattle.ipl_meaning.proofs.IdleLemmas.{idle_places_do_not_count}
use Rattle.ipl_meaning.proofs.IdleFollowLemmas.{tables_follow_idle_places}
use Rattle.ipl_meaning.proofs.RenewalFollowLemmas.{tables_follow_renewals}
use Rattle.ipl_meaning.proofs.SwitchLemmas.{status_headers_switch, kept_numbers_keep_pages}
use Rattle.ipl_meaning.proofs.StandsLemmas.{kept_pages_keep_the_map, pages_then, stands_after_renewals}
use Rattle.ipl_meaning.proofs.WornLemmas.{worn_by_layout, idle_after_renewals}
use Rattle.ipl_meaning.proofs.MarkLemmas.{renewals_mark_no_more}
use Rattle.number_set.specs.Numbers.{among}
use Rattle.number_set.proofs.AmongLemmas.{among_is_contains}
use Rattle.txn_status.specs.Commits.{commit_sector, part_of}
use Rattle.txn_status.specs.Status.{parts_of}
use Rattle.txn_status.specs.Switching.{HasParts, IsStatusHead, IsTaken, MayKeep, IsSwitched, Switched}

-- ---- parts of numbers

abbrev pub AreLong : List ℕ → Type 0
AreLong kept = All IsLong kept

part_some : (kept : List ℕ) (i : ℕ) → i < parts_of kept → 60 * i < length kept
part_some kept i low = omega (arith, low)

length_part : (kept : List ℕ) (i : ℕ) → length (part_of kept i) ≡ min 60 (length kept - 60 * i)
length_part kept i = length-take 60 (drop (60 * i) kept) ∙ ap (min 60) (length-drop (60 * i) kept)

part_spells : (generation serial : ℕ) (kept : List ℕ) (i : ℕ) → AreLong kept → i < parts_of kept
    → SpellsCommit (commit_sector generation serial (part_of kept i)).payload (part_of kept i)
part_spells generation serial kept i each low = record {
  bytes = refl;
  some = omega (arith, length_part kept i, part_some kept i low);
  most = omega (arith, length_part kept i);
  each = All-take IsLong 60 (drop (60 * i) kept) (All-drop IsLong (60 * i) kept each);
}

-- an element of a part is one of the numbers
part_in : (kept : List ℕ) (i n : ℕ) → Contains (part_of kept i) n → Contains kept n
part_in kept i n (k, within, is) =
    let few : k < 60 = omega (arith, within, length_part kept i) in (
      60 * i + k,
      omega (arith, within, length_part kept i),
      sym (get_or-drop (60 * i) kept k n)
          ∙ sym (get_or-take 60 (drop (60 * i) kept) k n few) ∙ is,
    )

-- and each of the numbers is in a part
in_part : (kept : List ℕ) (n : ℕ) → Contains kept n → (i : ℕ) × (i < parts_of kept)
    × Contains (part_of kept i) n
in_part kept n (k, within, is) =
    let i = k / 60 in
    let r = k % 60 in
    let split : 60 * i + r ≡ k = omega arith in
    let small : r < 60 = omega arith in (
      i,
      omega (arith, split, within),
      (
        r,
        omega (arith, length_part kept i, split, within, small),
        get_or-take 60 (drop (60 * i) kept) r n small ∙ get_or-drop (60 * i) kept r n
            ∙ ap (λ (j : ℕ). get_or kept j n) split ∙ is,
      ),
    )

-- ---- the header

-- the tables then have the counts and the retired places that the header was written with
pub head_then : (places : ℕ) (t after : Tables) (count p from : ℕ) (head : Sector)
    → length t.places.current ≡ count → IsRenewed t after p t.next from
    → IsStatusHead places (length t.places.current) (slice_index t.places.erases p) t.places.retired t.next head
    → IsStatusHead places count (slice_index after.places.erases p) after.places.retired t.next head
head_then places t after count p from head units renewed is =
    subst (λ (n : ℕ). IsStatusHead places n (slice_index after.places.erases p) after.places.retired t.next head) units
    (subst (λ (l : List ℕ).
    IsStatusHead places (length t.places.current) (slice_index after.places.erases p) l t.next head)
    (sym renewed.retired)
    (subst (λ (l : List ℕ). IsStatusHead places (length t.places.current) (slice_index l p) t.places.retired t.next head)
    (sym renewed.erases) is))

-- what is asked of the chart before, of the place, and of what was written there
pub record IsPrepared (places : ℕ) (c y : Chart) (it : Layout) (t : Tables) (p : ℕ) (kept : List ℕ)
    (head : Sector) : Type 0 where
  pub mirrors : Mirrors places c it t
  pub taken : IsTaken places c it t p
  pub within : p < places
  pub may : MayKeep t kept
  pub each : AreLong kept
  pub most : length kept ≤ 3840
  pub parts : HasParts p t.next (t.next + 1) kept (parts_of kept) c y
  pub is_head : IsStatusHead places (length t.places.current) (slice_index t.places.erases p) t.places.retired
      t.next head

module _ (places : ℕ) (c y : Chart) (it : Layout) (t : Tables) (p : ℕ) (kept : List ℕ)
    (head : Sector) (is : IsPrepared places c y it t p kept head) where
  abbrev n : ℕ
  n = parts_of kept

  -- what stands at the place
  pub data AtPlace (s : ℕ) : Type 0 where
    Nothing : y p s ≡ None → AtPlace s
    Part : (i : ℕ) → i < n → s ≡ 1 + i → AtPlace s

  at_place : (s : ℕ) → AtPlace s
  at_place zero = Nothing (is.parts.others p 0 (λ _ least most. omega (arith, least))
      ∙ is.taken.bare 0)
  at_place (suc i) = elim (cases_lt i n) [
    | inl low ↦ Part i low (omega arith)
    | inr high ↦ Nothing (is.parts.others p (suc i) (λ _ least most. omega (arith, most, high))
        ∙ is.taken.bare (suc i))
  ]

  -- a sector there is one of the parts
  pub record IsPart (s : ℕ) (sector : Sector) : Type 0 where
    pub number : ℕ
    pub low : number < n
    pub spot : s ≡ 1 + number
    pub same : sector ≡ commit_sector t.next (t.next + 1 + number) (part_of kept number)

  which : (s : ℕ) (sector : Sector) → y p s ≡ Some sector → AtPlace s → IsPart s sector
  which s sector here (Nothing none) = absurd (let e : Some sector ≡ None = sym here ∙ none in cc)
  which s sector here (Part i low spot) = record {
    number = i;
    low = low;
    spot = spot;
    same = let e : Some sector ≡ Some (commit_sector t.next (t.next + 1 + i) (part_of kept i)) =
        sym here ∙ ap (y p) spot ∙ is.parts.here i low in cc;
  }

  only_parts : (s : ℕ) (sector : Sector) → y p s ≡ Some sector → IsPart s sector
  only_parts s sector here = which s sector here (at_place s)

  only_commits : (s : ℕ) (sector : Sector) → y p s ≡ Some sector → sector.kind ≡ 6
  only_commits s sector here = let part = only_parts s sector here in
      ap (λ (z : Sector). z.kind) part.same

  no_header : y p 0 ≡ None
  no_header = is.parts.others p 0 (λ _ least most. omega (arith, least)) ∙ is.taken.bare 0

  pub beyond : (s : ℕ) → 1 + n ≤ s → y p s ≡ None
  beyond s high = is.parts.others p s (λ _ least most. omega (arith, most, high))
      ∙ is.taken.bare s

  same_but : SameBut p c y
  same_but q s apart = is.parts.others q s (λ same. absurd (apart same))

  nothing_comes : ComesToNothing places y it p
  nothing_comes = record {
    unit_header = λ u low other here fits.
        absurd (let e : None ≡ Some other = sym no_header ∙ here in cc);
    status = λ other here fits. absurd (let e : None ≡ Some other = sym no_header ∙ here in cc);
    no_live = λ u low s sector live. let six = only_commits s sector live.here in
        omega (arith, live.kind, six);
  }

  pub kept_still : Laid places y it × KeepsPages places c it y it
  kept_still = idle_places_do_not_count places c it p y is.mirrors.laid is.taken.idle same_but
      nothing_comes

  mirrors_written : Mirrors places y it t
  mirrors_written = tables_follow_idle_places places c it t p y t.next is.mirrors is.taken.idle
      is.taken.not_overflow same_but no_header (omega arith)

  status_there : IsStatus y p head.generation (among kept)
  status_there = record {
    spelled = λ s sector commit.
        let part = only_parts s sector commit.here in (
          part_of kept part.number,
          subst (λ (z : Sector).
              SpellsCommit z.payload (part_of kept part.number)) (sym part.same)
              (part_spells t.next (t.next + 1 + part.number) kept part.number is.each part.low),
        );
    told = λ tid told.
        let (i, low, has) = in_part kept tid ((among_is_contains kept tid).0 told) in record {
          number = 1 + i;
          sector = commit_sector t.next (t.next + 1 + i) (part_of kept i);
          is = record {
            here = is.parts.here i low;
            kind = refl;
            of_generation =
                sym is.is_head.generation_is;
            where_it_is = (omega arith, few i low);
          };
          numbers = part_of kept i;
          spelled = part_spells t.next (t.next + 1 + i) kept i is.each low;
          has = has;
        };
    all_told = λ tid committed.
        let part = only_parts committed.number committed.sector committed.is.here in
        let spelled : SpellsCommit (commit_sector t.next (t.next + 1 + part.number)
        (part_of kept part.number)).payload committed.numbers =
        subst (λ (z : Sector). SpellsCommit z.payload committed.numbers) part.same
        committed.spelled in
        let same : committed.numbers ≡ part_of kept part.number =
        commits_spell_once _ committed.numbers (part_of kept part.number) spelled
        (part_spells t.next (t.next + 1 + part.number) kept part.number is.each part.low) in
        (among_is_contains kept tid).1 (part_in kept part.number tid
        (subst (λ (l : List ℕ). Contains l tid) same committed.has));
  }
    where
      few : (i : ℕ) → i < parts_of kept → 1 + i < 256
      few i low = omega (arith, is.most, low)

  no_mark : HasNoMark y p head.generation
  no_mark s mark is_mark =
      let six = only_commits s mark is_mark.here in omega (arith, six, is_mark.kind)

  no_mark_then : HasNoMark (with_sector y p 0 head) p head.generation
  no_mark_then s mark is_mark = elim (cases_eq s 0) [
    | inl first ↦ absurd (omega (arith, first, is_mark.where_it_is.0))
    | inr other ↦ no_mark s mark (record {
      here = sym (other_sector s other) ∙ is_mark.here;
      kind = is_mark.kind;
      of_generation = is_mark.of_generation;
      where_it_is = is_mark.where_it_is;
    })
  ]
    where
      other_sector : (s : ℕ) → s ≢ 0 → with_sector y p 0 head p s ≡ y p s
      other_sector s other = rw (eq-eqb p p refl, ne_eqb 0 s (λ e. other (sym e))) refl

  may_switch : MaySwitch places it.count y p head (among kept)
  may_switch = status_headers_may_go places y it t p head
      (among kept) mirrors_written is.within no_header is.is_head.kind is.is_head.counts
      (omega (arith, is.is_head.serial)) status_there no_mark

  waits : All (λ k. among kept k ≡ false) t.active
  waits = All-weaker (λ k. ¬ Contains kept k) (λ k. among kept k ≡ false)
      (λ k not_in. elim (cases_Bool (among kept k)) [
        | inl in_it ↦ absurd
            (not_in ((among_is_contains kept k).0 in_it))
        | inr none ↦ none
      ]) t.active is.may.waits

  module _ (after : Tables) (switched : IsSwitched t after p t.next kept) where
    next_is : after.next ≡ t.next + 1 + n
    next_is = switched.has.next_is

    mentions_head : MentionsBelow after.next head
    mentions_head k (inl same) = omega (arith, same, is.is_head.generation_is, next_is)
    mentions_head k (inr (inl same)) = omega (arith, same, is.is_head.serial, next_is)
    mentions_head k (inr (inr (inl commit))) = absurd (omega (arith, commit.0, is.is_head.kind))
    mentions_head k (inr (inr (inr log))) = absurd (omega (arith, log.0, is.is_head.kind))

    mentions_part : (i : ℕ) → i < n → MentionsBelow after.next
        (commit_sector t.next (t.next + 1 + i) (part_of kept i))
    mentions_part i low k (inl same) = omega (arith, same, next_is)
    mentions_part i low k (inr (inl same)) = omega (arith, same, next_is, low)
    mentions_part i low k (inr (inr (inl (kind, told, spelled, has)))) =
        let same : told ≡ part_of kept i = commits_spell_once _ told (part_of kept i) spelled
        (part_spells t.next (t.next + 1 + i) kept i is.each low) in
        let small : k < t.next = All-contains (λ z. z < t.next) kept k is.may.below
        (part_in kept i k (subst (λ (l : List ℕ). Contains l k) same has)) in
        omega (arith, small, next_is)
    mentions_part i low k (inr (inr (inr log))) = absurd (omega (arith, log.0))

    place_below : IsPlaceBelow after.next y p
    place_below s sector here kinds = let part = only_parts s sector here in
        subst (MentionsBelow after.next) (sym part.same) (mentions_part part.number part.low)

    numbers_then : (tid : ℕ) → IsTrue (among kept tid) ↔ Contains after.status.numbers tid
    numbers_then tid = subst (λ (s : StatusTable). IsTrue (among kept tid) ↔ Contains s.numbers tid)
        (sym switched.has.status_is) (among_is_contains kept tid)

    renewed : IsRenewed t after p head.generation (1 + n)
    renewed = subst (λ (g : ℕ). IsRenewed t after p g (1 + n))
        (sym is.is_head.generation_is) switched.renewed

    pub mirrors_then : Mirrors places (with_sector y p 0 head)
        (with_status it p head (among kept)) after
    mirrors_then = tables_follow_renewals places y it t after p (1 + n) head
        (among kept) mirrors_written may_switch is.taken.in_use renewed numbers_then waits
        mentions_head place_below (omega arith) (λ s high within. beyond s high)

    pub switched_then : Switched places c (with_sector y p 0 head) it after p t.next kept
    switched_then = record {
      head = head;
      is_head = head_then places t after it.count p (1 + n) head
          is.mirrors.directory.units switched.renewed is.is_head;
      mirrors = mirrors_then;
      unmarked = no_mark_then;
      pages = λ keeps. pages_then places c y (with_sector y p 0 head) it it (with_status it p head (among kept)) refl kept_still.1
          (pages_then places y y (with_sector y p 0 head) it (with_status it p head (among kept)) (with_status it p head (among kept)) refl
          (kept_numbers_keep_pages places y it p head (among kept) keeps)
          (status_headers_switch places y it p head (among kept) kept_still.0 may_switch).1);
    }

  pub stands_then : (m : Legible) → Says places c it m → KeepsNumbers it (among kept)
      → StandsBeside places y (with_sector y p 0 head) m
  stands_then m says keeps = stands_after_renewals places y it m p head (among kept) kept_still.0
      (kept_pages_keep_the_map places c y it it m kept_still.1 refl says) may_switch keeps

  -- no more is marked with the header, since only commit sectors stand at its place
  pub marked_then : MarksNoMore places y (with_sector y p 0 head) p
  marked_then = renewals_mark_no_more places y it p head (among kept) kept_still.0 may_switch

  -- worn places are idle with the header too, since this one isn't worn
  pub worn_then : (story : Story) → WornAreIdle places story y → is_worn story p ≡ false
      → WornAreIdle places story (with_sector y p 0 head)
  worn_then story worn sound =
      worn_by_layout places story (with_sector y p 0 head) (with_status it p head (among kept))
      (status_headers_switch places y it p head (among kept) kept_still.0 may_switch).0
      (λ q on. idle_after_renewals places y it p head (among kept) q
      (λ at. absurd (false≢true (sym sound ∙ ap (is_worn story) (sym at) ∙ on)))
      (worn it kept_still.0 q on))
