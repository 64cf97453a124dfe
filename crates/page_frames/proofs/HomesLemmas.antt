-- The pages of names, written out where each unit has log sectors clean at home for its pages.
use Rattle.std.proofs.Common.{◌≡◌, ◌<◌, ◌≤◌, ◌+◌, ◌/◌, ◌==◌, ◌&&◌, ℕ, zero, suc, Bool, true, false, cond, List, [], ◌∷◌, count_by, get_or, slice_index, length, take, Result, Ok, Err, inl, inr, refl, sym, ◌∙◌, ap, subst, arith}
use Rattle.std.specs.Prelude.{slice_index_or, slice_set}
use Rattle.std.proofs.lemmas.Bool.{cases_Bool, cases_eq, eq-eqb}
use Rattle.std.proofs.lemmas.List.{get_or-set_other}
use Rattle.std.proofs.lemmas.List.Sums.{count_by_more_yes, count_by_more_no, sum_by-take-le}
use Rattle.ipl_meaning.specs.Tables.{Places, with_written}
use Rattle.chip_trait.specs.Told.{Told}
use Rattle.ipl_base.specs.declared.fault.ChipFault.{ChipFault}
use Rattle.ipl_format.specs.Record.{Record}
use Rattle.unit_io.specs.Costs.{Costs, Spends}
use Rattle.unit_io.proofs.CostLemmas.{costs_none, costs_then, costs_at_most, spends_none, spends_then, spends_weaker}
use Rattle.selective_merge.specs.Spotting.{HasHomeSpot}
use Rattle.buffer_pool.specs.Index.{page_number}
use Rattle.store_laws.specs.Frames.{Frames, logs_of}
use Rattle.page_frames.specs.Spending.{UsesHome}
use Rattle.page_frames.specs.declared.pages.Pages.{Pages}
use Rattle.page_frames.specs.Pages.{tables_in, frames_in}
use Rattle.page_frames.specs.Asks.{AsksToWriteOut}
use Rattle.page_frames.specs.Changed.{is_on_page, has_some, is_changed, is_changed_of, changed_pages_of, HasHomesFor}
use Rattle.page_frames.proofs.ChangedLemmas.{changed_at, and_off, changed_below}

-- how many of the first n pages in the order are changed and of the unit
abbrev pub changed_below_of : ℕ → List ℕ → ℕ → Frames → List ℕ → ℕ
changed_below_of n names u frames order = count_by (is_changed_of frames names u) (take n order)

-- what so many pages cost then
abbrev pub SpendsHome : ℕ → Told → Told → Type 0
SpendsHome k = Spends (Costs 0 k 0 (5 ∷ []))

-- After the first n pages in the order there was no erase, and at most one program for each that is
-- changed; and at each unit's home no more log sectors were used than it has pages that are so.
pub record WroteAtHome (n : ℕ) (names : List ℕ) (first : Pages) (before : Told) (now : Pages)
    (after : Told) : Type 0 where
  pub spends : SpendsHome (changed_below n names (frames_in first) first.pool.order) before after
  pub written : (u : ℕ) → slice_index now.parts.directory.written u
      ≤ slice_index first.parts.directory.written u
      + changed_below_of n names u (frames_in first) first.pool.order

pub none_at_home : (names : List ℕ) (first : Pages) (before : Told)
    → WroteAtHome 0 names first before first before
none_at_home names first before = record {
  spends = spends_none (Costs 0 0 0 (5 ∷ [])) before (costs_none (5 ∷ []));
  written = λ u. no_more (slice_index first.parts.directory.written u);
}
  where
    no_more : (n : ℕ) → n ≤ n + 0
    no_more n = omega arith

-- those below are among all
pub home_all : (n : ℕ) (names order : List ℕ) (frames : Frames) (before after : Told)
    → SpendsHome (changed_below n names frames order) before after
    → SpendsHome (count_by (is_changed frames names) order) before after
home_all n names order frames before after =
    fewer (changed_below n names frames order) (count_by (is_changed frames names) order)
    (sum_by-take-le (λ number. cond (is_changed frames names number) 1 0) order n)
  where
    fewer : (k m : ℕ) → k ≤ m → SpendsHome k before after → SpendsHome m before after
    fewer k m few = spends_weaker (Costs 0 k 0 (5 ∷ [])) (Costs 0 m 0 (5 ∷ [])) before after
        (λ added. costs_at_most 0 0 k m 0 0 (5 ∷ []) (5 ∷ []) added (omega arith) few (omega arith)
        (λ kind has. has))

-- ---- counts of one page more

-- whether this one is changed and of the unit v
changed_of_at : (names : List ℕ) (frames : Frames) (u page number v : ℕ) (b : Bool) → page < 15
    → page_number u page ≡ number → is_changed frames names number ≡ b
    → is_changed_of frames names v number ≡ ((u == v) && b)
changed_of_at names frames u page number v b few is here =
    let unit_is : number / 15 ≡ u = omega (arith, few, is) in
    λ i. (unit_is i == v) && here i

grows : (p : ℕ → Bool) (l : List ℕ) (n : ℕ) → n < length l
    → count_by p (take n l) ≤ count_by p (take (n + 1) l)
grows p l n less = elim (cases_Bool (p (get_or l n 0))) [
  | inl on ↦ let e = count_by_more_yes p l n 0 less on in omega (arith, e)
  | inr off ↦ let e = count_by_more_no p l n 0 less off in omega (arith, e)
]

-- ---- what counts as written

set_at_most : (l : List ℕ) (u a : ℕ) → slice_index l u ≤ a → slice_index (slice_set l u a) u ≤ a
set_at_most [] u a most = most
set_at_most (x ∷ l) zero a most = omega arith
set_at_most (x ∷ l) (suc u) a most = set_at_most l u a most

-- one more of a unit
written_then : (result : Result (Unit {0}) ChipFault) (t after : Places) (u : ℕ) (first : List ℕ)
    (below next : ℕ → ℕ) → UsesHome result t after u
    → ((v : ℕ) → slice_index t.written v ≤ slice_index first v + below v)
    → ((v : ℕ) → below v ≤ next v) → next u ≡ below u + 1
    → (v : ℕ) → slice_index after.written v ≤ slice_index first v + next v
written_then result t after u first below next uses so_far more one v = by_result result uses
  where
    unused : slice_index t.written v ≤ slice_index first v + next v
    unused = let was = so_far v in let then = more v in omega (arith, was, then)

    used : slice_index (with_written t u).written v ≤ slice_index first v + next v
    used = elim (cases_eq v u) [
      | inl same ↦
          let most = set_at_most t.written u (slice_index t.written u + 1) (omega arith) in
          let was = so_far u in
          subst (λ (w : ℕ). slice_index (with_written t u).written w ≤ slice_index first w + next w)
          (sym same) (omega (arith, most, was, one))
      | inr other ↦
          let stays : slice_index (with_written t u).written v ≡ slice_index t.written v =
          get_or-set_other t.written u v (slice_index t.written u + 1) 0 other in
          omega (arith, stays, unused)
    ]

    by_result : (result : Result (Unit {0}) ChipFault) → UsesHome result t after u
        → slice_index after.written v ≤ slice_index first v + next v
    by_result (Ok x) (inl alike) =
        subst (λ (l : List ℕ). slice_index l v ≤ slice_index first v + next v) (sym alike.written)
        unused
    by_result (Ok x) (inr alike) =
        subst (λ (l : List ℕ). slice_index l v ≤ slice_index first v + next v) (sym alike.written)
        used
    by_result (Err e) same =
        subst (λ (p : Places). slice_index p.written v ≤ slice_index first v + next v) (sym same)
        unused

-- ---- one page more

-- it isn't changed
not_at_home : (n u page : ℕ) (names : List ℕ) (first : Pages) (before : Told) (now : Pages)
    (after : Told) → n < length first.pool.order → page < 15
    → page_number u page ≡ slice_index_or first.pool.order n 0
    → is_changed (frames_in first) names (get_or first.pool.order n 0) ≡ false
    → WroteAtHome n names first before now after → WroteAtHome (n + 1) names first before now after
not_at_home n u page names first before now after less few at off so_far = record {
  spends = subst (λ (k : ℕ). SpendsHome k before after)
      (sym (count_by_more_no (is_changed (frames_in first) names) first.pool.order n 0 less off))
      so_far.spends;
  written = λ v.
      let same : changed_below_of (n + 1) names v (frames_in first) first.pool.order
      ≡ changed_below_of n names v (frames_in first) first.pool.order =
      count_by_more_no (is_changed_of (frames_in first) names v) first.pool.order n 0 less
      (changed_of_at names (frames_in first) u page (get_or first.pool.order n 0) v false few at off
      ∙ and_off (u == v) false refl) in
      let was = so_far.written v in omega (arith, was, same);
}

-- it is none of the names'
pub passed_at_home : (n u page : ℕ) (names : List ℕ) (first : Pages) (before : Told) (now : Pages)
    (after : Told) → n < length first.pool.order → page < 15
    → page_number u page ≡ slice_index_or first.pool.order n 0 → is_on_page names u page ≡ false
    → WroteAtHome n names first before now after → WroteAtHome (n + 1) names first before now after
passed_at_home n u page names first before now after less few at off =
    not_at_home n u page names first before now after less few at
    (changed_at names (frames_in first) u page (get_or first.pool.order n 0) few at
    ∙ and_off (has_some (logs_of (frames_in first) u page)) (is_on_page names u page) off)

-- or it is written out, however that ends
pub written_at_home : (n u page : ℕ) (names : List ℕ) (result : Result (Unit {0}) ChipFault)
    (first : Pages) (before : Told) (mid : Pages) (between : Told) (now : Pages) (after : Told)
    → n < length first.pool.order → page < 15
    → page_number u page ≡ slice_index_or first.pool.order n 0 → is_on_page names u page ≡ true
    → u < length first.parts.directory.current
    → (logs_of (frames_in first) u page ≡ [] → logs_of (frames_in mid) u page ≡ [])
    → AsksToWriteOut u page result mid now between after → HasHomesFor first names
    → WroteAtHome n names first before mid between → WroteAtHome (n + 1) names first before now after
written_at_home n u page names result first before mid between now after less few at on low still asks
    homes so_far = by_records (logs_of (frames_in first) u page) refl
  where
    is : (l : List Record) → logs_of (frames_in first) u page ≡ l
        → is_changed (frames_in first) names (get_or first.pool.order n 0)
        ≡ (has_some l && is_on_page names u page)
    is l here = changed_at names (frames_in first) u page (get_or first.pool.order n 0) few at
        ∙ ap (λ (records : List Record). has_some records && is_on_page names u page) here

    one_more : (k : ℕ) → SpendsHome k before between → Spends (Costs 0 1 0 (5 ∷ [])) between after
        → SpendsHome (k + 1) before after
    one_more k = spends_then (Costs 0 k 0 (5 ∷ [])) (Costs 0 1 0 (5 ∷ []))
        (Costs 0 (k + 1) 0 (5 ∷ [])) before between after
        (λ later earlier one two. costs_then 0 0 k 1 0 0 (5 ∷ []) later earlier one two)

    changed : is_changed (frames_in first) names (get_or first.pool.order n 0) ≡ true
        → WroteAtHome (n + 1) names first before now after
    changed here =
        let more : changed_below_of (n + 1) names u (frames_in first) first.pool.order
        ≡ changed_below_of n names u (frames_in first) first.pool.order + 1 =
        count_by_more_yes (is_changed_of (frames_in first) names u) first.pool.order n 0 less
        (changed_of_at names (frames_in first) u page (get_or first.pool.order n 0) u true few at here
        ∙ ap (λ (b : Bool). b && true) (eq-eqb u u refl)) in
        let within : changed_below_of (n + 1) names u (frames_in first) first.pool.order
        ≤ changed_pages_of first names u =
        sum_by-take-le (λ number. cond (is_changed_of (frames_in first) names u number) 1 0)
        first.pool.order (n + 1) in
        let was = so_far.written u in
        let room = homes u low in
        let left : HasHomeSpot (tables_in mid) u = omega (arith, was, more, within, room) in
        let (spent, uses) = asks.home left in record {
          spends = subst (λ (k : ℕ). SpendsHome k before after)
              (sym (count_by_more_yes (is_changed (frames_in first) names) first.pool.order n 0 less
              here))
              (one_more (changed_below n names (frames_in first) first.pool.order) so_far.spends spent);
          written = written_then result mid.parts.directory now.parts.directory u
              first.parts.directory.written
              (λ v. changed_below_of n names v (frames_in first) first.pool.order)
              (λ v. changed_below_of (n + 1) names v (frames_in first) first.pool.order) uses
              so_far.written
              (λ v. grows (is_changed_of (frames_in first) names v) first.pool.order n less) more;
        }

    by_records : (l : List Record) → logs_of (frames_in first) u page ≡ l
        → WroteAtHome (n + 1) names first before now after
    by_records [] none =
        let (done, same, idle) = asks.idle (still none) in
        subst (λ (p : Pages). WroteAtHome (n + 1) names first before p after) (sym same)
        (subst (λ (t : Told). WroteAtHome (n + 1) names first before mid t) (sym idle)
        (not_at_home n u page names first before mid between less few at (is [] none) so_far))
    by_records (r ∷ l) some = changed (is (r ∷ l) some ∙ on)
