-- Which sectors count as clean in the tables that were filled.
use Rattle.std.proofs.Common.{◌≡◌, ◌≤◌, ◌<◌, ◌+◌, ◌*◌, ℕ, inl, inr, Bool, List, Option, Some, None, true, length, get_or, ◌∙◌, sym, ap, subst, arith}
use Rattle.std.proofs.lemmas.Bool.{cases_lt, lt-ltb, le-ltb}
use Rattle.chip_trait.specs.Story.{Contents, blank}
use Rattle.ipl_format.specs.Sector.{sector_in}
use Rattle.ipl_format.proofs.SectorLemmas.{blank_says_nothing}
use Rattle.ipl_meaning.specs.Chart.{chart_of}
use Rattle.ipl_meaning.specs.Layout.{Laid}
use Rattle.ipl_meaning.specs.Marks.{IsMarked}
use Rattle.ipl_meaning.specs.Tables.{Places, OverflowLists, StatusTable, counted_written, IsCountedClean}
use Rattle.ipl_meaning.specs.First.{at, all_below}
use Rattle.ipl_meaning.specs.Chosen.{Winner, KeptHeader, units_at, current_at, status_at}
use Rattle.ipl_meaning.specs.LaidOut.{place_of, layout_in}
use Rattle.ipl_meaning.specs.Marked.{is_marked_by, last_close_mark}
use Rattle.ipl_meaning.proofs.MarkedLemmas.{marked_units_are_told}
use Rattle.ipl_meaning.proofs.NumberLemmas.{home_is}
use Rattle.ipl_meaning.proofs.OnceLemmas.{laid_once}
use Rattle.ipl_meaning.specs.FoundLogs.{overflow_at}
use Rattle.ipl_meaning.specs.Opened.{tables_of}
use Rattle.ipl_meaning.proofs.SpotLemmas.{in_use_from}
use Rattle.restart.specs.Counted.{NoneKnown, HasWholeLog, KnowsRead, AreReadLogs, mark_for}
use Rattle.restart.specs.Opened.{NoneIsClean, IsUnmarked, CountsMarked, CountsExactly, KnowsWhole}
use Rattle.restart.proofs.CountedLogLemmas.{marked_where}
use Rattle.restart.specs.Shown.{ShowsHeaders}

-- where nothing is known of the units' log sectors, none counts as clean: no overflow place that was listed has a clean sector,
-- nor has the status place
none_clean : (d : Places) (lists : OverflowLists) (status : StatusTable) (next : ℕ) (holds : ℕ → Bool) (n : ℕ)
    → NoneKnown (length d.current) d → lists.in_use ≡ all_below (overflow_at holds) n → status.first ≡ 256
    → NoneIsClean (tables_of d lists status next)
none_clean d lists status next holds n unknown in_use none p s (small, inl (u, less, is, high)) =
    let past : 256 ≤ s = subst (λ (w : ℕ). 241 + counted_written w ≤ s) (unknown u less) high in omega (arith, small, past)
none_clean d lists status next holds n unknown in_use none p s (small, inr (inl (first, has, high))) =
    let listed = in_use_from holds n lists.in_use in_use p first has in
    omega (arith, small, high, listed.1)
none_clean d lists status next holds n unknown in_use none p s (small, inr (inr (is, high))) = omega (arith, small, high, none)

pub unmarked : (d : Places) (lists : OverflowLists) (status : StatusTable) (next : ℕ) (holds : ℕ → Bool) (n : ℕ)
    → NoneKnown (length d.current) d → lists.in_use ≡ all_below (overflow_at holds) n → status.first ≡ 256
    → IsUnmarked (tables_of d lists status next)
unmarked d lists status next holds n unknown in_use none = record {
  unknown = unknown;
  none = none_clean d lists status next holds n unknown in_use none;
}

-- where so many were found written, as many count
counted_marked : (count : ℕ) → count ≤ 15 → counted_written (16 + count) ≡ count
counted_marked count few = rw (le-ltb (16 + count) 16 (omega arith), lt-ltb (16 + count) 32 (omega (arith, few))) (omega arith)

-- and a log sector that counts as clean was found blank, its unit is marked, and its log is whole
counts_whole : (x : Contents) (places : ℕ) (marks : Bool) (heads : List (Option KeptHeader)) (current : List (Option Winner)) (status : Winner) (d : Places) (lists : OverflowLists) (table : StatusTable) (next : ℕ)
    → ShowsHeaders (chart_of x) places heads current status → Laid places (chart_of x) (layout_in (chart_of x) places)
    → AreReadLogs x (mark_for marks (chart_of x) (Some status)) (at current) (length current) (places * 256) d
    → ((u : ℕ) → u < length current → get_or d.current u 0 ≡ place_of (at current u)) → length d.current ≡ length current
    → ((u : ℕ) (winner : Winner) → at current u ≡ Some winner → winner.place < places)
    → (holds : ℕ → Bool) (n : ℕ) → lists.in_use ≡ all_below (overflow_at holds) n → table.first ≡ 256
    → (p s : ℕ) → IsCountedClean (tables_of d lists table next) p s → IsMarked places x p s × HasWholeLog x p
counts_whole x places marks heads current status d lists table next shows laid read homes size within holds n in_use first p s (small, inr (inl (f, has, high))) =
    let listed = in_use_from holds n lists.in_use in_use p f has in
    absurd (omega (arith, small, high, listed.1))
counts_whole x places marks heads current status d lists table next shows laid read homes size within holds n in_use first p s (small, inr (inr (is, high))) =
    absurd (omega (arith, small, high, first))
counts_whole x places marks heads current status d lists table next shows laid read homes size within holds n in_use first p s (small, inl (u, less, is, high)) =
    let low : u < length current = omega (arith, less, size) in
    elim (read u low) [
      | inl (unknown, right) ↦ absurd (let past : 256 ≤ s = subst (λ (w : ℕ). 241 + counted_written w ≤ s) unknown high in omega (arith, small, past))
      | inr (winner, has, here_marked, knows) ↦
          let marked = marked_where marks (last_close_mark (chart_of x) (Some status)) u (at current u) here_marked in
          let from : 241 + knows.count ≤ s = subst (λ (n : ℕ). 241 + n ≤ s) (counted_marked knows.count knows.few)
          (subst (λ (w : ℕ). 241 + counted_written w ≤ s) knows.says high) in
          let home : p ≡ winner.place = is ∙ homes u low ∙ ap place_of has in
          let under : u < units_at (chart_of x) places = omega (arith, low, shows.units_are) in
          let is_marked = subst (λ (c : ℕ → Option Winner). is_marked_by (last_close_mark (chart_of x) (status_at (chart_of x) places)) u (c u) ≡ true) shows.current_are
          (subst (λ (o : Option Winner). is_marked_by (last_close_mark (chart_of x) o) u (at current u) ≡ true) shows.status_is marked) in
          let inside = within u winner has in (
            record {
              layout = layout_in (chart_of x) places;
              laid = laid;
              unit = u;
              within = under;
              home = is ∙ homes u low ∙ ap (λ (c : ℕ → Option Winner). place_of (c u)) shows.current_are;
              marked = (marked_units_are_told (chart_of x) places (layout_in (chart_of x) places) u laid under).0 is_marked;
              region = (omega (arith, from), small);
              is_blank = ap (λ (q : ℕ). x q s) home ∙ knows.others s from small (omega (arith, inside, small));
            },
            subst (HasWholeLog x) (sym home) (
              knows.count,
              record {
                few = knows.few;
                checks = knows.whole;
                erased = λ n behind low. knows.others n behind low (omega (arith, inside, low));
              },
            ),
          )
    ]

pub counts_marked : (x : Contents) (places : ℕ) (marks : Bool) (heads : List (Option KeptHeader)) (current : List (Option Winner)) (status : Winner) (d : Places) (lists : OverflowLists) (table : StatusTable) (next : ℕ)
    → ShowsHeaders (chart_of x) places heads current status → Laid places (chart_of x) (layout_in (chart_of x) places)
    → AreReadLogs x (mark_for marks (chart_of x) (Some status)) (at current) (length current) (places * 256) d
    → ((u : ℕ) → u < length current → get_or d.current u 0 ≡ place_of (at current u)) → length d.current ≡ length current
    → ((u : ℕ) (winner : Winner) → at current u ≡ Some winner → winner.place < places)
    → (holds : ℕ → Bool) (n : ℕ) → lists.in_use ≡ all_below (overflow_at holds) n → table.first ≡ 256
    → CountsMarked places x (tables_of d lists table next)
counts_marked x places marks heads current status d lists table next shows laid read homes size within holds n in_use first p s counted =
    (counts_whole x places marks heads current status d lists table next shows laid read homes size within holds n in_use first p s counted).0

-- a log sector that is found blank doesn't check
blank_is_none : (x : Contents) (p s : ℕ) → x p s ≡ blank → chart_of x p s ≡ None
blank_is_none x p s is = ap sector_in is ∙ blank_says_nothing

-- where marks count, each unit that is marked and whose log is whole was read so
whole_read : (x : Contents) (places : ℕ) (heads : List (Option KeptHeader)) (current : List (Option Winner)) (status : Winner) (d : Places)
    → ShowsHeaders (chart_of x) places heads current status → Laid places (chart_of x) (layout_in (chart_of x) places)
    → AreReadLogs x (last_close_mark (chart_of x) (Some status)) (at current) (length current) (places * 256) d
    → ((u : ℕ) → u < length current → get_or d.current u 0 ≡ place_of (at current u))
    → (p s : ℕ) (it : IsMarked places x p s) → HasWholeLog x p
    → (it.unit < length current) × (p ≡ get_or d.current it.unit 0) × KnowsRead x p (places * 256) (get_or d.written it.unit 0)
whole_read x places heads current status d shows laid read homes p s it log =
    let c = chart_of x in
    let u = it.unit in
    let one = laid_once places c (layout_in c places) it.layout laid it.laid in
    let low : u < length current = let under = it.within in omega (arith, under, one.count, shows.units_are) in
    let has = ap (λ (f : ℕ → Option Winner). f u) shows.current_are ∙ home_is c places it.layout it.laid u it.within in
    let told = (marked_units_are_told c places it.layout u it.laid it.within).1 it.marked in
    let marked = subst (λ (f : ℕ → Option Winner). is_marked_by (last_close_mark c (Some status)) u (f u) ≡ true) (sym shows.current_are)
    (subst (λ (o : Option Winner). is_marked_by (last_close_mark c o) u (current_at c places u) ≡ true) (sym shows.status_is) told) in (
      low,
      it.home ∙ sym (homes u low ∙ ap place_of has),
      elim (read u low) [
        | inl (unknown, right) ↦ absurd (right _ has marked (subst (HasWholeLog x) it.home log))
        | inr (winner, is, here, knows) ↦
            let home : winner.place ≡ p = ap place_of (sym is ∙ has) ∙ sym it.home in
            subst (λ (q : ℕ). KnowsRead x q (places * 256) (get_or d.written u 0)) home knows
      ],
    )

-- so something is known of it
pub knows_whole : (x : Contents) (places : ℕ) (heads : List (Option KeptHeader)) (current : List (Option Winner)) (status : Winner) (d : Places) (lists : OverflowLists) (table : StatusTable) (next : ℕ)
    → ShowsHeaders (chart_of x) places heads current status → Laid places (chart_of x) (layout_in (chart_of x) places)
    → AreReadLogs x (last_close_mark (chart_of x) (Some status)) (at current) (length current) (places * 256) d
    → ((u : ℕ) → u < length current → get_or d.current u 0 ≡ place_of (at current u))
    → KnowsWhole places x (tables_of d lists table next)
knows_whole x places heads current status d lists table next shows laid read homes p s it log unknown =
    let (low, place, knows) = whole_read x places heads current status d shows laid read homes p s it log in
    let says = knows.says in
    let few = knows.few in omega (arith, unknown, says, few)

-- and each that is marked counts as clean
counts_all : (x : Contents) (places : ℕ) (heads : List (Option KeptHeader)) (current : List (Option Winner)) (status : Winner) (d : Places) (lists : OverflowLists) (table : StatusTable) (next : ℕ)
    → ShowsHeaders (chart_of x) places heads current status → Laid places (chart_of x) (layout_in (chart_of x) places)
    → AreReadLogs x (last_close_mark (chart_of x) (Some status)) (at current) (length current) (places * 256) d
    → ((u : ℕ) → u < length current → get_or d.current u 0 ≡ place_of (at current u)) → length d.current ≡ length current
    → (p s : ℕ) → IsMarked places x p s → HasWholeLog x p → IsCountedClean (tables_of d lists table next) p s
counts_all x places heads current status d lists table next shows laid read homes size p s it log =
    let (low, place, knows) = whole_read x places heads current status d shows laid read homes p s it log in
    let from : 241 + knows.count ≤ s = elim (cases_lt s (241 + knows.count)) [
      | inr past ↦ omega (arith, past)
      | inl within ↦ absurd (knows.whole s it.region.0 within (blank_is_none x p s it.is_blank))
    ] in (
      it.region.1,
      inl (
        it.unit,
        omega (arith, low, size),
        place,
        subst (λ (w : ℕ). 241 + counted_written w ≤ s) (sym knows.says)
            (subst (λ (n : ℕ). 241 + n ≤ s) (sym (counted_marked knows.count knows.few)) from),
      ),
    )

-- so exactly those count
pub counts_exactly : (x : Contents) (places : ℕ) (heads : List (Option KeptHeader)) (current : List (Option Winner)) (status : Winner) (d : Places) (lists : OverflowLists) (table : StatusTable) (next : ℕ)
    → ShowsHeaders (chart_of x) places heads current status → Laid places (chart_of x) (layout_in (chart_of x) places)
    → AreReadLogs x (last_close_mark (chart_of x) (Some status)) (at current) (length current) (places * 256) d
    → ((u : ℕ) → u < length current → get_or d.current u 0 ≡ place_of (at current u)) → length d.current ≡ length current
    → ((u : ℕ) (winner : Winner) → at current u ≡ Some winner → winner.place < places)
    → (holds : ℕ → Bool) (n : ℕ) → lists.in_use ≡ all_below (overflow_at holds) n → table.first ≡ 256
    → CountsExactly places x (tables_of d lists table next)
counts_exactly x places heads current status d lists table next shows laid read homes size within holds n in_use first p s = (
  λ counted. counts_whole x places true heads current status d lists table next shows laid read homes size within holds n in_use first p s counted,
  λ marked. counts_all x places heads current status d lists table next shows laid read homes size p s marked.0 marked.1,
)
