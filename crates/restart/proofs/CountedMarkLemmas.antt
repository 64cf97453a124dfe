-- What a mark says is counted as clean still, once the status is renewed.
use Rattle.std.proofs.Common.{◌≡◌, ◌≤◌, ◌+◌, ◌∙◌, ◌<◌, ℕ, Bool, true, false, List, length, get_or, Contains, Result, Ok, Err, OnOk, inl, inr, refl, sym, ap, subst, arith}
use Rattle.chip_trait.specs.Told.{Told}
use Rattle.ipl_base.specs.declared.fault.ChipFault.{ChipFault}
use Rattle.chip_trait.specs.Story.{Contents}
use Rattle.ipl_meaning.specs.Chart.{Chart, chart_of}
use Rattle.ipl_meaning.specs.Layout.{Laid}
use Rattle.ipl_meaning.specs.LaidOut.{layout_in}
use Rattle.ipl_meaning.proofs.OnceLemmas.{laid_once}
use Rattle.place_taking.specs.Homes.{KeepsHomes}
use Rattle.ipl_meaning.specs.Tables.{Places, OverflowLists, StatusTable, Tables, IsCountedClean, counted_written}
use Rattle.ipl_meaning.specs.TableSteps.{without_marks}
use Rattle.ipl_meaning.proofs.MarkLemmas.{counted_follow_ends_of_marks}
use Rattle.unit_directory.proofs.AsideLemmas.{next_places_are_aside}
use Rattle.txn_status.specs.Status.{keeps_of}
use Rattle.restart.specs.Joins.{Kept}
use Rattle.restart.specs.Collected.{AreCollected}
use Rattle.unit_io.specs.Reads.{OfContents}
use Rattle.restart.specs.Opened.{CountsExactly, CountsWhole, KnowsWhole}
use Rattle.restart.specs.Recovers.{NumbersFit, CountsMarks}
use Rattle.restart.specs.Renewed.{KeepsLogs, MovesStatus, with_tables}
use Rattle.restart.proofs.CostLemmas.{homes_unmarked}
use Rattle.restart.proofs.FoundLemmas.{no_more}

-- ---- the renewal

-- a new status place leaves the units and the overflow places
moved_logs : (t : Tables) (kept : List ℕ) (d : Places) (status : StatusTable) (drawn : ℕ)
    → MovesStatus t.places t.status t.next kept d status → KeepsLogs t (with_tables t d status drawn)
moved_logs t kept d status drawn is =
    let facts = next_places_are_aside t.places is.taken.worn is.taken.in_turn in record {
      current = ap (λ (b : Places). b.current) is.places_is
          ∙ (ap (λ (b : Places). b.current) is.taken.places_is ∙ facts.current);
      written = ap (λ (b : Places). b.written) is.places_is
          ∙ (ap (λ (b : Places). b.written) is.taken.places_is ∙ facts.written);
      overflow = refl;
    }

-- so it is where no unit was passed
pub logs_renewed : (found : Bool) (t between : Tables) (d : Places) (status : StatusTable) (drawn : ℕ) (kept : List ℕ)
    (result : Result (Unit {0}) ChipFault) → (found ≡ true → between ≡ t)
    → OnOk result (MovesStatus between.places between.status between.next kept d status)
    → OnOk result (found ≡ true → KeepsLogs t (with_tables between d status drawn))
logs_renewed found t between d status drawn kept (Ok v) same moved =
    λ is. subst (λ (b : Tables). KeepsLogs b (with_tables between d status drawn)) (same is)
    (moved_logs between kept d status drawn moved)
logs_renewed found t between d status drawn kept (Err e) same moved = tt

-- ---- what is counted then

-- no sector of the old status place was counted, and what else was is so still
counted_still : (t after : Tables) (p s : ℕ) → t.status.first ≡ 256 → KeepsLogs t after → IsCountedClean t p s
    → IsCountedClean after p s
counted_still t after p s none keeps (small, inl (u, less, is, high)) = (
  small,
  inl (
    u,
    omega (arith, less, ap length keeps.current),
    is ∙ ap (λ (ps : List ℕ). get_or ps u 0) (sym keeps.current),
    subst (λ (ws : List ℕ). 241 + counted_written (get_or ws u 0) ≤ s) (sym keeps.written) high,
  ),
)
counted_still t after p s none keeps (small, inr (inl (first, has, high))) = (
  small,
  inr (inl (first, subst (λ (o : OverflowLists). Contains o.in_use (p, first)) (sym keeps.overflow) has, high)),
)
counted_still t after p s none keeps (small, inr (inr (is, high))) = absurd (omega (arith, small, high, none))

-- where the numbers fit, they were found
found_where_fit : (most places : ℕ) (c : Chart) (fits : Bool) (numbers : Kept) → numbers.limit ≡ keeps_of most
    → AreCollected places c fits numbers → NumbersFit most places c → fits ≡ true
found_where_fit most places c true numbers limit it fit = refl
found_where_fit most places c false numbers limit it (some, few, has_all) =
    let within = no_more it.found some it.rising (λ tid has.
    let (is, logged) = (it.exact tid).0 has in has_all tid is logged) in
    absurd (omega (arith, it.kept.more, within, few, limit))

-- what was counted by a mark is counted once no mark stands any more
marks_counted : (places : ℕ) (fits : Bool) (numbers : Kept) (t after : Tables) (x : Contents)
    → numbers.limit ≡ keeps_of after.status.most
    → CountsExactly places x t → AreCollected places (chart_of x) fits numbers → t.status.first ≡ 256
    → (fits ≡ true → KeepsLogs t after) → NumbersFit after.status.most places (chart_of x)
    → CountsWhole places x (without_marks after)
marks_counted places fits numbers t after x limit exact collected none keeps fit p s marked whole =
    let found = found_where_fit after.status.most places (chart_of x) fits numbers limit collected fit in
    (counted_follow_ends_of_marks after p s).0
    (counted_still t after p s none (keeps found) ((exact p s).1 (marked, whole)))

-- a unit of which nothing is known then is one of which nothing was known
marks_known : (places : ℕ) (t after : Tables) (x : Contents)
    → Laid places (chart_of x) (layout_in (chart_of x) places)
    → length after.places.current ≡ (layout_in (chart_of x) places).count → KeepsHomes t.places after.places
    → KnowsWhole places x t → KnowsWhole places x (without_marks after)
marks_known places t after x laid units homes knows p s it whole unknown =
    let one = laid_once places (chart_of x) (layout_in (chart_of x) places) it.layout laid it.laid in
    let within = it.within in
    let low : it.unit < length after.places.current = omega (arith, within, one.count, units) in
    let still = homes_unmarked after.places it.unit low unknown in
    knows p s it whole (homes it.unit low still.unknown).unknown

-- all of it
pub takes_marks : (marks : Bool) (places : ℕ) (fits : Bool) (numbers : Kept) (t after : Tables) (old : Told)
    → numbers.limit ≡ keeps_of after.status.most
    → (marks ≡ true → OfContents old (λ x. CountsExactly places x t))
    → (marks ≡ true → OfContents old (λ x. KnowsWhole places x t))
    → OfContents old (λ x. AreCollected places (chart_of x) fits numbers) → OfContents old (λ x. t.status.first ≡ 256)
    → OfContents old (λ x. Laid places (chart_of x) (layout_in (chart_of x) places))
    → OfContents old (λ x. length after.places.current ≡ (layout_in (chart_of x) places).count)
    → KeepsHomes t.places after.places → (fits ≡ true → KeepsLogs t after)
    → CountsMarks marks places old (without_marks after)
takes_marks marks places fits numbers t after old limit exact knows collected none laid units homes keeps = record {
  knows = λ on x told. marks_known places t after x (laid x told) (units x told) homes (knows on x told);
  counts = λ on x told. marks_counted places fits numbers t after x limit (exact on x told) (collected x told)
      (none x told) keeps;
}
