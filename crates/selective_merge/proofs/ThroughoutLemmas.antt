-- Calls that keep a map however they end, one after another.
use Rattle.std.proofs.Common.{◌≡◌, ℕ, Bool, false, [], ◌++◌, Result, Ok, Err, MatchResult, IfErr, IfOk, is_ok, arith}
use Rattle.std.proofs.lemmas.List.Elements.{All-weaker}
use Rattle.chip_trait.specs.declared.event.Event.{Event}
use Rattle.chip_trait.specs.declared.event.Event.TheVariants.{Read, Program, Erase, Worn, Barrier, Said}
use Rattle.chip_trait.specs.Story.{Story}
use Rattle.chip_trait.specs.Told.{History, Told, Counts, adds_all}
use Rattle.ipl_base.specs.declared.fault.ChipFault.{ChipFault}
use Rattle.ipl_meaning.specs.Legible.{Legible}
use Rattle.ipl_meaning.specs.Chart.{Chart, chart_of}
use Rattle.ipl_meaning.specs.Rests.{now, EachStands, StoryRests}
use Rattle.unit_io.specs.Charts.{Charts}
use Rattle.unit_io.specs.Leads.{IsSteady, KeepsMap, RestsWith, IsStopped}
use Rattle.unit_io.specs.Reads.{PageAsked, Reads, page_reads, IsPageRead}
use Rattle.unit_io.specs.ReadsAt.{IsReadAt, ReadsAt}
use Rattle.unit_io.proofs.ReadsLemmas.{page_reads_of}
use Rattle.unit_io.specs.Steps.{Settled, EndsWith, Outcome}
use Rattle.unit_io.proofs.StepLemmas.{outcome_none, outcome_then, outcome_weaker, outcome_written}
use Rattle.selective_merge.specs.Throughout.{Unbroken, RestsBy, KeepsThroughout, ChartsThroughout}
use Rattle.selective_merge.proofs.UnbrokenLemmas.{stopped_breaks, unbroken_later, unbroken_same}

-- ---- ends

pub at_end : {T E : Type 0} (P Q : T → Type 0) (X Y : Type 0) (result : Result T E)
    → IfOk result (λ v. P v → Q v) → (X → Y)
    → MatchResult result (λ v. P v) (λ _. X) → MatchResult result (λ v. Q v) (λ _. Y)
at_end P Q X Y (Ok v) f g is = f is
at_end P Q X Y (Err e) f g is = g is

pub settled_later : {T E : Type 0} (result : Result T E) (old mid new : Told) → Counts old mid
    → Settled result old new → Settled result mid new
settled_later (Ok v) old mid new counts settled = tt
settled_later (Err e) old mid new counts unrisen = omega (arith, counts.writes, unrisen)

-- ---- what is so after some calls that were done

abbrev pub SoFar : ℕ → Legible → (Story → Type 0) → (Chart → Chart → Type 0) → History → Told → Told → Type 0
SoFar places m Does F h old t =
    Outcome (EachStands places m) Does (Unit {0}) (λ k. StoryRests places m k × F (now h) (now k)) h old t

module _ (places : ℕ) (m : Legible) (h : History) where
  pub so_far_none : (Does : Story → Type 0) (F : Chart → Chart → Type 0) (t : Told)
      → IsSteady h t → StoryRests places m h → Does [] → F (now h) (now h)
      → SoFar places m Does F h t t
  so_far_none Does F t steady rests does there =
      outcome_none (EachStands places m) Does (Unit {0})
      (λ k. StoryRests places m k × F (now h) (now k)) h t steady rests.each does (rests, there)

  -- what is so of the chart at first goes along
  pub so_far_and : (Does : Story → Type 0) (F : Chart → Chart → Type 0) (P : Chart → Type 0)
      (old t : Told) → P (now h) → SoFar places m Does F h old t
      → SoFar places m Does (λ c y. F c y × P c) h old t
  so_far_and Does F P old t there did =
      outcome_weaker (EachStands places m) (EachStands places m) Does Does (Unit {0}) (Unit {0})
      (λ k. StoryRests places m k × F (now h) (now k))
      (λ k. StoryRests places m k × (F (now h) (now k) × P (now h))) h old t
      (λ k is. is) (λ a is. is) (λ is. is) (λ done k is. (is.0, (is.1, there))) did

  -- a call that only writes
  pub keeps_written : {T : Type 0} (Does : Bool → Story → Type 0) (F : T → Chart → Chart → Type 0)
      (G : Chart → Chart → Type 0) (old new : Told) (result : Result T ChipFault)
      → KeepsMap places m Does F h old result new → IfErr result (λ fault. IsStopped fault old new)
      → KeepsThroughout places m Does F G h result old new
  keeps_written {T} Does F G old new result did stopped =
      outcome_weaker (EachStands places m) (EachStands places m) (Does (is_ok result)) (Does (is_ok result))
      (Settled result old new) (Unbroken result old new)
      (EndsWith result (RestsWith places m F h) (RestsBy places m G h))
      (EndsWith result (RestsWith places m F h) (RestsBy places m G h)) h old new (λ k is. is) (λ a is. is)
      (settled result stopped) (λ unbroken k is. is)
      (outcome_written T (EachStands places m) Does (RestsWith places m F h) (RestsBy places m G h)
      h old new result did stopped)
    where
      settled : (r : Result T ChipFault) → IfErr r (λ fault. IsStopped fault old new)
          → Unbroken r old new → Settled r old new
      settled (Ok v) stopped unbroken = tt
      settled (Err e) stopped unbroken = absurd (stopped_breaks e old new stopped unbroken)

  -- a call behind others
  pub keeps_then : {T : Type 0} (DoesFirst : Story → Type 0) (DoesNext DoesAll : Bool → Story → Type 0)
      (ChartsFirst : Chart → Chart → Type 0) (ChartsNext ChartsAll : T → Chart → Chart → Type 0)
      (LeavesNext LeavesAll : Chart → Chart → Type 0) (old mid new : Told) (result : Result T ChipFault)
      → (first : SoFar places m DoesFirst ChartsFirst h old mid) → Counts old mid
      → KeepsThroughout places m DoesNext ChartsNext LeavesNext (adds_all first.added h) result mid new
      → ((a b : Story) → DoesFirst a → DoesNext (is_ok result) b → DoesAll (is_ok result) (b ++ a))
      → IfOk result (λ v. (c d e : Chart) → ChartsFirst c d → ChartsNext v d e → ChartsAll v c e)
      → ((c d e : Chart) → ChartsFirst c d → LeavesNext d e → LeavesAll c e)
      → KeepsThroughout places m DoesAll ChartsAll LeavesAll h result old new
  keeps_then {T} DoesFirst DoesNext DoesAll ChartsFirst ChartsNext ChartsAll LeavesNext LeavesAll
      old mid new result first counts second both done left =
      let k = adds_all first.added h in
      let ended = outcome_then (EachStands places m) DoesFirst (DoesNext (is_ok result)) (DoesAll (is_ok result))
      (Unit {0}) (Unbroken result mid new) (λ k. StoryRests places m k × ChartsFirst (now h) (now k))
      (EndsWith result (RestsWith places m ChartsNext k) (RestsBy places m LeavesNext k)) h old mid new first tt second
      both in
      outcome_weaker (EachStands places m) (EachStands places m) (DoesAll (is_ok result))
      (DoesAll (is_ok result)) (Unbroken result mid new) (Unbroken result old new)
      (EndsWith result (RestsWith places m ChartsNext k) (RestsBy places m LeavesNext k))
      (EndsWith result (RestsWith places m ChartsAll h) (RestsBy places m LeavesAll h)) h old new
      (λ j is. is) (λ a is. is) (unbroken_later result old mid new counts)
      (λ unbroken j. at_end (λ v. RestsWith places m ChartsNext k v j) (λ v. RestsWith places m ChartsAll h v j)
      (RestsBy places m LeavesNext k j) (RestsBy places m LeavesAll h j) result (each_done result done k j (first.ends tt).1)
      (λ is. (is.0, left (now h) (now k) (now j) (first.ends tt).1 is.1))) ended
    where
      each_done : (r : Result T ChipFault)
          → IfOk r (λ v. (c d e : Chart) → ChartsFirst c d → ChartsNext v d e → ChartsAll v c e) → (k j : History)
          → ChartsFirst (now h) (now k)
          → IfOk r (λ v. RestsWith places m ChartsNext k v j → RestsWith places m ChartsAll h v j)
      each_done (Ok v) done k j there = λ is. (is.0, done (now h) (now k) (now j) there is.1)
      each_done (Err e) done k j there = tt

  -- a call that failed, where nothing else is done then
  pub keeps_failed : {T U : Type 0} (DoesFirst DoesNext : Bool → Story → Type 0)
      (ChartsFirst : T → Chart → Chart → Type 0) (ChartsNext : U → Chart → Chart → Type 0)
      (LeavesFirst LeavesNext : Chart → Chart → Type 0) (old new : Told) (e f : ChipFault) → f ≡ e
      → KeepsThroughout {T = T} places m DoesFirst ChartsFirst LeavesFirst h (Err e) old new
      → ((a : Story) → DoesFirst false a → DoesNext false a) → ((c d : Chart) → LeavesFirst c d → LeavesNext c d)
      → KeepsThroughout {T = U} places m DoesNext ChartsNext LeavesNext h (Err f) old new
  keeps_failed DoesFirst DoesNext ChartsFirst ChartsNext LeavesFirst LeavesNext old new e f same did less left =
      outcome_weaker (EachStands places m) (EachStands places m) (DoesFirst false) (DoesNext false)
      (Unbroken {T = Unit {0}} (Err e) old new) (Unbroken {T = Unit {0}} (Err f) old new)
      (RestsBy places m LeavesFirst h) (RestsBy places m LeavesNext h) h old new (λ k is. is) less
      (unbroken_same e f old new same)
      (λ unbroken k is. (is.0, left (now h) (now k) is.1)) did

-- ---- charts, one after another

pub charts_none : (F : Chart → Chart → Type 0) (t : Told) → ((c : Chart) → F c c) → Charts F t t
charts_none F t same x told = (x, told, same (chart_of x))

pub charts_then : (F G H : Chart → Chart → Type 0) (old mid new : Told) → Charts F old mid
    → Charts G mid new → ((c d e : Chart) → F c d → G d e → H c e) → Charts H old new
charts_then F G H old mid new first second both x told =
    let (y, told_y, one) = first x told in
    let (z, told_z, two) = second y told_y in
    (z, told_z, both (chart_of x) (chart_of y) (chart_of z) one two)

-- a call behind others
pub told_then : {T : Type 0} (ChartsFirst : Chart → Chart → Type 0) (ChartsNext ChartsAll : T → Chart → Chart → Type 0)
    (LeavesNext LeavesAll : Chart → Chart → Type 0) (old mid new : Told) (result : Result T ChipFault)
    → Charts ChartsFirst old mid → ChartsThroughout ChartsNext LeavesNext result mid new
    → IfOk result (λ v. (c d e : Chart) → ChartsFirst c d → ChartsNext v d e → ChartsAll v c e)
    → ((c d e : Chart) → ChartsFirst c d → LeavesNext d e → LeavesAll c e)
    → ChartsThroughout ChartsAll LeavesAll result old new
told_then ChartsFirst ChartsNext ChartsAll LeavesNext LeavesAll old mid new (Ok v) first second done left =
    charts_then ChartsFirst (ChartsNext v) (ChartsAll v) old mid new first second done
told_then ChartsFirst ChartsNext ChartsAll LeavesNext LeavesAll old mid new (Err e) first second done left =
    λ soft. charts_then ChartsFirst LeavesNext LeavesAll old mid new first (second soft) left

-- a call that only writes
pub told_written : {T : Type 0} (F : T → Chart → Chart → Type 0) (G : Chart → Chart → Type 0)
    (first old new : Told) (result : Result T ChipFault) → IfOk result (λ v. Charts (F v) old new)
    → IfErr result (λ fault. IsStopped fault first new) → ChartsThroughout F G result old new
told_written F G first old new (Ok v) tells stopped = tells
told_written F G first old new (Err e) tells stopped = λ soft. absurd (soft stopped.0)

-- ---- reads of a page

page_event : (place page n : ℕ) (e : Event) → IsPageRead place page n e
    → IsReadAt (λ p s. p ≡ place) e
page_event place page n (Read p s) is = is.0
page_event place page n (Program p s bytes) is = is
page_event place page n (Erase p) is = is
page_event place page n Barrier is = is
page_event place page n (Worn q) is = is
page_event place page n (Said piece) is = is

reads_at : (place page n : ℕ) (old new : Told) → Reads (page_reads place page n) old new
    → Counts old new → ReadsAt (λ p s. p ≡ place) old new
reads_at place page n old new did counts = record {
  settled = did.settled;
  contents = did.contents;
  added = page_reads place page n;
  each = All-weaker (IsPageRead place page n) (IsReadAt (λ p s. p ≡ place))
      (page_event place page n) (page_reads place page n) (page_reads_of place page n);
  history = did.history;
  counts = counts;
}

-- the reads of a page are of its place
pub page_asked_at : {T : Type 0} (place page pieces : ℕ) (result : Result T ChipFault)
    (old new : Told) → PageAsked place page pieces result old new → Counts old new
    → ReadsAt (λ p s. p ≡ place) old new
page_asked_at place page pieces (Ok v) old new did counts =
    reads_at place page pieces old new did counts
page_asked_at place page pieces (Err e) old new (n, few, did) counts =
    reads_at place page n old new did counts
