-- What calls leave of worn places, one after another: for whoever tells of them.
use Rattle.std.proofs.Common.{◌≡◌, ℕ, Bool, false, [], inl, inr, refl, sym, ◌∙◌, ap, arith}
use Rattle.std.specs.Prelude.{◌≤◌}
use Rattle.std.specs.List.{Contains}
use Rattle.std.proofs.lemmas.Bool.{false≢true}
use Rattle.chip_trait.specs.Story.{Story}
use Rattle.chip_trait.specs.Told.{Told}
use Rattle.ipl_format.specs.Sector.{sector_in}
use Rattle.ipl_meaning.specs.Chart.{Chart, chart_of}
use Rattle.ipl_meaning.specs.Tables.{Places, Tables, IsFree}
use Rattle.unit_io.specs.Charts.{Charts}
use Rattle.unit_io.specs.Costs.{ProgramsAt, Spends, erases}
use Rattle.unit_io.specs.ReadsAt.{ReadsAt}
use Rattle.unit_io.proofs.CostLemmas.{costs_reads, programs_at_cost, spends_none, spends_weaker}
use Rattle.place_taking.specs.Laws.{IsAlikeInWear, KeepsFirst, NothingWears, ProgramsWearNothing, SparedPlacesWear, WearsAreJoined, FailuresWear}
use Rattle.place_taking.specs.Counts.{KeepsCounts}
use Rattle.place_taking.specs.Homes.{KeepsHomes, LeavesPlaces}
use Rattle.place_taking.specs.Spending.{SparesUsed}
use Rattle.place_taking.specs.Wear.{ListsNoOther, TellsOfWear}
use Rattle.place_taking.proofs.CountedLemmas.{counted_none, keeps_counts}
use Rattle.place_taking.proofs.HomeLemmas.{homes_equal, known_untried, places_then}
use Rattle.place_taking.proofs.SpendingLemmas.{none_found, retires_none}

-- ---- what is retired, and what is known

-- events that try no erase retire nothing
pub leaves_untried : (before after : Places) (worn_out : Bool) (added : Story)
    → after.retired ≡ before.retired → worn_out ≡ false → KeepsHomes before after
    → KeepsCounts before after → erases added ≤ 0 → LeavesPlaces before after worn_out added
leaves_untried before after worn_out added same still homes counts none = record {
  retires = retires_none before after worn_out added same still (λ p. none_found p added none);
  homes = known_untried before after added homes none;
  counted = counted_none added before after none counts;
}

-- so do reads
pub reads_leave_places : (At : ℕ → ℕ → Type 0) (before after : Places) (old new : Told)
    → after.retired ≡ before.retired → KeepsHomes before after → KeepsCounts before after
    → ReadsAt At old new → Spends (LeavesPlaces before after false) old new
reads_leave_places At before after old new same homes counts did = record {
  added = did.added;
  does = leaves_untried before after false did.added same refl homes counts
      (costs_reads At [] did.added did.each).erased;
  history = did.history;
}

-- and programs
pub programs_leave_places : (before after : Places) (place n b kind : ℕ) (old new : Told)
    → after.retired ≡ before.retired → KeepsHomes before after → KeepsCounts before after
    → Spends (ProgramsAt place n b kind) old new → Spends (LeavesPlaces before after false) old new
programs_leave_places before after place n b kind old new same homes counts =
    spends_weaker (ProgramsAt place n b kind) (LeavesPlaces before after false) old new
    (λ added are. leaves_untried before after false added same refl homes counts
    (programs_at_cost place n b kind added are).erased)

-- ---- what the header of the status place lists

-- the same place, with the same sector
lists_alike : (t after : Tables) (c y : Chart) → after.status.place ≡ t.status.place
    → y t.status.place 0 ≡ c t.status.place 0 → ListsNoOther t after c y
lists_alike t after c y there same p listed =
    inl (listed.0, sym same ∙ ap (λ (q : ℕ). y q 0) (sym there) ∙ listed.1, listed.2)

charts_alike : (t after : Tables) (old new : Told) → after.status.place ≡ t.status.place
    → Charts (KeepsFirst t) old new → Charts (ListsNoOther t after) old new
charts_alike t after old new there keeps x tells =
    let then = keeps x tells in
    (then.0, then.1, lists_alike t after (chart_of x) (chart_of then.0) there then.2)

-- a chip that holds what it held
charts_same : (t after : Tables) (old new : Told) → after.status.place ≡ t.status.place
    → new.contents ≡ old.contents → Charts (ListsNoOther t after) old new
charts_same t after old new there same x tells =
    (x, same ∙ tells, lists_alike t after (chart_of x) (chart_of x) there refl)

charts_spared : (t after : Tables) (old new : Told) → ¬ IsFree t.places t.status.place
    → after.status.place ≡ t.status.place → SparesUsed t.places old new
    → Charts (ListsNoOther t after) old new
charts_spared t after old new used there spared x tells =
    let then = spared x tells in (
      then.0,
      then.1,
      lists_alike t after (chart_of x) (chart_of then.0) there
          (ap sector_in (then.2 t.status.place 0 used)),
    )

-- one after the other, where what was retired between is so still
lists_then : (t between after : Tables) (c mid y : Chart)
    → ((p : ℕ) → Contains between.places.retired p → Contains after.places.retired p)
    → ListsNoOther t between c mid → ListsNoOther between after mid y → ListsNoOther t after c y
lists_then t between after c mid y keeps first second p listed = elim (second p listed) [
  | inl before ↦ elim (first p before) [
    | inl at_first ↦ inl at_first
    | inr retired ↦ inr (keeps p retired)
  ]
  | inr retired ↦ inr retired
]

charts_then : (t between after : Tables) (old mid new : Told)
    → ((p : ℕ) → Contains between.places.retired p → Contains after.places.retired p)
    → Charts (ListsNoOther t between) old mid → Charts (ListsNoOther between after) mid new
    → Charts (ListsNoOther t after) old new
charts_then t between after old mid new keeps first second x tells =
    let one = first x tells in
    let two = second one.0 one.1 in (
      two.0,
      two.1,
      lists_then t between after (chart_of x) (chart_of one.0) (chart_of two.0) keeps
          one.2 two.2,
    )

-- ---- both

-- the same directory, and the status at the same place
pub alike_tables : (t after : Tables) → after.places ≡ t.places
    → after.status.place ≡ t.status.place → IsAlikeInWear t after
alike_tables t after places status = record {
  retired = ap (λ (d : Places). d.retired) places;
  homes = homes_equal t.places after.places places;
  counts = keeps_counts t.places after.places places;
  status = status;
}

pub nothing_wears : NothingWears
nothing_wears t after done old alike = record {
  places = spends_none (LeavesPlaces t.places after.places false) old
      (leaves_untried t.places after.places false [] alike.retired refl alike.homes
      alike.counts (omega arith));
  lists = λ _. charts_same t after old old alike.status refl;
}

-- whichever sectors were read
pub reads_wear_at : (At : ℕ → ℕ → Type 0) (t after : Tables) (done : Bool) (old new : Told)
    → IsAlikeInWear t after → ReadsAt At old new → TellsOfWear t after done false old new
reads_wear_at At t after done old new alike did = record {
  places = reads_leave_places At t.places after.places old new alike.retired alike.homes
      alike.counts did;
  lists = λ _. charts_same t after old new alike.status did.contents;
}

pub programs_wear_nothing : ProgramsWearNothing
programs_wear_nothing t after done worn_out old new alike places keeps = record {
  places = places;
  lists = λ is. charts_alike t after old new alike.status (keeps is);
}

pub spared_places_wear : SparedPlacesWear
spared_places_wear t after done worn_out old new used there places spared = record {
  places = places;
  lists = λ is. charts_spared t after old new used there (spared is);
}

pub wears_are_joined : WearsAreJoined
wears_are_joined t between after done worn_out old mid new first second = record {
  places = places_then t.places between.places after.places worn_out old mid new first.places
      second.places;
  lists = λ is. charts_then t between after old mid new second.places.does.retires.keeps (first.lists refl)
      (second.lists is);
}

pub failures_wear : FailuresWear
failures_wear t after worn_out old new places = record {
  places = places;
  lists = λ is. absurd (false≢true is);
}
