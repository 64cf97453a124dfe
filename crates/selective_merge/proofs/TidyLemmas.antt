-- What the calls program and erase by the tables alone, one after another, whatever the chip tells.
use Rattle.std.proofs.Common.{◌≡◌, ◌⊎◌, ◌<◌, ◌≤◌, ◌+◌, ℕ, Bool, true, false, List, length, Err, inl, inr, refl, ◌∙◌, ap, arith}
use Rattle.chip_trait.specs.Told.{Told}
use Rattle.ipl_base.specs.declared.fault.ChipFault.{ChipFault}
use Rattle.ipl_meaning.specs.Tables.{Places, IsFree, Tables, IsCountedClean}
use Rattle.ipl_meaning.specs.TableSteps.{IsMoved, taken, with_next, with_overflow}
use Rattle.unit_io.specs.Costs.{Spends}
use Rattle.unit_io.specs.ReadsAt.{ReadsAt}
use Rattle.unit_io.specs.Spots.{Programs, IsSpot, IsPieceSpot}
use Rattle.unit_io.proofs.CostLemmas.{spends_none, spends_then, spends_weaker}
use Rattle.unit_io.proofs.SpotLemmas.{programs_none}
use Rattle.unit_io.proofs.TidyLemmas.{tidy_then, tidy_wider}
use Rattle.unit_directory.specs.Free.{AreNext}
use Rattle.unit_directory.proofs.AsideLemmas.{next_places_are_aside}
use Rattle.unit_io.specs.Steps.{TidyWork}
use Rattle.unit_io.proofs.StepTidyLemmas.{tidy_none as nothing_tidy, tidy_reads, tidy_then as events_then}
use Rattle.selective_merge.specs.Known.{KnowsPlaces}
use Rattle.selective_merge.specs.Packs.{IsLogSpotBelow}
use Rattle.selective_merge.specs.Pages.{IsBaseSpotBelow}
use Rattle.selective_merge.proofs.KnownCleanLemmas.{StaysOrIsFrom, counted_before, counted_in_use, merged_clean, opened_clean, stays_before}
use Rattle.place_taking.specs.Spending.{WritesFree}
use Rattle.place_taking.specs.Takes.{ClearsNext, IsAsideFrom, with_places}
use Rattle.place_taking.proofs.JoinLemmas.{tidy_untaken, tidy_writes}
use Rattle.selective_merge.specs.Moving.{set_aside}
use Rattle.selective_merge.specs.Throughout.{TidiesThroughout}
use Rattle.selective_merge.specs.Writing.{IsFilledSpot, IsUnitSpot}
use Rattle.selective_merge.proofs.HeldLemmas.{known_aside, recounted}
use Rattle.selective_merge.proofs.FillLemmas.{programs_filled, programs_unit, programs_pages, programs_unsealed}
use Rattle.selective_merge.proofs.ReadLemmas.{reads_program}

-- ---- programs

-- nothing was done
pub tidy_none : (p : ℕ) (Spot : ℕ → Type 0) (done : Bool) (t : Told)
    → Spends (Programs p Spot done) t t
tidy_none p Spot done t = spends_none (Programs p Spot done) t (programs_none p Spot done)

-- reads, done or not
pub tidy_read : (At : ℕ → ℕ → Type 0) (p : ℕ) (Spot : ℕ → Type 0) (done : Bool) (old new : Told)
    → ReadsAt At old new → Spends (Programs p Spot done) old new
tidy_read At p Spot done old new did = record {
  added = did.added;
  does = reads_program At p Spot done old new did;
  history = did.history;
}

-- programs behind reads
pub tidy_behind : (At : ℕ → ℕ → Type 0) (p : ℕ) (Spot : ℕ → Type 0) (done : Bool)
    (old mid new : Told) → ReadsAt At old mid → Spends (Programs p Spot done) mid new
    → Spends (Programs p Spot done) old new
tidy_behind At p Spot done old mid new did =
    tidy_then p (λ s. ⊥) Spot Spot true done old mid new (λ s none is. none)
    (λ s none. absurd none) (λ s is. is) (tidy_read At p (λ s. ⊥) true old mid did)

-- one log sector more
pub tidy_log_more : (p n : ℕ) (done : Bool) (old mid new : Told)
    → Spends (Programs p (IsLogSpotBelow n) true) old mid
    → Spends (Programs p (IsSpot (241 + n)) done) mid new
    → Spends (Programs p (IsLogSpotBelow (n + 1)) done) old new
tidy_log_more p n done old mid new =
    tidy_then p (IsLogSpotBelow n) (IsSpot (241 + n)) (IsLogSpotBelow (n + 1)) true done old mid new
    (λ s is at. omega (arith, is.1, at)) (λ s is. (is.0, omega (arith, is.1)))
    (λ s at. (omega (arith, at), omega (arith, at)))

-- some of them
pub tidy_logs : (p n total : ℕ) (done then : Bool) (old new : Told) → n ≤ total
    → Spends (Programs p (IsLogSpotBelow n) done) old new
    → Spends (Programs p (IsLogSpotBelow total) then) old new
tidy_logs p n total done then old new few =
    tidy_wider p (IsLogSpotBelow n) (IsLogSpotBelow total) done then old new
    (λ s is. (is.0, omega (arith, is.1, few)))

-- one page more
pub tidy_page_more : (p page : ℕ) (done : Bool) (old mid new : Told)
    → Spends (Programs p (IsBaseSpotBelow page) true) old mid
    → Spends (Programs p (IsPieceSpot page 16) done) mid new
    → Spends (Programs p (IsBaseSpotBelow (page + 1)) done) old new
tidy_page_more p page done old mid new =
    tidy_then p (IsBaseSpotBelow page) (IsPieceSpot page 16) (IsBaseSpotBelow (page + 1)) true done
    old mid new (λ s is at. omega (arith, is.1, at.0)) (λ s is. (is.0, omega (arith, is.1)))
    (λ s at. (omega (arith, at.0), omega (arith, at.1)))

-- some of them
pub tidy_pages : (p n total : ℕ) (done then : Bool) (old new : Told) → n ≤ total
    → Spends (Programs p (IsBaseSpotBelow n) done) old new
    → Spends (Programs p (IsBaseSpotBelow total) then) old new
tidy_pages p n total done then old new few =
    tidy_wider p (IsBaseSpotBelow n) (IsBaseSpotBelow total) done then old new
    (λ s is. (is.0, omega (arith, is.1, few)))

-- ---- a clean place

-- pages alone
pub tidy_paged : (p n : ℕ) (old new : Told) → Spends (Programs p (IsBaseSpotBelow 15) false) old new
    → Spends (Programs p (IsFilledSpot n) false) old new
tidy_paged p n old new =
    spends_weaker (Programs p (IsBaseSpotBelow 15) false) (Programs p (IsFilledSpot n) false) old new
    (λ added. programs_pages p n added)

-- and log sectors behind these
pub tidy_logged : (p n : ℕ) (done : Bool) (old mid new : Told)
    → Spends (Programs p (IsBaseSpotBelow 15) true) old mid
    → Spends (Programs p (IsLogSpotBelow n) done) mid new
    → Spends (Programs p (IsFilledSpot n) done) old new
tidy_logged p n done old mid new =
    spends_then (Programs p (IsBaseSpotBelow 15) true) (Programs p (IsLogSpotBelow n) done)
    (Programs p (IsFilledSpot n) done) old mid new
    (λ later earlier. programs_filled p n done later earlier)

-- and the header
pub tidy_sealed : (p n : ℕ) (done : Bool) (old mid new : Told)
    → Spends (Programs p (IsFilledSpot n) true) old mid → Spends (Programs p (IsSpot 0) done) mid new
    → Spends (Programs p (IsUnitSpot n) done) old new
tidy_sealed p n done old mid new =
    spends_then (Programs p (IsFilledSpot n) true) (Programs p (IsSpot 0) done)
    (Programs p (IsUnitSpot n) done) old mid new
    (λ later earlier. programs_unit p n done later earlier)

-- not all was written
pub tidy_unsealed : (p n : ℕ) (old new : Told) → Spends (Programs p (IsFilledSpot n) false) old new
    → Spends (Programs p (IsUnitSpot n) false) old new
tidy_unsealed p n old new =
    spends_weaker (Programs p (IsFilledSpot n) false) (Programs p (IsUnitSpot n) false) old new
    (λ added. programs_unsealed p n added)

-- ---- the tables

-- nothing was done
pub tidies_none : (t : Tables) (told : Told) → TidiesThroughout t t told told
tidies_none t told =
    spends_none (TidyWork (IsCountedClean t) (IsCountedClean t) (Unit {0})) told
    (nothing_tidy (IsCountedClean t) (Unit {0}))

-- reads, done or not
pub tidies_read : (At : ℕ → ℕ → Type 0) (t : Tables) (old new : Told) → ReadsAt At old new
    → TidiesThroughout t t old new
tidies_read At t old new did = record {
  added = did.added;
  does = tidy_reads At (IsCountedClean t) (Unit {0}) old new did;
  history = did.history;
}

-- one call, and then another
pub tidies_then : (t between after : Tables) (old mid new : Told) → TidiesThroughout t between old mid
    → TidiesThroughout between after mid new → TidiesThroughout t after old new
tidies_then t between after old mid new =
    spends_then (TidyWork (IsCountedClean t) (IsCountedClean between) (Unit {0}))
    (TidyWork (IsCountedClean between) (IsCountedClean after) (Unit {0}))
    (TidyWork (IsCountedClean t) (IsCountedClean after) (Unit {0})) old mid new
    (λ later earlier first second. events_then (IsCountedClean t) (IsCountedClean between)
    (IsCountedClean after) (Unit {0}) (Unit {0}) earlier later first tt second)

-- a call behind reads
pub tidies_behind : (At : ℕ → ℕ → Type 0) (t after : Tables) (old mid new : Told) → ReadsAt At old mid
    → TidiesThroughout t after mid new → TidiesThroughout t after old new
tidies_behind At t after old mid new did =
    tidies_then t t after old mid new (tidies_read At t old mid did)

-- a free place that was written anew
tidies_written : (t after : Tables) (d : Places) (p from : ℕ) (done : Bool) (old new : Told)
    → ((q n : ℕ) → IsCountedClean after q n
    → (IsCountedClean t q n × (¬ IsFree d q)) ⊎ ((done ≡ true) × (q ≡ p) × (from ≤ n)))
    → Spends (WritesFree d p from done) old new → TidiesThroughout t after old new
tidies_written t after d p from done old new moved =
    spends_weaker (WritesFree d p from done)
    (TidyWork (IsCountedClean t) (IsCountedClean after) (Unit {0})) old new
    (λ added. tidy_writes (IsCountedClean t) (IsCountedClean after) d p from done (Unit {0}) added
    (λ settled. moved))

module _ (places : ℕ) (t : Tables) (known : KnowsPlaces places t) (worn : List ℕ)
    (in_turn : AreNext t.places worn) (p : ℕ) where
  known_then : KnowsPlaces places (set_aside t worn)
  known_then = known_aside places t worn known in_turn

  as_from : (from q n : ℕ) → StaysOrIsFrom places (set_aside t worn) known_then p from q n
      → (IsCountedClean t q n × (¬ IsFree t.places q)) ⊎ ((true ≡ true) × (q ≡ p) × (from ≤ n))
  as_from from q n stays = elim (stays_before places t known worn in_turn p from q n stays) [
    | inl was ↦ inl was
    | inr here ↦ inr (refl, here.0, here.1)
  ]

  -- a place that was free is an overflow place
  pub opens_tidily : (after : Tables) (next : ℕ) (old new : Told)
      → after ≡ with_overflow (taken (set_aside t worn) p) p next
      → Spends (WritesFree t.places p 1 true) old new → TidiesThroughout t after old new
  opens_tidily after next old new is did =
      rw is (tidies_written t (with_overflow (taken (set_aside t worn) p) p next) t.places p 1 true old new
      (λ q n counted. as_from 1 q n
      (opened_clean places (set_aside t worn) known_then p next q n counted)) did)

  -- or the place of a unit
  pub moves_tidily : (after : Tables) (u used next : ℕ) (old new : Told)
      → u < length t.places.current → length t.places.written ≡ length t.places.current
      → IsMoved (with_next (taken (set_aside t worn) p) next) after u p used
      → Spends (WritesFree t.places p (241 + used) true) old new → TidiesThroughout t after old new
  moves_tidily after u used next old new low logs moved =
      let facts = next_places_are_aside t.places worn in_turn in
      let many : length (set_aside t worn).places.current ≡ length t.places.current =
      ap (λ (l : List ℕ). length l) facts.current in
      let written : length (set_aside t worn).places.written ≡ length t.places.written =
      ap (λ (l : List ℕ). length l) facts.written in
      tidies_written t after t.places p (241 + used) true old new
      (λ q n counted. as_from (241 + used) q n
      (merged_clean places (set_aside t worn) known_then after u p used next (omega (arith, low, many))
      (omega (arith, logs, many, written)) moved q n counted))

  -- or it was given back
  pub gives_back_tidily : (after : Tables) (erases : List ℕ) (from next : ℕ) (old new : Told)
      → after ≡ recounted (set_aside t worn) erases next
      → Spends (WritesFree t.places p from false) old new → TidiesThroughout t after old new
  gives_back_tidily after erases from next old new is did =
      rw is (tidies_written t (recounted (set_aside t worn) erases next) t.places p from false old new
      (λ q n counted.
      let was = counted_before places t known worn in_turn q n counted in
      inl (was, counted_in_use places t known q n was)) did)

-- or none was taken
pub untaken_tidily : (places : ℕ) (t : Tables) → KnowsPlaces places t → (d : Places)
    → IsAsideFrom t.places d → (after : Tables) (next : ℕ) (e : ChipFault) (old new : Told)
    → after ≡ with_next (with_places t d) next
    → Spends (ClearsNext t.places (Err e)) old new → TidiesThroughout t after old new
untaken_tidily places t known d aside after next e old new is did =
    gives_back_tidily places t known aside.worn aside.in_turn 0 after (set_aside t aside.worn).places.erases
    0 next old new
    (is ∙ ap (λ (b : Places). with_next (with_places t b) next) aside.places_is)
    (tidy_untaken t.places 0 0 e old new did)
