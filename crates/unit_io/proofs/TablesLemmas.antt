-- What calls add by the tables alone, one after another.
use Rattle.std.proofs.Common.{◌≡◌, ◌≢◌, ◌≤◌, ◌++◌, ℕ, Bool, true, Result, Ok, Err, is_ok, inl, inr, sym, subst}
use Rattle.std.specs.Prelude.{◌⊎◌}
use Rattle.std.proofs.lemmas.Bool.{true≢false}
use Rattle.chip_trait.specs.Lawful.{Clean, age}
use Rattle.chip_trait.specs.Told.{Told, Counts}
use Rattle.ipl_meaning.specs.Tables.{Tables, IsCountedClean}
use Rattle.unit_io.specs.Costs.{Spends}
use Rattle.unit_io.specs.ReadsAt.{ReadsAt}
use Rattle.unit_io.specs.Spots.{Programs, Rewrites}
use Rattle.unit_io.proofs.CostLemmas.{spends_none, spends_then, spends_weaker}
use Rattle.unit_io.specs.Steps.{Settled, TidyWork, Tidies}
use Rattle.unit_io.proofs.StepLemmas.{failures_settle}
use Rattle.unit_io.proofs.StepTidyLemmas.{tidy_none, tidy_reads, tidy_then, tidy_weaker, tidy_programs}

-- what counts as clean
abbrev Counted : Tables → ℕ → ℕ → Type 0
Counted t = IsCountedClean t

-- nothing was done
pub tables_none : {T E : Type 0} (t : Tables) (result : Result T E) (told : Told) → Tidies t result t told told
tables_none t result told =
    spends_none (TidyWork (Counted t) (Counted t) (Settled result told told)) told (tidy_none (Counted t) (Settled result told told))

-- reads, done or not
pub tables_read : {T E : Type 0} (At : ℕ → ℕ → Type 0) (t : Tables) (result : Result T E) (old new : Told)
    → ReadsAt At old new → Tidies t result t old new
tables_read At t result old new did = record {
  added = did.added;
  does = tidy_reads At (Counted t) (Settled result old new) old new did;
  history = did.history;
}

-- a part of a call's time settled where the call did
settled_later : {T E : Type 0} (result : Result T E) (old mid new : Told) → Counts old mid
    → Settled result old new → Settled result mid new
settled_later (Ok v) old mid new counts settled = tt
settled_later (Err e) old mid new counts settled =
    failures_settle (Unit {0}) (Unit {0}) (Unit {0}) (Unit {0}) tt tt old mid new counts settled

-- one call that was done, and then another
pub tables_then : {U F : Type 0} (T E : Type 0) (t between after : Tables) (v : T) (result : Result U F) (old mid new : Told)
    → Counts old mid → Tidies {T = T} {E = E} t (Ok v) between old mid → Tidies between result after mid new
    → Tidies t result after old new
tables_then T E t between after v result old mid new counts =
    spends_then (TidyWork (Counted t) (Counted between) (Unit {0}))
    (TidyWork (Counted between) (Counted after) (Settled result mid new))
    (TidyWork (Counted t) (Counted after) (Settled result old new)) old mid new
    (λ later earlier first second. tidy_then (Counted t) (Counted between) (Counted after) (Unit {0}) (Settled result old new)
    earlier later first tt
    (tidy_weaker (Counted between) (Counted after) (Settled result mid new) (Settled result old new) later
    (settled_later result old mid new counts) second))

-- another answer, which is done where this one is
pub tables_answered : {T U E F : Type 0} (t after : Tables) (result : Result T E) (answer : Result U F) (old new : Told)
    → is_ok result ≡ is_ok answer → Tidies t result after old new → Tidies t answer after old new
tables_answered t after (Ok v) (Ok w) old new same did = did
tables_answered t after (Err e) (Err f) old new same did = did
tables_answered t after (Ok v) (Err f) old new same did = absurd (true≢false same)
tables_answered t after (Err e) (Ok w) old new same did = absurd (true≢false (sym same))

-- other tables, which count as clean then what these count so, and maybe fewer sectors
pub tables_fewer : {T E : Type 0} (t between after : Tables) (result : Result T E) (old new : Told)
    → ((p s : ℕ) → IsCountedClean after p s → IsCountedClean between p s)
    → Tidies t result between old new → Tidies t result after old new
tables_fewer t between after result old new fewer =
    spends_weaker (TidyWork (Counted t) (Counted between) (Settled result old new))
    (TidyWork (Counted t) (Counted after) (Settled result old new)) old new
    (λ added did. record {
      silent = did.silent;
      lawful = did.lawful;
      clean = λ end base clean p s counted. did.clean end base clean p s (fewer p s counted);
    })

-- programs of sectors that were counted as clean, and aren't then
pub tables_programmed : {T E : Type 0} (t after : Tables) (p : ℕ) (Spot : ℕ → Type 0) (done : Bool) (result : Result T E) (old new : Told)
    → ((s : ℕ) → Spot s → IsCountedClean t p s)
    → (Settled result old new → (q s : ℕ) → IsCountedClean after q s → IsCountedClean t q s × (q ≡ p → Spot s → ⊥))
    → Spends (Programs p Spot done) old new → Tidies t result after old new
tables_programmed t after p Spot done result old new spots fewer =
    spends_weaker (Programs p Spot done) (TidyWork (Counted t) (Counted after) (Settled result old new)) old new
    (λ added did. tidy_programs p Spot done (Counted t) (Counted after) (Settled result old new) added did spots fewer)

-- A place that was erased and programmed below a sector: what is counted as clean then was so before and stands elsewhere, or
-- stands there from that sector on, where all was done.
pub tables_rewritten : {T E : Type 0} (t after : Tables) (p from : ℕ) (done : Bool) (result : Result T E) (old new : Told)
    → (Settled result old new → (q s : ℕ) → IsCountedClean after q s
    → (IsCountedClean t q s × (q ≢ p)) ⊎ ((done ≡ true) × (q ≡ p) × (from ≤ s)))
    → Spends (Rewrites p from done) old new → Tidies t result after old new
tables_rewritten t after p from done result old new moved =
    spends_weaker (Rewrites p from done) (TidyWork (Counted t) (Counted after) (Settled result old new)) old new
    (λ added did. record {
      silent = did.silent;
      lawful = record { lawful = λ base is clean. did.lawful base is };
      clean = λ end base clean q s counted. elim (moved end q s counted) [
        | inl was ↦ did.others base q s was.1 (clean q s was.0)
        | inr here ↦ subst (λ (r : ℕ). age (added ++ base) r s ≡ Clean) (sym here.1) (did.fresh here.0 base s here.2)
      ];
    })
