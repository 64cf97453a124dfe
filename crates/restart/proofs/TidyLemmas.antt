-- What a renewal adds by the tables alone.
use Rattle.std.proofs.Common.{◌≡◌, ◌<◌, ◌+◌, ◌∙◌, ℕ, Bool, true, false, List, [], length, Result, Ok, Err, is_ok, inl, inr, refl, sym, ap, subst, arith}
use Rattle.std.proofs.lemmas.Bool.{false≢true}
use Rattle.chip_trait.specs.Told.{Told, Counts}
use Rattle.ipl_base.specs.declared.fault.ChipFault.{ChipFault}
use Rattle.ipl_base.specs.declared.fault.ImageFault.{ImageFault}
use Rattle.ipl_meaning.specs.Tables.{IsFree, Places, StatusTable, Tables, IsCountedClean}
use Rattle.selective_merge.specs.Known.{KnowsPlaces}
use Rattle.selective_merge.proofs.KnownCleanLemmas.{counted_in_use, renewed_clean}
use Rattle.restart.specs.Opened.{NoneIsClean}
use Rattle.unit_io.specs.Steps.{Settled, TidyWork, Tidies}
use Rattle.unit_io.proofs.TablesLemmas.{tables_none, tables_read, tables_then}
use Rattle.unit_io.proofs.StepTidyLemmas.{tidy_reads, tidy_weaker}
use Rattle.place_taking.specs.Spending.{WritesFree}
use Rattle.place_taking.specs.Takes.{IsTakenFrom, with_places}
use Rattle.place_taking.proofs.JoinLemmas.{aside_facts, counted_alike, tidy_writes}
use Rattle.txn_status.specs.Status.{parts_of}
use Rattle.unit_directory.specs.Free.{aside}
use Rattle.unit_directory.specs.Laws.{UsesTake, DisusesGiveBack}
use Rattle.unit_directory.proofs.AsideLemmas.{next_places_are_aside}
use Rattle.unit_io.specs.Costs.{Spends}
use Rattle.unit_io.specs.ReadsAt.{ReadsAt}
use Rattle.unit_io.proofs.CostLemmas.{spends_weaker}
use Rattle.restart.specs.Recovers.{TakesMarks, TidiesOpening}
use Rattle.restart.specs.Renewed.{HasTables, with_tables, IsGivenBack}
use Rattle.restart.proofs.PlaceLemmas.{IsMovedTo, has_between, known_between, switched}

-- ---- a place that was given back

-- it has each unit where it was, with as many log sectors
pub back_is_same : (d after : Places) (fault : ChipFault) → IsGivenBack d fault after
    → (after.current ≡ d.current) × (after.written ≡ d.written)
back_is_same d after fault (inl from) =
    let facts = aside_facts d after from in (
      ap (λ (e : Places). e.current) from.places_is ∙ facts.current,
      ap (λ (e : Places). e.written) from.places_is ∙ facts.written,
    )
back_is_same d after fault (inr (stopped, (mid, p, from, next_free, erased))) =
    let facts = aside_facts d mid from in (
      ap (λ (e : Places). e.current) erased ∙ ap (λ (e : Places). e.current) from.places_is
          ∙ facts.current,
      ap (λ (e : Places). e.written) erased ∙ ap (λ (e : Places). e.written) from.places_is
          ∙ facts.written,
    )

-- ---- one call after another

-- none yet
pub tidies_none : (t : Tables) (told : Told)
    → Tidies {T = Unit {0}} {E = ChipFault} t (Ok tt) t told told
tidies_none t told = tables_none {T = Unit {0}} {E = ChipFault} t (Ok tt) told

-- reads, however they end
pub tidies_read : (At : ℕ → ℕ → Type 0) (t : Tables) (result : Result (Unit {0}) ChipFault)
    (old new : Told) → ReadsAt At old new → Tidies t result t old new
tidies_read At t result old new =
    tables_read {T = Unit {0}} {E = ChipFault} At t result old new

-- one that was done, and then another
pub tidies_then : (t between after : Tables) (result : Result (Unit {0}) ChipFault)
    (old mid new : Told) → Counts old mid
    → Tidies {T = Unit {0}} {E = ChipFault} t (Ok tt) between old mid
    → Tidies between result after mid new → Tidies t result after old new
tidies_then t between after result old mid new =
    tables_then {U = Unit {0}} {F = ChipFault} (Unit {0}) ChipFault t between after tt result
    old mid new

-- reads, and then another
pub tidies_read_then : (At : ℕ → ℕ → Type 0) (t after : Tables)
    (result : Result (Unit {0}) ChipFault) (old mid new : Told) → ReadsAt At old mid
    → Tidies t result after mid new → Tidies t result after old new
tidies_read_then At t after result old mid new reads =
    tidies_then t t after result old mid new reads.counts (tidies_read At t (Ok tt) old mid reads)

-- ---- a new status place

module _ (places : ℕ) (first : Places) (status : StatusTable) (next : ℕ) (after : Places) (new : StatusTable)
    (drawn : ℕ) (t : Tables) (has : HasTables t first status next)
    (known : KnowsPlaces places t) where
  -- what the tables count as clean stands at a place in use
  in_use : (q s : ℕ) → IsCountedClean t q s → ¬ IsFree first q
  in_use q s counted =
      subst (λ (e : Places). ¬ IsFree e q) has.places_is (counted_in_use places t known q s counted)

  -- a directory that says the same of the units counts the same
  counted_before : (d : Places) → d.current ≡ first.current → d.written ≡ first.written
      → (q s : ℕ) → IsCountedClean (with_places t d) q s → IsCountedClean t q s
  counted_before d current written =
      counted_alike t d (current ∙ ap (λ (e : Places). e.current) (sym has.places_is))
      (written ∙ ap (λ (e : Places). e.written) (sym has.places_is))

  -- it was written
  pub tidy_renewed : (takes : UsesTake) (gives_back : DisusesGiveBack) (p : ℕ) (between : Places)
      (from : IsTakenFrom first p between) (kept : List ℕ) (sized : length first.in_use ≡ places)
      (within : p < places) (is : IsMovedTo p (aside first from.worn) status next kept after new drawn)
      (old told : Told) → Spends (WritesFree first p (1 + parts_of kept) true) old told
      → Tidies {T = Unit {0}} {E = ChipFault} t (Ok tt) (with_tables t after new drawn) old told
  tidy_renewed takes gives_back p between from kept sized within is old told =
      let then : Tables = with_tables t after new drawn in
      let d : Places = aside first from.worn in
      let set : Tables = with_places t d in
      let facts = next_places_are_aside first from.worn from.in_turn in
      let moved = switched takes gives_back places p d status next kept (facts.all ∙ sized)
      from.next.free within after new drawn is set
      (has_between first from.worn from.in_turn status next t has) in
      let settles : Type 0 = Settled {T = Unit {0}} {E = ChipFault} (Ok tt) old told in
      spends_weaker (WritesFree first p (1 + parts_of kept) true)
      (TidyWork (IsCountedClean t) (IsCountedClean then) settles) old told
      (λ added. tidy_writes (IsCountedClean t) (IsCountedClean then) first p (1 + parts_of kept) true
      settles added (λ _ q s counted. elim (renewed_clean places set
      (known_between first from.worn from.in_turn status next t has places known) then p next
      (1 + parts_of kept) t.next moved.renewed q s counted) [
        | inl was ↦
            let before = counted_before d facts.current facts.written q s was.0 in
            inl (before, in_use q s before)
        | inr here ↦ inr (refl, here.0, here.1)
      ]))

  -- or it was given back, and the tables have the old one still
  pub tidy_unrenewed : (p from : ℕ) (e fault : ChipFault) (old told : Told)
      → IsGivenBack first fault after → new ≡ t.status → Spends (WritesFree first p from false) old told
      → Tidies {T = Unit {0}} {E = ChipFault} t (Err e) (with_tables t after new drawn) old told
  tidy_unrenewed p from e fault old told back still =
      let then : Tables = with_tables t after new drawn in
      let same = back_is_same first after fault back in
      let settles : Type 0 = Settled {T = Unit {0}} {E = ChipFault} (Err e) old told in
      spends_weaker (WritesFree first p from false)
      (TidyWork (IsCountedClean t) (IsCountedClean then) settles) old told
      (λ added. tidy_writes (IsCountedClean t) (IsCountedClean then) first p from false settles added
      (λ _ q s counted.
      let before = counted_before after same.0 same.1 q s
      (subst (λ (b : StatusTable). IsCountedClean (with_tables t after b drawn) q s) still counted) in
      inl (before, in_use q s before)))

-- ---- an opening

-- tables that count no sector as clean
abbrev pub nothing : Tables
nothing = record {
  places = record {
    current = [];
    in_use = [];
    erases = [];
    retired = [];
    written = [];
    generations = [];
    masks = [];
  };
  overflow = record { places = 0; spots = []; masks = []; in_use = [] };
  status = record { place = 0; generation = 0; numbers = []; most = 0; first = 256 };
  next = 0;
  active = [];
}

nothing_is_clean : NoneIsClean nothing
nothing_is_clean p s (small, inl (u, less, is, first)) = omega (arith, less)
nothing_is_clean p s (small, inr (inl (first, has, above_it))) = omega (arith, has.1)
nothing_is_clean p s (small, inr (inr (is, above_it))) = omega (arith, small, above_it)

pub takes_nothing : (marks : Bool) (places : ℕ) (old : Told) → TakesMarks marks places old nothing
takes_nothing marks places old = record {
  none = λ off. nothing_is_clean;
  marked = λ x told p s counted. absurd (nothing_is_clean p s counted);
}

-- reads, however they end
pub tidies_nothing : (At : ℕ → ℕ → Type 0) (marks : Bool) (places : ℕ) (e : ImageFault)
    (after : Tables) (old new : Told) → ReadsAt At old new
    → TidiesOpening marks places old (Err e) after new
tidies_nothing At marks places e after old new reads =
    let did = tidy_reads At (IsCountedClean nothing) (Unit {0}) old new reads in record {
      first = nothing;
      takes = takes_nothing marks places old;
      tidies = record {
        added = reads.added;
        does = record {
          silent = did.silent;
          lawful = did.lawful;
          clean = λ no. absurd (false≢true no);
        };
        history = reads.history;
      };
    }

-- calls that leave the tables so, however they end
pub tidies_opened : (marks : Bool) (places : ℕ) (t after : Tables)
    (result : Result (Unit {0}) ChipFault) (answer : Result (Unit {0}) ImageFault) (old new : Told)
    → TakesMarks marks places old t → is_ok answer ≡ is_ok result → Tidies t result after old new
    → TidiesOpening marks places old answer after new
tidies_opened marks places t after result answer old new takes same did = record {
  first = t;
  takes = takes;
  tidies = spends_weaker
      (TidyWork (IsCountedClean t) (IsCountedClean after) (Settled result old new))
      (TidyWork (IsCountedClean t) (IsCountedClean after) (is_ok answer ≡ true)) old new
      (λ added. tidy_weaker (IsCountedClean t) (IsCountedClean after) (Settled result old new)
      (is_ok answer ≡ true) added (λ is. settled_done result old new (sym same ∙ is))) did;
}
  where
    settled_done : (result : Result (Unit {0}) ChipFault) (old new : Told) → is_ok result ≡ true
        → Settled result old new
    settled_done (Ok v) old new is = tt
    settled_done (Err e) old new is = absurd (false≢true is)
