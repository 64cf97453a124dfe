-- What is wrong with a unit that is to be merged, read from contents that are the same at its place.
use Rattle.std.proofs.Common.{◌≡◌, ◌≢◌, ◌<◌, ◌≤◌, ℕ, slice_index, Option, Some, None, Result, Ok, Err, IfErr, List, inl, inr, refl, sym, ◌∙◌, ap, ap₂, subst, arith}
use Rattle.std.specs.Prelude.{Bool, nat_le, nat_lt, if◌then◌else◌}
use Rattle.std.specs.Option.{option_or}
use Rattle.std.proofs.Math.Path.{fun_ext}
use Rattle.std.proofs.lemmas.Bool.{lt-ltb, le-ltb}
use Rattle.std.proofs.lemmas.Bool.Decides.{leb_tells}
use Rattle.chip_trait.specs.Story.{Contents}
use Rattle.chip_trait.specs.Told.{Told}
use Rattle.ipl_base.specs.First.{first_below}
use Rattle.ipl_base.specs.Sizes.{size_of_values}
use Rattle.ipl_base.specs.declared.limits.TheConstants.{PAGE_LEN}
use Rattle.ipl_base.specs.declared.fault.ChipFault.{ChipFault}
use Rattle.ipl_base.specs.declared.fault.ChipFault.TheVariants.{ReadFault, Stopped, Damaged, Malformed, WornOut}
use Rattle.ipl_base.specs.Calls.{IsFailedCall}
use Rattle.ipl_base.proofs.FirstLemmas.{first_alike, first_found, first_none}
use Rattle.ipl_format.specs.Page.{Slots, value_in}
use Rattle.ipl_meaning.specs.Chart.{Chart, chart_of}
use Rattle.ipl_meaning.specs.Last.{carried_count}
use Rattle.ipl_meaning.specs.Layout.{Shape, Layout}
use Rattle.ipl_meaning.specs.Mirrors.{MirrorsStatus}
use Rattle.ipl_meaning.specs.Stands.{Shows, page_in}
use Rattle.ipl_meaning.specs.Tables.{Places, Tables}
use Rattle.ipl_meaning.specs.Values.{Values, after_records}
use Rattle.ipl_meaning.proofs.RoomLemmas.{same_sizes}
use Rattle.unit_io.specs.Faults.{page_fault, text_below, TellsChipFault, HoldsPage}
use Rattle.unit_io.specs.Leads.{IsStopped}
use Rattle.place_taking.specs.Takes.{IsNotTaken}
use Rattle.unit_io.proofs.HeldLemmas.{sound_pages_are_held, held_pages_read_well, spells_text}
use Rattle.unit_io.proofs.SparesLemmas.{pages_alike, texts_alike}
use Rattle.page_ops.specs.Rebuilt.{values_of, with_records, full_fault}
use Rattle.page_ops.proofs.TextLemmas.{texts_say_values}
use Rattle.selective_merge.specs.FaultLaws.{MergeableUnitsHaveNoFault, FaultsAreOfThePlace, SaidUnitsAreMergeable, MergeFaultsAreOfTheUnit}
use Rattle.selective_merge.specs.Faults.{moved_values, page_fault_from, pages_fault, fault_with, IsMergeable, IsTheFault, TellsTheFault, FailsByChipAlone}
use Rattle.selective_merge.specs.Merged.{source_of, source_in}
use Rattle.selective_merge.specs.Moved.{Source}
use Rattle.selective_merge.specs.Packs.{among}
use Rattle.selective_merge.proofs.PacksLemmas.{among_test}

-- ---- the bytes of its place

module _ (x y : Contents) (from : Source) (same : (s : ℕ) → y from.place s ≡ x from.place s) where
  page_alike : (page : ℕ) → page_fault_from y from page ≡ page_fault_from x from page
  page_alike page = ap₂ option_or
      (pages_alike x y from.place same from.version from.unit from.generation page _)
      (ap (λ (text : List ℕ). full_fault from.place
      (with_records from.committed page from.records (values_of from.version text)))
      (texts_alike x y from.place same page (slice_index from.pieces page)))

  pub all_alike : pages_fault y from ≡ pages_fault x from
  all_alike = first_alike (page_fault_from y from) (page_fault_from x from) 15
      (λ page low. page_alike page)

-- the bytes are the same but at one place
abbrev pub IsSameBut : ℕ → Contents → Contents → Type 0
IsSameBut p x y = (q s : ℕ) → q ≢ p → y q s ≡ x q s

module _ (x y : Contents) (from : Source) (p : ℕ) (apart : from.place ≢ p) (same : IsSameBut p x y) where
  pub page_from_alike : (page : ℕ) → page_fault_from y from page ≡ page_fault_from x from page
  page_from_alike page = page_alike x y from (λ s. same from.place s apart) page

  pub pages_from_alike : pages_fault y from ≡ pages_fault x from
  pages_from_alike = all_alike x y from (λ s. same from.place s apart)

  -- the first page at fault
  pub first_page : (k : ℕ) (e : ChipFault) → k < 15
      → first_below (page_fault_from x from) k ≡ None
      → IsTheFault (page_fault_from y from k) e → IsTheFault (pages_fault x from) e
  first_page k e low none is = λ held.
      first_found (page_fault_from x from) k 15 e low none
      (sym (page_from_alike k) ∙ is held)

-- ---- pages

-- as the page was read, in so many pieces
pub page_told : (x : Contents) (from : Source) (page count : ℕ) (e : ChipFault)
    → count ≡ slice_index from.pieces page
    → TellsChipFault {T = Unit {0}}
    (page_fault x from.place from.version from.unit from.generation page count) (Err e)
    → IsTheFault (page_fault_from x from page) e
page_told x from page count e is told = λ held.
    ap (λ (o : Option ChipFault). option_or o (full_fault from.place (moved_values x from page)))
    (subst (λ (n : ℕ).
    page_fault x from.place from.version from.unit from.generation page n ≡ Some e) is
    (told (λ unread. held (subst IsFailedCall (sym unread) tt))))

-- a page that was read well
module _ (x : Contents) (from : Source) (page count : ℕ) (base : Slots)
    (is : count ≡ slice_index from.pieces page)
    (read : HoldsPage (chart_of x) from.place from.version from.unit from.generation page
    count base) where
  -- its values, once it is moved
  abbrev pub moved : Values
  moved = with_records from.committed page from.records (value_in base)

  held : HoldsPage (chart_of x) from.place from.version from.unit from.generation page
      (slice_index from.pieces page) base
  held = subst (λ (n : ℕ).
      HoldsPage (chart_of x) from.place from.version from.unit from.generation page n base) is read

  moved_size : size_of_values (moved_values x from page) ≡ size_of_values moved
  moved_size = same_sizes (moved_values x from page) moved (λ slot low.
      ap (after_records from.committed page slot from.records)
      (texts_say_values from.version
      (text_below (chart_of x) from.place page (slice_index from.pieces page)) base
      (spells_text x from.place from.version from.unit from.generation page _ base held) slot low))

  fault_is : page_fault_from x from page ≡ full_fault from.place moved
  fault_is =
      ap (λ (o : Option ChipFault). option_or o (full_fault from.place (moved_values x from page)))
      ((sound_pages_are_held x from.place from.version from.unit from.generation page _).1
      (base, held))
      ∙ ap (λ (n : ℕ). if nat_lt PAGE_LEN n then Some (Malformed from.place 0) else None) moved_size

  pub page_fine : size_of_values moved ≤ PAGE_LEN → page_fault_from x from page ≡ None
  page_fine room =
      fault_is ∙ ap (λ (b : Bool). if b then Some (Malformed from.place 0) else None)
      (le-ltb PAGE_LEN (size_of_values moved) room)

  pub page_full : PAGE_LEN < size_of_values moved
      → page_fault_from x from page ≡ Some (Malformed from.place 0)
  page_full full =
      fault_is ∙ ap (λ (b : Bool). if b then Some (Malformed from.place 0) else None)
      (lt-ltb PAGE_LEN (size_of_values moved) full)

-- ---- answers

pub fault_as : (fault : Option ChipFault) (e f : ChipFault) → e ≡ f → IsTheFault fault f
    → IsTheFault fault e
fault_as fault e f same is = subst (IsTheFault fault) (sym same) is

-- a call of the chip failed
pub fault_failed : (fault : Option ChipFault) (e : ChipFault) → IsFailedCall e → IsTheFault fault e
fault_failed fault e failed = λ held. absurd (held failed)

-- a write failed
pub fault_stopped : (fault : Option ChipFault) (e : ChipFault) → e ≡ Stopped → IsTheFault fault e
fault_stopped fault e is = fault_failed fault e (subst IsFailedCall (sym is) tt)

-- a read failed
pub fault_unread : (fault : Option ChipFault) (e : ChipFault) → e ≡ ReadFault → IsTheFault fault e
fault_unread fault e is = fault_failed fault e (subst IsFailedCall (sym is) tt)

-- a place couldn't be taken
pub fault_not_taken : (fault : Option ChipFault) (after : Places) (e : ChipFault) (old new : Told)
    → IsNotTaken after e old new → IsTheFault fault e
fault_not_taken fault after e old new (inl stopped) = fault_stopped fault e stopped.0
fault_not_taken fault after e old new (inr worn) =
    fault_failed fault e (subst IsFailedCall (sym worn.0) tt)

-- a call that only writes, where nothing was wrong
pub tells_written : {T : Type 0} (fault : Option ChipFault) (old new : Told)
    (result : Result T ChipFault) → fault ≡ None → IfErr result (λ e. IsStopped e old new)
    → TellsTheFault fault result
tells_written fault old new (Ok v) none stopped = none
tells_written fault old new (Err e) none stopped = fault_stopped fault e stopped.0

pub written_alone : {T : Type 0} (fault : Option ChipFault) (old new : Told)
    (result : Result T ChipFault) → IfErr result (λ e. IsStopped e old new)
    → IfErr result (IsTheFault fault)
written_alone fault old new (Ok v) stopped = tt
written_alone fault old new (Err e) stopped = fault_stopped fault e stopped.0

pub tells_fault : {T : Type 0} (fault : Option ChipFault) (result : Result T ChipFault)
    → TellsTheFault fault result → IfErr result (IsTheFault fault)
tells_fault fault (Ok v) tells = tt
tells_fault fault (Err e) tells = tells

-- ---- how many are carried

pub fault_with_few : (x : Contents) (from : Source) (n : ℕ) → n ≤ 12
    → fault_with x from n ≡ pages_fault x from
fault_with_few x from n few = elim (leb_tells n 12) [
  | inl (is, low) ↦ rw is refl
  | inr (is, high) ↦ absurd (omega (arith, few, high))
]

pub fault_with_many : (x : Contents) (from : Source) (n : ℕ) → 12 < n
    → fault_with x from n ≡ Some (Malformed from.place 0)
fault_with_many x from n many = elim (leb_tells n 12) [
  | inl (is, low) ↦ absurd (omega (arith, many, low))
  | inr (is, high) ↦ rw is refl
]

-- with the same bytes at the unit's place
pub faults_are_of_the_place : FaultsAreOfThePlace
faults_are_of_the_place x y t it u same =
    ap (λ (o : Option ChipFault). if nat_le (carried_count (among t.active) it.log) 12 then o
    else Some (Malformed it.home 0)) (all_alike x y (source_of t it u) same)

-- ---- committed numbers

-- the tables have those of the layout
pub committed_is : (it : Layout) (t : Tables) → MirrorsStatus it t
    → among t.status.numbers ≡ it.committed
committed_is it t status = fun_ext λ tid.
    sym (among_test (it.committed tid) t.status.numbers tid (status.numbers tid))

pub merge_faults_are_of_the_unit : MergeFaultsAreOfTheUnit
merge_faults_are_of_the_unit x it t u status few =
    fault_with_few x (source_of t (it.units u) u) _ few
    ∙ ap (λ (committed : ℕ → Bool). pages_fault x (record (source_in it u) { committed = committed }))
    (committed_is it t status)

-- ---- completeness

-- a page that shows values has no fault
page_shown : (x : Contents) (t : Tables) (it : Shape) (u page : ℕ) (now : Values)
    → Shows (chart_of x) (among t.status.numbers) u it page now
    → page_fault_from x (source_of t it u) page ≡ None
page_shown x t it u page now shows =
    let from : Source = source_of t it u in
    let held = (held_pages_read_well (chart_of x) u it page shows.base).1 shows.reads in
    let size : size_of_values now
    ≡ size_of_values (moved x from page (slice_index it.pieces page) shows.base refl held) =
    same_sizes now (moved x from page (slice_index it.pieces page) shows.base refl held) shows.says in
    page_fine x from page (slice_index it.pieces page) shows.base refl held
    (subst (λ (n : ℕ). n ≤ PAGE_LEN) size shows.room)

pub mergeable_units_have_no_fault : MergeableUnitsHaveNoFault
mergeable_units_have_no_fault x t it u may =
    fault_with_few x (source_of t it u) _ may.few
    ∙ first_none (page_fault_from x (source_of t it u)) 15
    (λ page low. let (now, shows) = may.pages page low in page_shown x t it u page now shows)

pub said_units_are_mergeable : SaidUnitsAreMergeable
said_units_are_mergeable places c it m t u says low all few = record {
  pages = λ page below. (page_in m.map u page, says.pages u page low below (all page below));
  few = few;
}

-- by the numbers of the tables, where they are those of the layout
pub mergeable_by : (c : Chart) (it : Layout) (t : Tables) (u : ℕ) → MirrorsStatus it t
    → IsMergeable c it.committed t (it.units u) u
    → IsMergeable c (among t.status.numbers) t (it.units u) u
mergeable_by c it t u status may = subst
    (λ (committed : ℕ → Bool). IsMergeable c committed t (it.units u) u)
    (sym (committed_is it t status)) may

pub by_chip_alone : {T : Type 0} (fault : Option ChipFault) (result : Result T ChipFault)
    → fault ≡ None → IfErr result (IsTheFault fault) → FailsByChipAlone result
by_chip_alone fault (Ok v) none is = tt
by_chip_alone fault (Err ReadFault) none is = tt
by_chip_alone fault (Err Stopped) none is = tt
by_chip_alone fault (Err (Damaged p s stored computed)) none is =
    let clash = sym none ∙ is (λ failed. failed) in cc clash
by_chip_alone fault (Err (Malformed p s)) none is =
    let clash = sym none ∙ is (λ failed. failed) in cc clash
by_chip_alone fault (Err (WornOut n)) none is = tt
