-- What a load reads, and the fault that it tells.
use Rattle.std.proofs.Common.{◌≡◌, ◌<◌, ◌≤◌, ◌-◌, ◌+◌, ◌*◌, ℕ, zero, suc, List, length, slice_index, Option, Some, Result, Ok, Err, inl, inr, refl, sym, ◌∙◌, ap, ap₂, subst, arith}
use Rattle.std.specs.List.{All, Contains}
use Rattle.std.proofs.lemmas.Bool.{cases_lt}
use Rattle.std.proofs.lemmas.List.{get_or_past}
use Rattle.std.proofs.lemmas.List.Elements.{All-nil, All-cons}
use Rattle.chip_trait.specs.declared.event.Event.TheVariants.{Read}
use Rattle.chip_trait.specs.Told.{Told, Counts}
use Rattle.std.specs.Prelude.{OnOk, IfErr}
use Rattle.ipl_base.specs.declared.fault.ChipFault.{ChipFault}
use Rattle.ipl_base.specs.declared.fault.ChipFault.TheVariants.{ReadFault, Stopped, Damaged, Malformed, WornOut}
use Rattle.ipl_format.specs.Place.{base_sector_of}
use Rattle.ipl_meaning.specs.Chart.{Chart}
use Rattle.ipl_meaning.specs.Layout.{Layout}
use Rattle.ipl_meaning.specs.Allowed.{IsAllowed}
use Rattle.ipl_meaning.specs.Tables.{Places, OverflowLists, StatusTable, Tables}
use Rattle.unit_io.specs.Reads.{Reads, PageAsked, page_reads}
use Rattle.unit_io.specs.Faults.{IsPageCause}
use Rattle.unit_io.specs.ReadsAt.{IsReadAt, IsCauseAt, ReadsAt}
use Rattle.unit_io.proofs.ReadsAtLemmas.{at_then, at_wider}
use Rattle.unit_log.specs.Paged.{page_spots, IsPageLogRead, AddsAtMost}
use Rattle.unit_log.proofs.PagedLemmas.{spot_of_page}
use Rattle.page_rebuild.specs.Loaded.{AreTables, IsBaseRead, IsLoadRead, IsLoadCause, IsRebuildCause}

-- ---- base sectors that were read

base_each : (place page pieces n : ℕ) → n ≤ pieces
    → All (IsReadAt (IsBaseRead place page pieces)) (page_reads place page n)
base_each place page pieces zero few = All-nil (IsReadAt (IsBaseRead place page pieces))
base_each place page pieces (suc n) few =
    All-cons (IsReadAt (IsBaseRead place page pieces)) (Read place (base_sector_of page n))
    (page_reads place page n) (refl, (omega arith, omega (arith, few)))
    (base_each place page pieces n (omega (arith, few)))

reads_length : (place page n : ℕ) → length (page_reads place page n) ≡ n
reads_length place page zero = refl
reads_length place page (suc n) = ap suc (reads_length place page n)

base_done : (place page pieces n : ℕ) (old new : Told) → n ≤ pieces
    → Reads (page_reads place page n) old new → Counts old new
    → ReadsAt (IsBaseRead place page pieces) old new
base_done place page pieces n old new few did counts = record {
  settled = did.settled;
  contents = did.contents;
  added = page_reads place page n;
  each = base_each place page pieces n few;
  history = did.history;
  counts = counts;
}

pub base_asked : (place page pieces : ℕ) (result : Result (Unit {0}) ChipFault) (old new : Told)
    → PageAsked place page pieces result old new → Counts old new
    → ReadsAt (IsBaseRead place page pieces) old new
base_asked place page pieces (Ok v) old new did counts =
    base_done place page pieces pieces old new (omega arith) did counts
base_asked place page pieces (Err e) old new (n, less, did) counts =
    base_done place page pieces n old new less did counts

-- how many
pub base_count : (place page pieces : ℕ) (result : Result (Unit {0}) ChipFault) (old new : Told) → pieces ≤ 16
    → PageAsked place page pieces result old new → AddsAtMost 16 old new
base_count place page pieces (Ok v) old new few did =
    (page_reads place page pieces, omega (arith, few, reads_length place page pieces), did.history)
base_count place page pieces (Err e) old new few (n, less, did) =
    (page_reads place page n, omega (arith, few, less, reads_length place page n), did.history)

-- one of numbers that are at most 16
pub few_at : (l : List ℕ) (k : ℕ) → All (λ n. n ≤ 16) l → slice_index l k ≤ 16
few_at l k all = elim (cases_lt k (length l)) [
  | inl less ↦ all k 0 less
  | inr past ↦ omega (arith, get_or_past l k 0 past)
]

-- ---- the log, and then the base sectors

log_there : (home page : ℕ) (spots : List (ℕ × ℕ)) (p s : ℕ) → IsPageLogRead home spots p s
    → IsLoadRead home spots page p s
log_there home page spots p s is = inl is

base_there : (home place page pieces : ℕ) (spots : List (ℕ × ℕ)) → place ≡ home → pieces ≤ 16
    → (p s : ℕ) → IsBaseRead place page pieces p s → IsLoadRead home spots page p s
base_there home place page pieces spots here few p s is =
    inr (is.0 ∙ here, (is.1.0, let end = is.1.1 in omega (arith, end, few)))

pub log_read : {home : ℕ} {old new : Told} (spots : List (ℕ × ℕ)) (page : ℕ)
    → ReadsAt (IsPageLogRead home spots) old new → ReadsAt (IsLoadRead home spots page) old new
log_read {home} {old} {new} spots page log =
    at_wider (IsPageLogRead home spots) (IsLoadRead home spots page) old new (log_there home page spots) log

pub both_read : {home place pieces : ℕ} {old mid new : Told} (spots : List (ℕ × ℕ)) (page : ℕ)
    → place ≡ home → pieces ≤ 16 → ReadsAt (IsPageLogRead home spots) old mid
    → ReadsAt (IsBaseRead place page pieces) mid new → ReadsAt (IsLoadRead home spots page) old new
both_read {home} {place} {pieces} {old} {mid} {new} spots page here few log base =
    at_then (IsLoadRead home spots page) old mid new
    (at_wider (IsPageLogRead home spots) (IsLoadRead home spots page) old mid
    (log_there home page spots) log)
    (at_wider (IsBaseRead place page pieces) (IsLoadRead home spots page) mid new
    (base_there home place page pieces spots here few) base)

-- ---- the allowed sectors

module _ {places u : ℕ} {c : Chart} {it : Layout} {t : Tables} {directory : Places}
    {overflow : OverflowLists} {status : StatusTable}
    (are : AreTables places c it t directory overflow status)
    (low : u < length directory.current) where
  pub within : u < it.count
  within =
      omega (
        arith,
        low,
        are.mirrored.mirrors.directory.units,
        ap (λ (d : Places). length d.current) are.mirrored.directory_is,
      )

  pub home_is : slice_index directory.current u ≡ (it.units u).home
  home_is =
      ap (λ (d : Places). slice_index d.current u) (sym are.mirrored.directory_is)
      ∙ are.mirrored.mirrors.directory.current u within

  spots_are : (page : ℕ) → page_spots directory overflow u page ≡ page_spots t.places t.overflow u page
  spots_are page =
      ap₂ (λ (d : Places) (o : OverflowLists). page_spots d o u page) (sym are.mirrored.directory_is) (sym are.mirrored.overflow_is)

  allowed_log : (page p s : ℕ)
      → IsPageLogRead (slice_index directory.current u) (page_spots directory overflow u page) p s
      → IsAllowed it u page p s
  allowed_log page p s (inl header) = inl (header.0 ∙ home_is, inl header.1)
  allowed_log page p s (inr listed) =
      let is = spot_of_page places c it t u page are.mirrored.mirrors within p s
      (subst (λ (l : List (ℕ × ℕ)). Contains l (p, s)) (spots_are page) listed) in
      inr (record { entry = is.entry; has = is.has; place = is.place; number = is.number; of_page = is.of_page })

  allowed_base : (page place pieces : ℕ) → place ≡ slice_index directory.current u
      → pieces ≡ slice_index (it.units u).pieces page → (p s : ℕ) → IsBaseRead place page pieces p s
      → IsAllowed it u page p s
  allowed_base page place pieces here count p s is =
      let least = is.1.0 in
      let end = is.1.1 in
      inl (
        is.0 ∙ here ∙ home_is,
        inr (s - (1 + page * 16), omega (arith, least, end, count), omega (arith, least)),
      )

  pub log_allowed : {old new : Told} (page : ℕ)
      → ReadsAt (IsPageLogRead (slice_index directory.current u) (page_spots directory overflow u page)) old new
      → ReadsAt (IsAllowed it u page) old new
  log_allowed {old} {new} page log =
      at_wider (IsPageLogRead (slice_index directory.current u) (page_spots directory overflow u page))
      (IsAllowed it u page) old new (allowed_log page) log

  pub both_allowed : {place pieces : ℕ} {old mid new : Told} (page : ℕ)
      → place ≡ slice_index directory.current u → pieces ≡ slice_index (it.units u).pieces page
      → ReadsAt (IsPageLogRead (slice_index directory.current u) (page_spots directory overflow u page)) old mid
      → ReadsAt (IsBaseRead place page pieces) mid new
      → ReadsAt (IsAllowed it u page) old new
  both_allowed {place} {pieces} {old} {mid} {new} page here count log base =
      at_then (IsAllowed it u page) old mid new (log_allowed page log)
      (at_wider (IsBaseRead place page pieces) (IsAllowed it u page) mid new
      (allowed_base page place pieces here count) base)

-- ---- the fault

-- the fault is handed on
pub fault_told : {o own : Option ChipFault} {e other : ChipFault} → o ≡ own → own ≡ Some e
    → other ≡ e → o ≡ Some other
fault_told is told same = is ∙ told ∙ ap (λ (f : ChipFault). Some f) (sym same)

-- ---- by a call's result

-- what is so where it is done
pub ok_then : {T E A B : Type 0} (r : Result T E) → OnOk r A → (A → B) → OnOk r B
ok_then (Ok v) a next = next a
ok_then (Err e) a next = tt

pub ok_always : {T E B : Type 0} (r : Result T E) → B → OnOk r B
ok_always (Ok v) b = b
ok_always (Err e) b = tt

-- after other reads a base page reads badly
page_cause : (place home page : ℕ) (old mid new : Told) (e : ChipFault) → place ≡ home → Counts old mid
    → IsPageCause place page e mid new → IsPageCause home page e old new
page_cause place home page old mid new ReadFault here counts cause = omega (arith, counts.reads, cause)
page_cause place home page old mid new Stopped here counts cause = absurd cause
page_cause place home page old mid new (Damaged p s stored computed) here counts cause =
    (cause.0 ∙ here, cause.1, cause.2)
page_cause place home page old mid new (Malformed p s) here counts cause = (cause.0 ∙ here, cause.1)
page_cause place home page old mid new (WornOut n) here counts cause = absurd cause

-- or a page has no room
pub rebuilt_cause : (place home page : ℕ) (spots : List (ℕ × ℕ)) (old mid new : Told) → place ≡ home
    → (r : Result (Unit {0}) ChipFault) → Counts old mid
    → IfErr r (λ e. IsRebuildCause place page e mid new) → IfErr r (λ e. IsLoadCause home spots page e old new)
rebuilt_cause place home page spots old mid new here (Ok v) counts cause = tt
rebuilt_cause place home page spots old mid new here (Err e) counts (inl base) =
    inr (page_cause place home page old mid new e here counts base)
rebuilt_cause place home page spots old mid new here (Err e) counts (inr is) =
    inl (subst (λ (f : ChipFault). IsCauseAt (IsPageLogRead home spots) f old new) (sym is) (inl (here, refl)))
