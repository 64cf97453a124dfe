-- What a frame has that was loaded.
use Rattle.std.proofs.Common.{true, ◌≡◌, ◌<◌, ◌≤◌, ℕ, suc, Bool, List, [], ◌∷◌, ◌++◌, length, map, slice_index, Option, Some, None, inl, inr, refl, sym, ◌∙◌, ap, ap₂, subst, arith}
use Rattle.std.specs.Prelude.{◌↔◌, if◌then◌else◌}
use Rattle.std.specs.List.{All}
use Rattle.std.specs.Option.{option_or}
use Rattle.std.proofs.lemmas.Bool.{cases_lt, lt-ltb, le-ltb}
use Rattle.std.proofs.lemmas.List.Elements.{All-filter}
use Rattle.chip_trait.specs.Story.{Contents}
use Rattle.ipl_meaning.specs.Legible.{Legible}
use Rattle.ipl_base.specs.declared.limits.TheConstants.{PAGE_LEN}
use Rattle.ipl_base.specs.declared.fault.ChipFault.{ChipFault}
use Rattle.ipl_base.specs.declared.fault.ChipFault.TheVariants.{Malformed}
use Rattle.ipl_base.proofs.FirstLemmas.{or_none}
use Rattle.ipl_format.specs.Page.{Slots, value_in}
use Rattle.ipl_format.specs.Record.{Record}
use Rattle.log_records.proofs.RecordsLemmas.{records_list}
use Rattle.ipl_meaning.specs.Chart.{Chart, chart_of}
use Rattle.ipl_meaning.specs.Values.{Values, after_records}
use Rattle.ipl_meaning.specs.Layout.{Entry, Shape, Layout, Laid, IsEntry, ReadsWell, records_of as log_records_of}
use Rattle.ipl_meaning.specs.Stands.{Shows, Stands, page_in}
use Rattle.ipl_meaning.specs.Tables.{Places, OverflowLists, StatusTable, Tables}
use Rattle.ipl_meaning.proofs.OnceLemmas.{laid_once, shows_once}
use Rattle.ipl_meaning.proofs.RoomLemmas.{same_sizes}
use Rattle.ipl_meaning.proofs.SwitchLemmas.{same_applied}
use Rattle.number_set.specs.Numbers.{among}
use Rattle.number_set.proofs.AmongLemmas.{among_from}
use Rattle.unit_io.specs.Faults.{page_fault, text_below, HoldsPage}
use Rattle.unit_io.proofs.HeldLemmas.{held_pages_read_well, sound_pages_are_held, spells_text}
use Rattle.unit_log.specs.declared.scratch.LogSector.{LogSector}
use Rattle.unit_log.specs.declared.live.UnitHead.{UnitHead}
use Rattle.unit_log.specs.Kept.{kept_of, records_kept}
use Rattle.ipl_meaning.specs.Masks.{of_page, is_of_page}
use Rattle.ipl_meaning.proofs.MaskLemmas.{page_applied, page_last}
use Rattle.unit_log.specs.Paged.{IsLiveOf}
use Rattle.page_ops.specs.Frames.{FrameView, values_in}
use Rattle.page_ops.specs.Pending.{Pendings, fill_by}
use Rattle.page_ops.specs.Rebuilt.{with_records}
use Rattle.page_ops.proofs.TextLemmas.{texts_say_values}
use Rattle.page_rebuild.specs.Taken.{pending_of, last_changes, AreTaken}
use Rattle.page_rebuild.specs.Loaded.{IsLoaded, HasPageOf, AreTables, IsKnown, WholeUnitsAreKnown, base_fault, loaded_values, loaded_pending, fill_fault, load_fault, SoundPagesShowValues}
use Rattle.page_rebuild.proofs.ReadLemmas.{within, home_is}
use Rattle.page_rebuild.proofs.RoomLemmas.{same_fills, values_in_fill}

-- the records of log sectors that were kept are those of the log
kept_records : (c : Chart) (places u home generation : ℕ) (log : List Entry)
    → All (IsEntry c places u home generation) log
    → records_kept (map kept_of log) ≡ log_records_of log
kept_records c places u home generation [] each = refl
kept_records c places u home generation (e ∷ log) each =
    let first : IsEntry c places u home generation e = each 0 e (omega arith) in
    ap₂ (λ (a b : List Record). a ++ b) (records_list e.sector.version e.records e.sector.payload
    first.records)
    (kept_records c places u home generation log (λ i d low. each (suc i) d (omega (arith, low))))

-- ---- the values that a page is to have

-- where the base page reads well, they are its slots with the records done to them
pub loaded_slot : (x : Contents) (it : Layout) (u page : ℕ) (slots : Slots)
    → ReadsWell (chart_of x) u (it.units u) page slots → (slot : ℕ) → slot < 64
    → loaded_values x it u page slot
    ≡ after_records it.committed page slot (log_records_of (it.units u).log) (value_in slots slot)
loaded_slot x it u page slots reads slot low =
    let unit = it.units u in
    let text = text_below (chart_of x) unit.home page (slice_index unit.pieces page) in
    ap (λ v. after_records it.committed page slot (log_records_of unit.log) v)
    (texts_say_values unit.head.version text slots
    (spells_text x unit.home unit.head.version u unit.head.generation page
    (slice_index unit.pieces page) slots
    ((held_pages_read_well (chart_of x) u unit page slots).1 reads)) slot low)

no_fill : (place : ℕ) (values : Values) (pending : Pendings) → fill_by values pending ≤ PAGE_LEN
    → fill_fault place values pending ≡ None
no_fill place values pending room =
    ap (λ (b : Bool). if b then Some (Malformed place 0) else None)
    (le-ltb PAGE_LEN (fill_by values pending) room)

fill_told : (place : ℕ) (values : Values) (pending : Pendings) → PAGE_LEN < fill_by values pending
    → fill_fault place values pending ≡ Some (Malformed place 0)
fill_told place values pending over =
    ap (λ (b : Bool). if b then Some (Malformed place 0) else None)
    (lt-ltb PAGE_LEN (fill_by values pending) over)

has_room : (place : ℕ) (values : Values) (pending : Pendings)
    → fill_fault place values pending ≡ None → fill_by values pending ≤ PAGE_LEN
has_room place values pending none = elim (cases_lt PAGE_LEN (fill_by values pending)) [
  | inl over ↦ absurd (is_some (sym none ∙ fill_told place values pending over))
  | inr room ↦ room
]
  where
    is_some : {X : Type 0} {v : X} → None ≡ Some v → ⊥
    is_some e = cc

module _ (x : Contents) (it : Layout) (active : ℕ → Bool) (u page : ℕ) where
  -- the fault of the base page comes first
  pub base_first : (fault : ChipFault) → base_fault x it u page ≡ Some fault
      → load_fault x it active u page ≡ Some fault
  base_first fault is = ap (λ (o : Option ChipFault). option_or o
      (fill_fault (it.units u).home (loaded_values x it u page) (loaded_pending it active u page))) is

  full_next : base_fault x it u page ≡ None → load_fault x it active u page
      ≡ fill_fault (it.units u).home (loaded_values x it u page) (loaded_pending it active u page)
  full_next none = ap (λ (o : Option ChipFault). option_or o
      (fill_fault (it.units u).home (loaded_values x it u page) (loaded_pending it active u page))) none

  -- and then that of a page which is full
  pub full_then : base_fault x it u page ≡ None
      → PAGE_LEN < fill_by (loaded_values x it u page) (loaded_pending it active u page)
      → load_fault x it active u page ≡ Some (Malformed (it.units u).home 0)
  full_then none over = full_next none
      ∙ fill_told _ (loaded_values x it u page) (loaded_pending it active u page) over

  -- and then none
  pub none_then : base_fault x it u page ≡ None
      → fill_by (loaded_values x it u page) (loaded_pending it active u page) ≤ PAGE_LEN
      → load_fault x it active u page ≡ None
  none_then none room = full_next none
      ∙ no_fill _ (loaded_values x it u page) (loaded_pending it active u page) room

pub sound_pages_show_values : SoundPagesShowValues
sound_pages_show_values x it active u page = (shown, λ (now, shows, room). sound now shows room)
  where
    held_law : base_fault x it u page ≡ None
        ↔ ((slots : Slots) × HoldsPage (chart_of x) (it.units u).home (it.units u).head.version u
        (it.units u).head.generation page (slice_index (it.units u).pieces page) slots)
    held_law = sound_pages_are_held x (it.units u).home (it.units u).head.version u
        (it.units u).head.generation page (slice_index (it.units u).pieces page)

    shown : load_fault x it active u page ≡ None
        → (now : Values) × Shows (chart_of x) it.committed u (it.units u) page now
        × (fill_by now (loaded_pending it active u page) ≤ PAGE_LEN)
    shown none =
        let (base, full) =
        or_none (base_fault x it u page)
        (fill_fault (it.units u).home (loaded_values x it u page)
        (loaded_pending it active u page)) none in
        let (slots, held) = held_law.0 base in
        let reads = (held_pages_read_well (chart_of x) u (it.units u) page slots).0 held in
        let room = has_room (it.units u).home (loaded_values x it u page)
        (loaded_pending it active u page) full in (
          loaded_values x it u page,
          record {
            base = slots;
            reads = reads;
            says = loaded_slot x it u page slots reads;
            room = omega (
              arith,
              room,
              values_in_fill (loaded_values x it u page) (loaded_pending it active u page),
            );
          },
          room,
        )

    sound : (now : Values) → Shows (chart_of x) it.committed u (it.units u) page now
        → fill_by now (loaded_pending it active u page) ≤ PAGE_LEN
        → load_fault x it active u page ≡ None
    sound now shows room =
        none_then x it active u page
        (held_law.1 (
          shows.base,
          (held_pages_read_well (chart_of x) u (it.units u) page shows.base).1 shows.reads,
        ))
        (omega (
          arith,
          room,
          same_fills (loaded_values x it u page) now (loaded_pending it active u page)
              (loaded_pending it active u page)
              (λ slot low. loaded_slot x it u page shows.base shows.reads slot low
              ∙ sym (shows.says slot low))
              (λ slot low. refl),
        ))

-- ---- what is known of a unit

-- by tables that mirror the chart, which numbers are committed
pub numbers_are : {places : ℕ} {c : Chart} {it : Layout} {t : Tables} {directory : Places} {overflow : OverflowLists}
    {status : StatusTable} → AreTables places c it t directory overflow status
    → (tid : ℕ) → it.committed tid ≡ among status.numbers tid
numbers_are {it = it} {t = t} are tid =
    among_from t.status.numbers tid (it.committed tid) (are.mirrored.mirrors.status.numbers tid)
    ∙ ap (λ (s : StatusTable). among s.numbers tid) are.status_is

-- and what is known of a page whose log was read
module _ {places u place : ℕ} {c : Chart} {it : Layout} {t : Tables} {directory : Places}
    {overflow : OverflowLists} {status : StatusTable} {head : UnitHead} {kept : List LogSector}
    (are : AreTables places c it t directory overflow status)
    (low : u < length directory.current) (here : place ≡ slice_index directory.current u)
    (page : ℕ) (live : IsLiveOf it u page head kept) where
  pub count_is : slice_index head.pieces page ≡ slice_index (it.units u).pieces page
  count_is = ap (λ (l : List ℕ). slice_index l page) live.pieces

  log_is : records_kept kept ≡ log_records_of (of_page page (it.units u).log)
  log_is =
      ap records_kept live.log
      ∙ kept_records c places u (it.units u).home (it.units u).head.generation (of_page page (it.units u).log)
      (All-filter (is_of_page page) (IsEntry c places u (it.units u).home (it.units u).head.generation) (it.units u).log
      (are.mirrored.mirrors.laid.each u (within are low)).log.each)

  values_shown : (slot : ℕ) (value : Option (List ℕ))
      → after_records (among status.numbers) page slot (records_kept kept) value
      ≡ after_records it.committed page slot (log_records_of (it.units u).log) value
  values_shown slot value =
      let log = log_records_of (it.units u).log in
      ap (λ (l : List Record). after_records (among status.numbers) page slot l value) log_is
      ∙ page_applied (among status.numbers) page slot (it.units u).log value
      ∙ sym (same_applied it.committed (among status.numbers) page slot log value
      (λ i d within. sym (numbers_are are _)))

  pub known_by : IsKnown it place u page head kept status
  known_by = record {
    place_is = here ∙ home_is are low;
    version = live.version;
    generation = live.generation;
    pieces = live.pieces;
    values = values_shown;
    pending = λ active slot.
        ap (λ (l : List Record). last_changes active page l slot) log_is
        ∙ ap pending_of (page_last active page slot (it.units u).log None);
  }

-- by the log sectors that are the same
pub known_as : {it : Layout} {place u page : ℕ} {head : UnitHead} {kept same : List LogSector} {status : StatusTable}
    → same ≡ kept → IsKnown it place u page head kept status → IsKnown it place u page head same status
known_as {it} {place} {u} {page} {head} {kept} {same} {status} is known =
    subst (λ (l : List LogSector). IsKnown it place u page head l status) (sym is) known

-- of each page, where all of its log was read
pub whole_units_are_known : WholeUnitsAreKnown
whole_units_are_known places c it place u head kept status whole page =
    let log = log_records_of (it.units u).log in
    let log_is : records_kept kept ≡ log =
    ap records_kept whole.live.log
    ∙ kept_records c places u (it.units u).home (it.units u).head.generation (it.units u).log
    (whole.laid.each u whole.within).log.each in record {
      place_is = whole.place_is;
      version = whole.live.version;
      generation = whole.live.generation;
      pieces = whole.live.pieces;
      values = λ slot value.
          ap (λ (l : List Record). after_records (among status.numbers) page slot l value) log_is
          ∙ sym (same_applied it.committed (among status.numbers) page slot log value
          (λ i d within. sym (whole.numbers _)));
      pending = λ active slot. ap (λ (l : List Record). last_changes active page l slot) log_is;
    }

-- ---- a frame that was loaded

module _ {u place page : ℕ} {it : Layout} {status : StatusTable} {head : UnitHead}
    {kept : List LogSector} (known : IsKnown it place u page head kept status) where
  pub fault_is : (x : Contents)
      → page_fault x place head.version u head.generation page (slice_index head.pieces page)
      ≡ base_fault x it u page
  fault_is x = rw (known.place_is, known.version, known.generation, known.pieces) refl

module _ {u place page : ℕ} {c : Chart} {it : Layout} {status : StatusTable} {head : UnitHead}
    {kept : List LogSector} (known : IsKnown it place u page head kept status) where
  reads_well : (base : Slots)
      → HoldsPage c place head.version u head.generation page (slice_index head.pieces page) base
      → ReadsWell c u (it.units u) page base
  reads_well base held =
      (held_pages_read_well c u (it.units u) page base).0
      (rw (known.place_is, known.version, known.generation, known.pieces) at held)

  -- a frame whose page was read
  module _ (f : FrameView)
      (held : HoldsPage c place head.version u head.generation page (slice_index head.pieces page)
      f.page) where
    pub loaded : {g : FrameView} (active : List ℕ)
        → fill_by (with_records (among status.numbers) page (records_kept kept) (values_in f))
        (last_changes (among active) page (records_kept kept)) ≤ PAGE_LEN
        → AreTaken (among status.numbers) (among active) page (records_kept kept) f g
        → IsLoaded c it (among active) u page g
    loaded {g} active room taken =
        let values = with_records (among status.numbers) page (records_kept kept) (values_in f) in
        record {
          shows = record {
            base = f.page;
            reads = reads_well f.page held;
            says = λ slot less. taken.values slot less ∙ known.values slot (value_in f.page slot);
            room = omega (
              arith,
              room,
              same_sizes (values_in g) values taken.values,
              values_in_fill values (last_changes (among active) page (records_kept kept)),
            );
          };
          pending = λ slot less. taken.pending slot less ∙ known.pending (among active) slot;
        }

    -- the values of its page with the records that were kept are those that the layout says, and so is
    -- what is pending
    pub fill_is : (x : Contents) (active : ℕ → Bool) → c ≡ chart_of x
        → fill_by (with_records (among status.numbers) page (records_kept kept) (values_in f))
        (last_changes active page (records_kept kept))
        ≡ fill_by (loaded_values x it u page) (loaded_pending it active u page)
    fill_is x active same =
        same_fills (with_records (among status.numbers) page (records_kept kept) (values_in f))
        (loaded_values x it u page) (last_changes active page (records_kept kept))
        (loaded_pending it active u page)
        (λ slot low. known.values slot (value_in f.page slot)
        ∙ sym (loaded_slot x it u page f.page
        (subst (λ (d : Chart). ReadsWell d u (it.units u) page f.page) same (reads_well f.page held))
        slot low))
        (λ slot low. known.pending active slot)

    -- what is told where the base page reads well
    module _ (x : Contents) (active : ℕ → Bool) (same : c ≡ chart_of x)
        (sound : page_fault x place head.version u head.generation page
        (slice_index head.pieces page) ≡ None) where
      pub full_is_told : PAGE_LEN < fill_by
          (with_records (among status.numbers) page (records_kept kept) (values_in f))
          (last_changes active page (records_kept kept))
          → load_fault x it active u page ≡ Some (Malformed place 0)
      full_is_told over =
          full_then x it active u page (sym (fault_is known x) ∙ sound)
          (omega (arith, over, fill_is x active same))
          ∙ ap (λ (p : ℕ). Some (Malformed p 0)) (sym known.place_is)

      pub none_is_told : fill_by
          (with_records (among status.numbers) page (records_kept kept) (values_in f))
          (last_changes active page (records_kept kept)) ≤ PAGE_LEN
          → load_fault x it active u page ≡ None
      none_is_told room =
          none_then x it active u page (sym (fault_is known x) ∙ sound)
          (omega (arith, room, fill_is x active same))

-- whatever map the chart stands for, the frame has that map's page
pub page_of_map : {places u page : ℕ} {c : Chart} {it : Layout} {m : Legible} {active : ℕ → Bool}
    {f : FrameView} → Laid places c it → u < it.count → page < 15 → Stands places c m
    → m.pages.reads u page ≡ true → IsLoaded c it active u page f → HasPageOf m.map u page f
page_of_map {places} {u} {page} {c} {it} {m} {active} {f} laid low few stands reads is = λ slot less.
    let one = laid_once places c it stands.layout laid stands.laid in
    let unit = stands.layout.units u in
    let theirs = rw one.count at low in
    let mine : Shows c it.committed u unit page (values_in f) =
    subst (λ (s : Shape). Shows c it.committed u s page (values_in f)) (one.units u low) is.shows in
    shows_once c it.committed stands.layout.committed u unit page (values_in f) (page_in m.map u page)
    one.committed mine (stands.says.pages u page theirs few reads) slot less
