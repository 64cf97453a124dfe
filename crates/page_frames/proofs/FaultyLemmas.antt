-- What a page's fault names, and pages that go on reading well.
use Rattle.std.proofs.Common.{◌≡◌, ◌≤◌, ◌<◌, ◌+◌, ◌-◌, ◌*◌, ◌⊎◌, ◌==◌, ℕ, zero, suc, Bool, true, false, List, Option, Some, None, slice_index, inl, inr, refl, sym, ◌∙◌, subst, arith}
use Rattle.std.specs.Prelude.{nat_lt, if◌then◌else◌}
use Rattle.std.specs.Option.{option_or}
use Rattle.std.proofs.Math.Nat.{le-max_left}
use Rattle.std.proofs.lemmas.Bool.{false≢true}
use Rattle.std.proofs.lemmas.Bool.Decides.{nat_tests}
use Rattle.std.proofs.lemmas.List.Elements.{All-get_or}
use Rattle.std.proofs.lemmas.Option.{same_Some}
use Rattle.std.proofs.Math.Path.{fun_ext}
use Rattle.chip_trait.specs.Story.{Contents}
use Rattle.ipl_base.specs.declared.limits.TheConstants.{PAGE_LEN}
use Rattle.ipl_base.specs.Sizes.{size_in_page, size_of_values}
use Rattle.ipl_base.specs.First.{first_below}
use Rattle.ipl_base.specs.declared.fault.ChipFault.{ChipFault}
use Rattle.ipl_base.specs.declared.fault.ChipFault.TheVariants.{Damaged, Malformed}
use Rattle.ipl_format.specs.Header.{IsCount}
use Rattle.ipl_format.specs.Place.{base_sector_of}
use Rattle.ipl_format.specs.Sector.{stored_sum, computed_sum, sector_in}
use Rattle.ipl_model.specs.State.{Map, State}
use Rattle.ipl_meaning.specs.Chart.{Chart, chart_of}
use Rattle.ipl_meaning.specs.Layout.{Shape, Layout, Laid, records_of}
use Rattle.ipl_meaning.specs.Mirrors.{Mirrors}
use Rattle.ipl_meaning.specs.Stands.{Shows, page_in}
use Rattle.ipl_meaning.specs.Tables.{Tables}
use Rattle.ipl_meaning.specs.Values.{Values}
use Rattle.ipl_meaning.proofs.RoomLemmas.{same_sizes}
use Rattle.ipl_meaning.proofs.OnceLemmas.{laid_once}
use Rattle.unit_io.specs.Faults.{is_damaged, is_piece, piece_fault, piece_fault_at, text_below, is_page_text, text_fault, page_fault}
use Rattle.unit_io.proofs.FaultLemmas.{undamaged}
use Rattle.number_set.specs.Numbers.{among}
use Rattle.selective_merge.specs.Faults.{page_fault_from}
use Rattle.selective_merge.specs.Merged.{source_in}
use Rattle.page_ops.specs.Pending.{Pendings, fill_by, peak_of}
use Rattle.page_ops.specs.Rebuilt.{full_fault}
use Rattle.page_ops.proofs.FillLemmas.{room_in_fill}
use Rattle.page_rebuild.specs.Taken.{last_changes}
use Rattle.page_rebuild.specs.Loaded.{base_fault, loaded_values, loaded_pending, fill_fault, load_fault}
use Rattle.page_rebuild.proofs.LoadedLemmas.{sound_pages_show_values}
use Rattle.store_laws.proofs.FitLemmas.{fits_whatever_the_map}
use Rattle.store_laws.proofs.PendingRoomLemmas.{loaded_pages_fit}
use Rattle.store_laws.specs.Advances.{Memory, MemoryFits, FitsOn}
use Rattle.page_frames.specs.Faulty.{IsOfPage, NamesBadPage}
use Rattle.page_frames.proofs.CompleteLemmas.{no_load_fault}
use Rattle.page_frames.proofs.SlotMapLemmas.{page_map, page_has}

-- ---- the first of several

or_some : {A : Type 0} (x y : Option A) (a : A) → option_or x y ≡ Some a
    → (x ≡ Some a) ⊎ (y ≡ Some a)
or_some None y a is = inr is
or_some (Some x) y a is = inl is

pub first_some : {A : Type 0} (f : ℕ → Option A) (n : ℕ) (a : A) → first_below f n ≡ Some a
    → (k : ℕ) × (k < n) × (f k ≡ Some a)
first_some f zero a is = absurd (cc is)
first_some f (suc n) a is = elim (or_some (first_below f n) (f n) a is) [
  | inl before ↦ let (k, low, here) = first_some f n a before in (k, omega (arith, low), here)
  | inr here ↦ (n, omega arith, here)
]

-- ---- what the fault names

fault_as : (place page : ℕ) (f e : ChipFault) → IsOfPage place page f → Some f ≡ Some e
    → IsOfPage place page e
fault_as place page f e of same = subst (IsOfPage place page) (same_Some f e same) of

piece_of_page : (place page i v u g serial : ℕ) (last : Bool) (bytes : List ℕ) (e : ChipFault)
    → i < 16 → piece_fault place (base_sector_of page i) v u g serial last bytes ≡ Some e
    → IsOfPage place page e
unfolding piece_fault
piece_of_page place page i v u g serial last bytes e few found =
    by_tests (is_damaged bytes) (is_piece v u g serial last (sector_in bytes)) refl found
  where
    by_tests : (a b : Bool) → is_damaged bytes ≡ a
        → (if a then Some (Damaged place (base_sector_of page i) (stored_sum bytes) (computed_sum bytes))
        else (if b then None else Some (Malformed place (base_sector_of page i)))) ≡ Some e
        → IsOfPage place page e
    by_tests true b damaged is =
        fault_as place page (Damaged place (base_sector_of page i) (stored_sum bytes) (computed_sum bytes)) e (
          refl,
          (omega arith, omega (arith, few)),
          λ same. false≢true (sym (undamaged bytes same) ∙ damaged),
        ) is
    by_tests false true damaged is = absurd (cc is)
    by_tests false false damaged is =
        fault_as place page (Malformed place (base_sector_of page i)) e
        (refl, inr (omega arith, omega (arith, few))) is

text_of_page : (place v page : ℕ) (text : List ℕ) (e : ChipFault)
    → text_fault place v page text ≡ Some e → IsOfPage place page e
text_of_page place v page text e found = by_test (is_page_text v text) found
  where
    by_test : (a : Bool) → (if a then None else Some (Malformed place (base_sector_of page 0))) ≡ Some e
        → IsOfPage place page e
    by_test true is = absurd (cc is)
    by_test false is =
        fault_as place page (Malformed place (base_sector_of page 0)) e
        (refl, inr (omega arith, omega arith)) is

-- the fault of a page of at most 16 pieces is of that page
pub page_of_page : (x : Contents) (place v u g page pieces : ℕ) (e : ChipFault) → pieces ≤ 16
    → page_fault x place v u g page pieces ≡ Some e → IsOfPage place page e
unfolding page_fault
page_of_page x place v u g page pieces e few found =
    elim (or_some (first_below (piece_fault_at x place v u g page pieces) pieces)
    (text_fault place v page (text_below (chart_of x) place page pieces)) e found) [
      | inl piece ↦
          let (i, low, is) = first_some (piece_fault_at x place v u g page pieces) pieces e piece in
          piece_of_page place page i v u g (page * 16 + i) (i + 1 == pieces)
          (x place (base_sector_of page i)) e (omega (arith, low, few)) is
      | inr text ↦ text_of_page place v page (text_below (chart_of x) place page pieces) e text
    ]

-- and so is that of values for which a page has no room
full_of_page : (place page : ℕ) (values : Values) (pending : Pendings) (e : ChipFault)
    → fill_fault place values pending ≡ Some e → IsOfPage place page e
full_of_page place page values pending e found =
    by_test (nat_lt PAGE_LEN (fill_by values pending)) found
  where
    by_test : (a : Bool) → (if a then Some (Malformed place 0) else None) ≡ Some e
        → IsOfPage place page e
    by_test true is = fault_as place page (Malformed place 0) e (refl, inl refl) is
    by_test false is = absurd (cc is)

-- that of a page of a unit is so at the unit's home
pub load_of_page : (places : ℕ) (x : Contents) (it : Layout) (active : ℕ → Bool) (t : Tables)
    (u page : ℕ) (e : ChipFault) → Mirrors places (chart_of x) it t → u < it.count → page < 15
    → load_fault x it active u page ≡ Some e → IsOfPage (it.units u).home page e
load_of_page places x it active t u page e mirrors low few found =
    let unit = it.units u in
    let counts = (mirrors.laid.each u low).counts in
    let values = loaded_values x it u page in
    let pending = loaded_pending it active u page in
    elim (or_some (base_fault x it u page) (fill_fault unit.home values pending) e found) [
      | inl base ↦ page_of_page x unit.home unit.head.version u unit.head.generation page
          (slice_index unit.pieces page) e
          (All-get_or IsCount unit.pieces page 0 (omega (arith, few, counts.fifteen)) counts.each)
          base
      | inr full ↦ full_of_page unit.home page values pending e full
    ]

-- so it names that page where the tables then have the unit there still, with the same sessions open
pub names_page : (Finds : ℕ → ℕ → ChipFault → Type 0) (places : ℕ) (x : Contents) (it : Layout)
    (t after : Tables) (u page : ℕ) (e : ChipFault) → Mirrors places (chart_of x) it t → u < it.count
    → page < 15 → after.active ≡ t.active
    → slice_index after.places.current u ≡ slice_index t.places.current u
    → load_fault x it (among t.active) u page ≡ Some e → Finds u page e
    → NamesBadPage Finds x it after e
names_page Finds places x it t after u page e mirrors low few alike stays wrong finds = record {
  unit = u;
  page = page;
  low = low;
  few = few;
  bad = λ none.
      let was = subst (λ (l : List ℕ). load_fault x it (among l) u page ≡ None) alike none in
      let clash = sym was ∙ wrong in cc clash;
  names = subst (λ (p : ℕ). IsOfPage p page e)
      (sym (stays ∙ mirrors.directory.current u low))
      (load_of_page places x it (among t.active) t u page e mirrors low few wrong);
  found = finds;
}

-- ---- a page that a merge moves

over_less : (few more : ℕ) → few ≤ more → nat_lt PAGE_LEN few ≡ true → nat_lt PAGE_LEN more ≡ true
over_less few more less over = grind (arith, nat_tests)

-- values that are more than a page holds are so with whatever is pending
full_with : (place : ℕ) (values : Values) (pending : Pendings) (e : ChipFault)
    → full_fault place values ≡ Some e → fill_fault place values pending ≡ Some e
full_with place values pending e found =
    by_test (nat_lt PAGE_LEN (size_of_values values)) refl found
  where
    fewer : size_of_values values ≤ fill_by values pending
    fewer = room_in_fill (λ slot. peak_of (pending slot)) values values (λ slot low.
        le-max_left (size_in_page (values slot)) (peak_of (pending slot) - 1))

    by_test : (a : Bool) → nat_lt PAGE_LEN (size_of_values values) ≡ a
        → (if a then Some (Malformed place 0) else None) ≡ Some e
        → fill_fault place values pending ≡ Some e
    by_test true over is =
        let more = over_less (size_of_values values) (fill_by values pending) fewer over in
        rw more is
    by_test false room is = absurd (cc is)

or_weaker : {A : Type 0} (x y z : Option A) (a : A) → (y ≡ Some a → z ≡ Some a)
    → option_or x y ≡ Some a → option_or x z ≡ Some a
or_weaker None y z a weaker is = weaker is
or_weaker (Some x) y z a weaker is = is

-- what is wrong with it there is wrong where it is read, whatever is pending
pub moved_fault : (x : Contents) (it : Layout) (active : ℕ → Bool) (u page : ℕ) (e : ChipFault)
    → page_fault_from x (source_in it u) page ≡ Some e → load_fault x it active u page ≡ Some e
moved_fault x it active u page e found =
    let home = (it.units u).home in
    let values = loaded_values x it u page in
    let pending = loaded_pending it active u page in
    or_weaker (base_fault x it u page) (full_fault home values) (fill_fault home values pending) e
    (full_with home values pending e) found

-- ---- pages go on reading well

-- a page without a fault shows some values, and so those of some map
sound_shows : (x : Contents) (it : Layout) (active : ℕ → Bool) (u page : ℕ)
    → load_fault x it active u page ≡ None
    → (m : Map) × Shows (chart_of x) it.committed u (it.units u) page (page_in m u page)
sound_shows x it active u page none =
    let (now, shows, room) = (sound_pages_show_values x it active u page).0 none in
    let m = page_map u page now in (
      m,
      record {
        base = shows.base;
        reads = shows.reads;
        says = λ slot less. page_has u page now slot less ∙ shows.says slot less;
        room = subst (λ (n : ℕ). n ≤ PAGE_LEN)
            (sym (same_sizes (page_in m u page) now (λ slot less. page_has u page now slot less)))
            shows.room;
      },
    )

-- what is shown by one layout of a chart is shown by the other
shows_other : {places u page : ℕ} {c : Chart} {it new : Layout} {now : Values}
    → Laid places c it → Laid places c new → u < it.count
    → Shows c it.committed u (it.units u) page now → Shows c new.committed u (new.units u) page now
shows_other {places} {u} {page} {c} {it} {new} {now} laid other low shows =
    let one = laid_once places c it new laid other in
    subst (λ (committed : ℕ → Bool). Shows c committed u (new.units u) page now)
    (fun_ext one.committed)
    (subst (λ (s : Shape). Shows c it.committed u s page now) (one.units u low) shows)

-- and has room by the other where it has by the one
room_other : {places u : ℕ} {c : Chart} {it new : Layout} (page : ℕ) (now : Values)
    (active : ℕ → Bool) → Laid places c it → Laid places c new → u < it.count
    → fill_by now (loaded_pending it active u page) ≤ PAGE_LEN
    → fill_by now (loaded_pending new active u page) ≤ PAGE_LEN
room_other {places} {u} {c} {it} {new} page now active laid other low room =
    subst (λ (s : Shape). fill_by now (last_changes active page (records_of s.log)) ≤ PAGE_LEN)
    ((laid_once places c it new laid other).units u low) room

-- after a call that keeps each state, a page that had no fault has none
pub still_sound : (places : ℕ) (x y : Contents) (it new : Layout) (before after : Memory)
    (state : State) (u page : ℕ) → u < it.count → page < 15
    → ((s : State) → MemoryFits places (chart_of x) it before s
    → FitsOn places (chart_of x) it s.map (chart_of y) after s)
    → MemoryFits places (chart_of x) it before state → Mirrors places (chart_of y) new after.tables
    → load_fault x it (among after.tables.active) u page ≡ None
    → load_fault y new (among after.tables.active) u page ≡ None
still_sound places x y it new before after state u page low few keeps fits mirrors none =
    let active = among after.tables.active in
    let (m, shows) = sound_shows x it active u page none in
    let other : State = record state { map = m } in
    let values = page_in m u page in
    let on = keeps other (fits_whatever_the_map places (chart_of x) it before.tables before.frames
    before.slots state m fits) in
    let shown = on.shows.pages u page low few shows in
    let theirs : u < on.layout.count = omega (arith, low, on.shows.count) in
    let room = loaded_pages_fit places (chart_of y) on.layout after.tables after.frames after.slots other
    u page values on.fits theirs few shown in
    let laid = on.fits.mirrors.laid in
    no_load_fault y new active u page values (shows_other laid mirrors.laid theirs shown)
    (room_other page values active laid mirrors.laid theirs room)
