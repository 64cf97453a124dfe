-- A page that was read, and what a chip stands for.
use Rattle.std.proofs.Common.{◌≡◌, ◌≢◌, ◌<◌, ◌≤◌, ◌+◌, ◌*◌, ◌/◌, ◌%◌, ℕ, zero, suc, ◌==◌, true, false, List, [], Option, Some, None, Result, Ok, Err, inl, inr, length, refl, sym, ◌∙◌, ap, ap₂, subst, arith}
use Rattle.std.specs.FinMap.{get}
use Rattle.ipl_base.specs.declared.fault.ChipFault.{ChipFault}
use Rattle.ipl_base.specs.declared.fault.ChipFault.TheVariants.{ReadFault, Stopped, Damaged, Malformed, WornOut}
use Rattle.chip_trait.specs.Story.{Contents}
use Rattle.chip_trait.specs.Told.{Told, Counts}
use Rattle.ipl_format.specs.Page.{value_in}
use Rattle.ipl_meaning.specs.Chart.{chart_of}
use Rattle.ipl_meaning.specs.LaidOut.{layout_in}
use Rattle.ipl_meaning.specs.Layout.{Shape, Layout, Laid, records_of}
use Rattle.ipl_meaning.specs.Legible.{Legible}
use Rattle.ipl_meaning.specs.Stands.{Shows, Stands, page_in}
use Rattle.ipl_meaning.specs.Laws.{AreOneLayout}
use Rattle.ipl_meaning.proofs.OnceLemmas.{laid_once}
use Rattle.ipl_meaning.proofs.SwitchLemmas.{same_applied}
use Rattle.number_set.specs.Numbers.{among}
use Rattle.page_ops.specs.Frames.{FrameView, values_in}
use Rattle.page_rebuild.specs.Loaded.{IsLoaded, loaded_pending}
use Rattle.page_rebuild.proofs.LoadedLemmas.{page_of_map, sound_pages_show_values}
use Rattle.image_check.specs.Checked.{fault_of_page, fault_of_unit}
use Rattle.ipl_base.specs.First.{first_below}
use Rattle.ipl_base.proofs.FirstLemmas.{first_alike}
use Rattle.std.specs.Option.{option_or, option_map_or}
use Rattle.std.proofs.lemmas.Bool.{false≢true}
use Rattle.std.proofs.lemmas.Bool.Decides.{nat_tests}
use Rattle.ipl_meaning.specs.Chosen.{units_at}
use Rattle.ipl_meaning.proofs.LaidLemmas.{laid_says_its_units}
use Rattle.image_check.proofs.NothingLemmas.{nothing_pending, fills_alone}
use Rattle.unit_io.specs.Faults.{TellsChipFault}
use Rattle.ipl_base.specs.declared.fault.ImageFault.{ImageFault}
use Rattle.std.specs.Prelude.{IfNone, IfSome, OnOk}
use Rattle.ipl_meaning.specs.Faults.{greatest_found}
use Rattle.ipl_meaning.specs.Mirrors.{Mirrors}
use Rattle.ipl_meaning.specs.Opened.{tables_of}
use Rattle.selective_merge.specs.Known.{KnowsPlaces}
use Rattle.unit_io.specs.Reads.{OfContents}
use Rattle.unit_log.specs.Live.{SuitChip}
use Rattle.unit_log.specs.Paged.{IsPageLogRead}
use Rattle.unit_log.specs.declared.scratch.LogSector.{LogSector}
use Rattle.page_rebuild.specs.Loaded.{IsLoadCause}
use Rattle.image_check.specs.Checked.{IsReadingCause}
use Rattle.image_check.proofs.CountLemmas.{log_reads, rebuild_reads}
use Rattle.std.specs.Result.{IsErrAnd}
use Rattle.page_rebuild.specs.Loaded.{AreTables}
use Rattle.record_reader.specs.declared.reader.Reader.{Reader}
use Rattle.record_reader.specs.Reading.{AnswersName, HasPage, IsMadeFor, Reads, names_of, page_fault}

-- nothing is wrong with a page of which the chip stands for records
module _ (x : Contents) (places : ℕ) (it : Layout) (laid : Laid places (chart_of x) it) (m : Legible)
    (stands : Stands places (chart_of x) m) (u page : ℕ) (low : u < it.count) (few : page < 15)
    (reads : m.pages.reads u page ≡ true) where
  alike : AreOneLayout it stands.layout
  alike = laid_once places (chart_of x) it stands.layout laid stands.laid

  theirs : Shows (chart_of x) stands.layout.committed u (it.units u) page (page_in m.map u page)
  theirs =
      subst (λ (s : Shape). Shows (chart_of x) stands.layout.committed u s page (page_in m.map u page))
      (sym (alike.units u low)) (stands.says.pages u page (omega (arith, low, alike.count)) few reads)

  shown : Shows (chart_of x) it.committed u (it.units u) page (page_in m.map u page)
  shown = record {
    base = theirs.base;
    reads = theirs.reads;
    says = λ slot less.
        theirs.says slot less
        ∙ sym (same_applied it.committed stands.layout.committed page slot (records_of (it.units u).log)
        (value_in theirs.base slot) (λ i d within. sym (alike.committed _)));
    room = theirs.room;
  }

  pub page_is_sound : fault_of_page x it u page ≡ None
  page_is_sound = (sound_pages_show_values x it (among []) u page).1 (
    page_in m.map u page,
    shown,
    omega (
      arith,
      shown.room,
      fills_alone (page_in m.map u page) (loaded_pending it (among []) u page) (nothing_pending it u page),
    ),
  )

-- and a page of which it is known not to read well isn't read
pub rotten_is_unread : (x : Contents) {places : ℕ} {it : Layout} {u page : ℕ} {f : FrameView} {m : Legible} → Laid places (chart_of x) it
    → u < it.count → page < 15 → Stands places (chart_of x) m → m.pages.rotten u page ≡ true
    → IsLoaded (chart_of x) it (among []) u page f → ⊥
rotten_is_unread x {places} {it} {u} {page} {f} {m} laid low few stands rotten is =
    let one = laid_once places (chart_of x) it stands.layout laid stands.laid in
    let mine = subst (λ (s : Shape). Shows (chart_of x) it.committed u s page (values_in f)) (one.units u low) is.shows in
    stands.says.rotten u page mine.base (omega (arith, low, one.count)) few rotten mine.reads

-- what a get answers, whose page was brought in
pub answers_held : (x : Contents) (places name : ℕ) (frame : FrameView) (m : Legible) (value : Option (List ℕ))
    → Laid places (chart_of x) (layout_in (chart_of x) places)
    → name / 960 < (layout_in (chart_of x) places).count → Stands places (chart_of x) m
    → HasPage x places (name / 64) frame → value ≡ values_in frame (name % 64)
    → AnswersName m name (Ok value)
answers_held x places name frame m value laid low stands has is =
    let unit : name / 64 / 15 ≡ name / 960 = omega arith in
    let loaded = subst (λ (u : ℕ). IsLoaded (chart_of x) (layout_in (chart_of x) places) (among []) u (name / 64 % 15) frame) unit has.loaded in
    record {
      reads = λ well.
          is ∙ (page_of_map laid low (omega arith) stands well loaded (name % 64) (omega arith)
          ∙ ap (get m.map) (omega arith));
      rotten = λ badly. rotten_is_unread x laid low (omega arith) stands badly loaded;
    }

-- a fault that isn't that of the page is a failed read
missed : (o : Option ChipFault) (e : ChipFault) → TellsChipFault {T = Unit {0}} o (Err e) → o ≡ None → e ≡ ReadFault
missed o ReadFault tells none = refl
missed o Stopped tells none = absurd (let is = sym none ∙ tells (λ same. cc) in cc)
missed o (Damaged p s stored computed) tells none = absurd (let is = sym none ∙ tells (λ same. cc) in cc)
missed o (Malformed p s) tells none = absurd (let is = sym none ∙ tells (λ same. cc) in cc)
missed o (WornOut n) tells none = absurd (let is = sym none ∙ tells (λ same. cc) in cc)

-- or whose page wasn't
pub answers_fault : (x : Contents) (places name : ℕ) (m : Legible) (fault : ChipFault)
    → Laid places (chart_of x) (layout_in (chart_of x) places)
    → name / 960 < (layout_in (chart_of x) places).count → Stands places (chart_of x) m
    → TellsChipFault {T = Unit {0}} (page_fault x places (name / 64)) (Err fault) → AnswersName m name (Err fault)
answers_fault x places name m fault laid low stands tells = record {
  reads = λ well.
      let unit : name / 64 / 15 ≡ name / 960 = omega arith in
      let sound = page_is_sound x places (layout_in (chart_of x) places) laid m stands (name / 960) (name / 64 % 15) low (omega arith) well in
      let none : page_fault x places (name / 64) ≡ None =
      ap (λ (u : ℕ). fault_of_page x (layout_in (chart_of x) places) u (name / 64 % 15)) unit ∙ sound in
      missed (page_fault x places (name / 64)) fault tells none;
  rotten = λ badly. tt;
}

-- ---- a chip that was looked over

-- what is known of it is known where as many places hold the same
pub reads_still : (old new : Told) (reader : Reader) → new.places ≡ old.places → new.contents ≡ old.contents
    → Reads old reader → Reads new reader
reads_still old new reader places same r = record {
  made = subst (λ (n : ℕ). IsMadeFor n reader) (sym places) r.made;
  suits = subst (λ (n : ℕ). SuitChip n reader.directory reader.overflow) (sym places) r.suits;
  mirrors = λ x told. subst (λ (n : ℕ). (counter : ℕ) × Mirrors n (chart_of x) (layout_in (chart_of x) n)
      (tables_of reader.directory reader.overflow reader.status counter)) (sym places) (r.mirrors x (sym same ∙ told));
  held = λ page is x told. subst (λ (n : ℕ). HasPage x n page reader.frame) (sym places) (r.held page is x (sym same ∙ told));
}

pub looked_over : (result : Result (Unit {0}) ImageFault) (old new : Told) (reader : Reader) → Counts old new
    → new.contents ≡ old.contents → reader.held ≡ None → IsMadeFor old.places reader
    → OnOk result ((counter : ℕ) × KnowsPlaces old.places (tables_of reader.directory reader.overflow reader.status counter))
    → OnOk result (OfContents old (λ x. Mirrors old.places (chart_of x) (layout_in (chart_of x) old.places)
    (tables_of reader.directory reader.overflow reader.status (greatest_found (chart_of x) old.places + 1))))
    → OnOk result (Reads new reader)
looked_over (Err fault) old new reader counts same none made known mirrors = tt
looked_over (Ok u) old new reader counts same none made (counter, knows) mirrors = reads_still old new reader counts.places same (record {
  made = made;
  suits = record { size = knows.suits.all; units = knows.suits.overflow; sized = knows.suits.sized };
  mirrors = λ x told. (greatest_found (chart_of x) old.places + 1, mirrors x told);
  held = λ page is. absurd (let other = sym none ∙ is in cc);
})

-- the tables that it was found to have
pub tables_are : (told : Told) (x : Contents) (reader : Reader) (counter : ℕ)
    → Mirrors told.places (chart_of x) (layout_in (chart_of x) told.places) (tables_of reader.directory reader.overflow reader.status counter)
    → AreTables told.places (chart_of x) (layout_in (chart_of x) told.places)
    (tables_of reader.directory reader.overflow reader.status counter) reader.directory reader.overflow reader.status
tables_are told x reader counter mirrors = record {
  mirrored = record { mirrors = mirrors; directory_is = refl; overflow_is = refl };
  status_is = refl;
}

-- a page that is held
pub is_held : (o : Option ℕ) (page : ℕ) → option_map_or (λ held. held == page) o false ≡ true → o ≡ Some page
is_held None page is = absurd (false≢true is)
is_held (Some held) page is = ap (λ (n : ℕ). Some n) (grind (arith, nat_tests, is))

-- another page is held, or none
pub reads_by : (old new : Told) (before : Reader) (log : List LogSector) (frame : FrameView) (held : Option ℕ)
    → new.places ≡ old.places → new.contents ≡ old.contents
    → ((page : ℕ) → held ≡ Some page → OfContents old (λ x. HasPage x old.places page frame)) → Reads old before
    → Reads new (record before { log = log; frame = frame; held = held })
reads_by old new before log frame held places same has r =
    reads_still old new (record before { log = log; frame = frame; held = held }) places same (record {
      made = record { scratch = r.made.scratch; directory = r.made.directory; overflow = r.made.overflow; kept = r.made.kept };
      suits = record { size = r.suits.size; units = r.suits.units; sized = r.suits.sized };
      mirrors = r.mirrors;
      held = has;
    })

-- none is
pub none_held : (told : Told) (frame : FrameView) (page : ℕ) → None ≡ Some page → OfContents told (λ x. HasPage x told.places page frame)
none_held told frame page is = absurd (cc is)

-- this one is
pub one_held : (told : Told) (frame : FrameView) (page other : ℕ) → OfContents told (λ x. HasPage x told.places page frame)
    → Some page ≡ Some other → OfContents told (λ x. HasPage x told.places other frame)
one_held told frame page other has is =
    let same : page ≡ other = cc is in subst (λ (n : ℕ). OfContents told (λ x. HasPage x told.places n frame)) same has

-- ---- a call that fails

pub fault_exit : {T : Type 0} (e : ChipFault) (fault : Option ChipFault) (r : Result T ChipFault)
    → IsErrAnd r (λ y. y ≡ e) → (e ≢ ReadFault → fault ≡ Some e) → TellsChipFault fault r
fault_exit e fault (Ok v) exit told = absurd exit
fault_exit e fault (Err y) exit told = λ other.
    told (λ same. other (exit ∙ same)) ∙ ap (λ (f : ChipFault). Some f) (sym exit)

pub answers_exit : (m : Legible) (name : ℕ) (e : ChipFault) (r : Result (Option (List ℕ)) ChipFault)
    → IsErrAnd r (λ y. y ≡ e) → AnswersName m name (Err e) → AnswersName m name r
answers_exit m name e (Ok v) exit answers = absurd exit
answers_exit m name e (Err y) exit answers = subst (λ (f : ChipFault). AnswersName m name (Err f)) (sym exit) answers

pub load_reads : (old new : Told) (home page : ℕ) (spots : List (ℕ × ℕ)) (e : ChipFault) → IsLoadCause home spots page e old new
    → IsReadingCause e old new
load_reads old new home page spots e (inl log) = log_reads (IsPageLogRead home spots) old new e log
load_reads old new home page spots e (inr base) = rebuild_reads old new home page e (inl base)

-- a copy of bytes that have room is all of them
pub copied : (r : Option (List ℕ)) (bytes : List ℕ) → IfSome r (λ v. (v ≡ bytes) × (length bytes ≤ 464)) → IfNone r (464 < length bytes)
    → length bytes ≤ 464 → r ≡ Some bytes
copied (Some v) bytes some none short = ap (λ (b : List ℕ). Some b) some.0
copied None bytes some none short = absurd (omega (arith, none, short))

-- ---- names

-- how many names there are
pub names_are : (told : Told) (reader : Reader) → Reads told reader
    → OfContents told (λ x. names_of reader ≡ 960 * units_at (chart_of x) told.places)
names_are told reader r = λ x is.
    let (counter, mirrors) = r.mirrors x is in
    let units : units_at (chart_of x) told.places ≡ (layout_in (chart_of x) told.places).count =
    laid_says_its_units (chart_of x) told.places (layout_in (chart_of x) told.places) mirrors.laid in
    omega (arith, mirrors.directory.units, units)

-- the first page of which something is wrong is that of the first unit of which something is
first_split : {A : Type 0} (f : ℕ → Option A) (k j : ℕ)
    → first_below f (k + j) ≡ option_or (first_below f k) (first_below (λ i. f (k + i)) j)
first_split f k zero =
    let same : k + 0 ≡ k = omega arith in
    ap (first_below f) same ∙ sym (or_nothing (first_below f k))
  where
    or_nothing : {A : Type 0} (o : Option A) → option_or o None ≡ o
    or_nothing None = refl
    or_nothing (Some a) = refl
first_split f k (suc j) =
    let more : k + suc j ≡ suc (k + j) = omega arith in
    ap (first_below f) more
    ∙ ap (λ o. option_or o (f (k + j))) (first_split f k j)
    ∙ or_assoc (first_below f k) (first_below (λ i. f (k + i)) j) (f (k + j))
  where
    or_assoc : {A : Type 0} (a b c : Option A) → option_or (option_or a b) c ≡ option_or a (option_or b c)
    or_assoc None b c = refl
    or_assoc (Some x) b c = refl

first_blocks : {A : Type 0} (f : ℕ → Option A) (g : ℕ → ℕ → Option A) (n : ℕ)
    → ((u i : ℕ) → i < 15 → f (15 * u + i) ≡ g u i) → first_below f (15 * n) ≡ first_below (λ u. first_below (g u) 15) n
first_blocks f g zero same = refl
first_blocks f g (suc n) same =
    let more : 15 * suc n ≡ 15 * n + 15 = omega arith in
    ap (first_below f) more ∙ first_split f (15 * n) 15
    ∙ ap₂ (λ a b. option_or a b) (first_blocks f g n same) (first_alike (λ i. f (15 * n + i)) (g n) 15 (λ i low. same n i low))

pub first_page_fault : (x : Contents) (places units : ℕ)
    → first_below (page_fault x places) (15 * units)
    ≡ first_below (fault_of_unit x (layout_in (chart_of x) places)) units
first_page_fault x places units =
    first_blocks (page_fault x places) (fault_of_page x (layout_in (chart_of x) places)) units (λ u i low.
    let unit : (15 * u + i) / 15 ≡ u = omega (arith, low) in
    let page : (15 * u + i) % 15 ≡ i = omega (arith, low) in
    ap₂ (fault_of_page x (layout_in (chart_of x) places)) unit page)
