-- What a check answers, by what was found.
use Rattle.std.proofs.Common.{◌≡◌, ◌≢◌, ◌<◌, ◌≤◌, ℕ, true, false, Option, Some, None, Result, Ok, Err, inl, inr, refl, sym, ◌∙◌, ap, subst, arith}
use Rattle.std.specs.Prelude.{IfErr, length}
use Rattle.std.specs.Option.{option_or, option_map}
use Rattle.std.specs.Result.{IsErrAnd}
use Rattle.std.proofs.lemmas.Bool.{cases_Bool, false≢true}
use Rattle.chip_trait.specs.Story.{Contents}
use Rattle.chip_trait.specs.Told.{Told, Counts}
use Rattle.ipl_base.specs.declared.fault.ChipFault.{ChipFault}
use Rattle.ipl_base.specs.declared.fault.ChipFault.TheVariants.{ReadFault, Stopped, Damaged, Malformed, WornOut}
use Rattle.ipl_base.specs.declared.fault.ImageFault.{ImageFault}
use Rattle.ipl_base.specs.declared.fault.ImageFault.TheVariants.{Geometry, NotFormatted, Missing, Chip, Spent, NoSpare, TooManyNumbers}
use Rattle.ipl_base.specs.Places.{IsGeometry}
use Rattle.ipl_model.specs.State.{Map}
use Rattle.ipl_meaning.specs.Legible.{whole}
use Rattle.ipl_meaning.specs.Chart.{Chart, chart_of}
use Rattle.ipl_meaning.specs.Layout.{Layout}
use Rattle.ipl_meaning.specs.Mirrors.{Mirrors}
use Rattle.ipl_meaning.specs.Stands.{Stands}
use Rattle.ipl_meaning.specs.Tables.{Places, OverflowLists, StatusTable, Tables}
use Rattle.selective_merge.specs.Known.{KnowsPlaces}
use Rattle.ipl_meaning.specs.Opened.{tables_of}
use Rattle.ipl_meaning.specs.Chosen.{units_at}
use Rattle.ipl_meaning.specs.Faults.{is_image, is_told, shape_fault}
use Rattle.ipl_meaning.specs.OpeningLaws.{IsByteChart}
use Rattle.ipl_meaning.specs.LaidOut.{layout_in}
use Rattle.ipl_meaning.proofs.LaidLemmas.{laid_has_no_shape_fault, laid_says_its_units}
use Rattle.ipl_meaning.proofs.NoFaultLemmas.{no_shape_fault_is_laid}
use Rattle.page_rebuild.specs.Loaded.{AreTables}
use Rattle.restart.specs.Looks.{HasCauseFor}
use Rattle.image_check.specs.Checked.{IsReadingCause, IsCheckCause, IsUnwell, ChecksImage, check_fault, pages_fault, records_below, records_in}
use Rattle.image_check.specs.Tables.{AreTablesSized}
use Rattle.image_check.proofs.CountLemmas.{reading_then}
use Rattle.image_check.proofs.CheckLemmas.{checked_chips_stand, standing_chips_have_no_fault, records_are_counted}

-- ---- the tables

pub sized_by : {old new : Told} {directory : Places} {overflow : OverflowLists} {status : StatusTable} → IsGeometry old.places
    → Counts old new
    → ((counter : ℕ) × KnowsPlaces old.places (tables_of directory overflow status counter))
    → AreTablesSized new.places directory overflow
sized_by fits counts (counter, knows) = record {
  all = knows.suits.all ∙ sym counts.places;
  few = omega (arith, knows.suits.units.1, fits.1);
  units = knows.suits.overflow;
  sized = knows.suits.sized ∙ sym counts.places;
}

pub all_tables : {old new : Told} {c : Chart} {it : Layout} {directory : Places} {overflow : OverflowLists} {status : StatusTable}
    {counter : ℕ} → Counts old new → Mirrors old.places c it (tables_of directory overflow status counter)
    → AreTables new.places c it (tables_of directory overflow status counter) directory overflow status
all_tables {c = c} {it = it} {directory = directory} {overflow = overflow} {status = status} {counter = counter} counts mirrors = record {
  mirrored = record {
    mirrors = subst (λ (n : ℕ). Mirrors n c it (tables_of directory overflow status counter)) (sym counts.places) mirrors;
    directory_is = refl;
    overflow_is = refl;
  };
  status_is = refl;
}

some_none : {A : Type 0} {a : A} → Some a ≡ None → ⊥
some_none is = absurd (cc is)

-- ---- faults of how it is laid out

shape_first : (x : Contents) (places : ℕ) (fault : ImageFault) → shape_fault (chart_of x) places ≡ Some fault
    → check_fault x places ≡ Some fault
shape_first x places fault is =
    ap (λ (o : Option ImageFault). option_or o (option_map (λ f. Chip f) (pages_fault x (layout_in (chart_of x) places)))) is

-- and then it stands for no records
pub shape_unwell : (x : Contents) (places : ℕ) (fault : ImageFault) → shape_fault (chart_of x) places ≡ Some fault
    → IsUnwell x places fault
shape_unwell x places fault is = record {
  first = shape_first x places fault is;
  stray = λ m stands.
      let none = laid_has_no_shape_fault (chart_of x) places stands.layout stands.laid in
      some_none (sym is ∙ none);
}

-- a fault that is told of what the chip holds is one of the image
pub image_of : (e : ImageFault) → is_told false e ≡ true → is_image e ≡ true
image_of Geometry is = is
image_of NotFormatted is = is
image_of (Missing u) is = is
image_of (Chip ReadFault) is = is
image_of (Chip Stopped) is = is
image_of (Chip (Damaged p s stored computed)) is = is
image_of (Chip (Malformed p s)) is = is
image_of (Chip (WornOut n)) is = is
image_of Spent is = refl
image_of (NoSpare n) is = is
image_of TooManyNumbers is = absurd (false≢true is)

pub looked_tells : {old new : Told} {e : ImageFault} (x : Contents) (places : ℕ) (r : Result ℕ ImageFault)
    → IsErrAnd r (λ y. y ≡ e) → HasCauseFor false e old new
    → (is_image e ≡ true → shape_fault (chart_of x) places ≡ Some e) → ChecksImage x places r
looked_tells x places (Ok v) exit cause told = absurd exit
looked_tells {e = e} x places (Err y) exit cause told = λ other. elim (cases_Bool (is_told false e)) [
  | inl is ↦ shape_unwell x places y (told (image_of e is) ∙ ap (λ (f : ImageFault). Some f) (sym exit))
  | inr none ↦ absurd (other (exit ∙ (cause none).fault))
]

pub looked_so : {old new : Told} (e : ImageFault) → HasCauseFor false e old new → IsCheckCause e old new
looked_so Geometry cause = tt
looked_so NotFormatted cause = tt
looked_so (Missing u) cause = tt
looked_so (Chip ReadFault) cause = (cause refl).rose
looked_so (Chip Stopped) cause = (let is = (cause refl).fault in absurd (cc is))
looked_so (Chip (Damaged p s stored computed)) cause = (let is = (cause refl).fault in absurd (cc is))
looked_so (Chip (Malformed p s)) cause = tt
looked_so (Chip (WornOut n)) cause = (let is = (cause refl).fault in absurd (cc is))
looked_so Spent cause = (let is = (cause refl).fault in absurd (cc is))
looked_so (NoSpare n) cause = tt
looked_so TooManyNumbers cause = (let is = (cause refl).fault in absurd (cc is))

pub looked_cause : {old new : Told} {e : ImageFault} (r : Result ℕ ImageFault) → IsErrAnd r (λ y. y ≡ e)
    → HasCauseFor false e old new → IfErr r (λ y. IsCheckCause y old new)
looked_cause (Ok v) exit cause = tt
looked_cause {old} {new} {e} (Err y) exit cause =
    subst (λ (f : ImageFault). IsCheckCause f old new) (sym exit) (looked_so e cause)

-- ---- faults of pages

pub page_unwell : (x : Contents) (places : ℕ) (e : ChipFault) → IsByteChart places (chart_of x)
    → shape_fault (chart_of x) places ≡ None → pages_fault x (layout_in (chart_of x) places) ≡ Some e
    → IsUnwell x places (Chip e)
page_unwell x places e bytes shape pages =
    let all : check_fault x places ≡ Some (Chip e) = rw (shape, pages) refl in record {
      first = all;
      stray = λ m stands. some_none (sym all ∙ standing_chips_have_no_fault x places m bytes stands);
    }

pub counted_tells : (e : ChipFault) (x : Contents) (places : ℕ) (r : Result ℕ ImageFault) → IsErrAnd r (λ y. y ≡ Chip e)
    → IsByteChart places (chart_of x) → shape_fault (chart_of x) places ≡ None
    → (e ≢ ReadFault → pages_fault x (layout_in (chart_of x) places) ≡ Some e) → ChecksImage x places r
counted_tells e x places (Ok v) exit bytes shape told = absurd exit
counted_tells e x places (Err y) exit bytes shape told = λ other.
    subst (IsUnwell x places) (sym exit)
    (page_unwell x places e bytes shape (told (λ is. other (exit ∙ ap (λ (f : ChipFault). Chip f) is))))

pub counted_cause : (old mid new : Told) (e : ChipFault) (r : Result ℕ ImageFault) → IsErrAnd r (λ y. y ≡ Chip e)
    → Counts old mid → IsReadingCause e mid new → IfErr r (λ y. IsCheckCause y old new)
counted_cause old mid new e (Ok v) exit counts cause = tt
counted_cause old mid new e (Err y) exit counts cause =
    subst (λ (f : ImageFault). IsCheckCause f old new) (sym exit) (reading_then old mid new e counts cause)

-- ---- no fault

pub all_checked : (x : Contents) (places : ℕ) → IsByteChart places (chart_of x) → shape_fault (chart_of x) places ≡ None
    → pages_fault x (layout_in (chart_of x) places) ≡ None → (n : ℕ)
    → n ≡ records_below x (layout_in (chart_of x) places) (layout_in (chart_of x) places).count
    → (m : Map) × Stands places (chart_of x) (whole m) × (n ≡ records_in (units_at (chart_of x) places) m)
all_checked x places bytes shape pages n is =
    let c = chart_of x in
    let it = layout_in c places in
    let (m, stands) = checked_chips_stand x places bytes (rw (shape, pages) refl) in
    let units = laid_says_its_units c places it (no_shape_fault_is_laid c places bytes shape) in (
      m,
      stands,
      is ∙ ap (records_below x it) (sym units) ∙ records_are_counted x places m bytes stands,
    )
