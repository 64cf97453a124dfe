-- A listing of a chip: what its end leaves, and what a note leaves of that.
use Rattle.std.proofs.Common.{◌≡◌, ◌≢◌, ◌*◌, ◌/◌, ℕ, true, false, List, [], ◌∷◌, ◌++◌, Option, Some, None, Ok, Err, inl, inr, refl, sym, ◌∙◌, ap, ap₂, subst, arith}
use Rattle.std.specs.Prelude.{All, nat_le, ◌&&◌}
use Rattle.std.proofs.lemmas.List.Elements.{All-head, All-tail}
use Rattle.chip_trait.specs.declared.event.Event.TheVariants.{Read, Program, Erase, Worn, Barrier, Said}
use Rattle.chip_trait.specs.Lawful.{IsLawful}
use Rattle.chip_trait.specs.Story.{Story, Contents}
use Rattle.chip_trait.specs.Told.{Told, Rose}
use Rattle.ipl_base.specs.Places.{IsGeometry}
use Rattle.ipl_base.specs.declared.fault.ChipFault.{ChipFault}
use Rattle.ipl_base.specs.declared.fault.ChipFault.TheVariants.{ReadFault, Stopped, Damaged, Malformed, WornOut}
use Rattle.ipl_base.specs.declared.fault.ImageFault.{ImageFault}
use Rattle.ipl_base.specs.declared.fault.ImageFault.TheVariants as image
use Rattle.ipl_meaning.specs.Chart.{chart_of}
use Rattle.ipl_meaning.specs.Stands.{Stands}
use Rattle.unit_io.specs.Reads.{OfContents}
use Rattle.unit_io.specs.ReadsAt.{Anywhere, IsReadAt, ReadsAt}
use Rattle.script_run.specs.Run.{IsSaidOr, SaysLines}
use Rattle.command_line.specs.declared.end.End.{End}
use Rattle.command_line.specs.declared.end.End.TheVariants.{Words, Chip, OutOfMemory, Script, Output, TooLong}
use Rattle.ipl_cli.specs.Adds.{AddsLawful}
use Rattle.ipl_cli.specs.Ending.{Ending, but_noted}
use Rattle.script_run.proofs.RunLemmas.{says_all, says_none}
use Rattle.chip_trait.specs.Told.{Beside}
use Rattle.ipl_base.specs.First.{first_below}
use Rattle.ipl_meaning.specs.Chart.{Chart}
use Rattle.ipl_meaning.specs.Chosen.{units_at}
use Rattle.ipl_meaning.specs.Faults.{is_image, is_told, shape_fault}
use Rattle.ipl_meaning.specs.LaidOut.{layout_in}
use Rattle.ipl_meaning.specs.OpeningLaws.{IsByteChart}
use Rattle.ipl_meaning.proofs.LaidLemmas.{laid_has_no_shape_fault, laid_says_its_units}
use Rattle.ipl_meaning.proofs.NoFaultLemmas.{no_shape_fault_is_laid}
use Rattle.restart.specs.Looks.{HasCauseFor}
use Rattle.image_check.specs.Checked.{IsCheckCause, IsUnwell, fault_of_unit, pages_fault}
use Rattle.image_check.proofs.EndLemmas.{image_of, looked_so, looked_tells, page_unwell, shape_unwell}
use Rattle.record_reader.specs.Reading.{page_fault}
use Rattle.record_reader.proofs.PageLemmas.{first_page_fault}
use Rattle.unit_io.proofs.ReadsAtLemmas.{at_none}
use Rattle.command_line.specs.declared.asked.Request.TheVariants.{Records}
use Rattle.ipl_cli.specs.Top.{EndCause, RequestCause}
use Rattle.std.proofs.lemmas.Bool.{cases_Bool}
use Rattle.std.proofs.lemmas.Bool.Decides.{nat_tests}
use Rattle.ipl_cli.specs.Lists.{AllLines, FindsBadPage, IsFoundFault, ListLeaves, ListedCause, ListsLooked, ListsRecords, ListsUnwell, SaysAll, SaysAmidReads, first_fault_of, lines_and_end, listing}
use Rattle.ipl_cli.proofs.LineLemmas.{amid_reads, amid_then, rose_later}

-- ---- a note says nothing

module _ (old mid : Told) (noted : Option (List ℕ)) where
  records_noted : {Part : List (List ℕ) → List (List ℕ) → Type 0} → ListsRecords Part old mid
      → ListsRecords Part old (but_noted mid noted)
  records_noted l = record {
    said = l.said;
    listed = l.listed;
    says = l.says;
    part = l.part;
    noted = ap (λ (t : Told). but_noted t noted) l.noted;
  }

  unwell_noted : (e : ImageFault) → ListsUnwell e old mid → ListsUnwell e old (but_noted mid noted)
  unwell_noted e l = record {
    all = λ other. records_noted {Part = AllLines} (l.all other);
    part = records_noted {Part = SaysLines} l.part;
    unwell = l.unwell;
    other = λ misfit. ap (λ (t : Told). but_noted t noted) (l.other misfit);
  }

  pub list_left : (ending : Ending) → ListLeaves ending old mid → ListLeaves ending old (but_noted mid noted)
  list_left (Ok u) l = record { lists = records_noted {Part = AllLines} l.lists; sound = l.sound }
  list_left (Err Words) l = absurd l
  list_left (Err (Chip e)) l = unwell_noted e l
  list_left (Err OutOfMemory) l = ap (λ (t : Told). but_noted t noted) l
  list_left (Err Script) l = absurd l
  list_left (Err Output) l = records_noted {Part = SaysLines} l
  list_left (Err TooLong) l = absurd l

-- ---- events

lawful_amid : (added base : Story) → All (IsSaidOr (IsReadAt Anywhere)) added → IsLawful base → IsLawful (added ++ base)
lawful_amid [] base each is = is
lawful_amid (Read p s ∷ added) base each is = lawful_amid added base (All-tail (IsSaidOr (IsReadAt Anywhere)) (Read p s) added each) is
lawful_amid (Program p s bytes ∷ added) base each is = absurd (All-head (IsSaidOr (IsReadAt Anywhere)) (Program p s bytes) added each)
lawful_amid (Erase p ∷ added) base each is = absurd (All-head (IsSaidOr (IsReadAt Anywhere)) (Erase p) added each)
lawful_amid (Worn p ∷ added) base each is = absurd (All-head (IsSaidOr (IsReadAt Anywhere)) (Worn p) added each)
lawful_amid (Barrier ∷ added) base each is = absurd (All-head (IsSaidOr (IsReadAt Anywhere)) Barrier added each)
lawful_amid (Said piece ∷ added) base each is = lawful_amid added base (All-tail (IsSaidOr (IsReadAt Anywhere)) (Said piece) added each) is

pub amid_lawful : {said : List (List ℕ)} (old new : Told) → SaysAmidReads said old new → AddsLawful old new
amid_lawful old new amid = record {
  added = amid.added;
  history = amid.history;
  lawful = λ base is. lawful_amid amid.added base amid.only is;
}

-- ---- a chip that was looked over

-- the lines of so many names, behind the looking over
records_behind : {Part : List (List ℕ) → List (List ℕ) → Type 0} (names : ℕ) (old mid new : Told) → ReadsAt Anywhere old mid
    → OfContents old (λ x. names ≡ 960 * units_at (chart_of x) old.places) → SaysAll Part names mid new → ListsRecords Part old new
records_behind {Part} names old mid new reads all l = record {
  said = l.said;
  listed = new;
  says = amid_then old mid new (amid_reads old mid reads) l.says;
  part = λ x told m stands apart.
      subst (λ (n : ℕ). Part (lines_and_end m n) l.said) (all x told)
      (l.part x (reads.contents ∙ told) m (subst (λ (p : ℕ). Stands p (chart_of x) m) (sym reads.counts.places) stands) apart);
  noted = refl;
}

part_of_all : (old new : Told) → ListsRecords AllLines old new → ListsRecords SaysLines old new
part_of_all old new l = record {
  said = l.said;
  listed = l.listed;
  says = l.says;
  part = λ x told m stands apart.
      subst (λ (lines : List (List ℕ)). SaysLines lines l.said) (l.part x told m stands apart) (says_all l.said);
  noted = l.noted;
}

module _ (names : ℕ) (old mid new : Told) (reads : ReadsAt Anywhere old mid) (fits : IsGeometry old.places)
    (bytes : OfContents old (λ x. IsByteChart old.places (chart_of x)))
    (shape : OfContents old (λ x. shape_fault (chart_of x) old.places ≡ None))
    (all : OfContents old (λ x. names ≡ 960 * units_at (chart_of x) old.places)) where
  -- the first page at fault is that of a check
  pages_too : (x : Contents) → old.contents ≡ Some x
      → first_fault_of mid.places names x ≡ pages_fault x (layout_in (chart_of x) old.places)
  pages_too x told =
      let c = chart_of x in
      let it = layout_in c old.places in
      let units : units_at c old.places ≡ it.count =
      laid_says_its_units c old.places it (no_shape_fault_is_laid c old.places (bytes x told) (shape x told)) in
      let pages : names / 64 ≡ 15 * units_at c old.places = omega (arith, all x told) in
      ap₂ (λ p n. first_below (page_fault x p) n) reads.counts.places pages
      ∙ first_page_fault x old.places (units_at c old.places)
      ∙ ap (first_below (fault_of_unit x it)) units

  unwell_page : (f : ChipFault) → OfContents mid (λ x. Some f ≡ first_fault_of mid.places names x)
      → OfContents old (λ x. IsUnwell x old.places (image.Chip f))
  unwell_page f first x told =
      page_unwell x old.places f (bytes x told) (shape x told)
      (sym (first x (reads.contents ∙ told) ∙ pages_too x told))

  bad_page : (end : End) → FindsBadPage names end mid new → ListLeaves (Err end) old new
  bad_page end found =
      let lists = records_behind {Part = AllLines} names old mid new reads all found.lists in
      subst (λ (e : End). ListLeaves (Err e) old new) (sym found.end_is) (record {
        all = λ other. lists;
        part = part_of_all old new lists;
        unwell = λ other x told. unwell_page found.fault found.first x told;
        other = λ misfit. absurd (misfit fits);
      })

  cut_short : (end : End) → SaysAll SaysLines names mid new → ListedCause end mid new → ListLeaves (Err end) old new
  cut_short Words l c = absurd c
  cut_short (Chip fault) l c = record {
    all = λ other. absurd (other c.0);
    part = records_behind {Part = SaysLines} names old mid new reads all l;
    unwell = λ other. absurd (other c.0);
    other = λ misfit. absurd (misfit fits);
  }
  cut_short OutOfMemory l c = absurd c
  cut_short Script l c = absurd c
  cut_short Output l c = records_behind {Part = SaysLines} names old mid new reads all l
  cut_short TooLong l c = absurd c

  pub looked_leaves : (result : Ending) → ListsLooked names result mid new → ListLeaves result old new
  looked_leaves (Ok u) l = record {
    lists = records_behind {Part = AllLines} names old mid new reads all l.0;
    sound = λ x told.
        let pages : pages_fault x (layout_in (chart_of x) old.places) ≡ None =
        sym (l.1 x (reads.contents ∙ told) ∙ pages_too x told) in
        rw (shape x told, pages) refl;
  }
  looked_leaves (Err end) (inl cut) = cut_short end cut.0 cut.1
  looked_leaves (Err end) (inr found) = bad_page end found

  bad_cause : (end : End) → FindsBadPage names end mid new → RequestCause Records end old new
  bad_cause end found =
      subst (λ (e : End). RequestCause Records e old new) (sym found.end_is) (record {
        cause = by_fault found.fault found.found;
        unwell = λ other x told. unwell_page found.fault found.first x told;
      })
    where
      by_fault : (f : ChipFault) → IsFoundFault f mid new → IsCheckCause (image.Chip f) old new
      by_fault ReadFault is = absurd (is.found refl)
      by_fault Stopped is = absurd is.cause
      by_fault (Damaged p s stored computed) is = is.cause
      by_fault (Malformed p s) is = tt
      by_fault (WornOut n) is = absurd is.cause

  cut_cause : (end : End) → ListedCause end mid new → RequestCause Records end old new
  cut_cause Words c = absurd c
  cut_cause (Chip fault) c = record {
    cause = subst (λ (f : ImageFault). IsCheckCause f old new) (sym c.0)
        (rose_later old.read_faults mid.read_faults new.read_faults reads.counts.reads c.1);
    unwell = λ other. absurd (other c.0);
  }
  cut_cause OutOfMemory c = absurd c
  cut_cause Script c = absurd c
  cut_cause Output c = subst (λ (b : Beside). Rose b.say_faults new.beside.say_faults) reads.counts.beside c
  cut_cause TooLong c = absurd c

  pub looked_cause : (result : Ending) → ListsLooked names result mid new → EndCause (Some Records) result old new
  looked_cause (Ok u) l = tt
  looked_cause (Err end) (inl cut) = cut_cause end cut.1
  looked_cause (Err end) (inr found) = bad_cause end found

  amid_looked : (result : Ending) → ListsLooked names result mid new → (said : List (List ℕ)) × SaysAmidReads said mid new
  amid_looked (Ok u) l = (l.0.said, l.0.says)
  amid_looked (Err end) (inl cut) = (cut.0.said, cut.0.says)
  amid_looked (Err end) (inr found) = (found.lists.said, found.lists.says)

  pub looked_amid : (result : Ending) → ListsLooked names result mid new → (said : List (List ℕ)) × SaysAmidReads said old new
  looked_amid result l =
      let (said, says) = amid_looked result l in (
        said,
        amid_then old mid new (amid_reads old mid reads) says,
      )

-- ---- a chip that couldn't be looked over

-- where the chip is at fault as it is laid out, it stands for no records, whichever pages
vacuous : {Part : List (List ℕ) → List (List ℕ) → Type 0} (old new : Told) (fault : ImageFault) → ReadsAt Anywhere old new
    → OfContents old (λ x. shape_fault (chart_of x) old.places ≡ Some fault) → ListsRecords Part old new
vacuous old new fault reads is = record {
  said = [];
  listed = new;
  says = amid_reads old new reads;
  part = λ x told m stands apart.
      let none = laid_has_no_shape_fault (chart_of x) old.places stands.layout stands.laid in
      absurd (let both = sym (is x told) ∙ none in cc);
  noted = refl;
}

misfit_fault : (c : Chart) (places : ℕ) → ¬ IsGeometry places → shape_fault c places ≡ Some image.Geometry
misfit_fault c places misfit = elim (cases_Bool (nat_le 5 places && nat_le places 1028)) [
  | inl is ↦ absurd (misfit (grind (arith, is, nat_tests)))
  | inr none ↦ rw none refl
]

pub misfit_leaves : (old : Told) → ¬ IsGeometry old.places → ListLeaves (Err (Chip image.Geometry)) old old
misfit_leaves old misfit =
    let is = λ (x : Contents) (told : old.contents ≡ Some x). misfit_fault (chart_of x) old.places misfit in record {
      all = λ other. vacuous {Part = AllLines} old old image.Geometry (at_none Anywhere old) is;
      part = vacuous {Part = SaysLines} old old image.Geometry (at_none Anywhere old) is;
      unwell = λ other x told. shape_unwell x old.places image.Geometry (is x told);
      other = λ outside. refl;
    }

pub misfit_cause : (old : Told) → ¬ IsGeometry old.places → EndCause (Some Records) (Err (Chip image.Geometry)) old old
misfit_cause old misfit = record {
  cause = tt;
  unwell = λ other x told. shape_unwell x old.places image.Geometry (misfit_fault (chart_of x) old.places misfit);
}

module _ (old new : Told) (fault : ImageFault) (reads : ReadsAt Anywhere old new) (fits : IsGeometry old.places)
    (cause : HasCauseFor false fault old new)
    (told_so : OfContents old (λ x. is_image fault ≡ true → shape_fault (chart_of x) old.places ≡ Some fault)) where
  unwell_so : fault ≢ image.Chip ReadFault → OfContents old (λ x. IsUnwell x old.places fault)
  unwell_so other x told = looked_tells x old.places (Err fault) refl cause (told_so x told) other

  shape_so : fault ≢ image.Chip ReadFault → OfContents old (λ x. shape_fault (chart_of x) old.places ≡ Some fault)
  shape_so other x told = elim (cases_Bool (is_told false fault)) [
    | inl is ↦ told_so x told (image_of fault is)
    | inr none ↦ absurd (other (cause none).fault)
  ]

  -- nothing was said
  missed : ListsRecords SaysLines old new
  missed = record {
    said = [];
    listed = new;
    says = amid_reads old new reads;
    part = λ x told m stands apart. says_none (listing m (units_at (chart_of x) old.places));
    noted = refl;
  }

  pub unopened_leaves : ListLeaves (Err (Chip fault)) old new
  unopened_leaves = record {
    all = λ other. vacuous {Part = AllLines} old new fault reads (shape_so other);
    part = missed;
    unwell = unwell_so;
    other = λ misfit. absurd (misfit fits);
  }

  pub unopened_cause : EndCause (Some Records) (Err (Chip fault)) old new
  unopened_cause = record { cause = looked_so fault cause; unwell = unwell_so }
