-- What agreement gives, and what keeps it.
use Rattle.std.proofs.Common.{◌≡◌, ℕ, eqb, ◌&&◌, None, inl, inr, refl, sym, arith}
use Rattle.std.proofs.lemmas.Bool.{cases_Bool, and_parts, eqb-true, eq-eqb, ne_eqb}
use Rattle.chip_trait.specs.declared.event.Event.TheVariants.{Erase}
use Rattle.chip_trait.specs.Told.{History, adds}
use Rattle.chip_trait.proofs.ClosedLemmas.{held_program}
use Rattle.ipl_format.specs.Sector.{sector_in}
use Rattle.ipl_format.proofs.SectorLemmas.{blank_says_nothing}
use Rattle.ipl_meaning.specs.Rests.{now, IsUntouched}
use Rattle.ipl_meaning.specs.Steps.{SameBut}
use Rattle.ipl_meaning.specs.Tables.{IsCountedClean}
use Rattle.ipl_meaning.specs.AgreeingLaws.{TidyAfterPrograms, TidyAfterMoves, TidyAfterBarriers, TidyAfterErases, TidyAfterWorns, ProgramsAgree, BarriersAgree, ReadsAgree, SaysAgree, ErasesAgree, WornsAgree}
use Rattle.ipl_meaning.proofs.IdleFollowLemmas.{counted_apart, tables_follow_idle_places}

pub tidy_after_programs : TidyAfterPrograms
tidy_after_programs h t after p s bytes tidy shrink q n counted_clean =
    let (was, apart) = shrink q n counted_clean in
    elim (cases_Bool (eqb p q && eqb s n)) [
      | inl here ↦ let both = and_parts _ _ here in absurd (apart (sym (eqb-true _ _ both.0)) (sym (eqb-true _ _ both.1)))
      | inr elsewhere ↦ rw elsewhere (tidy q n was)
    ]

pub tidy_after_moves : TidyAfterMoves
tidy_after_moves h t after p s from bytes tidy moves clean q n counted_clean =
    let (was, apart) = moves q n counted_clean in
    let fresh : IsUntouched h q n = elim was [ inl before ↦ tidy q n before | inr (at, above, small) ↦ rw at (clean n above small) ] in
    elim (cases_Bool (eqb p q && eqb s n)) [
      | inl here ↦ let both = and_parts _ _ here in absurd (apart (sym (eqb-true _ _ both.0)) (sym (eqb-true _ _ both.1)))
      | inr elsewhere ↦ rw elsewhere fresh
    ]

pub tidy_after_barriers : TidyAfterBarriers
tidy_after_barriers h t tidy q n counted_clean =
    let (is_blank, closed, sound) = tidy q n counted_clean in (is_blank, refl, rw sound refl)

pub tidy_after_erases : TidyAfterErases
tidy_after_erases h t p tidy none q n counted_clean = elim (cases_Bool (eqb p q)) [
  | inl here ↦ let same : p ≡ q = eqb-true _ _ here in absurd (none n (rw (← same) at counted_clean))
  | inr elsewhere ↦ rw elsewhere (tidy q n counted_clean)
]

pub tidy_after_worns : TidyAfterWorns
tidy_after_worns h t p tidy none q n counted_clean = elim (cases_Bool (eqb p q)) [
  | inl here ↦ let same : p ≡ q = eqb-true _ _ here in absurd (none n (rw (← same) at counted_clean))
  | inr elsewhere ↦ rw elsewhere (tidy q n counted_clean)
]

pub programs_agree : ProgramsAgree
programs_agree places h new after p s bytes sector spelled mirrors tidy = record {
  mirrors = rw (held_program sector_in h.start h.story p s bytes sector spelled) mirrors;
  tidy = tidy;
}

pub barriers_agree : BarriersAgree
barriers_agree places h it t agrees = record { mirrors = agrees.mirrors; tidy = tidy_after_barriers h t agrees.tidy }

pub reads_agree : ReadsAgree
reads_agree places h it t p s agrees = record { mirrors = agrees.mirrors; tidy = agrees.tidy }

pub says_agree : SaysAgree
says_agree places h it t piece agrees = record { mirrors = agrees.mirrors; tidy = agrees.tidy }

-- what is held after an erase is held elsewhere as before
erased_elsewhere : (h : History) (p : ℕ) → SameBut p (now h) (now (adds (Erase p) h))
erased_elsewhere h p q s apart = rw (ne_eqb p q (λ is. apart (sym is))) refl

erased_there : (h : History) (p : ℕ) → now (adds (Erase p) h) p 0 ≡ None
erased_there h p = rw (eq-eqb p p refl) blank_says_nothing

pub erases_agree : ErasesAgree
erases_agree places h it t p agrees idle not_overflow =
    let none : (s : ℕ) → ¬ IsCountedClean t p s = λ s counted_clean. counted_apart places (now h) it t p agrees.mirrors idle not_overflow p s counted_clean refl in
    record {
      mirrors = tables_follow_idle_places places (now h) it t p (now (adds (Erase p) h)) t.next agrees.mirrors idle not_overflow (erased_elsewhere h p) (erased_there h p) (omega arith);
      tidy = tidy_after_erases h t p agrees.tidy none;
    }

pub worns_agree : WornsAgree
worns_agree places h it t p agrees idle not_overflow = record {
  mirrors = agrees.mirrors;
  tidy = tidy_after_worns h t p agrees.tidy (λ s counted_clean. counted_apart places (now h) it t p agrees.mirrors idle not_overflow p s counted_clean refl);
}
