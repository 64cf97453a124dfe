-- The commit sectors, as the status takes them in.
use Rattle.std.proofs.Common.{◌≡◌, ◌<◌, length, ℕ, zero, suc, max, false, List, [], Option, Some, Result, Ok, Err, inl, inr, refl, sym, ◌∙◌, ap, subst, arith}
use native.Mathlib.Numerals.{unary_clauses}
use Rattle.std.specs.Result.{IsErrAnd}
use Rattle.std.specs.List.{Contains}
use Rattle.std.proofs.lemmas.Option.{same_Some}
use Rattle.chip_trait.specs.Told.{Told}
use Rattle.ipl_base.specs.declared.fault.ChipFault.{ChipFault}
use Rattle.ipl_base.specs.declared.fault.ChipFault.TheVariants.{ReadFault, Stopped, Damaged, Malformed, WornOut}
use Rattle.ipl_base.specs.declared.fault.ImageFault.{ImageFault}
use Rattle.ipl_base.specs.declared.fault.ImageFault.TheVariants.{Chip}
use Rattle.ipl_meaning.specs.Chart.{Chart}
use Rattle.ipl_meaning.specs.Layout.{Laid}
use Rattle.ipl_meaning.specs.Tables.{StatusTable}
use Rattle.unit_io.specs.ReadsAt.{Anywhere, ReadsAt, IsCauseAt}
use Rattle.ipl_base.specs.First.{first_below}
use Rattle.ipl_meaning.specs.First.{greatest_below}
use Rattle.ipl_meaning.specs.Chosen.{Winner, head_of, status_at}
use Rattle.ipl_meaning.specs.Live.{sectors, noted_at}
use Rattle.ipl_meaning.specs.Faults.{TellsImageFault, noted_fault, noted_number, greatest_of_notes}
use Rattle.ipl_meaning.specs.LaidOut.{committed_numbers, layout_in}
use Rattle.ipl_meaning.proofs.HeaderLemmas.{chosen_are_status}
use Rattle.number_set.specs.Numbers.{with_numbers}
use Rattle.number_set.proofs.NumberLemmas.{numbers_are_a_union}
use Rattle.txn_status.specs.ReadingIn.{under, numbers_at, status_in}
use Rattle.txn_status.specs.Marks.{MarksRead, marks_in}
use Rattle.ipl_meaning.specs.Opened.{IsOpenedStatus}
use Rattle.unit_io.proofs.ReadsAtLemmas.{at_wider}
use Rattle.restart.specs.Looks.{OnlyReads, HasCauseFor, OnlyLooksAt}

-- ---- what it does to the chip

-- reads of some sectors are reads
pub at_reads : (At : ℕ → ℕ → Type 0) (old new : Told) → ReadsAt At old new → OnlyReads old new
at_reads At old new = at_wider At Anywhere old new (λ p s is. tt)

-- their fault is about what the chip holds, or a read failed
at_cause : (At : ℕ → ℕ → Type 0) (e : ChipFault) (old new : Told) → IsCauseAt At e old new → HasCauseFor false (Chip e) old new
at_cause At ReadFault old new cause = λ other. record { fault = refl; rose = cause }
at_cause At Stopped old new cause = absurd cause
at_cause At (Damaged p s stored computed) old new cause = absurd cause
at_cause At (Malformed p s) old new cause = λ other. absurd cc
at_cause At (WornOut n) old new cause = absurd cause

-- and it is handed on
pub at_looks : {T : Type 0} (At : ℕ → ℕ → Type 0) (r : Result T ImageFault) (e : ChipFault) (old new : Told)
    → ReadsAt At old new → IsCauseAt At e old new → IsErrAnd r (λ y. y ≡ Chip e) → OnlyLooksAt (HasCauseFor false) r old new
at_looks At (Ok v) e old new did cause exit = absurd exit
at_looks At (Err y) e old new did cause exit = record {
  reads = at_reads At old new did;
  cause = subst (λ (f : ImageFault). HasCauseFor false f old new) (sym exit) (at_cause At e old new cause);
}

-- ---- what it finds

max_both : (a b d : ℕ) → max (max a b) d ≡ max a (max b d)
max_both zero b d = simp unary_clauses refl
max_both (suc a) zero d = simp unary_clauses refl
max_both (suc a) (suc b) zero = simp unary_clauses refl
max_both (suc a) (suc b) (suc d) = simp unary_clauses (ap suc (max_both a b d))

-- the greatest, and at least another number
greatest_from : (least : ℕ) (f : ℕ → ℕ) (n : ℕ) → max least (greatest_below 0 f n) ≡ greatest_below least f n
greatest_from least f zero = simp unary_clauses refl
greatest_from least f (suc n) =
    sym (max_both least (greatest_below 0 f n) (f n)) ∙ ap (λ (m : ℕ). max m (f n)) (greatest_from least f n)

module _ (c : Chart) (winner : Winner) (p generation : ℕ) (at : p ≡ winner.place)
    (of_it : generation ≡ winner.head.generation) where
  -- the greatest number found, and at least another one
  pub number_told : (least n greatest : ℕ) → greatest ≡ greatest_of_notes 0 c (under p generation) sectors
      → n ≡ max least greatest → n ≡ greatest_of_notes least c (Some winner) sectors
  number_told least n greatest is more =
      more ∙ ap (max least) (is ∙ rw (at, of_it) refl)
      ∙ greatest_from least (λ s. noted_number (noted_at c (Some winner) s)) sectors

  pub fault_told : {T : Type 0} (units told : ℕ) (r : Result T ImageFault) → units ≡ told
      → TellsImageFault (first_below (noted_fault units c (under p generation)) sectors) r
      → TellsImageFault (first_below (noted_fault told c (Some winner)) sectors) r
  fault_told units told r same tells = rw (← same, ← at, ← of_it) tells

  pub marks_told : (mark : MarksRead) → mark ≡ marks_in c p generation → mark ≡ marks_in c winner.place winner.head.generation
  marks_told mark is = rw (← at, ← of_it) is

  pub status_told : (most : ℕ) (status : StatusTable) → status ≡ status_in most c p generation
      → status ≡ status_in most c winner.place winner.head.generation
  status_told most status is = rw (← at, ← of_it) is

  pub many_told : (most : ℕ) → most < length (numbers_at c (under p generation)) → most < length (numbers_at c (Some winner))
  many_told most many = rw (← at, ← of_it) many

-- the status, as an opening finds it
pub opened_status : (c : Chart) (places : ℕ) (winner : Winner) (status : StatusTable) → Some winner ≡ status_at c places
    → Laid places c (layout_in c places) → status ≡ status_in status.most c winner.place winner.head.generation
    → IsOpenedStatus places c status
opened_status c places winner status is laid found =
    let lay = layout_in c places in
    let own : Winner = record { place = lay.status; head = head_of places lay.head } in
    let one : winner ≡ own = same_Some winner own (is ∙ chosen_are_status c places lay.status lay.head laid.chosen) in
    let numbers : List ℕ = committed_numbers c (status_at c places) in
    let same : status.numbers ≡ with_numbers numbers [] =
    ap (λ (t : StatusTable). t.numbers) found ∙ ap (λ (o : Option Winner). with_numbers (committed_numbers c o) []) is in
    record {
      place_is = ap (λ (t : StatusTable). t.place) found ∙ ap (λ (x : Winner). x.place) one;
      generation_is = ap (λ (t : StatusTable). t.generation) found ∙ ap (λ (x : Winner). x.head.generation) one;
      numbers_are = λ tid. (
        λ has. elim ((numbers_are_a_union numbers [] tid).0 (subst (λ (xs : List ℕ). Contains xs tid) same has)) [
          | inl one_of ↦ one_of
          | inr none ↦ absurd (omega (arith, none.1))
        ],
        λ has. subst (λ (xs : List ℕ). Contains xs tid) (sym same)
            ((numbers_are_a_union numbers [] tid).1 (inl has)),
      );
      first_is = ap (λ (t : StatusTable). t.first) found;
    }
