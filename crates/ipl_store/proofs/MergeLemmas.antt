-- What a merge of a store costs that was refused: nothing.
use Rattle.std.proofs.Common.{ℕ, Bool, false, [], refl, ◌≡◌, arith}
use Rattle.std.proofs.lemmas.Bool.{false≢true}
use Rattle.chip_trait.specs.Told.{Told}
use Rattle.ipl_meaning.specs.Tables.{Places}
use Rattle.unit_io.specs.Costs.{Spends}
use Rattle.unit_io.proofs.CostLemmas.{costs_none, costs_at_most, spends_none}
use Rattle.place_taking.specs.Spending.{ErasesFor}
use Rattle.place_taking.proofs.CountedLemmas.{keeps_counts}
use Rattle.place_taking.proofs.SpendingLemmas.{none_found, retiring_of, retires_none, tries_none}

pub refused_merges : (d : Places) (place : ℕ) (worn_out : Bool) (told : Told) → worn_out ≡ false
    → Spends (ErasesFor d d 3 place false worn_out) told told
refused_merges d place worn_out told still =
    spends_none (ErasesFor d d 3 place false worn_out) told (record {
      erases = record {
        costs = retiring_of d d 1 0 3 [] [] refl (costs_at_most 0 1 0 0 0 3 [] [] [] (omega arith)
            (omega arith) (omega arith) (λ kind has. has) (costs_none []));
        tries = tries_none d d [] (omega arith) refl;
        retires = retires_none d d worn_out [] refl still (λ p. none_found p [] (omega arith));
        counted = keeps_counts d d refl;
      };
      erased = λ done. absurd (false≢true done);
    })
