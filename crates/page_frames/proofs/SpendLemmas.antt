-- What bringing a page in costs: what writing another page's records out does, and reads.
use Rattle.std.proofs.Common.{◌≡◌, ℕ, Bool, false, [], ◌∷◌, refl, arith}
use Rattle.chip_trait.specs.Told.{Told}
use Rattle.ipl_meaning.specs.Tables.{Places}
use Rattle.unit_io.specs.Costs.{Costs, Spends}
use Rattle.unit_io.specs.ReadsAt.{ReadsAt}
use Rattle.unit_io.proofs.CostLemmas.{costs_none, costs_at_most, spends_none, spends_then, spends_weaker, spends_reads}
use Rattle.page_frames.specs.Spending.{ErasesAndLogs}
use Rattle.place_taking.proofs.SpendingLemmas.{none_found, retiring_of, retiring_then, retiring_at_most, retires_none, retires_still, tries_none, tries_still}
use Rattle.page_frames.proofs.RecordSpendLemmas.{no_kind}

pub reads_alone : (At : ℕ → ℕ → Type 0) (old new : Told) → ReadsAt At old new
    → Spends (Costs 0 0 0 []) old new
reads_alone At old new did = spends_reads At [] old new did

pub nothing_spent : (t : Told) → Spends (Costs 0 0 0 []) t t
nothing_spent t = spends_none (Costs 0 0 0 []) t (costs_none [])

-- reads, or nothing, are within what writing out costs
pub logs_of_reads : (before after : Places) (old new : Told) → after.retired ≡ before.retired
    → Spends (Costs 0 0 0 []) old new → Spends (ErasesAndLogs before after false) old new
logs_of_reads before after old new same = spends_weaker (Costs 0 0 0 [])
    (ErasesAndLogs before after false) old new (λ added costs. record {
      costs = retiring_at_most before after 0 1 0 1 0 3 [] (5 ∷ []) added (omega arith) (omega arith)
          (omega arith) no_kind (retiring_of before after 0 0 0 [] added same costs);
      tries = tries_none before after added costs.erased same;
      retires = retires_none before after false added same refl (λ p. none_found p added costs.erased);
    })

-- and so they are behind it
pub logs_then_reads : (before mid after : Places) (worn_out : Bool) (old between new : Told)
    → after.retired ≡ mid.retired → worn_out ≡ false
    → Spends (ErasesAndLogs before mid false) old between → Spends (Costs 0 0 0 []) between new
    → Spends (ErasesAndLogs before after worn_out) old new
logs_then_reads before mid after worn_out old between new same still =
    spends_then (ErasesAndLogs before mid false) (Costs 0 0 0 [])
    (ErasesAndLogs before after worn_out) old between new (λ later earlier does costs. record {
      costs = retiring_then before mid after 1 0 1 0 3 0 (5 ∷ []) later earlier does.costs
          (retiring_of mid after 0 0 0 (5 ∷ []) later same (costs_at_most 0 0 0 0 0 0 [] (5 ∷ [])
          later (omega arith) (omega arith) (omega arith) no_kind costs));
      tries = tries_still before mid after later earlier costs.erased same does.tries;
      retires = retires_still before mid after worn_out later earlier costs.erased same still
          does.retires;
    })
