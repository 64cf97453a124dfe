-- Calls that are done, and one call after another.
use Rattle.std.proofs.Common.{◌+◌, ℕ, Result, Ok}
use Rattle.chip_trait.specs.Told.{Told}
use Rattle.ipl_base.specs.declared.fault.ChipFault.{ChipFault}
use Rattle.page_frames.specs.declared.pages.Pages.{Pages}
use Rattle.page_frames.specs.Faulty.{StandsThen, TellsFaultsSurely}
use Rattle.page_frames.specs.Pages.{tables_in, Upholds}
use Rattle.page_frames.specs.Works.{WorksOn}
use Rattle.page_frames.proofs.CompleteLemmas.{completes_then}
use Rattle.page_frames.proofs.TellLemmas.{tells_then}
use Rattle.page_frames.proofs.UpholdLemmas.{upholds_then}

-- what is done doesn't fail
pub works_done : (most : ℕ) (old new : Pages) (before after : Told)
    → Upholds most old before (Ok (tt {0})) new after → WorksOn most old before (Ok (tt {0})) new after
works_done most old new before after did = record {
  upholds = did;
  complete = λ x there slots it state fits says. tt;
  faults = λ x there slots it state fits. tt;
  surely = λ x there slots it state fits. tt;
}

-- one call that was done, and then another, whose fault stands so also where the chip tells no story
pub works_then : (n m : ℕ) (first between last : Pages) (result : Result (Unit {0}) ChipFault)
    (old mid new : Told)
    → Upholds n first old (Ok (tt {0})) between mid → WorksOn m between mid result last new
    → TellsFaultsSurely first result old last new → WorksOn (n + m) first old result last new
works_then n m first between last result old mid new one two surely =
    let sized = one.accounts.counts.places in record {
      upholds = upholds_then n m first between last result old mid new one two.upholds;
      complete = completes_then first between result old mid sized one.keeps two.complete;
      faults = tells_then (StandsThen (tables_in last) new) first between last result old mid sized
          two.upholds.active one.keeps two.faults;
      surely = surely;
    }
