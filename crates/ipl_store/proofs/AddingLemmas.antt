-- What a call leaves that adds numbers: a barrier, and then what the status does.
use Rattle.std.proofs.Common.{◌≡◌, ◌+◌, ℕ, List, Result, Ok, Err, OnOk, IfErr, is_ok, arith}
use Rattle.chip_trait.specs.Told.{Told, Counts}
use Rattle.chip_trait.proofs.CountsLemmas.{counts_then}
use Rattle.ipl_base.specs.declared.fault.ChipFault.{ChipFault}
use Rattle.ipl_meaning.specs.Tables.{StatusTable}
use Rattle.unit_io.specs.Accounts.{Accounts}
use Rattle.unit_io.specs.Leads.{IsStopped, Waited}
use Rattle.unit_io.specs.Spots.{IsSpot}
use Rattle.unit_io.proofs.CostLemmas.{spends_at_most, spends_at_then, spends_barred}
use Rattle.unit_io.proofs.TidyLemmas.{tidy_halted, tidy_waits_then}
use Rattle.txn_status.specs.Status.{AdvancesTo, after_add}
use Rattle.txn_status.specs.Writing.{WritesOneSector}
use Rattle.ipl_store.specs.Adding.{AddsOrStays, WritesCommit}

always : {A : Type 0} (result : Result (Unit {0}) ChipFault) → A → OnOk result A
always (Ok v) is = is
always (Err e) is = tt

pub added_so : (tids : List ℕ) (result : Result (Unit {0}) ChipFault) (old new : StatusTable)
    (next then : ℕ) → AdvancesTo (after_add old tids) result old new next then
    → AddsOrStays tids result old new next then
added_so tids result old new next then did =
    let drawn : then ≡ next + 1 = did.drawn in record {
      added = did.done;
      same = did.same;
      drawn = always result drawn;
      draws = (omega (arith, drawn), omega (arith, drawn));
    }

-- the cause of the later part is that of the whole
stopped_behind : (result : Result (Unit {0}) ChipFault) (old mid new : Told) → Counts old mid
    → IfErr result (λ e. IsStopped e mid new) → IfErr result (λ e. IsStopped e old new)
stopped_behind (Ok v) old mid new counts cause = tt
stopped_behind (Err e) old mid new counts (is, rose) = (is, omega (arith, counts.writes, rose))

pub written_behind : (p s : ℕ) (result : Result (Unit {0}) ChipFault) (old mid new : Told) → Counts old mid
    → Waited (Ok tt) old mid → WritesOneSector p s 6 result mid new → WritesCommit p s result old new
written_behind p s result old mid new counts waited wrote = record {
  costs = spends_at_then p 0 1 1 1 6 old mid new (spends_barred p 6 old mid (Ok tt) waited) wrote.costs;
  tidy = tidy_waits_then p (IsSpot s) (is_ok result) old mid new waited wrote.tidy;
  accounts = record {
    counts = counts_then old mid new counts wrote.accounts.counts;
    cause = stopped_behind result old mid new counts wrote.accounts.cause;
  };
}

-- the barrier wasn't passed
pub written_nothing : (p s : ℕ) (e : ChipFault) (old new : Told) → Waited (Err e) old new
    → Accounts {T = Unit {0}} IsStopped (Err e) old new → WritesCommit p s (Err e) old new
written_nothing p s e old new halted accounts = record {
  costs = spends_at_most p 0 1 1 2 6 old new (omega arith) (omega arith)
      (spends_barred p 6 old new (Err e) halted);
  tidy = tidy_halted p (IsSpot s) e old new halted;
  accounts = accounts;
}
