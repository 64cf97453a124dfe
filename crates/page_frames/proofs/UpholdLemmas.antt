-- Calls that keep each state: nothing done, one after another, and causes.
use Rattle.std.proofs.Common.{◌≤◌, ◌+◌, ℕ, true, Result, Ok, refl, ◌∙◌, subst, arith}
use Rattle.std.specs.Prelude.{is_ok}
use Rattle.chip_trait.specs.Told.{Told}
use Rattle.chip_trait.proofs.CountsLemmas.{counts_none}
use Rattle.ipl_base.specs.declared.fault.ChipFault.{ChipFault}
use Rattle.buffer_pool.proofs.HoldingLemmas.{nothing_keeps, both_keep}
use Rattle.place_taking.specs.Spending.{is_worn_out}
use Rattle.place_taking.proofs.WearLemmas.{alike_tables, nothing_wears, wears_are_joined}
use Rattle.restart.proofs.CauseLemmas.{accounts_then}
use Rattle.unit_io.proofs.TablesLemmas.{tables_none, tables_then}
use Rattle.store_laws.proofs.KeeperLemmas.{nothing_keeps_states, keepers_are_joined}
use Rattle.page_frames.specs.declared.pages.Pages.{Pages}
use Rattle.page_frames.specs.Pages.{tables_in, frames_in, ArePagesReady, Upholds}

pub upholds_none : (most : ℕ) (pages : Pages) (t : Told) → ArePagesReady t.places pages
    → Upholds most pages t (Ok (tt {0})) pages t
upholds_none most pages t ready = record {
  keeps = nothing_keeps_states (tables_in pages) (frames_in pages) t;
  tidy = tables_none {T = Unit {0}} {E = ChipFault} (tables_in pages) (Ok tt) t;
  wears = nothing_wears (tables_in pages) (tables_in pages) true t
      (alike_tables (tables_in pages) (tables_in pages) refl refl);
  ready = ready;
  units = refl;
  room = refl;
  active = refl;
  pins = nothing_keeps pages.pool;
  least = omega arith;
  drawn = omega arith;
  accounts = record { counts = counts_none t; cause = tt };
}

-- one call that was done, and then another
pub upholds_then : (n m : ℕ) (first between last : Pages) (result : Result (Unit {0}) ChipFault)
    (old mid new : Told)
    → Upholds n first old (Ok (tt {0})) between mid → Upholds m between mid result last new
    → Upholds (n + m) first old result last new
upholds_then n m first between last result old mid new one two = record {
  keeps = keepers_are_joined (tables_in first) (tables_in between) (tables_in last)
      (frames_in first) (frames_in between) (frames_in last) result old mid new
      one.accounts.counts one.keeps two.keeps;
  tidy = tables_then (Unit {0}) ChipFault (tables_in first) (tables_in between) (tables_in last) tt
      result old mid new one.accounts.counts one.tidy two.tidy;
  wears = wears_are_joined (tables_in first) (tables_in between) (tables_in last) (is_ok result)
      (is_worn_out result) old mid new one.wears two.wears;
  ready = subst (λ (k : ℕ). ArePagesReady k last) one.accounts.counts.places two.ready;
  units = two.units ∙ one.units;
  room = two.room ∙ one.room;
  active = two.active ∙ one.active;
  pins = both_keep first.pool between.pool last.pool one.pins two.pins;
  least = omega (arith, one.least, two.least);
  drawn = omega (arith, one.drawn, two.drawn);
  accounts = accounts_then last.parts.directory old mid new result one.accounts.counts two.accounts;
}

-- fewer numbers were drawn
pub upholds_weaker : (n m : ℕ) (first last : Pages) (result : Result (Unit {0}) ChipFault)
    (old new : Told) → n ≤ m → Upholds n first old result last new
    → Upholds m first old result last new
upholds_weaker n m first last result old new fewer did = record {
  keeps = did.keeps;
  tidy = did.tidy;
  wears = did.wears;
  ready = did.ready;
  units = did.units;
  room = did.room;
  active = did.active;
  pins = did.pins;
  least = did.least;
  drawn = omega (arith, did.drawn, fewer);
  accounts = did.accounts;
}
