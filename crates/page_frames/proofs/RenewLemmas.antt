-- A renewal of the status place keeps each state, whatever frames there are.
use Rattle.std.proofs.Common.{◌≡◌, ℕ, Bool, get_or, Result, Ok, Err, sym, ap, subst}
use Rattle.chip_trait.specs.Told.{Told}
use Rattle.ipl_base.specs.declared.fault.ChipFault.{ChipFault}
use Rattle.ipl_format.specs.Record.{Record}
use Rattle.ipl_meaning.specs.Chart.{Chart, chart_of}
use Rattle.ipl_meaning.specs.Layout.{Layout, records_of}
use Rattle.ipl_meaning.specs.Mirrors.{NoneIsLost}
use Rattle.ipl_meaning.specs.Tables.{Tables}
use Rattle.unit_io.specs.Accounts.{Accounts}
use Rattle.unit_io.specs.Charts.{Charts}
use Rattle.unit_io.specs.Steps.{Settled}
use Rattle.store_laws.specs.Frames.{Frames}
use Rattle.store_laws.specs.Advances.{KeepsTablesOn, TurnsTables, KeepsState}
use Rattle.store_laws.proofs.KeeperLemmas.{table_calls_keep_states}
use Rattle.restart.specs.Passes.{HasRenewed, HasStopped, RenewsTold, HoldsRenewed, KeepsInSteps, RenewCause}
use Rattle.restart.proofs.RestLemmas.{passed_logs_are_same_or_carried, exact_numbers_keep, soft_end}

-- ---- the tables turned

-- the status was renewed
abbrev pub turned_renewed : (places : ℕ) (c y : Chart) (it : Layout) (t after : Tables)
    → HasRenewed places c it t after y → NoneIsLost places after → after.active ≡ t.active
    → KeepsTablesOn places c it t y after
turned_renewed places c y it t after is none active = record {
  layout = is.now;
  count = is.alike.count;
  mirrors = is.mirrors;
  none_lost = none;
  active = active;
  alike = passed_logs_are_same_or_carried t.active it is.now is.alike;
  kept = λ u low. exact_numbers_keep it is.now is.exact u (rw (sym is.alike.count) at low);
  pages = is.pages;
}

-- it wasn't: some units were merged
abbrev pub turned_stopped : (places : ℕ) (c y : Chart) (it : Layout) (t after : Tables)
    → HasStopped places c it t after y → NoneIsLost places after → after.active ≡ t.active
    → KeepsTablesOn places c it t y after
turned_stopped places c y it t after is none active = record {
  layout = is.now;
  count = is.alike.count;
  mirrors = is.mirrors;
  none_lost = none;
  active = active;
  alike = passed_logs_are_same_or_carried t.active it is.now is.alike;
  kept = λ u low i d within. let r : Record = get_or (records_of (is.now.units u).log) i d in
      ap (λ (f : ℕ → Bool). f r.tid) is.committed;
  pages = is.pages;
}

-- ---- the renewal

-- what it makes of the tables, however it ends
pub renew_turns : (places : ℕ) (t after : Tables) (result : Result (Unit {0}) ChipFault)
    (old new : Told) → HoldsRenewed places t result after → RenewsTold places t after old result new
    → Accounts (RenewCause after.places) result old new → Settled result old new
    → Charts (TurnsTables places t after) old new
renew_turns places t after (Ok v) old new holds tells accounts settled x told =
    let (y, there, renews) = tells x told in (
      y,
      there,
      λ it mirrors none. turned_renewed places (chart_of x) (chart_of y) it t after
          (renews it mirrors) holds.known.none_lost holds.active,
    )
renew_turns places t after (Err e) old new holds tells accounts settled x told =
    let (y, there, stops) = tells (soft_end after.places e old new accounts.cause settled) x told in (
      y,
      there,
      λ it mirrors none. turned_stopped places (chart_of x) (chart_of y) it t after
          (stops it mirrors) holds.known.none_lost holds.active,
    )

-- so it keeps each state
pub renew_keeps : (t after : Tables) (frames : Frames) (result : Result (Unit {0}) ChipFault)
    (old new : Told) → HoldsRenewed old.places t result after
    → RenewsTold old.places t after old result new
    → KeepsInSteps old.places t after old result new
    → Accounts (RenewCause after.places) result old new
    → KeepsState t frames old result after frames new
renew_keeps t after frames result old new holds tells steps accounts =
    table_calls_keep_states t after frames result old new
    (λ places same settled. subst (λ (n : ℕ). Charts (TurnsTables n t after) old new) same
    (renew_turns old.places t after result old new holds tells accounts settled))
    (λ places m it h same steady rests agrees.
    subst (λ (n : ℕ). KeepsInSteps n t after old result new) same steps m it h steady rests agrees)
