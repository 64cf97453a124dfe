-- Chips that tell what they hold, and maybe no story.
use Rattle.std.proofs.Common.{◌≡◌, ℕ, Bool, true, [], List, Some, Ok, sym, subst}
use Rattle.std.specs.FinMap.{empty}
use Rattle.chip_trait.specs.Story.{Contents, held}
use Rattle.chip_trait.specs.Told.{History, Told, IsConsistent, Unrisen, adds_all}
use Rattle.ipl_base.specs.Places.{units_on}
use Rattle.ipl_meaning.specs.Legible.{Legible, of, whole}
use Rattle.ipl_meaning.proofs.StoryLemmas.{held_stands}
use Rattle.unit_io.specs.Leads.{IsSteady}
use Rattle.restart.specs.Events.{format_events}
use Rattle.restart.specs.RenewalChains.{starts_at}
use Rattle.restart.proofs.ChainLemmas.{images_rest}
use Rattle.ipl_cli.specs.Ending.{Ending, AtStatus}
use Rattle.ipl_cli.specs.Top.{Runs, RunsOpened, RunsFormatted, HoldsRecords, EndsWithRecords, FromItsRecords, FromNoRecords, records_after}
use Rattle.store_laws.specs.Keeps.{limits_of}
use Rattle.ipl_model.specs.State.{Limits}
use Rattle.ipl_cli.proofs.StatusLemmas.{done_at_zero}

-- where no write has failed, a chip holds what is left by a history that begins with it
pub steady_start : (x : Contents) (t : Told) → IsConsistent t → t.contents ≡ Some x
    → IsSteady (starts_at x) t
steady_start x t consistent told = record { holds = told; settled = consistent.settled x told }

module _ (old new : Told) (consistent : IsConsistent old) where
  -- a run that is done leaves what it rests on
  module _ {marks : Bool} (limits : Limits) (m : Legible) (script : List ℕ) (x : Contents) (first : List _)
      (r : Runs marks old.places limits m script (starts_at x) first old new (Ok tt))
      (unrisen : Unrisen old new) where
    abbrev last : History
    last = adds_all r.added (adds_all first (starts_at x))

    holds_records : HoldsRecords old.places (of m.pages (records_after limits m.map script)) new
    holds_records = record {
      contents = held last.start last.story;
      told = (r.steady unrisen).holds;
      stands = held_stands old.places (of m.pages (records_after limits m.map script)) last (r.ends unrisen).each;
    }

  pub opened_records : {sessions : ℕ} → AtStatus (RunsOpened sessions old new) 0 → EndsWithRecords sessions FromItsRecords old new
  opened_records {sessions} at units m script from left unrisen =
      let has = from.holds in
      let x = has.contents in
      let runs = subst (λ (e : Ending). RunsOpened sessions old new e) (done_at_zero at.0 (sym at.1)) at.2 in
      holds_records (limits_of sessions units) m script x []
      (subst (λ (n : ℕ). Runs true old.places (limits_of sessions n) m script (starts_at x) [] old new (Ok tt))
      (sym from.units_are)
      (runs (starts_at x) script (steady_start x old consistent has.told) left m
      (images_rest old.places m x has.stands) from.apart)) unrisen

  pub formatted_records : {sessions : ℕ} → RunsFormatted sessions old new (Ok tt) → EndsWithRecords sessions FromNoRecords old new
  formatted_records {sessions} runs units m script (none, many, has) left unrisen =
      let x = has.0 in
      let told = has.1 in
      subst (λ (n : Legible). HoldsRecords old.places (of n.pages (records_after (limits_of sessions units) n.map script)) new) (sym none)
      (subst (λ (n : ℕ). HoldsRecords old.places (whole (records_after (limits_of sessions n) empty script)) new) (sym many)
      (holds_records (limits_of sessions (units_on old.places)) (whole empty) script x
      (format_events old.places (units_on old.places))
      (runs (starts_at x) script (steady_start x old consistent told) left) unrisen))
