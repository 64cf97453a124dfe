use Rattle.std.proofs.Common.{ℕ, ◌≡◌, ◌≤◌, ◌+◌, ◌∙◌, length, false, Err, inl, inr, refl, sym, ap, subst, arith}
use Rattle.std.proofs.lemmas.Result.{err_from_is_err_and}
use Rattle.ipl_meaning.specs.Chart.{chart_of}
use Rattle.ipl_meaning.specs.Rests.{now}
use Rattle.selective_merge.specs.Known.{KnowsPlaces}
use Rattle.selective_merge.specs.Moving.{tables_of}
use Rattle.selective_merge.proofs.HeldLemmas.{homes_used}
use Rattle.selective_merge.specs.Throughout.{ChartsThroughout}
use Rattle.unit_io.specs.Steps.{RestsAgreeing}
use Rattle.txn_status.specs.Switching.{RestsSwitched}
use Rattle.restart.specs.Passes.{HasFound, ErasesAtMost}
use Rattle.restart.specs.Renewed.{with_tables, Renews, RenewsInSteps}
use Rattle.place_taking.specs.Spending.{is_worn_out}
use Rattle.unit_io.specs.Costs.{Spends}
use Rattle.restart.proofs.CauseLemmas.{accounts_then, write_accounts}
use Rattle.restart.proofs.CostLemmas.{erases_more, erases_then, place_erases, renewed_then}
use Rattle.restart.proofs.PreserveLemmas.{passed_then, steps_preserve}
use Rattle.restart.proofs.RenewLemmas.{homes_still, may_renew, most_still, renew_ends, status_ends, units_still}
use Rattle.restart.proofs.CompleteLemmas.{written_alone}
use Rattle.restart.proofs.TellingLemmas.{goes_on_from, goes_on_then, renews_told}
use Rattle.restart.proofs.FaultLemmas.{pass_written, place_written}
use Rattle.restart.proofs.TidyLemmas.{tidies_then}
use Rattle.restart.proofs.CountedMarkLemmas.{logs_renewed}
use Rattle.restart.proofs.FoundLemmas.{unread_both}
use Rattle.restart.proofs.RenewalWornLemmas.{wears_renewed, wears_unpassed}
use Rattle.ipl_meaning.specs.Tables.{StatusTable}
use Rattle.txn_status.specs.Status.{keeps_of}
use Rattle.number_set.specs.Flags.{Flags, has_flag, flagged}
use Rattle.number_set.proofs.FlagLemmas.{flagged_rise}
use Rattle.restart.proofs.renewing.renew_with.Goals as goal

pub renew_place-requires-clause-may : goal.renew_place-requires-clause-may
renew_place-requires-clause-may g c =
    let between = tables_of c.find_numbers.new.parts in
    let known = c.in_ok-find_numbers.ensures.leaves.holds.known in
    let places = c.find_numbers.ensures.leaves.accounts.counts.places in record {
      size = known.suits.all ∙ sym places;
      ready = c.known_laws.ensures.ready (g.C.Chip.told c.args.chip.now).places between known;
      held = known.used between.status.place (inr (inl refl));
      placed = omega (arith, known.status_placed, places);
    }

pub renew_place-requires-clause-fits : goal.renew_place-requires-clause-fits
renew_place-requires-clause-fits g c =
    record {
      rising = flagged_rise (has_flag c.flags.result.now.bytes) 0 c.find_numbers.new.parts.status.numbers
          c.facts.ensures.rising;
      few = subst (λ (k : Flags). length (flagged k c.find_numbers.new.parts.status.numbers)
          ≤ keeps_of c.find_numbers.new.parts.status.most) (sym c.flags.ensures.flags)
          (subst (λ (most : ℕ). length (flagged c.find_numbers.new.kept c.find_numbers.new.parts.status.numbers) ≤ keeps_of most)
          (c.find_numbers.ensures.room ∙ c.requires.room
          ∙ sym (ap (λ (s : StatusTable). s.most) c.find_numbers.ensures.leaves.holds.status))
          (c.flags.ensures.few c.find_numbers.new.parts.status.numbers));
    }

pub renew_place-requires-clause-left : goal.renew_place-requires-clause-left
renew_place-requires-clause-left g c =
    omega (arith, c.requires.left, c.find_numbers.ensures.leaves.draws)

pub returns-in_err-find_numbers-clause-unread : goal.returns-in_err-find_numbers-clause-unread
returns-in_err-find_numbers-clause-unread g c = c.in_err-find_numbers.ensures.unread

pub returns-clause-unread : goal.returns-clause-unread
returns-clause-unread g c =
    unread_both c.args.found (g.C.Chip.told c.args.chip.now) (g.C.Chip.told c.find_numbers.new.chip)
    (g.C.Chip.told c.renew_place.new.chip) c.find_numbers.ensures.unread c.renew_place.ensures.writes.unread

pub returns-clause-logs : goal.returns-clause-logs
returns-clause-logs g c =
    let between = tables_of c.find_numbers.new.parts in
    logs_renewed c.args.found (tables_of c.args.parts.now) between c.renew_place.new.directory
    c.renew_place.new.status c.renew_place.new.counter
    (flagged c.flags.result.now c.find_numbers.new.parts.status.numbers) c.renew_place.result
    c.in_ok-find_numbers.ensures.same c.renew_place.ensures.moves.moved

pub returns-in_err-find_numbers-clause-renews : goal.returns-in_err-find_numbers-clause-renews
returns-in_err-find_numbers-clause-renews g c = record {
  tells = let old = g.C.Chip.told c.args.chip.now in
      let e = err_from_is_err_and c.from_residual.result c.from_residual.ensures.1 in
      rw (e.1 ∙ ap Err e.2) (renews_told old.places (tables_of c.args.parts.now)
      (tables_of c.find_numbers.new.parts) old (Err c.in_err-find_numbers.field-0.0)
      (g.C.Chip.told c.find_numbers.new.chip) c.in_err-find_numbers.ensures.goes_on
      (λ x it told mirrors. c.in_err-find_numbers.ensures.passes old.places x it refl told mirrors));
  steps = λ m it h steady rests agrees.
      let e = err_from_is_err_and c.from_residual.result c.from_residual.ensures.1 in
      rw (e.1 ∙ ap Err e.2) (c.in_err-find_numbers.ensures.steps (g.C.Chip.told c.args.chip.now).places refl
      m it h steady rests agrees);
  fails = let e = err_from_is_err_and c.from_residual.result c.from_residual.ensures.1 in
      rw (e.1 ∙ ap Err e.2) c.in_err-find_numbers.ensures.fails;
  leaves = let leaves = c.in_err-find_numbers.ensures.leaves in
      let e = err_from_is_err_and c.from_residual.result c.from_residual.ensures.1 in
      rw (e.1 ∙ ap Err e.2) (record {
        holds = record {
          active = leaves.holds.active;
          units = leaves.holds.units;
          known = leaves.holds.known;
          most = ap (λ (s : StatusTable). s.most) leaves.holds.status;
          ends = leaves.holds.status;
        };
        draws = (leaves.draws.0, omega (arith, leaves.draws.1));
        tidy = leaves.tidy;
        accounts = leaves.accounts;
      });
  spends = let t = tables_of c.args.parts.now in
      let after = tables_of c.find_numbers.new.parts in
      let old = g.C.Chip.told c.args.chip.now in
      let new = g.C.Chip.told c.find_numbers.new.chip in
      let units = length t.places.current in
      let costs = c.in_err-find_numbers.ensures.leaves.costs in
      let e = err_from_is_err_and c.from_residual.result c.from_residual.ensures.1 in
      rw (e.1 ∙ ap Err e.2) (record {
        costs = erases_more t.places after.places units (units + 1) _ old new (omega arith) costs;
        renewed = tt;
        wears = wears_unpassed t after units c.in_err-find_numbers.field-0.0 old new costs;
      });
}

pub returns-clause-renews : goal.returns-clause-renews
returns-clause-renews g c = record {
  tells = let old = g.C.Chip.told c.args.chip.now in
      let mid = g.C.Chip.told c.find_numbers.new.chip in
      let new = g.C.Chip.told c.renew_place.new.chip in
      let t = tables_of c.args.parts.now in
      let between = tables_of c.find_numbers.new.parts in
      let kept = (flagged c.flags.result.now c.find_numbers.new.parts.status.numbers) in
      let directory = c.renew_place.new.directory in
      let status = c.renew_place.new.status in
      let drawn = c.renew_place.new.counter in
      let renews = subst (λ n. ChartsThroughout (λ (done : Unit {0}). Renews n between.places
      between.status between.next kept directory status drawn) (λ d y. y ≡ d) c.renew_place.result mid
      new) c.find_numbers.ensures.leaves.accounts.counts.places c.renew_place.ensures.tells in
      renews_told old.places t (with_tables between directory status drawn) old c.renew_place.result
      new
      (goes_on_then c.renew_place.result old mid new c.in_ok-find_numbers.ensures.goes_on
      (goes_on_from (λ done. Renews old.places between.places between.status between.next kept directory
      status drawn) (λ d y. y ≡ d) c.renew_place.result mid new renews))
      (λ x it told mirrors. renew_ends old.places (chart_of x) it t kept mid between
      (subst (λ (k : Flags). HasFound old.places (chart_of x) it t (flagged k between.status.numbers) mid between)
      (sym c.flags.ensures.flags)
      (c.in_ok-find_numbers.ensures.passes old.places x it refl told mirrors))
      directory status drawn new c.renew_place.result renews c.renew_place.ensures.moves.same
      (omega (arith, c.renew_place.ensures.moves.draws)));
  steps = λ m it h steady rests agrees.
      let old = g.C.Chip.told c.args.chip.now in
      let mid = g.C.Chip.told c.find_numbers.new.chip in
      let new = g.C.Chip.told c.renew_place.new.chip in
      let t = tables_of c.args.parts.now in
      let between = tables_of c.find_numbers.new.parts in
      let kept = (flagged c.flags.result.now c.find_numbers.new.parts.status.numbers) in
      let directory = c.renew_place.new.directory in
      let status = c.renew_place.new.status in
      let drawn = c.renew_place.new.counter in
      let after = with_tables between directory status drawn in
      passed_then old.places m h it t between after old mid new c.renew_place.result
      kept c.find_numbers.ensures.leaves.accounts.counts steady
      agrees
      (λ x told mirrors. subst (λ (k : Flags). HasFound old.places (chart_of x)
      it t (flagged k between.status.numbers) mid between) (sym c.flags.ensures.flags)
      (c.in_ok-find_numbers.ensures.passes old.places x it refl told mirrors))
      (c.in_ok-find_numbers.ensures.steps old.places refl m it h steady rests agrees)
      (λ k was there resting agreeing. steps_preserve old.places m k between after
      (λ done j. RestsSwitched old.places m was.now after status.place between.next kept j)
      (λ j. RestsAgreeing old.places m was.now after j) c.renew_place.result mid new
      (λ v j is. is.stands.rests) (λ j is. is.rests)
      (subst (λ n. RenewsInSteps n between.places between.status between.next kept directory status
      drawn c.renew_place.result mid new) c.find_numbers.ensures.leaves.accounts.counts.places
      c.renew_place.ensures.steps m was.now between k there
      (record { places_is = refl; status_is = refl; next_is = refl }) resting agreeing
      (may_renew old.places (now h) it t kept mid between was)));
  fails = let t = tables_of c.args.parts.now in
      let directory = c.renew_place.new.directory in
      let after = with_tables (tables_of c.find_numbers.new.parts) directory c.renew_place.new.status
      c.renew_place.new.counter in
      let mid = g.C.Chip.told c.find_numbers.new.chip in
      let new = g.C.Chip.told c.renew_place.new.chip in
      let cause = c.renew_place.ensures.writes.accounts.cause in record {
        fault = λ x told it mirrors. pass_written x it t directory mid new c.renew_place.result cause;
        stays = λ x told it mirrors. place_written x it t after directory mid new c.renew_place.result
            cause;
        complete = λ x told it mirrors some all fit. written_alone directory mid new c.renew_place.result cause;
      };
  leaves = let old = g.C.Chip.told c.args.chip.now in
      let mid = g.C.Chip.told c.find_numbers.new.chip in
      let new = g.C.Chip.told c.renew_place.new.chip in
      let between = tables_of c.find_numbers.new.parts in
      let directory = c.renew_place.new.directory in
      let status = c.renew_place.new.status in
      let after = with_tables between directory status c.renew_place.new.counter in
      let result = c.renew_place.result in
      let found = c.in_ok-find_numbers.ensures.leaves in
      let is = c.renew_place.ensures in
      let counts = c.find_numbers.ensures.leaves.accounts.counts in
      let known = subst (λ n. KnowsPlaces n between) (sym counts.places) found.holds.known in record {
        holds = record {
          active = found.holds.active;
          units = units_still result between.places directory between.status status between.next
              (flagged c.flags.result.now c.find_numbers.new.parts.status.numbers) is.moves.moved is.moves.same ∙ found.holds.units;
          known = subst (λ n. KnowsPlaces n after) counts.places (is.tables.known between
              (record { places_is = refl; status_is = refl; next_is = refl }) known);
          most = most_still result between.places directory between.status status between.next
              (flagged c.flags.result.now c.find_numbers.new.parts.status.numbers) is.moves.moved is.moves.same
              ∙ ap (λ (s : StatusTable). s.most) found.holds.status;
          ends = status_ends result between.places directory c.args.parts.now.status between.status status
              is.moves.room is.moves.same found.holds.status;
        };
        draws = (
          omega (arith, found.draws, is.moves.draws),
          omega (arith, found.draws, is.moves.draws),
        );
        tidy = tidies_then (tables_of c.args.parts.now) between after result old mid new counts found.tidy
            (is.tables.tidy between (record { places_is = refl; status_is = refl; next_is = refl }) known);
        accounts = accounts_then directory old mid new result counts
            (write_accounts directory mid new result is.writes.accounts);
      };
  spends = let t = tables_of c.args.parts.now in
      let between = tables_of c.find_numbers.new.parts in
      let directory = c.renew_place.new.directory in
      let status = c.renew_place.new.status in
      let after = with_tables between directory status c.renew_place.new.counter in
      let old = g.C.Chip.told c.args.chip.now in
      let mid = g.C.Chip.told c.find_numbers.new.chip in
      let new = g.C.Chip.told c.renew_place.new.chip in
      let result = c.renew_place.result in
      let units = length t.places.current in
      let found = c.in_ok-find_numbers.ensures.leaves in
      let is = c.renew_place.ensures in
      let erases : Spends (ErasesAtMost between.places directory 1 (is_worn_out result)) mid new =
      place_erases between.places directory _ _ _ mid new (homes_used old.places between found.holds.known)
      (homes_still result between.places directory between.status status between.next
      (flagged c.flags.result.now c.find_numbers.new.parts.status.numbers) is.moves.moved is.moves.same) is.writes.costs in record {
        costs = erases_then t.places between.places directory units 1 _ old mid new found.costs erases;
        renewed = renewed_then (ErasesAtMost t.places between.places units false) status.place
            between.places directory _ old mid new result found.costs is.writes.costs;
        wears = wears_renewed t between after units 1 result old mid new found.costs erases
            c.in_ok-find_numbers.ensures.goes_on is.lists;
      };
}
