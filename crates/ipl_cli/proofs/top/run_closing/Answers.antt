use Rattle.std.proofs.Common.{◌≡◌, true, false, Result, Ok, Err, sym, ◌∙◌, subst}
use Rattle.std.proofs.lemmas.Result.{err_from_is_err_and}
use Rattle.script_run.specs.declared.fault.Stop.{Stop}
use Rattle.store_laws.specs.Keeps.{all_pages}
use Rattle.ipl_cli.specs.Runs.{RunsClosing}
use Rattle.ipl_cli.proofs.CloseLemmas.{ran_alone, ran_closing}
use Rattle.ipl_cli.proofs.top.run_closing.Goals as goal

pub returns-in_err-run_script : goal.returns-in_err-run_script
returns-in_err-run_script g c =
    let e = err_from_is_err_and c.from_residual.result c.from_residual.ensures.1 in
    let did = c.in_err-run_script.ensures in record {
      runs = rw (e.1, e.2) (ran_alone c.args.store.now c.run_script.new.store (g.D.Chip.told c.args.desk.now)
          (g.D.Chip.told c.run_script.new.desk) c.args.closes (Err c.in_err-run_script.field-0.0) c.requires.left
          did.run (did.tidy all_pages) (did.draws all_pages) did.completes (did.learns all_pages) did.further (did.ends all_pages) tt);
    }

pub returns-else-closes : goal.returns-else-closes
returns-else-closes g c =
    let did = c.in_ok-run_script.ensures in record {
      runs = ran_alone c.args.store.now c.run_script.new.store (g.D.Chip.told c.args.desk.now)
          (g.D.Chip.told c.run_script.new.desk) c.args.closes (Ok tt) c.requires.left did.run (did.tidy all_pages) (did.draws all_pages)
          did.completes (did.learns all_pages) did.further (did.ends all_pages)
          (λ is. absurd (let clash : true ≡ false = sym is ∙ c.if-closes.false in cc clash));
    }

pub returns-in_err-close_behind : goal.returns-in_err-close_behind
returns-in_err-close_behind g c =
    let e = err_from_is_err_and c.from_residual-in_err-close_behind.result
    c.from_residual-in_err-close_behind.ensures.1 in
    let did = c.in_ok-run_script.ensures in
    let closing = c.in_err-close_behind.ensures.closes in
    let old = g.D.Chip.told c.args.desk.now in
    let new = g.D.Chip.told c.close_behind.new.desk in record {
      runs = rw (e.1, e.2) (subst (λ (r : Result (Unit {0}) Stop). RunsClosing c.args.closes r c.args.store.now old
          c.close_behind.new.store new) (sym closing.result_is)
          (ran_closing c.args.store.now c.run_script.new.store c.close_behind.new.store old
          (g.D.Chip.told c.run_script.new.desk) new c.args.closes closing.closed did.further closing.closes
          c.requires.left did.run (did.tidy all_pages) (did.draws all_pages) did.completes (did.learns all_pages) (did.ends all_pages).all c.if-closes.true));
    }

pub returns-in_ok-close_behind : goal.returns-in_ok-close_behind
returns-in_ok-close_behind g c =
    let did = c.in_ok-run_script.ensures in
    let closing = c.in_ok-close_behind.ensures.closes in
    let old = g.D.Chip.told c.args.desk.now in
    let new = g.D.Chip.told c.close_behind.new.desk in record {
      runs = subst (λ (r : Result (Unit {0}) Stop). RunsClosing c.args.closes r c.args.store.now old
          c.close_behind.new.store new) (sym closing.result_is)
          (ran_closing c.args.store.now c.run_script.new.store c.close_behind.new.store old
          (g.D.Chip.told c.run_script.new.desk) new c.args.closes closing.closed did.further closing.closes
          c.requires.left did.run (did.tidy all_pages) (did.draws all_pages) did.completes (did.learns all_pages) (did.ends all_pages).all c.if-closes.true);
    }
