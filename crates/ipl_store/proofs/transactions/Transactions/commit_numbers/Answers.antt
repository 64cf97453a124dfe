use Rattle.std.proofs.Common.{refl, sym, ◌∙◌, ap, subst}
use Rattle.std.proofs.lemmas.Result.{err_from_is_err_and}
use Rattle.ipl_base.specs.Calls.{IsFailedCall}
use Rattle.place_taking.specs.Spending.{tells_worn}
use Rattle.record_locks.specs.Held.{SessionSlots, after_batch}
use Rattle.selective_merge.specs.declared.parts.Parts.{Parts}
use Rattle.ipl_store.proofs.CommitLemmas.{numbers_added, numbers_not_added}
use Rattle.ipl_store.proofs.FramedLemmas.{in_turn_framed}
use Rattle.ipl_store.proofs.transactions.Transactions.commit_numbers.Goals as goal

pub returns-in_err-add_numbers-clause-turns : goal.returns-in_err-add_numbers-clause-turns
returns-in_err-add_numbers-clause-turns g c =
    let old = c.args.self.now in
    let says = c.in_err-add_numbers.ensures in
    let e = err_from_is_err_and c.from_residual.result c.from_residual.ensures.1 in
    rw (e.1, e.2)
    (numbers_not_added c.args.numbers.now c.as_slice.result.now c.in_err-add_numbers.field-0.0 old
    (record {
      pages = record {
        parts = record old.pages.parts {
          status = c.add_numbers.new.status;
          counter = c.add_numbers.new.counter;
        };
        pool = old.pages.pool;
      };
      sessions = old.sessions;
    }) (g.C.Chip.told c.args.chip.now) (g.C.Chip.told c.add_numbers.new.chip) c.requires.order
    c.requires.open c.requires.may_add (c.as_slice.ensures.numbers ∙ c.requires.tids) says.steps refl refl refl refl
    says.added.same refl says.added.draws says.writes)

pub returns-clause-turns : goal.returns-clause-turns
returns-clause-turns g c =
    let old = c.args.self.now in
    let says = c.in_ok-add_numbers.ensures in
    let same = c.apply_all.ensures.parts in
    numbers_added c.args.numbers.now c.as_slice.result.now old c.end_all.new.self c.apply_all.new.self.pages
    (g.C.Chip.told c.args.chip.now) (g.C.Chip.told c.add_numbers.new.chip) c.requires.order
    c.requires.open c.requires.may_add (c.as_slice.ensures.numbers ∙ c.requires.tids) says.adds
    says.steps (ap (λ (parts : Parts). parts.directory) same)
    (ap (λ (parts : Parts). parts.overflow) same)
    (ap (λ (parts : Parts). parts.status) same ∙ says.added.added)
    (ap (λ (parts : Parts). parts.counter) same ∙ says.added.drawn) c.apply_all.ensures.applied
    c.apply_all.ensures.pins c.end_all.ensures.rest
    (c.end_all.ensures.sessions ∙ ap (λ (slots : SessionSlots). after_batch slots c.args.numbers.now)
    c.apply_all.ensures.sessions) c.end_all.ensures.active c.end_all.ensures.locks says.writes says.header

pub returns-in_err-add_numbers-clause-complete : goal.returns-in_err-add_numbers-clause-complete
returns-in_err-add_numbers-clause-complete g c =
    let e = err_from_is_err_and c.from_residual.result c.from_residual.ensures.1 in
    rw (e.1, e.2)
    (subst IsFailedCall (sym c.in_err-add_numbers.ensures.writes.accounts.cause.0) tt)

pub returns-in_err-add_numbers-clause-framed : goal.returns-in_err-add_numbers-clause-framed
returns-in_err-add_numbers-clause-framed g c = λ u page is. is

pub returns-clause-framed : goal.returns-clause-framed
returns-clause-framed g c =
    in_turn_framed c.args.self.now.sessions c.args.numbers.now c.args.self.now.pages
    c.apply_all.new.self.pages c.end_all.new.self.pages c.requires.open.opens
    c.apply_all.ensures.applied c.end_all.ensures.rest.pool

pub returns-in_err-add_numbers-clause-asks : goal.returns-in_err-add_numbers-clause-asks
returns-in_err-add_numbers-clause-asks g c =
    let e = err_from_is_err_and c.from_residual.result c.from_residual.ensures.1 in
    let wrote = c.in_err-add_numbers.ensures.writes in
    rw (e.1, e.2) (record {
      directory = refl;
      costs = wrote.costs;
      unworn = ap tells_worn wrote.accounts.cause.0;
    })

pub returns-clause-asks : goal.returns-clause-asks
returns-clause-asks g c = record {
  directory = c.end_all.ensures.rest.directory
      ∙ ap (λ (parts : Parts). parts.directory) c.apply_all.ensures.parts;
  costs = c.in_ok-add_numbers.ensures.writes.costs;
  unworn = refl;
}
