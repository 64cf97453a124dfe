use Rattle.std.proofs.Common.{ℕ, Err, refl, sym, ◌∙◌, ap, subst, arith}
use Rattle.std.proofs.lemmas.Result.{err_from_is_err_and}
use Rattle.ipl_meaning.specs.Tables.{StatusTable}
use Rattle.selective_merge.specs.declared.parts.Parts.{Parts}
use Rattle.selective_merge.specs.Moving.{tables_of}
use Rattle.restart.specs.Closing.{ClosesClosed}
use Rattle.restart.proofs.BarrierLemmas.{closes_behind, closes_stopped, waited_tidies, tidies_behind, ends_behind, costs_behind}
use Rattle.restart.proofs.closing.close.Goals as goal

-- with this status and this counter
abbrev with_counter : StatusTable → ℕ → Parts → Parts
with_counter status n parts = record parts { status = status; counter = n }

pub returns-in_err-barrier-clause-steps : goal.returns-in_err-barrier-clause-steps
returns-in_err-barrier-clause-steps g c =
    let old = g.C.Chip.told c.args.chip.now in
    let new = g.C.Chip.told c.barrier.new.chip in
    let e = err_from_is_err_and c.from_residual.result c.from_residual.ensures.1 in
    rw e.1 (closes_stopped old.places (tables_of c.args.parts.now) c.in_err-barrier.field-0.0 old new
    c.in_err-barrier.ensures.did c.in_err-barrier.ensures.accounts.cause)

pub returns-in_err-barrier-clause-tidy : goal.returns-in_err-barrier-clause-tidy
returns-in_err-barrier-clause-tidy g c =
    let e = err_from_is_err_and c.from_residual.result c.from_residual.ensures.1 in
    rw e.1 (waited_tidies (tables_of c.args.parts.now) (Err c.in_err-barrier.field-0.0)
    (g.C.Chip.told c.args.chip.now) (g.C.Chip.told c.barrier.new.chip) c.in_err-barrier.ensures.did)

pub returns-in_err-barrier-clause-leaves : goal.returns-in_err-barrier-clause-leaves
returns-in_err-barrier-clause-leaves g c =
    let e = err_from_is_err_and c.from_residual.result c.from_residual.ensures.1 in
    rw e.1 (record { marked = tt; same = refl; rest = refl; drawn = (omega arith, omega arith) })

pub returns-clause-leaves : goal.returns-clause-leaves
returns-clause-leaves g c =
    let did = c.write_mark.ensures in
    let drawn = did.marked.drawn in
    record {
      marked = did.marked.done;
      same = did.marked.same;
      rest = did.rest ∙ ap (λ (n : ℕ). with_counter c.write_mark.new.parts.status n c.args.parts.now) (sym drawn);
      drawn = (omega (arith, drawn), omega (arith, drawn));
    }

pub returns-clause-steps : goal.returns-clause-steps
returns-clause-steps g c =
    let old = g.C.Chip.told c.args.chip.now in
    let mid = g.C.Chip.told c.barrier.new.chip in
    let new = g.C.Chip.told c.write_mark.new.chip in
    let t = tables_of c.args.parts.now in
    let after = tables_of c.write_mark.new.parts in
    let counts = c.in_ok-barrier.ensures.accounts.counts in
    closes_behind old.places t after c.write_mark.result old mid new counts c.in_ok-barrier.ensures.did
    (subst (λ (places : ℕ). ClosesClosed places t after mid c.write_mark.result new) counts.places c.write_mark.ensures.steps)

pub returns-clause-tidy : goal.returns-clause-tidy
returns-clause-tidy g c =
    tidies_behind (tables_of c.args.parts.now) (tables_of c.write_mark.new.parts) c.write_mark.result
    (g.C.Chip.told c.args.chip.now) (g.C.Chip.told c.barrier.new.chip) (g.C.Chip.told c.write_mark.new.chip)
    c.in_ok-barrier.ensures.accounts.counts c.in_ok-barrier.ensures.did c.write_mark.ensures.tidy

pub returns-clause-ends : goal.returns-clause-ends
returns-clause-ends g c =
    ends_behind c.write_mark.result
    (g.C.Chip.told c.args.chip.now) (g.C.Chip.told c.barrier.new.chip) (g.C.Chip.told c.write_mark.new.chip)
    c.in_ok-barrier.ensures.did c.write_mark.ensures.ends

pub returns-clause-costs : goal.returns-clause-costs
returns-clause-costs g c =
    costs_behind c.args.parts.now.status.place
    (g.C.Chip.told c.args.chip.now) (g.C.Chip.told c.barrier.new.chip) (g.C.Chip.told c.write_mark.new.chip)
    c.in_ok-barrier.ensures.did c.write_mark.ensures.costs
