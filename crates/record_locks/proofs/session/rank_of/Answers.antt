use Rattle.std.proofs.Common.{◌≡◌, ◌+◌, ◌<◌, ℕ, List, map, length, drop, get_or, sym, ◌∙◌, subst, arith, suc}
use Rattle.std.proofs.Math.ListN.{get_or-map}
use Rattle.std.proofs.lemmas.List.{length-map}
use Rattle.std.proofs.lemmas.Bool.{eq-eqb, ne_eqb}
use Rattle.ipl_base.specs.declared.name.Name.{Name}
use Rattle.record_locks.specs.Held.{rank_of}
use Rattle.record_locks.proofs.RankLemmas.{rank_here, rank_later}
use Rattle.record_locks.proofs.session.rank_of.Goals as goal

pub returns-then-listed-name-clause-rank : goal.returns-then-listed-name-clause-rank
returns-then-listed-name-clause-rank c =
    let names : List ℕ = map (λ (n : Name). n.0) c.args.names.now in
    let i = c.loop-listed.listed-index in
    let within : i < length names = omega (arith, c.loop-listed-test.true, length-map c.args.names.now (λ (n : Name). n.0)) in
    let at : get_or names i 0 ≡ c.args.name.0 = get_or-map (λ (n : Name). n.0) c.args.names.now i (record { 0 = 0 }) ∙ c.if-listed-name.true in
    omega (arith, c.loop-listed.invariant.so_far, c.loop-listed.invariant.later, rank_here names i c.args.name.0 within (eq-eqb _ _ at))

pub loop-listed-preserved : goal.loop-listed-preserved
loop-listed-preserved c =
    let names : List ℕ = map (λ (n : Name). n.0) c.args.names.now in
    let i = c.loop-listed.listed-index in
    let within : i < length names = omega (arith, c.loop-listed-test.true, length-map c.args.names.now (λ (n : Name). n.0)) in
    let at : get_or names i 0 ≡ (get_or c.args.names.now i (record { 0 = 0 })).0 = get_or-map (λ (n : Name). n.0) c.args.names.now i (record { 0 = 0 }) in
    let later = rank_later names i c.args.name.0 within (ne_eqb _ _ (λ is. c.if-listed-name.false (sym at ∙ is))) in
    let next : suc i ≡ i + 1 = omega arith in
    record {
      so_far = omega (arith, c.loop-listed.invariant.so_far);
      later = subst (λ (k : ℕ). rank_of c.args.name.0 names ≡ k + rank_of c.args.name.0 (drop k names)) next (omega (arith, c.loop-listed.invariant.later, later));
    }
