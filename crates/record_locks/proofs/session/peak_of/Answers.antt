use Rattle.std.proofs.Common.{◌≡◌, map, sym, ◌∙◌, ap, arith, ℕ, List, get_or}
use Rattle.std.proofs.lemmas.List.{length-map}
use Rattle.ipl_base.specs.declared.name.Name.{Name}
use Rattle.record_locks.specs.Held.{rank_of}
use Rattle.record_locks.proofs.RankLemmas.{peak_past, peak_here}
use Rattle.record_locks.proofs.session.peak_of.Goals as goal

pub returns-then-rank-names-clause-peak : goal.returns-then-rank-names-clause-peak
returns-then-rank-names-clause-peak c =
    let names : List ℕ = map (λ (n : Name). n.0) c.args.names.now in
    sym (peak_past names c.args.sizes.now c.args.name.0 (omega (arith, c.if-rank-names.true, c.rank_of-rank.ensures.rank, length-map c.args.names.now (λ (n : Name). n.0))))

pub returns-clause-peak : goal.returns-clause-peak
returns-clause-peak c =
    let names : List ℕ = map (λ (n : Name). n.0) c.args.names.now in
    let here = peak_here names c.args.sizes.now c.args.name.0 (omega (arith, c.if-rank-names.false, c.rank_of-rank.ensures.rank, length-map c.args.names.now (λ (n : Name). n.0)))
    (omega (arith, c.requires, length-map c.args.names.now (λ (n : Name). n.0))) in
    let value : c.from.result ≡ get_or c.args.sizes.now (rank_of c.args.name.0 names) 0 = c.from.ensures ∙ ap (λ (k : ℕ). get_or c.args.sizes.now k 0) c.rank_of-rank.ensures.rank in
    omega (arith, here, value)
