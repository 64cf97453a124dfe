use Rattle.std.proofs.Common.{◌≡◌, ◌+◌, ◌<◌, ◌==◌, ◌/◌, cond, ℕ, List, map, length, drop, get_or, sym, ◌∙◌, ap, subst, arith, suc}
use Rattle.std.proofs.Math.ListN.{get_or-map}
use Rattle.std.proofs.lemmas.List.{length-map}
use Rattle.ipl_base.specs.declared.name.Name.{Name}
use Rattle.ipl_model.specs.Peaks.{weight_of_peak}
use Rattle.record_locks.specs.Held.{weight_listed}
use Rattle.record_locks.proofs.RankLemmas.{weight_next}
use Rattle.record_locks.proofs.session.weigh.Goals as goal

pub loop-i-preserved : goal.loop-i-preserved
loop-i-preserved c =
    let names : List ℕ = map (λ (n : Name). n.0) c.args.names.now in
    let sizes = c.args.sizes.now in
    let i = c.loop-i.i in
    let within : i < length names = omega (arith, c.loop-i-test.true, length-map c.args.names.now (λ (n : Name). n.0)) in
    let at : get_or names i 0 ≡ (get_or c.args.names.now i (record { 0 = 0 })).0 = get_or-map (λ (n : Name). n.0) c.args.names.now i (record { 0 = 0 }) in
    let here : c.weight_at-weight.result ≡ cond (get_or names i 0 / 960 == c.args.unit) (weight_of_peak (1 + get_or sizes i 0)) 0 =
    c.weight_at-weight.ensures.weight ∙ ap (λ (k : ℕ). cond (k / 960 == c.args.unit) (weight_of_peak (1 + get_or sizes i 0)) 0) (sym at) in
    let next = weight_next names sizes i c.args.unit within in
    let one : suc i ≡ i + 1 = omega arith in
    record {
      later = subst (λ (k : ℕ). weight_listed names sizes c.args.unit ≡ c.loop-i.weight + c.weight_at-weight.result + weight_listed (drop k names) (drop k sizes) c.args.unit) one
          (added _ _ _ _ _ c.loop-i.invariant.later next here);
      few = omega (arith, c.loop-i.invariant.few, c.weight_at-weight.ensures.few);
    }
  where
    added : (all sum rest this tail : ℕ) {w : ℕ} → all ≡ sum + rest → rest ≡ this + tail → w ≡ this → all ≡ sum + w + tail
    added all sum rest this tail before next here = omega (arith, before, next, here)
