use Rattle.std.proofs.Common.{◌≡◌, ◌+◌, ◌/◌, max, ℕ, ◌∙◌, ap, ap₂, arith}
use Rattle.ipl_model.specs.Peaks.{with_peak, weight_of_peak, weights}
use Rattle.ipl_model.proofs.WeightLemmas.{weights_at}
use Rattle.std.proofs.Math.Nat.{max_comm}
use Rattle.record_locks.specs.Held.{peaks_in}
use Rattle.record_locks.proofs.SoundLemmas.{lighter}
use Rattle.record_locks.proofs.sessions.Sessions.overloads.Goals as goal

pub returns : goal.returns
returns c =
    let ms = peaks_in c.args.self.now in
    let n = c.args.name.0 in
    let m = 1 + c.args.size in
    let at = weights_at ms n m in
    let old : c.weight_of-2.result ≡ weight_of_peak (ms n) = c.weight_of-2.ensures.weight ∙ ap weight_of_peak c.peak-old.ensures.peak in
    let new : c.weight_of.result ≡ weight_of_peak (max m (ms n)) =
    c.weight_of.ensures.weight ∙ ap weight_of_peak (c.max-new.ensures ∙ ap₂ (λ (x y : ℕ). max x y) c.peak-old.ensures.peak (ap (λ (x : ℕ). 1 + x) c.from.ensures) ∙ max_comm (ms n) m) in
    let sum : weights (with_peak ms n m) (n / 960) + c.weight_of-2.result ≡ c.pending.result + c.weight_of.result = omega (arith, at, old, new, c.pending.ensures.weight) in
    lighter c.weight_of-2.result c.weight_of.result c.pending.result (weights (with_peak ms n m) (n / 960)) sum
