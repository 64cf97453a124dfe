use Rattle.std.proofs.Common.{◌≡◌, ◌≤◌, ◌==◌, filter, length, take}
use Rattle.ipl_model.proofs.numbers.count_of.Given as goal

abbrev pub invariant-loop-t : goal.invariant-loop-t
invariant-loop-t l = record { so_far : l.count ≡ length (filter (λ t. t == l.s) (take l.t-index l.numbers)); few : l.count ≤ l.t-index }
