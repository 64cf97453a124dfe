use Rattle.std.proofs.Common.{◌≡◌, ◌≤◌, ◌+◌, count_by, Some}
use Rattle.buffer_pool.specs.Holding.{is_pinned, pinned_count}
use Rattle.buffer_pool.proofs.pool.Pool.held.Given as goal

-- those counted and those among the entries left are all
abbrev pub invariant-loop-key : goal.invariant-loop-key
invariant-loop-key l =
    (goal.iterator-loop-key).can_next l._key-iterator ×
    (goal.iterator-loop-key).is_finite l._key-iterator ×
    (l.held + count_by (λ e. is_pinned (Some e.1)) l._key-iterator ≡ pinned_count l.self.buffers) ×
    (pinned_count l.self.buffers ≤ 64)
