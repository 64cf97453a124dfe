use Rattle.std.proofs.Common.{◌≡◌, ℕ, map, length, take}
use Rattle.std.specs.List.{range_with_len}
use Rattle.script_run.specs.TrialWords.{put_byte}
use Rattle.script_run.proofs.trial_commands.bytes.Given as goal

-- the first i bytes are those of the put
abbrev pub invariant-loop-i : goal.invariant-loop-i
invariant-loop-i l = (length l.bytes ≡ 108)
    × (take l.i l.bytes ≡ map (λ (j : ℕ). put_byte l.fn.word j) (range_with_len 0 l.i))
