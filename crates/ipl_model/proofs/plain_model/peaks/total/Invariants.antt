use Rattle.std.proofs.Common.{◌≡◌, ◌≤◌, ◌*◌, ◌^◌, take}
use Rattle.std.specs.List.{sum}
use Rattle.ipl_model.proofs.plain_model.peaks.total.Given as goal

abbrev pub invariant-loop-room : goal.invariant-loop-room
invariant-loop-room l = record { so_far : l.total ≡ sum (take l.room-index l.rooms); few : l.total ≤ 2 ^ 32 * l.room-index }
