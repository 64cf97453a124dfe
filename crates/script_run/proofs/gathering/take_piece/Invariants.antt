use Rattle.std.proofs.Common.{take}
use Rattle.script_run.specs.View.{GathersCommands}
use Rattle.script_run.proofs.gathering.take_piece.Given as goal

-- the bytes so far became commands, or are kept
abbrev pub invariant-loop-byte : goal.invariant-loop-byte
invariant-loop-byte l = GathersCommands (take l.byte-index l.piece) l.fn.commands.items l.fn.line l.commands.items l.line
