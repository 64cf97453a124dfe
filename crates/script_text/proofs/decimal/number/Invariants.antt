use Rattle.std.proofs.Common.{◌≡◌, ◌<◌, ◌^◌, drop}
use Rattle.ipl_model.specs.Grammar.{number_behind}
use Rattle.script_text.proofs.decimal.number.Given as goal

-- the rest of the word goes on behind the value so far
abbrev pub invariant-loop-byte : goal.invariant-loop-byte
invariant-loop-byte l = record { rest : number_behind l.value (drop l.byte-index l.word) ≡ number_behind 0 l.word; fits : l.value < 2 ^ 32 }
