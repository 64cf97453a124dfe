use Rattle.unit_directory.proofs.FreeLemmas.{IsFoundBelow}
use Rattle.unit_directory.proofs.directory.Directory.next_free.Given as goal

-- the next of the places so far is found
abbrev pub invariant-loop-place : goal.invariant-loop-place
invariant-loop-place l = IsFoundBelow l.self l.place l.next
