use Rattle.std.proofs.Common.{map, take}
use Rattle.page_frames.proofs.WrittenLemmas.{AreNoted}
use Rattle.page_frames.proofs.sizes.note_names.Given as goal

-- so far the session is noted for the names before this one
abbrev pub invariant-loop-name : goal.invariant-loop-name
invariant-loop-name l = AreNoted l.s (map (λ n. n.0) (take l.name-index l.names)) l.first l.initial.writers l.writers
