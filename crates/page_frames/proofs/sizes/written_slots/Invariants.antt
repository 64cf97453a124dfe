use Rattle.page_frames.proofs.WrittenLemmas.{AreWriters}
use Rattle.page_frames.proofs.sizes.written_slots.Given as goal

-- so far the sessions before this one are noted for their names
abbrev pub invariant-loop-s : goal.invariant-loop-s
invariant-loop-s l = AreWriters l.sessions l.first l.s l.writers
