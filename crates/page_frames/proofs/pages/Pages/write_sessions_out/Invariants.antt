use Rattle.record_locks.specs.Held.{written_by}
use Rattle.page_frames.proofs.OutAllLemmas.{IsOutBelow}
use Rattle.page_frames.proofs.pages.Pages.write_sessions_out.Given as goal

-- the pages before this one that are of the names have no records in memory
abbrev pub invariant-loop-i : goal.invariant-loop-i
invariant-loop-i g l = IsOutBelow l.i (written_by l.sessions l.numbers) l.fn.self
    (g.C.Chip.told l.fn.chip) l.self (g.C.Chip.told l.chip)
