use Rattle.std.proofs.Common.{◌≡◌, drop}
use Rattle.record_locks.specs.Held.{written_by}
use Rattle.page_frames.specs.Changed.{is_on_page}
use Rattle.page_frames.proofs.sessions.has_page.Given as goal

-- a name of one of the sessions is on the page where a name of one of the rest is
abbrev pub invariant-loop-s : goal.invariant-loop-s
invariant-loop-s l = is_on_page (written_by l.sessions l.numbers) l.unit l.page
    ≡ is_on_page (written_by l.sessions (drop l.s-index l.numbers)) l.unit l.page
