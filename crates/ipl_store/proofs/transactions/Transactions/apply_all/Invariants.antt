use Rattle.std.proofs.Common.{◌≡◌, take}
use Rattle.buffer_pool.specs.Holding.{KeepsPins}
use Rattle.store_laws.specs.NamedFrames.{ApplyInTurn}
use Rattle.page_frames.specs.Pages.{frames_in}
use Rattle.ipl_store.proofs.transactions.Transactions.apply_all.Given as goal

-- what the sessions so far changed are values, and nothing else is another
abbrev pub invariant-loop-s : goal.invariant-loop-s
invariant-loop-s l =
    ApplyInTurn l.fn.self.sessions (take l.s-index l.numbers) (frames_in l.fn.self.pages)
    (frames_in l.self.pages)
    × KeepsPins l.fn.self.pages.pool l.self.pages.pool
    × (l.self.pages.parts ≡ l.fn.self.pages.parts) × (l.self.sessions ≡ l.fn.self.sessions)
