use Rattle.std.proofs.Common.{◌≡◌, length}
use Rattle.script_store.specs.Closes.{Aborts}
use Rattle.store_laws.specs.Keeps.{KnownPages}
use Rattle.script_store.proofs.ClosedLemmas.{AreClosedBelow}
use Rattle.script_store.proofs.store.ScriptStore.abort_all.Given as goal

-- the sessions so far were aborted, and are closed
abbrev pub invariant-loop-s : goal.invariant-loop-s
invariant-loop-s g l = record {
  idle : g.C.Chip.told l.chip ≡ g.C.Chip.told l.fn.chip;
  aborts : (known : KnownPages) → Aborts known l.fn.self (g.C.Chip.told l.fn.chip) l.self;
  all : length l.self.store.transactions.sessions ≡ length l.fn.self.store.transactions.sessions;
  closed : AreClosedBelow l.s l.self.store.transactions.sessions;
}
