use Rattle.std.proofs.Common.{List, ℕ, Option, sym, subst}
use Rattle.ipl_keys.specs.Calls.{WritesName}
use Rattle.ipl_keys.proofs.ChangeLemmas.{some_change}
use Rattle.ipl_keys.proofs.keys.Keys.write.Goals as goal

pub returns-clause-writes : goal.returns-clause-writes
returns-clause-writes g c = (
  c.put.result,
  c.handed-2.ensures,
  subst (λ (o : Option (List ℕ)). WritesName c.args.s c.args.n o c.args.self.now.store
      (g.C.Chip.told c.args.chip.now) c.put.result c.put.new.self (g.C.Chip.told c.put.new.chip))
      (sym (some_change c.args.bytes.now c.if-is_empty.ensures))
      (record { calls = c.put.ensures.calls; full = c.put.ensures.full }),
)
