use Rattle.std.proofs.Common.{ap}
use Rattle.ipl_keys.specs.declared.keys.Keys.{Keys}
use Rattle.ipl_keys.proofs.ReadLemmas.{not_admitted}
use Rattle.ipl_keys.proofs.keys.Keys.look.Goals as goal

pub returns-in-Err-clause-copies : goal.returns-in-Err-clause-copies
returns-in-Err-clause-copies g c =
    record {
      calls = not_admitted c.args.s c.args.bad c.args.self.now.store c.admit.new.self.store
          (g.C.Chip.told c.args.chip.now) (g.C.Chip.told c.admit.new.chip) c.in-Err.fault _
          c.in-Err.ensures.early (ap (λ (keys : Keys). keys.store) c.in-Err.ensures.same) c.in-Err.ensures.idle
          c.requires.sound;
      bucket = tt;
      most = tt;
    }
