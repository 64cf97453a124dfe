use Rattle.ipl_model.specs.Operations.{after_share}
use Rattle.ipl_store.specs.Calls.{share_fault}
use Rattle.ipl_keys.proofs.ReadLemmas.{found_as, failed_as}
use Rattle.ipl_keys.proofs.keys.Keys.share_name.Goals as goal

pub returns-in-Ok : goal.returns-in-Ok
returns-in-Ok g c =
    let store = c.args.self.now.store in
    found_as (share_fault store c.args.s c.args.n) (λ state. after_share state c.args.s c.args.n) 14 store
    (g.C.Chip.told c.args.chip.now) c.share.result c.in-Ok._found tt
    c.share.follows.lender-at-none (g.C.Chip.told c.share.new.chip) c.in-Ok.is
    c.share.follows.holds-at-none.calls

pub returns-in-Err : goal.returns-in-Err
returns-in-Err g c =
    let store = c.args.self.now.store in
    failed_as (share_fault store c.args.s c.args.n) (λ state. after_share state c.args.s c.args.n) 14 store
    (g.C.Chip.told c.args.chip.now) c.share.result c.in-Err.fault c.share.follows.lender-at-none
    (g.C.Chip.told c.share.new.chip) c.in-Err.is c.share.follows.holds-at-none.calls
