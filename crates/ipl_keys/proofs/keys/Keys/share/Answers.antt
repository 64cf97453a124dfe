use Rattle.std.proofs.Common.{None, Option, ◌∙◌, ap}
use Rattle.ipl_store.specs.Calls.{entry_fault}
use Rattle.ipl_keys.specs.BucketHome.{bucket_of}
use Rattle.ipl_keys.specs.Calls.{first_fault}
use Rattle.ipl_keys.specs.declared.fault.KeyFault.{KeyFault}
use Rattle.ipl_keys.specs.declared.keys.Keys.{Keys}
use Rattle.ipl_keys.proofs.SharingLemmas.{share_asked, share_calls, share_serves, unshared_serves}
use Rattle.ipl_keys.proofs.keys.Keys.share.Goals as goal

pub returns-in-Err-clause-serves : goal.returns-in-Err-clause-serves
returns-in-Err-clause-serves g c =
    let store = c.args.self.now.store in
    unshared_serves c.args.key.now store c.admit.new.self.store (g.C.Chip.told c.args.chip.now)
    (g.C.Chip.told c.admit.new.chip) c.in-Err.fault
    (c.in-Err.ensures.early ∙ ap (λ (o : Option KeyFault). first_fault (entry_fault store) o None) c.bad_key.ensures)
    (ap (λ (keys : Keys). keys.store) c.in-Err.ensures.same) c.in-Err.ensures.idle

pub returns-clause-calls : goal.returns-clause-calls
returns-clause-calls g c =
    let store = c.args.self.now.store in
    let bytes = c.args.key.now in
    let n = bucket_of store.units bytes in
    let b = c.share_name.new.self.store in
    let before = g.C.Chip.told c.args.chip.now in
    let after = g.C.Chip.told c.share_name.new.chip in
    let calls = share_asked bytes c.args.s c.name_of-n.result store c.admit.new.self.store b before
    (g.C.Chip.told c.admit.new.chip) after c.share_name.result (ap (λ (keys : Keys). keys.store) c.in_default.ensures.same)
    c.in_default.ensures.idle c.name_of-n.ensures.name c.share_name.ensures in
    share_calls bytes c.args.s n store b before after c.handed.result
    (c.in_default.ensures.early ∙ ap (λ (o : Option KeyFault). first_fault (entry_fault store) o None) c.bad_key.ensures)
    c.share_name.result calls (c.share_name.result, c.handed.ensures, calls)

pub returns-clause-serves : goal.returns-clause-serves
returns-clause-serves g c =
    let store = c.args.self.now.store in
    let bytes = c.args.key.now in
    let b = c.share_name.new.self.store in
    let before = g.C.Chip.told c.args.chip.now in
    let after = g.C.Chip.told c.share_name.new.chip in
    let calls = share_asked bytes c.args.s c.name_of-n.result store c.admit.new.self.store b before
    (g.C.Chip.told c.admit.new.chip) after c.share_name.result (ap (λ (keys : Keys). keys.store) c.in_default.ensures.same)
    c.in_default.ensures.idle c.name_of-n.ensures.name c.share_name.ensures in
    share_serves c.args.s (bucket_of store.units bytes) store b before after c.handed.result
    (c.share_name.result, c.handed.ensures, calls)
