use Rattle.std.proofs.Common.{◌∙◌, Result, Err, None, inr, subst, ap, take}
use Rattle.std.proofs.lemmas.Result.{err_from_is_err_and}
use Rattle.ipl_keys.specs.BucketPairs.{remove_pair}
use Rattle.ipl_keys.specs.BucketHome.{bucket_of}
use Rattle.ipl_keys.specs.Calls.{bad_key, early_key_fault, Dels, IsBucketWritten}
use Rattle.ipl_keys.proofs.ReadLemmas.{bad_key_is_good, named}
use Rattle.ipl_keys.specs.declared.fault.KeyFault.{KeyFault}
use Rattle.ipl_keys.proofs.NeverLemmas.{bad_key_met, changing_met, in_units}
use Rattle.ipl_keys.proofs.ChangeLemmas.{changes_failed, changes_read, changing_serves, pairs_written}
use Rattle.store_laws.specs.Keeps.{limits_of}
use Rattle.ipl_keys.proofs.keys.Keys.del.Goals as goal

pub returns-in_err-len-clause-calls : goal.returns-in_err-len-clause-calls
returns-in_err-len-clause-calls g c =
    let e = err_from_is_err_and c.from_residual.result c.from_residual.ensures.1 in
    let a = c.args.self.now.store in
    let b = c.look.new.self.store in
    let before = g.C.Chip.told c.args.chip.now in
    let after = g.C.Chip.told c.look.new.chip in
    let bytes = c.args.key.now in
    let s = c.args.s in
    let n = c.name_of-n.result in
    let fault = c.in_err-len.field-0.0 in
    rw (e.1 ∙ ap Err e.2) (named s a b before after (Err fault) (λ m. Dels s m bytes a before (Err fault) b after)
    c.bad_key.result _ n _ c.bad_key.ensures c.name_of-n.ensures.name
    (changes_failed (early_key_fault a c.bad_key.result s) s n
    (λ pairs mid told. IsBucketWritten s n (remove_pair bytes pairs) mid told (Err fault) b after) a b before
    after fault c.in_err-len.ensures.copies.calls))

pub returns-in_err-len-clause-serves : goal.returns-in_err-len-clause-serves
returns-in_err-len-clause-serves g c =
    let a = c.args.self.now.store in
    let b = c.look.new.self.store in
    let before = g.C.Chip.told c.args.chip.now in
    let after = g.C.Chip.told c.look.new.chip in
    let bytes = c.args.key.now in
    let s = c.args.s in
    let result = c.from_residual.result in
    changing_serves s (bytes, None) a b before after result
    (λ pairs mid told. IsBucketWritten s (bucket_of a.units bytes) (remove_pair bytes pairs) mid told result b
    after) (λ pairs mid told wrote. inr wrote) (bad_key bytes) (bad_key_is_good bytes)
    (returns-in_err-len-clause-calls g c)

pub returns-clause-calls : goal.returns-clause-calls
returns-clause-calls g c =
    let a = c.args.self.now.store in
    let mid = c.look.new.self.store in
    let told = g.C.Chip.told c.look.new.chip in
    let b = c.write.new.self.store in
    let before = g.C.Chip.told c.args.chip.now in
    let after = g.C.Chip.told c.write.new.chip in
    let bytes = c.args.key.now in
    let s = c.args.s in
    let n = c.name_of-n.result in
    let result = c.write.result in
    let (pairs, spells) = c.in_ok-len.ensures.copies.bucket in
    named s a b before after result (λ m. Dels s m bytes a before result b after)
    c.bad_key.result _ n _ c.bad_key.ensures c.name_of-n.ensures.name
    (changes_read (early_key_fault a c.bad_key.result s) s n
    (λ ps store t. IsBucketWritten s n (remove_pair bytes ps) store t result b after) a mid before told b after
    result c.in_ok-len.len (take c.in_ok-len.len c.look.new.self.bucket) pairs c.in_ok-len.ensures.copies.calls
    spells (pairs_written s n (take c.without-end.result c.without-end.new.into) (remove_pair bytes pairs)
    mid b told after result (c.without-end.ensures.removed pairs spells) c.write.ensures.writes)
    c.write.ensures.sound
    (λ i. limits_of (c.write.ensures.sessions i) (c.write.ensures.units i)) c.write.ensures.counts)

pub returns-clause-serves : goal.returns-clause-serves
returns-clause-serves g c =
    let a = c.args.self.now.store in
    let b = c.write.new.self.store in
    let before = g.C.Chip.told c.args.chip.now in
    let after = g.C.Chip.told c.write.new.chip in
    let bytes = c.args.key.now in
    let s = c.args.s in
    changing_serves s (bytes, None) a b before after c.write.result
    (λ pairs mid told. IsBucketWritten s (bucket_of a.units bytes) (remove_pair bytes pairs) mid told
    c.write.result b after) (λ pairs mid told wrote. inr wrote) (bad_key bytes)
    (bad_key_is_good bytes) (returns-clause-calls g c)

pub returns-in_err-len-clause-met : goal.returns-in_err-len-clause-met
returns-in_err-len-clause-met g c =
    let a = c.args.self.now.store in
    let b = c.look.new.self.store in
    let before = g.C.Chip.told c.args.chip.now in
    let after = g.C.Chip.told c.look.new.chip in
    let bytes = c.args.key.now in
    let s = c.args.s in
    let result = c.from_residual.result in
    changing_met s (bucket_of a.units bytes) (bad_key bytes)
    (λ pairs mid told. IsBucketWritten s (bucket_of a.units bytes) (remove_pair bytes pairs) mid told result
    b after)
    a b before after (remove_pair bytes) (in_units a c.name_of-n.result bytes c.name_of-n.ensures.name
    c.name_of-n.ensures.within) (bad_key_met bytes) result
    (λ fault is pairs mid told did. inr (subst (λ (q : Result (Unit {0}) KeyFault). IsBucketWritten s (bucket_of a.units bytes) (remove_pair bytes pairs) mid told q b after) is did))
    (returns-in_err-len-clause-calls g c)

pub returns-clause-met : goal.returns-clause-met
returns-clause-met g c =
    let a = c.args.self.now.store in
    let b = c.write.new.self.store in
    let before = g.C.Chip.told c.args.chip.now in
    let after = g.C.Chip.told c.write.new.chip in
    let bytes = c.args.key.now in
    let s = c.args.s in
    let result = c.write.result in
    changing_met s (bucket_of a.units bytes) (bad_key bytes)
    (λ pairs mid told. IsBucketWritten s (bucket_of a.units bytes) (remove_pair bytes pairs) mid told result
    b after)
    a b before after (remove_pair bytes) (in_units a c.name_of-n.result bytes c.name_of-n.ensures.name
    c.name_of-n.ensures.within) (bad_key_met bytes) result
    (λ fault is pairs mid told did. inr (subst (λ (q : Result (Unit {0}) KeyFault). IsBucketWritten s (bucket_of a.units bytes) (remove_pair bytes pairs) mid told q b after) is did))
    (returns-clause-calls g c)
