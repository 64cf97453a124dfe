use Rattle.ipl_store.specs.Calls.{IsSound}
use Rattle.chip_trait.proofs.CountsLemmas.{counts_none}
use Rattle.std.proofs.Common.{ℕ, sym, subst, ◌∙◌, Result, ◌⊎◌, Err, Some, inl, inr, refl, ap, take}
use Rattle.std.proofs.lemmas.Result.{err_from_is_err_and}
use Rattle.ipl_keys.specs.BucketPairs.{set_pair}
use Rattle.ipl_keys.specs.BucketHome.{bucket_of}
use Rattle.ipl_keys.specs.Calls.{bad_pair, early_key_fault, Puts, IsFull, IsBucketWritten}
use Rattle.ipl_keys.proofs.ReadLemmas.{bad_pair_is_good, named}
use Rattle.ipl_keys.specs.declared.fault.KeyFault.{KeyFault}
use Rattle.ipl_keys.proofs.NeverLemmas.{bad_pair_met, changing_met, in_units}
use Rattle.ipl_keys.proofs.ChangeLemmas.{changes_failed, changes_read, changing_serves, full_at, pairs_written}
use Rattle.store_laws.specs.Keeps.{limits_of}
use Rattle.ipl_keys.proofs.keys.Keys.put.Goals as goal

pub returns-in_err-len-clause-calls : goal.returns-in_err-len-clause-calls
returns-in_err-len-clause-calls g c =
    let e = err_from_is_err_and c.from_residual.result c.from_residual.ensures.1 in
    let a = c.args.self.now.store in
    let b = c.look.new.self.store in
    let before = g.C.Chip.told c.args.chip.now in
    let after = g.C.Chip.told c.look.new.chip in
    let bytes = c.args.key.now in
    let value = c.args.value.now in
    let s = c.args.s in
    let n = c.name_of-n.result in
    let fault = c.in_err-len.field-0.0 in
    rw (e.1 ∙ ap Err e.2) (named s a b before after (Err fault) (λ m. Puts s m bytes value a before (Err fault) b after)
    c.bad_pair.result _ n _ c.bad_pair.ensures c.name_of-n.ensures.name
    (changes_failed (early_key_fault a c.bad_pair.result s) s n
    (λ pairs mid told. IsFull n (set_pair bytes value pairs) mid told (Err fault) b after
    ⊎ IsBucketWritten s n (set_pair bytes value pairs) mid told (Err fault) b after) a b before
    after fault c.in_err-len.ensures.copies.calls))

pub returns-in_err-len-clause-serves : goal.returns-in_err-len-clause-serves
returns-in_err-len-clause-serves g c =
    let a = c.args.self.now.store in
    let b = c.look.new.self.store in
    let before = g.C.Chip.told c.args.chip.now in
    let after = g.C.Chip.told c.look.new.chip in
    let bytes = c.args.key.now in
    let value = c.args.value.now in
    let s = c.args.s in
    let result = c.from_residual.result in
    changing_serves s (bytes, Some value) a b before after result
    (λ pairs mid told. IsFull (bucket_of a.units bytes) (set_pair bytes value pairs) mid told result b after
    ⊎ IsBucketWritten s (bucket_of a.units bytes) (set_pair bytes value pairs) mid told result b after)
    (λ pairs mid told is. is) (bad_pair bytes value) (bad_pair_is_good bytes value)
    (returns-in_err-len-clause-calls g c)

pub returns-clause-calls : goal.returns-clause-calls
returns-clause-calls g c =
    let a = c.args.self.now.store in
    let mid = c.look.new.self.store in
    let told = g.C.Chip.told c.look.new.chip in
    let b = c.write.new.self.store in
    let before = g.C.Chip.told c.args.chip.now in
    let after = g.C.Chip.told c.write.new.chip in
    let bytes = c.args.key.now in
    let value = c.args.value.now in
    let s = c.args.s in
    let n = c.name_of-n.result in
    let result = c.write.result in
    let (pairs, spells) = c.in_ok-len.ensures.copies.bucket in
    named s a b before after result (λ m. Puts s m bytes value a before result b after)
    c.bad_pair.result _ n _ c.bad_pair.ensures c.name_of-n.ensures.name
    (changes_read (early_key_fault a c.bad_pair.result s) s n
    (λ ps store t. IsFull n (set_pair bytes value ps) store t result b after
    ⊎ IsBucketWritten s n (set_pair bytes value ps) store t result b after) a mid before told b after
    result c.in_ok-len.len (take c.in_ok-len.len c.look.new.self.bucket) pairs c.in_ok-len.ensures.copies.calls
    spells (inr (pairs_written s n (take c.in-Some.end c.with_pair.new.into) (set_pair bytes value pairs)
    mid b told after result (c.in-Some.ensures.set pairs spells) c.write.ensures.writes))
    c.write.ensures.sound
    (λ i. limits_of (c.write.ensures.sessions i) (c.write.ensures.units i)) c.write.ensures.counts)

pub returns-clause-serves : goal.returns-clause-serves
returns-clause-serves g c =
    let a = c.args.self.now.store in
    let b = c.write.new.self.store in
    let before = g.C.Chip.told c.args.chip.now in
    let after = g.C.Chip.told c.write.new.chip in
    let bytes = c.args.key.now in
    let value = c.args.value.now in
    let s = c.args.s in
    changing_serves s (bytes, Some value) a b before after c.write.result
    (λ pairs mid told. IsFull (bucket_of a.units bytes) (set_pair bytes value pairs) mid told c.write.result b
    after ⊎ IsBucketWritten s (bucket_of a.units bytes) (set_pair bytes value pairs) mid told c.write.result b
    after) (λ pairs mid told is. is) (bad_pair bytes value)
    (bad_pair_is_good bytes value) (returns-clause-calls g c)

pub returns-in_default-clause-calls : goal.returns-in_default-clause-calls
returns-in_default-clause-calls g c =
    let a = c.args.self.now.store in
    let b = c.look.new.self.store in
    let before = g.C.Chip.told c.args.chip.now in
    let after = g.C.Chip.told c.look.new.chip in
    let bytes = c.args.key.now in
    let value = c.args.value.now in
    let s = c.args.s in
    let n = c.name_of-n.result in
    let (pairs, spells) = c.in_ok-len.ensures.copies.bucket in
    let changed = set_pair bytes value pairs in
    let full : IsFull n changed b after (full_at n) b after =
    record { long = c.in_default.ensures.full pairs spells; answer = refl; same = refl; idle = refl } in
    named s a b before after (full_at n) (λ m. Puts s m bytes value a before (full_at n) b after)
    c.bad_pair.result _ n _ c.bad_pair.ensures c.name_of-n.ensures.name
    (changes_read (early_key_fault a c.bad_pair.result s) s n
    (λ ps store t. IsFull n (set_pair bytes value ps) store t (full_at n) b after
    ⊎ IsBucketWritten s n (set_pair bytes value ps) store t (full_at n) b after) a b before after b after
    (full_at n) c.in_ok-len.len (take c.in_ok-len.len c.look.new.self.bucket) pairs
    c.in_ok-len.ensures.copies.calls spells (inl full)
    (subst (λ (p : ℕ). IsSound p b) (sym c.in_ok-len.ensures.copies.calls.counts.places)
    c.in_ok-len.ensures.copies.calls.sound) refl (counts_none after))

pub returns-in_default-clause-serves : goal.returns-in_default-clause-serves
returns-in_default-clause-serves g c =
    let a = c.args.self.now.store in
    let b = c.look.new.self.store in
    let before = g.C.Chip.told c.args.chip.now in
    let after = g.C.Chip.told c.look.new.chip in
    let bytes = c.args.key.now in
    let value = c.args.value.now in
    let s = c.args.s in
    let result = full_at c.name_of-n.result in
    changing_serves s (bytes, Some value) a b before after result
    (λ pairs mid told. IsFull (bucket_of a.units bytes) (set_pair bytes value pairs) mid told result b after
    ⊎ IsBucketWritten s (bucket_of a.units bytes) (set_pair bytes value pairs) mid told result b after)
    (λ pairs mid told is. is) (bad_pair bytes value) (bad_pair_is_good bytes value)
    (returns-in_default-clause-calls g c)

pub returns-in_err-len-clause-met : goal.returns-in_err-len-clause-met
returns-in_err-len-clause-met g c =
    let a = c.args.self.now.store in
    let b = c.look.new.self.store in
    let before = g.C.Chip.told c.args.chip.now in
    let after = g.C.Chip.told c.look.new.chip in
    let bytes = c.args.key.now in
    let value = c.args.value.now in
    let s = c.args.s in
    let result = c.from_residual.result in
    changing_met s (bucket_of a.units bytes) (bad_pair bytes value)
    (λ pairs mid told. IsFull (bucket_of a.units bytes) (set_pair bytes value pairs) mid told result b after
    ⊎ IsBucketWritten s (bucket_of a.units bytes) (set_pair bytes value pairs) mid told result b after)
    a b before after (set_pair bytes value) (in_units a c.name_of-n.result bytes c.name_of-n.ensures.name
    c.name_of-n.ensures.within) (bad_pair_met bytes value) result
    (λ fault is pairs mid told did. subst (λ (q : Result (Unit {0}) KeyFault). IsFull (bucket_of a.units bytes) (set_pair bytes value pairs) mid told q b after ⊎ IsBucketWritten s (bucket_of a.units bytes) (set_pair bytes value pairs) mid told q b after) is did)
    (returns-in_err-len-clause-calls g c)

pub returns-in_default-clause-met : goal.returns-in_default-clause-met
returns-in_default-clause-met g c =
    let a = c.args.self.now.store in
    let b = c.look.new.self.store in
    let before = g.C.Chip.told c.args.chip.now in
    let after = g.C.Chip.told c.look.new.chip in
    let bytes = c.args.key.now in
    let value = c.args.value.now in
    let s = c.args.s in
    let result = full_at c.name_of-n.result in
    changing_met s (bucket_of a.units bytes) (bad_pair bytes value)
    (λ pairs mid told. IsFull (bucket_of a.units bytes) (set_pair bytes value pairs) mid told result b after
    ⊎ IsBucketWritten s (bucket_of a.units bytes) (set_pair bytes value pairs) mid told result b after)
    a b before after (set_pair bytes value) (in_units a c.name_of-n.result bytes c.name_of-n.ensures.name
    c.name_of-n.ensures.within) (bad_pair_met bytes value) result
    (λ fault is pairs mid told did. subst (λ (q : Result (Unit {0}) KeyFault). IsFull (bucket_of a.units bytes) (set_pair bytes value pairs) mid told q b after ⊎ IsBucketWritten s (bucket_of a.units bytes) (set_pair bytes value pairs) mid told q b after) is did)
    (returns-in_default-clause-calls g c)

pub returns-clause-met : goal.returns-clause-met
returns-clause-met g c =
    let a = c.args.self.now.store in
    let b = c.write.new.self.store in
    let before = g.C.Chip.told c.args.chip.now in
    let after = g.C.Chip.told c.write.new.chip in
    let bytes = c.args.key.now in
    let value = c.args.value.now in
    let s = c.args.s in
    let result = c.write.result in
    changing_met s (bucket_of a.units bytes) (bad_pair bytes value)
    (λ pairs mid told. IsFull (bucket_of a.units bytes) (set_pair bytes value pairs) mid told result b after
    ⊎ IsBucketWritten s (bucket_of a.units bytes) (set_pair bytes value pairs) mid told result b after)
    a b before after (set_pair bytes value) (in_units a c.name_of-n.result bytes c.name_of-n.ensures.name
    c.name_of-n.ensures.within) (bad_pair_met bytes value) result
    (λ fault is pairs mid told did. subst (λ (q : Result (Unit {0}) KeyFault). IsFull (bucket_of a.units bytes) (set_pair bytes value pairs) mid told q b after ⊎ IsBucketWritten s (bucket_of a.units bytes) (set_pair bytes value pairs) mid told q b after) is did)
    (returns-clause-calls g c)
