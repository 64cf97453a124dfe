use Rattle.std.proofs.Common.{inl, inr, refl, sym, ◌∙◌}
use Rattle.std.proofs.lemmas.Result.{err_from_is_err_and}
use Rattle.number_set.specs.Numbers.{among}
use Rattle.page_rebuild.proofs.ReadLemmas.{fault_told}
use Rattle.page_rebuild.proofs.RoomLemmas.{over_from, idle_from, idle_still}
use Rattle.page_rebuild.proofs.LoadedLemmas.{fault_is, base_first, full_is_told, none_is_told, loaded}
use Rattle.page_rebuild.proofs.loading.rebuild.Goals as goal

-- ---- nothing is pending before

pub read_base-requires-clause-idle : goal.read_base-requires-clause-idle
read_base-requires-clause-idle g c = idle_from c.reset.new.self c.reset.ensures

pub take_sectors-requires-clause-idle : goal.take_sectors-requires-clause-idle
take_sectors-requires-clause-idle g c =
    idle_still c.reset.new.self c.read_base.new.frame c.in_ok-read_base.ensures.pending
    (idle_from c.reset.new.self c.reset.ensures)

-- ---- the base page isn't read

pub returns-in_err-read_base-clause-fault : goal.returns-in_err-read_base-clause-fault
returns-in_err-read_base-clause-fault g c = λ x told it known.
    let e = err_from_is_err_and c.from_residual.result c.from_residual.ensures.1 in
    rw e.1 (λ other. base_first x it (among c.args.active.now) c.args.unit c.args.page _ (fault_told (sym (fault_is known x))
    (c.in_err-read_base.ensures.exact x told (λ same. other (e.2 ∙ same))) e.2))

-- ---- a page has no room for the values

pub returns-then-not-take_sectors-clause-fault : goal.returns-then-not-take_sectors-clause-fault
returns-then-not-take_sectors-clause-fault g c = λ x told it known other.
    full_is_told known c.read_base.new.frame (c.in_ok-read_base.ensures.page x told) x (among c.args.active.now)
    refl (c.in_ok-read_base.ensures.exact x told) (over_from _ c.if-not-take_sectors.ensures.room)

-- ---- the base page is read, and there is room

pub returns-clause-fault : goal.returns-clause-fault
returns-clause-fault g c = λ x told it known.
    none_is_told known c.read_base.new.frame (c.in_ok-read_base.ensures.page x told) x (among c.args.active.now)
    refl (c.in_ok-read_base.ensures.exact x told) (c.if-not-take_sectors.ensures.room.0 refl)

pub returns-clause-loads : goal.returns-clause-loads
returns-clause-loads g c = λ x told it known.
    loaded known c.read_base.new.frame (c.in_ok-read_base.ensures.page x told) c.args.active.now
    (c.if-not-take_sectors.ensures.room.0 refl) c.if-not-take_sectors.ensures.taken

-- ---- what is read

pub returns-in_err-read_base-clause-looks : goal.returns-in_err-read_base-clause-looks
returns-in_err-read_base-clause-looks g c =
    let e = err_from_is_err_and c.from_residual.result c.from_residual.ensures.1 in
    let says = c.in_err-read_base.ensures.looks in
    rw (e.1, e.2) (record { reads = says.reads; count = says.count; cause = inl says.cause })

pub returns-then-not-take_sectors-clause-looks : goal.returns-then-not-take_sectors-clause-looks
returns-then-not-take_sectors-clause-looks g c =
    let says = c.in_ok-read_base.ensures.looks in
    record { reads = says.reads; count = says.count; cause = inr refl }

pub returns-clause-looks : goal.returns-clause-looks
returns-clause-looks g c =
    let says = c.in_ok-read_base.ensures.looks in
    record { reads = says.reads; count = says.count; cause = tt }
