use Rattle.std.proofs.Common.{◌∙◌, Err, Ok, refl, ap, option_map, List, ℕ, Bor, take}
use Rattle.std.proofs.lemmas.Result.{err_from_is_err_and}
use Rattle.ipl_keys.specs.Calls.{early_key_fault, Gets}
use Rattle.ipl_keys.proofs.ReadLemmas.{gets_found, gets_failed, gets_key, named}
use Rattle.ipl_keys.proofs.keys.Keys.get.Goals as goal

pub returns-in_err-len : goal.returns-in_err-len
returns-in_err-len g c =
    let e = err_from_is_err_and c.from_residual.result c.from_residual.ensures.1 in
    let a = c.args.self.now.store in
    let b = c.look.new.self.store in
    let before = g.C.Chip.told c.args.chip.now in
    let after = g.C.Chip.told c.look.new.chip in
    let bytes = c.args.key.now in
    let fault = c.in_err-len.field-0.0 in
    rw (e.1 ∙ ap Err e.2) (
      (
        refl,
        λ _. tt,
        gets_key c.args.s bytes a b before after (Err fault)
            (named c.args.s a b before after (Err fault) (λ n. Gets c.args.s n bytes a before (Err fault) b after)
            c.bad_key.result _ c.name_of-n.result _ c.bad_key.ensures c.name_of-n.ensures.name
            (gets_failed (early_key_fault a c.bad_key.result c.args.s) c.args.s c.name_of-n.result bytes fault a b
            before after c.in_err-len.ensures.copies.calls)),
      ),
      record { gets = tt },
    )

pub returns : goal.returns
returns g c =
    let a = c.args.self.now.store in
    let b = c.look.new.self.store in
    let before = g.C.Chip.told c.args.chip.now in
    let after = g.C.Chip.told c.look.new.chip in
    let bytes = c.args.key.now in
    let found = option_map (λ (x : Bor (List ℕ)). x.now) c.found.result in (
      (
        refl,
        λ _. tt,
        gets_key c.args.s bytes a b before after (Ok found)
            (named c.args.s a b before after (Ok found) (λ n. Gets c.args.s n bytes a before (Ok found) b after)
            c.bad_key.result _ c.name_of-n.result _ c.bad_key.ensures c.name_of-n.ensures.name
            (gets_found (early_key_fault a c.bad_key.result c.args.s) c.args.s c.name_of-n.result c.in_ok-len.len
            bytes (take c.in_ok-len.len c.look.new.self.bucket) found a b before after c.in_ok-len.ensures.copies.calls
            c.found.ensures)),
      ),
      record { gets = tt },
    )
