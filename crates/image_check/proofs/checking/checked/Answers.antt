use Rattle.std.proofs.Common.{◌≡◌, ◌∙◌, sym, subst}
use Rattle.ipl_base.specs.declared.fault.ImageFault.{ImageFault}
use Rattle.image_check.specs.Checked.{IsUnwell}
use Rattle.image_check.proofs.checking.checked.Goals as goal

pub returns-in-Err-clause-checks : goal.returns-in-Err-clause-checks
returns-in-Err-clause-checks g c = λ x told fault is other.
    let same : c.in-Err.fault ≡ fault = cc is in
    subst (λ (f : ImageFault). IsUnwell x (g.C.Chip.told c.args.chip.now).places f) same
    (c.in-Err.ensures.checks x told (λ read. other (sym same ∙ read)))
