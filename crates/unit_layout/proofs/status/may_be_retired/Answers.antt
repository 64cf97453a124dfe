use Rattle.std.proofs.Common.{◌≡◌, ◌+◌, ◌/◌, Bool, false, leb, length, ap₂, sym, ◌∙◌}
use Rattle.std.specs.Prelude.{◌&&◌}
use Rattle.std.proofs.lemmas.Bool.{le-leb, lt-leb}
use Rattle.unit_layout.proofs.StatusLemmas.{retired_tests}
use Rattle.unit_layout.proofs.status.may_be_retired.Goals as goal

pub returns-then-count : goal.returns-then-count
returns-then-count c =
    let spare : Bool = leb (length c.args.bytes.now / 4 + c.args.units + 4) c.args.places in
    sym (retired_tests c.args.places c.args.units c.args.bytes.now
    ∙ ap₂ (λ (a b : Bool). a && (b && spare)) (sym c.rise_within.ensures ∙ c.if-not-rise_within.false)
    (le-leb (length c.args.bytes.now / 4) 64 c.if-count.true))

pub returns-else-count : goal.returns-else-count
returns-else-count c =
    let spare : Bool = leb (length c.args.bytes.now / 4 + c.args.units + 4) c.args.places in
    let many : leb (length c.args.bytes.now / 4) 64 ≡ false = lt-leb (length c.args.bytes.now / 4) 64 c.if-count.false in
    many ∙ sym (retired_tests c.args.places c.args.units c.args.bytes.now
    ∙ ap₂ (λ (a b : Bool). a && (b && spare)) (sym c.rise_within.ensures ∙ c.if-not-rise_within.false) many)
