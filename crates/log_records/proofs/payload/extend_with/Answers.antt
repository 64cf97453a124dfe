use Rattle.std.proofs.Common.{◌≡◌, ◌++◌, ◌∙◌, ap, refl, length, List, ℕ}
use Rattle.log_records.specs.View.{record_of}
use Rattle.log_records.proofs.RecordLemmas.{three_parts}
use Rattle.log_records.proofs.payload.extend_with.Goals as goal

pub returns : goal.returns
returns c =
    let old = c.args.bytes.now.items in
    let sum : c.extend-3.new.bytes.items ≡ ((old ++ c.head-head.result) ++ c.number-number.result)
    ++ c.bytes-value.result.now =
    c.extend-3.ensures
    ∙ ap (λ (xs : List ℕ). xs ++ c.bytes-value.result.now) (c.extend-2.ensures
    ∙ ap (λ (xs : List ℕ). xs ++ c.number-number.result) c.extend.ensures) in
    sum ∙ three_parts c.args.version (record_of c.args.logged.now) old c.head-head.result
    c.number-number.result c.bytes-value.result.now
    (c.head-head.ensures ∙ rw (c.kind.ensures, ap length c.bytes-value.ensures.value) refl)
    c.number-number.ensures c.bytes-value.ensures.value
