use Rattle.std.proofs.Common.{arith, sym, ap, ◌∙◌}
use Rattle.unit_layout.specs.Retired.{may_be_retired, words_in}
use Rattle.unit_layout.proofs.StatusLemmas.{other_length, not_retired, status_read}
use Rattle.unit_layout.proofs.status.read_status_header.Goals as goal

pub returns-then-not-is_status_length-clause-none :
    goal.returns-then-not-is_status_length-clause-none
returns-then-not-is_status_length-clause-none c =
    other_length c.args.version c.args.places c.args.payload.now
    (sym c.is_status_length.ensures ∙ c.if-not-is_status_length.true)

pub returns-then-not-may_be_retired-clause-none : goal.returns-then-not-may_be_retired-clause-none
returns-then-not-may_be_retired-clause-none c =
    not_retired c.args.version c.args.places c.word_at-units.result c.args.payload.now (omega (arith, c.ranges.places)) c.word_at-units.ensures
    (sym (c.may_be_retired.ensures ∙ ap (λ bytes. may_be_retired c.args.places c.word_at-units.result (words_in bytes)) c.listed.ensures)
    ∙ c.if-not-may_be_retired.true)

pub returns-clause-some : goal.returns-clause-some
returns-clause-some c =
    status_read c.args.version c.args.places c.args.payload.now _ (λ i. omega (arith, c.type_inv.payload i))
    (sym c.is_status_length.ensures ∙ c.if-not-is_status_length.false) c.word_at-units.ensures
    (sym (c.may_be_retired.ensures ∙ ap (λ bytes. may_be_retired c.args.places c.word_at-units.result (words_in bytes)) c.listed.ensures)
    ∙ c.if-not-may_be_retired.false) c.erases_at.ensures
