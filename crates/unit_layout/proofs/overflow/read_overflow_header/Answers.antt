use Rattle.std.proofs.Common.{arith, ◌+◌, ap, sym, ◌∙◌}
use Rattle.unit_layout.proofs.HeaderLemmas.{overflow_read, overflow_refused}
use Rattle.unit_layout.proofs.overflow.read_overflow_header.Goals as goal

pub returns-then-payload-erases_len-clause-none : goal.returns-then-payload-erases_len-clause-none
returns-then-payload-erases_len-clause-none c =
    overflow_refused c.args.version c.args.payload.now
    (λ same. c.if-payload-erases_len.true (same ∙ ap (λ n. 4 + n) (sym c.erases_len.ensures)))

pub returns-clause-some : goal.returns-clause-some
returns-clause-some c =
    overflow_read c.args.version c.word_at.result c.erases_at.result c.args.payload.now
    (c.if-payload-erases_len.false ∙ ap (λ n. 4 + n) c.erases_len.ensures)
    (λ i. omega (arith, c.type_inv.payload i)) c.word_at.ensures c.erases_at.ensures
