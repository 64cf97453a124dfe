use Rattle.std.proofs.Common.{rules, arith, refl, get_or, ◌≡◌, ◌+◌, ◌≤◌, All, length, ap, sym, ◌∙◌}
use Rattle.ipl_format.specs.Header.{IsCount}
use Rattle.ipl_format.specs.Laws.{erases_size}
use Rattle.unit_layout.proofs.HeaderLemmas.{header_read, other_size, many_carried, no_counts}
use Rattle.unit_layout.proofs.header.read_data_header.Goals as goal

pub returns-then-payload-erases_len-clause-none : goal.returns-then-payload-erases_len-clause-none
returns-then-payload-erases_len-clause-none c =
    other_size c.args.version c.args.payload.now (λ same. c.if-payload-erases_len.true (same ∙ ap (λ n. 20 + n) (sym c.erases_len.ensures)))

pub returns-then-not-are_counts-clause-none : goal.returns-then-not-are_counts-clause-none
returns-then-not-are_counts-clause-none c =
    let refused : All IsCount c.counts-pieces.result → ⊥ = search rules in
    no_counts c.args.version c.args.payload.now c.counts-pieces.result c.counts-pieces.ensures
    refused

pub returns-then-not-may_be_carried-clause-none : goal.returns-then-not-may_be_carried-clause-none
returns-then-not-may_be_carried-clause-none c =
    let refused : get_or c.args.payload.now 19 0 ≤ 12 → ⊥ = search rules in
    many_carried c.args.version c.args.payload.now refused

pub returns-clause-some : goal.returns-clause-some
returns-clause-some c =
    let each : All IsCount c.counts-pieces.result = search rules in
    let few : get_or c.args.payload.now 19 0 ≤ 12 = search rules in
    let size : length c.args.payload.now ≡ 20 + erases_size c.args.version = c.if-payload-erases_len.false ∙ ap (λ n. 20 + n) c.erases_len.ensures in
    header_read c.args.version c.args.payload.now _ size (λ i.
    omega (arith, c.type_inv.payload i)) c.word_at.ensures
    c.counts-pieces.ensures refl each few c.erases_at.ensures
