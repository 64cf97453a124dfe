use Rattle.std.proofs.Common.{◌≤◌, ℕ, slice_index, subst, arith, rules}
use Rattle.unit_io.specs.ReadsAt.{ReadsAt}
use Rattle.page_rebuild.specs.Loaded.{IsBaseRead}
use Rattle.page_rebuild.proofs.ReadLemmas.{base_asked, base_count}
use Rattle.page_rebuild.proofs.loading.read_base.Goals as goal

pub returns-clause-looks : goal.returns-clause-looks
returns-clause-looks g c =
    let old = g.C.Chip.told c.args.chip.now in
    let new = g.C.Chip.told c.read_page.new.chip in
    let few : slice_index c.args.header.now.pieces c.args.page ≤ 16 = search rules in
    record {
      reads = subst (λ (n : ℕ). ReadsAt (IsBaseRead c.args.place c.args.page n) old new)
          c.from-pieces.ensures (base_asked c.args.place c.args.page c.from-pieces.result
          c.read_page.result old new c.read_page.ensures.reads.asks c.read_page.ensures.reads.accounts.counts);
      count = base_count c.args.place c.args.page c.from-pieces.result c.read_page.result old new
          (omega (arith, few, c.from-pieces.ensures)) c.read_page.ensures.reads.asks;
      cause = c.read_page.ensures.reads.accounts.cause;
    }
