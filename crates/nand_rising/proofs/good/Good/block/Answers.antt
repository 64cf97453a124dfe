use Rattle.std.proofs.Common.{rules, ◌≡◌, get_or, arith}
use Rattle.nand_rising.proofs.MarkLemmas.{table_within}
use Rattle.nand_rising.proofs.good.Good.block.Goals as goal

pub returns-clause-within : goal.returns-clause-within
returns-clause-within g c =
    let pages = c.args.self.now.pages in
    let value : c.from.result ≡ get_or c.args.self.now.good.items c.args.n 0 = search rules in
    let within = table_within (g.D.Pages.bad pages) (g.D.Pages.shape pages).blocks c.args.self.now.good.items c.args.n c.args.self.now.table c.requires in
    omega arith
