use Rattle.std.proofs.Common.{arith}
use Rattle.nand_rising.proofs.MarkLemmas.{table_short}
use Rattle.nand_rising.proofs.good.GoodPages.shape.Goals as goal

pub overflow_cast-result : goal.overflow_cast-result
overflow_cast-result g c =
    let pages = c.args.self.now.pages in
    let short = table_short (g.D.Pages.bad pages) (g.D.Pages.shape pages).blocks c.args.self.now.good.items c.args.self.now.table in
    let few = c.args.self.now.few in
    omega arith
