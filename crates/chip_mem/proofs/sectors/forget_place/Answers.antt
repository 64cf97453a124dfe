use Rattle.std.proofs.Common.{◌≡◌, arith}
use Rattle.chip_mem.specs.Sectors.{written_contents}
use Rattle.chip_mem.proofs.SectorLemmas.{forgotten_more, none_erased, all_forgotten}
use Rattle.chip_mem.proofs.sectors.forget_place.Goals as goal

pub loop-s-init : goal.loop-s-init
loop-s-init c = λ xs. none_erased (written_contents c.args.written.now xs) c.args.place

pub loop-s-preserved : goal.loop-s-preserved
loop-s-preserved c = λ xs.
    forgotten_more c.loop-s.written xs c.args.place c.loop-s.s (omega arith) (omega arith)
    (written_contents c.args.written.now xs) (c.loop-s.invariant xs)

pub returns : goal.returns
returns c =
    let all : c.loop-s.s ≡ 256 = omega arith in λ xs.
    all_forgotten c.loop-s.written c.args.written.now xs c.args.place c.loop-s.s all (c.loop-s.invariant xs)
