use Rattle.std.proofs.Common.{◌≡◌, arith}
use Rattle.chip_mem.specs.Sectors.{contents_of}
use Rattle.chip_mem.proofs.SectorLemmas.{erased_more, none_erased, all_erased}
use Rattle.chip_mem.proofs.sectors.erase_place.Goals as goal

pub loop-s-init : goal.loop-s-init
loop-s-init c = none_erased (contents_of c.args.sectors.now) c.args.place

pub loop-s-preserved : goal.loop-s-preserved
loop-s-preserved c =
    erased_more c.loop-s.sectors (contents_of c.args.sectors.now) c.args.place c.loop-s.s (omega arith) (omega arith) c.loop-s.invariant

pub returns : goal.returns
returns c =
    let all : c.loop-s.s ≡ 256 = omega arith in
    all_erased c.loop-s.sectors c.args.sectors.now c.args.place c.loop-s.s all c.loop-s.invariant
