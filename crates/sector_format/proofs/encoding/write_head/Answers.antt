use Rattle.std.proofs.Common.{arith, ap, sym, ◌∙◌}
use Rattle.crc_sum.specs.Crc.{tail_sum}
use Rattle.sector_format.specs.Decode.{sector_of}
use Rattle.sector_format.proofs.EncodeLemmas.{behind_head, encoded, makes_sector, written_is_said, written_not_blank}
use Rattle.sector_format.proofs.encoding.write_head.Goals as goal

pub sum_by-sum-requires : goal.sum_by-sum-requires
sum_by-sum-requires c =
    c.requires.tail ∙ ap tail_sum (sym (behind_head c.args.head.now c.args.payload.now c.args.out.now _ c.write_front.ensures.front))

pub returns-clause-bytes : goal.returns-clause-bytes
returns-clause-bytes c =
    encoded c.args.head.now c.args.payload.now c.args.out.now c.write_front.new.out c.write_u32.new.buf c.sum_by-sum.result
    c.told-out c.requires.there c.write_front.ensures.front c.sum_by-sum.ensures c.write_u32.ensures

pub returns-clause-said : goal.returns-clause-said
returns-clause-said c =
    written_is_said (sector_of c.args.head.now c.args.payload.now) _
    (makes_sector c.args.head.now c.args.payload.now c.requires.known c.requires.version
    c.write_front.ensures.fits c.requires.fits (λ i. omega (arith, c.type_inv.payload i)))
    (encoded c.args.head.now c.args.payload.now c.args.out.now c.write_front.new.out c.write_u32.new.buf c.sum_by-sum.result
    c.told-out c.requires.there c.write_front.ensures.front c.sum_by-sum.ensures c.write_u32.ensures)

pub returns-clause-written : goal.returns-clause-written
returns-clause-written c =
    written_not_blank (sector_of c.args.head.now c.args.payload.now) _
    (makes_sector c.args.head.now c.args.payload.now c.requires.known c.requires.version
    c.write_front.ensures.fits c.requires.fits (λ i. omega (arith, c.type_inv.payload i)))
    (encoded c.args.head.now c.args.payload.now c.args.out.now c.write_front.new.out c.write_u32.new.buf c.sum_by-sum.result
    c.told-out c.requires.there c.write_front.ensures.front c.sum_by-sum.ensures c.write_u32.ensures)
