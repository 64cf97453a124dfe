use Rattle.txn_status.proofs.KeptLemmas.{written_is, header_keeps, header_tells}
use Rattle.txn_status.proofs.parts.seal_status.Goals as goal

pub returns-clause-keeps : goal.returns-clause-keeps
returns-clause-keeps g c = λ m h steady rests clean stands.
    let header = c.args.header.now in
    let places = (g.C.Chip.told c.args.chip.now).places in
    let is = written_is _ places c.args.generation header _ _ c.written-head.ensures
    (c.write_status_header-used.ensures.spells places c.requires.listed) in
    let then = stands _ is in
    header_keeps places m h c.args.place header.units header.erases c.args.retired.now c.args.generation _ is _ c.seal.result _
    (c.seal.ensures.leads m m h steady rests clean then.stands then.worn then.no_more)

pub returns-clause-tells : goal.returns-clause-tells
returns-clause-tells g c =
    let header = c.args.header.now in
    let places = (g.C.Chip.told c.args.chip.now).places in
    let is = written_is _ places c.args.generation header _ _ c.written-head.ensures
    (c.write_status_header-used.ensures.spells places c.requires.listed) in
    header_tells places c.args.place header.units header.erases c.args.retired.now c.args.generation _ is c.seal.result
    (g.C.Chip.told c.args.chip.now) (g.C.Chip.told c.seal.new.chip) c.seal.ensures.tells
