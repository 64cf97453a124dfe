use Rattle.std.proofs.Common.{◌∙◌, ap}
use Rattle.ipl_meaning.specs.Chosen.{header_in}
use Rattle.restart.proofs.KeptLemmas.{header_kept}
use Rattle.restart.proofs.head_sector.HeadSector.header.Goals as goal

pub returns-then-head-le-OVERFLOW_HEADER : goal.returns-then-head-le-OVERFLOW_HEADER
returns-then-head-le-OVERFLOW_HEADER c =
    header_kept c.args.geometry.places c.in-Some.used c.self.inside.bytes c.payload_in.result.now c.in-Some.head c.self.inside.found c.of.result c.payload_in.ensures.payload c.in-Some.is
    c.if-head-ge-DATA_HEADER.true c.if-head-le-OVERFLOW_HEADER.true c.of.ensures
    ∙ ap (header_in c.args.geometry.places) c.self.view_is
