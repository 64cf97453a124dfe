use Rattle.unit_io.specs.Leads.{RestsAdded}
use Rattle.unit_io.specs.Spots.{Programs, IsSpot}
use Rattle.unit_io.proofs.SealLemmas.{switch_keeps}
use Rattle.unit_io.proofs.WritingLemmas.{only_of_kind}
use Rattle.unit_io.proofs.commits.add_mark.Goals as goal

pub returns-clause-keeps : goal.returns-clause-keeps
returns-clause-keeps g c = λ t m h steady rests closed fresh stands worn marks.
    switch_keeps _ m (Programs c.args.spot.place (IsSpot c.args.spot.sector)) (λ done k. RestsAdded _ m c.args.spot.place c.args.spot.sector _ h k) h _ _ _
    (c.add_sector.ensures.leads t m m h steady rests closed fresh stands worn marks)

pub returns-clause-writes : goal.returns-clause-writes
returns-clause-writes g c =
    only_of_kind c.args.spot.place 1 1 _ 7 (IsSpot c.args.spot.sector) _ _ _ c.requires.kind c.add_sector.ensures.writes
