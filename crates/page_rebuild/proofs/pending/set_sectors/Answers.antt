use Rattle.std.proofs.Common.{◌+◌, drop}
use Rattle.log_records.specs.Reading.{records_of}
use Rattle.number_set.specs.Numbers.{among}
use Rattle.unit_log.specs.Kept.{records_kept}
use Rattle.page_rebuild.specs.Pended.{IsSetting, IsTooFull}
use Rattle.page_rebuild.proofs.CountLemmas.{next_sector}
use Rattle.page_rebuild.proofs.PartLemmas.{next_part, goes_part, stops_part}
use Rattle.page_rebuild.proofs.pending.set_sectors.Goals as goal

pub set_payload-requires : goal.set_payload-requires
set_payload-requires c =
    let sectors = c.args.sectors.now in
    let i = c.loop-sector.sector-index in
    let item = c.sector-item.result in
    next_part (IsSetting (among c.args.active.now) c.args.page) (records_kept sectors)
    (records_kept (drop i sectors)) c.loop-sector.invariant
    (records_of item.payload.version item.payload.bytes) (records_kept (drop (i + 1) sectors))
    (next_sector sectors i item c.loop-sector-test.true c.sector-item.is) c.requires

pub loop-sector-preserved : goal.loop-sector-preserved
loop-sector-preserved c =
    let sectors = c.args.sectors.now in
    let i = c.loop-sector.sector-index in
    let item = c.sector-item.result in
    goes_part (IsSetting (among c.args.active.now) c.args.page) (records_kept sectors)
    (records_kept (drop i sectors)) c.loop-sector.invariant
    (records_of item.payload.version item.payload.bytes) (records_kept (drop (i + 1) sectors))
    (next_sector sectors i item c.loop-sector-test.true c.sector-item.is)
    c.set_payload.new.coming c.set_payload.new.frame c.if-not-set_payload.ensures

pub returns-then-not-set_payload-clause-set : goal.returns-then-not-set_payload-clause-set
returns-then-not-set_payload-clause-set c =
    let sectors = c.args.sectors.now in
    let i = c.loop-sector.sector-index in
    let item = c.sector-item.result in
    stops_part (IsSetting (among c.args.active.now) c.args.page) (records_kept sectors)
    (records_kept (drop i sectors)) c.loop-sector.invariant
    (records_of item.payload.version item.payload.bytes) (records_kept (drop (i + 1) sectors))
    (next_sector sectors i item c.loop-sector-test.true c.sector-item.is)
    (IsTooFull (among c.args.active.now) c.args.page) c.if-not-set_payload.ensures
