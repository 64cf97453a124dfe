use Rattle.std.proofs.Common.{◌+◌, drop}
use Rattle.log_records.specs.Reading.{records_of}
use Rattle.number_set.specs.Numbers.{among}
use Rattle.unit_log.specs.Kept.{records_kept}
use Rattle.page_ops.specs.Rebuilt.{IsMaking}
use Rattle.page_rebuild.specs.Made.{AreTooMany}
use Rattle.page_rebuild.proofs.CountLemmas.{next_sector}
use Rattle.page_rebuild.proofs.PartLemmas.{next_part, goes_part, stops_part}
use Rattle.page_rebuild.proofs.making.pass_sectors.Goals as goal

pub pass_payload-requires : goal.pass_payload-requires
pass_payload-requires c =
    let sectors = c.args.sectors.now in
    let i = c.loop-sector.sector-index in
    let item = c.sector-item.result in
    next_part (IsMaking (among c.args.status.now.numbers) c.args.page) (records_kept sectors)
    (records_kept (drop i sectors)) c.loop-sector.invariant
    (records_of item.payload.version item.payload.bytes) (records_kept (drop (i + 1) sectors))
    (next_sector sectors i item c.loop-sector-test.true c.sector-item.is) c.requires

pub loop-sector-preserved : goal.loop-sector-preserved
loop-sector-preserved c =
    let sectors = c.args.sectors.now in
    let i = c.loop-sector.sector-index in
    let item = c.sector-item.result in
    goes_part (IsMaking (among c.args.status.now.numbers) c.args.page) (records_kept sectors)
    (records_kept (drop i sectors)) c.loop-sector.invariant
    (records_of item.payload.version item.payload.bytes) (records_kept (drop (i + 1) sectors))
    (next_sector sectors i item c.loop-sector-test.true c.sector-item.is)
    c.pass_payload.new.coming c.pass_payload.new.map c.if-not-pass_payload.ensures

pub returns-then-not-pass_payload-clause-passed : goal.returns-then-not-pass_payload-clause-passed
returns-then-not-pass_payload-clause-passed c =
    let sectors = c.args.sectors.now in
    let i = c.loop-sector.sector-index in
    let item = c.sector-item.result in
    stops_part (IsMaking (among c.args.status.now.numbers) c.args.page) (records_kept sectors)
    (records_kept (drop i sectors)) c.loop-sector.invariant
    (records_of item.payload.version item.payload.bytes) (records_kept (drop (i + 1) sectors))
    (next_sector sectors i item c.loop-sector-test.true c.sector-item.is)
    (AreTooMany (among c.args.status.now.numbers) c.args.page) c.if-not-pass_payload.ensures
