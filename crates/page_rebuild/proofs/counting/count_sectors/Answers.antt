use Rattle.std.proofs.Common.{◌+◌, drop, refl, replicate}
use Rattle.log_records.specs.Reading.{records_of}
use Rattle.number_set.specs.Numbers.{among}
use Rattle.unit_log.specs.Kept.{records_kept}
use Rattle.page_rebuild.proofs.CountLemmas.{left_at_first, left_part, none_yet, counted_few, next_sector}
use Rattle.page_rebuild.proofs.counting.count_sectors.Goals as goal

pub loop-sector-init : goal.loop-sector-init
loop-sector-init c =
    let records = records_kept c.args.sectors.now in
    record {
      values = left_at_first (among c.args.status.now.numbers) c.args.page records records
          c.args.values.now (replicate 64 0) refl c.requires.no_values;
      changes = left_at_first (among c.args.active.now) c.args.page records records
          c.args.changes.now (replicate 64 0) refl c.requires.no_changes;
      few_values = none_yet c.args.values.now c.requires.no_values;
      few_changes = none_yet c.args.changes.now c.requires.no_changes;
    }

pub loop-sector-preserved : goal.loop-sector-preserved
loop-sector-preserved c =
    let sectors = c.args.sectors.now in
    let i = c.loop-sector.sector-index in
    let item = c.sector-item.result in
    let part = records_of item.payload.version item.payload.bytes in
    let after = records_kept (drop (i + 1) sectors) in
    let step = next_sector sectors i item c.loop-sector-test.true c.sector-item.is in
    let few = c.count_payload.ensures.few in
    record {
      values = left_part (among c.args.status.now.numbers) c.args.page
          c.loop-sector.invariant.values part after c.count_payload.new.values step
          c.count_payload.ensures.values;
      changes = left_part (among c.args.active.now) c.args.page c.loop-sector.invariant.changes
          part after c.count_payload.new.changes step c.count_payload.ensures.changes;
      few_values = counted_few (among c.args.status.now.numbers) c.args.page part
          c.loop-sector.values c.count_payload.new.values i
          c.count_payload.ensures.values few c.loop-sector.invariant.few_values;
      few_changes = counted_few (among c.args.active.now) c.args.page part
          c.loop-sector.changes c.count_payload.new.changes i
          c.count_payload.ensures.changes few c.loop-sector.invariant.few_changes;
    }
