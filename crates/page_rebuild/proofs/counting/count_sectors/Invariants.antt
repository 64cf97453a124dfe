use Rattle.std.proofs.Common.{ℕ, ◌<◌, ◌≤◌, ◌*◌, drop, replicate, slice_index}
use Rattle.number_set.specs.Numbers.{among}
use Rattle.unit_log.specs.Kept.{records_kept}
use Rattle.page_rebuild.proofs.CountLemmas.{AreLeft}
use Rattle.page_rebuild.proofs.counting.count_sectors.Given as goal

abbrev pub invariant-loop-sector : goal.invariant-loop-sector
invariant-loop-sector l = record {
  values : AreLeft (among l.status.numbers) l.page (records_kept (drop l.sector-index l.sectors))
      (records_kept l.sectors) l.values (replicate 64 0);
  changes : AreLeft (among l.active) l.page (records_kept (drop l.sector-index l.sectors))
      (records_kept l.sectors) l.changes (replicate 64 0);
  few_values : (slot : ℕ) → slot < 64 → slice_index l.values slot ≤ 40 * l.sector-index;
  few_changes : (slot : ℕ) → slot < 64 → slice_index l.changes slot ≤ 40 * l.sector-index;
}
