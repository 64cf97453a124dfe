use Rattle.std.proofs.Common.{◌≡◌, ◌≤◌, ◌<◌, ◌*◌, ◌++◌, ℕ, length, drop}
use Rattle.ipl_format.specs.Record.{IsLogPayload}
use Rattle.selective_merge.specs.Logs.{offsets_of, sector_at}
use Rattle.selective_merge.proofs.record_offset.index.Given as goal

-- those of the first k sectors are put
abbrev pub invariant-loop-k : goal.invariant-loop-k
invariant-loop-k l = record {
  same : l.offsets.items ++ offsets_of l.k (drop l.k l.sectors) ≡ offsets_of 0 l.sectors;
  few : length l.offsets.items ≤ 40 * l.k;
  room : l.offsets.room ≡ l.fn.offsets.room;
  end : l.k-end ≡ length l.sectors;
  spelled : (j : ℕ) → j < l.k
      → IsLogPayload (sector_at l.sectors j).payload.version (sector_at l.sectors j).payload.bytes;
}
