use Rattle.std.proofs.Common.{◌≡◌, ◌≤◌, ◌+◌, ◌-◌, ◌*◌, ◌++◌, length}
use Rattle.selective_merge.specs.Logs.{offsets_within, offsets_in}
use Rattle.selective_merge.proofs.record_offset.index_sector.Given as goal

-- those up to the byte at hand are put
abbrev pub invariant-loop-turn : goal.invariant-loop-turn
invariant-loop-turn l = record {
  same : l.offsets.items ++ offsets_within (length l.bytes - l.turn) l.version l.sector l.at l.bytes
      ≡ l.fn.offsets.items ++ offsets_in l.version l.sector l.bytes;
  low : l.at ≤ length l.bytes;
  few : 12 * length l.offsets.items ≤ 12 * length l.fn.offsets.items + l.at;
  room : l.offsets.room ≡ l.fn.offsets.room;
  end : l.turn-end ≡ length l.bytes;
}
