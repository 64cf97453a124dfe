use Rattle.std.proofs.Common.{◌≡◌, ◌+◌, drop}
use Rattle.std.specs.List.{list_any}
use Rattle.ipl_meaning.specs.Values.{counts_for}
use Rattle.selective_merge.specs.Packs.{among}
use Rattle.selective_merge.proofs.carry.is_replaced.Given as goal

-- none so far is
abbrev pub invariant-loop-later : goal.invariant-loop-later
invariant-loop-later l = record {
  same : list_any (counts_for (among l.active) l.page l.slot) (drop l.later l.log)
      ≡ list_any (counts_for (among l.active) l.page l.slot) (drop (l.i + 1) l.log);
}
