use Rattle.std.proofs.Common.{arith}
use Rattle.buffer_pool.proofs.HoldingLemmas.{room_at_rest}
use Rattle.buffer_pool.proofs.UseLemmas.{victims_are_used_first}
use Rattle.page_frames.proofs.pages.Pages.choose_victim.Goals as goal

pub unreachable-requires : goal.unreachable-requires
unreachable-requires c = room_at_rest c.args.self.now.pool c.requires c.in-AllPinned.ensures

pub returns-in-Victim : goal.returns-in-Victim
returns-in-Victim c =
    let (full, used, oldest) = c.in-Victim.ensures in
    let few = c.facts.ensures.pages oldest.key oldest.buffer oldest.stored in
    let same = oldest.page_is in (
      full,
      omega (arith, few, same),
      record {
        key = oldest.key;
        buffer = oldest.buffer;
        stored = oldest.stored;
        unit_is = oldest.unit_is;
        page_is = oldest.page_is;
        unpinned = oldest.unpinned;
      },
      victims_are_used_first c.args.self.now.pool c.in-Victim.unit c.in-Victim.page
          c.facts.ensures.once c.in-Victim.ensures,
    )
