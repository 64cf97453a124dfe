use Rattle.std.proofs.Common.{None, refl}
use Rattle.page_frames.proofs.TellLemmas.{tells_ever}
use Rattle.ipl_store.proofs.CallLemmas.{pages_move, moved_calls, kept_holds, kept_for, ended_costs, ended_framed, ended_used}
use Rattle.ipl_store.proofs.store.Store.bring_page.Goals as goal
use Rattle.ipl_store.proofs.ShownLemmas.{brought_frame}

pub returns-clause-calls : goal.returns-clause-calls
returns-clause-calls g c =
    let store = c.args.self.now in
    let old = g.C.Chip.told c.args.chip.now in
    let after = g.C.Chip.told c.bring-done.new.chip in
    let pages = c.bring-done.new.self in
    moved_calls (λ state. state) 14 store (record store.transactions { pages = pages }) store.kept refl
    old after c.bring-done.result c.end.result c.end.new.self
    c.requires.up c.requires.sound
    (pages_move 14 store.transactions pages old after c.bring-done.result (c.requires.sound.order c.requires.up) c.bring-done.ensures.works.upholds
    c.bring-done.ensures.works.complete
    (tells_ever store.transactions.pages pages c.bring-done.result old after
    c.bring-done.ensures.works.faults))
    c.end.ensures.rest c.end.ensures.ends None refl

pub returns-clause-holds : goal.returns-clause-holds
returns-clause-holds g c =
    let store = c.args.self.now in
    kept_holds store c.end.new.self (record store.transactions { pages = c.bring-done.new.self })
    store.kept c.end.ensures.rest c.bring-done.ensures.works.upholds.pins

pub returns-clause-brings : goal.returns-clause-brings
returns-clause-brings g c =
    let store = c.args.self.now in
    let moved = record store.transactions { pages = c.bring-done.new.self } in record {
      framed = ended_framed c.args.unit c.args.page store c.end.new.self moved store.kept c.bring-done.result
          c.end.result c.end.ensures.rest c.end.ensures.ends c.bring-done.ensures.comes.there;
      used = ended_used c.args.unit c.args.page store c.end.new.self moved store.kept c.bring-done.result
          c.end.result c.end.ensures.rest c.end.ensures.ends c.bring-done.ensures.comes.used;
      stays = kept_for c.args.unit c.args.page store c.end.new.self moved store.kept c.end.ensures.rest
          c.bring-done.ensures.framed;
    }

pub returns-clause-asks : goal.returns-clause-asks
returns-clause-asks g c = record {
  idle = λ framed. (c.bring-done.ensures.asks.idle framed).1;
  free = c.bring-done.ensures.asks.free;
  frame = brought_frame _ _ _ _ _ _ _ c.bring-done.ensures.asks;
}

pub returns-clause-costs : goal.returns-clause-costs
returns-clause-costs g c =
    let store = c.args.self.now in
    ended_costs store c.end.new.self (record store.transactions { pages = c.bring-done.new.self })
    store.kept (g.C.Chip.told c.args.chip.now) (g.C.Chip.told c.bring-done.new.chip)
    c.bring-done.result c.end.result c.end.ensures.rest c.end.ensures.ends
    c.bring-done.ensures.asks.costs
