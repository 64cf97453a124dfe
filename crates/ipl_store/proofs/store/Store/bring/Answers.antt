use Rattle.std.proofs.Common.{◌⊎◌, None, OnOk, refl, sym, ap, subst}
use Rattle.ipl_base.specs.Places.{home_of}
use Rattle.ipl_base.specs.declared.spot.Home.{Home}
use Rattle.buffer_pool.specs.Uses.{IsUsedLast}
use Rattle.page_frames.specs.Faulty.{FailsAsPage, StandsSurely}
use Rattle.page_frames.specs.Pages.{tables_in, HasFreeFrame, IsFramed, KeepsFramedFor}
use Rattle.page_frames.proofs.TellLemmas.{tells_ever}
use Rattle.ipl_store.specs.declared.store.Store.{Store}
use Rattle.ipl_store.specs.Puts.{HasBrought}
use Rattle.ipl_store.specs.Shown.{FramesName}
use Rattle.ipl_store.proofs.CallLemmas.{blamed_surely, pages_move, moved_calls, kept_holds, kept_for, done_ends, ended_costs, ended_used}
use Rattle.ipl_store.proofs.TurnLemmas.{tells_for}
use Rattle.ipl_store.proofs.BroughtLemmas.{has_brought}
use Rattle.ipl_store.proofs.ShownLemmas.{names_told, brought_frame, ended_exact}
use Rattle.ipl_store.proofs.store.Store.bring.Goals as goal

pub returns-clause-fetches : goal.returns-clause-fetches
returns-clause-fetches g c =
    let store = c.args.self.now in
    let old = g.C.Chip.told c.args.chip.now in
    let after = g.C.Chip.told c.bring-done.new.chip in
    let pages = c.bring-done.new.self in
    let rest = c.end.ensures.rest in record {
      calls = moved_calls (λ state. state) 14 store
          (record store.transactions { pages = pages }) store.kept refl old after c.bring-done.result
          c.end.result c.end.new.self c.requires.up c.requires.sound
          (pages_move 14 store.transactions pages old after c.bring-done.result
          (c.requires.sound.order c.requires.up) c.bring-done.ensures.works.upholds
          c.bring-done.ensures.works.complete
          (tells_ever store.transactions.pages pages c.bring-done.result old after
          c.bring-done.ensures.works.faults)) rest
          c.end.ensures.ends None refl;
      holds = kept_holds store c.end.new.self (record store.transactions { pages = pages })
          store.kept rest c.bring-done.ensures.works.upholds.pins;
      exact = λ none room. ended_exact (tables_in store.transactions.pages) (home_of c.args.n).unit
          (home_of c.args.n).page old c.bring-done.result store.down c.end.new.self.down c.end.result
          c.end.ensures.ends (subst (λ (h : Home). FailsAsPage (tables_in store.transactions.pages) h.unit
          h.page c.bring-done.result old) c.home-home.ensures.home (c.bring-done.ensures.exact
          (subst (λ (h : Home). IsFramed store.transactions.pages h.unit h.page
          ⊎ HasFreeFrame store.transactions.pages) (sym c.home-home.ensures.home) room)));
      surely = λ none. blamed_surely store c.end.new.self (record store.transactions { pages = pages })
          store.kept old after c.bring-done.result c.end.result rest c.end.ensures.ends
          (tells_for (λ x it. StandsSurely x it (tables_in pages) after) store.transactions
          c.bring-done.result old pages c.bring-done.ensures.works.surely);
      names = done_ends (FramesName c.args.n store old c.end.new.self) c.bring-done.result
          store.down
          c.end.new.self.down c.end.result c.end.ensures.ends
          (names_told c.args.n store pages old after c.bring-done.result c.end.new.self
          (ap (λ (s : Store). s.transactions.pages) rest)
          c.bring-done.ensures.works.upholds.keeps
          (subst (λ (h : Home). OnOk c.bring-done.result (IsFramed pages h.unit h.page))
          c.home-home.ensures.home c.bring-done.ensures.comes.there));
      used = ended_used (home_of c.args.n).unit (home_of c.args.n).page store c.end.new.self
          (record store.transactions { pages = pages }) store.kept c.bring-done.result c.end.result
          rest c.end.ensures.ends
          (subst (λ (h : Home). OnOk c.bring-done.result (IsUsedLast pages.pool h.unit h.page))
          c.home-home.ensures.home c.bring-done.ensures.comes.used);
      stays = kept_for (home_of c.args.n).unit (home_of c.args.n).page store c.end.new.self
          (record store.transactions { pages = pages }) store.kept rest
          (subst (λ (h : Home). KeepsFramedFor h.unit h.page store.transactions.pages pages)
          c.home-home.ensures.home c.bring-done.ensures.framed);
      costs = ended_costs store c.end.new.self (record store.transactions { pages = pages })
          store.kept old after c.bring-done.result c.end.result rest c.end.ensures.ends
          c.bring-done.ensures.asks.costs;
    }

pub returns-clause-sessions : goal.returns-clause-sessions
returns-clause-sessions g c = ap (λ (s : Store). s.transactions.sessions) c.end.ensures.rest

pub returns-clause-asks : goal.returns-clause-asks
returns-clause-asks g c =
    let pages = c.args.self.now.transactions.pages in
    let asks = c.bring-done.ensures.asks in record {
      idle = λ framed. (asks.idle (subst (λ (h : Home). IsFramed pages h.unit h.page)
          (sym c.home-home.ensures.home) framed)).1;
      free = asks.free;
      frame = brought_frame _ _ _ _ _ _ _ asks;
    }

pub returns-clause-brought : goal.returns-clause-brought
returns-clause-brought g c =
    let store = c.args.self.now in
    let old = g.C.Chip.told c.args.chip.now in
    let after = g.C.Chip.told c.bring-done.new.chip in
    subst (λ (h : Home). OnOk c.end.result
    (HasBrought h.unit h.page store old c.end.new.self after)) c.home-home.ensures.home
    (has_brought c.home-home.result.unit c.home-home.result.page store c.bring-done.new.self old
    after c.bring-done.result c.end.result c.end.new.self c.facts.ensures.once
    c.bring-done.ensures.works.upholds c.bring-done.ensures.comes.there c.bring-done.ensures.comes.fresh
    c.bring-done.ensures.asks c.end.ensures.rest c.end.ensures.ends)
