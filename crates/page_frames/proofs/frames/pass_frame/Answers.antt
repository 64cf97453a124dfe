use Rattle.buffer_pool.proofs.CallerLemmas.{pinned_brought}
use Rattle.page_frames.proofs.GiveLemmas.{comes_takes, leaves_frees, none_between}
use Rattle.page_frames.proofs.HeldLemmas.{absent_in, unheld_may_leave, unheld_page}
use Rattle.page_frames.proofs.frames.pass_frame.Goals as goal

pub pass-pin-requires-clause-there : goal.pass-pin-requires-clause-there
pass-pin-requires-clause-there c =
    let is = c.requires.unheld in
    record { key = is.key; has = unheld_page c.args.pool.now c.args.unit c.args.page is }

pub pass-pin-requires-clause-may : goal.pass-pin-requires-clause-may
pass-pin-requires-clause-may c =
    unheld_may_leave c.args.pool.now c.args.unit c.args.page c.facts.ensures.once c.requires.unheld
    c.requires.empty

pub pass-pin-requires-clause-absent : goal.pass-pin-requires-clause-absent
pass-pin-requires-clause-absent c =
    absent_in c.args.pool.now c.args.to_unit c.args.to_page c.facts.ensures.once c.requires.absent

pub unpin-requires : goal.unpin-requires
unpin-requires c =
    let it = c.pass-pin.ensures in
    pinned_brought it.between.buffers c.pass-pin.new.self.buffers c.pass-pin.result c.args.to_unit
    c.args.to_page it.between.clock it.comes.of it.comes.buffers

pub returns : goal.returns
returns c =
    let it = c.pass-pin.ensures in
    let frees = leaves_frees c.args.pool.now it.between c.args.unit c.args.page c.facts.ensures
    c.requires.unheld c.requires.empty it.leaves in record {
      between = it.between;
      gives = frees;
      takes = comes_takes it.between c.pass-pin.new.self c.unpin.new.self c.args.to_unit
          c.args.to_page c.pass-pin.result it.sound.once c.facts-2.ensures.once
          (none_between c.args.pool.now it.between c.args.unit c.args.page c.args.to_unit
          c.args.to_page frees c.requires.absent) it.comes c.unpin.ensures.keeps.limit
          c.unpin.ensures.buffers;
    }
