use Rattle.buffer_pool.proofs.CallerLemmas.{pinned_brought}
use Rattle.page_frames.proofs.GiveLemmas.{comes_takes}
use Rattle.page_frames.proofs.HeldLemmas.{absent_in}
use Rattle.page_frames.proofs.frames.take_frame.Goals as goal

pub bring-pin-requires-clause-absent : goal.bring-pin-requires-clause-absent
bring-pin-requires-clause-absent c =
    absent_in c.args.pool.now c.args.unit c.args.page c.facts.ensures.once c.requires.absent

pub unpin-requires : goal.unpin-requires
unpin-requires c =
    pinned_brought c.args.pool.now.buffers c.bring-pin.new.self.buffers c.bring-pin.result
    c.args.unit c.args.page c.args.pool.now.clock c.bring-pin.ensures.pin
    c.bring-pin.ensures.buffers

pub returns : goal.returns
returns c =
    let is = c.bring-pin.ensures in
    comes_takes c.args.pool.now c.bring-pin.new.self c.unpin.new.self c.args.unit c.args.page
    c.bring-pin.result c.facts.ensures.once c.facts-2.ensures.once c.requires.absent (record {
      of = is.pin;
      key = is.key;
      buffers = is.buffers;
      len = is.len;
      counts = is.counts;
      last = is.last;
    }) c.unpin.ensures.keeps.limit c.unpin.ensures.buffers
