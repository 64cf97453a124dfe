use Rattle.page_frames.proofs.GiveLemmas.{leaves_frees}
use Rattle.page_frames.proofs.HeldLemmas.{unheld_page, unheld_may_leave}
use Rattle.page_frames.proofs.frames.free_frame.Goals as goal

pub evict-requires-clause-there : goal.evict-requires-clause-there
evict-requires-clause-there c =
    let is = c.requires.unheld in
    record { key = is.key; has = unheld_page c.args.pool.now c.args.unit c.args.page is }

pub evict-requires-clause-may : goal.evict-requires-clause-may
evict-requires-clause-may c =
    unheld_may_leave c.args.pool.now c.args.unit c.args.page c.facts.ensures.once c.requires.unheld
    c.requires.empty

pub returns : goal.returns
returns c =
    let (key, has, did) = c.evict.ensures.gone in
    leaves_frees c.args.pool.now c.evict.new.self c.args.unit c.args.page c.facts.ensures
    c.requires.unheld c.requires.empty (record {
      key = key;
      has = has;
      buffers = did;
      len = c.evict.ensures.len;
      limit = c.evict.ensures.limit;
      clock = c.evict.ensures.clock;
    })
