use Rattle.page_frames.specs.Changes.{IsClearedFrame}
use Rattle.page_frames.proofs.PutLemmas.{none_there, log_changes, log_keeps, cleared}
use Rattle.page_frames.proofs.puts.clear_log.Goals as goal

pub unreachable-requires : goal.unreachable-requires
unreachable-requires c =
    none_there c.args.pool.now c.args.unit c.args.page c.facts.ensures.once c.requires.there
    c.in-None.ensures.none

pub returns-clause-cleared : goal.returns-clause-cleared
returns-clause-cleared c =
    let p = c.args.pool.now in
    let once = c.facts.ensures.once in
    let has = c.in-Some.ensures.found in
    log_changes p c.args.unit c.args.page c.in-Some.key once has IsClearedFrame c.clear.new.self
    (cleared p c.args.unit c.args.page c.in-Some.key once has c.clear.new.self c.clear.ensures)

pub returns-clause-pool : goal.returns-clause-pool
returns-clause-pool c =
    log_keeps c.args.pool.now c.args.unit c.args.page c.in-Some.key c.facts.ensures.once
    c.in-Some.ensures.found c.clear.new.self
