use Rattle.store_trait.proofs.OnwardLemmas.{onward_counts, onward_said, further_onward, further_then}
use Rattle.ipl_cli.specs.Ending.{units_beside}
use Rattle.ipl_cli.proofs.EndLemmas.{said_ok, said_part}
use Rattle.ipl_cli.proofs.TopLemmas.{failed_format, failed_cause}
use Rattle.std.proofs.Common.{Ok, Err}
use Rattle.ipl_cli.proofs.LawfulLemmas.{adds_format, adds_then, adds_said, adds_unsaid}
use Rattle.ipl_cli.proofs.top.format_chip.Goals as goal

pub returns-in-Err-clause-leaves : goal.returns-in-Err-clause-leaves
returns-in-Err-clause-leaves g c =
    rw c.format_end.ensures (failed_format c.args.spares (g.D.Chip.told c.args.desk.now)
    (g.D.Chip.told c.format.new.chip) c.format.ensures.counts c.in-Err.fault
    c.in-Err.ensures.unchanged c.in-Err.ensures.fails.stopped c.in-Err.ensures.fails.worn
    c.in-Err.ensures.formats)

pub returns-in-Err-clause-cause : goal.returns-in-Err-clause-cause
returns-in-Err-clause-cause g c =
    rw c.format_end.ensures (failed_cause c.args.spares (g.D.Chip.told c.args.desk.now)
    (g.D.Chip.told c.format.new.chip) c.in-Err.fault c.in-Err.ensures.geometry.0
    c.in-Err.ensures.fails.stopped c.in-Err.ensures.fails.worn c.in-Err.ensures.formats)

pub returns-in-Ok-say-clause-leaves : goal.returns-in-Ok-say-clause-leaves
returns-in-Ok-say-clause-leaves g c = said_ok c.args.spares (g.D.Chip.told c.args.desk.now)
    (g.D.Chip.told c.format.new.chip) (g.D.Chip.told c.say.new.self) c.format.ensures.counts
    (c.in-Ok.ensures.settled (λ is. cc)) c.say.ensures.counts c.in-Ok.ensures.formats
    c.in-Ok-say.ensures.ok

pub returns-in-Err-say-clause-leaves : goal.returns-in-Err-say-clause-leaves
returns-in-Err-say-clause-leaves g c = said_part c.args.spares (g.D.Chip.told c.args.desk.now)
    (g.D.Chip.told c.format.new.chip) (g.D.Chip.told c.say.new.self) c.format.ensures.counts
    (c.in-Ok.ensures.settled (λ is. cc)) c.say.ensures.counts c.in-Ok.ensures.formats
    c.in-Err-say.ensures.err

pub returns-in-Err-clause-further : goal.returns-in-Err-clause-further
returns-in-Err-clause-further g c =
    let old = g.D.Chip.told c.args.desk.now in
    let new = g.D.Chip.told c.format.new.chip in
    further_onward old new (onward_counts old new c.format.ensures.counts)

pub returns-in-Ok-say-clause-further : goal.returns-in-Ok-say-clause-further
returns-in-Ok-say-clause-further g c =
    let old = g.D.Chip.told c.args.desk.now in
    let mid = g.D.Chip.told c.format.new.chip in
    let new = g.D.Chip.told c.say.new.self in
    further_then old mid new (further_onward old mid (onward_counts old mid c.format.ensures.counts))
    (further_onward mid new (onward_said mid new c.in-Ok-say.ensures.ok.places c.say.ensures.counts))

pub returns-in-Err-say-clause-further : goal.returns-in-Err-say-clause-further
returns-in-Err-say-clause-further g c =
    let old = g.D.Chip.told c.args.desk.now in
    let mid = g.D.Chip.told c.format.new.chip in
    let new = g.D.Chip.told c.say.new.self in
    further_then old mid new (further_onward old mid (onward_counts old mid c.format.ensures.counts))
    (further_onward mid new (onward_said mid new c.in-Err-say.ensures.err.places c.say.ensures.counts))

pub returns-in-Err-clause-lawful : goal.returns-in-Err-clause-lawful
returns-in-Err-clause-lawful g c =
    let old = g.D.Chip.told c.args.desk.now in
    adds_format {T = Unit {0}} old.places (units_beside old.places c.args.spares) old
    (Err c.in-Err.fault)
    (g.D.Chip.told c.format.new.chip) c.in-Err.ensures.formats

pub returns-in-Ok-say-clause-lawful : goal.returns-in-Ok-say-clause-lawful
returns-in-Ok-say-clause-lawful g c =
    let old = g.D.Chip.told c.args.desk.now in
    let mid = g.D.Chip.told c.format.new.chip in
    let new = g.D.Chip.told c.say.new.self in
    adds_then old mid new (adds_format {T = Unit {0}} old.places
    (units_beside old.places c.args.spares) old (Ok tt) mid
    c.in-Ok.ensures.formats) (adds_said _ mid new c.in-Ok-say.ensures.ok)

pub returns-in-Err-say-clause-lawful : goal.returns-in-Err-say-clause-lawful
returns-in-Err-say-clause-lawful g c =
    let old = g.D.Chip.told c.args.desk.now in
    let mid = g.D.Chip.told c.format.new.chip in
    let new = g.D.Chip.told c.say.new.self in
    adds_then old mid new (adds_format {T = Unit {0}} old.places
    (units_beside old.places c.args.spares) old (Ok tt) mid
    c.in-Ok.ensures.formats) (adds_unsaid _ mid new c.in-Err-say.ensures.err)
