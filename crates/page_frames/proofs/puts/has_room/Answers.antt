use Rattle.log_records.specs.View.{record_of}
use Rattle.page_frames.proofs.PutLemmas.{room_if, no_room}
use Rattle.page_frames.proofs.puts.has_room.Goals as goal

pub returns-in-Some : goal.returns-in-Some
returns-in-Some c =
    room_if c.args.pool.now c.args.unit (record_of c.args.rec.now) c.in-Some.log.now c.fits.result
    c.in-Some.ensures c.fits.ensures

pub returns-in-None : goal.returns-in-None
returns-in-None c =
    no_room c.args.pool.now c.args.unit (record_of c.args.rec.now) c.in-None.ensures
