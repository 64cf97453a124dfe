use Rattle.std.proofs.Common.{◌<◌, length, arith}
use Rattle.std.proofs.lemmas.List.Elements.{Contains-get_or}
use Rattle.std.specs.Prelude.{slice_index_or}
use Rattle.serial_view.proofs.turn_table.append_batch.Goals as goal

pub bounds-begun-s : goal.bounds-begun-s
bounds-begun-s c =
    let sessions = c.args.sessions.now in
    let within : c.loop-s.s-index < length sessions = omega (arith, c.loop-s-test.true) in
    c.requires (slice_index_or sessions c.loop-s.s-index 0) (Contains-get_or sessions c.loop-s.s-index 0 within)
