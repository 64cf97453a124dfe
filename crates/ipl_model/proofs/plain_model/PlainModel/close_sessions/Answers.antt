use Rattle.std.proofs.Common.{◌<◌, length, arith}
use Rattle.std.specs.Prelude.{slice_index_or}
use Rattle.std.proofs.lemmas.List.Elements.{Contains-get_or}
use Rattle.ipl_model.proofs.plain_model.PlainModel.close_sessions.Goals as goal

pub close_session-requires : goal.close_session-requires
close_session-requires c =
    let sessions = c.args.sessions.now in
    let within : c.loop-s.s-index < length sessions = omega (arith, c.loop-s-test.true) in
    c.requires (slice_index_or sessions c.loop-s.s-index 0) (Contains-get_or sessions c.loop-s.s-index 0 within)
