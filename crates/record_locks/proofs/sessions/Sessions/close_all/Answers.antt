use Rattle.std.proofs.Common.{◌<◌, length, arith}
use Rattle.std.specs.Prelude.{slice_index_or}
use Rattle.std.proofs.lemmas.List.Elements.{Contains-get_or}
use Rattle.record_locks.proofs.sessions.Sessions.close_all.Goals as goal

pub close-requires : goal.close-requires
close-requires c =
    let numbers = c.args.numbers.now in
    let within : c.loop-s.s-index < length numbers = omega (arith, c.loop-s-test.true) in
    let asked = c.requires (slice_index_or numbers c.loop-s.s-index 0) (Contains-get_or numbers c.loop-s.s-index 0 within) in
    omega (arith, asked, c.loop-s.invariant.all)
