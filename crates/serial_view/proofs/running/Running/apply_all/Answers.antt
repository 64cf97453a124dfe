use Rattle.std.proofs.Common.{◌<◌, length, refl, arith, ap}
use Rattle.ipl_model.specs.State.{Limits}
use Rattle.std.specs.Prelude.{slice_index_or}
use Rattle.std.proofs.lemmas.List.Elements.{Contains-get_or}
use Rattle.serial_view.specs.Running.{run_of}
use Rattle.serial_view.proofs.FollowLemmas.{follows_none, applies_more, applies_all}
use Rattle.serial_view.proofs.running.Running.apply_all.Goals as goal

pub apply-requires : goal.apply-requires
apply-requires c =
    let sessions = c.args.sessions.now in
    let within : c.loop-s.s-index < length sessions = omega (arith, c.loop-s-test.true) in
    let named = c.requires (slice_index_or sessions c.loop-s.s-index 0) (Contains-get_or sessions c.loop-s.s-index 0 within) in
    omega (arith, named, ap (λ (l : Limits). l.sessions) c.loop-s.invariant.limits)

pub loop-s-init : goal.loop-s-init
loop-s-init c = follows_none (run_of c.args.self.now)

pub loop-s-preserved : goal.loop-s-preserved
loop-s-preserved c =
    applies_more (run_of c.args.self.now) (run_of c.loop-s.self) (run_of c.apply.new.self) c.args.sessions.now
    c.loop-s.s-index (slice_index_or c.args.sessions.now c.loop-s.s-index 0) c.loop-s-test.true refl
    c.loop-s.invariant c.apply.ensures

pub returns : goal.returns
returns c =
    applies_all (run_of c.args.self.now) (run_of c.loop-s.self) c.args.sessions.now c.loop-s.s-index
    c.loop-s-test.false c.loop-s.invariant
