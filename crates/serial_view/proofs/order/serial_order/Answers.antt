use Rattle.std.proofs.Common.{◌≡◌, ◌<◌, length, refl, subst, arith}
use Rattle.std.proofs.lemmas.List.{get_or_read}
use Rattle.ipl_model.specs.State.{State, at_rest}
use Rattle.ipl_model.specs.declared.command.Command.TheVariants as command
use Rattle.ipl_model.specs.Plain.{state_of}
use Rattle.serial_view.specs.Serial.{met_at}
use Rattle.serial_view.specs.Turns.{kept_of}
use Rattle.serial_view.specs.Running.{run_of, limits_with, Tracks}
use Rattle.serial_view.proofs.OrderLemmas.{holds_none, view_of}
use Rattle.serial_view.proofs.RunLemmas.{goes_on}
use Rattle.serial_view.proofs.order.serial_order.Goals as goal

pub loop-command-init : goal.loop-command-init
loop-command-init c =
    let limits = limits_with c.args.sessions c.args.geometry.units in
    let m = (state_of c.args.start.now).map in
    record {
      limits_are = c.in_ok-running.ensures.limits;
      tracks = subst (λ (st : State). Tracks st (run_of c.in_ok-running.running)) c.requires.at_rest
          c.in_ok-running.ensures.tracks;
      holds = holds_none limits m c.args.commands.now (at_rest m) (kept_of c.new-table.result) refl
          c.new-table.ensures.turns c.new-table.ensures.order c.new-table.ensures.begun;
    }

pub loop-command-preserved : goal.loop-command-preserved
loop-command-preserved c =
    let k = c.loop-command.command-index in
    let commands = c.args.commands.now in
    let within : k < length commands = omega (arith, c.loop-command-test.true) in
    let is = get_or_read commands k c.command-item.result within c.command-item.is command.Syntax in
    goes_on (limits_with c.args.sessions c.args.geometry.units) (state_of c.args.start.now).map commands k c.command-item.result
    (run_of c.loop-command.running) (run_of c.run_command.new.running) (kept_of c.loop-command.table)
    (kept_of c.run_command.new.table) c.requires.sessions is c.loop-command.invariant c.in_ok-run_command.ensures

pub returns : goal.returns
returns c =
    let limits = limits_with c.args.sessions c.args.geometry.units in
    let m = (state_of c.args.start.now).map in
    let commands = c.args.commands.now in
    let k = c.loop-command.command-index in
    let all : k ≡ length commands = omega (arith, c.loop-command-test.false, c.loop-command.auto.command-index-end) in
    view_of limits m commands k (met_at limits m commands k) (kept_of c.loop-command.table)
    c.into_order.result.items all c.loop-command.invariant.holds c.into_order.ensures
