use Rattle.std.proofs.Common.{◌≡◌, ◌*◌, arith}
use Rattle.ipl_base.specs.declared.limits.TheConstants.{UNIT_NAMES}
use Rattle.ipl_model.specs.Plain.{state_of, limits_of}
use Rattle.serial_view.specs.Running.{KeptRun}
use Rattle.serial_view.proofs.FirstLemmas.{tracks_new}
use Rattle.serial_view.proofs.running.Running.new.Goals as goal

pub returns-clause-tracks : goal.returns-clause-tracks
returns-clause-tracks c =
    let run : KeptRun = record {
      units = c.units-2.result;
      slots = c.in_ok-new.field-0;
      records = c.in_ok-record_sizes.field-0.items;
      last = c.in_ok-zeros.field-0.items;
      most = c.in_ok-zeros-2.field-0.items;
    } in
    let all : UNIT_NAMES * c.units.result ≡ UNIT_NAMES * run.units =
    omega (arith, c.units.ensures.units, c.units-2.ensures.units) in
    tracks_new (state_of c.args.start.now) (limits_of c.args.start.now) run c.args.sessions c.args.geometry.units
    (UNIT_NAMES * c.units.result) c.units-2.ensures.units all c.requires.limits c.requires.at_rest c.in_ok-new.ensures
    c.in_ok-record_sizes.ensures.len c.in_ok-record_sizes.ensures.sizes c.in_ok-zeros.ensures c.in_ok-zeros-2.ensures
