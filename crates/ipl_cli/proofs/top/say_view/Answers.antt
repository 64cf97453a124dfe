use Rattle.std.proofs.Common.{◌∙◌, ap}
use Rattle.ipl_base.specs.Places.{units_on}
use Rattle.ipl_cli.proofs.ViewLemmas.{said_view, failed_view}
use Rattle.std.proofs.Common.{refl}
use Rattle.ipl_cli.proofs.LawfulLemmas.{adds_nothing, adds_sayings}
use Rattle.ipl_cli.proofs.top.say_view.Goals as goal

pub returns-in-Ok-clause-leaves : goal.returns-in-Ok-clause-leaves
returns-in-Ok-clause-leaves g c =
    said_view (g.D.Chip.told c.args.desk.now) (g.D.Chip.told c.say_serial_view.new.desk)
    c.in-Some.geometry.units (c.in-Some.ensures.units ∙ ap units_on c.units.ensures) c.in-Ok.ensures.view
    c.say_serial_view.ensures.only

pub returns-in-Err-clause-leaves : goal.returns-in-Err-clause-leaves
returns-in-Err-clause-leaves g c =
    rw c.view_end.ensures (failed_view (g.D.Chip.told c.args.desk.now)
    (g.D.Chip.told c.say_serial_view.new.desk) c.in-Some.geometry.units
    (c.in-Some.ensures.units ∙ ap units_on c.units.ensures) c.in-Err.stop c.in-Err.ensures.view
    c.say_serial_view.ensures.only c.in-Err.ensures.early)

pub returns-in-Ok-clause-further : goal.returns-in-Ok-clause-further
returns-in-Ok-clause-further g c = c.say_serial_view.ensures.only.further

pub returns-in-Err-clause-further : goal.returns-in-Err-clause-further
returns-in-Err-clause-further g c = c.say_serial_view.ensures.only.further

pub returns-in-Ok-clause-lawful : goal.returns-in-Ok-clause-lawful
returns-in-Ok-clause-lawful g c =
    adds_sayings (g.D.Chip.told c.args.desk.now) (g.D.Chip.told c.say_serial_view.new.desk)
    c.say_serial_view.ensures.only.still

pub returns-in-Err-clause-lawful : goal.returns-in-Err-clause-lawful
returns-in-Err-clause-lawful g c =
    adds_sayings (g.D.Chip.told c.args.desk.now) (g.D.Chip.told c.say_serial_view.new.desk)
    c.say_serial_view.ensures.only.still

pub returns-in_default-clause-lawful : goal.returns-in_default-clause-lawful
returns-in_default-clause-lawful g c =
    adds_nothing (g.D.Chip.told c.args.desk.now) (g.D.Chip.told c.args.desk.now) refl
