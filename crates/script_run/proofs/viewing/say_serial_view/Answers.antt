use Rattle.std.proofs.lemmas.Result.{err_from_is_err_and}
use Rattle.serial_view.specs.Running.{limits_with}
use Rattle.script_run.proofs.ViewLemmas.{view_stopped, view_said, only_says_behind}
use Rattle.script_run.specs.declared.view_stop.ViewStop.TheVariants as stop
use Rattle.script_run.proofs.viewing.say_serial_view.Goals as goal

pub returns-in_err-commands-clause-view : goal.returns-in_err-commands-clause-view
returns-in_err-commands-clause-view g c = λ script left.
    let told = g.D.Chip.told in
    let why = err_from_is_err_and c.from_residual.result c.from_residual.ensures.1 in
    rw why.1 (view_stopped (limits_with c.args.sessions c.args.geometry.units) script (told c.args.desk.now)
    (told c.read_commands.new.desk) _ c.read_commands.ensures.reads)

pub returns-in_default-clause-view : goal.returns-in_default-clause-view
returns-in_default-clause-view g c = λ script left.
    let told = g.D.Chip.told in
    view_stopped (limits_with c.args.sessions c.args.geometry.units) script (told c.args.desk.now) (told c.read_commands.new.desk)
    stop.OutOfMemory c.read_commands.ensures.reads

pub returns-clause-view : goal.returns-clause-view
returns-clause-view g c = λ script left.
    let told = g.D.Chip.told in
    let says = c.say_positions in
    view_said (limits_with c.args.sessions c.args.geometry.units) script c.in_ok-commands.commands.items c.deref.result.now
    c.in-Ok.order.items c.deref-2.result.now (told c.args.desk.now) (told c.read_commands.new.desk)
    (told says.new.desk) says.result c.read_commands.ensures.reads (c.in_ok-commands.ensures.all script left)
    c.deref.ensures.value c.in-Ok.ensures c.deref-2.ensures.value says.ensures.says says.ensures.left

pub returns-clause-only : goal.returns-clause-only
returns-clause-only g c =
    let told = g.D.Chip.told in
    let says = c.say_positions in
    only_says_behind c.deref-2.result.now (told c.args.desk.now) (told c.read_commands.new.desk) (told says.new.desk)
    says.result c.read_commands.ensures.reads says.ensures.says
