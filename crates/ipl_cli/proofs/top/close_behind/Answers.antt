use Rattle.std.proofs.Common.{Ok, Err, refl}
use Rattle.ipl_cli.proofs.top.close_behind.Goals as goal

pub returns-in-Ok : goal.returns-in-Ok
returns-in-Ok g c = record { closes = record { closed = Ok tt; result_is = refl; closes = c.in-Ok.ensures } }

pub returns-in-Err : goal.returns-in-Err
returns-in-Err g c = record { closes = record { closed = Err c.in-Err.fault; result_is = refl; closes = c.in-Err.ensures } }
