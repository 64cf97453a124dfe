use Rattle.std.proofs.Common.{◌≡◌, ℕ, refl, subst, arith}
use Rattle.std.proofs.lemmas.Bool.Decides.{nat_tests}
use Rattle.std.specs.Prelude.{map}
use Rattle.std.specs.String.{string_bytes}
use Rattle.command_line.specs.Choice.{requested}
use Rattle.store_laws.specs.Keeps.{limits_of}
use Rattle.ipl_cli.specs.Ending.{AskedFor, AtStatus}
use Rattle.ipl_cli.specs.Frames.{ClosesAsAsked}
use Rattle.ipl_cli.specs.Top.{RunsOpened, records_after}
use Rattle.ipl_cli.specs.Chains.{units_kept}
use Rattle.ipl_cli.proofs.ChainLemmas.{both_lawful, closed_is_opened, run_rests, unrisen_first}
use Rattle.ipl_cli.proofs.chains.close_and_run.Goals as goal

pub returns : goal.returns
returns g c = λ m script on unrisen is.
    let old = g.D.Chip.told c.args.desk.now in
    let mid = g.D.Chip.told c.top.new.desk in
    let new = g.D.Chip.told c.top-2.new.desk in
    let first : c.top.result ≡ 0 = grind (arith, nat_tests, c.if-top-ne0.false) in
    let asked = requested (map string_bytes c.args.first.now) in
    let opens = closed_is_opened asked c.requires.first in
    let begun = run_rests old mid m script on
    (subst (λ (n : ℕ). AtStatus (RunsOpened opens.0 old mid) n) first (c.top.ensures.opened opens.0 opens.1))
    c.top.ensures.counts (unrisen_first old mid new c.top-2.ensures.counts unrisen) in
    let closes = subst (λ (a : AskedFor). ClosesAsAsked a old mid) c.requires.first.3 (c.top.ensures.closed first) in
    let then = c.top-2.ensures.opened c.requires.second.0 c.requires.second.1 in
    both_lawful old mid new m script on
    ((closes refl).clean on.history script on.steady on.left m on.rests on.apart) c.top.ensures.counts.places
    (records_after (limits_of opens.0 (units_kept old on.history)) m.map script) begun then.0 then.2
