use Rattle.std.proofs.Common.{◌≡◌, ℕ, [], subst, arith}
use Rattle.std.proofs.lemmas.Bool.Decides.{nat_tests}
use Rattle.store_trait.proofs.OnwardLemmas.{unrisen_later}
use Rattle.ipl_meaning.specs.Legible.{whole}
use Rattle.store_laws.specs.Keeps.{limits_of}
use Rattle.ipl_cli.specs.Ending.{AtStatus}
use Rattle.ipl_cli.specs.Top.{RunsOpened, records_after}
use Rattle.ipl_cli.specs.Chains.{RestsOn, RestsLawfully, no_records}
use Rattle.ipl_cli.proofs.ChainLemmas.{run_rests, run_lawful, format_rests, format_keeps, format_lawful, format_lawful_keeps, is_zero}
use Rattle.ipl_cli.proofs.chains.format_and_run.Goals as goal

pub returns-clause-rests : goal.returns-clause-rests
returns-clause-rests g c = λ sessions spares script asks asked on unrisen is.
    let old = g.D.Chip.told c.args.desk.now in
    let mid = g.D.Chip.told c.top.new.desk in
    let new = g.D.Chip.told c.top-2.new.desk in
    let first : c.top.result ≡ 0 = grind (arith, nat_tests, c.if-top-ne0.false) in
    let second = is_zero c.top-2.result is in
    let lays = c.top.ensures.formats spares asked first in
    let begun = format_rests old mid spares script on lays c.top.ensures.counts in
    let done = run_rests mid new (whole no_records) script begun
    (subst (λ (n : ℕ). AtStatus (RunsOpened sessions mid new) n) second
    (c.top-2.ensures.opened sessions asks))
    c.top-2.ensures.counts (unrisen_later old mid new c.top.ensures.counts.writes unrisen) in
    subst (λ (q : ℕ). RestsOn (whole (records_after (limits_of sessions q) no_records script)) [] new)
    (format_keeps old mid spares script on lays c.top.ensures.counts) done

pub returns-clause-lawful : goal.returns-clause-lawful
returns-clause-lawful g c = λ sessions spares script asks asked before unrisen is.
    let on = before.on in
    let old = g.D.Chip.told c.args.desk.now in
    let mid = g.D.Chip.told c.top.new.desk in
    let new = g.D.Chip.told c.top-2.new.desk in
    let first : c.top.result ≡ 0 = grind (arith, nat_tests, c.if-top-ne0.false) in
    let second = is_zero c.top-2.result is in
    let lays = c.top.ensures.formats spares asked first in
    let begun = format_lawful old mid spares script on lays c.top.ensures.counts before.told before.lawful in
    let done = run_lawful mid new (whole no_records) script begun.on
    (subst (λ (n : ℕ). AtStatus (RunsOpened sessions mid new) n) second
    (c.top-2.ensures.opened sessions asks))
    c.top-2.ensures.counts (unrisen_later old mid new c.top.ensures.counts.writes unrisen) begun.told begun.is in
    subst (λ (q : ℕ). RestsLawfully (whole (records_after (limits_of sessions q) no_records script)) [] new)
    (format_lawful_keeps old mid spares script on lays c.top.ensures.counts before.told before.lawful) done
