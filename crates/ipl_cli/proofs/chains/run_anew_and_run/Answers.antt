use Rattle.std.proofs.Common.{◌≡◌, ℕ, [], subst, arith}
use Rattle.std.proofs.lemmas.Bool.Decides.{nat_tests}
use Rattle.store_trait.proofs.OnwardLemmas.{unrisen_later}
use Rattle.ipl_base.specs.Places.{units_on}
use Rattle.ipl_meaning.specs.Legible.{whole}
use Rattle.store_laws.specs.Keeps.{limits_of}
use Rattle.ipl_cli.specs.Ending.{AtStatus}
use Rattle.ipl_cli.specs.Top.{RunsOpened, records_after}
use Rattle.ipl_cli.specs.Chains.{RestsOn, RestsLawfully, no_records}
use Rattle.ipl_cli.proofs.ChainLemmas.{run_rests, run_lawful, anew_rests, anew_keeps, anew_lawful, unrisen_first, is_zero}
use Rattle.ipl_cli.proofs.chains.run_anew_and_run.Goals as goal

pub returns-clause-rests : goal.returns-clause-rests
returns-clause-rests g c = λ sessions asks script on unrisen is.
    let old = g.D.Chip.told c.args.desk.now in
    let mid = g.D.Chip.told c.top.new.desk in
    let new = g.D.Chip.told c.top-2.new.desk in
    let first : c.top.result ≡ 0 = grind (arith, nat_tests, c.if-top-ne0.false) in
    let second = is_zero c.top-2.result is in
    let ran = c.top.ensures.formatted sessions asks first in
    let still = unrisen_first old mid new c.top-2.ensures.counts unrisen in
    let begun = anew_rests old mid script on ran c.top.ensures.counts still in
    let done = run_rests mid new (whole (records_after (limits_of sessions (units_on old.places)) no_records script)) [] begun
    (subst (λ (n : ℕ). AtStatus (RunsOpened c.requires.second.0 mid new) n) second
    (c.top-2.ensures.opened c.requires.second.0 c.requires.second.1))
    c.top-2.ensures.counts (unrisen_later old mid new c.top.ensures.counts.writes unrisen) in
    subst (λ (q : ℕ). RestsOn (whole (records_after (limits_of c.requires.second.0 q) (records_after (limits_of sessions (units_on old.places)) no_records script) [])) [] new)
    (anew_keeps old mid script on ran c.top.ensures.counts still) done

pub returns-clause-lawful : goal.returns-clause-lawful
returns-clause-lawful g c = λ sessions asks script before unrisen is.
    let on = before.on in
    let old = g.D.Chip.told c.args.desk.now in
    let mid = g.D.Chip.told c.top.new.desk in
    let new = g.D.Chip.told c.top-2.new.desk in
    let first : c.top.result ≡ 0 = grind (arith, nat_tests, c.if-top-ne0.false) in
    let second = is_zero c.top-2.result is in
    let ran = c.top.ensures.formatted sessions asks first in
    let still = unrisen_first old mid new c.top-2.ensures.counts unrisen in
    let begun = anew_lawful old mid script on ran c.top.ensures.counts still before.told before.lawful in
    let done = run_lawful mid new (whole (records_after (limits_of sessions (units_on old.places)) no_records script)) [] begun.on
    (subst (λ (n : ℕ). AtStatus (RunsOpened c.requires.second.0 mid new) n) second
    (c.top-2.ensures.opened c.requires.second.0 c.requires.second.1))
    c.top-2.ensures.counts (unrisen_later old mid new c.top.ensures.counts.writes unrisen) begun.told begun.is in
    subst (λ (q : ℕ). RestsLawfully (whole (records_after (limits_of c.requires.second.0 q) (records_after (limits_of sessions (units_on old.places)) no_records script) [])) [] new)
    (anew_keeps old mid script on ran c.top.ensures.counts still) done
