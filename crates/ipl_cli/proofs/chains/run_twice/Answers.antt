use Rattle.std.proofs.Common.{◌≡◌, ℕ, [], subst, arith}
use Rattle.std.proofs.lemmas.Bool.Decides.{nat_tests}
use Rattle.store_trait.proofs.OnwardLemmas.{unrisen_later}
use Rattle.store_laws.specs.Keeps.{limits_of}
use Rattle.ipl_meaning.specs.Legible.{of}
use Rattle.ipl_cli.specs.Ending.{AtStatus}
use Rattle.ipl_cli.specs.Top.{RunsOpened, records_after}
use Rattle.ipl_cli.specs.Chains.{units_kept}
use Rattle.ipl_cli.proofs.ChainLemmas.{run_rests, run_lawful, unrisen_first, is_zero}
use Rattle.ipl_cli.proofs.chains.run_twice.Goals as goal

pub returns-clause-rests : goal.returns-clause-rests
returns-clause-rests g c = λ sessions asks m script on unrisen is.
    let old = g.D.Chip.told c.args.desk.now in
    let mid = g.D.Chip.told c.top.new.desk in
    let new = g.D.Chip.told c.top-2.new.desk in
    let first : c.top.result ≡ 0 = grind (arith, nat_tests, c.if-top-ne0.false) in
    let second = is_zero c.top-2.result is in
    let begun = run_rests old mid m script on
    (subst (λ (n : ℕ). AtStatus (RunsOpened sessions old mid) n) first (c.top.ensures.opened sessions asks))
    c.top.ensures.counts (unrisen_first old mid new c.top-2.ensures.counts unrisen) in
    run_rests mid new (of m.pages (records_after (limits_of sessions (units_kept old on.history)) m.map script)) [] begun
    (subst (λ (n : ℕ). AtStatus (RunsOpened sessions mid new) n) second (c.top-2.ensures.opened sessions asks))
    c.top-2.ensures.counts (unrisen_later old mid new c.top.ensures.counts.writes unrisen)

pub returns-clause-lawful : goal.returns-clause-lawful
returns-clause-lawful g c = λ sessions asks m script before unrisen is.
    let old = g.D.Chip.told c.args.desk.now in
    let mid = g.D.Chip.told c.top.new.desk in
    let new = g.D.Chip.told c.top-2.new.desk in
    let first : c.top.result ≡ 0 = grind (arith, nat_tests, c.if-top-ne0.false) in
    let second = is_zero c.top-2.result is in
    let begun = run_lawful old mid m script before.on
    (subst (λ (n : ℕ). AtStatus (RunsOpened sessions old mid) n) first (c.top.ensures.opened sessions asks))
    c.top.ensures.counts (unrisen_first old mid new c.top-2.ensures.counts unrisen) before.told before.is in
    run_lawful mid new (of m.pages (records_after (limits_of sessions (units_kept old before.on.history)) m.map script)) [] begun.on
    (subst (λ (n : ℕ). AtStatus (RunsOpened sessions mid new) n) second (c.top-2.ensures.opened sessions asks))
    c.top-2.ensures.counts (unrisen_later old mid new c.top.ensures.counts.writes unrisen) begun.told begun.is
