use Rattle.std.proofs.Common.{◌≡◌, ℕ, [], subst, arith}
use Rattle.std.proofs.lemmas.Bool.Decides.{nat_tests}
use Rattle.store_trait.proofs.OnwardLemmas.{unrisen_later}
use Rattle.ipl_meaning.specs.Legible.{whole}
use Rattle.ipl_cli.specs.Trials.{TrialLeaves, commands_on, state_after}
use Rattle.ipl_cli.proofs.ChainLemmas.{done_tried}
use Rattle.store_laws.specs.Keeps.{limits_of}
use Rattle.ipl_cli.specs.Ending.{AtStatus}
use Rattle.ipl_cli.specs.Top.{RunsOpened, records_after}
use Rattle.ipl_cli.specs.Chains.{RestsOn, RestsLawfully}
use Rattle.ipl_cli.proofs.ChainLemmas.{run_rests, run_lawful, trial_rests, trial_keeps, trial_lawful, trial_lawful_keeps, unrisen_first, is_zero}
use Rattle.ipl_cli.proofs.chains.trial_and_run.Goals as goal

pub returns-clause-rests : goal.returns-clause-rests
returns-clause-rests g c = λ seed count frames first_sessions sessions numbers script asked asks on unrisen is.
    let old = g.D.Chip.told c.args.desk.now in
    let mid = g.D.Chip.told c.top.new.desk in
    let new = g.D.Chip.told c.top-2.new.desk in
    let first : c.top.result ≡ 0 = grind (arith, nat_tests, c.if-top-ne0.false) in
    let second = is_zero c.top-2.result is in
    let tried = subst (λ (n : ℕ). AtStatus (λ ending. TrialLeaves first_sessions seed count ending old mid) n) first
    (c.top.ensures.trials seed count frames first_sessions numbers asked) in
    let still = unrisen_first old mid new c.top-2.ensures.counts unrisen in
    let begun = trial_rests old mid seed count script on (done_tried seed count old mid tried) c.top.ensures.counts still in
    let done = run_rests mid new (whole (state_after first_sessions old.places (commands_on old.places seed count)).map) script begun
    (subst (λ (n : ℕ). AtStatus (RunsOpened sessions mid new) n) second
    (c.top-2.ensures.opened sessions asks))
    c.top-2.ensures.counts (unrisen_later old mid new c.top.ensures.counts.writes unrisen) in
    subst (λ (q : ℕ). RestsOn (whole (records_after (limits_of sessions q) (state_after first_sessions old.places (commands_on old.places seed count)).map script)) [] new)
    (trial_keeps old mid seed count script on (done_tried seed count old mid tried) c.top.ensures.counts still) done

pub returns-clause-lawful : goal.returns-clause-lawful
returns-clause-lawful g c = λ seed count frames first_sessions sessions numbers script asked asks before unrisen is.
    let on = before.on in
    let old = g.D.Chip.told c.args.desk.now in
    let mid = g.D.Chip.told c.top.new.desk in
    let new = g.D.Chip.told c.top-2.new.desk in
    let first : c.top.result ≡ 0 = grind (arith, nat_tests, c.if-top-ne0.false) in
    let second = is_zero c.top-2.result is in
    let tried = subst (λ (n : ℕ). AtStatus (λ ending. TrialLeaves first_sessions seed count ending old mid) n) first
    (c.top.ensures.trials seed count frames first_sessions numbers asked) in
    let still = unrisen_first old mid new c.top-2.ensures.counts unrisen in
    let begun = trial_lawful old mid seed count script on (done_tried seed count old mid tried) c.top.ensures.counts still before.told before.lawful in
    let done = run_lawful mid new (whole (state_after first_sessions old.places (commands_on old.places seed count)).map) script begun.on
    (subst (λ (n : ℕ). AtStatus (RunsOpened sessions mid new) n) second
    (c.top-2.ensures.opened sessions asks))
    c.top-2.ensures.counts (unrisen_later old mid new c.top.ensures.counts.writes unrisen) begun.told begun.is in
    subst (λ (q : ℕ). RestsLawfully (whole (records_after (limits_of sessions q) (state_after first_sessions old.places (commands_on old.places seed count)).map script)) [] new)
    (trial_lawful_keeps old mid seed count script on (done_tried seed count old mid tried) c.top.ensures.counts still before.told before.lawful) done
