use Rattle.std.proofs.Common.{◌≡◌, ◌<◌, ◌∷◌, [], List, length, reverse, Option, Some, set, sym, ◌∙◌, ap, arith}
use Rattle.std.specs.FinMap.{empty}
use Rattle.ipl_model.specs.State.{Write, with_writes}
use Rattle.ipl_model.specs.declared.plain_model.log.Write as plain
use Rattle.ipl_model.specs.declared.plain_model.log.LoggedSession.{LoggedSession}
use Rattle.ipl_model.specs.Plain.{state_of, newest_first, slot_of}
use Rattle.ipl_model.proofs.LogLemmas.{newest_first-append}
use Rattle.ipl_model.proofs.ChangeLemmas.{standing, on_err, keeps, changes, changes_nothing}
use Rattle.ipl_model.proofs.plain_model.PlainModel.add_write.Goals as goal

pub returns-in_err-push-clause-err : goal.returns-in_err-push-clause-err
unfolding state_of
returns-in_err-push-clause-err c =
    let within : c.args.s < length c.args.self.now.sessions = omega arith in
    let m = with_writes (newest_first c.args.self.now.committed.items) empty in
    let x = c.in-Some.session in
    let y : Option LoggedSession = Some (record { writes = c.push.new.self; shared = x.shared }) in
    let same : standing m (set c.args.self.now.sessions c.args.s y) ≡ standing m c.args.self.now.sessions =
    keeps m c.args.self.now.sessions c.args.s within c.index-self-s.result y c.index-self-s.is
    (ap (λ (log : List plain.Write). Some (record { writes = newest_first log; shared = reverse x.shared.items })) c.in_err-push.ensures.items ∙ ap slot_of (sym (c.index-self-s.is ∙ c.in-Some.is))) in
    on_err c.from_residual.result same

pub returns-in_ok-push-clause-ok : goal.returns-in_ok-push-clause-ok
unfolding state_of
returns-in_ok-push-clause-ok c =
    let within : c.args.s < length c.args.self.now.sessions = omega arith in
    let x = c.in-Some.session in
    let w : plain.Write = record { name = c.args.name; value = c.args.value } in
    changes (with_writes (newest_first c.args.self.now.committed.items) empty) c.args.self.now.sessions c.args.s within
    (λ session. record session { writes = (c.args.name, c.args.value) ∷ session.writes }) c.index-self-s.result x _ c.index-self-s.is (c.index-self-s.is ∙ c.in-Some.is)
    (ap (λ (ws : List Write). record { writes = ws; shared = reverse x.shared.items }) (ap newest_first c.in_ok-push.ensures.items ∙ newest_first-append x.writes.items (w ∷ [])))

pub returns-in_default-clause-ok : goal.returns-in_default-clause-ok
unfolding state_of
returns-in_default-clause-ok c =
    let within : c.args.s < length c.args.self.now.sessions = omega arith in
    changes_nothing (with_writes (newest_first c.args.self.now.committed.items) empty) c.args.self.now.sessions c.args.s within
    (λ session. record session { writes = (c.args.name, c.args.value) ∷ session.writes }) c.index-self-s.result c.index-self-s.is (ap slot_of (c.index-self-s.is ∙ c.in_default.is))
