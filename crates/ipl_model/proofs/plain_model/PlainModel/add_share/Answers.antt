use Rattle.std.proofs.Common.{◌≡◌, ◌<◌, ◌∷◌, [], List, ℕ, length, reverse, Option, Some, set, sym, ◌∙◌, ap, arith}
use Rattle.std.specs.FinMap.{empty}
use Rattle.std.proofs.lemmas.List.{reverse-append}
use Rattle.ipl_model.specs.State.{with_writes}
use Rattle.ipl_model.specs.declared.plain_model.log.LoggedSession as plain
use Rattle.ipl_model.specs.Plain.{state_of, newest_first, slot_of}
use Rattle.ipl_model.proofs.ChangeLemmas.{standing, on_err, keeps, changes, changes_nothing}
use Rattle.ipl_model.proofs.plain_model.PlainModel.add_share.Goals as goal

pub returns-in_err-push-clause-err : goal.returns-in_err-push-clause-err
unfolding state_of
returns-in_err-push-clause-err c =
    let within : c.args.s < length c.args.self.now.sessions = omega arith in
    let m = with_writes (newest_first c.args.self.now.committed.items) empty in
    let x = c.in-Some.session in
    let y : Option plain.LoggedSession = Some (record { writes = x.writes; shared = c.push.new.self }) in
    let same : standing m (set c.args.self.now.sessions c.args.s y) ≡ standing m c.args.self.now.sessions =
    keeps m c.args.self.now.sessions c.args.s within c.index-self-s.result y c.index-self-s.is
    (ap (λ (names : List ℕ). Some (record { writes = newest_first x.writes.items; shared = reverse names })) c.in_err-push.ensures.items ∙ ap slot_of (sym (c.index-self-s.is ∙ c.in-Some.is))) in
    on_err c.from_residual.result same

pub returns-in_ok-push-clause-ok : goal.returns-in_ok-push-clause-ok
unfolding state_of
returns-in_ok-push-clause-ok c =
    let within : c.args.s < length c.args.self.now.sessions = omega arith in
    let x = c.in-Some.session in
    changes (with_writes (newest_first c.args.self.now.committed.items) empty) c.args.self.now.sessions c.args.s within
    (λ session. record session { shared = c.args.name ∷ session.shared }) c.index-self-s.result x _ c.index-self-s.is (c.index-self-s.is ∙ c.in-Some.is)
    (ap (λ (names : List ℕ). record { writes = newest_first x.writes.items; shared = names }) (ap reverse c.in_ok-push.ensures.items ∙ reverse-append x.shared.items (c.args.name ∷ [])))

pub returns-in_default-clause-ok : goal.returns-in_default-clause-ok
unfolding state_of
returns-in_default-clause-ok c =
    let within : c.args.s < length c.args.self.now.sessions = omega arith in
    changes_nothing (with_writes (newest_first c.args.self.now.committed.items) empty) c.args.self.now.sessions c.args.s within
    (λ session. record session { shared = c.args.name ∷ session.shared }) c.index-self-s.result c.index-self-s.is (ap slot_of (c.index-self-s.is ∙ c.in_default.is))
