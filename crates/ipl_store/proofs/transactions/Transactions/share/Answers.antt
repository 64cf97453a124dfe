use Rattle.std.proofs.Common.{refl}
use Rattle.record_locks.specs.Locks.{refuses_share}
use Rattle.ipl_store.proofs.OpenLemmas.{unrefused_done}
use Rattle.ipl_store.proofs.SessionLemmas.{shared, locks_of}
use Rattle.ipl_store.proofs.transactions.Transactions.share.Goals as goal

pub returns-clause-turns : goal.returns-clause-turns
returns-clause-turns c =
    let old = c.args.self.now in
    let name = c.args.name.0 in
    let did = unrefused_done c.share.result (refuses_share old.sessions c.args.s name)
    c.share.ensures.refusal c.requires.unrefused c.share.ensures.ok in
    shared c.args.s name old (record { pages = old.pages; sessions = c.share.new.self })
    c.requires.session did
    (locks_of c.share.new.self c.facts.ensures.all c.facts.ensures.one_writer c.facts.ensures.sized
    c.facts.ensures.few)
    refl

pub returns-clause-framed : goal.returns-clause-framed
returns-clause-framed c = λ u page is. is
