use Rattle.std.proofs.Common.{sym, ◌∙◌}
use Rattle.std.proofs.lemmas.Option.{none-some}
use Rattle.store_laws.specs.Frames.{IsAbortedFrame}
use Rattle.ipl_store.proofs.FramedLemmas.{named_framed}
use Rattle.ipl_store.proofs.OpenLemmas.{ends_numbered}
use Rattle.ipl_store.proofs.SessionLemmas.{aborted}
use Rattle.ipl_store.proofs.transactions.Transactions.abort.Goals as goal

pub unreachable-requires : goal.unreachable-requires
unreachable-requires c =
    let mine = ends_numbered c.args.self.now.sessions c.args.s c.requires.open in
    none-some mine.0 (sym c.in_default.is ∙ c.number.ensures ∙ mine.1)

pub returns-clause-turns : goal.returns-clause-turns
returns-clause-turns c =
    let old = c.args.self.now in
    aborted c.args.s c.in-Some.number c.written.result.now old
    (record { pages = c.end.new.self.pages; sessions = c.end.new.self.sessions })
    c.drop_names.new.pool c.requires.session (sym c.number.ensures ∙ c.in-Some.is)
    c.written.ensures.names c.drop_names.ensures.dropped c.drop_names.ensures.pool.pins
    c.end.ensures.rest c.end.ensures.sessions c.end.ensures.active c.end.ensures.locks

pub returns-clause-framed : goal.returns-clause-framed
returns-clause-framed c =
    let old = c.args.self.now.pages in
    named_framed (IsAbortedFrame c.in-Some.number) _ old
    (record { parts = old.parts; pool = c.drop_names.new.pool }) c.end.new.self.pages
    c.drop_names.ensures.dropped c.end.ensures.rest.pool
