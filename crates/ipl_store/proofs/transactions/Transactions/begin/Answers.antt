use Rattle.std.proofs.Common.{refl, ◌∙◌, ap}
use Rattle.record_locks.specs.Held.{after_begin}
use Rattle.record_locks.specs.Locks.{refuses_begin}
use Rattle.ipl_store.proofs.OpenLemmas.{unrefused_done}
use Rattle.ipl_store.proofs.SessionLemmas.{begun, locks_of}
use Rattle.ipl_store.proofs.transactions.Transactions.begin.Goals as goal

pub returns-clause-turns : goal.returns-clause-turns
returns-clause-turns c =
    let s = c.args.s in
    let old = c.args.self.now in
    let did = unrefused_done c.begin.result (refuses_begin old.sessions s) c.begin.ensures.refusal
    c.requires.closed c.begin.ensures.ok in
    begun s old (record {
      pages = record {
        parts = record old.pages.parts {
          counter = c.draw-number.new.self;
          active = c.active_numbers-self.result;
        };
        pool = old.pages.pool;
      };
      sessions = c.begin.new.self;
    }) c.requires.session c.requires.closed
    (did ∙ ap (after_begin old.sessions s) c.draw-number.ensures.drawn)
    (locks_of c.begin.new.self c.facts.ensures.all c.facts.ensures.one_writer c.facts.ensures.sized
    c.facts.ensures.few)
    refl refl refl c.draw-number.ensures.next c.active_numbers-self.ensures refl

pub returns-clause-framed : goal.returns-clause-framed
returns-clause-framed c = λ u page is. is
