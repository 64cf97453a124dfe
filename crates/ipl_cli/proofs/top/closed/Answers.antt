use Rattle.std.proofs.Common.{length, ◌∙◌, ap, sym, subst}
use Rattle.ipl_store.specs.declared.store.Store.{Store}
use Rattle.ipl_store.specs.Calls.{numbers_of, IsSound}
use Rattle.ipl_cli.proofs.top.closed.Goals as goal

pub returns-in-Ok : goal.returns-in-Ok
returns-in-Ok c =
    record {
      closes = (
        c.in-Some.ensures.some.0,
        subst (IsSound c.args.places) (sym c.closed.ensures)
            (rw c.in-Some.ensures.some.1 at c.in-Ok.ensures.made.0),
      );
      frames = ap (λ (s : Store). s.frames) c.closed.ensures ∙ c.in-Ok.ensures.frames;
      sessions = ap (λ (s : Store). length s.transactions.sessions) c.closed.ensures ∙ c.in-Ok.ensures.sessions;
      numbers = ap numbers_of c.closed.ensures ∙ c.in-Ok.ensures.numbers;
    }
