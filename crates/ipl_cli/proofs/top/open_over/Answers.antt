use Rattle.std.proofs.Common.{length, refl, ◌∙◌, ap}
use Rattle.page_frames.specs.Pages.{tables_in}
use Rattle.ipl_store.specs.Calls.{numbers_of}
use Rattle.ipl_store.specs.declared.store.Store.{Store}
use Rattle.ipl_cli.proofs.AnewLemmas.{starts_over}
use Rattle.ipl_cli.proofs.top.open_over.Goals as goal

pub returns-in-Ok : goal.returns-in-Ok
returns-in-Ok g c = record {
  opens = starts_over c.args.marks (g.D.Chip.told c.args.desk.now) (g.D.Chip.told c.open_chip.new.chip)
      c.open_chip.new.self c.over.result c.over.ensures c.open_chip.ensures.sound
      c.in-Ok.ensures.opens c.in-Ok.ensures.tries;
  frames = ap (λ (s : Store). s.frames) c.over.ensures ∙ c.open_chip.ensures.frames;
  sessions = ap (λ (s : Store). length s.transactions.sessions) c.over.ensures ∙ c.open_chip.ensures.sessions;
  numbers = ap numbers_of c.over.ensures ∙ c.open_chip.ensures.numbers;
}

pub returns-in-Err : goal.returns-in-Err
returns-in-Err g c = record {
  opens = record {
    fault = c.in-Err.fault;
    end_is = refl;
    fits = c.requires.sound.made.geometry;
    tables = tables_in c.open_chip.new.self.transactions.pages;
    room = c.open_chip.ensures.numbers;
    tries = c.in-Err.ensures.tries;
  };
  frames = tt;
  sessions = tt;
  numbers = tt;
}
