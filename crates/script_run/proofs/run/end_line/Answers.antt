use Rattle.script_run.proofs.GoesLemmas.{takes_line}
use Rattle.script_run.proofs.run.end_line.Goals as goal

pub returns : goal.returns
returns g c = λ known.
    let answered = c.answer_line-answered.ensures known in record {
      takes = takes_line (g.S.Store.keeping g.places known) c.args.line.now c.bytes.result.now c.clear.new.self c.args.store.now c.answer_line-answered.new.store (g.D.Chip.told c.args.desk.now) (g.D.Chip.told c.answer_line-answered.new.desk)
          c.answer_line-answered.result c.bytes.ensures c.clear.ensures answered.answers;
      along = answered.along;
      completes = answered.completes;
      last = answered.last;
    }
