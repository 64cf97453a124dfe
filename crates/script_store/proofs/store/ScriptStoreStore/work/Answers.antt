use Rattle.script_store.proofs.store.ScriptStoreStore.work.Goals as goal

pub returns-clause-works : goal.returns-clause-works
returns-clause-works g c = λ known. (c.answer.ensures.does known).works

pub returns-clause-along : goal.returns-clause-along
returns-clause-along g c = λ known.
    let is = c.answer.ensures.does known in record {
      draws = is.draws;
      tidy = is.tidy;
      suited = is.running;
      learns = is.learns;
      counts = is.counts;
      cause = is.cause;
    }

pub returns-clause-recalls : goal.returns-clause-recalls
returns-clause-recalls g c = λ calm known. (c.answer.ensures.does known).recalls calm

pub returns-clause-done : goal.returns-clause-done
returns-clause-done g c = c.answer.ensures.done
