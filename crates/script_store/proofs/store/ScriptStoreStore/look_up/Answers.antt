use Rattle.script_store.proofs.store.ScriptStoreStore.look_up.Goals as goal

pub returns-clause-looks_up : goal.returns-clause-looks_up
returns-clause-looks_up g c = λ known. (c.look.ensures.finds known).looks_up

pub returns-clause-along : goal.returns-clause-along
returns-clause-along g c = λ known.
    let is = c.look.ensures.finds known in record {
      draws = is.draws;
      tidy = is.tidy;
      suited = is.running;
      learns = is.learns;
      counts = is.counts;
      cause = is.cause;
    }

pub returns-clause-recalls : goal.returns-clause-recalls
returns-clause-recalls g c = λ known. (c.look.ensures.finds known).recalls

pub returns-clause-done : goal.returns-clause-done
returns-clause-done g c = c.look.ensures.done
