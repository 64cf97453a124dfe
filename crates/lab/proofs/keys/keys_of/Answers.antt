use Rattle.lab.proofs.SuitsLemmas.{suits_of}
use Rattle.lab.proofs.keys.keys_of.Goals as goal

pub returns : goal.returns
returns c =
    let opened = c.in-Ok.ensures.opens in
    suits_of c.args.desk.now c.open.new.chip c.in-Ok.keys.store opened.1 opened.4.accounts.counts.places
