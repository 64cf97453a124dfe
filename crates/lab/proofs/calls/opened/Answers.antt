use Rattle.std.proofs.Common.{◌∙◌}
use Rattle.lab.proofs.SuitsLemmas.{sound_of, suits_of}
use Rattle.lab.proofs.calls.opened.Goals as goal

pub reopen-again-requires : goal.reopen-again-requires
reopen-again-requires c = record { sound = sound_of c.args.desk.now c.args.store c.requires }

pub returns : goal.returns
returns c =
    let reopened = c.reopen-again in
    suits_of c.args.desk.now c.say.new.desk reopened.result.0 reopened.ensures.sound
    (c.say.ensures ∙ reopened.ensures.tries.accounts.counts.places)
