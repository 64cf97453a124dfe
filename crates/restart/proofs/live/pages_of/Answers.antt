use Rattle.std.proofs.Common.{◌∙◌, ap}
use Rattle.log_records.specs.Reading.{records_of}
use Rattle.log_records.specs.View.{Versioned}
use Rattle.ipl_meaning.specs.Masks.{mask_of}
use Rattle.ipl_meaning.proofs.PayloadLemmas.{log_payloads_are_spelled}
use Rattle.restart.proofs.live.pages_of.Goals as goal

pub of-requires-clause-list : goal.of-requires-clause-list
of-requires-clause-list c = (records_of c.args.version c.args.payload.now, log_payloads_are_spelled c.args.version c.args.payload.now (λ i. (c.type_inv.payload i).fits) c.requires.list)

pub returns : goal.returns
returns c = c.mask_of.ensures ∙ ap (λ (p : Versioned). mask_of (records_of p.version p.bytes)) c.of.ensures
