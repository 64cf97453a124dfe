use Rattle.std.proofs.Common.{arith, refl}
use Rattle.unit_layout.proofs.StatusLemmas.{status_written}
use Rattle.unit_layout.proofs.status.write_status_header.Goals as goal

pub returns-clause-spells : goal.returns-clause-spells
returns-clause-spells c places listed =
    status_written places c.args.header.now c.args.retired.now c.write_word.new.out
    c.write_word-2.new.out c.write_places.new.out _
    (omega (arith, c.told-out, c.write_word.ensures.size, c.write_word-2.ensures.size)) refl
    (omega (arith, c.fits-header)) (omega (arith, c.fits-header)) c.write_word.ensures.front
    c.write_word-2.ensures.front c.write_places.ensures listed
