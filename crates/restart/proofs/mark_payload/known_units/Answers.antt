use Rattle.std.proofs.Common.{◌+◌, take, sym, ◌∙◌}
use Rattle.ipl_format.specs.Mark.{bits_length}
use Rattle.unit_directory.specs.Directory.{is_known}
use Rattle.restart.proofs.PayloadLemmas.{one_more_known, one_more_unknown}
use Rattle.restart.proofs.mark_payload.known_units.Goals as goal
use Rattle.restart.proofs.mark_payload.known_units.Goals.{then-is_known, else-is_known}

pub loop-unit-preserved : goal.loop-unit-preserved
loop-unit-preserved c =
    let units = c.units-units.result in
    let size = 4 + bits_length units in
    let known = is_known c.args.directory.now in
    let unit = c.loop-unit.unit in
    let before = take size c.loop-unit.payload in
    let after = take size c.if-is_known.payload in
    elim c.if-is_known.branch [
      | then-is_known w ↦ rw (w.payload-is) record {
        spelled = w.add_unit.ensures.spells;
        known = λ u. w.add_unit.ensures.has u
            ∙ one_more_known known unit u before (c.loop-unit.invariant.known) (sym c.is_known.ensures ∙ w.if-is_known.true);
      }
      | else-is_known w ↦ rw (w.payload-is) record {
        spelled = c.loop-unit.invariant.spelled;
        known = λ u. c.loop-unit.invariant.known u
            ∙ one_more_unknown known unit u (sym c.is_known.ensures ∙ w.if-is_known.false);
      }
    ]
