use Rattle.std.proofs.Common.{◌≡◌, ◌≤◌, ◌∷◌, [], ◌++◌, cond, None, length, sym, ◌∙◌, ap, arith}
use Rattle.std.specs.Prelude.{slice_index_or}
use Rattle.serial_view.specs.Turns.{is_turn_of}
use Rattle.serial_view.proofs.FilterLemmas.{appended, appended_all, pushed, not_pushed}
use Rattle.serial_view.proofs.turn_table.append_turns.Goals as goal
use Rattle.serial_view.proofs.turn_table.append_turns.Goals.{then-is_turn_of+in_ok-push, else-is_turn_of}

pub loop-at-preserved : goal.loop-at-preserved
loop-at-preserved c =
    let at = c.loop-at.at in
    let turns = c.args.turns.now in
    let step : c.if-is_turn_of.order.items ≡ c.loop-at.order.items
    ++ cond (is_turn_of c.args.s (slice_index_or turns at None)) (at ∷ []) [] =
    elim c.if-is_turn_of.branch [
      | then-is_turn_of+in_ok-push w ↦
          pushed _ _ _ _ (ap (λ v. v.items) w.order-is ∙ w.in_ok-push.ensures.items)
          (sym c.is_turn_of.ensures ∙ w.if-is_turn_of.true)
      | else-is_turn_of w ↦
          not_pushed _ _ _ _ (ap (λ v. v.items) w.order-is)
          (sym c.is_turn_of.ensures ∙ w.if-is_turn_of.false)
    ] in
    record {
      so_far = appended (λ j. is_turn_of c.args.s (slice_index_or turns j None)) c.args.from at
          c.args.order.now.items c.loop-at.order.items c.if-is_turn_of.order.items c.loop-at.auto.at
          c.loop-at.invariant.so_far step;
      within = omega (arith, c.loop-at-test.true);
    }

pub returns : goal.returns
returns c =
    let turns = c.args.turns.now in
    let past : length turns ≤ c.loop-at.at = omega (arith, c.loop-at-test.false) in
    appended_all (λ j. is_turn_of c.args.s (slice_index_or turns j None)) c.args.from c.loop-at.at (length turns)
    c.args.order.now.items c.loop-at.order.items past c.loop-at.invariant.within c.loop-at.invariant.so_far
