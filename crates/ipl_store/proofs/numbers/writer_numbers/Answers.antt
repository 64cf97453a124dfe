use Rattle.std.proofs.Common.{◌<◌, ℕ, [], ◌∷◌, length, get_or, Option, ◌∙◌, ap, arith}
use Rattle.std.specs.Option.{option_map_or}
use Rattle.std.proofs.lemmas.List.Elements.{Contains-get_or}
use Rattle.ipl_store.proofs.WriterLemmas.{none_joins, writer_joins, room_for_writer}
use Rattle.ipl_store.proofs.numbers.writer_numbers.Goals.{in-Some, in_default}
use Rattle.ipl_store.proofs.numbers.writer_numbers.Goals as goal

pub writer_number-requires : goal.writer_number-requires
writer_number-requires c =
    let numbers = c.args.numbers.now in
    let within : c.loop-s.s-index < length numbers = omega (arith, c.loop-s-test.true) in
    c.requires.low (get_or numbers c.loop-s.s-index 0)
    (Contains-get_or numbers c.loop-s.s-index 0 within)

pub add-requires : goal.add-requires
add-requires c =
    let numbers = c.args.numbers.now in
    let within : c.loop-s.s-index < length numbers = omega (arith, c.loop-s-test.true) in
    room_for_writer c.args.sessions.now numbers c.loop-s.s-index c.loop-s.tids within c.requires.few
    c.loop-s.invariant

pub loop-s-preserved : goal.loop-s-preserved
loop-s-preserved c =
    let slots = c.args.sessions.now in
    let numbers = c.args.numbers.now in
    let l = c.loop-s in
    let within : l.s-index < length numbers = omega (arith, c.loop-s-test.true) in
    let adds = λ (o : Option ℕ). option_map_or (λ (tid : ℕ). tid ∷ []) o [] in
    elim c.match-writer_number.branch [
      | in-Some w ↦
          w.tids-is ∙ w.add.ensures
          ∙ writer_joins slots numbers l.s-index l.tids within l.invariant w.in-Some.tid
          (c.writer_number.ensures ∙ ap adds w.in-Some.is)
      | in_default w ↦
          w.tids-is
          ∙ none_joins slots numbers l.s-index l.tids within l.invariant
          (c.writer_number.ensures ∙ ap adds w.in_default.is)
    ]
