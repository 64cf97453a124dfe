use Rattle.std.proofs.Common.{length, refl, ◌∙◌, ap, arith, rules}
use Rattle.ipl_meaning.specs.Tables.{with_masks}
use Rattle.selective_merge.specs.Moving.{places_moved, tables_of}
use Rattle.selective_merge.specs.Packing.{masks_of_payloads}
use Rattle.selective_merge.proofs.MovingLemmas.{is_moved, none_lost, left_within, home_counts, in_use_moved, frees_masked, unit_told}
use Rattle.selective_merge.proofs.parts.move_unit.Goals as goal

pub free_one-requires : goal.free_one-requires
free_one-requires c =
    left_within c.overflow_laws.ensures.drops c.args.parts.now.overflow c.args.unit
    c.drop_unit-left.result 0 _ c.facts-2.ensures c.drop_unit-left.ensures.left
    (omega (
      arith,
      c.requires.sized,
      in_use_moved c.args.parts.now.directory c.args.unit
          c.args.place c.args.generation c.from-used.result c.move_home.new.directory c.move_home.ensures,
    ))

pub free_one-requires-2 : goal.free_one-requires-2
free_one-requires-2 c =
    let first = c.free_one.ensures.frees.all in
    left_within c.overflow_laws.ensures.drops c.args.parts.now.overflow c.args.unit
    c.drop_unit-left.result 1 _ c.facts-2.ensures c.drop_unit-left.ensures.left
    (omega (
      arith,
      c.requires.sized,
      first,
      in_use_moved c.args.parts.now.directory c.args.unit
          c.args.place c.args.generation c.from-used.result c.move_home.new.directory c.move_home.ensures,
    ))

pub returns : goal.returns
returns c =
    let packs = c.args.parts.now.scratch.packs in
    let used = length packs.closed.items in
    let masks_are = c.masks_of-masks.ensures ∙ ap (masks_of_payloads 15) c.payloads.ensures.all in record {
      moved = is_moved c.overflow_laws.ensures.drops (tables_of c.args.parts.now) _ c.args.unit c.args.place
          c.args.generation used c.move_home.new.directory c.free_one.new.directory c.drop_unit-left.result
          (record {
            home = c.move_home.ensures ∙ ap (places_moved c.args.parts.now.directory c.args.unit c.args.place
                c.args.generation) (c.from-used.ensures ∙ c.count.ensures);
            dropped = c.drop_unit-left.ensures.dropped;
            left_is = c.drop_unit-left.ensures.left;
            first = c.free_one.ensures.frees;
            second = frees_masked c.free_one.new.directory c.free_one-2.new.directory c.set_masks.new.self _ c.args.unit
                c.masks_of-masks.result c.set_masks.ensures c.free_one-2.ensures.frees;
            status = refl;
            next = refl;
            active = refl;
            few = c.facts-3.ensures.two;
          }) (omega (arith, packs.few));
      told = unit_told (tables_of c.args.parts.now) _ c.move_home.new.directory c.free_one.new.directory
          c.free_one-2.new.directory c.args.unit c.args.place c.args.generation used
          (masks_of_payloads 15 packs.closed.items) _ _
          (c.move_home.ensures ∙ ap (places_moved c.args.parts.now.directory c.args.unit c.args.place
          c.args.generation) (c.from-used.ensures ∙ c.count.ensures)) c.free_one.ensures.frees c.free_one-2.ensures.frees
          c.free_one.ensures.masks c.free_one-2.ensures.masks
          (c.set_masks.ensures ∙ ap (with_masks c.free_one-2.new.directory c.args.unit) masks_are)
          c.drop_unit-left.ensures.dropped;
      stands = search rules;
      room = search rules;
      lost = λ none q less in_use. none_lost c.overflow_laws.ensures.drops (tables_of c.args.parts.now) _ c.args.unit
          c.args.place c.args.generation used c.move_home.new.directory c.free_one.new.directory
          c.drop_unit-left.result
          (record {
            home = c.move_home.ensures ∙ ap (places_moved c.args.parts.now.directory c.args.unit c.args.place
                c.args.generation) (c.from-used.ensures ∙ c.count.ensures);
            dropped = c.drop_unit-left.ensures.dropped;
            left_is = c.drop_unit-left.ensures.left;
            first = c.free_one.ensures.frees;
            second = frees_masked c.free_one.new.directory c.free_one-2.new.directory c.set_masks.new.self _ c.args.unit
                c.masks_of-masks.result c.set_masks.ensures c.free_one-2.ensures.frees;
            status = refl;
            next = refl;
            active = refl;
            few = c.facts-3.ensures.two;
          })
          _ c.requires.unit c.requires.place refl (omega arith) q less in_use none;
      free = search rules;
      retired = search rules;
      counts = home_counts c.args.parts.now.directory c.move_home.new.directory c.free_one.new.directory
          c.free_one-2.new.directory c.set_masks.new.self c.args.unit c.args.place c.args.generation
          c.from-used.result _ _ c.masks_of-masks.result c.move_home.ensures c.free_one.ensures.frees
          c.free_one-2.ensures.frees c.set_masks.ensures;
      counter = refl;
    }

pub move_home-requires-clause-another : goal.move_home-requires-clause-another
move_home-requires-clause-another c = c.requires.another
