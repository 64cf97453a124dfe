use Rattle.std.proofs.Common.{◌∙◌, ◌∷◌, [], ◌++◌, ◌+◌, ap, ap₂, arith, map, drop, length, sym, length-drop}
use Rattle.std.proofs.lemmas.List.{map_push, take_more, get_or-drop, get_or-map, length_push, length-map}
use Rattle.overflow.specs.Lists.{pair_of}
use Rattle.overflow.specs.Parted.{spot_of}
use Rattle.overflow.proofs.entries.spots_in.Goals as goal

pub loop-i-preserved : goal.loop-i-preserved
loop-i-preserved c =
    let entries = c.args.entries.now in
    let so = c.loop-i.invariant in
    let low = length-drop c.args.from (map spot_of entries) in
    let size = length-map entries spot_of in record {
      spots = ap (map pair_of) c.push.ensures.items ∙ map_push pair_of c.loop-i.spots.items _
          ∙ ap₂ (λ l x. l ++ x ∷ []) so.spots
          (ap₂ (λ a b. (a, b)) c.from.ensures c.from-in-loop-i.ensures
          ∙ sym (get_or-map spot_of entries (c.args.from + c.loop-i.i) _ (0, 0) (omega arith))
          ∙ sym (get_or-drop c.args.from (map spot_of entries) c.loop-i.i (0, 0)))
          ∙ sym (take_more (drop c.args.from (map spot_of entries)) c.loop-i.i (0, 0) (omega (arith, low, size)));
      count = ap length c.push.ensures.items ∙ length_push c.loop-i.spots.items _ ∙ ap (λ n. n + 1) so.count;
    }
