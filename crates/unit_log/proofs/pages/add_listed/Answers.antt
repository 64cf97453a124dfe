use Rattle.std.proofs.Common.{◌≡◌, ◌<◌, ◌+◌, ◌++◌, ℕ, [], ◌∷◌, List, get_or, length, map, sym, ◌∙◌, ap, arith}
use Rattle.std.proofs.lemmas.List.{length_push, length-map}
use Rattle.ipl_base.specs.declared.spot.Spot.{Spot}
use Rattle.overflow.specs.Lists.{pair_of}
use Rattle.unit_log.proofs.ChooseLemmas.{listed_rest, listed_chosen, listed_passed}
use Rattle.unit_log.proofs.pages.add_listed.Goals as goal
use Rattle.unit_log.proofs.pages.add_listed.Goals.{then-has_page, else-has_page}

pub loop-i-preserved : goal.loop-i-preserved
loop-i-preserved c =
    let page = c.args.page in
    let i = c.loop-i.i in
    let listed : List Spot = c.as_slice-listed.result.now in
    let masks : List ℕ = c.as_slice-masks.result.now in
    let d : Spot = record { place = 0; sector = 0 } in
    let also : i < length masks =
    omega (
      arith,
      c.loop-i-test.true,
      c.masks-all_masks.ensures.each,
      ap (λ (l : List ℕ). length l) c.as_slice-masks.ensures.value,
      ap (λ (l : List (ℕ × ℕ)). length l) c.list-all.ensures.spots,
      ap (λ (l : List Spot). length l) c.as_slice-listed.ensures.value,
      length-map c.list-all.result.items pair_of,
    ) in
    elim c.if-has_page.branch [
      | then-has_page w ↦
          let items : c.if-has_page.spots.items ≡ c.loop-i.spots.items ++ get_or listed i d ∷ [] =
          ap (λ v. v.items) w.spots-is ∙ w.push.ensures.items in
          record {
            chosen = ap (λ (l : List Spot). map pair_of l ++ listed_rest page listed masks (i + 1)) items
                ∙ listed_chosen page i listed c.loop-i.spots.items masks _ d c.loop-i-test.true also
                c.loop-i.invariant.chosen (sym c.has_page.ensures ∙ w.if-has_page.true);
            count = omega (
              arith,
              c.loop-i.invariant.count,
              ap (λ (l : List Spot). length l) items,
              length_push c.loop-i.spots.items (get_or listed i d),
            );
          }
      | else-has_page w ↦
          let items : c.if-has_page.spots.items ≡ c.loop-i.spots.items = ap (λ v. v.items) w.spots-is in
          record {
            chosen = ap (λ (l : List Spot). map pair_of l ++ listed_rest page listed masks (i + 1)) items
                ∙ listed_passed page i listed c.loop-i.spots.items masks _ d c.loop-i-test.true also
                c.loop-i.invariant.chosen (sym c.has_page.ensures ∙ w.if-has_page.false);
            count = omega (arith, c.loop-i.invariant.count, ap (λ (l : List Spot). length l) items);
          }
    ]
