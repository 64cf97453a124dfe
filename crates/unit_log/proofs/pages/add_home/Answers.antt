use Rattle.std.proofs.Common.{◌≡◌, ◌+◌, ◌++◌, ℕ, [], ◌∷◌, List, length, map, refl, sym, ◌∙◌, ap, arith}
use Rattle.std.proofs.lemmas.List.{length_push}
use Rattle.ipl_base.specs.declared.spot.Spot.{Spot}
use Rattle.ipl_meaning.specs.Masks.{has_page}
use Rattle.ipl_meaning.specs.Tables.{masks_in}
use Rattle.overflow.specs.Lists.{pair_of}
use Rattle.unit_log.specs.Paged.{names_at_home}
use Rattle.unit_log.proofs.ChooseLemmas.{home_rest, home_chosen, home_passed}
use Rattle.unit_log.proofs.pages.add_home.Goals as goal
use Rattle.unit_log.proofs.pages.add_home.Goals.{then-has_page, else-has_page}

pub loop-sector-preserved : goal.loop-sector-preserved
loop-sector-preserved c =
    let page = c.args.page in
    let p = c.current-place.result in
    let s = c.loop-sector.sector in
    let masks : List ℕ = masks_in c.args.directory.now c.args.unit in
    let told : c.has_page.result ≡ names_at_home page masks (p, s) =
    c.has_page.ensures ∙ ap (λ (m : ℕ). has_page m page) c.mask.ensures in
    elim c.if-has_page.branch [
      | then-has_page w ↦
          let items : c.if-has_page.spots.items ≡ c.loop-sector.spots.items ++ (record { place = p; sector = s }) ∷ [] =
          ap (λ v. v.items) w.spots-is ∙ w.push.ensures.items in
          record {
            chosen = ap (λ (l : List Spot). map pair_of l ++ home_rest page p masks (s + 1)) items
                ∙ home_chosen page p s masks c.loop-sector.spots.items (record { place = p; sector = s }) _
                c.loop-sector-test.true (sym told ∙ w.if-has_page.true) refl c.loop-sector.invariant.chosen;
            count = omega (
              arith,
              c.loop-sector.invariant.count,
              ap (λ (l : List Spot). length l) items,
              length_push c.loop-sector.spots.items (record { place = p; sector = s }),
            );
          }
      | else-has_page w ↦
          let items : c.if-has_page.spots.items ≡ c.loop-sector.spots.items = ap (λ v. v.items) w.spots-is in
          record {
            chosen = ap (λ (l : List Spot). map pair_of l ++ home_rest page p masks (s + 1)) items
                ∙ home_passed page p s masks c.loop-sector.spots.items _ c.loop-sector-test.true
                (sym told ∙ w.if-has_page.false) c.loop-sector.invariant.chosen;
            count = omega (arith, c.loop-sector.invariant.count, ap (λ (l : List Spot). length l) items);
          }
    ]
