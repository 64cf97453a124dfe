use Rattle.std.proofs.Common.{◌≡◌, ◌∙◌, List, ℕ, length, reverse, fold, inl, sym, ap, subst, arith}
use Rattle.std.proofs.lemmas.List.{with_items_is}
use Rattle.chip_trait.specs.Story.{Contents, held}
use Rattle.chip_trait.specs.Image.{IsImage}
use Rattle.chip_trait.proofs.ImageLemmas.{held_is_named}
use Rattle.chip_mem.specs.Sectors.{contents_of}
use Rattle.chip_mem.specs.Picked.{with_pick}
use Rattle.chip_mem.proofs.image.image_sectors.Goals as goal

pub returns-clause-image : goal.returns-clause-image
returns-clause-image c =
    let start = contents_of c.args.start.now in
    let story = reverse c.args.events.now in
    let sectors = c.in_ok-sectors.sectors in
    let same : length c.replay.new.sectors ≡ sectors.len = omega (arith, c.deref_mut.ensures.len) in
    let copied = c.deref_mut.ensures.value ∙ c.in_ok-sectors.ensures.items in
    let replayed : contents_of c.deref_mut-2.result.now ≡ held start story =
    ap contents_of (c.deref_mut-2.ensures.value ∙ with_items_is sectors c.replay.new.sectors same) ∙ c.replay.ensures ∙ ap (λ (l : List (List ℕ)). held (contents_of l) story) copied in
    let Image : Contents → Type 0 = λ x. IsImage start story x in
    let picked = c.put_picks.ensures.value ∙ ap (λ (x : Contents). fold (with_pick start story) x c.args.picks.now) replayed in
    subst Image picked (c.put_picks.ensures.image (subst Image (sym replayed) (λ p s. inl (held_is_named start story p s))))
