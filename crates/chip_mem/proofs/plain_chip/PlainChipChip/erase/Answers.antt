use Rattle.std.proofs.Common.{◌≡◌, Bool, List, length, Some, refl, ◌∙◌, ap, arith}
use Rattle.std.proofs.lemmas.List.{with_items_is}
use Rattle.chip_trait.specs.declared.event.Event.TheVariants.{Erase}
use Rattle.chip_trait.specs.Story.{after}
use Rattle.chip_mem.specs.Sectors.{written_contents}
use Rattle.chip_mem.proofs.plain_chip.PlainChipChip.erase.Goals as goal

pub returns-clause-ok : goal.returns-clause-ok
returns-clause-ok c =
    let self = c.args.self.now in
    let xs = self.sectors.items in
    let same : length c.forget_place.new.written ≡ self.written.len = omega (arith, c.deref_mut.ensures.len) in
    let written = with_items_is self.written c.forget_place.new.written same in
    let done = c.forget_place.ensures xs
    ∙ ap (λ (ws : List Bool). after (Erase c.args.p) (written_contents ws xs)) c.deref_mut.ensures.value in record {
      appends = record {
        places = refl;
        settled = refl;
        history = refl;
        contents = ap Some (ap (λ (ws : List Bool). written_contents ws xs) written ∙ done);
      };
      rose = λ is. absurd cc;
    }
