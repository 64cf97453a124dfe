use Rattle.std.proofs.Common.{rules, arith, ◌≡◌, ◌<◌, ◌≤◌, ◌*◌, ◌/◌, ◌∙◌, ap, sym, subst, ℕ, true}
use Rattle.std.proofs.lemmas.Nat.{div-add-mod'}
use Rattle.nand_rising.specs.declared.shape.Shape.{Shape}
use Rattle.nand_rising.specs.Shapes.{is_served, power_below, slots_per_block, blocks_per_place}
use Rattle.nand_rising.proofs.ShapeLemmas.{few_chunks, slots_value, blocks_value, some_chunks, some_slots, most_slots, whole_place}
use Rattle.nand_rising.proofs.shaped.Shaped.new.Goals as goal

pub overflow_mul-shape : goal.overflow_mul-shape
overflow_mul-shape g c =
    let served : is_served c.shape-shape.result ≡ true = search rules in
    let few = few_chunks c.shape-shape.result served in
    omega arith

pub invariant_of-result : goal.invariant_of-result
invariant_of-result g c =
    let shape = g.D.Pages.shape c.args.pages in
    let same : c.shape-shape.result ≡ shape = c.shape-shape.ensures in
    let served : is_served shape ≡ true = subst (λ (s : Shape). is_served s ≡ true) same (search rules) in
    let slots : c.slots_per_block-block_slots.result ≡ slots_per_block shape =
    c.slots_per_block-block_slots.ensures ∙ ap (λ (s : Shape). power_below 8 (s.pages * s.chunks)) same ∙ sym (slots_value shape) in
    let blocks : 256 / c.slots_per_block-block_slots.result ≡ blocks_per_place shape = ap (λ (n : ℕ). 256 / n) slots ∙ sym (blocks_value shape) in
    let places : c.shape-shape.result.blocks / (256 / c.slots_per_block-block_slots.result) ≡ shape.blocks / blocks_per_place shape =
    ap (λ (s : Shape). s.blocks / (256 / c.slots_per_block-block_slots.result)) same ∙ ap (λ (n : ℕ). shape.blocks / n) blocks in
    let all = div-add-mod' c.shape-shape.result.blocks (256 / c.slots_per_block-block_slots.result) in
    let same_blocks : c.shape-shape.result.blocks ≡ shape.blocks = ap (λ (s : Shape). s.blocks) same in
    record {
      served = served;
      slots_are = slots;
      blocks_are = blocks;
      places_are = places;
      some = subst (λ (n : ℕ). 0 < n) (sym slots) (some_slots shape served);
      whole = subst (λ (n : ℕ). 256 / n * n ≡ 256) (sym slots) (subst (λ (n : ℕ). n * slots_per_block shape ≡ 256) (blocks_value shape) (whole_place shape served));
      some_chunks = some_chunks shape served;
      most = subst (λ (n : ℕ). n ≤ shape.pages * shape.chunks) (sym slots) (most_slots shape served);
      within = omega arith;
      fits = omega arith;
    }
