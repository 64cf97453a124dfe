use Rattle.std.proofs.Common.{arith, ap, ◌∙◌, ◌++◌, List, ℕ, take}
use Rattle.std.proofs.lemmas.Slice.{take-put_mid}
use Rattle.unit_layout.proofs.header.write_counts.Goals as goal

pub returns-clause-front : goal.returns-clause-front
returns-clause-front c =
    take-put_mid 4 15 c.args.out.now c.copy_from_slice.new.self 19
    (omega arith) (omega (arith, c.told-out))
    ∙ ap (λ (l : List ℕ). take 4 c.args.out.now ++ l) c.copy_from_slice.ensures.after
