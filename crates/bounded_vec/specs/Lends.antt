-- What a vector ends as, where a `&mut` to its items is returned.
use Rattle.std.specs.Prelude.{List, length}
use Rattle.std.specs.List.{refill}
use Rattle.std.specs.Borrow.{Lends, Fml, RattleType, MutBor, Array}
use Rattle.bounded_vec.specs.Bounded.{Bounded, with_items}
use Rattle.bounded_vec.specs.contracts.bounded_vec.BoundedVec.{the_row}

-- once the borrow r ends, the items are those that r shows last
abbrev pub lends_slice : (T : RattleType) → MutBor (Bounded T.Denot) → MutBor (List T.Denot) → Fml
lends_slice T v r = Lends (the_row T) (Array T 0) v r
    (λ xs. with_items v.now (refill (length v.now.items) v.now.items xs))
