-- What a contract sees of a vector with room for so many items.
use Rattle.std.specs.Prelude.{ℕ, List, [], refl}
use Rattle.std.specs.Coded.{Coded, code_by, coded_list, coded×, coded_ℕ}

-- the items, in order, and for how many there is room
pub record Bounded (T : Type 0) : Type 0 where
  pub items : List T
  pub room : ℕ

-- it is stored as its items with the room
abbrev pub bounded_code : {T : Type 0} → Coded T → Coded (Bounded T)
bounded_code {T} code = code_by (List T × ℕ) (coded× (coded_list code) coded_ℕ) (λ v. (v.items, v.room))
    (λ it. record { items = it.0; room = it.1 }) (λ _. refl)

-- no items
abbrev pub empty_bounded : {T : Type 0} → ℕ → Bounded T
empty_bounded room = record { items = []; room = room }

-- the same room, with other items
abbrev pub with_items : {T : Type 0} → Bounded T → List T → Bounded T
with_items v xs = record v { items = xs }
