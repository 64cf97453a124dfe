-- What a vector holds once its items were lent and written.
use Rattle.std.proofs.Common.{◌≡◌, ℕ, List, ◌<◌, ◌++◌, length, take, set, get_or, ◌∙◌, ap, arith}
use Rattle.std.specs.List.{refill}
use Rattle.std.proofs.lemmas.List.{append-nil, take_all, drop_all, length-set, get_or_default}
use Rattle.bounded_vec.specs.Bounded.{Bounded, with_items}

-- a list that was replaced as a whole
pub refilled : {X : Type 0} (xs ws : List X) → length ws ≡ length xs → refill (length xs) xs ws ≡ ws
refilled xs ws long =
    ap (λ l. take (length xs) (ws ++ l)) (drop_all (length ws) xs (omega arith))
    ∙ ap (take (length xs)) (append-nil ws) ∙ take_all (length xs) ws (omega arith)

-- one item is written, where the list that was lent is theirs
pub item_written : {X : Type 0} (xs lent : List X) (at : ℕ) (x : X) → lent ≡ xs
    → refill (length xs) xs (set lent at x) ≡ set xs at x
item_written xs lent at x is =
    ap (λ ys. refill (length xs) xs (set ys at x)) is ∙ refilled xs (set xs at x) (length-set xs at x)

pub written : {X : Type 0} (v : Bounded X) (lent : List X) (at : ℕ) (x : X) → lent ≡ v.items
    → with_items v (refill (length v.items) v.items (set lent at x)) ≡ with_items v (set v.items at x)
written v lent at x is = ap (with_items v) (item_written v.items lent at x is)

-- one item is read, where the list that was lent is theirs
pub item_read : {X : Type 0} (xs lent : List X) (at : ℕ) (d e : X) → lent ≡ xs → at < length xs
    → get_or lent at d ≡ get_or xs at e
item_read xs lent at d e is within = ap (λ ys. get_or ys at d) is ∙ get_or_default xs at d e within
