-- What is read of a slot.
use Rattle.std.proofs.Common.{◌≡◌, ℕ, ◌<◌, List, length, map, get_or, Option, None, sym, ◌∙◌, ap}
use Rattle.std.proofs.lemmas.List.{get_or-map}
use Rattle.record_locks.specs.Held.{Held}
use Rattle.record_locks.specs.Standing.{slot_of}

pub slot_read : (slots : List (Option Held)) (i : ℕ) (x : Option Held) → i < length slots → x ≡ get_or slots i x → get_or (map slot_of slots) i None ≡ slot_of x
slot_read slots i x within is = get_or-map slot_of slots i x None within ∙ ap slot_of (sym is)
