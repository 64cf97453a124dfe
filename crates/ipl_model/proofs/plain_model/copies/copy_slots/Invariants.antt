use Rattle.std.proofs.Common.{◌≡◌, ◌<◌, ℕ, None, map, length, get_or}
use Rattle.ipl_model.specs.Plain.{slot_of}
use Rattle.ipl_model.proofs.plain_model.copies.copy_slots.Given as goal

-- the slots before this one are the same
abbrev pub invariant-loop-i : goal.invariant-loop-i
invariant-loop-i l = record {
  long : length l.into ≡ length l.slots;
  same : (j : ℕ) → j < l.i → get_or (map slot_of l.into) j None ≡ get_or (map slot_of l.slots) j None;
}
