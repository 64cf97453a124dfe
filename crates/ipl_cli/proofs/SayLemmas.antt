-- Pieces that a desk in memory says in part.
use Rattle.std.proofs.Common.{◌≡◌, inl, inr, ℕ, Bool, true, false, List, take, drop, Option, Some, None, refl, ◌∙◌, ap}
use Rattle.std.specs.Bool.{OnTrue, OnFalse}
use Rattle.std.specs.Option.{option_map}
use Rattle.std.proofs.lemmas.List.{take-append-drop}
use Rattle.chip_trait.specs.declared.event.Event.TheVariants.{Said}
use Rattle.chip_trait.specs.Story.{Contents, after}
use Rattle.chip_trait.specs.Told.{Told, FailsToSay}
use Rattle.chip_mem.specs.declared.mem_chip.MemChip.{MemChip}
use Rattle.chip_mem.specs.Views.{told_of}
use Rattle.chip_mem.specs.Tells.{appended}

-- what is said changes no contents
same_contents : (piece : List ℕ) (x : Option Contents) → option_map (after (Said piece)) x ≡ x
same_contents piece None = refl
same_contents piece (Some x) = refl

-- the first bytes of a piece were said, where there was room
pub fails_part : (piece : List ℕ) (count : ℕ) (old new : MemChip) (had_room : Bool)
    → OnTrue had_room (told_of new ≡ appended (Said (take count piece)) (told_of old))
    → OnFalse had_room (new ≡ old) → FailsToSay piece (told_of old) (told_of new)
fails_part piece count old new true said unsaid = record {
  places = ap (λ (t : Told). t.places) said;
  settled = ap (λ (t : Told). t.settled) said;
  history = inl (
    take count piece,
    (drop count piece, take-append-drop count piece),
    ap
        (λ (t : Told). t.history) said,
  );
  contents = ap (λ (t : Told). t.contents) said ∙ same_contents (take count piece)
      (told_of old).contents;
}
fails_part piece count old new false said unsaid = record {
  places = ap (λ (chip : MemChip). chip.places) unsaid;
  settled = ap (λ (chip : MemChip). chip.faults.settled) unsaid;
  history = inr (ap (λ (chip : MemChip). (told_of chip).history) unsaid);
  contents = ap (λ (chip : MemChip). (told_of chip).contents) unsaid;
}
