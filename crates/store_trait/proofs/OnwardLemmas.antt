-- Counts and what stands beside the chip, over one call after another.
use Rattle.std.proofs.Common.{◌≡◌, inl, inr, ℕ, ◌≤◌, List, [], ◌∷◌, Option, Some, None, refl, sym, ◌∙◌, ap, arith}
use Rattle.std.specs.Option.{option_map}
use Rattle.chip_trait.specs.declared.event.Event.TheVariants.{Said}
use Rattle.chip_trait.specs.Story.{Contents}
use Rattle.chip_trait.specs.Told.{Told, Beside, Counts, SayCounts, IsBeside, Appends, FailsToSay, Unrisen}
use Rattle.chip_trait.proofs.HistoryLemmas.{same_history}
use Rattle.store_trait.specs.Onward.{Onward, Further, Still}

pub onward_none : (t : Told) → Onward t t
onward_none t = record { places = refl; reads = omega arith; writes = omega arith; worn = omega arith; says = omega arith; keeps = refl }

pub onward_then : (old mid new : Told) → Onward old mid → Onward mid new → Onward old new
onward_then old mid new a b = record {
  places = b.places ∙ a.places;
  reads = omega (arith, a.reads, b.reads);
  writes = omega (arith, a.writes, b.writes);
  worn = omega (arith, a.worn, b.worn);
  says = omega (arith, a.says, b.says);
  keeps = b.keeps ∙ ap (λ (d : Beside). record d { say_faults = new.beside.say_faults }) a.keeps;
}

-- a chip call
pub onward_counts : (old new : Told) → Counts old new → Onward old new
onward_counts old new counts = record {
  places = counts.places;
  reads = counts.reads;
  writes = counts.writes;
  worn = counts.worn;
  says = let e : new.beside.say_faults ≡ old.beside.say_faults = ap (λ (d : Beside). d.say_faults) counts.beside in omega arith;
  keeps = counts.beside ∙ ap (λ (n : ℕ). record old.beside { say_faults = n }) (sym (ap (λ (d : Beside). d.say_faults) counts.beside));
}

-- a piece was said, or couldn't be
pub onward_said : (old new : Told) → new.places ≡ old.places → SayCounts old new → Onward old new
onward_said old new places counts = record { places = places; reads = counts.reads; writes = counts.writes; worn = counts.worn; says = counts.says; keeps = counts.beside }

pub further_none : (t : Told) → Further t t
further_none t = record { places = refl; reads = omega arith; writes = omega arith; worn = omega arith; says = omega arith; script = omega arith; bytes = omega arith; noted = refl }

pub further_then : (old mid new : Told) → Further old mid → Further mid new → Further old new
further_then old mid new a b = record {
  places = b.places ∙ a.places;
  reads = omega (arith, a.reads, b.reads);
  writes = omega (arith, a.writes, b.writes);
  worn = omega (arith, a.worn, b.worn);
  says = omega (arith, a.says, b.says);
  script = omega (arith, a.script, b.script);
  bytes = omega (arith, a.bytes, b.bytes);
  noted = b.noted ∙ a.noted;
}

pub further_onward : (old new : Told) → Onward old new → Further old new
further_onward old new o = record {
  places = o.places;
  reads = o.reads;
  writes = o.writes;
  worn = o.worn;
  says = o.says;
  script = let e : new.beside.script_faults ≡ old.beside.script_faults = ap (λ (d : Beside). d.script_faults) o.keeps in omega arith;
  bytes = let e : new.beside.script_bytes ≡ old.beside.script_bytes = ap (λ (d : Beside). d.script_bytes) o.keeps in omega arith;
  noted = ap (λ (d : Beside). d.noted) o.keeps;
}

-- ---- nothing happened to the chip

same_contents : (o : Option Contents) → option_map (λ x. x) o ≡ o
same_contents None = refl
same_contents (Some x) = refl

pub still_said : (old new : Told) (piece : List ℕ) → Appends (Said piece) old new → Still old new
still_said old new piece did = record { places = did.places; settled = did.settled; contents = did.contents ∙ same_contents old.contents; pieces = piece ∷ []; history = did.history }

pub still_cut : (old new : Told) (piece : List ℕ) → FailsToSay piece old new → Still old new
still_cut old new piece did = elim did.history [
  | inl some ↦ record { places = did.places; settled = did.settled; contents = did.contents; pieces = some.0 ∷ []; history = some.2 }
  | inr none ↦ record { places = did.places; settled = did.settled; contents = did.contents; pieces = []; history = none ∙ same_history old.history }
]

pub still_beside : (old new : Told) → IsBeside old new → Still old new
still_beside old new chip = record { places = chip.places; settled = chip.settled; contents = chip.contents; pieces = []; history = chip.history ∙ same_history old.history }

-- counted from earlier on
pub unrisen_later : (old mid new : Told) → old.write_faults ≤ mid.write_faults → Unrisen old new → Unrisen mid new
unrisen_later old mid new le quiet = omega (arith, le, quiet)
