-- Reads of the script, and what stands beside the chip over them.
use Rattle.std.proofs.Common.{◌≡◌, ℕ, ◌≤◌, ◌+◌, List, drop, Some, Result, Ok, Err, sym, ◌∙◌, ap, subst, arith}
use Rattle.std.specs.Prelude.{OnOk}
use Rattle.std.specs.Option.{option_map}
use Rattle.std.proofs.lemmas.List.{drop-drop, length-drop}
use Rattle.chip_trait.specs.Told.{Told, Beside, IsBeside, Grew, IsNext}
use Rattle.store_trait.specs.Onward.{Onward, Further}
use Rattle.script_run.specs.Goes.{HasRead, ReadsAll, ReadsPiece, ReadsTooMany}

pub further_read : (old new : Told) (n : ℕ) → IsBeside old new
    → new.beside ≡ record old.beside { left = option_map (λ l. drop n l) old.beside.left; script_bytes = new.beside.script_bytes; script_faults = new.beside.script_faults }
    → Grew old.beside.script_bytes n new.beside.script_bytes → Further old new
further_read old new n chip is grew = record {
  places = chip.places;
  reads = chip.reads;
  writes = chip.writes;
  worn = chip.worn;
  says = let e : new.beside.say_faults ≡ old.beside.say_faults = ap (λ (d : Beside). d.say_faults) is in omega arith;
  script = chip.script;
  bytes = grew.later;
  noted = ap (λ (d : Beside). d.noted) is;
}

pub further_failed : (old new : Told) → IsBeside old new → new.beside ≡ record old.beside { script_faults = new.beside.script_faults } → Further old new
further_failed old new chip is = record {
  places = chip.places;
  reads = chip.reads;
  writes = chip.writes;
  worn = chip.worn;
  says = let e : new.beside.say_faults ≡ old.beside.say_faults = ap (λ (d : Beside). d.say_faults) is in omega arith;
  script = chip.script;
  bytes = let e : new.beside.script_bytes ≡ old.beside.script_bytes = ap (λ (d : Beside). d.script_bytes) is in omega arith;
  noted = ap (λ (d : Beside). d.noted) is;
}

-- what is left after a read and replies
pub left_then : (old mid new : Told) (n : ℕ) (source : List ℕ)
    → mid.beside ≡ record old.beside { left = option_map (λ l. drop n l) old.beside.left; script_bytes = mid.beside.script_bytes; script_faults = mid.beside.script_faults }
    → Onward mid new → old.beside.left ≡ Some source → new.beside.left ≡ Some (drop n source)
left_then old mid new n source read onward told = ap (λ (d : Beside). d.left) onward.keeps ∙ ap (λ (d : Beside). d.left) read ∙ ap (option_map (λ l. drop n l)) told

pub grew_none : (n : ℕ) → Grew n 0 n
grew_none n = record { later = omega arith; at_least = omega arith; at_most = omega arith }

pub grew_then : (a b c n m : ℕ) → Grew a n b → Grew b m c → Grew a (n + m) c
grew_then a b c n m first second = record {
  later = omega (arith, first.later, second.later);
  at_least = omega (arith, first.later, first.at_least, first.at_most, second.later, second.at_least, second.at_most);
  at_most = omega (arith, first.at_most, second.at_most);
}

-- bytes of the source were read, and then more
pub read_none : (t : Told) → HasRead 0 t t
read_none t = λ source told. (told, omega arith)

pub read_then : (old mid new : Told) (n m : ℕ) → HasRead n old mid → HasRead m mid new → HasRead (n + m) old new
read_then old mid new n m first next = λ source told.
    let at = first source told in
    let then = next (drop n source) at.0 in
    (then.0 ∙ ap Some (drop-drop m n source), omega (arith, at.1, then.1, length-drop n source))

-- by one read, and what else was done
read_once : (old mid new : Told) (n : ℕ) (buffer : List ℕ) → mid.beside ≡ record old.beside { left = option_map (λ l. drop n l) old.beside.left; script_bytes = mid.beside.script_bytes; script_faults = mid.beside.script_faults }
    → ((source : List ℕ) → old.beside.left ≡ Some source → IsNext source buffer n) → Onward mid new → HasRead n old new
read_once old mid new n buffer read next on = λ source told.
    (ap (λ (b : Beside). b.left) on.keeps ∙ ap (λ (b : Beside). b.left) read ∙ ap (option_map (λ l. drop n l)) told, (next source told).within)

-- where a read found no byte, nothing was left
read_ended : (old mid new : Told) (n : ℕ) (buffer : List ℕ) → mid.beside ≡ record old.beside { left = option_map (λ l. drop n l) old.beside.left; script_bytes = mid.beside.script_bytes; script_faults = mid.beside.script_faults }
    → ((source : List ℕ) → old.beside.left ≡ Some source → IsNext source buffer n) → Onward mid new → n ≡ 0 → ReadsAll old new
read_ended old mid new n buffer read next on none = λ source told.
    left_then old mid new n source read on told ∙ ap (λ (k : ℕ). Some (drop k source)) none ∙ ap Some ((next source told).ends none)

-- so a piece was read for which there was room
pub piece_read : (old mid new : Told) (room n : ℕ) (buffer : List ℕ) → mid.beside ≡ record old.beside { left = option_map (λ l. drop n l) old.beside.left; script_bytes = mid.beside.script_bytes; script_faults = mid.beside.script_faults }
    → Grew old.beside.script_bytes n mid.beside.script_bytes → ((source : List ℕ) → old.beside.left ≡ Some source → IsNext source buffer n)
    → Onward mid new → n ≤ room → ReadsPiece room n old new
piece_read old mid new room n buffer read grew next on few = record {
  bytes = subst (λ (b : ℕ). Grew old.beside.script_bytes n b) (sym (ap (λ (b : Beside). b.script_bytes) on.keeps)) grew;
  read = read_once old mid new n buffer read next on;
  ended = λ none. read_ended old mid new n buffer read next on none;
  few = few;
}

-- as many bytes were read as make a script too long
pub too_many : (old new : Told) (total : ℕ) → total ≡ 4294967295
    → Grew old.beside.script_bytes total new.beside.script_bytes → HasRead total old new → ReadsTooMany old new
too_many old new total is grew read = record {
  grew = subst (λ (n : ℕ). Grew old.beside.script_bytes n new.beside.script_bytes) is grew;
  read = subst (λ (n : ℕ). HasRead n old new) is read;
}

-- so all was read, however the last line was answered
read_all : (first old mid new : Told) (n : ℕ) → HasRead n first old → ReadsAll old mid → Onward mid new → ReadsAll first new
read_all first old mid new n read all on = λ source told.
    ap (λ (b : Beside). b.left) on.keeps ∙ all (drop n source) (read source told).0

pub all_answered : {E : Type 0} (result : Result (Unit {0}) E) (first old mid new : Told) (n : ℕ) → HasRead n first old → ReadsAll old mid → Onward mid new → OnOk result (ReadsAll first new)
all_answered (Ok u) first old mid new n read all on = read_all first old mid new n read all on
all_answered (Err e) first old mid new n read all on = tt
