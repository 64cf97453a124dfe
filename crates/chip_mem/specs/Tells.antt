-- What the chips in memory tell.
use Rattle.std.specs.Prelude.{◌≡◌, ℕ, Bool, true, false, [], Some, None, if◌then◌else◌, refl}
use Rattle.std.specs.Option.{option_map}
use Rattle.std.proofs.Common.{ap, subst}
use Rattle.std.proofs.Math.Path.{fun_ext}
use Rattle.std.proofs.lemmas.Option.{same_Some}
use Rattle.chip_trait.specs.declared.event.Event.{Event}
use Rattle.chip_trait.specs.declared.event.Event.TheVariants.{Erase, Worn}
use Rattle.chip_trait.specs.Story.{Contents, after, held}
use Rattle.chip_trait.specs.Told.{History, Told, Beside, IsConsistent, adds}
use Rattle.chip_mem.specs.declared.faults.Faults.{Faults}
use Rattle.chip_mem.specs.Plan.{Plan, counted, is_worn_out, fails_read, fails_write}

-- nothing stands beside the chip
abbrev pub apart : Beside
apart = record { left = None; script_bytes = 0; script_faults = 0; say_faults = 0; noted = None }

-- nothing has failed yet
abbrev pub none_yet : Faults
none_yet = record { settled = true; reads = 0; writes = 0 }

-- what a chip tells that keeps its story and holds these contents
abbrev pub telling_all : ℕ → Faults → ℕ → History → Contents → Told
telling_all places faults worn_erases history x = record {
  places = places;
  settled = faults.settled;
  history = Some history;
  contents = if faults.settled then Some x else None;
  read_faults = faults.reads;
  write_faults = faults.writes;
  worn_erases = worn_erases;
  beside = apart;
}

-- what a settled chip tells that keeps no story and never fails
abbrev pub telling_contents : ℕ → Contents → Told
telling_contents places x = record {
  places = places;
  settled = true;
  history = None;
  contents = Some x;
  read_faults = 0;
  write_faults = 0;
  worn_erases = 0;
  beside = apart;
}

-- the history of a chip with these contents that was asked nothing yet
abbrev pub beginning : Contents → History
beginning x = record { start = x; story = [] }

-- what a chip tells that was asked nothing yet
abbrev pub starting : ℕ → Contents → Told
starting places x = telling_all places none_yet 0 (beginning x) x

-- the event is appended, and done
abbrev pub appended : Event → Told → Told
appended e t = record t { history = option_map (adds e) t.history; contents = option_map (after e) t.contents }

-- a read failed
abbrev pub missed : Told → Told
missed t = record t { read_faults = counted t.read_faults }

-- a program, an erase or a barrier failed, and did nothing
abbrev pub broken : Told → Told
broken t = record t { settled = false; contents = None; write_faults = counted t.write_faults }

-- the place was found worn
abbrev pub found_worn : ℕ → Told → Told
found_worn p t = appended (Worn p) (record t { worn_erases = counted t.worn_erases })

-- a new start with these contents, which settles the chip
abbrev pub restarted : Contents → Told → Told
restarted x t = record t { settled = true; history = Some (beginning x); contents = Some x }

-- after a read
abbrev pub told_after_read : Event → Plan → Told → Told
told_after_read e plan t = if fails_read plan then missed t else appended e t

-- after a program, an erase or a barrier
abbrev pub told_after_write : Event → Plan → Told → Told
told_after_write e plan t = if fails_write plan then broken t else appended e t

-- after an erase
abbrev pub told_after_erase : ℕ → Plan → Told → Told
told_after_erase p plan t = if fails_write plan then broken t else (if is_worn_out plan p then found_worn p t else appended (Erase p) t)

-- The law of the trait, of a chip that holds what its story leaves.
settled_only : (settled : Bool) (x y : Contents) → (if settled then Some x else None) ≡ Some y → settled ≡ true
settled_only true x y e = refl
settled_only false x y e = cc

told_there : (settled : Bool) (x y : Contents) → x ≡ y → settled ≡ true → (if settled then Some x else None) ≡ Some y
told_there true x y same e = ap Some same
told_there false x y same e = cc

pub all_consistently : (places : ℕ) (faults : Faults) (worn_erases : ℕ) (history : History) (x : Contents)
    → ((p s : ℕ) → x p s ≡ held history.start history.story p s) → IsConsistent (telling_all places faults worn_erases history x)
all_consistently places faults worn_erases history x replayed = record {
  settled = λ y e. settled_only faults.settled x y e;
  replayed = λ h e now. told_there faults.settled x (held h.start h.story)
      (subst (λ (k : History). x ≡ held k.start k.story) (same_Some _ h e) (fun_ext (λ p. fun_ext (λ s. replayed p s)))) now;
}

pub contents_consistently : (places : ℕ) (x : Contents) → IsConsistent (telling_contents places x)
contents_consistently places x = record { settled = λ y e. refl; replayed = λ h e now. cc }
