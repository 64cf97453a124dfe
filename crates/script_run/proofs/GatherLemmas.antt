-- The commands of a script, as its bytes are read.
use Rattle.std.proofs.Common.{◌≡◌, ℕ, ◌==◌, ◌≤◌, ◌<◌, ◌+◌, false, List, [], ◌∷◌, ◌++◌, take, drop, length, get_or, Option, Some, refl, sym, ◌∙◌, ap, subst, arith, append_assoc}
use Rattle.std.specs.Option.{option_map}
use Rattle.std.proofs.lemmas.List.{take-append-drop, take_more, take_all}
use Rattle.ipl_model.specs.declared.command.Command.{Command}
use Rattle.ipl_model.specs.Grammar.{line_of, commands_in}
use Rattle.chip_trait.specs.Told.{Told, Beside, IsBeside, IsNext, Grew}
use Rattle.store_trait.specs.Onward.{Further}
use Rattle.store_trait.proofs.OnwardLemmas.{further_none, further_then}
use Rattle.script_run.specs.Lines.{commands_from, kept}
use Rattle.script_run.proofs.LineLemmas.{keeping, from_start}
use Rattle.script_run.proofs.ReadLemmas.{further_read, further_failed}
use Rattle.script_run.specs.View.{GathersCommands, ReadsScript, IsReading, HasReadAll, ViewCause}
use Rattle.script_run.specs.declared.view_stop.ViewStop.{ViewStop}
use Rattle.script_run.specs.declared.view_stop.ViewStop.TheVariants as stop

pub gathers_none : (before : List Command) (line : List ℕ) → GathersCommands [] before line before line
gathers_none before line tail = refl

gathers_then : (a b : List ℕ) (before mid then : List Command) (line between later : List ℕ)
    → GathersCommands a before line mid between → GathersCommands b mid between then later → GathersCommands (a ++ b) before line then later
gathers_then a b before mid then line between later first next tail =
    ap (λ (l : List ℕ). before ++ commands_from line l) (append_assoc a b tail) ∙ first (b ++ tail) ∙ next tail

-- a line feed ends a line
pub gathers_end : (byte : ℕ) (before then : List Command) (line later : List ℕ) → byte ≡ 10
    → then ≡ before ++ commands_in (line_of line) → later ≡ [] → GathersCommands (byte ∷ []) before line then later
gathers_end byte before then line later is more none tail =
    ap (λ (b : ℕ). before ++ commands_from line (b ∷ tail)) is
    ∙ sym (append_assoc before (commands_in (line_of line)) (commands_from [] tail))
    ∙ ap (λ (l : List Command). l ++ commands_from [] tail) (sym more)
    ∙ ap (λ (l : List ℕ). then ++ commands_from l tail) (sym none)

-- another byte is kept
pub gathers_kept : (byte : ℕ) (before : List Command) (line later : List ℕ) → (byte == 10) ≡ false
    → later ≡ kept line byte → GathersCommands (byte ∷ []) before line before later
gathers_kept byte before line later no_end is tail =
    ap (λ (l : List Command). before ++ l)
    (keeping line byte tail no_end ∙ ap (λ (l : List ℕ). commands_from l tail) (sym is))

-- the bytes of a piece, one more
pub gathers_more : (piece : List ℕ) (i byte : ℕ) (before mid then : List Command) (line between later : List ℕ)
    → i < length piece → byte ≡ get_or piece i 0 → GathersCommands (take i piece) before line mid between
    → GathersCommands (byte ∷ []) mid between then later → GathersCommands (take (i + 1) piece) before line then later
gathers_more piece i byte before mid then line between later within is first next =
    subst (λ (l : List ℕ). GathersCommands l before line then later)
    (ap (λ (b : ℕ). take i piece ++ b ∷ []) is ∙ sym (take_more piece i 0 within))
    (gathers_then (take i piece) (byte ∷ []) before mid then line between later first next)

pub gathers_whole : (piece : List ℕ) (i : ℕ) (before then : List Command) (line later : List ℕ) → length piece ≤ i
    → GathersCommands (take i piece) before line then later → GathersCommands piece before line then later
gathers_whole piece i before then line later past all =
    subst (λ (l : List ℕ). GathersCommands l before line then later) (take_all i piece past) all

-- ---- reads

pub reads_none : (t : Told) → ReadsScript t t
reads_none t = record { settled = refl; history = refl; contents = refl; further = further_none t }

pub reads_then : (old mid new : Told) → ReadsScript old mid → ReadsScript mid new → ReadsScript old new
reads_then old mid new a b = record {
  settled = b.settled ∙ a.settled;
  history = b.history ∙ a.history;
  contents = b.contents ∙ a.contents;
  further = further_then old mid new a.further b.further;
}

-- a read of n bytes
abbrev pub AfterRead : Told → Told → ℕ → Type 0
AfterRead old new n = new.beside ≡ record old.beside {
  left = option_map (λ l. drop n l) old.beside.left;
  script_bytes = new.beside.script_bytes;
  script_faults = new.beside.script_faults;
}

pub reads_once : (old new : Told) (n : ℕ) → IsBeside old new → AfterRead old new n
    → Grew old.beside.script_bytes n new.beside.script_bytes → ReadsScript old new
reads_once old new n chip is grew = record {
  settled = chip.settled;
  history = chip.history;
  contents = chip.contents;
  further = further_read old new n chip is grew;
}

pub reads_failed : (old new : Told) → IsBeside old new
    → new.beside ≡ record old.beside { script_faults = new.beside.script_faults } → ReadsScript old new
reads_failed old new chip is = record {
  settled = chip.settled;
  history = chip.history;
  contents = chip.contents;
  further = further_failed old new chip is;
}

-- ---- the source

pub reading_start : (script : List ℕ) (t : Told) → t.beside.left ≡ Some script → IsReading script [] [] t
reading_start script t left = record { rest = script; left_is = left; to_come = sym (from_start script) }

module _ (script : List ℕ) (before then : List Command) (line later buffer : List ℕ) (old new : Told) (n : ℕ)
    (is : AfterRead old new n) (next : (source : List ℕ) → old.beside.left ≡ Some source → IsNext source buffer n)
    (gathers : GathersCommands (take n buffer) before line then later) (reading : IsReading script before line old) where
  pub reading_next : IsReading script then later new
  reading_next =
      let bytes = (next reading.rest reading.left_is).bytes in
      record {
        rest = drop n reading.rest;
        left_is = ap (λ (d : Beside). d.left) is ∙ ap (option_map (λ l. drop n l)) reading.left_is;
        to_come =
            reading.to_come
            ∙ ap (λ (l : List ℕ). before ++ commands_from line l)
            (sym (take-append-drop n reading.rest) ∙ ap (λ (l : List ℕ). l ++ drop n reading.rest) (sym bytes))
            ∙ gathers (drop n reading.rest);
      }

  pub reading_last : n ≡ 0 → HasReadAll script (then ++ commands_in (line_of later)) new
  unfolding reading_next
  reading_last none =
      let empty : drop n reading.rest ≡ [] =
      ap (λ (k : ℕ). drop k reading.rest) none ∙ (next reading.rest reading.left_is).ends none in
      record {
        left_is = reading_next.left_is ∙ ap {B = Option (List ℕ)} (λ (l : List ℕ). Some l) empty;
        all = reading_next.to_come ∙ ap (λ (l : List ℕ). then ++ commands_from later l) empty;
      }

-- ---- causes

pub cause_later : (first old new : Told) (s : ViewStop) → (s ≡ stop.TooLong → ⊥) → Further first old
    → ViewCause old new s → ViewCause first new s
cause_later first old new stop.OutOfMemory never before cause = tt
cause_later first old new stop.Script never before cause = omega (arith, before.script, cause)
cause_later first old new stop.TooLong never before cause = absurd (never refl)
cause_later first old new stop.Output never before cause = omega (arith, before.says, cause)
