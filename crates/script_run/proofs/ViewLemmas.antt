-- The view of a script, read and said.
use Rattle.std.proofs.Common.{◌≡◌, ℕ, List, [], map, Result, Err, sym, ◌∙◌, ap, subst, false}
use Rattle.std.specs.Prelude.{is_ok}
use Rattle.std.specs.FinMap.{empty}
use Rattle.ipl_model.specs.State.{State, Limits, at_rest}
use Rattle.ipl_model.specs.declared.command.Command.{Command}
use Rattle.chip_trait.specs.Told.{Told}
use Rattle.serial_view.specs.Serial.{serial}
use Rattle.serial_view.specs.Laws.{IsSerialView}
use Rattle.script_run.specs.View.{position_line, view_lines, ReadsScript, HasReadAll, SaysOnly, OnlySays, SaysView}
use Rattle.script_run.specs.declared.view_stop.ViewStop.{ViewStop}
use Rattle.script_run.proofs.SayLemmas.{says_nothing, says_behind_reads, only_says}

-- a model that has no record has no open session either
pub starts_at_rest : (state : State) → state ≡ at_rest empty → state ≡ at_rest state.map
starts_at_rest state is = is ∙ ap (λ (st : State). at_rest st.map) (sym is)

-- it stopped before anything was said
pub view_stopped : (limits : Limits) (script : List ℕ) (old new : Told) (stop : ViewStop) → ReadsScript old new
    → SaysView limits script old (Err stop) new
view_stopped limits script old new stop reads = record {
  says = says_nothing (view_lines limits script) old new reads;
  read = λ e. absurd (cc);
}

pub view_said : (limits : Limits) (script : List ℕ) (commands seen : List Command) (positions shown : List ℕ)
    (old mid new : Told) (result : Result (Unit {0}) ViewStop) → ReadsScript old mid → HasReadAll script commands mid
    → seen ≡ commands → IsSerialView limits empty seen positions → shown ≡ positions
    → SaysOnly (map position_line shown) mid new (is_ok result) → new.beside.left ≡ mid.beside.left
    → SaysView limits script old result new
view_said limits script commands seen positions shown old mid new result reads all is view shows says left =
    let lines : map position_line shown ≡ view_lines limits script =
    ap (map position_line) (shows ∙ view.order ∙ ap (serial limits empty) (is ∙ sym all.all)) in
    record {
      says = says_behind_reads (view_lines limits script) old mid new (is_ok result) reads
          (subst (λ (l : List (List ℕ)). SaysOnly l mid new (is_ok result)) lines says);
      read = λ e. left ∙ all.left_is;
    }

-- whatever the script is
pub only_reads : (old new : Told) → ReadsScript old new → OnlySays old new
only_reads old new reads = only_says [] old new false (says_nothing [] old new reads)

pub only_says_behind : (positions : List ℕ) (old mid new : Told) (result : Result (Unit {0}) ViewStop)
    → ReadsScript old mid → SaysOnly (map position_line positions) mid new (is_ok result) → OnlySays old new
only_says_behind positions old mid new result reads says =
    only_says (map position_line positions) old new (is_ok result)
    (says_behind_reads (map position_line positions) old mid new (is_ok result) reads says)
