-- What was done with how many frames stays so once the end was noted.
use Rattle.std.proofs.Common.{◌≡◌, ◌∙◌, ℕ, true, false, Some, None, OnOk, sym, ap, subst}
use Rattle.chip_trait.specs.Told.{Told}
use Rattle.command_line.specs.declared.asked.Request.TheVariants.{Format, Run, Serial, Check, Trial, Records}
use Rattle.script_store.specs.declared.store.ScriptStore.{ScriptStore}
use Rattle.ipl_cli.specs.Ending.{AskedFor, Ending, but_noted, status_at}
use Rattle.ipl_cli.specs.Frames.{DoesWith, DoesAsAsked, MarksWhatWasErased, CleansWhatIsMarked, ClosesAsAsked}
use Rattle.ipl_cli.specs.Runs.{EndsClosed}
use Rattle.ipl_cli.proofs.StatusLemmas.{done_at_zero}

module _ (old mid new : Told) (only : new ≡ but_noted mid new.beside.noted) where
  with_noted : (Starts : Told → ScriptStore → Told → Type 0)
      (Does : ScriptStore → Told → ScriptStore → Told → Type 0) (frames sessions numbers : ℕ)
      → DoesWith Starts Does frames sessions numbers old mid → DoesWith Starts Does frames sessions numbers old new
  with_noted Starts Does frames sessions numbers d = record {
    store = d.store;
    frames_are = d.frames_are;
    sessions_are = d.sessions_are;
    numbers_are = d.numbers_are;
    started = d.started;
    starts = d.starts;
    then = d.then;
    last = d.last;
    does = d.does;
    noted = only ∙ ap (λ (t : Told). but_noted t new.beside.noted) d.noted;
  }

  pub asked_noted : (asked : AskedFor) → DoesAsAsked asked old mid → DoesAsAsked asked old new
  asked_noted None d = tt
  asked_noted (Some (Format spares)) d = tt
  asked_noted (Some (Run frames sessions numbers true closes)) d = with_noted _ _ frames sessions numbers d
  asked_noted (Some (Run frames sessions numbers false closes)) d = with_noted _ _ frames sessions numbers d
  asked_noted (Some (Serial sessions)) d = tt
  asked_noted (Some Check) d = tt
  asked_noted (Some Records) d = tt
  asked_noted (Some (Trial seed count frames sessions numbers)) d = with_noted _ _ frames sessions numbers d

  ends_noted : EndsClosed old mid → EndsClosed old new
  ends_noted ends = record {
    added = ends.added;
    does = ends.does;
    history = ap (λ (t : Told). t.history) only ∙ ends.history;
  }

  marks_noted : MarksWhatWasErased old mid → MarksWhatWasErased old new
  marks_noted marks h script steady left at m rests apart calm =
      let since = marks h script steady left at m rests apart calm in record {
        added = since.added;
        history = ap (λ (t : Told). t.history) only ∙ since.history;
        marked = since.marked;
      }

  cleans_noted : CleansWhatIsMarked old mid → CleansWhatIsMarked old new
  cleans_noted cleans h script steady left m rests apart =
      let adds = cleans h script steady left m rests apart in record {
        added = adds.added;
        history = ap (λ (t : Told). t.history) only ∙ adds.history;
        lawful = adds.lawful;
        clean = λ x is. adds.clean x (sym (ap (λ (t : Told). t.contents) only) ∙ is);
      }

  closed_noted : (asked : AskedFor) → ClosesAsAsked asked old mid → ClosesAsAsked asked old new
  closed_noted None d = tt
  closed_noted (Some (Format spares)) d = tt
  closed_noted (Some (Run frames sessions numbers true closes)) d = λ is. ends_noted (d is)
  closed_noted (Some (Run frames sessions numbers false closes)) d = λ is.
      let closes = d is in record {
        ends = ends_noted closes.ends;
        marked = marks_noted closes.marked;
        clean = cleans_noted closes.clean;
      }
  closed_noted (Some (Serial sessions)) d = tt
  closed_noted (Some Check) d = tt
  closed_noted (Some Records) d = tt
  closed_noted (Some (Trial seed count frames sessions numbers)) d = tt

-- at 0 all was done
pub done_as_asked : (asked : AskedFor) (ending : Ending) (old mid new : Told) (status : ℕ)
    → OnOk ending (DoesAsAsked asked old mid) → status ≡ status_at ending
    → new ≡ but_noted mid new.beside.noted → status ≡ 0 → DoesAsAsked asked old new
done_as_asked asked ending old mid new status did is only zero =
    asked_noted old mid new only asked
    (subst (λ (e : Ending). OnOk e (DoesAsAsked asked old mid))
    (done_at_zero ending (sym is ∙ zero)) did)

pub closed_as_asked : (asked : AskedFor) (ending : Ending) (old mid new : Told) (status : ℕ)
    → OnOk ending (ClosesAsAsked asked old mid) → status ≡ status_at ending
    → new ≡ but_noted mid new.beside.noted → status ≡ 0 → ClosesAsAsked asked old new
closed_as_asked asked ending old mid new status did is only zero =
    closed_noted old mid new only asked
    (subst (λ (e : Ending). OnOk e (ClosesAsAsked asked old mid))
    (done_at_zero ending (sym is ∙ zero)) did)
