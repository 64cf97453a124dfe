-- The view of a script: what its end leaves, and what a note leaves of that.
use Rattle.std.proofs.Common.{◌≡◌, ℕ, Bool, false, [], List, Option, Some, Result, Ok, Err, refl, ◌∙◌, ap, subst}
use Rattle.std.specs.Prelude.{IsErrOf, is_ok}
use Rattle.chip_trait.specs.Story.{joined_pieces}
use Rattle.chip_trait.specs.Told.{Told}
use Rattle.chip_trait.proofs.HistoryLemmas.{same_history}
use Rattle.ipl_base.specs.Places.{units_on}
use Rattle.serial_view.specs.Running.{limits_with}
use Rattle.store_trait.proofs.OnwardLemmas.{further_none}
use Rattle.script_run.proofs.RunLemmas.{says_none, says_prefix}
use Rattle.script_run.specs.View.{ReadsScript, OnlySays, SaysView}
use Rattle.script_run.specs.declared.view_stop.ViewStop.{ViewStop}
use Rattle.script_run.specs.declared.view_stop.ViewStop.TheVariants as stop
use Rattle.command_line.specs.declared.end.End.TheVariants.{Words, Chip, OutOfMemory, Script, Output, TooLong}
use Rattle.ipl_cli.specs.Ending.{Ending, IsLeftAlone, but_noted}
use Rattle.ipl_cli.specs.Views.{Views, ViewsTold, OnlyViews, OnlyHears, SerialLeaves, view_end, view_on}

-- ---- a view that is said, or stops

module _ (old new : Told) where
  views_of : {sessions : ℕ} (script : List ℕ) (result : Result (Unit {0}) ViewStop)
      → SaysView (limits_with sessions (units_on old.places)) script old result new
      → Views sessions old.places script old new (is_ok result)
  views_of {sessions} script result v = record {
    said = v.says.said;
    part = v.says.part;
    is_prefix = says_prefix (view_on sessions old.places script) v.says.said v.says.part;
    history = v.says.history;
    settled = v.says.settled;
    contents = v.says.contents;
    all = λ is. (v.says.all is, v.read is);
  }

  abbrev Says : ℕ → ℕ → Result (Unit {0}) ViewStop → Type 0
  Says sessions units result = (script : List ℕ) → old.beside.left ≡ Some script
      → SaysView (limits_with sessions units) script old result new

  views_told : {sessions : ℕ} (units : ℕ) → units ≡ units_on old.places → (result : Result (Unit {0}) ViewStop)
      → Says sessions units result → ViewsTold sessions old new (is_ok result)
  views_told {sessions} units all result says = λ script left. views_of script result
      (subst (λ (n : ℕ). SaysView (limits_with sessions n) script old result new) all (says script left))

  abbrev failed : ViewStop → Result (Unit {0}) ViewStop
  failed fault = Err fault

  only_viewed : OnlySays old new → OnlyViews old new
  only_viewed says = record { viewed = new; says = says; noted = refl }

  pub said_view : {sessions : ℕ} (units : ℕ) → units ≡ units_on old.places → Says sessions units (Ok tt) → OnlySays old new
      → SerialLeaves sessions (Ok tt) old new
  said_view units all says only = (views_told units all (Ok tt) says, only_viewed only)

  pub failed_view : {sessions : ℕ} (units : ℕ) → units ≡ units_on old.places → (fault : ViewStop)
      → Says sessions units (Err fault) → OnlySays old new
      → (IsErrOf (failed fault) stop.OutOfMemory → ReadsScript old new)
      → SerialLeaves sessions (Err (view_end fault)) old new
  failed_view units all stop.OutOfMemory says only early = record {
    heard = new;
    reads = early
        refl;
    noted = refl;
  }
  failed_view units all stop.Script says only early = (
    views_told units all (Err stop.Script)
        says,
    only_viewed only,
  )
  failed_view units all stop.TooLong says only early = (
    views_told units all (Err stop.TooLong)
        says,
    only_viewed only,
  )
  failed_view units all stop.Output says only early = (
    views_told units all (Err stop.Output)
        says,
    only_viewed only,
  )

-- ---- a note says nothing

module _ (old mid : Told) (noted : Option (List ℕ)) where
  abbrev then : Told
  then = but_noted mid noted

  views_noted : {sessions : ℕ} {done : Bool} → ViewsTold sessions old mid done → ViewsTold sessions old then done
  views_noted told = λ script left. let v = told script left in record {
    said = v.said;
    part = v.part;
    is_prefix = v.is_prefix;
    history = v.history;
    settled = v.settled;
    contents = v.contents;
    all = v.all;
  }

  only_noted : OnlyViews old mid → OnlyViews old then
  only_noted o = record {
    viewed = o.viewed;
    says = o.says;
    noted = ap (λ (t : Told). but_noted t
        noted) o.noted;
  }

  hears_noted : OnlyHears old mid → OnlyHears old then
  hears_noted o = record {
    heard = o.heard;
    reads = o.reads;
    noted = ap (λ (t : Told). but_noted t
        noted) o.noted;
  }

  pub serial_left : (sessions : ℕ) (ending : Ending) → SerialLeaves sessions ending old mid → SerialLeaves sessions ending old then
  serial_left sessions (Ok u) l = (views_noted l.0, only_noted l.1)
  serial_left sessions (Err Words) l = l
  serial_left sessions (Err (Chip e)) l = ap (λ (t : Told). but_noted t noted) l
  serial_left sessions (Err OutOfMemory) l = hears_noted l
  serial_left sessions (Err Script) l = (views_noted l.0, only_noted l.1)
  serial_left sessions (Err Output) l = (views_noted l.0, only_noted l.1)
  serial_left sessions (Err TooLong) l = (views_noted l.0, only_noted l.1)

-- ---- where nothing was said

module _ (old new : Told) where
  pub untouched_hears : IsLeftAlone old new → OnlyHears old new
  untouched_hears is = record {
    heard = old;
    reads = record { settled = refl; history = refl; contents = refl; further = further_none old };
    noted = is;
  }

  pub hears_views : {sessions : ℕ} → OnlyHears old new → ViewsTold sessions old new false
  hears_views {sessions} o = λ script left. record {
    said = [];
    part = says_none (view_on sessions old.places script);
    is_prefix = (joined_pieces (view_on sessions old.places script), refl);
    history = ap (λ (t : Told). t.history) o.noted ∙ o.reads.history ∙ same_history old.history;
    settled = ap (λ (t : Told). t.settled) o.noted ∙ o.reads.settled;
    contents = ap (λ (t : Told). t.contents) o.noted ∙ o.reads.contents;
    all = λ is. absurd cc;
  }

  -- nothing was said
  only_reads : (heard : Told) → ReadsScript old heard → OnlySays old heard
  only_reads heard r = record {
    still = record {
      places = r.further.places;
      settled = r.settled;
      contents = r.contents;
      pieces =
          [];
      history = r.history ∙ same_history old.history;
    };
    further = r.further;
  }

  pub hears_only : OnlyHears old new → OnlyViews old new
  hears_only o = record { viewed = o.heard; says = only_reads o.heard o.reads; noted = o.noted }
