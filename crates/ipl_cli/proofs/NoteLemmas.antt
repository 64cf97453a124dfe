-- A note says nothing, and leaves the chip: what held before it holds after it.
use Rattle.std.proofs.Common.{◌≡◌, ℕ, Bool, true, false, List, ◌++◌, Option, Some, None, Ok, Err, inl, inr, sym, ◌∙◌, ap, subst}
use Rattle.chip_trait.specs.Told.{History, Told}
use Rattle.ipl_base.specs.declared.fault.ChipFault.TheVariants.{ReadFault, Stopped, Damaged, Malformed, WornOut}
use Rattle.ipl_base.specs.declared.fault.ImageFault.{ImageFault}
use Rattle.ipl_base.specs.declared.fault.ImageFault.TheVariants as image
use Rattle.ipl_meaning.specs.Legible.{Legible}
use Rattle.ipl_model.specs.declared.command.Command.{Command}
use Rattle.unit_io.specs.Leads.{IsSteady}
use Rattle.store_trait.specs.Onward.{Further}
use Rattle.command_line.specs.declared.asked.Request.{Request}
use Rattle.command_line.specs.declared.asked.Request.TheVariants.{Format, Run, Serial, Check, Trial, Records}
use Rattle.command_line.specs.declared.end.End.{End}
use Rattle.command_line.specs.declared.end.End.TheVariants.{Words, Chip, OutOfMemory, Script, Output, TooLong}
use Rattle.ipl_cli.specs.Ending.{AskedFor, Ending, StopsEarly, IsFormatStopped, IsLeftAlone, but_noted, note_at, status_at}
use Rattle.ipl_cli.specs.Trials.{Trials, TrialsFormatted, TrialsOrStops, TrialLeaves}
use Rattle.ipl_cli.specs.Top.{OpenedCause, FormatCause, FormattedCause, RequestCause, EndCause, Runs, RunsOpened, RunsFormatted, RunsOrStops, IsLaidOut, LaysOut, OnlyLooks, IsRefused, OpenedRuns, FormatLeaves, FormattedLeaves, OpenedLeaves, EndLeaves, Ends, NoneFalls}
use Rattle.ipl_cli.proofs.ViewLemmas.{serial_left}
use Rattle.ipl_model.specs.State.{Limits}
use Rattle.ipl_cli.proofs.CheckLemmas.{checked_cause, check_left}
use Rattle.ipl_cli.proofs.ListLemmas.{list_left}

module _ (old mid : Told) (noted : Option (List ℕ)) where
  abbrev then : Told
  then = but_noted mid noted

  format_cause : (spares : ℕ) (e : ImageFault) → FormatCause spares e old mid
      → FormatCause spares e old then
  format_cause spares image.Geometry c = c
  format_cause spares image.NotFormatted c = c
  format_cause spares (image.Missing u) c = c
  format_cause spares (image.Chip ReadFault) c = c
  format_cause spares (image.Chip Stopped) c = c
  format_cause spares (image.Chip (Damaged p s stored computed)) c = c
  format_cause spares (image.Chip (Malformed p s)) c = c
  format_cause spares (image.Chip (WornOut n)) c =
      record { one = c.one; rose = c.rose; found = c.found }
  format_cause spares image.Spent c = c
  format_cause spares (image.NoSpare n) c = c
  format_cause spares image.TooManyNumbers c = absurd c

  formatted_cause : (e : ImageFault) → FormattedCause e old mid → FormattedCause e old then
  formatted_cause image.Geometry c = c
  formatted_cause image.NotFormatted c = c
  formatted_cause (image.Missing u) c = c
  formatted_cause (image.Chip ReadFault) c = c
  formatted_cause (image.Chip Stopped) c = c
  formatted_cause (image.Chip (Damaged p s stored computed)) c = c
  formatted_cause (image.Chip (Malformed p s)) c = c
  formatted_cause (image.Chip (WornOut n)) c =
      record { count = c.count; exact = c.exact; rose = c.rose; found = c.found }
  formatted_cause image.Spent c = c
  formatted_cause (image.NoSpare n) c = c
  formatted_cause image.TooManyNumbers c = c

  opened_cause : (numbers : ℕ) (e : ImageFault) → OpenedCause numbers e old mid → OpenedCause numbers e old then
  opened_cause numbers image.Geometry c = c
  opened_cause numbers image.NotFormatted c = c
  opened_cause numbers (image.Missing u) c = c
  opened_cause numbers (image.Chip ReadFault) c = c
  opened_cause numbers (image.Chip Stopped) c = c
  opened_cause numbers (image.Chip (Damaged p s stored computed)) c = c
  opened_cause numbers (image.Chip (Malformed p s)) c = c
  opened_cause numbers (image.Chip (WornOut n)) c =
      record { count = c.count; exact = c.exact; rose = c.rose; wears = c.wears }
  opened_cause numbers image.Spent c = c
  opened_cause numbers (image.NoSpare n) c = c
  opened_cause numbers image.TooManyNumbers c = c

  request_cause : (request : Request) (end : End) → RequestCause request end old mid
      → RequestCause request end old then
  request_cause request Words c = c
  request_cause (Format spares) (Chip e) c = format_cause spares e c
  request_cause (Run frames sessions numbers true closes) (Chip e) c = formatted_cause e c
  request_cause (Run frames sessions numbers false closes) (Chip e) c = opened_cause numbers e c
  request_cause (Serial sessions) (Chip e) c = c
  request_cause Check (Chip e) c = checked_cause old mid noted e c
  request_cause Records (Chip e) c = checked_cause old mid noted e c
  request_cause (Trial seed count frames sessions numbers) (Chip e) c = formatted_cause e c
  request_cause request OutOfMemory c = c
  request_cause (Format spares) Script c = c
  request_cause (Run frames sessions numbers formats closes) Script c = c
  request_cause (Serial sessions) Script c = c
  request_cause Check Script c = c
  request_cause Records Script c = c
  request_cause (Trial seed count frames sessions numbers) Script c = c
  request_cause request Output c = c
  request_cause (Format spares) TooLong c = c
  request_cause (Run frames sessions numbers formats closes) TooLong c = record { grew = c.grew; told = c.told }
  request_cause (Serial sessions) TooLong c = record { grew = c.grew; told = c.told }
  request_cause Check TooLong c = c
  request_cause Records TooLong c = c
  request_cause (Trial seed count frames sessions numbers) TooLong c = c

  end_cause : (asked : AskedFor) (ending : Ending) → EndCause asked ending old mid
      → EndCause asked ending old then
  end_cause None (Ok u) c = c
  end_cause None (Err end) c = c
  end_cause (Some request) (Ok u) c = c
  end_cause (Some request) (Err end) c = request_cause request end c

  steady_noted : {h : History} → IsSteady h mid → IsSteady h then
  steady_noted steady = record { holds = steady.holds; settled = steady.settled }

  runs_noted : {marks : Bool} {places : ℕ} {limits : Limits} {m : Legible} {script : List ℕ} {h : History} {first : List _}
      {ending : Ending} → Runs marks places limits m script h first old mid ending
      → Runs marks places limits m script h first old then ending
  runs_noted r = record {
    added = r.added;
    history = r.history;
    each_moment = r.each_moment;
    replies = r.replies;
    is_prefix = r.is_prefix;
    lawful = r.lawful;
    unused = r.unused;
    steady = λ unrisen. steady_noted (r.steady unrisen);
    rests = r.rests;
    ends = r.ends;
    met = r.met;
    read = r.read;
    unread = r.unread;
    script_is = r.script_is;
    left_is = r.left_is;
    all = r.all;
  }

  stops_noted : {places units : ℕ} {h : History} {ending : Ending}
      → StopsEarly places units h old mid ending → StopsEarly places units h old then ending
  stops_noted s = record {
    stopped = s.stopped;
    fault = s.fault;
    ending_is = s.ending_is;
    formats = s.formats;
    counts = s.counts;
    rose = s.rose;
    noted = ap (λ (t : Told). but_noted t noted) s.noted;
  }

  trials_noted : {sessions places : ℕ} {commands : List Command} {h : History} {first : List _}
      {ending : Ending} → Trials sessions places commands h first old mid ending
      → Trials sessions places commands h first old then ending
  trials_noted t = record {
    added = t.added;
    history = t.history;
    each_moment = t.each_moment;
    lines = t.lines;
    is_prefix = t.is_prefix;
    lawful = t.lawful;
    unused = t.unused;
    steady = λ unrisen. steady_noted (t.steady unrisen);
    ends = t.ends;
    left_is = t.left_is;
    all = t.all;
  }

  laid_out_noted : {places units : ℕ} {h : History} {done : Bool}
      → IsLaidOut places units h old mid done → IsLaidOut places units h old then done
  laid_out_noted l = record {
    added = l.added;
    says = l.says;
    history = l.history;
    settled = l.settled;
    steady = λ steady. steady_noted (l.steady steady);
    rests = l.rests;
    count = l.count;
    unused = l.unused;
    lawful = l.lawful;
    left_is = l.left_is;
    all = l.all;
  }

  looks_noted : OnlyLooks old mid → OnlyLooks old then
  looks_noted l = record {
    read = l.read;
    reads = l.reads;
    noted = ap (λ (t : Told). but_noted t
        noted) l.noted;
  }

  untouched_noted : IsLeftAlone old mid → IsLeftAlone old then
  untouched_noted is = ap (λ (t : Told). but_noted t noted) is

  formatted_noted : {sessions : ℕ} {ending : Ending} → RunsFormatted sessions old mid ending → RunsFormatted sessions old then ending
  formatted_noted runs = λ h script steady left. runs_noted (runs h script steady left)

  opened_noted : {sessions : ℕ} {ending : Ending} → RunsOpened sessions old mid ending → RunsOpened sessions old then ending
  opened_noted runs = λ h script steady left m rests apart. runs_noted (runs h script steady left m rests apart)

  stopped_noted : {units : ℕ} {ending : Ending} → IsFormatStopped units old mid ending
      → IsFormatStopped units old then ending
  stopped_noted stops = λ h. stops_noted (stops h)

  either_noted : {sessions : ℕ} {ending : Ending} → RunsOrStops sessions old mid ending → RunsOrStops sessions old then ending
  either_noted left = λ h script steady left_is. elim (left h script steady left_is) [
    | inl runs ↦ inl (runs_noted runs)
    | inr stops ↦ inr (stops_noted stops)
  ]

  lays_out_noted : (spares : ℕ) {done : Bool} → LaysOut spares old mid done
      → LaysOut spares old then done
  lays_out_noted spares lays = λ h. laid_out_noted (lays h)

  refused_noted : {e : ImageFault} → IsRefused e old mid → IsRefused e old then
  refused_noted refused = λ f has. let is = refused f has in (looks_noted is.0, is.1)

  format_left : (spares : ℕ) (ending : Ending) → FormatLeaves spares ending old mid
      → FormatLeaves spares ending old then
  format_left spares (Ok u) l = lays_out_noted spares l
  format_left spares (Err Words) l = l
  format_left spares (Err (Chip image.Geometry)) l = untouched_noted l
  format_left spares (Err (Chip image.NotFormatted)) l = stopped_noted l
  format_left spares (Err (Chip (image.Missing u))) l = stopped_noted l
  format_left spares (Err (Chip (image.Chip e))) l = stopped_noted l
  format_left spares (Err (Chip image.Spent)) l = stopped_noted l
  format_left spares (Err (Chip (image.NoSpare n))) l = stopped_noted l
  format_left spares (Err (Chip image.TooManyNumbers)) l = stopped_noted l
  format_left spares (Err OutOfMemory) l = untouched_noted l
  format_left spares (Err Script) l = l
  format_left spares (Err Output) l = lays_out_noted spares l
  format_left spares (Err TooLong) l = l

  formatted_left : (sessions : ℕ) (ending : Ending) → FormattedLeaves sessions ending old mid
      → FormattedLeaves sessions ending old then
  formatted_left sessions (Ok u) l = (formatted_noted l.0, l.1)
  formatted_left sessions (Err Words) l = l
  formatted_left sessions (Err (Chip e)) (inl other) = inl (other.0, other.1, untouched_noted other.2)
  formatted_left sessions (Err (Chip e)) (inr ran) = inr (ran.0, either_noted ran.1)
  formatted_left sessions (Err OutOfMemory) l = untouched_noted l
  formatted_left sessions (Err Script) l = formatted_noted l
  formatted_left sessions (Err Output) l = formatted_noted l
  formatted_left sessions (Err TooLong) l = formatted_noted l

  opened_runs_noted : {sessions : ℕ} {ending : Ending} → OpenedRuns sessions old mid ending → OpenedRuns sessions old then ending
  opened_runs_noted l = record {
    runs = opened_noted l.runs;
    read = l.read;
    laid = l.laid;
    fits =
        l.fits;
  }

  opened_left : (sessions : ℕ) (ending : Ending) → OpenedLeaves sessions ending old mid → OpenedLeaves sessions ending old then
  opened_left sessions (Ok u) l = opened_runs_noted l
  opened_left sessions (Err Words) l = l
  opened_left sessions (Err (Chip e)) l = record {
    runs = opened_noted l.runs;
    refused = refused_noted
        l.refused;
    other = λ misfit. untouched_noted (l.other misfit);
  }
  opened_left sessions (Err OutOfMemory) l = untouched_noted l
  opened_left sessions (Err Script) l = opened_runs_noted l
  opened_left sessions (Err Output) l = opened_runs_noted l
  opened_left sessions (Err TooLong) l = opened_runs_noted l

  anew_noted : {sessions : ℕ} (seed count : ℕ) {ending : Ending} → TrialsFormatted sessions seed count old mid ending
      → TrialsFormatted sessions seed count old then ending
  anew_noted seed count trials = λ h steady. trials_noted (trials h steady)

  anew_or_stopped : {sessions : ℕ} (seed count : ℕ) {ending : Ending} → TrialsOrStops sessions seed count old mid ending
      → TrialsOrStops sessions seed count old then ending
  anew_or_stopped seed count left = λ h steady. elim (left h steady) [
    | inl trials ↦ inl (trials_noted trials)
    | inr stops ↦ inr (stops_noted stops)
  ]

  trial_left : (sessions : ℕ) (seed count : ℕ) (ending : Ending) → TrialLeaves sessions seed count ending old mid
      → TrialLeaves sessions seed count ending old then
  trial_left sessions seed count (Ok u) l = anew_noted seed count l
  trial_left sessions seed count (Err Words) l = l
  trial_left sessions seed count (Err (Chip e)) (inl other) = inl (other.0, other.1, untouched_noted other.2)
  trial_left sessions seed count (Err (Chip e)) (inr tried) = inr (
    tried.0,
    anew_or_stopped seed count
        tried.1,
  )
  trial_left sessions seed count (Err OutOfMemory) l = untouched_noted l
  trial_left sessions seed count (Err Script) l = l
  trial_left sessions seed count (Err Output) l = anew_noted seed count l
  trial_left sessions seed count (Err TooLong) l = l

  end_left : (asked : AskedFor) (ending : Ending) → EndLeaves asked ending old mid
      → EndLeaves asked ending old then
  end_left None ending l = untouched_noted l
  end_left (Some (Format spares)) ending l = format_left spares ending l
  end_left (Some (Run frames sessions numbers true closes)) ending l = formatted_left sessions ending l
  end_left (Some (Run frames sessions numbers false closes)) ending l = opened_left sessions ending l
  end_left (Some (Serial sessions)) ending l = serial_left old mid noted sessions ending l
  end_left (Some Check) ending l = check_left old mid noted ending l
  end_left (Some Records) ending l = list_left old mid noted ending l
  end_left (Some (Trial seed count frames sessions numbers)) ending l = trial_left sessions seed count ending l

-- all that is to be known of the end
pub ends : (asked : AskedFor) (ending : Ending) (old mid new : Told) (status : ℕ)
    → EndCause asked ending old mid → EndLeaves asked ending old mid
    → mid.beside.noted ≡ old.beside.noted → status ≡ status_at ending
    → new ≡ but_noted mid new.beside.noted → ((bytes : List ℕ) → new.beside.noted ≡ Some bytes
    → (before : List ℕ) × (mid.beside.noted ≡ Some before) × (bytes ≡ before ++ note_at ending))
    → Ends asked old new status
ends asked ending old mid new status cause leaves same status_is only noted = record {
  ending = ending;
  status_is = status_is;
  noted = λ bytes told. let (before, was, is) = noted bytes told in (before, sym same ∙ was, is);
  cause = subst (EndCause asked ending old) (sym only) (end_cause old mid new.beside.noted asked
      ending cause);
  leaves = subst (EndLeaves asked ending old) (sym only) (end_left old mid new.beside.noted asked
      ending leaves);
}

-- a note is no call that counts
pub none_falls : (old mid new : Told) → Further old mid → new ≡ but_noted mid new.beside.noted
    → NoneFalls old new
none_falls old mid new f only = subst (NoneFalls old) (sym only) (record {
  places = f.places;
  reads = f.reads;
  writes = f.writes;
  worn = f.worn;
  says = f.says;
  script = f.script;
  bytes = f.bytes;
})
