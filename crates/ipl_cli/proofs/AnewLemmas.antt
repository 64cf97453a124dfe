-- How a run and a trial start over a chip that is formatted first, and a format that is stopped.
use Rattle.std.proofs.Common.{◌≡◌, [], ◌≤◌, ◌<◌, ◌+◌, ◌-◌, ◌^◌, ℕ, Bool, true, false, length, Some, Result, Ok, Err, inl, inr, refl, sym, ◌∙◌, ap, subst, arith}
use Rattle.std.specs.Prelude.{OnOk}
use Rattle.std.proofs.lemmas.Bool.{cases_eq}
use Rattle.std.specs.FinMap.{empty}
use Rattle.chip_trait.specs.Story.{Story, Contents}
use Rattle.chip_trait.specs.Told.{History, Told, Counts, Rose, adds_all}
use Rattle.ipl_base.specs.Places.{IsGeometry, IsSpared, KeepsUnits, units_on, spares_on}
use Rattle.ipl_base.proofs.UnitLemmas.{units_are_kept}
use Rattle.ipl_base.specs.declared.fault.ChipFault.TheVariants.{ReadFault, Stopped, Damaged, Malformed, WornOut}
use Rattle.ipl_base.specs.declared.fault.FormatFault.{FormatFault}
use Rattle.ipl_base.specs.declared.fault.FormatFault.TheVariants as format
use Rattle.ipl_base.specs.declared.fault.ImageFault.{ImageFault}
use Rattle.ipl_base.specs.declared.fault.ImageFault.TheVariants as image
use Rattle.ipl_meaning.specs.Legible.{whole}
use Rattle.ipl_meaning.specs.Chart.{Chart}
use Rattle.ipl_meaning.specs.Rests.{now, StoryRests}
use Rattle.ipl_meaning.specs.Formatted.{formatted}
use Rattle.ipl_meaning.specs.FirstTables.{first_layout}
use Rattle.ipl_meaning.proofs.FormattedLemmas.{no_sector}
use Rattle.unit_io.specs.Leads.{IsSteady}
use Rattle.ipl_meaning.specs.Chosen.{units_at}
use Rattle.ipl_meaning.specs.Faults.{greatest_found}
use Rattle.ipl_meaning.specs.OpeningLaws.{IsByteChart}
use Rattle.ipl_meaning.proofs.FormatFaultLemmas.{formatted_bytes}
use Rattle.ipl_meaning.proofs.NumberLemmas.{greatest_is_found}
use Rattle.restart.specs.Events.{format_events}
use Rattle.restart.specs.Fresh.{IsFresh, Formats, TellsFresh}
use Rattle.restart.specs.Looks.{numbers_in}
use Rattle.ipl_store.proofs.FitLemmas.{none_rise, all_numbers}
use Rattle.store_trait.specs.Keeping.{FOUND_NUMBER}
use Rattle.store_trait.specs.declared.fault.Fault.TheVariants as fault
use Rattle.store_laws.specs.Keeps.{IsWornCount}
use Rattle.script_run.specs.declared.fault.Stop.{Stop}
use Rattle.script_run.specs.declared.fault.Stop.TheVariants as stop
use Rattle.script_run.specs.Goes.{ReadsAll}
use Rattle.page_frames.specs.Pages.{tables_in}
use Rattle.ipl_store.specs.declared.store.Store.{Store}
use Rattle.ipl_store.specs.Calls.{IsSound}
use Rattle.ipl_store.specs.Openings.{OpensStore, Tries}
use Rattle.script_store.specs.declared.store.ScriptStore.{ScriptStore}
use Rattle.script_store.specs.Keeps.{IsRunning, next_number}
use Rattle.command_line.specs.declared.end.End.{End}
use Rattle.command_line.specs.declared.end.End.TheVariants.{Words, Chip, OutOfMemory, Script, Output, TooLong}
use Rattle.command_line.specs.declared.asked.Request.TheVariants.{Run}
use Rattle.ipl_cli.specs.Ending.{Ending, StopsEarly, StopRose, format_end}
use Rattle.ipl_cli.specs.Top.{RestsWithNumbersLeft, LaidCause, StrayCause, OpenedCause, AnewCause, FormattedCause, FindsWorn, RequestCause, EndCause, FormattedLeaves}
use Rattle.ipl_cli.specs.Runs.{RunsFrom, StartsOpened, IsNotOpened, WasFormatted, IsNotFormatted, StartsFormatted, IsNotStarted, RunsOver, ending_of, slots_of}
use Rattle.ipl_cli.proofs.EarlierLemmas.{reads_earlier, writes_earlier, worn_earlier, script_earlier, says_earlier, long_earlier}
use Rattle.ipl_cli.proofs.WornLemmas.{format_finds, fresh_finds}
use Rattle.ipl_cli.proofs.EndLemmas.{left_counts, stopped_early, opened_runs, unopened_runs, formatted_runs, fresh_story, fresh_units}
use Rattle.ipl_cli.proofs.StartLemmas.{laid_never, opened_cause, opened_number, opened_running, read_before, sector_never, unmade_cause, unmade_left, unopened_ends, sound_some, used_never}

-- ---- a chip that is formatted first

-- the numbers of a chip that was just formatted are few
fresh_bytes : (places units : ℕ) (c : Chart) → IsGeometry places → KeepsUnits places units
    → IsFresh places units c → IsByteChart places c
fresh_bytes places units c fits keeps fresh p s sector low within read is =
    let there : formatted units p s ≡ Some sector = sym (fresh.same p s low within) ∙ is in
    elim (cases_eq s 0) [
      | inl first ↦ formatted_bytes places units fits.0 fits.1 keeps p s sector low within (inl first)
          there
      | inr other ↦ absurd (no_sector places units fits.0 fits.1 keeps p s sector other there)
    ]

fresh_number : (places units : ℕ) (c : Chart) → IsGeometry places → KeepsUnits places units
    → IsFresh places units c → greatest_found c places < 2 ^ 62
fresh_number places units c fits keeps fresh = elim (greatest_is_found c places (first_layout units)
    (fresh_bytes places units c fits keeps fresh) fresh.mirrors.laid) [
      | inl none ↦ omega (arith, none)
      | inr found ↦ let low : greatest_found c places < units + 2 =
          fresh.mirrors.numbers.above (greatest_found c places) found in
          omega (arith, low, fits.1, keeps.1)
    ]

-- no number is committed there
fresh_fits : (places units most : ℕ) (c : Chart) → IsFresh places units c → most < length (numbers_in places c) → ⊥
fresh_fits places units most c fresh many =
    let none = all_numbers places c (first_layout units) fresh.mirrors.laid [] fresh.mirrors.status.numbers none_rise in
    omega (arith, many, ap length none)

-- where all units are kept no place is spare, and one worn one is one too many
none_spare : (places : ℕ) → 1 + spares_on places (units_on places) ≡ 1
none_spare places = omega arith

module _ (old mid : Told) (f : WasFormatted old mid) where
  fresh_then : (h : History)
      → IsFresh mid.places (units_on old.places) (now (adds_all (format_events old.places (units_on old.places)) h))
  fresh_then h =
      let did = f.formats h in
      subst (λ (q : ℕ). IsFresh q (units_on old.places) (now (adds_all (format_events old.places (units_on old.places)) h)))
      (sym f.counts.places) (subst (λ (s : Story). IsFresh old.places (units_on old.places) (now (adds_all s h)))
      did.done.exact did.done.fresh)

  -- it is sound
  pub fresh_sound : (h : History) → IsSteady h old → RestsWithNumbersLeft mid
  fresh_sound h steady =
      let story = fresh_story old mid mid f h steady in
      let did = f.formats h in record {
        map = empty;
        history = adds_all (format_events old.places (units_on old.places)) h;
        steady = story.0;
        rests = subst (λ (q : ℕ).
            StoryRests q (whole empty) (adds_all (format_events old.places (units_on old.places)) h))
            (sym f.counts.places) story.1;
        left = subst (λ (q : ℕ). greatest_found
            (now (adds_all (format_events old.places (units_on old.places)) h)) q < 2 ^ 62)
            (sym f.counts.places)
            (fresh_number old.places (units_on old.places)
            (now (adds_all (format_events old.places (units_on old.places)) h)) f.fits
            (units_are_kept old.places f.fits)
            (subst (λ (s : Story). IsFresh old.places (units_on old.places) (now (adds_all s h)))
            did.done.exact did.done.fresh));
      }

  -- and says that it has all units
  units_anew : (h : History)
      → units_at (now (adds_all (format_events old.places (units_on old.places)) h)) mid.places
      ≡ units_on mid.places
  units_anew h = subst (λ (q : ℕ).
      units_at (now (adds_all (format_events old.places (units_on old.places)) h)) q ≡ units_on q)
      (sym f.counts.places) (fresh_units old mid mid f h)

  module _ (new : Told) where
    laid_anew : (e : ImageFault) → LaidCause e mid → AnewCause old
    laid_anew e cause h steady = laid_never mid (fresh_sound h steady) e cause

    sector_anew : StrayCause mid → AnewCause old
    sector_anew cause h steady = sector_never mid (fresh_sound h steady) cause

    anew_by : (numbers : ℕ) (e : ImageFault) → OpenedCause numbers e mid new → FormattedCause e old new
    anew_by numbers image.Geometry c = inr (laid_anew image.Geometry c)
    anew_by numbers image.NotFormatted c = laid_anew image.NotFormatted c
    anew_by numbers (image.Missing u) c = laid_anew (image.Missing u) c
    anew_by numbers (image.Chip ReadFault) c = reads_earlier old mid new f.counts c
    anew_by numbers (image.Chip Stopped) c = writes_earlier old mid new f.counts c
    anew_by numbers (image.Chip (Damaged p s stored computed)) c =
        (c.0, sector_anew c.1)
    anew_by numbers (image.Chip (Malformed p s)) c = sector_anew c
    anew_by numbers (image.Chip (WornOut n)) c = record {
      count = subst (λ (p : ℕ). IsWornCount p n) f.counts.places c.count;
      exact = λ h steady.
          let story = fresh_story old mid mid f h steady in
          c.exact empty (adds_all (format_events old.places (units_on old.places)) h) story.0
          (subst (λ (q : ℕ).
          StoryRests q (whole empty) (adds_all (format_events old.places (units_on old.places)) h))
          (sym f.counts.places) story.1)
          ∙ ap (λ (u : ℕ). 1 + spares_on mid.places u) (units_anew h)
          ∙ none_spare mid.places;
      rose = worn_earlier old mid new f.counts c.rose;
      found = fresh_finds old mid new f.fits f.counts.places
          (λ h. ((f.formats h).added, (f.formats h).history)) f.contents c.wears;
    }
    anew_by numbers image.Spent c = λ h steady. used_never mid (fresh_sound h steady) c
    anew_by numbers (image.NoSpare k) c = laid_anew (image.NoSpare k) c
    anew_by numbers image.TooManyNumbers (inl many) = λ h steady.
        fresh_fits mid.places (units_on old.places) _ (now (adds_all (format_events old.places (units_on old.places)) h))
        (fresh_then h) (many.many _ (fresh_story old mid mid f h steady).0.holds)
    anew_by numbers image.TooManyNumbers (inr met) = λ h steady. met.unsound (sound_some mid (fresh_sound h steady))

    -- why a run over it ends
    ends_anew : (frames sessions numbers asked : ℕ) (closes : Bool) (end : End)
        → RequestCause (Run frames sessions numbers false closes) end mid new
        → RequestCause (Run frames sessions asked true closes) end old new
    ends_anew frames sessions numbers asked closes Words c = absurd c
    ends_anew frames sessions numbers asked closes (Chip e) c = anew_by numbers e c
    ends_anew frames sessions numbers asked closes OutOfMemory c = tt
    ends_anew frames sessions numbers asked closes Script c = script_earlier old mid new f.counts c
    ends_anew frames sessions numbers asked closes Output c = says_earlier old mid new f.counts c
    ends_anew frames sessions numbers asked closes TooLong c = long_earlier old mid new f.counts c

    pub unopened_anew : (frames sessions numbers asked : ℕ) (closes : Bool) (end : End) → IsNotOpened false numbers end mid new
        → RequestCause (Run frames sessions asked true closes) end old new
    unopened_anew frames sessions numbers asked closes end n = ends_anew frames sessions numbers asked closes end
        (unopened_ends numbers mid new end n frames sessions closes)

    stops_anew : {sessions : ℕ} (e : ImageFault) → RunsFrom sessions false mid new (Err (Chip e)) → FormattedLeaves sessions (Err (Chip e)) old new
    stops_anew e runs = inr (
      f.fits,
      λ h script steady left. inl (formatted_runs old mid new f runs h script steady left),
    )

    pub unopened_stops : (sessions numbers : ℕ) (end : End) → IsNotOpened false numbers end mid new → FormattedLeaves sessions (Err end) old new
    unopened_stops sessions numbers end n = subst (λ (e : End). FormattedLeaves sessions (Err e) old new) (sym n.end_is)
        (stops_anew n.fault (unopened_runs numbers mid new end n))

    -- and what it leaves
    leaves_anew : {sessions : ℕ} (result : Result (Unit {0}) Stop) → RunsFrom sessions false mid new (ending_of result)
        → OnOk result (ReadsAll mid new) → FormattedLeaves sessions (ending_of result) old new
    leaves_anew (Ok u) runs all = (
      formatted_runs old mid new f runs,
      λ source told. all source (left_counts old mid f.counts ∙ told),
    )
    leaves_anew (Err (stop.Store (fault.Chip c))) runs all = stops_anew (image.Chip c) runs
    leaves_anew (Err (stop.Store (fault.Image e))) runs all = stops_anew e runs
    leaves_anew (Err (stop.Store fault.Spent)) runs all = stops_anew image.Spent runs
    leaves_anew (Err stop.Script) runs all = formatted_runs old mid new f runs
    leaves_anew (Err stop.Output) runs all = formatted_runs old mid new f runs
    leaves_anew (Err stop.TooLong) runs all = formatted_runs old mid new f runs

module _ (old mid : Told) (store : ScriptStore) (s : StartsFormatted old store mid)
    (then : ScriptStore) (new : Told) where
  pub formatted_left : (ending : Ending) → RunsOver ending store mid then new
      → FormattedLeaves (slots_of store) ending old new
  formatted_left ending r = subst (λ (e : Ending). FormattedLeaves (slots_of store) e old new) (sym r.ending_is)
      (leaves_anew old s.formatted s.formats new r.result
      (opened_runs s.formatted mid store s.opened then new r.result r.run.runs)
      (read_before s.formatted mid store s.opened new r.result r.run.read))

  pub cause_anew : (frames sessions numbers : ℕ) (closes : Bool) (ending : Ending)
      → EndCause (Some (Run frames sessions numbers false closes)) ending s.formatted new
      → EndCause (Some (Run frames sessions numbers true closes)) ending old new
  cause_anew frames sessions numbers closes (Ok u) c = tt
  cause_anew frames sessions numbers closes (Err end) c = ends_anew old s.formatted s.formats new frames sessions numbers numbers closes end c

  pub formatted_cause : (frames sessions numbers : ℕ) (closes : Bool) (ending : Ending) → RunsOver ending store mid then new
      → EndCause (Some (Run frames sessions numbers true closes)) ending old new
  formatted_cause frames sessions numbers closes ending r = cause_anew frames sessions numbers closes ending (opened_cause s.formatted mid store
      s.opened then new frames sessions numbers closes ending r)

module _ (old mid : Told) (store : ScriptStore) (s : StartsFormatted old store mid) where
  pub formatted_running : IsRunning mid.places store
  formatted_running = opened_running s.formatted mid store s.opened

  pub formatted_number : next_number store ≤ FOUND_NUMBER
  formatted_number = opened_number s.formatted mid store s.opened

-- ---- a format that is stopped

module _ (old new : Told) (end : End) (n : IsNotFormatted end old new) where
  -- its end is of a fault of the chip
  stopped_at : (fault : FormatFault) → end ≡ format_end fault → StopRose fault old new
      → ((p : ℕ) → fault ≡ format.Worn p → FindsWorn old new)
      → (e : ImageFault) × (end ≡ Chip e) × FormattedCause e old new
  stopped_at format.Geometry is rose found = absurd rose
  stopped_at format.Stopped is rose found = (image.Chip Stopped, is, rose)
  stopped_at (format.Worn p) is rose found = (
    image.Chip (WornOut 1),
    is,
    record {
      count = record {
        units = units_on old.places;
        keeps = units_are_kept old.places n.fits;
        one_more = sym (none_spare old.places);
      };
      exact = λ h steady. refl;
      rose = rose;
      found = found p refl;
    },
  )

  pub stopped_end : (e : ImageFault) × (end ≡ Chip e) × FormattedCause e old new
  stopped_end = stopped_at n.fault n.end_is n.rose n.found

  pub stopped_left : (sessions : ℕ) → FormattedLeaves sessions (Err end) old new
  stopped_left sessions =
      let (e, is, cause) = stopped_end in
      subst (λ (last : End). FormattedLeaves sessions (Err last) old new) (sym is)
      (inr (
        n.fits,
        λ h script steady left. inr (subst (λ (last : End).
            StopsEarly old.places (units_on old.places) h old new (Err last)) is (n.stops h)),
      ))

  pub stopped_cause : (frames sessions numbers : ℕ) (closes : Bool) → RequestCause (Run frames sessions numbers true closes) end old new
  stopped_cause frames sessions numbers closes =
      let (e, is, cause) = stopped_end in
      subst (λ (last : End). RequestCause (Run frames sessions numbers true closes) last old new) (sym is) cause

-- ---- a run that isn't started

module _ (old new : Told) where
  pub not_started_left : (sessions : ℕ) (end : End) → IsNotStarted end old new → FormattedLeaves sessions (Err end) old new
  not_started_left sessions end (inl unmade) = subst (FormattedLeaves sessions (Err end) old) (sym unmade.1)
      (unmade_left old sessions end unmade.0)
  not_started_left sessions end (inr (inl stopped)) = stopped_left old new end stopped sessions
  not_started_left sessions end (inr (inr (formatted, f, numbers, n))) = unopened_stops old formatted f new sessions numbers end n

  pub not_started_cause : (frames sessions numbers : ℕ) (closes : Bool) (end : End) → IsNotStarted end old new
      → RequestCause (Run frames sessions numbers true closes) end old new
  not_started_cause frames sessions numbers closes end (inl unmade) = subst (RequestCause (Run frames sessions numbers true closes) end old)
      (sym unmade.1) (unmade_cause old frames sessions numbers closes end unmade.0)
  not_started_cause frames sessions numbers closes end (inr (inl stopped)) = stopped_cause old new end stopped frames sessions numbers closes
  not_started_cause frames sessions numbers closes end (inr (inr (formatted, f, most, n))) = unopened_anew old formatted f new
      frames sessions most numbers closes end n

-- ---- as the calls have it

abbrev failed : FormatFault → Result (Unit {0}) FormatFault
failed fault = Err fault

-- where none of the places is spare there are all units
all_units : (places : ℕ) → units_on places - 0 ≡ units_on places
all_units places = omega arith

spared_by : {places : ℕ} → IsGeometry places → IsSpared places 0
spared_by fits = (fits, omega arith, omega (arith, fits.0))

module _ (old new : Told) (fits : IsGeometry old.places) (counts : Counts old new) where
  -- with no place to spare
  abbrev Formatted : Result (Unit {0}) FormatFault → ℕ → Type 0
  Formatted result units = (h : History) → Formats {A = Unit {0}} old.places units h old result new

  -- a format of a chip that fits is done
  pub was_formatted : Formatted (Ok tt) (units_on old.places - 0)
      → ((x : Contents) → old.contents ≡ Some x → TellsFresh old.places (units_on old.places - 0) new)
      → WasFormatted old new
  was_formatted formats contents = record {
    fits = fits;
    counts = counts;
    formats = subst (Formatted (Ok tt)) (all_units old.places) formats;
    contents = λ x told. subst (λ (units : ℕ). TellsFresh old.places units new)
        (all_units old.places) (contents x told);
  }

  -- or a write failed, or a place is worn
  pub not_formatted : (f : FormatFault)
      → (failed f ≡ failed format.Geometry → ¬ IsSpared old.places 0)
      → (failed f ≡ failed format.Stopped → Rose old.write_faults new.write_faults)
      → ((p : ℕ) → failed f ≡ failed (format.Worn p) → Rose old.worn_erases new.worn_erases)
      → Formatted (Err f) (units_on old.places - 0) → IsNotFormatted (format_end f) old new
  not_formatted format.Geometry other rose worn formats = absurd (other refl (spared_by fits))
  not_formatted format.Stopped other rose worn formats = record {
    fault = format.Stopped;
    end_is = refl;
    fits = fits;
    counts = counts;
    rose = rose refl;
    found = λ p is. absurd (cc is);
    stops = stopped_early (units_on old.places) format.Stopped old new counts (rose refl)
        (subst (Formatted (Err format.Stopped)) (all_units old.places) formats);
  }
  not_formatted (format.Worn p) other rose worn formats = record {
    fault = format.Worn p;
    end_is = refl;
    fits = fits;
    counts = counts;
    rose = worn p refl;
    found = λ q is. format_finds old new old.places (units_on old.places - 0) p formats;
    stops = stopped_early (units_on old.places) (format.Worn p) old new counts (worn p refl)
        (subst (Formatted (Err (format.Worn p))) (all_units old.places) formats);
  }

-- a chip of which a store was opened
pub starts_over : (marks : Bool) (old new : Told) (store : Store) (s : ScriptStore) → s.store ≡ store
    → IsSound old.places store → OpensStore old.places old store new
    → Tries marks old.places old (Ok tt) (tables_in store.transactions.pages) new → StartsOpened marks old s new
starts_over marks old new store s same sound opens tries =
    let there : store ≡ s.store = sym same in record {
      running = record {
        sound = subst (IsSound old.places) there sound;
        up = ap
            (λ (it : Store). it.down) same ∙ opens.fresh.up;
      };
      opens = subst (λ (it : Store). OpensStore old.places old it new) there opens;
      tries = subst (λ (it : Store). Tries marks old.places old (Ok tt) (tables_in it.transactions.pages)
          new) there tries;
    }
