-- How the program starts a run, and why it doesn't.
use Rattle.std.proofs.Common.{◌≡◌, ◌≢◌, ◌⊎◌, ◌≤◌, ◌<◌, ◌+◌, ◌^◌, ℕ, Bool, true, false, length, Some, None, Result, Ok, Err, inl, inr, refl, sym, ◌∙◌, ap, subst, arith}
use Rattle.std.specs.Prelude.{◌&&◌, nat_le, OnOk, IfErr, IsErrOf}
use Rattle.std.proofs.lemmas.Bool.{cases_Bool, and_parts}
use Rattle.std.proofs.lemmas.Bool.Decides.{nat_tests}
use Rattle.chip_trait.specs.Story.{Contents, held}
use Rattle.chip_trait.specs.Told.{History, Told, Rose, adds_all}
use Rattle.ipl_base.specs.Calls.{IsFailedCall}
use Rattle.ipl_base.specs.Places.{IsGeometry, spares_on}
use Rattle.ipl_base.specs.declared.fault.ChipFault.{ChipFault}
use Rattle.ipl_base.specs.declared.fault.ChipFault.TheVariants.{ReadFault, Stopped, Damaged, Malformed, WornOut}
use Rattle.ipl_base.specs.declared.fault.ImageFault.{ImageFault}
use Rattle.ipl_base.specs.declared.fault.ImageFault.TheVariants as image
use Rattle.ipl_model.specs.State.{Map, at_rest}
use Rattle.ipl_meaning.specs.Legible.{of, whole}
use Rattle.ipl_meaning.proofs.RotLemmas.{every_is_told_apart}
use Rattle.ipl_meaning.specs.Chart.{Chart, chart_of}
use Rattle.ipl_meaning.specs.Stands.{Says, Stands}
use Rattle.ipl_meaning.specs.Rests.{now, StoryRests}
use Rattle.ipl_meaning.proofs.StoryLemmas.{held_stands}
use Rattle.unit_io.specs.Leads.{IsSteady}
use Rattle.ipl_meaning.specs.Chosen.{units_at}
use Rattle.ipl_meaning.specs.Faults.{first_fault, greatest_found}
use Rattle.ipl_meaning.specs.LaidOut.{layout_in}
use Rattle.ipl_meaning.proofs.CauseLemmas.{faults_are_caused}
use Rattle.ipl_meaning.proofs.LaidLemmas.{laid_is_fine_or_spent}
use Rattle.ipl_meaning.proofs.NoFaultLemmas.{no_fault_is_laid}
use Rattle.restart.proofs.CompleteLemmas.{completes_whole}
use Rattle.restart.proofs.LookLemmas.{reads_none}
use Rattle.restart.specs.Looks.{AreTooMany, numbers_in}
use Rattle.store_trait.specs.Keeping.{SaysFailedCall, SCRIPT_DRAWS, WORK_DRAWS, FOUND_NUMBER}
use Rattle.store_trait.specs.declared.fault.Fault.{Fault}
use Rattle.store_trait.specs.declared.fault.Fault.TheVariants as fault
use Rattle.place_taking.proofs.SpendingLemmas.{or_right}
use Rattle.selective_merge.specs.Homes.{WearCause}
use Rattle.restart.specs.Recovers.{FailsApart, OpeningCause, tells_wear}
use Rattle.restart.proofs.ReadyLemmas.{layouts_say}
use Rattle.store_laws.specs.Keeps.{KnownPages, all_pages, IsWornCount, FaultTells, StoreCause}
use Rattle.script_run.specs.declared.fault.Stop.{Stop}
use Rattle.script_run.specs.declared.fault.Stop.TheVariants as stop
use Rattle.script_run.specs.Goes.{StopCause, StopWears, LearnsAlong, KeepsSome, CompletesOver, ReadsAll}
use Rattle.ipl_store.specs.Calls.{counter_of, limits_of_store}
use Rattle.script_store.specs.declared.store.ScriptStore.{ScriptStore}
use Rattle.script_store.specs.Keeps.{IsRunning, script_keeping, next_number}
use Rattle.script_store.specs.Worn.{WearsOut, ChipWears, ImageWears}
use Rattle.script_store.proofs.ReopenLemmas.{opening_knows, opening_wears}
use Rattle.command_line.specs.Ends.{fault_status}
use Rattle.command_line.specs.declared.end.End.{End}
use Rattle.command_line.specs.declared.end.End.TheVariants.{Words, Chip, OutOfMemory, Script, Output, TooLong}
use Rattle.command_line.specs.declared.asked.Request.TheVariants.{Run}
use Rattle.ipl_cli.specs.Ending.{Ending}
use Rattle.ipl_cli.specs.Top.{IsLaidWell, RestsWithNumbersLeft, HasRoomFor, IsMetLater, LaidCause, UsedUpCause, RestsOnSome, IsMetAgain, IsAtFault, StrayCause, OpenedCause, WornOutCause, FormattedCause, IsTooLong, RequestCause, EndCause, RunsOpened, IsRefused, OpenedRuns, FormattedLeaves, OpenedLeaves}
use Rattle.ipl_cli.specs.Runs.{MakesStore, StartsOpened, IsNotOpened, RunsOver, end_of, ending_of, slots_of}
use Rattle.ipl_cli.proofs.EarlierLemmas.{reads_earlier, writes_earlier, worn_earlier, script_earlier, says_earlier, long_earlier}
use Rattle.ipl_cli.proofs.EndLemmas.{left_counts, units_told, opened_keeps, opened_runs, runs_opened, unopened_runs, untouched_stops}

-- ---- what a chip holds that is sound

none_is_some : {X : Type 0} {x : X} → None ≡ Some x → ⊥
none_is_some e = cc

some_one : {X : Type 0} {a b : X} → Some a ≡ Some b → a ≡ b
some_one e = cc

err_of : {a b : Stop} → a ≡ b → IsErrOf {T = Unit {0}} (Err a) b
err_of is = ap Err is

-- another number of places is told first
size_first : (c : Chart) (places : ℕ) → ¬ IsGeometry places
    → first_fault c places ≡ Some image.Geometry
size_first c places other = elim (cases_Bool (nat_le 5 places && nat_le places 1028)) [
  | inl fits ↦ let both = and_parts (nat_le 5 places) (nat_le places 1028) fits in absurd
      (other (grind (arith, nat_tests, both.0), grind (arith, nat_tests, both.1)))
  | inr outside ↦ rw outside refl
]

-- contents that stand for a map have no fault, unless their numbers are used up
module _ (places : ℕ) (c : Chart) (m : Map) (stands : Stands places c (whole m)) where
  pub stands_well : (e : ImageFault) → first_fault c places ≡ Some e → e ≡ image.Spent
  stands_well e fault = elim (laid_is_fine_or_spent c places stands.layout stands.laid) [
    | inl none ↦ absurd (none_is_some (sym none ∙ fault))
    | inr spent ↦ some_one (sym fault ∙ spent)
  ]

  pub stands_fine : greatest_found c places < 2 ^ 63 → first_fault c places ≡ None
  stands_fine low = elim (laid_is_fine_or_spent c places stands.layout stands.laid) [
    | inl none ↦ none
    | inr spent ↦ let high : 2 ^ 63 ≤ greatest_found c places = faults_are_caused c places
        image.Spent spent in absurd (omega (arith, high, low))
  ]

module _ (t : Told) (sound : RestsWithNumbersLeft t) where
  sound_told : t.contents ≡ Some (held sound.history.start sound.history.story)
  sound_told = sound.steady.holds

  sound_stands : Stands t.places (now sound.history) (whole sound.map)
  sound_stands = held_stands t.places (whole sound.map) sound.history sound.rests.each

  sound_fine : first_fault (now sound.history) t.places ≡ None
  sound_fine = stands_fine t.places (now sound.history) sound.map sound_stands
      (omega (arith, sound.left))

  pub sound_some : RestsOnSome t
  sound_some = record {
    legible = whole sound.map;
    history = sound.history;
    steady = sound.steady;
    rests = sound.rests;
    apart = every_is_told_apart;
  }

  -- so no other fault comes than that of a call of the chip
  pub laid_never : (e : ImageFault) → ¬ LaidCause e t
  laid_never e (inl at_fault) = none_is_some (sym sound_fine ∙ at_fault _ sound_told)
  laid_never e (inr again) = again.unsound sound_some

  pub used_never : ¬ UsedUpCause t
  used_never (inl at_fault) = none_is_some (sym sound_fine ∙ at_fault _ sound_told)
  used_never (inr later) = later.unsound sound

  pub sector_never : ¬ StrayCause t
  sector_never (inl stray) = stray _ sound_told sound.map sound_stands
  sector_never (inr later) = later.unsound sound

  -- and the status is that of worn places, unless a read or a write failed
  pub opened_excused : (numbers : ℕ) → HasRoomFor numbers t → (e : ImageFault) (new : Told) → OpenedCause numbers e t new
      → Rose t.read_faults new.read_faults ⊎ Rose t.write_faults new.write_faults
      ⊎ (fault_status e ≡ 10)
  opened_excused numbers fits image.Geometry new c = absurd (laid_never image.Geometry c)
  opened_excused numbers fits image.NotFormatted new c = absurd (laid_never image.NotFormatted c)
  opened_excused numbers fits (image.Missing u) new c = absurd (laid_never (image.Missing u) c)
  opened_excused numbers fits (image.Chip ReadFault) new c = inl c
  opened_excused numbers fits (image.Chip Stopped) new c = inr (inl c)
  opened_excused numbers fits (image.Chip (Damaged p s stored computed)) new c = absurd (sector_never c.1)
  opened_excused numbers fits (image.Chip (Malformed p s)) new c = absurd (sector_never c)
  opened_excused numbers fits (image.Chip (WornOut n)) new c = inr (inr refl)
  opened_excused numbers fits image.Spent new c = absurd (used_never c)
  opened_excused numbers fits (image.NoSpare n) new c = absurd (laid_never (image.NoSpare n) c)
  opened_excused numbers fits image.TooManyNumbers new (inl many) =
      let few = fits many.never _ sound_told in
      let more = many.many _ sound_told in absurd (omega (arith, few, more))
  opened_excused numbers fits image.TooManyNumbers new (inr again) = absurd (again.unsound sound_some)

-- what was met again was met later
pub again_is_later : (old : Told) → IsMetAgain old → IsMetLater old
again_is_later old met = record { laid = met.laid; unsound = λ sound. met.unsound (sound_some old sound) }

-- ---- a chip that isn't opened

module _ {marks : Bool} (numbers : ℕ) (old new : Told) (end : End) (n : IsNotOpened marks numbers end old new) where
  pub refused : IsRefused n.fault old new
  refused e has =
      let looked = n.tries.looks has.contents has.told e has.fault in (
        record { read = new; reads = looked.0; noted = refl },
        elim looked.1 [
          | inl fault ↦ inl (inl fault)
          | inr other ↦ elim other [
            | inl missed ↦ inl (inr missed)
            | inr many ↦ inr many
          ]
        ],
      )

  -- a fault of how the chip is laid out is its first fault
  first_cause : (f : ImageFault) → ((c : ChipFault) → f ≡ image.Chip c → ⊥) → f ≢ image.TooManyNumbers → n.fault ≡ f
      → IsAtFault old f
  first_cause f apart fits is = (λ x told.
      elim (n.tries.tells x told (λ excused. elim excused [
        | inl failed ↦ apart failed.0 (sym is ∙ failed.1)
        | inr many ↦ fits (sym is ∙ many)
      ])) [
        | inl first ↦ first ∙ ap Some is
        | inr none ↦ absurd (apart none.1.fault (sym is ∙ none.1.is))
      ])

  -- contents with a fault of a sector stand for no map
  module _ (c : ChipFault) (other : ¬ IsFailedCall c) (is : n.fault ≡ image.Chip c) where
    chip_one : {a b : ChipFault} → image.Chip a ≡ image.Chip b → a ≡ b
    chip_one e = cc

    chip_unspent : {a : ChipFault} → image.Chip a ≡ image.Spent → ⊥
    chip_unspent e = cc

    chip_fits : {a : ChipFault} → image.Chip a ≡ image.TooManyNumbers → ⊥
    chip_fits e = cc

    -- no call of the chip failed
    unfailed : ¬ FailsApart n.fault
    unfailed (inl (d, failed, call)) = other (subst IsFailedCall (chip_one (sym failed ∙ is)) call)
    unfailed (inr many) = chip_fits (sym is ∙ many)

    -- what stands for a map says it as the opening finds it laid out
    says : (x : Contents) → old.contents ≡ Some x → (m : Map)
        → first_fault (chart_of x) old.places ≡ None → Stands old.places (chart_of x) (whole m)
        → Says old.places (chart_of x) (layout_in (chart_of x) old.places) (whole m)
    says x told m none stands =
        let bytes = n.tries.bytes x told (λ failed. unfailed (inl (ReadFault, failed, tt)))
        (λ failed. unfailed (inl (Stopped, failed, tt))) (λ many. unfailed (inr many)) (inr none) in
        layouts_say old.places (chart_of x) (layout_in (chart_of x) old.places) (whole m)
        (no_fault_is_laid (chart_of x) old.places bytes none) stands

    sector_cause : StrayCause old
    sector_cause = inl (λ x told m stands. elim (n.tries.tells x told unfailed) [
      | inl first ↦ chip_unspent (sym is ∙ stands_well old.places (chart_of x) m stands n.fault first)
      | inr none ↦ unfailed (completes_whole n.tables.status.most old.places (Err n.fault) old n.tries.complete x told m none.0 (says x told m none.0 stands))
    ])

  -- too many places are worn, by the tables that it left
  worn_by : (k : ℕ) → n.fault ≡ image.Chip (WornOut k) → WearCause n.tables.places k old new
      → WornOutCause k old new
  worn_by k is cause = record {
    count = record {
      units = length n.tables.places.current;
      keeps = n.tries.units;
      one_more = cause.0 ∙ ap (λ (p : ℕ). 1 + spares_on p (length n.tables.places.current)) n.tries.all;
    };
    exact = λ m h steady rests. cause.0
        ∙ ap (λ (p : ℕ). 1 + spares_on p (length n.tables.places.current)) n.tries.all
        ∙ ap (λ (u : ℕ). 1 + spares_on old.places u)
        (n.tries.costs.units (or_right false (tells_wear n.fault) (ap tells_wear is))
        (held h.start h.story) steady.holds);
    rose = cause.2;
    wears = subst (λ (f : ImageFault). ImageWears old f new) is
        (opening_wears old new n.fault n.tables n.tries);
  }

  unopened_by : (f : ImageFault) → n.fault ≡ f → OpeningCause n.tables.status.most n.tables.places f old new
      → OpenedCause numbers f old new
  unopened_by image.Geometry is cause = inl (first_cause image.Geometry (λ c same. cc) (λ same. cc) is)
  unopened_by image.NotFormatted is cause = inl (first_cause image.NotFormatted (λ c same. cc) (λ same. cc) is)
  unopened_by (image.Missing u) is cause = inl (first_cause (image.Missing u) (λ c same. cc) (λ same. cc) is)
  unopened_by (image.Chip ReadFault) is cause = cause.read refl
  unopened_by (image.Chip Stopped) is cause = cause.stopped refl
  unopened_by (image.Chip (Damaged p s stored computed)) is cause = (
    cause.damaged p s stored computed refl,
    sector_cause (Damaged p s stored computed) (λ none. none) is,
  )
  unopened_by (image.Chip (Malformed p s)) is cause = sector_cause (Malformed p s) (λ none. none) is
  unopened_by (image.Chip (WornOut k)) is cause = worn_by k is (cause.worn k refl)
  unopened_by image.Spent is cause = inl (first_cause image.Spent (λ c same. cc) (λ same. cc) is)
  unopened_by (image.NoSpare k) is cause = inl (first_cause (image.NoSpare k) (λ c same. cc) (λ same. cc) is)
  unopened_by image.TooManyNumbers is cause =
      inl (subst (λ (k : ℕ). AreTooMany k (numbers_in old.places) old) n.room (cause.many refl))

  pub unopened_cause : OpenedCause numbers n.fault old new
  unopened_cause = unopened_by n.fault refl n.tries.accounts.cause

  pub unopened_ends : (frames sessions : ℕ) (closes : Bool) → RequestCause (Run frames sessions numbers false closes) end old new
  unopened_ends frames sessions closes = subst (λ (e : End). RequestCause (Run frames sessions numbers false closes) e old new)
      (sym n.end_is) unopened_cause

-- and it is left so, where its marks count
pub unopened_left : (sessions numbers : ℕ) (old new : Told) (end : End) → IsNotOpened true numbers end old new → OpenedLeaves sessions (Err end) old new
unopened_left sessions numbers old new end n = subst (λ (e : End). OpenedLeaves sessions (Err e) old new) (sym n.end_is)
    (record {
      runs = runs_opened (unopened_runs numbers old new end n);
      refused = refused numbers old new end n;
      other = λ misfit. absurd (misfit n.fits);
    })

-- ---- a chip that is opened

module _ {marks : Bool} (old mid : Told) (store : ScriptStore) (s : StartsOpened marks old store mid) where
  opened_laid : IsLaidWell old
  opened_laid x told = let (y, there, is) = s.tries.tells x told in is.none

  -- the store runs over the chip as it is then
  pub opened_running : IsRunning mid.places store
  opened_running = subst (λ (n : ℕ). IsRunning n store) (sym s.tries.accounts.counts.places)
      s.running

  -- numbers last for any script
  pub opened_number : next_number store ≤ FOUND_NUMBER
  opened_number = rw s.running.up s.opens.left

  module _ (then : ScriptStore) (new : Told) where
    abbrev Completes : Stop → Type 0
    Completes e = (known : KnownPages)
        → CompletesOver (script_keeping mid.places known) {T = Unit {0}} (SCRIPT_DRAWS + WORK_DRAWS) store mid (Err e) then new

    -- it keeps the records on which a history rests
    keeps_some : (known : KnownPages) (m : Map) (h : History) → IsSteady h old → StoryRests old.places (of known.pages m) h
        → KeepsSome (script_keeping mid.places known) (limits_of_store store.store) store mid
    keeps_some known m h steady rests = subst (λ (n : ℕ).
        KeepsSome (script_keeping n known) (limits_of_store store.store) store mid)
        (sym s.tries.accounts.counts.places) (record {
          state = at_rest m;
          history = adds_all (s.tries.steps (of known.pages m) h steady rests).2.added h;
          holds = opened_keeps old mid store s known m h steady rests;
        })

    -- the store of a sound chip fails only where a call of the chip failed, and says so
    excused : (f : Fault) → Completes (stop.Store f) → RestsWithNumbersLeft old → SaysFailedCall f
    excused f completes sound =
        let done = completes all_pages (limits_of_store store.store)
        (keeps_some all_pages sound.map sound.history sound.steady sound.rests) in
        let number : counter_of store.store ≤ greatest_found (now sound.history) old.places + 1 + 2 ^ 14 =
        (s.opens.number _ sound.steady.holds).1 in
        let next : next_number store ≡ counter_of store.store = rw s.running.up refl in
        (done.excuse f refl (omega (arith, number, next, sound.left)) refl).1

    later : (f : Fault) → Completes (stop.Store f) → ¬ SaysFailedCall f → IsMetLater old
    later f completes other = record {
      laid = opened_laid;
      unsound = λ sound. other (excused f completes sound);
    }

    -- a fault of the store tells what it may, wherever a history rests on records
    abbrev Tells : Fault → Type 0
    Tells f = (known : KnownPages) (m : Map) (h : History) → IsSteady h old → StoryRests old.places (of known.pages m) h
        → FaultTells (spares_on old.places (units_at (now h) old.places)) f

    tells_so : (f : Fault) → Completes (stop.Store f) → Tells f
    tells_so f completes known m h steady rests =
        subst (λ (u : ℕ). FaultTells (spares_on old.places u) f) (units_told old mid store s h steady)
        (subst (λ (p : ℕ). FaultTells (spares_on p store.store.units) f)
        s.tries.accounts.counts.places
        ((completes known (limits_of_store store.store) (keeps_some known m h steady rests)).tells f refl))

    -- what never comes so was met where no history rests on records
    met_again : (f : Fault) → Tells f → ((spares : ℕ) → FaultTells spares f → ⊥) → IsMetAgain old
    met_again f tells never = record {
      laid = opened_laid;
      unsound = λ sound. never (spares_on old.places (units_at (now sound.history) old.places)) (tells (record { pages = sound.legible.pages; apart = sound.apart }) sound.legible.map
          sound.history sound.steady sound.rests);
    }

    -- so many places are worn
    worn_met : (n : ℕ) → IsWornCount mid.places n → Rose mid.worn_erases new.worn_erases
        → ((m : Map) (h : History) → IsSteady h old → StoryRests old.places (whole m) h
        → n ≡ 1 + spares_on old.places (units_at (now h) old.places)) → WearsOut old new
        → WornOutCause n old new
    worn_met n count rose exact wears = record {
      count = subst (λ (p : ℕ). IsWornCount p n) s.tries.accounts.counts.places count;
      exact = exact;
      rose = worn_earlier old mid new s.tries.accounts.counts rose;
      wears = wears;
    }

    chip_met : (c : ChipFault) → (¬ IsFailedCall c → IsMetLater old) → Tells (fault.Chip c)
        → ChipWears old c new → StoreCause mid.places (fault.Chip c) mid new
        → (numbers : ℕ) → OpenedCause numbers (image.Chip c) old new
    chip_met ReadFault met tells wears cause numbers = reads_earlier old mid new s.tries.accounts.counts cause
    chip_met Stopped met tells wears cause numbers = writes_earlier old mid new s.tries.accounts.counts cause
    chip_met (Damaged p q stored computed) met tells wears cause numbers =
        (cause, inr (met (λ none. none)))
    chip_met (Malformed p q) met tells wears cause numbers = inr (met (λ none. none))
    chip_met (WornOut n) met tells wears cause numbers = worn_met n cause.0 cause.1 (tells all_pages) wears

    image_met : (e : ImageFault) → (¬ SaysFailedCall (fault.Image e) → IsMetLater old)
        → Tells (fault.Image e) → ImageWears old e new
        → StoreCause mid.places (fault.Image e) mid new → (numbers : ℕ) → OpenedCause numbers e old new
    image_met image.Geometry met tells wears cause numbers = inr (met_again (fault.Image image.Geometry) tells (λ spares none. none))
    image_met image.NotFormatted met tells wears cause numbers =
        inr (met_again (fault.Image image.NotFormatted) tells (λ spares none. none))
    image_met (image.Missing u) met tells wears cause numbers =
        inr (met_again (fault.Image (image.Missing u)) tells (λ spares none. none))
    image_met (image.Chip c) met tells wears cause numbers = chip_met c met tells wears cause numbers
    image_met image.Spent met tells wears cause numbers = inr (met (λ none. none))
    image_met (image.NoSpare k) met tells wears cause numbers =
        inr (met_again (fault.Image (image.NoSpare k)) tells (λ spares none. none))
    image_met image.TooManyNumbers met tells wears cause numbers =
        inr (met_again (fault.Image image.TooManyNumbers) tells (λ spares none. none))

    -- why the run stops
    stop_cause : (frames sessions numbers : ℕ) (closes : Bool) (e : Stop) → Completes e
        → StopCause (script_keeping mid.places all_pages) mid new e
        → StopWears (script_keeping mid.places all_pages) old e new
        → (e ≡ stop.Store fault.Spent → ⊥) → (e ≡ stop.TooLong → IsTooLong mid new)
        → RequestCause (Run frames sessions numbers false closes) (end_of e) old new
    stop_cause frames sessions numbers closes (stop.Store (fault.Chip c)) completes cause wears unspent long = chip_met c
        (later (fault.Chip c) completes) (tells_so (fault.Chip c) completes) wears cause numbers
    stop_cause frames sessions numbers closes (stop.Store (fault.Image e)) completes cause wears unspent long = image_met e
        (later (fault.Image e) completes) (tells_so (fault.Image e) completes) wears cause numbers
    stop_cause frames sessions numbers closes (stop.Store fault.Spent) completes cause wears unspent long =
        absurd (unspent refl)
    stop_cause frames sessions numbers closes stop.Script completes cause wears unspent long = script_earlier old mid new
        s.tries.accounts.counts cause
    stop_cause frames sessions numbers closes stop.Output completes cause wears unspent long = says_earlier old mid new
        s.tries.accounts.counts cause
    stop_cause frames sessions numbers closes stop.TooLong completes cause wears unspent long = long_earlier old mid new
        s.tries.accounts.counts (long refl)

    pub over_cause : (frames sessions numbers : ℕ) (closes : Bool) (result : Result (Unit {0}) Stop)
        → ((known : KnownPages)
        → CompletesOver (script_keeping mid.places known) (SCRIPT_DRAWS + WORK_DRAWS) store mid result then new)
        → IfErr result (λ e. StopCause (script_keeping mid.places all_pages) mid new e)
        → LearnsAlong (script_keeping mid.places all_pages) store mid result then new
        → (IsErrOf result (stop.Store fault.Spent) → ⊥)
        → (IsErrOf result stop.TooLong → IsTooLong mid new)
        → EndCause (Some (Run frames sessions numbers false closes)) (ending_of result) old new
    over_cause frames sessions numbers closes (Ok u) completes cause learns unspent long = tt
    over_cause frames sessions numbers closes (Err e) completes cause learns unspent long = stop_cause frames sessions numbers closes e completes
        cause (learns old (opening_knows old mid store s.opens s.tries))
        (λ is. unspent (err_of is)) (λ is. long (err_of is))

    pub opened_cause : (frames sessions numbers : ℕ) (closes : Bool) (ending : Ending) → RunsOver ending store mid then new
        → EndCause (Some (Run frames sessions numbers false closes)) ending old new
    opened_cause frames sessions numbers closes ending r = subst (λ (e : Ending). EndCause (Some (Run frames sessions numbers false closes)) e old
        new) (sym r.ending_is) (over_cause frames sessions numbers closes r.result r.run.completes r.run.cause r.run.learns
        r.run.unspent r.run.long)

  -- all that was left of the script before the opening was read
  pub read_before : (new : Told) (result : Result (Unit {0}) Stop) → OnOk result (ReadsAll mid new)
      → OnOk result (ReadsAll old new)
  read_before new (Ok u) all = λ source told. all source (left_counts old mid s.tries.accounts.counts ∙ told)
  read_before new (Err e) all = tt

-- what is left of it, where its marks count
module _ (old mid : Told) (store : ScriptStore) (s : StartsOpened true old store mid)
    (then : ScriptStore) (new : Told) where
  pub stops : (e : ImageFault) → RunsOpened (slots_of store) old new (Err (Chip e))
      → OpenedLeaves (slots_of store) (Err (Chip e)) old new
  stops e runs = record {
    runs = runs;
    refused = λ f has. absurd (none_is_some (sym (opened_laid old mid store s has.contents has.told) ∙
        has.fault));
    other = λ misfit. absurd (misfit s.running.sound.made.geometry);
  }

  ran : (ending : Ending) → RunsOpened (slots_of store) old new ending → (ending ≡ Ok tt → ReadsAll old new)
      → OpenedRuns (slots_of store) old new ending
  ran ending runs read = record {
    runs = runs;
    read = read;
    laid = opened_laid old mid store s;
    fits = s.running.sound.made.geometry;
  }

  leaves_by : (result : Result (Unit {0}) Stop) → RunsOpened (slots_of store) old new (ending_of result)
      → OnOk result (ReadsAll old new) → OpenedLeaves (slots_of store) (ending_of result) old new
  leaves_by (Ok u) runs all = ran (Ok u) runs (λ is. all)
  leaves_by (Err (stop.Store (fault.Chip c))) runs all = stops (image.Chip c) runs
  leaves_by (Err (stop.Store (fault.Image e))) runs all = stops e runs
  leaves_by (Err (stop.Store fault.Spent)) runs all = stops image.Spent runs
  leaves_by (Err stop.Script) runs all = ran (Err Script) runs (λ is. absurd cc)
  leaves_by (Err stop.Output) runs all = ran (Err Output) runs (λ is. absurd cc)
  leaves_by (Err stop.TooLong) runs all = ran (Err TooLong) runs (λ is. absurd cc)

  pub opened_left : (ending : Ending) → RunsOver ending store mid then new
      → OpenedLeaves (slots_of store) ending old new
  opened_left ending r = subst (λ (e : Ending). OpenedLeaves (slots_of store) e old new) (sym r.ending_is)
      (leaves_by r.result (runs_opened (opened_runs old mid store s then new r.result r.run.runs))
      (read_before old mid store s new r.result r.run.read))

-- ---- memory that was wanting, and other numbers of places

module _ (t : Told) where
  pub closed_left : (sessions : ℕ) (end : End) → MakesStore t.places (Err end) → OpenedLeaves sessions (Err end) t t
  closed_left sessions Words c = absurd c
  closed_left sessions (Chip e) c = record {
    runs = subst (λ (f : ImageFault). RunsOpened sessions t t (Err (Chip f))) (sym c.1) (untouched_stops t t refl);
    refused = λ f has. (
      record { read = t; reads = reads_none t; noted = refl },
      inl (inl (c.1 ∙ sym (some_one (sym has.fault ∙ size_first (chart_of has.contents) t.places c.0)))),
    );
    other = λ misfit. refl;
  }
  closed_left sessions OutOfMemory c = refl
  closed_left sessions Script c = absurd c
  closed_left sessions Output c = absurd c
  closed_left sessions TooLong c = absurd c

  pub closed_cause : (frames sessions numbers : ℕ) (closes : Bool) (end : End) → MakesStore t.places (Err end)
      → RequestCause (Run frames sessions numbers false closes) end t t
  closed_cause frames sessions numbers closes Words c = absurd c
  closed_cause frames sessions numbers closes (Chip e) c = subst (λ (f : ImageFault). OpenedCause numbers f t t) (sym c.1)
      (inl (λ x told. size_first (chart_of x) t.places c.0))
  closed_cause frames sessions numbers closes OutOfMemory c = tt
  closed_cause frames sessions numbers closes Script c = absurd c
  closed_cause frames sessions numbers closes Output c = absurd c
  closed_cause frames sessions numbers closes TooLong c = absurd c

  pub unmade_left : (sessions : ℕ) (end : End) → MakesStore t.places (Err end) → FormattedLeaves sessions (Err end) t t
  unmade_left sessions Words c = absurd c
  unmade_left sessions (Chip e) c = inl (c.0, c.1, refl)
  unmade_left sessions OutOfMemory c = refl
  unmade_left sessions Script c = absurd c
  unmade_left sessions Output c = absurd c
  unmade_left sessions TooLong c = absurd c

  pub unmade_cause : (frames sessions numbers : ℕ) (closes : Bool) (end : End) → MakesStore t.places (Err end)
      → RequestCause (Run frames sessions numbers true closes) end t t
  unmade_cause frames sessions numbers closes Words c = absurd c
  unmade_cause frames sessions numbers closes (Chip e) c = subst (λ (f : ImageFault). FormattedCause f t t) (sym c.1)
      (inl c.0)
  unmade_cause frames sessions numbers closes OutOfMemory c = tt
  unmade_cause frames sessions numbers closes Script c = absurd c
  unmade_cause frames sessions numbers closes Output c = absurd c
  unmade_cause frames sessions numbers closes TooLong c = absurd c
