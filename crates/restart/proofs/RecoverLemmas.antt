-- An opening: reads, and then a new status place.
use Rattle.std.proofs.Common.{◌≡◌, ◌⊎◌, inl, inr, ℕ, Bool, true, false, List, [], Some, None, Result, Ok, Err, IfErr, refl, sym, ◌∙◌, ap, subst, arith}
use Rattle.std.proofs.lemmas.Bool.{cases_Bool, false≢true}
use Rattle.std.proofs.lemmas.Option.{same_Some}
use Rattle.chip_trait.specs.Story.{Contents, held}
use Rattle.chip_trait.specs.Told.{History, Told, Counts, Unrisen, adds_all}
use Rattle.ipl_base.specs.declared.fault.ChipFault.{ChipFault}
use Rattle.ipl_base.specs.declared.fault.ChipFault.TheVariants.{ReadFault, Stopped, Damaged, Malformed, WornOut}
use Rattle.ipl_base.specs.declared.fault.ImageFault.{ImageFault}
use Rattle.ipl_base.specs.declared.fault.ImageFault.TheVariants.{Geometry, NotFormatted, Missing, Chip, Spent, NoSpare, TooManyNumbers}
use Rattle.ipl_meaning.specs.Legible.{Legible}
use Rattle.ipl_meaning.specs.Agrees.{Agrees}
use Rattle.ipl_meaning.specs.Chart.{Chart, chart_of}
use Rattle.ipl_meaning.specs.Layout.{Laid}
use Rattle.ipl_meaning.specs.Mirrors.{Mirrors}
use Rattle.ipl_meaning.specs.Rests.{now, EachStands, StoryRests}
use Rattle.ipl_meaning.specs.Tables.{Places, OverflowLists, StatusTable, Tables, IsCountedClean}
use Rattle.ipl_meaning.specs.TableSteps.{without_marks}
use Rattle.ipl_meaning.proofs.CarriedLemmas.{tidy_is_carried}
use Rattle.ipl_meaning.proofs.MarkLemmas.{counted_follow_ends_of_marks, tables_follow_ends_of_marks}
use Rattle.ipl_meaning.specs.Opened.{AreOpened, tables_of as opened_of}
use Rattle.ipl_meaning.specs.Faults.{is_image, first_fault}
use Rattle.ipl_meaning.specs.LaidOut.{layout_in}
use Rattle.restart.specs.Looks.{OnlyReads, IsMissed, AreTooMany, numbers_in, HasCause}
use Rattle.chip_trait.proofs.CountsLemmas.{counts_then}
use Rattle.unit_io.specs.Steps.{Settled, NoOtherEnd, EndsWith, Outcome, TidyWork, Tidies}
use Rattle.unit_io.proofs.TablesLemmas.{tables_fewer}
use Rattle.unit_io.proofs.StepLemmas.{outcome_then, outcome_weaker, outcome_steady, outcome_reads}
use Rattle.unit_io.proofs.StepTidyLemmas.{tidy_reads, tidy_then}
use Rattle.unit_io.specs.Leads.{IsSteady, IsStopped}
use Rattle.unit_io.specs.ReadsAt.{Anywhere}
use Rattle.unit_io.proofs.ReadsAtLemmas.{at_rests}
use Rattle.restart.specs.Passes.{HasRenewed, TellsChart, KeepsInSteps, RenewCause}
use Rattle.restart.specs.Recovers.{HasOpened, FailsApart, IsOpeningFault, LooksAtFaults, TakesMarks, RestsTidily, RecoversInSteps, OpeningCause, tells_wear}
use Rattle.restart.specs.Securing.{knows_logs, WaitsWhere}
use Rattle.restart.proofs.PreserveLemmas.{agrees_of, reads_preserve}
use Rattle.restart.proofs.SecuringLemmas.{none_counted, wait_contents, wait_in_steps, wait_tidies}
use Rattle.restart.proofs.TidyLemmas.{nothing, takes_nothing, tidies_read_then, tidies_then}

-- ---- the tables

-- the tables with these parts, whatever sessions are open
abbrev pub of_parts : Places → OverflowLists → StatusTable → ℕ → List ℕ → Tables
of_parts directory overflow status next active = record {
  places = directory;
  overflow = overflow;
  status = status;
  next = next;
  active = active;
}

-- where none is, they are what the opening made
pub opened_parts : (places : ℕ) (c : Chart) (directory : Places) (overflow : OverflowLists)
    (status : StatusTable) (next : ℕ) (active : List ℕ) → active ≡ []
    → AreOpened places c (opened_of directory overflow status next)
    → Mirrors places c (layout_in c places) (opened_of directory overflow status next)
    → AreOpened places c (of_parts directory overflow status next active)
    × Mirrors places c (layout_in c places) (of_parts directory overflow status next active)
opened_parts places c directory overflow status next active none opened mirrors = (
  subst (λ (a : List ℕ). AreOpened places c (of_parts directory overflow status next a))
      (sym none) opened,
  subst (λ (a : List ℕ). Mirrors places c (layout_in c places)
      (of_parts directory overflow status next a)) (sym none) mirrors,
)

-- ---- how it ended

pub opens_done : (places : ℕ) (c : Chart) (t after : Tables) (new : Told)
    → first_fault c places ≡ None → Laid places c (layout_in c places)
    → TellsChart (HasRenewed places c (layout_in c places) t after) new
    → TellsChart (HasOpened places c (without_marks after)) new
opens_done places c t after new none laid (y, told, is) = (
  y,
  told,
  record {
    none = none;
    laid = laid;
    now = is.now;
    count = is.alike.count;
    mirrors = tables_follow_ends_of_marks places (chart_of y) is.now after is.mirrors is.unmarked;
    pages = is.pages;
    exact = is.exact;
    unmarked = is.unmarked;
    says = is.says;
    lists = is.lists;
  },
)

-- a fault of the reading
pub opens_told : (most places : ℕ) (x : Contents) (e : ImageFault) (old new : Told)
    → (is_image e ≡ true → first_fault (chart_of x) places ≡ Some e) → HasCause most e old new
    → ¬ FailsApart e → IsOpeningFault places x e
opens_told most places x e old new tells cause unfailed = elim (cases_Bool (is_image e)) [
  | inl image ↦ inl (tells image)
  | inr other ↦ absurd (unfailed (elim (cause other) [
    | inl missed ↦ inl (ReadFault, missed.fault, tt)
    | inr many ↦ inr many.0
  ]))
]

-- of contents that have a fault it is that one, or a read failed, or numbers have no room
pub fault_looks : (most places : ℕ) (x : Contents) (e first : ImageFault) (old new : Told)
    → (is_image e ≡ true → first_fault (chart_of x) places ≡ Some e) → HasCause most e old new
    → first_fault (chart_of x) places ≡ Some first → (e ≡ first) ⊎ (e ≡ Chip ReadFault) ⊎ (e ≡ TooManyNumbers)
fault_looks most places x e first old new tells cause is = elim (cases_Bool (is_image e)) [
  | inl image ↦ inl (same_Some e first (sym (tells image) ∙ is))
  | inr other ↦ inr (elim (cause other) [
    | inl missed ↦ inl missed.fault
    | inr many ↦ inr many.0
  ])
]

-- a chip without a fault has nothing to show here
pub sound_looks : (places : ℕ) (old : Told) (result : Result (Unit {0}) ImageFault) (new : Told)
    → ((x : Contents) → old.contents ≡ Some x → first_fault (chart_of x) places ≡ None)
    → LooksAtFaults places old result new
sound_looks places old result new sound x told e is =
    let no_way : None ≡ Some e = sym (sound x told) ∙ is in absurd cc

-- ---- causes

same_chip : (a b : ChipFault) → ◌≡◌ {A = ImageFault} (Chip a) (Chip b) → a ≡ b
same_chip a b e = cc

stopped_is_no_read : ◌≡◌ {A = ImageFault} (Chip Stopped) (Chip ReadFault) → ⊥
stopped_is_no_read e = cc

damaged_is_no_read : (p s stored computed : ℕ)
    → ◌≡◌ {A = ImageFault} (Chip (Damaged p s stored computed)) (Chip ReadFault) → ⊥
damaged_is_no_read p s stored computed e = cc

worn_is_no_read : (n : ℕ) → ◌≡◌ {A = ImageFault} (Chip (WornOut n)) (Chip ReadFault) → ⊥
worn_is_no_read n e = cc

pub no_room_is_no_call : (fault : ChipFault) → ◌≡◌ {A = ImageFault} (Chip fault) TooManyNumbers → ⊥
no_room_is_no_call fault e = cc

-- a fault of a call of the chip, or of a sector, isn't about the memory for numbers
missed_so : (most : ℕ) (fault : ChipFault) (e : ImageFault) (old new : Told) → e ≡ Chip fault → is_image e ≡ false
    → HasCause most e old new → IsMissed e old new
missed_so most fault e old new is other cause = elim (cause other) [
  | inl missed ↦ missed
  | inr many ↦ absurd (no_room_is_no_call fault (sym is ∙ many.0))
]

-- that numbers have no room is no failed read
many_so : (most : ℕ) (e : ImageFault) (old new : Told) → e ≡ TooManyNumbers → HasCause most e old new
    → AreTooMany most (numbers_in old.places) old
many_so most e old new is cause = elim (cause (ap is_image is)) [
  | inl missed ↦ absurd (no_room_is_no_call ReadFault (sym missed.fault ∙ is))
  | inr many ↦ many.1
]

pub reading_cause : (most n : ℕ) (after : Places) (e : ImageFault) (old new : Told) → n ≡ most → HasCause most e old new
    → OpeningCause n after e old new
reading_cause most n after e old new same cause = record {
  read = λ is. (missed_so most ReadFault e old new is (ap is_image is) cause).rose;
  stopped = λ is. absurd (stopped_is_no_read (sym is ∙ (missed_so most Stopped e old new is (ap is_image is) cause).fault));
  worn = λ k is. absurd (worn_is_no_read k (sym is ∙ (missed_so most (WornOut k) e old new is (ap is_image is) cause).fault));
  damaged = λ p s stored computed is same_sums.
      damaged_is_no_read p s stored computed
      (sym is ∙ (missed_so most (Damaged p s stored computed) e old new is (ap is_image is) cause).fault);
  many = λ is. subst (λ (m : ℕ). AreTooMany m (numbers_in old.places) old) (sym same) (many_so most e old new is cause);
}

pub renewing_cause : (most : ℕ) (after : Places) (fault : ChipFault) (old mid new : Told) → Counts old mid
    → RenewCause after fault mid new → OpeningCause most after (Chip fault) old new
renewing_cause most after fault old mid new counts cause = record {
  many = λ is. absurd (no_room_is_no_call fault is);
  read = λ is.
      let rose : RenewCause after ReadFault mid new =
      subst (λ (f : ChipFault). RenewCause after f mid new) (same_chip fault ReadFault is) cause in
      omega (arith, counts.reads, rose);
  stopped = λ is.
      let rose : RenewCause after Stopped mid new =
      subst (λ (f : ChipFault). RenewCause after f mid new) (same_chip fault Stopped is) cause in
      omega (arith, counts.writes, rose);
  worn = λ n is.
      let rose : RenewCause after (WornOut n) mid new =
      subst (λ (f : ChipFault). RenewCause after f mid new) (same_chip fault (WornOut n) is) cause in
      (rose.0, rose.1, omega (arith, counts.worn, rose.2));
  damaged = λ p s stored computed is.
      let differ : RenewCause after (Damaged p s stored computed) mid new =
      subst (λ (f : ChipFault). RenewCause after f mid new)
      (same_chip fault (Damaged p s stored computed) is) cause in
      differ.1;
}

-- a fault of the reading is no worn place
pub reading_not_worn : (most : ℕ) (e : ImageFault) (old new : Told) → HasCause most e old new → tells_wear e ≡ false
reading_not_worn most Geometry old new cause = refl
reading_not_worn most NotFormatted old new cause = refl
reading_not_worn most (Missing u) old new cause = refl
reading_not_worn most (Chip ReadFault) old new cause = refl
reading_not_worn most (Chip Stopped) old new cause = refl
reading_not_worn most (Chip (Damaged p s stored computed)) old new cause = refl
reading_not_worn most (Chip (Malformed p s)) old new cause = refl
reading_not_worn most (Chip (WornOut n)) old new cause = absurd (worn_is_no_read n (missed_so most (WornOut n) (Chip (WornOut n)) old new refl refl cause).fault)
reading_not_worn most Spent old new cause = refl
reading_not_worn most (NoSpare p) old new cause = refl
reading_not_worn most TooManyNumbers old new cause = refl

-- ---- what a power cut leaves

-- only reads were made
pub reads_recover : (marks : Bool) (places : ℕ) (old new : Told) (after : Tables) (e : ImageFault)
    → OnlyReads old new → RecoversInSteps marks places old (Err e) after new
reads_recover marks places old new after e did m h steady rests =
    let tidy = tidy_reads Anywhere (IsCountedClean nothing) (Unit {0}) old new did in (
      nothing,
      takes_nothing marks places old,
      outcome_reads Anywhere places m
          (TidyWork (IsCountedClean nothing) (IsCountedClean after) (false ≡ true))
          (Settled {T = Unit {0}} {E = ImageFault} (Err e) old new) (StoryRests places m) h old new
          steady rests did
          (record {
            silent = tidy.silent;
            lawful = tidy.lawful;
            clean = λ no. absurd (false≢true no);
          })
          (at_rests Anywhere places m h did.added did.each rests),
    )

-- a part that was done, and then a call
call_then : (E : History → Type 0) (t between after : Tables) (First Then : History → Type 0)
    (Settles : Type 0) (h : History) (old mid new : Told)
    → (first : Outcome E (TidyWork (IsCountedClean t) (IsCountedClean between) (Unit {0}))
    (Unit {0}) First h old mid)
    → ((k : History) → IsSteady k mid → First k
    → Outcome E (TidyWork (IsCountedClean between) (IsCountedClean after) Settles) Settles Then k
    mid new)
    → Outcome E (TidyWork (IsCountedClean t) (IsCountedClean after) Settles) Settles Then h old new
call_then E t between after First Then Settles h old mid new first next =
    let Work = TidyWork (IsCountedClean t) (IsCountedClean between) (Unit {0}) in
    outcome_then E Work (TidyWork (IsCountedClean between) (IsCountedClean after) Settles)
    (TidyWork (IsCountedClean t) (IsCountedClean after) Settles) (Unit {0}) Settles First Then h old
    mid new first tt
    (next (adds_all first.added h)
    (outcome_steady E Work (Unit {0}) First h old mid first tt) (first.ends tt))
    (λ a b one two. tidy_then (IsCountedClean t) (IsCountedClean between) (IsCountedClean after)
    (Unit {0}) Settles a b one tt two)

-- a call that failed says nothing of what is clean
failed_less : (E : History → Type 0) (t between after : Tables) (Then : History → Type 0)
    (A B : Type 0) (h : History) (old new : Told) → (B → A)
    → Outcome E (TidyWork (IsCountedClean t) (IsCountedClean between) A) A Then h old new
    → Outcome E (TidyWork (IsCountedClean t) (IsCountedClean after) (false ≡ true)) B Then h old new
failed_less E t between after Then A B h old new less =
    outcome_weaker E E (TidyWork (IsCountedClean t) (IsCountedClean between) A)
    (TidyWork (IsCountedClean t) (IsCountedClean after) (false ≡ true)) A B Then Then h old new
    (λ k is. is)
    (λ a did. record {
      silent = did.silent;
      lawful = did.lawful;
      clean = λ no. absurd (false≢true no);
    })
    less (λ _ k is. is)

module _ (marks : Bool) (places : ℕ) (t : Tables) (old mid settled : Told) (reads : OnlyReads old mid)
    (takes : TakesMarks marks places old t)
    (opens : (x : Contents) → old.contents ≡ Some x → AreOpened places (chart_of x) t
    × Mirrors places (chart_of x) (layout_in (chart_of x) places) t) where
  module _ (m : Legible) (h : History) (steady : IsSteady h old) (rests : StoryRests places m h) where
    both : AreOpened places (now h) t × Mirrors places (now h) (layout_in (now h) places) t
    both = opens (held h.start h.story) steady.holds

    -- reads, and then a barrier, passed or not
    settles : (result : Result (Unit {0}) ChipFault)
        → WaitsWhere (knows_logs t.places) result mid settled
        → IfErr result (λ fault. IsStopped fault mid settled)
        → Outcome (EachStands places m)
        (TidyWork (IsCountedClean t) (IsCountedClean t) (Settled result mid settled))
        (Settled result mid settled)
        (EndsWith result (λ v k. RestsTidily places m t k) NoOtherEnd) h old settled
    settles result waits stopped =
        call_then (EachStands places m) t t t (StoryRests places m)
        (EndsWith result (λ v k. RestsTidily places m t k) NoOtherEnd) (Settled result mid settled) h
        old mid settled (reads_preserve Anywhere places m h t (Ok tt) old mid steady rests reads)
        (λ k there resting. wait_in_steps places m k t mid settled there resting
        (takes.marked (held k.start k.story) (sym reads.contents ∙ there.holds))
        (knows_logs t.places) result (none_counted places (now h) t both.0) waits stopped)

    module _ (waits : WaitsWhere (knows_logs t.places) (Ok tt) mid settled) where
      -- the tables agree then
      agreeing : (k : History) → IsSteady k settled → RestsTidily places m t k
          → Agrees places k (layout_in (now h) places) t
      agreeing k there tidily =
          agrees_of places k settled (held h.start h.story) (layout_in (now h) places) t there
          (wait_contents (knows_logs t.places) mid settled waits ∙ reads.contents ∙ steady.holds)
          both.1 tidily.tidy

      renewed : (after : Tables) (new : Told) → KeepsInSteps places t after settled (Ok tt) new
          → (k : History) → IsSteady k settled → RestsTidily places m t k
          → Outcome (EachStands places m)
          (TidyWork (IsCountedClean t) (IsCountedClean after) (Unit {0})) (Unit {0})
          (RestsTidily places m after) k settled new
      renewed after new keeps k there tidily =
          let it = layout_in (now h) places in
          let agrees = agreeing k there tidily in
          let did = keeps m it k there tidily.rests agrees in record {
            added = did.added;
            places = did.places;
            history = did.history;
            each_moment = did.each_moment;
            marks = did.marks;
            does = did.does;
            steady = did.steady;
            ends = λ _. record {
              rests = did.ends tt;
              tidy = tidy_is_carried places k it t after did.added agrees (did.does.clean tt);
            };
          }

  -- the barrier failed
  pub securing_failed : (after : Tables) (fault : ChipFault)
      → WaitsWhere (knows_logs t.places) (Err fault) mid settled → IsStopped fault mid settled
      → RecoversInSteps marks places old (Err (Chip fault)) after settled
  securing_failed after fault waits stopped m h steady rests = (
    t,
    takes,
    outcome_weaker (EachStands places m) (EachStands places m)
        (TidyWork (IsCountedClean t) (IsCountedClean after) (false ≡ true))
        (TidyWork (IsCountedClean t) (IsCountedClean after) (false ≡ true)) (Unrisen old settled)
        (Unrisen old settled) NoOtherEnd (StoryRests places m) h old settled (λ k is. is)
        (λ a is. is) (λ unrisen. unrisen) (λ _ k none. absurd none)
        (failed_less (EachStands places m) t t after NoOtherEnd (Unrisen mid settled)
        (Unrisen old settled) h old settled (λ unrisen. omega (arith, reads.counts.writes, unrisen))
        (settles m h steady rests (Err fault) waits stopped)),
  )

  module _ (waits : WaitsWhere (knows_logs t.places) (Ok tt) mid settled) where
    -- a renewal was done, and then no mark counts any more
    pub recovers_done : (after : Tables) (new : Told) → KeepsInSteps places t after settled (Ok tt) new
        → RecoversInSteps marks places old (Ok tt) (without_marks after) new
    recovers_done after new keeps m h steady rests =
        let fewer = λ (p s : ℕ). (counted_follow_ends_of_marks after p s).1 in (
          t,
          takes,
          outcome_weaker (EachStands places m) (EachStands places m)
              (TidyWork (IsCountedClean t) (IsCountedClean after) (Unit {0}))
              (TidyWork (IsCountedClean t) (IsCountedClean (without_marks after)) (true ≡ true))
              (Unit {0}) (Unit {0}) (RestsTidily places m after)
              (RestsTidily places m (without_marks after)) h old new (λ k is. is)
              (λ a did. record {
                silent = did.silent;
                lawful = did.lawful;
                clean = λ _ base clean p s counted.
                    did.clean tt base clean p s (fewer p s counted);
              })
              (λ done. done)
              (λ _ k is. record {
                rests = is.rests;
                tidy = λ p s counted. is.tidy p s (fewer p s counted);
              })
              (call_then (EachStands places m) t t after (RestsTidily places m t)
              (RestsTidily places m after) (Unit {0}) h old settled new
              (settles m h steady rests (Ok tt) waits tt)
              (renewed m h steady rests waits after new keeps)),
        )

    -- it failed
    pub recovers_failed : (after : Tables) (new : Told) (fault : ChipFault) → Counts mid settled
        → KeepsInSteps places t after settled (Err fault) new
        → RecoversInSteps marks places old (Err (Chip fault)) after new
    recovers_failed after new fault counts keeps m h steady rests = (
      t,
      takes,
      failed_less (EachStands places m) t after after (StoryRests places m) (Unrisen settled new)
          (Unrisen old new) h old new
          (λ unrisen. omega (arith, reads.counts.writes, counts.writes, unrisen))
          (call_then (EachStands places m) t t after (RestsTidily places m t) (StoryRests places m)
          (Unrisen settled new) h old settled new (settles m h steady rests (Ok tt) waits tt)
          (λ k there tidily. keeps m (layout_in (now h) places) k there tidily.rests
          (agreeing m h steady rests waits k there tidily))),
    )

-- ---- what is lawful

module _ (t : Tables) (old mid settled : Told) (reads : OnlyReads old mid) where
  -- reads, and then a barrier, passed or not
  pub tidies_settled : (result : Result (Unit {0}) ChipFault)
      → WaitsWhere (knows_logs t.places) result mid settled → Tidies t result t old settled
  tidies_settled result waits =
      tidies_read_then Anywhere t t result old mid settled reads
      (wait_tidies (knows_logs t.places) t result mid settled waits)

  -- and then a renewal
  pub tidies_renewed : Counts mid settled → WaitsWhere (knows_logs t.places) (Ok tt) mid settled
      → (after : Tables) (result : Result (Unit {0}) ChipFault) (new : Told)
      → Tidies t result after settled new → Tidies t result after old new
  tidies_renewed counts waits after result new =
      tidies_then t t after result old settled new (counts_then old mid settled reads.counts counts)
      (tidies_settled (Ok tt) waits)

-- and then no mark counts any more
pub tidies_ended : (t after : Tables) (old new : Told)
    → Tidies {T = Unit {0}} {E = ChipFault} t (Ok tt) after old new
    → Tidies {T = Unit {0}} {E = ChipFault} t (Ok tt) (without_marks after) old new
tidies_ended t after old new =
    tables_fewer {T = Unit {0}} {E = ChipFault} t after (without_marks after) (Ok tt) old new
    (λ p s. (counted_follow_ends_of_marks after p s).1)
