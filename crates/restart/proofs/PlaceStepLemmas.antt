-- What a power cut leaves where the status place is taken and written.
use Rattle.std.proofs.Common.{◌≡◌, ◌⊎◌, ◌<◌, ◌≤◌, ◌+◌, ℕ, true, List, length, Result, Ok, Err, is_ok, inl, inr, refl, sym, ◌∙◌, ap, subst, arith}
use Rattle.chip_trait.specs.Told.{History, Told, Counts, adds_all}
use Rattle.ipl_base.specs.declared.fault.ChipFault.{ChipFault}
use Rattle.ipl_meaning.specs.Legible.{Legible}
use Rattle.ipl_meaning.specs.Agrees.{Agrees}
use Rattle.ipl_meaning.specs.Layout.{Layout}
use Rattle.ipl_meaning.specs.Rests.{now, EachStands, StoryRests}
use Rattle.ipl_meaning.specs.Tables.{Places, StatusTable, Tables, IsCountedClean, IsFree, with_use, with_erased}
use Rattle.ipl_meaning.specs.TableSteps.{taken}
use Rattle.unit_directory.specs.Free.{aside}
use Rattle.unit_directory.specs.Laws.{UsesTake, DisusesGiveBack}
use Rattle.unit_directory.proofs.AsideLemmas.{next_places_are_aside}
use Rattle.unit_io.specs.Leads.{IsSteady}
use Rattle.unit_io.specs.Steps.{Settled, NoOtherEnd, EndsWith, Outcome, TidyWork, RestsAgreeing}
use Rattle.place_taking.specs.Takes.{ClearsNext, IsAsideFrom, IsTakenFrom, RestsTaken, TakesPlace, with_places}
use Rattle.place_taking.proofs.JoinLemmas.{counted_alike, counted_used, taken_then, taken_was_free}
use Rattle.txn_status.specs.Status.{parts_of, switched_to}
use Rattle.txn_status.specs.Switching.{IsStatusSpot, IsSwitched, IsReadyToSwitch, RestsSwitched, StepsSwitching, SwitchesInSteps}
use Rattle.txn_status.proofs.SwitchedLemmas.{counted_apart}
use Rattle.selective_merge.proofs.TakenLemmas.{steps_not}
use Rattle.restart.specs.Renewed.{HasTables, with_tables, MayRenew, RenewsInSteps}
use Rattle.restart.proofs.PlaceLemmas.{moved, erases_then, IsMovedTo, has_between, mirrors_between, may_between, has_status, fits_header, ready, switched}

-- the place was taken
module _ (takes : UsesTake) (gives_back : DisusesGiveBack) (p : ℕ) (first between : Places)
    (from : IsTakenFrom first p between) (status : StatusTable) (next : ℕ) (kept : List ℕ)
    (old mid told : Told) (sized : length first.in_use ≡ old.places) (counts : Counts old mid)
    (taking : TakesPlace first old (Ok p) between mid) where
  -- the directory with the places set aside that were found worn
  abbrev d : Places
  d = aside first from.worn

  sized_then : length d.in_use ≡ old.places
  sized_then = (next_places_are_aside first from.worn from.in_turn).all ∙ sized

  within : p < old.places
  within = let less = from.next.within in omega (arith, less, sized_then)

  module _ (m : Legible) (it : Layout) (t : Tables) (h : History) (steady : IsSteady h old)
      (has : HasTables t first status next) (rests : StoryRests old.places m h)
      (agrees : Agrees old.places h it t) (may : MayRenew it t kept) where
    -- the tables with them set aside
    abbrev set : Tables
    set = with_places t d

    set_has : HasTables set d status next
    set_has = has_between first from.worn from.in_turn status next t has

    set_may : MayRenew it set kept
    set_may = may_between first from.worn from.in_turn status next t has it kept may

    taking_it : Outcome (EachStands old.places m) (ClearsNext first (Ok p)) (Unit {0})
        (RestsTaken old.places m it t between (now h) p) h old mid
    taking_it = taking m it t h steady has.places_is (record { rests = rests; agrees = agrees })

    there : IsReadyToSwitch old.places (adds_all taking_it.added h) it (taken set p) m p kept
    unfolding taking_it
    there =
        let k = adds_all taking_it.added h in
        let done = taking_it.ends tt in
        ready takes gives_back old.places p d status next kept sized_then from.next.free within it set
        set_has set_may h k m
        (mirrors_between first from.worn from.in_turn status next t has old.places (now h) it
        agrees.mirrors)
        (subst (λ (e : Places). RestsAgreeing old.places m it (with_places t e) k) from.places_is
        done.stands)
        done.cleared (λ s. taking_it.does.fresh h.story s (omega arith))

    -- what counts as clean in the tables then did so before
    counted_before : (q s : ℕ) → IsCountedClean (taken set p) q s → IsCountedClean t q s
    counted_before =
        let facts = next_places_are_aside first from.worn from.in_turn in
        counted_alike t (with_erased (with_use d p true) p)
        (facts.current ∙ ap (λ (e : Places). e.current) (sym has.places_is))
        (facts.written ∙ ap (λ (e : Places). e.written) (sym has.places_is))

    -- a switch there, whatever tables it makes
    module _ (after : Tables) (switched_so : IsSwitched (taken set p) after p next kept) where
      abbrev Ends : Result (Unit {0}) ChipFault → History → Type 0
      Ends result k = EndsWith result (λ done j. RestsSwitched old.places m it after p next kept j)
          NoOtherEnd k

      moved_on : (result : Result (Unit {0}) ChipFault)
          → StepsSwitching old.places it after m p next kept (adds_all taking_it.added h) result mid told
          → Settled result old told → (q s : ℕ) → IsCountedClean after q s
          → (IsCountedClean t q s × ¬ IsFree first q)
          ⊎ ((is_ok result ≡ true) × (q ≡ p) × (1 + parts_of kept ≤ s))
      moved_on (Ok v) second settled q s counted =
          elim (counted_apart old.places (now (adds_all taking_it.added h)) it (taken set p) after p
          next (1 + parts_of kept) there.agrees.mirrors there.taken switched_so.renewed q s counted) [
            | inl was ↦
                let before = counted_before q s was.0 in
                inl (
                  before,
                  subst (λ (e : Places). ¬ IsFree e q) has.places_is
                      (counted_used old.places m it h t (record { rests = rests; agrees = agrees }) q s
                      before),
                )
            | inr here ↦ inr (refl, here.0, here.1)
          ]
      moved_on (Err e) second unrisen q s counted =
          absurd (second.ends (omega (arith, counts.writes, unrisen)))

      joined : (result : Result (Unit {0}) ChipFault)
          → SwitchesInSteps old.places (length d.current) (erases_then d p) d.retired status next p kept
          result mid told
          → Outcome (EachStands old.places m)
          (TidyWork (IsCountedClean t) (IsCountedClean after) (Settled result old told))
          (Settled result old told) (Ends result) h old told
      joined result says =
          let second = says (adds_all taking_it.added h) it (taken set p) after m (taking_it.steady tt)
          (has_status takes gives_back old.places p d status next kept sized_then from.next.free within
          it set set_has set_may)
          (fits_header takes gives_back old.places p d status next kept sized_then from.next.free within
          it set set_has set_may) there switched_so in
          taken_then (Unit {0}) ChipFault (EachStands old.places m)
          (RestsTaken old.places m it t between (now h) p) (Ends result) first p (1 + parts_of kept)
          (IsStatusSpot (parts_of kept)) t after h result old mid told
          (taken_was_free first between p from)
          (λ s high spot. omega (arith, high, spot)) counts taking_it second (moved_on result second)

  -- and written
  pub renews_in_steps : (after : Places) (new : StatusTable) (drawn : ℕ)
      → IsMovedTo p d status next kept after new drawn
      → SwitchesInSteps old.places (length d.current) (erases_then d p) d.retired status next p kept
      (Ok tt) mid told
      → RenewsInSteps old.places first status next kept after new drawn (Ok tt) old told
  renews_in_steps after new drawn is says m it t h steady has rests agrees may =
      let then_is : Tables = with_tables t after new drawn in
      let did = joined m it t h steady has rests agrees may then_is
      (switched takes gives_back old.places p d status next kept sized_then from.next.free within after
      new drawn is (with_places t d) (set_has m it t h steady has rests agrees may)) (Ok tt) says in
      record {
        added = did.added;
        places = did.places;
        history = did.history;
        each_moment = did.each_moment;
        marks = did.marks;
        does = did.does;
        steady = did.steady;
        ends = λ _. subst (λ (q : ℕ). RestsSwitched old.places m it then_is q next kept
            (adds_all did.added h)) (sym (ap (λ (s : StatusTable). s.place) is.status_is)) (did.ends tt);
      }

  -- or a write failed
  pub failed_in_steps : (after : Places) (new : StatusTable) (drawn : ℕ) (e f : ChipFault)
      → SwitchesInSteps old.places (length d.current) (erases_then d p) d.retired status next p kept
      (Err e) mid told
      → RenewsInSteps old.places first status next kept after new drawn (Err f) old told
  failed_in_steps after new drawn e f says m it t h steady has rests agrees may =
      let made : Places = moved d p status.place in
      let then_is : StatusTable = switched_to status.most p next kept in
      let last : ℕ = next + 1 + parts_of kept in
      let did = joined m it t h steady has rests agrees may (with_tables t made then_is last)
      (switched takes gives_back old.places p d status next kept sized_then from.next.free within made
      then_is last (record { places_is = refl; status_is = refl; drawn_is = refl }) (with_places t d)
      (set_has m it t h steady has rests agrees may)) (Err e) says in record {
        added = did.added;
        places = did.places;
        history = did.history;
        each_moment = did.each_moment;
        marks = did.marks;
        does = record {
          silent = did.does.silent;
          lawful = did.does.lawful;
          clean = λ unrisen. absurd (did.ends unrisen);
        };
        steady = did.steady;
        ends = λ unrisen. absurd (did.ends unrisen);
      }

-- it couldn't be taken: the tables are as they were, but for the places that were found worn and the
-- number that was drawn
pub untaken_in_steps : (d : Places) (status : StatusTable) (next : ℕ) (kept : List ℕ) (after : Places)
    (new : StatusTable) (drawn : ℕ) (e f : ChipFault) (old told : Told) → IsAsideFrom d after
    → new ≡ status → next ≤ drawn → TakesPlace d old (Err e) after told
    → RenewsInSteps old.places d status next kept after new drawn (Err f) old told
untaken_in_steps d status next kept after new drawn e f old told from still more takes m it t h steady
    has rests agrees may =
    steps_not {T = Unit {0}}
    (λ done k. RestsSwitched old.places m it (with_tables t after new drawn) new.place next kept k)
    after m it t (with_tables t after new drawn) drawn h e f old told
    (subst (λ (b : Places). IsAsideFrom b after) (sym has.places_is) from)
    (rw (still, has.status_is) refl)
    (omega (arith, more, has.next_is)) steady rests agrees
    (subst (λ (b : Places). TakesPlace b old (Err e) after told) (sym has.places_is) takes)
