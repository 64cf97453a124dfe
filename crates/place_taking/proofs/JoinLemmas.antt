-- A place taken, and then written: for whoever takes one.
use Rattle.std.proofs.Common.{◌≡◌, ◌<◌, ◌≤◌, ◌+◌, ℕ, Bool, true, false, List, [], ◌∷◌, ◌++◌, length, append_assoc, slice_index, Result, Ok, Err, is_ok, inl, inr, refl, sym, ◌∙◌, ap, subst, arith}
use Rattle.std.specs.Prelude.{◌⊎◌}
use Rattle.std.specs.List.{All, Contains}
use Rattle.std.proofs.lemmas.Bool.{false≢true}
use Rattle.std.proofs.lemmas.List.Elements.{All-head, All-tail}
use Rattle.chip_trait.specs.declared.event.Event.{Event}
use Rattle.chip_trait.specs.declared.event.Event.TheVariants.{Read, Program, Erase, Worn, Barrier, Said}
use Rattle.chip_trait.specs.Lawful.{Clean, age, IsLawful}
use Rattle.chip_trait.specs.Story.{Story}
use Rattle.chip_trait.specs.Told.{History, Told, Counts, adds_all}
use Rattle.ipl_base.specs.declared.limits.TheConstants.{SECTORS, FIRST_LOG_SECTOR}
use Rattle.ipl_base.specs.declared.fault.ChipFault.{ChipFault}
use Rattle.ipl_meaning.specs.Legible.{Legible}
use Rattle.ipl_meaning.specs.Layout.{Layout}
use Rattle.ipl_meaning.specs.Rests.{EachStands}
use Rattle.ipl_meaning.specs.Tables.{counted_written, Places, IsFree, Tables, IsCountedClean}
use Rattle.unit_directory.specs.Laws.{AreAside}
use Rattle.unit_directory.proofs.AsideLemmas.{next_places_are_aside}
use Rattle.unit_io.specs.Costs.{AreAt, ProgramsAt, Spends, barriers, erases, is_erased}
use Rattle.unit_io.specs.Leads.{IsSteady}
use Rattle.unit_io.specs.ReadsAt.{IsReadAt, ReadsAt}
use Rattle.unit_io.specs.Spots.{Programs}
use Rattle.unit_io.proofs.CostLemmas.{barriers_joined, erased_joined, spends_then, spends_weaker}
use Rattle.unit_io.proofs.SpotLemmas.{silent_both}
use Rattle.unit_io.specs.Steps.{Settled, Outcome, TidyWork, RestsAgreeing}
use Rattle.unit_io.proofs.StepLemmas.{failures_settle, outcome_then, outcome_weaker}
use Rattle.place_taking.specs.Counts.{KeepsCounts}
use Rattle.place_taking.specs.Fills.{AreOf, FillsAt}
use Rattle.place_taking.specs.Spending.{RetiringCosts, ErasesFree, ErasesFor, WritesFree, tells_worn}
use Rattle.place_taking.specs.Takes.{ClearsNext, ErasesNext, IsAsideFrom, IsTakenFrom, TakesPlace, with_places}
use Rattle.place_taking.proofs.CountedLemmas.{counted_none, counted_then}
use Rattle.place_taking.proofs.SpendingLemmas.{or_right, retires_still, tries_still}
use Rattle.place_taking.proofs.TurnLemmas.{counted_elsewhere}

-- ---- the directory

-- what is so of the places that were set aside
pub aside_facts : (d after : Places) → (is : IsAsideFrom d after) → AreAside d is.worn
aside_facts d after is = next_places_are_aside d is.worn is.in_turn

-- the place that was taken was free
pub taken_was_free : (d after : Places) (p : ℕ) → IsTakenFrom d p after → IsFree d p
taken_was_free d after p taken =
    (((next_places_are_aside d taken.worn taken.in_turn).free p).0 taken.next.free).0

-- and one of the chip's
pub taken_within : (d after : Places) (p : ℕ) → IsTakenFrom d p after → p < length d.in_use
taken_within d after p taken =
    omega (arith, taken.next.within, (next_places_are_aside d taken.worn taken.in_turn).all)

-- ---- what it costs: the place is taken, and then programmed

of_joined : (place : ℕ) (later earlier : Story) → AreOf place later → AreOf place earlier
    → AreOf place (later ++ earlier)
of_joined place [] earlier one other = other
of_joined place (Read p s ∷ later) earlier one other = of_joined place later earlier one other
of_joined place (Program p s bytes ∷ later) earlier one other =
    (one.0, of_joined place later earlier one.1 other)
of_joined place (Erase p ∷ later) earlier one other = absurd one
of_joined place (Barrier ∷ later) earlier one other = of_joined place later earlier one other
of_joined place (Worn q ∷ later) earlier one other = absurd one
of_joined place (Said piece ∷ later) earlier one other = of_joined place later earlier one other

of_kind : (place kind : ℕ) (added : Story) → AreAt place kind added → AreOf place added
of_kind place kind [] are = tt
of_kind place kind (Read p s ∷ older) are = of_kind place kind older are
of_kind place kind (Program p s bytes ∷ older) are = (are.0, of_kind place kind older are.2)
of_kind place kind (Erase p ∷ older) are = absurd are
of_kind place kind (Barrier ∷ older) are = of_kind place kind older are
of_kind place kind (Worn q ∷ older) are = absurd are
of_kind place kind (Said piece ∷ older) are = of_kind place kind older are

fills_reads : (At : ℕ → ℕ → Type 0) (place : ℕ) (added : Story) → All (IsReadAt At) added
    → FillsAt place 0 added
fills_reads At place [] reads = record { only = tt; barred = omega arith }
fills_reads At place (e ∷ older) reads =
    by_event e (All-head (IsReadAt At) e older reads)
    (fills_reads At place older (All-tail (IsReadAt At) e older reads))
  where
    by_event : (e : Event) → IsReadAt At e → FillsAt place 0 older → FillsAt place 0 (e ∷ older)
    by_event (Read p s) is rest = record { only = rest.only; barred = rest.barred }
    by_event (Program p s bytes) is rest = absurd is
    by_event (Erase p) is rest = absurd is
    by_event Barrier is rest = absurd is
    by_event (Worn q) is rest = absurd is
    by_event (Said piece) is rest = absurd is

-- programs of one kind are programs of the place
pub fills_programs : (place n b kind : ℕ) (old new : Told) → Spends (ProgramsAt place n b kind) old new
    → Spends (FillsAt place b) old new
fills_programs place n b kind old new =
    spends_weaker (ProgramsAt place n b kind) (FillsAt place b) old new
    (λ added are. record { only = of_kind place kind added are.only; barred = are.barred })

pub fills_read : (At : ℕ → ℕ → Type 0) (place : ℕ) (old new : Told) → ReadsAt At old new
    → Spends (FillsAt place 0) old new
fills_read At place old new did =
    record { added = did.added; does = fills_reads At place did.added did.each; history = did.history }

pub fills_at_most : (place a b : ℕ) (old new : Told) → a ≤ b → Spends (FillsAt place a) old new
    → Spends (FillsAt place b) old new
fills_at_most place a b old new more =
    spends_weaker (FillsAt place a) (FillsAt place b) old new
    (λ added are. record { only = are.only; barred = omega (arith, are.barred, more) })

pub fills_then : (place a b : ℕ) (old mid new : Told) → Spends (FillsAt place a) old mid
    → Spends (FillsAt place b) mid new → Spends (FillsAt place (a + b)) old new
fills_then place a b old mid new =
    spends_then (FillsAt place a) (FillsAt place b) (FillsAt place (a + b)) old mid new
    (λ later earlier first second. record {
      only = of_joined place later earlier second.only first.only;
      barred = omega (arith, barriers_joined later earlier, first.barred, second.barred);
    })

-- a place that is programmed is no place that is erased
of_erases : (place : ℕ) (added : Story) → AreOf place added → erases added ≡ 0
of_erases place [] are = refl
of_erases place (Read p s ∷ older) are = of_erases place older are
of_erases place (Program p s bytes ∷ older) are = of_erases place older are.1
of_erases place (Erase p ∷ older) are = absurd are
of_erases place (Barrier ∷ older) are = of_erases place older are
of_erases place (Worn q ∷ older) are = absurd are
of_erases place (Said piece ∷ older) are = of_erases place older are

-- what is programmed at an erased place costs barriers alone
filled_costs : (d then : Places) (place a : ℕ) (later earlier : Story)
    → RetiringCosts d then 1 0 a [] earlier → is_erased earlier place ≡ true → AreOf place later
    → RetiringCosts d then 1 0 (a + barriers later) [] (later ++ earlier)
filled_costs d then place a [] earlier costs there are = record {
  erased = costs.erased;
  programmed = costs.programmed;
  barred = omega (arith, costs.barred);
  only = costs.only;
}
filled_costs d then place a (Read p s ∷ later) earlier costs there are =
    let rest = filled_costs d then place a later earlier costs there are in record {
      erased = rest.erased;
      programmed = rest.programmed;
      barred = rest.barred;
      only = rest.only;
    }
filled_costs d then place a (Program p s bytes ∷ later) earlier costs there are =
    let rest = filled_costs d then place a later earlier costs there are.1 in
    let erased : is_erased (later ++ earlier) p ≡ true =
    ap (is_erased (later ++ earlier)) are.0 ∙ erased_joined later earlier place
    ∙ or_right (is_erased later place) (is_erased earlier place) there in record {
      erased = rest.erased;
      programmed = rw erased rest.programmed;
      barred = rest.barred;
      only = (λ outside. absurd (false≢true (sym outside ∙ erased)), rest.only);
    }
filled_costs d then place a (Erase p ∷ later) earlier costs there are = absurd are
filled_costs d then place a (Barrier ∷ later) earlier costs there are =
    let rest = filled_costs d then place a later earlier costs there are in record {
      erased = rest.erased;
      programmed = rest.programmed;
      barred = omega (arith, rest.barred);
      only = rest.only;
    }
filled_costs d then place a (Worn q ∷ later) earlier costs there are = absurd are
filled_costs d then place a (Said piece ∷ later) earlier costs there are =
    let rest = filled_costs d then place a later earlier costs there are in record {
      erased = rest.erased;
      programmed = rest.programmed;
      barred = rest.barred;
      only = rest.only;
    }

-- the costs of a call that takes the place and then fills it, whether all was done or not; nothing is
-- retired as it is filled, and no count changes
pub costs_of_filled : (d after then : Places) (place b : ℕ) (done worn_out : Bool)
    (old mid new : Told) → then.retired ≡ after.retired → KeepsCounts after then → worn_out ≡ false
    → Spends (ErasesNext d (Ok place) after) old mid → Spends (FillsAt place b) mid new
    → Spends (ErasesFor d then (1 + b) place done worn_out) old new
costs_of_filled d after then place b done worn_out old mid new same counts still =
    spends_then (ErasesNext d (Ok place) after) (FillsAt place b)
    (ErasesFor d then (1 + b) place done worn_out) old mid new (λ later earlier first second.
    let costs = filled_costs d after place 1 later earlier first.erases.costs first.erased second.only in
    let none : erases later ≤ 0 = omega (arith, of_erases place later second.only) in record {
      erases = record {
        costs = record {
          erased = omega (arith, costs.erased, ap (λ (l : List ℕ). length l) same);
          programmed = costs.programmed;
          barred = omega (arith, costs.barred, second.barred);
          only = costs.only;
        };
        tries = tries_still d after then later earlier none same first.erases.tries;
        retires = retires_still d after then worn_out later earlier none same still
            first.erases.retires;
        counted = counted_then later earlier d after then first.erases.counted
            (counted_none later after then none counts);
      };
      erased = λ is. erased_joined later earlier place
          ∙ or_right (is_erased later place) (is_erased earlier place) first.erased;
    })

-- and of one that couldn't take it
pub costs_of_untaken : (d after : Places) (b : ℕ) (e : ChipFault) (old new : Told) → 1 ≤ b
    → Spends (ErasesNext d (Err e) after) old new
    → Spends (ErasesFree d after b (tells_worn e)) old new
costs_of_untaken d after b e old new more =
    spends_weaker (ErasesNext d (Err e) after) (ErasesFree d after b (tells_worn e)) old new
    (λ added does. record {
      costs = record {
        erased = does.erases.costs.erased;
        programmed = does.erases.costs.programmed;
        barred = omega (arith, does.erases.costs.barred, more);
        only = does.erases.costs.only;
      };
      tries = does.erases.tries;
      retires = does.erases.retires;
      counted = does.erases.counted;
    })

-- ---- which sectors: the place is taken, and then programmed below a sector

-- they are those of free places
pub writes_taken : (d : Places) (p from : ℕ) (Spot : ℕ → Type 0) (then done : Bool)
    (later earlier : Story) → IsFree d p → ((s : ℕ) → from ≤ s → Spot s → ⊥)
    → ClearsNext d (Ok p) earlier → Programs p Spot then later
    → WritesFree d p from done (later ++ earlier)
writes_taken d p from Spot then done later earlier free below first second = record {
  spares = record {
    silent = silent_both later earlier second.silent first.spares.silent;
    lawful = λ base lawful. subst IsLawful (sym (append_assoc later earlier base))
        (second.lawful (earlier ++ base) (first.spares.lawful base lawful)
        (λ s is. first.fresh base s (omega arith)));
    others = λ base q s used clean.
        subst (λ (story : Story). age story q s ≡ Clean) (sym (append_assoc later earlier base))
        (second.others (earlier ++ base) q s (λ same spot. used (subst (IsFree d) (sym same) free))
        (first.spares.others base q s used clean));
  };
  fresh = λ is base s high.
      subst (λ (story : Story). age story p s ≡ Clean) (sym (append_assoc later earlier base))
      (second.others (earlier ++ base) p s (λ same spot. below s high spot)
      (first.fresh base s (omega arith)));
}

-- of chips, whatever they tell
pub tidy_taken : (d : Places) (p from : ℕ) (Spot : ℕ → Type 0) (then done : Bool) (old mid new : Told)
    → IsFree d p → ((s : ℕ) → from ≤ s → Spot s → ⊥)
    → Spends (ClearsNext d (Ok p)) old mid → Spends (Programs p Spot then) mid new
    → Spends (WritesFree d p from done) old new
tidy_taken d p from Spot then done old mid new free below =
    spends_then (ClearsNext d (Ok p)) (Programs p Spot then) (WritesFree d p from done) old mid new
    (λ later earlier. writes_taken d p from Spot then done later earlier free below)

pub writes_untaken : (d : Places) (p from : ℕ) (e : ChipFault) (added : Story)
    → ClearsNext d (Err e) added → WritesFree d p from false added
writes_untaken d p from e added did =
    record { spares = did.spares; fresh = λ is. absurd (false≢true is) }

pub tidy_untaken : (d : Places) (p from : ℕ) (e : ChipFault) (old new : Told)
    → Spends (ClearsNext d (Err e)) old new → Spends (WritesFree d p from false) old new
tidy_untaken d p from e old new =
    spends_weaker (ClearsNext d (Err e)) (WritesFree d p from false) old new
    (λ added. writes_untaken d p from e added)

-- a free place that was written anew: what counts as clean then was so before and stands at a place in
-- use, or stands there from that sector on, where all was done
pub tidy_writes : (before after : ℕ → ℕ → Type 0) (d : Places) (p from : ℕ) (done : Bool)
    (Settles : Type 0) (added : Story)
    → (Settles → (q s : ℕ) → after q s
    → (before q s × ¬ IsFree d q) ⊎ ((done ≡ true) × (q ≡ p) × (from ≤ s)))
    → WritesFree d p from done added → TidyWork before after Settles added
tidy_writes before after d p from done Settles added moved did = record {
  silent = did.spares.silent;
  lawful = record { lawful = λ base is clean. did.spares.lawful base is };
  clean = λ end base clean q s counted. elim (moved end q s counted) [
    | inl was ↦ did.spares.others base q s was.1 (clean q s was.0)
    | inr here ↦ subst (λ (r : ℕ). age (added ++ base) r s ≡ Clean) (sym here.1)
        (did.fresh here.0 base s here.2)
  ];
}

-- ---- what counts as clean

-- it stands at a place in use
pub counted_used : (places : ℕ) (m : Legible) (it : Layout) (h : History) (t : Tables)
    → RestsAgreeing places m it t h → (q s : ℕ) → IsCountedClean t q s → ¬ IsFree t.places q
counted_used places m it h t here q s counted free =
    counted_elsewhere places m it h t q here free q s counted refl

-- by what the directory says of the units
CountsClean : List ℕ → List ℕ → Tables → ℕ → ℕ → Type 0
CountsClean current written t p s =
    (s < SECTORS)
    × (((u : ℕ) × (u < length current) × (p ≡ slice_index current u)
    × (FIRST_LOG_SECTOR + counted_written (slice_index written u) ≤ s))
    ⊎ ((first : ℕ) × Contains t.overflow.in_use (p, first) × (first ≤ s))
    ⊎ ((p ≡ t.status.place) × (t.status.first ≤ s)))

-- so a directory that says the same of them counts the same
pub counted_alike : (t : Tables) (d : Places) → d.current ≡ t.places.current
    → d.written ≡ t.places.written → (q s : ℕ) → IsCountedClean (with_places t d) q s
    → IsCountedClean t q s
unfolding CountsClean
counted_alike t d current written q s counted =
    subst (λ (l : List ℕ). CountsClean l t.places.written t q s) current
    (subst (λ (l : List ℕ). CountsClean d.current l t q s) written counted)

-- ---- what a power cut leaves

-- the place was taken, and then a call programmed it, however that ended
pub taken_then : (T E : Type 0) (Each Then Ends : History → Type 0) (d : Places) (p from : ℕ)
    (Spot : ℕ → Type 0) (t after : Tables) (h : History) (result : Result T E) (old mid new : Told)
    → IsFree d p → ((s : ℕ) → from ≤ s → Spot s → ⊥) → Counts old mid
    → (first : Outcome Each (ClearsNext d (Ok p)) (Unit {0}) Then h old mid)
    → Outcome Each (Programs p Spot (is_ok result)) (Settled result mid new) Ends
    (adds_all first.added h) mid new
    → (Settled result old new → (q s : ℕ) → IsCountedClean after q s
    → (IsCountedClean t q s × ¬ IsFree d q) ⊎ ((is_ok result ≡ true) × (q ≡ p) × (from ≤ s)))
    → Outcome Each (TidyWork (IsCountedClean t) (IsCountedClean after) (Settled result old new))
    (Settled result old new) Ends h old new
taken_then T E Each Then Ends d p from Spot t after h result old mid new free below counts first
    second moved =
    let both = outcome_then Each (ClearsNext d (Ok p)) (Programs p Spot (is_ok result))
    (WritesFree d p from (is_ok result)) (Unit {0}) (Settled result mid new) Then Ends h old mid new
    first tt second
    (λ a b one two. writes_taken d p from Spot (is_ok result) (is_ok result) b a free below one two)
    in
    outcome_weaker Each Each (WritesFree d p from (is_ok result))
    (TidyWork (IsCountedClean t) (IsCountedClean after) (Settled result old new))
    (Settled result mid new) (Settled result old new) Ends Ends h old new (λ k is. is)
    (λ a did. tidy_writes (IsCountedClean t) (IsCountedClean after) d p from (is_ok result)
    (Settled result old new) a moved did)
    (settled_later result) (λ _ k is. is) both
  where
    settled_later : (r : Result T E) → Settled r old new → Settled r mid new
    settled_later (Ok v) settled = tt
    settled_later (Err e) unrisen = failures_settle (Unit {0}) (Unit {0}) E E e e old mid new counts
        unrisen

-- it couldn't be taken: the tables are as they were, but for the directory
pub untaken : (T F : Type 0) (d after : Places) (m : Legible) (it : Layout) (t : Tables) (h : History)
    (e : ChipFault) (f : F) (old new : Told) → IsSteady h old → t.places ≡ d
    → RestsAgreeing old.places m it t h → IsAsideFrom d after → TakesPlace d old (Err e) after new
    → Outcome (EachStands old.places m) (TidyWork (IsCountedClean t)
    (IsCountedClean (with_places t after)) (Settled {T = T} {E = F} (Err f) old new))
    (Settled {T = T} {E = F} (Err f) old new) (RestsAgreeing old.places m it (with_places t after)) h
    old new
untaken T F d after m it t h e f old new steady is here aside takes =
    let facts = aside_facts d after aside in
    let current : after.current ≡ t.places.current =
    ap (λ (b : Places). b.current) aside.places_is ∙ facts.current
    ∙ ap (λ (b : Places). b.current) (sym is) in
    let written : after.written ≡ t.places.written =
    ap (λ (b : Places). b.written) aside.places_is ∙ facts.written
    ∙ ap (λ (b : Places). b.written) (sym is) in
    outcome_weaker (EachStands old.places m) (EachStands old.places m) (ClearsNext d (Err e))
    (TidyWork (IsCountedClean t) (IsCountedClean (with_places t after))
    (Settled {T = ℕ} (Err e) old new))
    (Settled {T = ℕ} (Err e) old new) (Settled {T = ℕ} (Err e) old new)
    (RestsAgreeing old.places m it (with_places t after))
    (RestsAgreeing old.places m it (with_places t after)) h old new (λ k is. is)
    (λ a cleared. tidy_writes (IsCountedClean t) (IsCountedClean (with_places t after)) d 0 0 false
    (Settled {T = ℕ} (Err e) old new) a
    (λ _ q s counted. let was = counted_alike t after current written q s counted in
    inl (
      was,
      subst (λ (b : Places). ¬ IsFree b q) is
          (counted_used old.places m it h t here q s was),
    ))
    (writes_untaken d 0 0 e a cleared))
    (λ is. is) (λ _ k is. is) (takes m it t h steady is here)
