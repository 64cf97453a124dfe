-- What calls cost, one after another.
use Rattle.std.proofs.Common.{◌≡◌, ◌≤◌, ◌+◌, ℕ, Bool, true, false, not, List, [], ◌∷◌, ◌++◌, ◌||◌, Option, Some, None, Result, Ok, Err, inl, inr, refl, sym, ◌∙◌, ap, arith}
use Rattle.std.specs.Prelude.{◌==◌, ◌⊎◌, Contains, is_ok}
use Rattle.std.specs.Option.{option_map}
use Rattle.std.specs.List.{All}
use Rattle.std.proofs.lemmas.Bool.{cases_Bool, eqb-true, eq-eqb, false≢true}
use Rattle.std.proofs.lemmas.List.Elements.{All-head, All-tail}
use Rattle.chip_trait.specs.declared.event.Event.{Event}
use Rattle.chip_trait.specs.declared.event.Event.TheVariants.{Read, Program, Erase, Worn, Barrier, Said}
use Rattle.chip_trait.specs.Story.{Story}
use Rattle.chip_trait.specs.Told.{History, Told, adds, adds_all}
use Rattle.ipl_base.specs.declared.fault.ChipFault.{ChipFault}
use Rattle.ipl_format.specs.Sector.{Sector, sector_in}
use Rattle.unit_io.specs.Leads.{Did, Waited}
use Rattle.unit_io.specs.ReadsAt.{IsReadAt, ReadsAt}
use Rattle.unit_io.specs.Costs.{erases, barriers, programs, is_erased, is_tried, programs_outside, OutsideAre, AreAt, Costs, ProgramsAt, ErasesOnce, Spends}
use Rattle.unit_io.proofs.ReadsAtLemmas.{none_added, history_then}

-- ---- counts of events, joined

pub erases_joined : (later earlier : Story) → erases (later ++ earlier) ≡ erases later + erases earlier
erases_joined [] earlier = omega arith
erases_joined (Read p s ∷ later) earlier = erases_joined later earlier
erases_joined (Program p s bytes ∷ later) earlier = erases_joined later earlier
erases_joined (Erase p ∷ later) earlier = let e = erases_joined later earlier in omega (arith, e)
erases_joined (Barrier ∷ later) earlier = erases_joined later earlier
erases_joined (Worn q ∷ later) earlier = let e = erases_joined later earlier in omega (arith, e)
erases_joined (Said piece ∷ later) earlier = erases_joined later earlier

pub barriers_joined : (later earlier : Story) → barriers (later ++ earlier) ≡ barriers later + barriers earlier
barriers_joined [] earlier = omega arith
barriers_joined (Read p s ∷ later) earlier = barriers_joined later earlier
barriers_joined (Program p s bytes ∷ later) earlier = barriers_joined later earlier
barriers_joined (Erase p ∷ later) earlier = barriers_joined later earlier
barriers_joined (Barrier ∷ later) earlier = let e = barriers_joined later earlier in omega (arith, e)
barriers_joined (Worn q ∷ later) earlier = barriers_joined later earlier
barriers_joined (Said piece ∷ later) earlier = barriers_joined later earlier

pub programs_joined : (later earlier : Story) → programs (later ++ earlier) ≡ programs later + programs earlier
programs_joined [] earlier = omega arith
programs_joined (Read p s ∷ later) earlier = programs_joined later earlier
programs_joined (Program p s bytes ∷ later) earlier = let e = programs_joined later earlier in omega (arith, e)
programs_joined (Erase p ∷ later) earlier = programs_joined later earlier
programs_joined (Barrier ∷ later) earlier = programs_joined later earlier
programs_joined (Worn q ∷ later) earlier = programs_joined later earlier
programs_joined (Said piece ∷ later) earlier = programs_joined later earlier

or_assoc : (a b c : Bool) → (a || (b || c)) ≡ ((a || b) || c)
or_assoc true b c = refl
or_assoc false b c = refl

pub erased_joined : (later earlier : Story) (p : ℕ)
    → is_erased (later ++ earlier) p ≡ (is_erased later p || is_erased earlier p)
erased_joined [] earlier p = refl
erased_joined (Read q s ∷ later) earlier p = erased_joined later earlier p
erased_joined (Program q s bytes ∷ later) earlier p = erased_joined later earlier p
erased_joined (Erase q ∷ later) earlier p =
    ap (λ (b : Bool). (q == p) || b) (erased_joined later earlier p) ∙ or_assoc (q == p) (is_erased later p) (is_erased earlier p)
erased_joined (Barrier ∷ later) earlier p = erased_joined later earlier p
erased_joined (Worn q ∷ later) earlier p = erased_joined later earlier p
erased_joined (Said piece ∷ later) earlier p = erased_joined later earlier p

pub tried_joined : (later earlier : Story) (p : ℕ)
    → is_tried (later ++ earlier) p ≡ (is_tried later p || is_tried earlier p)
tried_joined [] earlier p = refl
tried_joined (Read q s ∷ later) earlier p = tried_joined later earlier p
tried_joined (Program q s bytes ∷ later) earlier p = tried_joined later earlier p
tried_joined (Erase q ∷ later) earlier p =
    ap (λ (b : Bool). (q == p) || b) (tried_joined later earlier p) ∙ or_assoc (q == p) (is_tried later p) (is_tried earlier p)
tried_joined (Worn q ∷ later) earlier p =
    ap (λ (b : Bool). (q == p) || b) (tried_joined later earlier p) ∙ or_assoc (q == p) (is_tried later p) (is_tried earlier p)
tried_joined (Barrier ∷ later) earlier p = tried_joined later earlier p
tried_joined (Said piece ∷ later) earlier p = tried_joined later earlier p

-- a place that is erased in neither part isn't in both
parts_of_or : (a b : Bool) → (a || b) ≡ false → (a ≡ false) × (b ≡ false)
parts_of_or true b e = absurd (false≢true (sym e))
parts_of_or false b e = (refl, e)

or_right : (a b : Bool) → b ≡ true → (a || b) ≡ true
or_right true b e = refl
or_right false b e = e

or_either : (a b : Bool) → (a || b) ≡ true → (a ≡ true) ⊎ (b ≡ true)
or_either true b e = inl refl
or_either false b e = inr e

pub outside_joined : (later earlier : Story)
    → programs_outside (later ++ earlier) ≤ programs_outside later + programs_outside earlier
outside_joined [] earlier = omega arith
outside_joined (Read p s ∷ later) earlier = outside_joined later earlier
outside_joined (Program p s bytes ∷ later) earlier =
    by_erased (is_erased later p) (is_erased (later ++ earlier) p) refl refl (outside_joined later earlier)
  where
    by_erased : (a b : Bool) → is_erased later p ≡ a → is_erased (later ++ earlier) p ≡ b
        → programs_outside (later ++ earlier) ≤ programs_outside later + programs_outside earlier
        → programs_outside (Program p s bytes ∷ (later ++ earlier)) ≤ programs_outside (Program p s bytes ∷ later) + programs_outside earlier
    by_erased a true here whole rest = elim (cases_Bool (is_erased later p)) [
      | inl is ↦ rw (whole, is) rest
      | inr not ↦ rw (whole, not) (omega (arith, rest))
    ]
    by_erased a false here whole rest =
        let apart = (parts_of_or (is_erased later p) (is_erased earlier p) (sym (erased_joined later earlier p) ∙ whole)).0 in
        rw (whole, apart) (omega (arith, rest))
outside_joined (Erase p ∷ later) earlier = outside_joined later earlier
outside_joined (Barrier ∷ later) earlier = outside_joined later earlier
outside_joined (Worn q ∷ later) earlier = outside_joined later earlier
outside_joined (Said piece ∷ later) earlier = outside_joined later earlier

pub kinds_joined : (kinds : List ℕ) (later earlier : Story) → OutsideAre kinds later → OutsideAre kinds earlier
    → OutsideAre kinds (later ++ earlier)
kinds_joined kinds [] earlier one other = other
kinds_joined kinds (Read p s ∷ later) earlier one other = kinds_joined kinds later earlier one other
kinds_joined kinds (Program p s bytes ∷ later) earlier one other = (
  λ outside. one.0 (parts_of_or (is_erased later p) (is_erased earlier p) (sym (erased_joined later earlier p) ∙ outside)).0,
  kinds_joined kinds later earlier one.1 other,
)
kinds_joined kinds (Erase p ∷ later) earlier one other = kinds_joined kinds later earlier one other
kinds_joined kinds (Barrier ∷ later) earlier one other = kinds_joined kinds later earlier one other
kinds_joined kinds (Worn q ∷ later) earlier one other = kinds_joined kinds later earlier one other
kinds_joined kinds (Said piece ∷ later) earlier one other = kinds_joined kinds later earlier one other

kinds_wider : (few more : List ℕ) → ((kind : ℕ) → Contains few kind → Contains more kind) → (added : Story)
    → OutsideAre few added → OutsideAre more added
kinds_wider few more wider [] are = are
kinds_wider few more wider (Read p s ∷ older) are = kinds_wider few more wider older are
kinds_wider few more wider (Program p s bytes ∷ older) are =
    (λ outside. let (sector, says, kind) = are.0 outside in (sector, says, wider sector.kind kind), kinds_wider few more wider older are.1)
kinds_wider few more wider (Erase p ∷ older) are = kinds_wider few more wider older are
kinds_wider few more wider (Barrier ∷ older) are = kinds_wider few more wider older are
kinds_wider few more wider (Worn q ∷ older) are = kinds_wider few more wider older are
kinds_wider few more wider (Said piece ∷ older) are = kinds_wider few more wider older are

-- ---- programs of one place

at_joined : (place kind : ℕ) (later earlier : Story) → AreAt place kind later → AreAt place kind earlier → AreAt place kind (later ++ earlier)
at_joined place kind [] earlier one other = other
at_joined place kind (Read p s ∷ later) earlier one other = at_joined place kind later earlier one other
at_joined place kind (Program p s bytes ∷ later) earlier one other = (one.0, one.1, at_joined place kind later earlier one.2 other)
at_joined place kind (Erase p ∷ later) earlier one other = absurd one
at_joined place kind (Barrier ∷ later) earlier one other = at_joined place kind later earlier one other
at_joined place kind (Worn q ∷ later) earlier one other = absurd one
at_joined place kind (Said piece ∷ later) earlier one other = at_joined place kind later earlier one other

-- nothing is erased, and each program counts
at_erases : (place kind : ℕ) (added : Story) → AreAt place kind added → erases added ≡ 0
at_erases place kind [] are = refl
at_erases place kind (Read p s ∷ older) are = at_erases place kind older are
at_erases place kind (Program p s bytes ∷ older) are = at_erases place kind older are.2
at_erases place kind (Erase p ∷ older) are = absurd are
at_erases place kind (Barrier ∷ older) are = at_erases place kind older are
at_erases place kind (Worn q ∷ older) are = absurd are
at_erases place kind (Said piece ∷ older) are = at_erases place kind older are

at_erased : (place kind p : ℕ) (added : Story) → AreAt place kind added → is_erased added p ≡ false
at_erased place kind p [] are = refl
at_erased place kind p (Read q s ∷ older) are = at_erased place kind p older are
at_erased place kind p (Program q s bytes ∷ older) are = at_erased place kind p older are.2
at_erased place kind p (Erase q ∷ older) are = absurd are
at_erased place kind p (Barrier ∷ older) are = at_erased place kind p older are
at_erased place kind p (Worn q ∷ older) are = absurd are
at_erased place kind p (Said piece ∷ older) are = at_erased place kind p older are

pub at_tried : (place kind p : ℕ) (added : Story) → AreAt place kind added → is_tried added p ≡ false
at_tried place kind p [] are = refl
at_tried place kind p (Read q s ∷ older) are = at_tried place kind p older are
at_tried place kind p (Program q s bytes ∷ older) are = at_tried place kind p older are.2
at_tried place kind p (Erase q ∷ older) are = absurd are
at_tried place kind p (Worn q ∷ older) are = absurd are
at_tried place kind p (Barrier ∷ older) are = at_tried place kind p older are
at_tried place kind p (Said piece ∷ older) are = at_tried place kind p older are

at_outside : (place kind : ℕ) (added : Story) → AreAt place kind added → programs_outside added ≤ programs added
at_outside place kind [] are = omega arith
at_outside place kind (Read p s ∷ older) are = at_outside place kind older are
at_outside place kind (Program p s bytes ∷ older) are =
    let rest = at_outside place kind older are.2 in rw (at_erased place kind p older are.2) (omega (arith, rest))
at_outside place kind (Erase p ∷ older) are = absurd are
at_outside place kind (Barrier ∷ older) are = at_outside place kind older are
at_outside place kind (Worn q ∷ older) are = absurd are
at_outside place kind (Said piece ∷ older) are = at_outside place kind older are

at_kinds : (place kind : ℕ) (added : Story) → AreAt place kind added → OutsideAre (kind ∷ []) added
at_kinds place kind [] are = tt
at_kinds place kind (Read p s ∷ older) are = at_kinds place kind older are
at_kinds place kind (Program p s bytes ∷ older) are = (λ outside. are.1, at_kinds place kind older are.2)
at_kinds place kind (Erase p ∷ older) are = absurd are
at_kinds place kind (Barrier ∷ older) are = at_kinds place kind older are
at_kinds place kind (Worn q ∷ older) are = absurd are
at_kinds place kind (Said piece ∷ older) are = at_kinds place kind older are

-- programs of a place that was erased before don't count
free_outside : (place kind : ℕ) (later earlier : Story) → AreAt place kind later → is_erased earlier place ≡ true
    → programs_outside (later ++ earlier) ≡ programs_outside earlier
free_outside place kind [] earlier are erased = refl
free_outside place kind (Read p s ∷ later) earlier are erased = free_outside place kind later earlier are erased
free_outside place kind (Program p s bytes ∷ later) earlier are erased =
    rw (still_erased later earlier p (ap (is_erased earlier) are.0 ∙ erased)) (free_outside place kind later earlier are.2 erased)
  where
    still_erased : (later earlier : Story) (p : ℕ) → is_erased earlier p ≡ true → is_erased (later ++ earlier) p ≡ true
    still_erased later earlier p is = erased_joined later earlier p ∙ or_right (is_erased later p) (is_erased earlier p) is
free_outside place kind (Erase p ∷ later) earlier are erased = absurd are
free_outside place kind (Barrier ∷ later) earlier are erased = free_outside place kind later earlier are erased
free_outside place kind (Worn q ∷ later) earlier are erased = absurd are
free_outside place kind (Said piece ∷ later) earlier are erased = free_outside place kind later earlier are erased

free_kinds : (place kind : ℕ) (kinds : List ℕ) (later earlier : Story) → AreAt place kind later → is_erased earlier place ≡ true
    → OutsideAre kinds earlier → OutsideAre kinds (later ++ earlier)
free_kinds place kind kinds [] earlier are erased other = other
free_kinds place kind kinds (Read p s ∷ later) earlier are erased other = free_kinds place kind kinds later earlier are erased other
free_kinds place kind kinds (Program p s bytes ∷ later) earlier are erased other = (
  λ outside. absurd (false≢true (sym (parts_of_or (is_erased later p) (is_erased earlier p) (sym (erased_joined later earlier p) ∙ outside)).1 ∙ ap (is_erased earlier) are.0 ∙ erased)),
  free_kinds place kind kinds later earlier are.2 erased other,
)
free_kinds place kind kinds (Erase p ∷ later) earlier are erased other = absurd are
free_kinds place kind kinds (Barrier ∷ later) earlier are erased other = free_kinds place kind kinds later earlier are erased other
free_kinds place kind kinds (Worn q ∷ later) earlier are erased other = absurd are
free_kinds place kind kinds (Said piece ∷ later) earlier are erased other = free_kinds place kind kinds later earlier are erased other

pub programs_at_then : (place n m a b kind : ℕ) (later earlier : Story) → ProgramsAt place n a kind earlier → ProgramsAt place m b kind later
    → ProgramsAt place (n + m) (a + b) kind (later ++ earlier)
programs_at_then place n m a b kind later earlier first second = record {
  only = at_joined place kind later earlier second.only first.only;
  programmed = let e = programs_joined later earlier in let one = first.programmed in let two = second.programmed in omega (arith, e, one, two);
  barred = let e = barriers_joined later earlier in let one = first.barred in let two = second.barred in omega (arith, e, one, two);
}

pub programs_at_most : (place n m a b kind : ℕ) (added : Story) → n ≤ m → a ≤ b → ProgramsAt place n a kind added → ProgramsAt place m b kind added
programs_at_most place n m a b kind added more longer are = record {
  only = are.only;
  programmed = let is = are.programmed in omega (arith, is, more);
  barred = let is = are.barred in omega (arith, is, longer);
}

pub programs_at_cost : (place n b kind : ℕ) (added : Story) → ProgramsAt place n b kind added → Costs 0 n b (kind ∷ []) added
programs_at_cost place n b kind added are = record {
  erased = let e = at_erases place kind added are.only in omega (arith, e);
  programmed = let outside = at_outside place kind added are.only in let most = are.programmed in omega (arith, outside, most);
  barred = are.barred;
  only = at_kinds place kind added are.only;
}

-- ---- what calls cost

pub costs_then : (e f n m a b : ℕ) (kinds : List ℕ) (later earlier : Story) → Costs e n a kinds earlier → Costs f m b kinds later
    → Costs (e + f) (n + m) (a + b) kinds (later ++ earlier)
costs_then e f n m a b kinds later earlier first second = record {
  erased = let is = erases_joined later earlier in let one = first.erased in let two = second.erased in omega (arith, is, one, two);
  programmed = let is = outside_joined later earlier in let one = first.programmed in let two = second.programmed in omega (arith, is, one, two);
  barred = let is = barriers_joined later earlier in let one = first.barred in let two = second.barred in omega (arith, is, one, two);
  only = kinds_joined kinds later earlier second.only first.only;
}

pub costs_at_most : (e f n m a b : ℕ) (few more : List ℕ) (added : Story) → e ≤ f → n ≤ m → a ≤ b
    → ((kind : ℕ) → Contains few kind → Contains more kind) → Costs e n a few added → Costs f m b more added
costs_at_most e f n m a b few more added more_erased more_programmed more_barred wider are = record {
  erased = let is = are.erased in omega (arith, is, more_erased);
  programmed = let is = are.programmed in omega (arith, is, more_programmed);
  barred = let is = are.barred in omega (arith, is, more_barred);
  only = kinds_wider few more wider added are.only;
}

pub costs_none : (kinds : List ℕ) → Costs 0 0 0 kinds []
costs_none kinds = record { erased = omega arith; programmed = omega arith; barred = omega arith; only = tt }

-- reads cost nothing
pub costs_reads : (At : ℕ → ℕ → Type 0) (kinds : List ℕ) (added : Story) → All (IsReadAt At) added → Costs 0 0 0 kinds added
costs_reads At kinds [] reads = costs_none kinds
costs_reads At kinds (e ∷ older) reads = by_event e (All-head (IsReadAt At) e older reads) (costs_reads At kinds older (All-tail (IsReadAt At) e older reads))
  where
    by_event : (e : Event) → IsReadAt At e → Costs 0 0 0 kinds older → Costs 0 0 0 kinds (e ∷ older)
    by_event (Read p s) is rest = record { erased = rest.erased; programmed = rest.programmed; barred = rest.barred; only = rest.only }
    by_event (Program p s bytes) is rest = absurd is
    by_event (Erase p) is rest = absurd is
    by_event Barrier is rest = absurd is
    by_event (Worn q) is rest = absurd is
    by_event (Said piece) is rest = absurd is

-- ---- a place that is erased once

pub once_then : (place n a b kind : ℕ) (done : Bool) (later earlier : Story) → ErasesOnce place a true earlier → ProgramsAt place n b kind later
    → ErasesOnce place (a + b) done (later ++ earlier)
once_then place n a b kind done later earlier first second = record {
  costs = record {
    erased = let is = erases_joined later earlier in let one = first.costs.erased in let two = at_erases place kind later second.only in omega (arith, is, one, two);
    programmed = let is = free_outside place kind later earlier second.only there in let one = first.costs.programmed in omega (arith, is, one);
    barred = let is = barriers_joined later earlier in let one = first.costs.barred in let two = second.barred in omega (arith, is, one, two);
    only = free_kinds place kind [] later earlier second.only there first.costs.only;
  };
  alone = λ p is. first.alone p (elim (or_either (is_tried later p) (is_tried earlier p) (sym (tried_joined later earlier p) ∙ is)) [
    | inl later_is ↦ absurd (false≢true (sym (at_tried place kind p later second.only) ∙ later_is))
    | inr earlier_is ↦ earlier_is
  ]);
  erased = λ done_is. erased_joined later earlier place ∙ or_right (is_erased later place) (is_erased earlier place) there;
}
  where
    there : is_erased earlier place ≡ true
    there = first.erased refl

pub once_at_most : (place a b : ℕ) (done : Bool) (added : Story) → a ≤ b → ErasesOnce place a done added → ErasesOnce place b done added
once_at_most place a b done added more are = record {
  costs = costs_at_most 1 1 0 0 a b [] [] added (omega arith) (omega arith) more (λ kind has. has) are.costs;
  alone = are.alone;
  erased = are.erased;
}

-- ---- of chips

pub spends_none : (P : Story → Type 0) (t : Told) → P [] → Spends P t t
spends_none P t none = record { added = []; does = none; history = none_added t.history }

pub spends_then : (P Q R : Story → Type 0) (old mid new : Told) → ((later earlier : Story) → P earlier → Q later → R (later ++ earlier))
    → Spends P old mid → Spends Q mid new → Spends R old new
spends_then P Q R old mid new joined first second = record {
  added = second.added ++ first.added;
  does = joined second.added first.added first.does second.does;
  history = second.history ∙ ap (option_map (adds_all second.added)) first.history ∙ history_then second.added first.added old.history;
}

pub spends_weaker : (P Q : Story → Type 0) (old new : Told) → ((added : Story) → P added → Q added) → Spends P old new → Spends Q old new
spends_weaker P Q old new weaker did = record { added = did.added; does = weaker did.added did.does; history = did.history }

pub spends_reads : (At : ℕ → ℕ → Type 0) (kinds : List ℕ) (old new : Told) → ReadsAt At old new → Spends (Costs 0 0 0 kinds) old new
spends_reads At kinds old new did = record { added = did.added; does = costs_reads At kinds did.added did.each; history = did.history }

pub one_added : (e : Event) (o : Option History) → option_map (adds e) o ≡ option_map (adds_all (e ∷ [])) o
one_added e None = refl
one_added e (Some h) = refl

-- a program or an erase, done or broken
pub spends_did : (P : Story → Type 0) (e : Event) (old new : Told) (result : Result (Unit {0}) ChipFault)
    → P (e ∷ []) → P [] → Did e result old new → Spends P old new
spends_did P e old new (Ok u) one none did = record { added = e ∷ []; does = one; history = did.history ∙ one_added e old.history }
spends_did P e old new (Err fault) one none did = elim did.history [
  | inl added ↦ record { added = e ∷ []; does = one; history = added ∙ one_added e old.history }
  | inr same ↦ record { added = []; does = none; history = same ∙ none_added old.history }
]

-- a barrier, passed or not
pub spends_waited : (P : Story → Type 0) (old new : Told) (result : Result (Unit {0}) ChipFault) → P (Barrier ∷ []) → P []
    → Waited result old new → Spends P old new
spends_waited P old new (Ok u) one none did = record { added = Barrier ∷ []; does = one; history = did.history ∙ one_added Barrier old.history }
spends_waited P old new (Err fault) one none did = record { added = []; does = none; history = did.history ∙ none_added old.history }

-- ---- one event

pub wait_at : (place kind : ℕ) → ProgramsAt place 0 1 kind (Barrier ∷ [])
wait_at place kind = record { only = tt; programmed = omega arith; barred = omega arith }

pub nothing_at : (place n b kind : ℕ) → ProgramsAt place n b kind []
nothing_at place n b kind = record { only = tt; programmed = omega arith; barred = omega arith }

pub program_at : (place s kind : ℕ) (bytes : List ℕ) (sector : Sector) → sector_in bytes ≡ Some sector → sector.kind ≡ kind
    → ProgramsAt place 1 0 kind (Program place s bytes ∷ [])
program_at place s kind bytes sector says is = record {
  only = (refl, (sector, says, (0, omega arith, sym is)), tt);
  programmed = omega arith;
  barred = omega arith;
}

pub once_erased : (place b : ℕ) (done : Bool) → ErasesOnce place b done (Erase place ∷ [])
once_erased place b done = record {
  costs = record { erased = omega arith; programmed = omega arith; barred = omega arith; only = tt };
  alone = λ p is. elim (or_either (place == p) false is) [
    | inl same ↦ sym (eqb-true place p same)
    | inr never ↦ absurd (false≢true never)
  ];
  erased = λ done_is. ap (λ (b : Bool). b || false) (eq-eqb place place refl);
}

pub once_nothing : (place b : ℕ) → ErasesOnce place b false []
once_nothing place b = record {
  costs = record { erased = omega arith; programmed = omega arith; barred = omega arith; only = tt };
  alone = λ p is. absurd (false≢true is);
  erased = λ is. absurd (false≢true is);
}

pub once_worn : (place b : ℕ) → ErasesOnce place b false (Worn place ∷ [])
once_worn place b = record {
  costs = record { erased = omega arith; programmed = omega arith; barred = omega arith; only = tt };
  alone = λ p is. elim (or_either (place == p) false is) [
    | inl same ↦ sym (eqb-true place p same)
    | inr never ↦ absurd (false≢true never)
  ];
  erased = λ is. absurd (false≢true is);
}

-- ---- the calls of this crate

pub one_piece_more : (place n : ℕ) (old mid new : Told) → Spends (ProgramsAt place n 0 4) old mid → Spends (ProgramsAt place 1 0 4) mid new
    → Spends (ProgramsAt place (n + 1) 0 4) old new
one_piece_more place n old mid new = spends_then (ProgramsAt place n 0 4) (ProgramsAt place 1 0 4) (ProgramsAt place (n + 1) 0 4) old mid new
    (λ later earlier. programs_at_then place n 1 0 0 4 later earlier)

pub spends_programmed : (place s : ℕ) (bytes : List ℕ) (sector : Sector) (old new : Told) (result : Result (Unit {0}) ChipFault)
    → sector_in bytes ≡ Some sector → Did (Program place s bytes) result old new → Spends (ProgramsAt place 1 0 sector.kind) old new
spends_programmed place s bytes sector old new result says did =
    spends_did (ProgramsAt place 1 0 sector.kind) (Program place s bytes) old new result
    (program_at place s sector.kind bytes sector says refl) (nothing_at place 1 0 sector.kind) did

pub spends_barred : (place kind : ℕ) (old new : Told) (result : Result (Unit {0}) ChipFault) → Waited result old new
    → Spends (ProgramsAt place 0 1 kind) old new
spends_barred place kind old new result did =
    spends_waited (ProgramsAt place 0 1 kind) old new result (wait_at place kind) (nothing_at place 0 1 kind) did

-- programs and barriers of one place, one call after another
pub spends_at_then : (place n m a b kind : ℕ) (old mid new : Told) → Spends (ProgramsAt place n a kind) old mid
    → Spends (ProgramsAt place m b kind) mid new → Spends (ProgramsAt place (n + m) (a + b) kind) old new
spends_at_then place n m a b kind old mid new =
    spends_then (ProgramsAt place n a kind) (ProgramsAt place m b kind) (ProgramsAt place (n + m) (a + b) kind) old mid new
    (λ later earlier. programs_at_then place n m a b kind later earlier)

pub spends_at_most : (place n m a b kind : ℕ) (old new : Told) → n ≤ m → a ≤ b → Spends (ProgramsAt place n a kind) old new
    → Spends (ProgramsAt place m b kind) old new
spends_at_most place n m a b kind old new more longer =
    spends_weaker (ProgramsAt place n a kind) (ProgramsAt place m b kind) old new
    (λ added. programs_at_most place n m a b kind added more longer)

-- a place that was erased, and then programs and barriers there
pub spends_once_then : (place n a b kind : ℕ) (done : Bool) (old mid new : Told) → Spends (ErasesOnce place a true) old mid
    → Spends (ProgramsAt place n b kind) mid new → Spends (ErasesOnce place (a + b) done) old new
spends_once_then place n a b kind done old mid new =
    spends_then (ErasesOnce place a true) (ProgramsAt place n b kind) (ErasesOnce place (a + b) done) old mid new
    (λ later earlier. once_then place n a b kind done later earlier)

pub spends_erased : (place : ℕ) (old new : Told) (result : Result (Unit {0}) ChipFault) → Did (Erase place) result old new
    → Spends (ErasesOnce place 0 (is_ok result)) old new
spends_erased place old new (Ok u) did = record {
  added = Erase place ∷ [];
  does = once_erased place 0 true;
  history = did.history ∙ one_added (Erase place) old.history;
}
spends_erased place old new (Err fault) did =
    spends_did (ErasesOnce place 0 false) (Erase place) old new (Err fault) (once_erased place 0 false) (once_nothing place 0) did

pub spends_once_at_most : (place a b : ℕ) (done : Bool) (old new : Told) → a ≤ b → Spends (ErasesOnce place a done) old new
    → Spends (ErasesOnce place b done) old new
spends_once_at_most place a b done old new more =
    spends_weaker (ErasesOnce place a done) (ErasesOnce place b done) old new (λ added. once_at_most place a b done added more)

pub spends_of_kind : (place n b kind other : ℕ) (old new : Told) → kind ≡ other → Spends (ProgramsAt place n b kind) old new
    → Spends (ProgramsAt place n b other) old new
spends_of_kind place n b kind other old new same did = rw (sym same) did

pub spends_wait : (old new : Told) (result : Result (Unit {0}) ChipFault) → Waited result old new → Spends (Costs 0 0 1 []) old new
spends_wait old new result did =
    spends_waited (Costs 0 0 1 []) old new result
    (record { erased = omega arith; programmed = omega arith; barred = omega arith; only = tt })
    (record { erased = omega arith; programmed = omega arith; barred = omega arith; only = tt }) did
