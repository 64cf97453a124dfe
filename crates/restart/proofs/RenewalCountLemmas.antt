-- How many places are free or retired, once the status has a new place.
use Rattle.std.proofs.Common.{◌≡◌, ◌<◌, ◌+◌, ℕ, true, false, length, inl, inr, sym, subst, arith}
use Rattle.std.proofs.lemmas.List.{length-set}
use Rattle.ipl_base.specs.declared.fault.ChipFault.{ChipFault}
use Rattle.ipl_meaning.specs.Tables.{Places, IsFree, with_use, with_erased}
use Rattle.place_taking.specs.Takes.{IsAsideFrom, IsTakenFrom}
use Rattle.unit_directory.specs.Free.{aside, free_count, IsReadyToTake}
use Rattle.unit_directory.specs.Laws.{UsesTake, DisusesGiveBack}
use Rattle.unit_directory.proofs.AsideLemmas.{next_places_are_aside, next_places_leave_ready}
use Rattle.restart.specs.Renewed.{IsGivenBack}

-- as many as before
abbrev pub AreAsMany : Places → Places → Type 0
AreAsMany before after = free_count after.in_use + length after.retired
    ≡ free_count before.in_use + length before.retired

-- some were found worn
aside_as_many : (d after : Places) → IsReadyToTake d → IsAsideFrom d after → AreAsMany d after
aside_as_many d after ready from =
    let left = next_places_leave_ready d from.worn ready from.in_turn in
    subst (AreAsMany d) (sym from.places_is) (omega (arith, left.fewer, left.more))

-- the place was given back
pub back_as_many : (d after : Places) (fault : ChipFault) → IsReadyToTake d → IsGivenBack d fault after
    → AreAsMany d after
back_as_many d after fault ready (inl from) = aside_as_many d after ready from
back_as_many d after fault ready (inr (stopped, (mid, p, from, next_free, erased))) =
    subst (AreAsMany d) (sym erased) (aside_as_many d mid ready from)

-- it is the status place, and the old one is free
pub moved_as_many : (takes : UsesTake) (gives_back : DisusesGiveBack) (d between after : Places)
    (p old : ℕ) → IsReadyToTake d → IsTakenFrom d p between → ¬ IsFree d old → old < length d.in_use
    → after ≡ with_use between old false → AreAsMany d after
moved_as_many takes gives_back d between after p old ready from used low is =
    let left = next_places_leave_ready d from.worn ready from.in_turn in
    let facts = next_places_are_aside d from.worn from.in_turn in
    let b : Places = aside d from.worn in
    let there : Places = with_erased (with_use b p true) p in
    let one = (takes b p).count from.next.free in
    let busy : ¬ IsFree there old =
    λ free. used ((facts.free old).0 (((takes b p).free old).0 free).0).0 in
    let two = (gives_back there old (omega (arith, low, length-set b.in_use p true, facts.all))).count
    busy in
    rw (is, from.places_is) (omega (arith, left.fewer, left.more, one, two))
