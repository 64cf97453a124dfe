-- What calls leave of the tables, one after another.
use Rattle.std.proofs.Common.{ℕ, List, ◌++◌, true, false, slice_index, Result, Ok, Err, inr, arith, refl, ◌∙◌, subst}
use Rattle.std.specs.Prelude.{IfErr}
use Rattle.chip_trait.specs.Told.{Told, Counts}
use Rattle.chip_trait.proofs.CountsLemmas.{counts_none, counts_then}
use Rattle.ipl_base.specs.declared.fault.ChipFault.{ChipFault}
use Rattle.ipl_base.specs.declared.fault.ChipFault.TheVariants.{ReadFault, Stopped, Damaged, Malformed, WornOut}
use Rattle.ipl_base.specs.declared.spot.Spot.{Spot}
use Rattle.ipl_meaning.specs.Tables.{Places, Tables}
use Rattle.overflow.specs.Lists.{spots_in}
use Rattle.unit_io.specs.Costs.{Spends}
use Rattle.unit_io.specs.ReadsAt.{IsCauseAt, ReadsAt}
use Rattle.unit_io.specs.Unread.{ReadsNothing}
use Rattle.unit_io.proofs.UnreadLemmas.{unread_none}
use Rattle.unit_log.specs.Often.{ReadsListed}
use Rattle.unit_log.proofs.OftenLemmas.{often_then, often_unread}
use Rattle.unit_log.specs.Looks.{IsLogRead}
use Rattle.selective_merge.specs.Known.{KnowsPlaces}
use Rattle.place_taking.specs.Spending.{ErasesFree, is_worn_out, tells_worn}
use Rattle.place_taking.specs.Takes.{IsNotTaken}
use Rattle.place_taking.proofs.HomeLemmas.{homes_same}
use Rattle.selective_merge.specs.Homes.{MergeCause}
use Rattle.selective_merge.specs.Leaving.{FindsSpot, LeavesTables, MovesUnit}
use Rattle.selective_merge.specs.Moving.{Holds}
use Rattle.selective_merge.proofs.CompleteLemmas.{spared_behind}
use Rattle.selective_merge.proofs.SpendLemmas.{erases_for_behind, erases_free_behind, for_read, frees_for, frees_none, frees_read, read_not_worn}
use Rattle.selective_merge.proofs.TakenLemmas.{opened_cause}
use Rattle.selective_merge.proofs.TidyLemmas.{tidies_behind, tidies_none, tidies_read}

-- the cause of a merge of the unit by these tables, which are those then
abbrev MergesNot : ℕ → Tables → Tables → ChipFault → Told → Told → Type 0
MergesNot u t after = MergeCause after.places (slice_index t.places.current u) (spots_in t.overflow u)

-- the sectors where the unit's log may be read
abbrev InLog : ℕ → Tables → ℕ → ℕ → Type 0
InLog u t = IsLogRead (slice_index t.places.current u) (spots_in t.overflow u)

-- ---- why a unit isn't merged

-- its log isn't read
unread_cause : (u : ℕ) (t : Tables) (fault : ChipFault) (old new : Told) → IsCauseAt (InLog u t) fault old new
    → MergesNot u t t fault old new
unread_cause u t ReadFault old new cause = cause
unread_cause u t Stopped old new cause = absurd cause
unread_cause u t (Damaged p s stored computed) old new cause = absurd cause
unread_cause u t (Malformed p s) old new cause = inr cause
unread_cause u t (WornOut n) old new cause = absurd cause

-- or it isn't merged behind other calls
cause_behind : {T : Type 0} (after : Places) (place : ℕ) (spots : List (ℕ × ℕ)) (result : Result T ChipFault)
    (old mid new : Told) → Counts old mid → IfErr result (λ fault. MergeCause after place spots fault mid new)
    → IfErr result (λ fault. MergeCause after place spots fault old new)
cause_behind after place spots (Ok v) old mid new counts cause = tt
cause_behind after place spots (Err ReadFault) old mid new counts cause = omega (arith, cause, counts.reads)
cause_behind after place spots (Err Stopped) old mid new counts cause = omega (arith, cause, counts.writes)
cause_behind after place spots (Err (Damaged p s stored computed)) old mid new counts cause = cause
cause_behind after place spots (Err (Malformed p s)) old mid new counts cause = cause
cause_behind after place spots (Err (WornOut n)) old mid new counts cause =
    (cause.0, cause.1, omega (arith, cause.2, counts.worn))

-- ---- no place was taken

-- tables that know each place hold
pub held_same : (places : ℕ) (t : Tables) → KnowsPlaces places t → Holds places t t
held_same places t known = record {
  units = refl;
  homes = homes_same t.places t.places refl refl;
  active = refl;
  status = refl;
  known = known;
}

-- the unit's log wasn't read
leaves_unread : {T : Type 0} (u : ℕ) (t : Tables) (fault : ChipFault) (old new : Told) → KnowsPlaces old.places t
    → ReadsAt (InLog u t) old new → IsCauseAt (InLog u t) fault old new
    → LeavesTables {T = T} 13 (MergesNot u t t) t t (Err fault) old new
leaves_unread {T} u t fault old new known reads cause = record {
  holds = held_same old.places t known;
  draws = (omega arith, omega arith);
  spares = λ held x is. (x, reads.contents ∙ is, λ q s used. refl);
  tidy = tidies_read (InLog u t) t old new reads;
  accounts = record { counts = reads.counts; cause = unread_cause u t fault old new cause };
}

pub moves_unread : (listed : List (ℕ × ℕ)) (u : ℕ) (t : Tables) (fault : ChipFault) (old new : Told)
    → KnowsPlaces old.places t → ReadsAt (InLog u t) old new → Spends (ReadsListed listed) old new
    → IsCauseAt (InLog u t) fault old new → MovesUnit listed u t t (Err fault) old new
moves_unread listed u t fault old new known reads often cause = record {
  leaves = leaves_unread u t fault old new known reads cause;
  room = tt;
  free = omega arith;
  drawn = tt;
  costs = for_read (InLog u t) t.places (slice_index t.places.current u) (tells_worn fault) old new
      (read_not_worn (InLog u t) fault old new cause) reads;
  reads = often;
}

pub finds_unread : (listed : List (ℕ × ℕ)) (u : ℕ) (t : Tables) (fault : ChipFault) (old new : Told)
    → KnowsPlaces old.places t → ReadsAt (InLog u t) old new → Spends (ReadsListed listed) old new
    → IsCauseAt (InLog u t) fault old new → FindsSpot listed u t t (Err fault) old new
finds_unread listed u t fault old new known reads often cause = record {
  leaves = leaves_unread u t fault old new known reads cause;
  costs = frees_read (InLog u t) t.places (tells_worn fault) old new
      (read_not_worn (InLog u t) fault old new cause) reads;
  reads = often;
}

-- the spot is there
pub finds_there : (listed : List (ℕ × ℕ)) (u : ℕ) (t : Tables) (spot : Spot) (told : Told)
    → KnowsPlaces told.places t → FindsSpot listed u t t (Ok spot) told told
finds_there listed u t spot told known = record {
  leaves = record {
    holds = held_same told.places t known;
    draws = (omega arith, omega arith);
    spares = λ x is. (x, is, λ q s used. refl);
    tidy = tidies_none t told;
    accounts = record { counts = counts_none told; cause = tt };
  };
  costs = frees_none t.places told;
  reads = often_unread listed told told (unread_none told);
}

-- ---- behind reads

leaves_behind : {T : Type 0} (At : ℕ → ℕ → Type 0) (n u : ℕ) (t after : Tables) (result : Result T ChipFault)
    (old mid new : Told) → ReadsAt At old mid → LeavesTables n (MergesNot u t after) t after result mid new
    → LeavesTables n (MergesNot u t after) t after result old new
leaves_behind At n u t after result old mid new reads leaves = record {
  holds = subst (λ (q : ℕ). Holds q t after) reads.counts.places leaves.holds;
  draws = leaves.draws;
  spares = spared_behind t.places old mid new result reads.contents leaves.spares;
  tidy = tidies_behind At t after old mid new reads leaves.tidy;
  accounts = record {
    counts = counts_then old mid new reads.counts leaves.accounts.counts;
    cause = cause_behind after.places (slice_index t.places.current u) (spots_in t.overflow u) result old mid new
        reads.counts leaves.accounts.cause;
  };
}

pub moves_behind : (At : ℕ → ℕ → Type 0) (u : ℕ) (t after : Tables) (result : Result (Unit {0}) ChipFault)
    (old mid new : Told) (first then : List (ℕ × ℕ)) → ReadsAt At old mid → Spends (ReadsListed first) old mid
    → MovesUnit then u t after result mid new → MovesUnit (first ++ then) u t after result old new
moves_behind At u t after result old mid new first then reads often moves = record {
  leaves = leaves_behind At 13 u t after result old mid new reads moves.leaves;
  room = moves.room;
  free = moves.free;
  drawn = moves.drawn;
  costs = erases_for_behind At t.places after.places _ _ _ old mid new reads moves.costs;
  reads = often_then first then old mid new often moves.reads;
}

pub finds_behind : (At : ℕ → ℕ → Type 0) (u : ℕ) (t after : Tables) (result : Result Spot ChipFault)
    (old mid new : Told) (first then : List (ℕ × ℕ)) → ReadsAt At old mid → Spends (ReadsListed first) old mid
    → FindsSpot then u t after result mid new → FindsSpot (first ++ then) u t after result old new
finds_behind At u t after result old mid new first then reads often finds = record {
  leaves = leaves_behind At 13 u t after result old mid new reads finds.leaves;
  costs = erases_free_behind At t.places after.places (is_worn_out result) old mid new reads finds.costs;
  reads = often_then first then old mid new often finds.reads;
}

-- ---- a spot by a merge, or in a new overflow place

pub finds_merged : (listed : List (ℕ × ℕ)) (u : ℕ) (t after : Tables) (v : Unit {0}) (spot : Spot) (old new : Told)
    → MovesUnit listed u t after (Ok v) old new → FindsSpot listed u t after (Ok spot) old new
finds_merged listed u t after v spot old new moves = record {
  leaves = record {
    holds = moves.leaves.holds;
    draws = moves.leaves.draws;
    spares = moves.leaves.spares;
    tidy = moves.leaves.tidy;
    accounts = record { counts = moves.leaves.accounts.counts; cause = tt };
  };
  costs = frees_for t.places after.places (slice_index after.places.current u) true false old new moves.costs;
  reads = moves.reads;
}

pub finds_unmerged : (listed : List (ℕ × ℕ)) (u : ℕ) (t after : Tables) (fault : ChipFault) (old new : Told)
    → MovesUnit listed u t after (Err fault) old new → FindsSpot listed u t after (Err fault) old new
finds_unmerged listed u t after fault old new moves = record {
  leaves = record {
    holds = moves.leaves.holds;
    draws = moves.leaves.draws;
    spares = moves.leaves.spares;
    tidy = moves.leaves.tidy;
    accounts = record { counts = moves.leaves.accounts.counts; cause = moves.leaves.accounts.cause };
  };
  costs = frees_for t.places after.places (slice_index after.places.current u) false (tells_worn fault) old new
      moves.costs;
  reads = moves.reads;
}

pub finds_opened : (listed : List (ℕ × ℕ)) (u : ℕ) (t after : Tables) (result : Result Spot ChipFault) (old new : Told)
    → LeavesTables 1 (IsNotTaken after.places) t after result old new
    → Spends (ErasesFree t.places after.places 3 (is_worn_out result)) old new → Spends ReadsNothing old new
    → FindsSpot listed u t after result old new
finds_opened listed u t after result old new leaves costs none = record {
  leaves = record {
    holds = leaves.holds;
    draws = (leaves.draws.0, omega (arith, leaves.draws.1));
    spares = leaves.spares;
    tidy = leaves.tidy;
    accounts = record {
      counts = leaves.accounts.counts;
      cause = opened_cause after.places (slice_index t.places.current u) (spots_in t.overflow u) old new result
          leaves.accounts.cause;
    };
  };
  costs = costs;
  reads = often_unread listed old new none;
}
