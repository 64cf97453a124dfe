-- A place taken, and a unit written there.
use Rattle.std.proofs.Common.{◌≡◌, ◌≤◌, ◌+◌, ℕ, List, [], ◌∷◌, length, slice_index, Option, Result, Ok, Err, IfErr, IfOk, is_ok, inl, inr, refl, sym, ◌∙◌, ap, subst, true, arith}
use Rattle.chip_trait.specs.Told.{History, Told, Counts, adds_all}
use Rattle.log_records.specs.View.{Versioned}
use Rattle.ipl_base.specs.declared.fault.ChipFault.{ChipFault}
use Rattle.ipl_base.specs.declared.fault.ChipFault.TheVariants.{ReadFault, Stopped, Damaged, Malformed, WornOut}
use Rattle.ipl_meaning.specs.Legible.{Legible}
use Rattle.ipl_meaning.specs.Agrees.{Agrees}
use Rattle.ipl_meaning.specs.Chart.{Chart, chart_of}
use Rattle.ipl_meaning.specs.Layout.{Layout}
use Rattle.ipl_meaning.specs.Mirrors.{Mirrors}
use Rattle.ipl_meaning.specs.Rests.{now, EachStands, StoryRests}
use Rattle.ipl_meaning.specs.Tables.{Places, IsFree, with_use, with_erased, Tables, IsCountedClean}
use Rattle.ipl_meaning.specs.TableSteps.{taken, with_next, without_worn}
use Rattle.ipl_meaning.proofs.IdleFollowLemmas.{places_may_be_retired, tables_follow_idle_places}
use Rattle.ipl_meaning.proofs.MirrorLemmas.{free_places_are_idle}
use Rattle.unit_directory.specs.Free.{AreNext}
use Rattle.txn_status.specs.Switching.{HasCounts}
use Rattle.unit_io.specs.Charts.{Charts, IsCleared}
use Rattle.unit_io.specs.Leads.{IsSteady}
use Rattle.unit_io.specs.Spots.{Programs}
use Rattle.unit_io.specs.Steps.{Settled, TidyWork, Steps, RestsAgreeing}
use Rattle.unit_io.proofs.StepLemmas.{outcome_weaker}
use Rattle.unit_io.proofs.StepTidyLemmas.{tidy_weaker}
use Rattle.place_taking.specs.Spending.{WritesFree}
use Rattle.place_taking.specs.Takes.{ClearsNext, IsAsideFrom, IsNotTaken, RestsTaken, TakesPlace, with_places}
use Rattle.place_taking.proofs.JoinLemmas.{untaken, writes_taken}
use Rattle.selective_merge.specs.Faults.{IsTheFault}
use Rattle.selective_merge.specs.Merged.{IsToMerge, IsWritten}
use Rattle.selective_merge.specs.Moved.{Source, IsAside, IsUnsealed}
use Rattle.selective_merge.proofs.FaultLemmas.{fault_not_taken}
use Rattle.selective_merge.specs.Homes.{MoveCause, MergeCause}
use Rattle.selective_merge.specs.Merging.{StaysMirrored}
use Rattle.selective_merge.specs.Moving.{set_aside}
use Rattle.selective_merge.specs.Throughout.{Unbroken, KeepsThroughout, ChartsThroughout, StepsThroughout}
use Rattle.selective_merge.specs.Writing.{IsUnitSpot, WritesUnit, TellsWritten}
use Rattle.selective_merge.proofs.FillLemmas.{unsealed}
use Rattle.selective_merge.proofs.UnbrokenLemmas.{unbroken_settled, untaken_failed}
use Rattle.selective_merge.proofs.ThroughoutLemmas.{SoFar, so_far_and, keeps_then, told_then}

-- ---- the tables

-- numbers may be drawn
next_drawn : (places : ℕ) (c : Chart) (it : Layout) (t : Tables) (next : ℕ) → Mirrors places c it t
    → t.next ≤ next → Mirrors places c it (with_next t next)
next_drawn places c it t next mirrors more = record {
  laid = mirrors.laid;
  directory = let was = mirrors.directory in record {
    units = was.units;
    logs = was.logs;
    all = was.all;
    counts = was.counts;
    current = was.current;
    heads = was.heads;
    generation = was.generation;
    not_home = was.not_home;
    not_status = was.not_status;
    not_overflow = was.not_overflow;
  };
  overflow = let was = mirrors.overflow in record {
    units = was.units;
    listed = was.listed;
    only = was.only;
    once = was.once;
    few = was.few;
    in_overflow = was.in_overflow;
    headed = was.headed;
    two = was.two;
    apart = was.apart;
  };
  status = let was = mirrors.status in
      record { place = was.place; generation = was.generation; numbers = was.numbers };
  numbers = let was = mirrors.numbers in record {
    above = λ n found. let low = was.above n found in omega (arith, low, more);
    below = λ k none within. let low = was.below k none within in omega (arith, low, more);
    once = was.once;
    waits = was.waits;
  };
  masks = let was = mirrors.masks in record {
    units = was.units;
    lists = was.lists;
    sectors = was.sectors;
    home = was.home;
    elsewhere = was.elsewhere;
  };
  logs = let was = mirrors.logs in record { unmarked = was.unmarked; whole = was.whole };
  counted_clean = mirrors.counted_clean;
}

-- places that are found worn may be set aside
pub aside_mirrors : (places : ℕ) (c : Chart) (it : Layout) (t : Tables) (worn : List ℕ)
    → Mirrors places c it t → AreNext t.places worn → Mirrors places c it (set_aside t worn)
aside_mirrors places c it t [] mirrors in_turn = mirrors
aside_mirrors places c it t (p ∷ worn) mirrors in_turn =
    aside_mirrors places c it (without_worn t p) worn
    (places_may_be_retired places c it t p mirrors
    (omega (arith, in_turn.0.within, mirrors.directory.all))) in_turn.1

-- a free place may be cleared
pub cleared_mirrors : (places : ℕ) (c y : Chart) (it : Layout) (t : Tables) (p : ℕ)
    → Mirrors places c it t → IsFree t.places p → IsCleared p c y → Mirrors places y it t
cleared_mirrors places c y it t p mirrors free cleared =
    tables_follow_idle_places places c it t p y t.next mirrors
    (free_places_are_idle places c it t p mirrors free) (mirrors.directory.not_overflow p free)
    cleared.others (cleared.bare 0) (omega arith)

-- ---- no place was taken

-- it is no fault of a unit
pub opened_alone : {T : Type 0} (fault : Option ChipFault) (after : Places) (old new : Told)
    (result : Result T ChipFault) → IfErr result (λ e. IsNotTaken after e old new)
    → IfErr result (IsTheFault fault)
opened_alone fault after old new (Ok v) cause = tt
opened_alone fault after old new (Err e) cause = fault_not_taken fault after e old new cause

-- why not
pub moves_not : (after : Places) (place : ℕ) (spots : List (ℕ × ℕ)) (e f : ChipFault) (old new : Told)
    → f ≡ e → IsNotTaken after e old new → MergeCause after place spots f old new
moves_not after place spots e f old new same (inl stopped) =
    subst (λ (x : ChipFault). MergeCause after place spots x old new) (sym (same ∙ stopped.0)) stopped.1
moves_not after place spots e f old new same (inr worn) =
    subst (λ (x : ChipFault). MergeCause after place spots x old new) (sym (same ∙ worn.0))
    (refl, worn.1, worn.2)

pub opened_cause : {T : Type 0} (after : Places) (place : ℕ) (spots : List (ℕ × ℕ)) (old new : Told)
    (result : Result T ChipFault) → IfErr result (λ e. IsNotTaken after e old new)
    → IfErr result (λ e. MergeCause after place spots e old new)
opened_cause after place spots old new (Ok v) cause = tt
opened_cause after place spots old new (Err e) cause =
    moves_not after place spots e e old new refl cause

-- what a unit isn't moved for, it isn't merged for
pub merged_not : (after : Places) (place : ℕ) (spots : List (ℕ × ℕ)) (e : ChipFault)
    (first old new : Told) → Counts first old → MoveCause place e old new
    → MergeCause after place spots e first new
merged_not after place spots ReadFault first old new counts cause =
    omega (arith, cause, counts.reads)
merged_not after place spots Stopped first old new counts cause =
    omega (arith, cause, counts.writes)
merged_not after place spots (Damaged p s stored computed) first old new counts cause = cause
merged_not after place spots (Malformed p s) first old new counts (at, inl base) = inl (at, base)
merged_not after place spots (Malformed p s) first old new counts (at, inr head) =
    inr (inl (at, head))
merged_not after place spots (WornOut n) first old new counts cause = absurd cause

-- the tables with this directory, and with numbers that were drawn
abbrev pub untaken_tables : Tables → Places → ℕ → Tables
untaken_tables t d next = with_next (with_places t d) next

-- they agree as they did
pub steps_not : {T : Type 0} (Then : T → History → Type 0) (d : Places) (m : Legible) (it : Layout)
    (t after : Tables) (next : ℕ) (h : History) (e f : ChipFault) (old new : Told)
    → IsAsideFrom t.places d → after ≡ untaken_tables t d next → t.next ≤ next → IsSteady h old
    → StoryRests old.places m h → Agrees old.places h it t → TakesPlace t.places old (Err e) d new
    → Steps (EachStands old.places m) t after Then (λ k. RestsAgreeing old.places m it after k) h
    (Err f) old new
steps_not {T} Then d m it t after next h e f old new aside is more steady rests agrees takes =
    rw is (outcome_weaker (EachStands old.places m) (EachStands old.places m)
    (TidyWork (IsCountedClean t) (IsCountedClean (with_places t d)) (Settled {T = T} (Err f) old new))
    (TidyWork (IsCountedClean t) (IsCountedClean (untaken_tables t d next))
    (Settled {T = T} (Err f) old new))
    (Settled {T = T} (Err f) old new) (Settled {T = T} (Err f) old new)
    (RestsAgreeing old.places m it (with_places t d))
    (RestsAgreeing old.places m it (untaken_tables t d next)) h old new
    (λ k is. is) (λ a did. record { silent = did.silent; lawful = did.lawful; clean = did.clean })
    (λ is. is) (λ settled k so. record {
      rests = so.rests;
      agrees = record {
        mirrors = next_drawn old.places (now k) it (with_places t d) next so.agrees.mirrors more;
        tidy = so.agrees.tidy;
      };
    }) (untaken T ChipFault t.places d m it t h e f old new steady refl
    (record { rests = rests; agrees = agrees }) aside takes))

-- also where the place was asked for by a merge
pub steps_not_throughout : {T : Type 0} (Then : T → History → Type 0) (d : Places) (m : Legible) (it : Layout)
    (t after : Tables) (next : ℕ) (h : History) (e : ChipFault) (old new : Told)
    → IsAsideFrom t.places d → after ≡ untaken_tables t d next → t.next ≤ next → IsSteady h old
    → StoryRests old.places m h → Agrees old.places h it t → TakesPlace t.places old (Err e) d new
    → IsNotTaken d e old new
    → StepsThroughout (EachStands old.places m) t after Then (λ k. RestsAgreeing old.places m it after k) h
    (Err e) old new
steps_not_throughout {T} Then d m it t after next h e old new aside is more steady rests agrees takes cause =
    let less = unbroken_settled e old new (untaken_failed d e old new cause) in
    outcome_weaker (EachStands old.places m) (EachStands old.places m)
    (TidyWork (IsCountedClean t) (IsCountedClean after) (Settled {T = T} (Err e) old new))
    (TidyWork (IsCountedClean t) (IsCountedClean after) (Unbroken {T = T} (Err e) old new))
    (Settled {T = T} (Err e) old new) (Unbroken {T = T} (Err e) old new)
    (RestsAgreeing old.places m it after) (RestsAgreeing old.places m it after) h old new (λ k is. is)
    (λ a. tidy_weaker (IsCountedClean t) (IsCountedClean after) (Settled {T = T} (Err e) old new)
    (Unbroken {T = T} (Err e) old new) a less) less (λ settled k is. is)
    (steps_not {T = T} Then d m it t after next h e e old new aside is more steady rests agrees takes)

pub told_not : (places : ℕ) (t after : Tables) (d : Places) (next : ℕ) (old new : Told)
    → IsAsideFrom t.places d → after ≡ untaken_tables t d next → t.next ≤ next
    → Charts (λ c y. y ≡ c) old new → Charts (StaysMirrored places t after) old new
told_not places t after d next old new aside is more tells x told =
    let (y, told_y, same) = tells x told in (
      y,
      told_y,
      λ it mirrors. rw (same, is, aside.places_is) (
        next_drawn places (chart_of x) it (set_aside t aside.worn) next
            (aside_mirrors places (chart_of x) it t aside.worn mirrors aside.in_turn) more,
        record { shown = λ v page now low few shows. shows; no_more = λ v page base low few reads. (base, reads) },
      ),
    )

-- ---- a place was taken

-- what its header is to say
pub has_counts : (t : Tables) (d : Places) (p units erases : ℕ)
    → d ≡ with_erased (with_use t.places p true) p → units ≡ length t.places.current
    → erases ≡ slice_index d.erases p → HasCounts (taken t p) p units erases
has_counts t d p units erases is units_are erases_are = record {
  units_are = sym units_are;
  erases_are = sym (erases_are ∙ ap (λ (e : Places). slice_index e.erases p) is);
}

module _ (t : Tables) (after : Places) (p : ℕ) (m : Legible) (it : Layout) (h : History)
    (old mid : Told) (steady : IsSteady h old) (here : RestsAgreeing old.places m it t h)
    (takes : TakesPlace t.places old (Ok p) after mid) where
  -- it was cleared
  pub taken_so_far : SoFar old.places m (ClearsNext t.places (Ok p)) (IsCleared p) h old mid
  taken_so_far =
      outcome_weaker (EachStands old.places m) (EachStands old.places m) (ClearsNext t.places (Ok p))
      (ClearsNext t.places (Ok p)) (Unit {0}) (Unit {0})
      (RestsTaken old.places m it t after (now h) p)
      (λ k. StoryRests old.places m k × IsCleared p (now h) (now k)) h old mid (λ k is. is)
      (λ a did. did) (λ is. is) (λ done k is. (is.stands.rests, is.cleared))
      (takes m it t h steady refl here)

-- ---- a unit, written there

module _ (places : ℕ) (it : Layout) (t : Tables) (u p g serial : ℕ) (from : Source)
    (payloads : List Versioned) where
  -- what a merge asks, once it was cleared
  asked_then : (c d : Chart) → IsToMerge places c it t u p g serial from payloads → IsCleared p c d
      → IsToMerge places d it t u p g serial from payloads
  asked_then c d what cleared = record {
    mirrors = cleared_mirrors places c d it t p what.mirrors what.free cleared;
    low = what.low;
    free = what.free;
    within = what.within;
    source = what.source;
    new = what.new;
    later = what.later;
    carried = what.carried;
    twelve = what.twelve;
  }

  -- what was written then was written since
  written_since : (c d e : Chart) → IsToMerge places c it t u p g serial from payloads
      → IsCleared p c d → IsWritten places d e it t u p g serial → IsWritten places c e it t u p g serial
  written_since c d e what cleared is = record {
    head = is.head;
    pieces = is.pieces;
    filled = is.filled;
    generation_is = is.generation_is;
    may = record {
      mirrors = what.mirrors;
      low = is.may.low;
      free = is.may.free;
      within = is.may.within;
      head_is = is.may.head_is;
      new = is.may.new;
      later = is.may.later;
      few = is.may.few;
      twelve = is.may.twelve;
      filled = record {
        bare = is.may.filled.bare;
        paged = is.may.filled.paged;
        cleared = record {
          bare = is.may.filled.cleared.bare;
          others = λ q s apart. is.may.filled.cleared.others q s apart ∙ cleared.others q s apart;
        };
        moved = is.may.filled.moved;
        logs = is.may.filled.logs;
      };
    };
    gains = is.gains;
  }

-- what a power cut leaves
module _ (units erases : ℕ) (it : Layout) (t between : Tables) (after : Places) (u p g serial : ℕ)
    (from : Source) (payloads : List Versioned) (all : HasCounts (taken between p) p units erases)
    (m : Legible) (h : History) (old mid new : Told) (free : IsFree t.places p)
    (steady : IsSteady h old) (here : RestsAgreeing old.places m it t h)
    (takes : TakesPlace t.places old (Ok p) after mid) (counts : Counts old mid)
    (what : IsToMerge old.places (now h) it between u p g serial from payloads) where
  pub unit_joined : (result : Result (Unit {0}) ChipFault)
      → WritesUnit mid.places units erases from p g serial payloads mid result new
      → KeepsThroughout old.places m (WritesFree t.places p (241 + length payloads))
      (λ done c y. IsWritten old.places c y it between u p g serial) (IsUnsealed p) h result old new
  unit_joined result writes =
      let Asked : Chart → Type 0 =
      λ c. IsToMerge old.places c it between u p g serial from payloads in
      let first = so_far_and old.places m h (ClearsNext t.places (Ok p)) (IsCleared p) Asked old mid what
      (taken_so_far t after p m it h old mid steady here takes) in
      let k = adds_all first.added h in
      let there = (first.ends tt).1 in
      let says = subst (λ (q : ℕ). WritesUnit q units erases from p g serial payloads mid result new)
      counts.places writes in
      keeps_then old.places m h (ClearsNext t.places (Ok p)) (Programs p (IsUnitSpot (length payloads)))
      (WritesFree t.places p (241 + length payloads)) (λ c y. IsCleared p c y × Asked c)
      (λ (done : Unit {0}) c y. IsWritten old.places c y it between u p g serial)
      (λ done c y. IsWritten old.places c y it between u p g serial) (IsAside p) (IsUnsealed p)
      old mid new result first counts
      (says m it between u k (first.steady tt) (first.ends tt).0
      (λ s. first.does.fresh h.story s (omega arith))
      all (asked_then old.places it between u p g serial from payloads (now h) (now k) there.1 there.0))
      (λ a b one two. writes_taken t.places p (241 + length payloads) (IsUnitSpot (length payloads))
      (is_ok result) (is_ok result) b a free (λ s above spot. omega (arith, above, spot)) one two)
      (each result) (λ c d e is aside. unsealed p c d e is.0 aside)
    where
      each : (r : Result (Unit {0}) ChipFault) → IfOk r (λ done. (c d e : Chart)
          → IsCleared p c d × IsToMerge old.places c it between u p g serial from payloads
          → IsWritten old.places d e it between u p g serial
          → IsWritten old.places c e it between u p g serial)
      each (Ok done) = λ c d e is written.
          written_since old.places it between u p g serial from payloads c d e is.1 is.0 written
      each (Err e) = tt

-- what is told of the contents
module _ (places units erases p g serial : ℕ) (from : Source) (payloads : List Versioned) where
  -- whatever layout and tables with these counts asked for it
  abbrev pub WasWritten : Chart → Chart → Type 0
  WasWritten c y = (it : Layout) (t : Tables) (u : ℕ) → HasCounts (taken t p) p units erases
      → IsToMerge places c it t u p g serial from payloads → IsWritten places c y it t u p g serial

  pub unit_told : (old mid new : Told) (result : Result (Unit {0}) ChipFault)
      → Charts (IsCleared p) old mid
      → ChartsThroughout (λ done. TellsWritten places units erases from p g serial payloads) (IsAside p)
      result mid new
      → ChartsThroughout (λ done. WasWritten) (IsUnsealed p) result old new
  unit_told old mid new result first second =
      told_then (IsCleared p) (λ (done : Unit {0}). TellsWritten places units erases from p g serial payloads)
      (λ done. WasWritten) (IsAside p) (IsUnsealed p) old mid new result first second (each result)
      (unsealed p)
    where
      each : (r : Result (Unit {0}) ChipFault) → IfOk r (λ done. (c d e : Chart) → IsCleared p c d
          → TellsWritten places units erases from p g serial payloads d e → WasWritten c e)
      each (Ok done) = λ c d e cleared tells it t u all what.
          written_since places it t u p g serial from payloads c d e what cleared
          (tells it t u cleared.bare all
          (asked_then places it t u p g serial from payloads c d what cleared))
      each (Err e) = tt
