-- What calls cost that erase places for what they write.
use Rattle.std.proofs.Common.{◌≡◌, ◌≤◌, ◌+◌, ◌*◌, ◌-◌, ◌∙◌, ℕ, Bool, true, false, Result, Ok, Err, OnOk, [], ◌++◌, length, map, slice_index, inl, inr, refl, subst, arith}
use Rattle.std.specs.Prelude.{is_ok}
use Rattle.std.proofs.lemmas.Bool.{cases_lt, lt-ltb, le-ltb, false≢true}
use Rattle.std.proofs.lemmas.List.{length-map, get_or-map, get_or_past}
use Rattle.chip_trait.specs.Story.{Story}
use Rattle.chip_trait.specs.Told.{Told}
use Rattle.ipl_base.specs.declared.fault.ChipFault.{ChipFault}
use Rattle.ipl_meaning.specs.Tables.{Places, unmarked_written, with_marks_ended}
use Rattle.place_taking.specs.Homes.{HomesAreUsed, KeepsHomes}
use Rattle.place_taking.specs.Spending.{ErasesFree, ErasesFor, tells_worn}
use Rattle.place_taking.specs.Takes.{ErasesNext}
use Rattle.place_taking.proofs.JoinLemmas.{costs_of_untaken}
use Rattle.place_taking.proofs.HomeLemmas.{erases_leave, homes_same, known_with, leaves_then}
use Rattle.place_taking.proofs.SpendingLemmas.{retiring_at_most, retiring_of, retiring_then}
use Rattle.place_taking.specs.Counts.{KeepsCounts}
use Rattle.place_taking.proofs.CountedLemmas.{keeps_counts, counted_still}
use Rattle.place_taking.proofs.WearLemmas.{leaves_untried}
use Rattle.unit_io.specs.Costs.{Costs, Spends}
use Rattle.unit_io.specs.ReadsAt.{ReadsAt}
use Rattle.unit_io.proofs.CostLemmas.{costs_none, costs_then, erased_joined, spends_none, spends_reads, spends_then, spends_weaker}
use Rattle.restart.specs.Passes.{ErasesAtMost, HasErased}
use Rattle.restart.specs.Recovers.{ErasesWaiting}

-- no erase was tried
none_erased : (d : Places) (worn_out : Bool) (added : Story) → worn_out ≡ false
    → Costs 0 0 0 [] added → ErasesAtMost d d 0 worn_out added
none_erased d worn_out added still costs = record {
  costs = retiring_of d d 0 0 0 [] added refl costs;
  places = leaves_untried d d worn_out added refl still (homes_same d d refl refl) (keeps_counts d d refl) costs.erased;
}

pub erases_none : (d : Places) (told : Told) → Spends (ErasesAtMost d d 0 false) told told
erases_none d told =
    spends_none (ErasesAtMost d d 0 false) told (none_erased d false [] refl (costs_none []))

pub erases_more : (before after : Places) (n k : ℕ) (worn_out : Bool) (old new : Told) → n ≤ k
    → Spends (ErasesAtMost before after n worn_out) old new
    → Spends (ErasesAtMost before after k worn_out) old new
erases_more before after n k worn_out old new more =
    spends_weaker (ErasesAtMost before after n worn_out) (ErasesAtMost before after k worn_out) old new
    (λ added is. record {
      costs = retiring_at_most before after n k 0 0 (3 * n) (3 * k) [] [] added more (omega arith)
          (omega (arith, more)) (λ kind has. has) is.costs;
      places = is.places;
    })

pub reads_erase : (At : ℕ → ℕ → Type 0) (d : Places) (k : ℕ) (worn_out : Bool) (old new : Told)
    → worn_out ≡ false → ReadsAt At old new → Spends (ErasesAtMost d d k worn_out) old new
reads_erase At d k worn_out old new still reads =
    erases_more d d 0 k worn_out old new (omega arith)
    (spends_weaker (Costs 0 0 0 []) (ErasesAtMost d d 0 worn_out) old new
    (λ added. none_erased d worn_out added still) (spends_reads At [] old new reads))

-- one after the other
pub erases_then : (first between last : Places) (n k : ℕ) (worn_out : Bool) (old mid new : Told)
    → Spends (ErasesAtMost first between n false) old mid
    → Spends (ErasesAtMost between last k worn_out) mid new
    → Spends (ErasesAtMost first last (n + k) worn_out) old new
erases_then first between last n k worn_out old mid new =
    spends_then (ErasesAtMost first between n false) (ErasesAtMost between last k worn_out)
    (ErasesAtMost first last (n + k) worn_out) old mid new
    (λ later earlier one two. record {
      costs = retiring_at_most first last (n + k) (n + k) (0 + 0) 0 (3 * n + 3 * k) (3 * (n + k)) [] []
          (later ++ earlier) (omega arith) (omega arith) (omega arith) (λ kind has. has)
          (retiring_then first between last n k 0 0 (3 * n) (3 * k) [] later earlier one.costs two.costs);
      places = leaves_then first between last worn_out later earlier one.places two.places;
    })

-- barriers alone, at most so many
pub waiting_alone : (before after : Places) (n waits : ℕ) (worn_out : Bool) (old new : Told)
    → after.retired ≡ before.retired → worn_out ≡ false → KeepsHomes before after → KeepsCounts before after
    → Spends (Costs 0 0 waits []) old new
    → Spends (ErasesWaiting before after n waits worn_out) old new
waiting_alone before after n waits worn_out old new same still homes counts =
    spends_weaker (Costs 0 0 waits []) (ErasesWaiting before after n waits worn_out) old new
    (λ added is. record {
      costs = retiring_at_most before after 0 n 0 0 waits (waits + 3 * n) [] [] added (omega arith)
          (omega arith) (omega arith) (λ kind has. has)
          (retiring_of before after 0 0 waits [] added same is);
      places = leaves_untried before after worn_out added same still homes counts is.erased;
    })

-- and then another call
pub waiting_then : (before after : Places) (n waits : ℕ) (worn_out : Bool) (old mid new : Told)
    → Spends (Costs 0 0 waits []) old mid → Spends (ErasesAtMost before after n worn_out) mid new
    → Spends (ErasesWaiting before after n waits worn_out) old new
waiting_then before after n waits worn_out old mid new =
    spends_then (Costs 0 0 waits []) (ErasesAtMost before after n worn_out)
    (ErasesWaiting before after n waits worn_out) old mid new
    (λ later earlier one two. record {
      costs = retiring_at_most before after (0 + n) n (0 + 0) 0 (waits + 3 * n) (waits + 3 * n) [] []
          (later ++ earlier) (omega arith) (omega arith) (omega arith) (λ kind has. has)
          (retiring_then before before after 0 n 0 0 waits (3 * n) [] later earlier
          (retiring_of before before 0 0 waits [] earlier refl one) two.costs);
      places = leaves_then before before after worn_out later earlier
          (leaves_untried before before false earlier refl refl (homes_same before before refl refl)
          (keeps_counts before before refl) one.erased) two.places;
    })

-- a unit of which nothing is known once no mark counts any more was unknown before
pub homes_unmarked : (it : Places) → KeepsHomes it (with_marks_ended it)
homes_unmarked it u low unknown = record {
  low = low;
  unknown = elim (cases_lt u (length it.written)) [
    | inl there ↦ still_unknown (slice_index it.written u)
        (subst (λ (n : ℕ). 32 ≤ n) (get_or-map unmarked_written it.written u 0 0 there) unknown)
    | inr past ↦
        let none = get_or_past (map unmarked_written it.written) u 0
        (omega (arith, past, length-map it.written unmarked_written)) in
        absurd (omega (arith, none, unknown))
  ];
  place = refl;
}
  where
    still_unknown : (n : ℕ) → 32 ≤ unmarked_written n → 32 ≤ n
    still_unknown n more = elim (cases_lt n 16) [
      | inl few ↦
          let is : unmarked_written n ≡ n = rw (lt-ltb n 16 few) refl in omega (arith, is, more)
      | inr many ↦ elim (cases_lt n 32) [
        | inl marked ↦
            let is : unmarked_written n ≡ n - 16 = rw (le-ltb n 16 many, lt-ltb n 32 marked) refl in
            absurd (omega (arith, is, more, marked))
        | inr past ↦ past
      ]
    ]

-- and then no mark counts any more
pub waiting_ended : (before after : Places) (n waits : ℕ) (old new : Told)
    → Spends (ErasesWaiting before after n waits false) old new
    → Spends (ErasesWaiting before (with_marks_ended after) n waits false) old new
waiting_ended before after n waits old new =
    spends_weaker (ErasesWaiting before after n waits false)
    (ErasesWaiting before (with_marks_ended after) n waits false) old new
    (λ added is. record {
      costs = record {
        erased = is.costs.erased;
        programmed = is.costs.programmed;
        barred = is.costs.barred;
        only = is.costs.only;
      };
      places = record {
        retires = record {
          keeps = is.places.retires.keeps;
          each = is.places.retires.each;
          found = is.places.retires.found;
          one_more = λ no. absurd (false≢true no);
        };
        homes = known_with before after (with_marks_ended after) added is.places.homes
            (homes_unmarked after);
        counted = counted_still added before after (with_marks_ended after) is.places.counted
            (record { counts = refl; free = λ p free. free });
      };
    })

-- reads before them
pub reads_then_wait : (At : ℕ → ℕ → Type 0) (waits : ℕ) (old mid new : Told) → ReadsAt At old mid
    → Spends (Costs 0 0 waits []) mid new → Spends (Costs 0 0 waits []) old new
reads_then_wait At waits old mid new reads =
    spends_then (Costs 0 0 0 []) (Costs 0 0 waits []) (Costs 0 0 waits []) old mid new
    (λ later earlier one two.
    let both = costs_then 0 0 0 0 0 waits [] later earlier one two in record {
      erased = omega (arith, both.erased);
      programmed = omega (arith, both.programmed);
      barred = omega (arith, both.barred);
      only = both.only;
    }) (spends_reads At [] old mid reads)

-- a merge, or a new status place
pub place_erases : (before after : Places) (place : ℕ) (done worn_out : Bool) (old new : Told)
    → HomesAreUsed before → KeepsHomes before after
    → Spends (ErasesFor before after 3 place done worn_out) old new
    → Spends (ErasesAtMost before after 1 worn_out) old new
place_erases before after place done worn_out old new used homes =
    spends_weaker (ErasesFor before after 3 place done worn_out) (ErasesAtMost before after 1 worn_out)
    old new (λ added is. record {
      costs = is.erases.costs;
      places = erases_leave before after 3 worn_out added used homes is.erases;
    })

-- a place that was given back, and none that was taken
free_erases : (before after : Places) (at : ℕ) (worn_out : Bool) (old new : Told)
    → Spends (ErasesFree before after 3 worn_out) old new
    → Spends (ErasesFor before after 3 at false worn_out) old new
free_erases before after at worn_out old new =
    spends_weaker (ErasesFree before after 3 worn_out) (ErasesFor before after 3 at false worn_out) old
    new (λ added is. record { erases = is; erased = λ done. absurd (false≢true done) })

pub back_erases : (before after : Places) (place at : ℕ) (worn_out : Bool) (old new : Told)
    → Spends (ErasesFor before after 3 place false worn_out) old new
    → Spends (ErasesFor before after 3 at false worn_out) old new
back_erases before after place at worn_out old new did =
    free_erases before after at worn_out old new
    (spends_weaker (ErasesFor before after 3 place false worn_out) (ErasesFree before after 3 worn_out)
    old new (λ added is. is.erases) did)

pub untaken_erases : (before after : Places) (at : ℕ) (e : ChipFault) (old new : Told)
    → Spends (ErasesNext before (Err e) after) old new
    → Spends (ErasesFor before after 3 at false (tells_worn e)) old new
untaken_erases before after at e old new did =
    free_erases before after at (tells_worn e) old new
    (costs_of_untaken before after 3 e old new (omega arith) did)

-- ---- the place that the status has then

-- whatever came before
pub renewed_then : (P : Story → Type 0) (place : ℕ) (d after : Places) (worn_out : Bool)
    (old mid new : Told) (result : Result (Unit {0}) ChipFault) → Spends P old mid
    → Spends (ErasesFor d after 3 place (is_ok result) worn_out) mid new
    → OnOk result (Spends (HasErased place) old new)
renewed_then P place d after worn_out old mid new (Ok v) first second =
    spends_then P (ErasesFor d after 3 place true worn_out) (HasErased place) old mid new
    (λ later earlier before did. erased_joined later earlier place ∙ rw (did.erased refl) refl)
    first second
renewed_then P place d after worn_out old mid new (Err e) first second = tt

pub waiting_then_renewed : (waits place : ℕ) (old mid new : Told)
    → Spends (Costs 0 0 waits []) old mid → Spends (HasErased place) mid new
    → Spends (HasErased place) old new
waiting_then_renewed waits place old mid new =
    spends_then (Costs 0 0 waits []) (HasErased place) (HasErased place) old mid new
    (λ later earlier before is. erased_joined later earlier place ∙ rw is refl)
