-- What is counted of places, over several calls.
use Rattle.std.proofs.Common.{◌≡◌, ◌≢◌, ◌⊎◌, ◌<◌, ◌≤◌, ◌||◌, ◌==◌, ℕ, Bool, true, false, List, [], ◌∷◌, ◌++◌, length, slice_index, inl, inr, refl, sym, ◌∙◌, ap, subst, arith}
use Rattle.std.proofs.lemmas.Bool.{cases_Bool, cases_eq, eq-eqb, eqb-true, false≢true}
use Rattle.std.proofs.lemmas.List.{get_or-set_other, get_or-set_same, length-set}
use Rattle.std.proofs.lemmas.Bool.Decides.{nat_tests}
use Rattle.chip_trait.specs.declared.event.Event.TheVariants.{Read, Program, Erase, Worn, Barrier, Said}
use Rattle.chip_trait.specs.Story.{Story}
use Rattle.ipl_meaning.specs.Tables.{Places, IsFree, one_more, with_use, with_erased}
use Rattle.unit_directory.proofs.AsideLemmas.{free_within}
use Rattle.unit_io.specs.Costs.{erases, is_erased, is_tried}
use Rattle.place_taking.specs.Counts.{KeepsCounts, TakesNext, ErasesNextFree, Counted}
use Rattle.place_taking.specs.CountLaws.{EachTriedIsNext, ErasesCount, IsNextThen, OthersCountAsBefore, UntriedPlacesStayFree}
use Rattle.place_taking.specs.Spending.{is_found_worn}

-- ---- places that are as they were

pub keeps_counts : (before after : Places) → after ≡ before → KeepsCounts before after
keeps_counts before after is = record {
  counts = ap (λ (d : Places). d.erases) is;
  free = λ p free. subst (λ (d : Places). IsFree d p) (sym is) free;
}

pub keeps_counts_then : (first mid last : Places) → KeepsCounts first mid → KeepsCounts mid last
    → KeepsCounts first last
keeps_counts_then first mid last one two = record {
  counts = two.counts ∙ one.counts;
  free = λ p free. two.free p (one.free p free);
}

-- a place that is given back
pub keeps_given_back : (d : Places) (p : ℕ) → KeepsCounts d (with_use d p false)
keeps_given_back d p = record {
  counts = refl;
  free = λ q free. elim (cases_eq q p) [
    | inl same ↦ rw same (get_or-set_same d.in_use p false true
        (let low : p < length d.in_use = omega (arith, free_within d q free, same) in low))
    | inr apart ↦ get_or-set_other d.in_use p q false true apart ∙ free
  ];
}

-- ---- events, and no more

takes_still : (before mid after : Places) (p : ℕ) (counts : List ℕ) → TakesNext before p counts mid
    → KeepsCounts mid after → TakesNext before p counts after
takes_still before mid after p counts takes keeps = record {
  next = takes.next;
  counts_are = keeps.counts ∙ takes.counts_are;
  others = λ q apart free. keeps.free q (takes.others q apart free);
}

erases_still : (before mid after : Places) (p : ℕ) → ErasesNextFree before p mid
    → KeepsCounts mid after → ErasesNextFree before p after
erases_still before mid after p (inl takes) keeps =
    inl (takes_still before mid after p (with_erased before p).erases takes keeps)
erases_still before mid after p (inr (next, same)) keeps =
    inr (next, keeps_counts_then before mid after same keeps)

pub counted_still : (added : Story) (before mid after : Places) → Counted added before mid
    → KeepsCounts mid after → Counted added before after
counted_still [] before mid after counted keeps = keeps_counts_then before mid after counted keeps
counted_still (Read p s ∷ older) before mid after counted keeps =
    counted_still older before mid after counted keeps
counted_still (Program p s bytes ∷ older) before mid after counted keeps =
    counted_still older before mid after counted keeps
counted_still (Erase p ∷ older) before mid after (then, was, last) keeps =
    (then, was, erases_still then mid after p last keeps)
counted_still (Barrier ∷ older) before mid after counted keeps =
    counted_still older before mid after counted keeps
counted_still (Worn p ∷ older) before mid after (then, was, last) keeps =
    (then, was, takes_still then mid after p then.erases last keeps)
counted_still (Said piece ∷ older) before mid after counted keeps =
    counted_still older before mid after counted keeps

-- events, and more events
pub counted_then : (later earlier : Story) (first mid last : Places) → Counted earlier first mid
    → Counted later mid last → Counted (later ++ earlier) first last
counted_then [] earlier first mid last one two = counted_still earlier first mid last one two
counted_then (Read p s ∷ later) earlier first mid last one two =
    counted_then later earlier first mid last one two
counted_then (Program p s bytes ∷ later) earlier first mid last one two =
    counted_then later earlier first mid last one two
counted_then (Erase p ∷ later) earlier first mid last one (then, was, step) =
    (then, counted_then later earlier first mid then one was, step)
counted_then (Barrier ∷ later) earlier first mid last one two =
    counted_then later earlier first mid last one two
counted_then (Worn p ∷ later) earlier first mid last one (then, was, step) =
    (then, counted_then later earlier first mid then one was, step)
counted_then (Said piece ∷ later) earlier first mid last one two =
    counted_then later earlier first mid last one two

-- events that try no erase
pub counted_none : (added : Story) (before after : Places) → erases added ≤ 0
    → KeepsCounts before after → Counted added before after
counted_none [] before after none keeps = keeps
counted_none (Read p s ∷ older) before after none keeps = counted_none older before after none keeps
counted_none (Program p s bytes ∷ older) before after none keeps =
    counted_none older before after none keeps
counted_none (Erase p ∷ older) before after none keeps = absurd (omega (arith, none))
counted_none (Barrier ∷ older) before after none keeps = counted_none older before after none keeps
counted_none (Worn p ∷ older) before after none keeps = absurd (omega (arith, none))
counted_none (Said piece ∷ older) before after none keeps = counted_none older before after none keeps

-- ---- what it comes to

neither : (a b : Bool) → (a || b) ≡ false → (a ≡ false) × (b ≡ false)
neither true b is = absurd (false≢true (sym is))
neither false b is = (refl, is)

apart_of : (q p : ℕ) → (q == p) ≡ false → p ≢ q
apart_of q p apart same = false≢true (sym apart ∙ eq-eqb q p (sym same))

erased_elsewhere : (before after : Places) (p q : ℕ) → (q == p) ≡ false → ErasesNextFree before q after
    → slice_index after.erases p ≡ slice_index before.erases p
erased_elsewhere before after p q apart (inl takes) =
    ap (λ (l : List ℕ). slice_index l p) takes.counts_are
    ∙ get_or-set_other before.erases q p (one_more (slice_index before.erases q)) 0
    (apart_of q p apart)
erased_elsewhere before after p q apart (inr (next, keeps)) =
    ap (λ (l : List ℕ). slice_index l p) keeps.counts

-- a place that wasn't erased counts as it did
pub others_count_as_before : OthersCountAsBefore
others_count_as_before [] before after counted p is =
    ap (λ (l : List ℕ). slice_index l p) counted.counts
others_count_as_before (Read q s ∷ older) before after counted p is =
    others_count_as_before older before after counted p is
others_count_as_before (Program q s bytes ∷ older) before after counted p is =
    others_count_as_before older before after counted p is
others_count_as_before (Erase q ∷ older) before after (then, was, last) p is =
    let (apart, none) = neither (q == p) (is_erased older p) is in
    erased_elsewhere then after p q apart last ∙ others_count_as_before older before then was p none
others_count_as_before (Barrier ∷ older) before after counted p is =
    others_count_as_before older before after counted p is
others_count_as_before (Worn q ∷ older) before after (then, was, last) p is =
    ap (λ (l : List ℕ). slice_index l p) last.counts_are
    ∙ others_count_as_before older before then was p is
others_count_as_before (Said piece ∷ older) before after counted p is =
    others_count_as_before older before after counted p is

free_elsewhere : (before after : Places) (q p : ℕ) → (q == p) ≡ false → ErasesNextFree before q after
    → IsFree before p → IsFree after p
free_elsewhere before after q p apart (inl takes) free = takes.others p (apart_of q p apart) free
free_elsewhere before after q p apart (inr (next, keeps)) free = keeps.free p free

-- a free place that wasn't tried is free still
pub untried_places_stay_free : UntriedPlacesStayFree
untried_places_stay_free [] before after counted p none free = counted.free p free
untried_places_stay_free (Read q s ∷ older) before after counted p none free =
    untried_places_stay_free older before after counted p none free
untried_places_stay_free (Program q s bytes ∷ older) before after counted p none free =
    untried_places_stay_free older before after counted p none free
untried_places_stay_free (Erase q ∷ older) before after (then, was, last) p none free =
    let (apart, earlier) = neither (q == p) (is_tried older p) none in
    free_elsewhere then after q p apart last (untried_places_stay_free older before then was p earlier free)
untried_places_stay_free (Barrier ∷ older) before after counted p none free =
    untried_places_stay_free older before after counted p none free
untried_places_stay_free (Worn q ∷ older) before after (then, was, last) p none free =
    let (apart, earlier) = neither (q == p) (is_tried older p) none in
    last.others p (apart_of q p apart) (untried_places_stay_free older before then was p earlier free)
untried_places_stay_free (Said piece ∷ older) before after counted p none free =
    untried_places_stay_free older before after counted p none free

-- each that was tried was the next free one
pub each_tried_is_next : EachTriedIsNext
each_tried_is_next later earlier before after p (inl erased) = erased_next later after erased
  where
    erased_next : (later : Story) (after : Places) → Counted (later ++ Erase p ∷ earlier) before after
        → IsNextThen earlier before p
    erased_next [] after (then, was, inl takes) = record { then = then; counted = was; next = takes.next }
    erased_next [] after (then, was, inr (next, keeps)) = record { then = then; counted = was; next = next }
    erased_next (Read q s ∷ later) after counted = erased_next later after counted
    erased_next (Program q s bytes ∷ later) after counted = erased_next later after counted
    erased_next (Erase q ∷ later) after (then, was, last) = erased_next later then was
    erased_next (Barrier ∷ later) after counted = erased_next later after counted
    erased_next (Worn q ∷ later) after (then, was, last) = erased_next later then was
    erased_next (Said piece ∷ later) after counted = erased_next later after counted
each_tried_is_next later earlier before after p (inr worn) = worn_next later after worn
  where
    worn_next : (later : Story) (after : Places) → Counted (later ++ Worn p ∷ earlier) before after
        → IsNextThen earlier before p
    worn_next [] after (then, was, takes) = record { then = then; counted = was; next = takes.next }
    worn_next (Read q s ∷ later) after counted = worn_next later after counted
    worn_next (Program q s bytes ∷ later) after counted = worn_next later after counted
    worn_next (Erase q ∷ later) after (then, was, last) = worn_next later then was
    worn_next (Barrier ∷ later) after counted = worn_next later after counted
    worn_next (Worn q ∷ later) after (then, was, last) = worn_next later then was
    worn_next (Said piece ∷ later) after counted = worn_next later after counted

-- ---- a place that was erased

one_more_rises : (a b : ℕ) → a ≤ b → one_more a ≤ one_more b
one_more_rises a b less = grind (arith, nat_tests, less)

one_more_above : (a : ℕ) → a ≤ one_more a
one_more_above a = grind (arith, nat_tests)

-- where one is erased, the counts are as many, none falls, and that of the place rises
record Rises (before after : Places) (p : ℕ) : Type 0 where
  all : length after.erases ≡ length before.erases
  least : slice_index before.erases p ≤ slice_index after.erases p

rises_same : (before after : Places) (p : ℕ) → after.erases ≡ before.erases → Rises before after p
rises_same before after p same = record {
  all = ap (λ (l : List ℕ). length l) same;
  least = let is = ap (λ (l : List ℕ). slice_index l p) same in omega (arith, is);
}

erased_here : (before : Places) (p : ℕ) → p < length before.erases
    → slice_index (with_erased before p).erases p ≡ one_more (slice_index before.erases p)
erased_here before p low = get_or-set_same before.erases p (one_more (slice_index before.erases p)) 0 low

rises_erased : (before after : Places) (q p : ℕ) → p < length before.erases → ErasesNextFree before q after
    → Rises before after p
rises_erased before after q p low (inr (next, keeps)) = rises_same before after p keeps.counts
rises_erased before after q p low (inl takes) = record {
  all = ap (λ (l : List ℕ). length l) takes.counts_are
      ∙ length-set before.erases q (one_more (slice_index before.erases q));
  least = elim (cases_Bool (q == p)) [
    | inl same ↦
        let at : q ≡ p = eqb-true q p same in
        let here : slice_index after.erases p ≡ one_more (slice_index before.erases p) =
        ap (λ (l : List ℕ). slice_index l p) takes.counts_are
        ∙ ap (λ (k : ℕ). slice_index (with_erased before k).erases p) at ∙ erased_here before p low in
        omega (arith, here, one_more_above (slice_index before.erases p))
    | inr apart ↦
        let same = erased_elsewhere before after p q apart (inl takes) in omega (arith, same)
  ];
}

rises : (added : Story) (before after : Places) → Counted added before after → (p : ℕ)
    → p < length before.erases → Rises before after p
rises [] before after counted p low = rises_same before after p counted.counts
rises (Read q s ∷ older) before after counted p low = rises older before after counted p low
rises (Program q s bytes ∷ older) before after counted p low = rises older before after counted p low
rises (Erase q ∷ older) before after (then, was, last) p low =
    let one = rises older before then was p low in
    let two = rises_erased then after q p (omega (arith, one.all, low)) last in
    record { all = two.all ∙ one.all; least = omega (arith, one.least, two.least) }
rises (Barrier ∷ older) before after counted p low = rises older before after counted p low
rises (Worn q ∷ older) before after (then, was, last) p low =
    let one = rises older before then was p low in
    let two = rises_same then after p last.counts_are in
    record { all = two.all ∙ one.all; least = omega (arith, one.least, two.least) }
rises (Said piece ∷ older) before after counted p low = rises older before after counted p low

-- it counts one more, or is free
erased_last : (first before after : Places) (p : ℕ) → p < length before.erases
    → slice_index first.erases p ≤ slice_index before.erases p → ErasesNextFree before p after
    → (one_more (slice_index first.erases p) ≤ slice_index after.erases p) ⊎ IsFree after p
erased_last first before after p low more (inl takes) =
    let here : slice_index after.erases p ≡ one_more (slice_index before.erases p) =
    ap (λ (l : List ℕ). slice_index l p) takes.counts_are ∙ erased_here before p low in
    inl (omega (arith, here, one_more_rises (slice_index first.erases p) (slice_index before.erases p) more))
erased_last first before after p low more (inr (next, keeps)) = inr (keeps.free p next.free)

-- and so it does after more events
erased_then : (n : ℕ) (before after : Places) (p : ℕ)
    → slice_index before.erases p ≤ slice_index after.erases p → (IsFree before p → IsFree after p)
    → (n ≤ slice_index before.erases p) ⊎ IsFree before p
    → (n ≤ slice_index after.erases p) ⊎ IsFree after p
erased_then n before after p more still (inl counts) = inl (omega (arith, counts, more))
erased_then n before after p more still (inr free) = inr (still free)

pub erases_count : ErasesCount
erases_count [] before after counted p low is unworn = absurd (false≢true is)
erases_count (Read q s ∷ older) before after counted p low is unworn =
    erases_count older before after counted p low is unworn
erases_count (Program q s bytes ∷ older) before after counted p low is unworn =
    erases_count older before after counted p low is unworn
erases_count (Erase q ∷ older) before after (then, was, last) p low is unworn =
    let one = rises older before then was p low in
    let there : p < length then.erases = omega (arith, one.all, low) in
    elim (cases_Bool (q == p)) [
      | inl same ↦ erased_last before then after p there one.least
          (subst (λ (k : ℕ). ErasesNextFree then k after) (eqb-true q p same) last)
      | inr apart ↦
          let earlier : is_erased older p ≡ true =
          ap (λ (b : Bool). b || is_erased older p) (sym apart) ∙ is in
          erased_then (one_more (slice_index before.erases p)) then after p
          (rises_erased then after q p there last).least (free_elsewhere then after q p apart last)
          (erases_count older before then was p low earlier unworn)
    ]
erases_count (Barrier ∷ older) before after counted p low is unworn =
    erases_count older before after counted p low is unworn
erases_count (Worn q ∷ older) before after (then, was, last) p low is unworn =
    let (apart, earlier) = neither (q == p) (is_found_worn older p) unworn in
    erased_then (one_more (slice_index before.erases p)) then after p
    (rises_same then after p last.counts_are).least (λ free. last.others p (apart_of q p apart) free)
    (erases_count older before then was p low is earlier)
erases_count (Said piece ∷ older) before after counted p low is unworn =
    erases_count older before after counted p low is unworn
