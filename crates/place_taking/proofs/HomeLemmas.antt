-- The units of which nothing is known, over several calls.
use Rattle.std.proofs.Common.{◌≡◌, ◌<◌, ◌≤◌, ◌++◌, ◌||◌, ℕ, Bool, true, false, List, length, slice_index, inl, inr, ◌∙◌, ap, subst}
use Rattle.std.proofs.lemmas.Bool.{cases_Bool}
use Rattle.chip_trait.specs.Story.{Story}
use Rattle.chip_trait.specs.Told.{Told}
use Rattle.ipl_meaning.specs.Tables.{Places, IsFree, UNKNOWN_LOGS}
use Rattle.unit_directory.proofs.AsideLemmas.{next_places_are_aside}
use Rattle.unit_io.specs.Costs.{Spends, erases, is_tried}
use Rattle.unit_io.proofs.CostLemmas.{spends_then, tried_joined}
use Rattle.place_taking.specs.Homes.{HomesAreUsed, KeepsHomes, ErasesKnown, LeavesPlaces}
use Rattle.place_taking.specs.Spending.{ErasesFree, TriesInTurn}
use Rattle.place_taking.proofs.CountedLemmas.{counted_then}
use Rattle.place_taking.proofs.SpendingLemmas.{none_tried, retires_then}

-- ---- tables alike

-- the same places, of which as much is known
pub homes_same : (before after : Places) → after.current ≡ before.current
    → after.written ≡ before.written → KeepsHomes before after
homes_same before after current written u low unknown = record {
  low = subst (λ (l : List ℕ). u < length l) current low;
  unknown = subst (λ (l : List ℕ). UNKNOWN_LOGS ≤ slice_index l u) written unknown;
  place = ap (λ (l : List ℕ). slice_index l u) current;
}

pub homes_equal : (before after : Places) → after ≡ before → KeepsHomes before after
homes_equal before after is =
    homes_same before after (ap (λ (d : Places). d.current) is) (ap (λ (d : Places). d.written) is)

pub homes_then : (first mid last : Places) → KeepsHomes first mid → KeepsHomes mid last
    → KeepsHomes first last
homes_then first mid last one two u low unknown =
    let later = two u low unknown in
    let earlier = one u later.low later.unknown in record {
      low = earlier.low;
      unknown = earlier.unknown;
      place = later.place ∙ earlier.place;
    }

-- ---- events

-- a place that wasn't tried
untried : (added : Story) (p : ℕ) → (is_tried added p ≡ true → ⊥) → is_tried added p ≡ false
untried added p none = elim (cases_Bool (is_tried added p)) [
  | inl is ↦ absurd (none is)
  | inr not ↦ not
]

-- events that try no erase
pub known_untried : (before after : Places) (added : Story) → KeepsHomes before after
    → erases added ≤ 0 → ErasesKnown before after added
known_untried before after added homes none u low unknown =
    let p = slice_index before.current u in
    (homes u low unknown, untried added p (none_tried p added none))

-- events, and more events
pub known_then : (first mid last : Places) (later earlier : Story) → ErasesKnown first mid earlier
    → ErasesKnown mid last later → ErasesKnown first last (later ++ earlier)
known_then first mid last later earlier one two u low unknown =
    let (after, now) = two u low unknown in
    let (before, was) = one u after.low after.unknown in
    let p = slice_index first.current u in
    let still : is_tried later p ≡ false =
    subst (λ (q : ℕ). is_tried later q ≡ false) before.place now in (
      record {
        low = before.low;
        unknown = before.unknown;
        place = after.place ∙ before.place;
      },
      tried_joined later earlier p ∙ ap (λ (b : Bool). b || is_tried earlier p) still ∙ was,
    )

-- and tables then that keep what is known
pub known_with : (before mid after : Places) (added : Story) → ErasesKnown before mid added
    → KeepsHomes mid after → ErasesKnown before after added
known_with before mid after added known homes u low unknown =
    let later = homes u low unknown in
    let (stays, untried) = known u later.low later.unknown in (
      record {
        low = stays.low;
        unknown = stays.unknown;
        place = later.place ∙ stays.place;
      },
      untried,
    )

-- ---- erases of free places

-- each place that was tried was free before
pub tried_free : (before after : Places) (added : Story) → TriesInTurn before after added → (p : ℕ)
    → is_tried added p ≡ true → IsFree before p
tried_free before after added tries p is =
    let others = next_places_are_aside before tries.worn tries.in_turn in elim (tries.tried p is) [
      | inl worn ↦ others.was_free p worn
      | inr next ↦ ((others.free p).0 next.free).0
    ]

-- so no unit's place was
pub known_in_turn : (before after : Places) (added : Story) → HomesAreUsed before
    → KeepsHomes before after → TriesInTurn before after added → ErasesKnown before after added
known_in_turn before after added used homes tries u low unknown =
    let stays = homes u low unknown in
    let p = slice_index before.current u in (
      stays,
      untried added p (λ is. used u stays.low (tried_free before after added tries p is)),
    )

-- ---- all that is left of places

-- by a call that takes free places
pub erases_leave : (before after : Places) (most_barriers : ℕ) (worn_out : Bool) (added : Story)
    → HomesAreUsed before → KeepsHomes before after
    → ErasesFree before after most_barriers worn_out added → LeavesPlaces before after worn_out added
erases_leave before after most_barriers worn_out added used homes does = record {
  retires = does.retires;
  homes = known_in_turn before after added used homes does.tries;
  counted = does.counted;
}

pub leaves_then : (first mid last : Places) (worn_out : Bool) (later earlier : Story)
    → LeavesPlaces first mid false earlier → LeavesPlaces mid last worn_out later
    → LeavesPlaces first last worn_out (later ++ earlier)
leaves_then first mid last worn_out later earlier one two = record {
  retires = retires_then first mid last worn_out later earlier one.retires two.retires;
  homes = known_then first mid last later earlier one.homes two.homes;
  counted = counted_then later earlier first mid last one.counted two.counted;
}

-- of chips, whatever they tell
pub places_then : (before mid after : Places) (worn_out : Bool) (old middle new : Told)
    → Spends (LeavesPlaces before mid false) old middle
    → Spends (LeavesPlaces mid after worn_out) middle new
    → Spends (LeavesPlaces before after worn_out) old new
places_then before mid after worn_out old middle new =
    spends_then (LeavesPlaces before mid false) (LeavesPlaces mid after worn_out)
    (LeavesPlaces before after worn_out) old middle new
    (λ later earlier one two. leaves_then before mid after worn_out later earlier one two)
