-- Of how many units something was made.
use Rattle.std.proofs.Common.{◌≡◌, ◌≢◌, ◌⊎◌, inl, inr, ℕ, zero, suc, ◌<◌, ◌≤◌, ◌+◌, Bool, true, false, replicate, refl, sym, ◌∙◌, ap, arith}
use Rattle.std.specs.Prelude.{slice_index_or, if◌then◌else◌}
use Rattle.std.proofs.lemmas.Bool.{cases_Bool, cases_eq, false≢true}
use Rattle.ipl_base.specs.declared.fault.ChipFault.{ChipFault}
use Rattle.restart.specs.Turns.{ends, merges, sticks, is_ended, is_merged, is_stuck, count_below, ended_below, IsSet}
use Rattle.restart.specs.declared.turns.Turn.{Turn}
use Rattle.restart.specs.declared.turns.Turn.TheVariants.{Open, Merged, Stuck}
use Rattle.restart.specs.declared.turns.Turns.{Turns}

-- ---- how many there are

module _ (is now : ℕ → Bool) where
  count_same : (n : ℕ) → ((u : ℕ) → u < n → now u ≡ is u) → count_below now n ≡ count_below is n
  unfolding count_below
  count_same zero same = refl
  count_same (suc n) same =
      let low : n < suc n = omega arith in
      let before = count_same n (λ u less. same u (omega (arith, less))) in
      rw (same n low) (ap (λ (k : ℕ). k + (if is n then 1 else 0)) before)

  count_set : (n u : ℕ) → u < n → is u ≡ false → now u ≡ true
      → ((v : ℕ) → v ≢ u → now v ≡ is v) → count_below now n ≡ count_below is n + 1
  unfolding count_below
  count_set zero u low old new others = absurd (omega (arith, low))
  count_set (suc n) u low old new others = elim (cases_eq n u) [
    | inl at ↦
        let before = count_same n (λ v less. others v (λ same. omega (arith, at, same, less))) in
        let here : now n ≡ true = ap now at ∙ new in
        let was : is n ≡ false = ap is at ∙ old in
        rw (here, was) (omega (arith, before))
    | inr other ↦
        let before = count_set n u (omega (arith, low, other)) old new others in
        rw (others n other) (omega (arith, before))
  ]

  count_more : (n : ℕ) → ((u : ℕ) → u < n → is u ≡ true → now u ≡ true)
      → count_below is n ≤ count_below now n
  unfolding count_below
  count_more zero more = omega arith
  count_more (suc n) more =
      let before = count_more n (λ u less. more u (omega (arith, less))) in
      elim (cases_Bool (is n)) [
        | inl so ↦
            let still : now n ≡ true = more n (omega arith) so in rw (so, still) (omega (arith, before))
        | inr other ↦ rw other (omega (arith, before))
      ]

count_most : (is : ℕ → Bool) (n : ℕ) → count_below is n ≤ n
unfolding count_below
count_most is zero = omega arith
count_most is (suc n) =
    let before = count_most is n in elim (cases_Bool (is n)) [
      | inl so ↦ rw so (omega (arith, before))
      | inr other ↦ rw other (omega (arith, before))
    ]

-- where it isn't so of one they aren't all
count_but : (is : ℕ → Bool) (n u : ℕ) → u < n → is u ≡ false → count_below is n + 1 ≤ n
unfolding count_below
count_but is zero u low none = absurd (omega (arith, low))
count_but is (suc n) u low none = elim (cases_eq n u) [
  | inl at ↦
      let most = count_most is n in
      let here : is n ≡ false = ap is at ∙ none in rw here (omega (arith, most))
  | inr other ↦
      let before = count_but is n u (omega (arith, low, other)) none in
      elim (cases_Bool (is n)) [
        | inl so ↦ rw so (omega (arith, before))
        | inr still ↦ rw still (omega (arith, before))
      ]
]

-- ---- units

pub ended_most : (turns : Turns) (n : ℕ) → ended_below turns n ≤ n
ended_most turns n = count_most (is_ended turns) n

-- where nothing was made of one
pub ended_but : (turns : Turns) (n u : ℕ) → u < n → is_ended turns u ≡ false
    → ended_below turns n + 1 ≤ n
ended_but turns n u low idle = count_but (is_ended turns) n u low idle

module _ (old new : Turns) (unit : ℕ) (turn : Turn) (fault : ChipFault)
    (set : IsSet old new unit turn fault) where
  pub merged_others : (u : ℕ) → u ≢ unit → is_merged new u ≡ is_merged old u
  merged_others u apart = ap merges (set.others u apart)

  pub stuck_others : (u : ℕ) → u ≢ unit → is_stuck new u ≡ is_stuck old u
  stuck_others u apart = ap sticks (set.others u apart)

  pub ended_more : ends turn ≡ true → is_ended old unit ≡ false → (n : ℕ) → unit < n
      → ended_below new n ≡ ended_below old n + 1
  ended_more ended was n low = count_set (is_ended old) (is_ended new) n unit low was
      (ap ends set.here ∙ ended) (λ v apart. ap ends (set.others v apart))

-- of what nothing was made was neither merged, nor is it stuck
pub open_turn : (turn : Turn) → ends turn ≡ false → turn ≡ Open
open_turn Open is = refl
open_turn Merged is = absurd (false≢true (sym is))
open_turn Stuck is = absurd (false≢true (sym is))

pub ended_turn : (turn : Turn) → ends turn ≡ true → (merges turn ≡ true) ⊎ (sticks turn ≡ true)
ended_turn Open is = absurd (false≢true is)
ended_turn Merged is = inl refl
ended_turn Stuck is = inr refl

pub stuck_unmerged : (turn : Turn) → sticks turn ≡ true → merges turn ≡ false
stuck_unmerged Open is = refl
stuck_unmerged Merged is = absurd (false≢true is)
stuck_unmerged Stuck is = refl

-- at first
pub all_open : (n u : ℕ) → slice_index_or (replicate n Open) u Open ≡ Open
all_open zero u = refl
all_open (suc n) zero = refl
all_open (suc n) (suc u) = all_open n u

-- a unit that was merged and is stuck after all
pub set_again : (old mid new : Turns) (unit : ℕ) (one two : Turn) (first fault : ChipFault)
    → IsSet old mid unit one first → IsSet mid new unit two fault → IsSet old new unit two fault
set_again old mid new unit one two first fault before set = record {
  here = set.here;
  others = λ u apart. set.others u apart ∙ before.others u apart;
  fault_is = set.fault_is;
}
