-- Room in a page for its values and for what is pending.
use Rattle.std.proofs.Common.{◌≡◌, ◌≤◌, ◌<◌, ◌-◌, max, ℕ, false, List, Option, None, slice_index_or, ◌∙◌, ap, ap₂, inl, inr, ◌⊎◌, arith}
use Rattle.std.specs.Prelude.{◌↔◌, IsTrue}
use Rattle.std.proofs.Math.Nat.{le-max_left, le-max_right, max-le}
use Rattle.std.proofs.lemmas.Bool.{cases_lt, false≢true}
use Rattle.ipl_base.specs.declared.limits.TheConstants.{PAGE_LEN}
use Rattle.ipl_base.specs.Sizes.{size_in_page, size_of_values}
use Rattle.ipl_model.proofs.RulePeakLemmas.{le_trans}
use Rattle.ipl_meaning.specs.Values.{Values}
use Rattle.page_ops.specs.Pending.{Pending, Pendings, fill_by, peak_of}
use Rattle.page_ops.specs.Frames.{FrameView, HasNonePending, empty_frame, pending_in}
use Rattle.page_ops.proofs.FillLemmas.{fills_same, room_in_fill}
use Rattle.page_ops.proofs.FrameLemmas.{empty_idle, fills_by_less}

-- where some slots have the changes of more, and the others none, a page may come to take no more
pub fewer_pending : (values : Values) (few more : Pendings)
    → ((slot : ℕ) → slot < 64 → (few slot ≡ None) ⊎ (few slot ≡ more slot))
    → fill_by values few ≤ fill_by values more
fewer_pending values few more each =
    fills_by_less values values few more (λ slot low. elim (each slot low) [
      | inl none ↦
          let gone : peak_of (few slot) - 1 ≡ 0 = ap (λ (p : Option Pending). peak_of p - 1) none in
          max-le (le-max_left _ _) (omega (arith, gone))
      | inr same ↦
          let alike : peak_of (few slot) - 1 ≡ peak_of (more slot) - 1 =
          ap (λ (p : Option Pending). peak_of p - 1) same in
          max-le (le-max_left _ _)
          (le_trans (omega (arith, alike))
          (le-max_right (size_in_page (values slot)) (peak_of (more slot) - 1)))
    ])

-- slot by slot the same
pub same_fills : (v w : Values) (p q : Pendings)
    → ((slot : ℕ) → slot < 64 → v slot ≡ w slot) → ((slot : ℕ) → slot < 64 → p slot ≡ q slot)
    → fill_by v p ≡ fill_by w q
same_fills v w p q values changes =
    fills_same (λ k. peak_of (p k)) (λ k. peak_of (q k)) v w (λ slot low.
    ap₂ (λ (a : Option (List ℕ)) (b : Option Pending). max (size_in_page a) (peak_of b - 1))
    (values slot low) (changes slot low))

-- the values take no more than with what is pending
pub values_in_fill : (v : Values) (p : Pendings) → size_of_values v ≤ fill_by v p
values_in_fill v p = room_in_fill (λ k. peak_of (p k)) v v (λ slot low. le-max_left _ _)

-- what a test of room says
pub over_from : (n : ℕ) → (IsTrue false ↔ (n ≤ PAGE_LEN)) → PAGE_LEN < n
over_from n tells = elim (cases_lt PAGE_LEN n) [
  | inl over ↦ over
  | inr room ↦ absurd (false≢true (tells.1 room))
]

-- in a frame that was reset nothing is pending, and later where that stays as it was
pub idle_from : (f : FrameView) → f ≡ empty_frame → HasNonePending f
idle_from f same slot low =
    ap (λ (g : FrameView). pending_in g slot) same ∙ empty_idle slot low

pub idle_still : (f g : FrameView) → g.pending ≡ f.pending → HasNonePending f → HasNonePending g
idle_still f g same idle slot low =
    ap (λ (l : List (Option Pending)). slice_index_or l slot None) same ∙ idle slot low
