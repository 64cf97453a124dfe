-- The records of open sessions, after units were merged one after another and the status moved.
use Rattle.std.proofs.Common.{Bool, Some, ap, arith, false, inl, inr, refl, subst, suc, sym, zero, ℕ, ◌<◌, ◌∙◌, ◌≡◌, ◌≤◌}
use Rattle.std.specs.List.{All}
use Rattle.std.proofs.lemmas.Bool.{cases_eq}
use Rattle.ipl_model.specs.State.{State}
use Rattle.ipl_meaning.specs.Last.{carried}
use Rattle.ipl_meaning.specs.Layout.{Layout, Shape, records_of}
use Rattle.ipl_meaning.specs.Steps.{with_unit}
use Rattle.store_laws.specs.Pending.{Logs, SessionNumbers, HasPending}
use Rattle.store_laws.specs.PendingLaws.{StateHasOneWriter, AreActive, IsSameOrMerged, RenewalsKeepPending}
use Rattle.store_laws.proofs.MemoryLemmas.{unit_here, unit_other}
use Rattle.store_laws.proofs.MergeLemmas.{merges_keep_pending, same_logs_keep_pending}

module _ (units : ℕ) (it new : Layout) (logs : Logs) (numbers : SessionNumbers) (state : State) (active : ℕ → Bool)
    (has : HasPending units it logs numbers state) (one : StateHasOneWriter state)
    (tells : AreActive numbers active)
    (alike : (u : ℕ) → u < units → IsSameOrMerged active (it.units u) (new.units u)) where
  -- the first n units are the new ones
  abbrev upto : ℕ → Layout
  upto zero = it
  upto (suc n) = with_unit (upto n) n (new.units n)

  past : (n v : ℕ) → n ≤ v → (upto n).units v ≡ it.units v
  past zero v high = refl
  past (suc n) v high =
      unit_other (upto n) n (new.units n) v (λ same. omega (arith, high, same)) ∙ past n v (omega (arith, high))

  there : (n v : ℕ) → v < n → (upto n).units v ≡ new.units v
  there zero v low = absurd (omega (arith, low))
  there (suc n) v low = elim (cases_eq v n) [
    | inl same ↦ unit_here (upto n) n (new.units n) v same ∙ ap new.units (sym same)
    | inr other ↦ unit_other (upto n) n (new.units n) v other ∙ there n v (omega (arith, low, other))
  ]

  committed_same : (n : ℕ) → (upto n).committed ≡ it.committed
  committed_same zero = refl
  committed_same (suc n) = committed_same n

  -- where the next unit has the same records, all have
  next_same : (n : ℕ) → records_of (new.units n).log ≡ records_of (it.units n).log → (u : ℕ)
      → records_of ((upto (suc n)).units u).log ≡ records_of ((upto n).units u).log
  next_same n same u = elim (cases_eq u n) [
    | inr other ↦ ap (λ (s : Shape). records_of s.log) (unit_other (upto n) n (new.units n) u other)
    | inl here ↦
        ap (λ (s : Shape). records_of s.log) (unit_here (upto n) n (new.units n) u here)
        ∙ same
        ∙ ap (λ (s : Shape). records_of s.log) (sym (past n n (omega arith)))
        ∙ ap (λ (v : ℕ). records_of ((upto n).units v).log) (sym here)
  ]

  pending_upto : (n : ℕ) → n ≤ units → HasPending units (upto n) logs numbers state
  pending_upto zero few = has
  pending_upto (suc n) few =
      let before = pending_upto n (omega (arith, few)) in
      elim (alike n (omega (arith, few))) [
        | inl same ↦
            same_logs_keep_pending units (upto n) (upto (suc n)) logs numbers state before
            (λ u low. next_same n same u) (λ u low i d within. refl) before.waits
        | inr merged ↦
            let was = ap (λ (s : Shape). carried active (records_of s.log)) (sym (past n n (omega arith))) in
            merges_keep_pending units (upto n) logs numbers state active n (new.units n) before one tells
            (merged ∙ was)
      ]

  renewed : ((u : ℕ) → u < units
      → All (λ r. new.committed r.tid ≡ it.committed r.tid) (records_of (new.units u).log))
      → ((s tid : ℕ) → numbers s ≡ Some tid → new.committed tid ≡ false) → HasPending units new logs numbers state
  renewed kept waits =
      let all = upto units in
      same_logs_keep_pending units all new logs numbers state (pending_upto units (omega arith))
      (λ u low. ap (λ (s : Shape). records_of s.log) (sym (there units u low)))
      (λ u low.
      subst (λ (s : Shape). All (λ r. new.committed r.tid ≡ all.committed r.tid) (records_of s.log))
      (sym (there units u low))
      (subst (λ (f : ℕ → Bool). All (λ r. new.committed r.tid ≡ f r.tid) (records_of (new.units u).log))
      (sym (committed_same units)) (kept u low)))
      waits

pub renewals_keep_pending : RenewalsKeepPending
renewals_keep_pending units it new logs numbers state active has one tells alike =
    renewed units it new logs numbers state active has one tells alike
