-- What counts as clean once a mark was written.
use Rattle.std.proofs.Common.{◌≡◌, ◌<◌, ◌↔◌, ℕ, [], Result, Ok, Err, OnOk, IfErr, is_ok, inl, inr, refl, sym, ◌∙◌, subst, arith}
use Rattle.chip_trait.specs.Told.{History, Told}
use Rattle.ipl_base.specs.declared.fault.ChipFault.{ChipFault}
use Rattle.ipl_meaning.specs.Layout.{Layout}
use Rattle.ipl_meaning.specs.Rests.{now}
use Rattle.ipl_meaning.specs.Tables.{StatusTable, Tables, IsCountedClean}
use Rattle.ipl_meaning.specs.Mirrors.{Mirrors}
use Rattle.ipl_meaning.proofs.ApartLemmas.{home_not_status}
use Rattle.unit_io.specs.Costs.{Spends}
use Rattle.unit_io.specs.Leads.{IsStopped}
use Rattle.unit_io.specs.Spots.{Programs, IsSpot}
use Rattle.unit_io.specs.Steps.{Settled, Tidies}
use Rattle.unit_io.proofs.TablesLemmas.{tables_programmed}
use Rattle.txn_status.specs.Status.{after_mark}
use Rattle.selective_merge.specs.Known.{KnowsPlaces}
use Rattle.selective_merge.proofs.KnownCleanLemmas.{commit_shrinks}

-- the tables with another status and counter
abbrev pub with_status : Tables → StatusTable → ℕ → Tables
with_status t status next = record t { status = status; next = next }

-- what is counted so still was so before, and isn't the sector of the mark
abbrev pub MarkShrinks : Tables → Tables → ℕ → ℕ → Type 0
MarkShrinks t after q s = IsCountedClean after q s
    → IsCountedClean t q s × (q ≡ t.status.place → s ≡ t.status.first → ⊥)

pub mark_shrinks : {T : Type 0} (places : ℕ) (t : Tables) (status : StatusTable) (next : ℕ) (result : Result T ChipFault)
    (old new : Told) → KnowsPlaces places t
    → OnOk result (status ≡ after_mark t.status) → IfErr result (λ fault. IsStopped fault old new)
    → Settled result old new → (q s : ℕ) → MarkShrinks t (with_status t status next) q s
mark_shrinks places t status next (Ok v) old new known marked stopped settled q s =
    subst (λ (w : StatusTable). MarkShrinks t (with_status t w next) q s) (sym marked)
    (commit_shrinks places t known [] [] next q s)
mark_shrinks places t status next (Err e) old new known marked stopped settled q s =
    absurd (omega (arith, stopped.1, settled))

-- the first clean sector of the status place is counted so
pub spot_counted : (t : Tables) → t.status.first < 256 → (s : ℕ) → s ≡ t.status.first
    → IsCountedClean t t.status.place s
spot_counted t room s at = (omega (arith, room, at), inr (inr (refl, omega (arith, at))))

-- one program of it
pub mark_tidies : {T : Type 0} (places : ℕ) (t : Tables) (status : StatusTable) (next : ℕ) (result : Result T ChipFault)
    (old new : Told) → KnowsPlaces places t → t.status.first < 256
    → OnOk result (status ≡ after_mark t.status) → IfErr result (λ fault. IsStopped fault old new)
    → Spends (Programs t.status.place (IsSpot t.status.first) (is_ok result)) old new
    → Tidies t result (with_status t status next) old new
mark_tidies places t status next result old new known room marked stopped =
    tables_programmed t (with_status t status next) t.status.place (IsSpot t.status.first) (is_ok result) result old new
    (spot_counted t room) (mark_shrinks places t status next result old new known marked stopped)

-- at the units' places the same is counted, from whichever sector on the status place is clean
module _ (places : ℕ) (h : History) (it : Layout) (t : Tables) (first next u n : ℕ) (mirrors : Mirrors places (now h) it t)
    (low : u < it.count) where
  abbrev home : ℕ
  home = (it.units u).home

  abbrev after : Tables
  after = with_status t (record t.status { first = first }) next

  elsewhere : home ≡ t.status.place → ⊥
  elsewhere at = home_not_status places (now h) it mirrors.laid u low (at ∙ mirrors.status.place)

  counted_then : IsCountedClean t home n → IsCountedClean after home n
  counted_then (small, inl at_home) = (small, inl at_home)
  counted_then (small, inr (inl over)) = (small, inr (inl over))
  counted_then (small, inr (inr (is, above))) = absurd (elsewhere is)

  counted_before : IsCountedClean after home n → IsCountedClean t home n
  counted_before (small, inl at_home) = (small, inl at_home)
  counted_before (small, inr (inl over)) = (small, inr (inl over))
  counted_before (small, inr (inr (is, above))) = absurd (elsewhere is)

  pub counted_at_home : IsCountedClean t home n ↔ IsCountedClean after home n
  counted_at_home = (counted_then, counted_before)
