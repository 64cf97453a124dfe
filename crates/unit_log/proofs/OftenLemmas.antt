-- How often calls read sectors, one after another.
use Rattle.std.proofs.Common.{◌≡◌, ◌≤◌, ◌+◌, ◌&&◌, eqb, ℕ, zero, suc, List, [], ◌∷◌, ◌++◌, Result, Ok, Err, inl, inr, ◌∙◌, subst, arith}
use Rattle.std.proofs.lemmas.Bool.{cases_Bool}
use Rattle.chip_trait.specs.declared.event.Event.TheVariants.{Read}
use Rattle.chip_trait.specs.Story.{Story}
use Rattle.chip_trait.specs.Told.{Told}
use Rattle.ipl_base.specs.declared.fault.ChipFault.{ChipFault}
use Rattle.unit_io.specs.Costs.{Spends}
use Rattle.unit_io.specs.Reads.{Asked}
use Rattle.unit_io.specs.ReadsAt.{reads_of}
use Rattle.unit_io.specs.Unread.{ReadsNothing}
use Rattle.unit_io.proofs.CostLemmas.{spends_none, spends_then, spends_weaker}
use Rattle.unit_io.proofs.OnceLemmas.{reads_joined}
use Rattle.unit_io.proofs.ReadsAtLemmas.{none_added}
use Rattle.unit_log.specs.Live.{spots_from}
use Rattle.unit_log.specs.Often.{times, ReadsListed}

-- ---- how often a list has a sector

pub times_joined : (a b : List (ℕ × ℕ)) (p s : ℕ) → times (a ++ b) p s ≡ times a p s + times b p s
times_joined [] b p s = omega arith
times_joined (spot ∷ a) b p s =
    let rest = times_joined a b p s in elim (cases_Bool (eqb spot.0 p && eqb spot.1 s)) [
      | inl is ↦ rw is (omega (arith, rest))
      | inr not ↦ rw not rest
    ]

-- the sectors of a place, in two parts
pub from_joined : (p s n m q t : ℕ)
    → times (spots_from p s (n + m)) q t ≡ times (spots_from p s n) q t + times (spots_from p (s + n) m) q t
from_joined p s zero m q t =
    let none : zero + m ≡ m = omega arith in
    let here : s + zero ≡ s = omega arith in rw (none, here) (omega arith)
from_joined p s (suc n) m q t =
    let more : suc n + m ≡ suc (n + m) = omega arith in
    let here : s + suc n ≡ s + 1 + n = omega arith in
    let rest = from_joined p (s + 1) n m q t in
    rw (more, here) (elim (cases_Bool (eqb p q && eqb s t)) [
      | inl is ↦ rw is (omega (arith, rest))
      | inr not ↦ rw not rest
    ])

-- fewer of them
pub from_fewer : (p s n m q t : ℕ) → n ≤ m → times (spots_from p s n) q t ≤ times (spots_from p s m) q t
from_fewer p s zero m q t less = omega arith
from_fewer p s (suc n) zero q t less = absurd (omega (arith, less))
from_fewer p s (suc n) (suc m) q t less =
    let rest = from_fewer p (s + 1) n m q t (omega (arith, less)) in
    elim (cases_Bool (eqb p q && eqb s t)) [
      | inl is ↦ rw is (omega (arith, rest))
      | inr not ↦ rw not rest
    ]

-- ---- calls

pub often_none : (t : Told) → Spends (ReadsListed []) t t
often_none t = spends_none (ReadsListed []) t (λ p s. omega arith)

pub often_wider : (a b : List (ℕ × ℕ)) (old new : Told) → ((p s : ℕ) → times a p s ≤ times b p s)
    → Spends (ReadsListed a) old new → Spends (ReadsListed b) old new
often_wider a b old new wider =
    spends_weaker (ReadsListed a) (ReadsListed b) old new
    (λ added reads p s. omega (arith, reads p s, wider p s))

-- the first of two
pub often_first : (a b : List (ℕ × ℕ)) (old new : Told) → Spends (ReadsListed a) old new
    → Spends (ReadsListed (a ++ b)) old new
often_first a b old new = often_wider a (a ++ b) old new (λ p s. omega (arith, times_joined a b p s))

pub often_then : (a b : List (ℕ × ℕ)) (old mid new : Told) → Spends (ReadsListed a) old mid
    → Spends (ReadsListed b) mid new → Spends (ReadsListed (a ++ b)) old new
often_then a b old mid new =
    spends_then (ReadsListed a) (ReadsListed b) (ReadsListed (a ++ b)) old mid new
    (λ later earlier one two p s.
    omega (arith, reads_joined later earlier p s, times_joined a b p s, one p s, two p s))

-- a call that reads nothing
pub often_unread : (a : List (ℕ × ℕ)) (old new : Told) → Spends ReadsNothing old new
    → Spends (ReadsListed a) old new
often_unread a old new =
    spends_weaker ReadsNothing (ReadsListed a) old new (λ added none p s. omega (arith, none p s))

-- before another one
pub often_behind : (a : List (ℕ × ℕ)) (old mid new : Told) → Spends ReadsNothing old mid
    → Spends (ReadsListed a) mid new → Spends (ReadsListed a) old new
often_behind a old mid new none = often_then [] a old mid new (often_unread [] old mid none)

-- and after it
pub often_before : (a : List (ℕ × ℕ)) (old mid new : Told) → Spends (ReadsListed a) old mid
    → Spends ReadsNothing mid new → Spends (ReadsListed a) old new
often_before a old mid new =
    spends_then (ReadsListed a) ReadsNothing (ReadsListed a) old mid new
    (λ later earlier one two p s. omega (arith, reads_joined later earlier p s, one p s, two p s))

-- one read, done or not
pub often_asked : {T : Type 0} (p s : ℕ) (result : Result T ChipFault) (old new : Told)
    → Asked (Read p s) result old new → Spends (ReadsListed ((p, s) ∷ [])) old new
often_asked p s (Ok v) old new did = record {
  added = Read p s ∷ [];
  does = λ q t. omega arith;
  history = did.history;
}
often_asked p s (Err e) old new did = elim did.history [
  | inl some ↦ record { added = Read p s ∷ []; does = λ q t. omega arith; history = some }
  | inr same ↦ record {
    added = [];
    does = λ q t. omega arith;
    history = same ∙ none_added old.history;
  }
]

-- ---- one spot after another

-- of all the spots those that are left weren't read
abbrev pub ReadsBut : List (ℕ × ℕ) → List (ℕ × ℕ) → Story → Type 0
ReadsBut all left added = (p s : ℕ) → reads_of added p s + times left p s ≤ times all p s

pub but_none : (all : List (ℕ × ℕ)) (t : Told) → Spends (ReadsBut all all) t t
but_none all t = spends_none (ReadsBut all all) t (λ p s. omega arith)

pub but_more : (all left rest : List (ℕ × ℕ)) (p s : ℕ) (old mid new : Told) → left ≡ (p, s) ∷ rest
    → Spends (ReadsBut all left) old mid → Spends (ReadsListed ((p, s) ∷ [])) mid new
    → Spends (ReadsBut all rest) old new
but_more all left rest p s old mid new step so_far =
    spends_then (ReadsBut all ((p, s) ∷ rest)) (ReadsListed ((p, s) ∷ [])) (ReadsBut all rest) old mid new
    (λ later earlier one two q t.
    omega (arith, reads_joined later earlier q t, times_joined ((p, s) ∷ []) rest q t, one q t, two q t))
    (subst (λ (l : List (ℕ × ℕ)). Spends (ReadsBut all l) old mid) step so_far)

pub but_all : (all left : List (ℕ × ℕ)) (old new : Told) → Spends (ReadsBut all left) old new
    → Spends (ReadsListed all) old new
but_all all left old new =
    spends_weaker (ReadsBut all left) (ReadsListed all) old new
    (λ added reads p s. omega (arith, reads p s))
