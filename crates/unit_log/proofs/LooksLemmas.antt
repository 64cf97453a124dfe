-- Calls that look, one after another.
use Rattle.std.proofs.Common.{◌≡◌, ◌≤◌, ℕ, List, Result, Ok, Err, IfErr, inl, inr, refl, ◌∙◌, subst, arith}
use Rattle.std.specs.List.{Contains}
use Rattle.chip_trait.specs.declared.event.Event.TheVariants.{Read}
use Rattle.chip_trait.specs.Told.{Told, Rose}
use Rattle.ipl_base.specs.declared.fault.ChipFault.{ChipFault}
use Rattle.ipl_base.specs.declared.fault.ChipFault.TheVariants.{ReadFault, Stopped, Damaged, Malformed, WornOut}
use Rattle.unit_io.specs.Accounts.{Accounts}
use Rattle.unit_io.specs.Reads.{Asked, IsReadFault}
use Rattle.unit_io.specs.ReadsAt.{IsAt, ReadsAt, IsCauseAt}
use Rattle.unit_io.proofs.ReadsAtLemmas.{at_then, at_wider, at_asked}
use Rattle.unit_log.specs.Paged.{IsPageLogRead}
use Rattle.unit_log.specs.Looks.{IsFrom, IsListed, IsLogRead, LooksAt}

-- ---- one sector

read_fault : (At : ℕ → ℕ → Type 0) (fault : ChipFault) (old new : Told) → fault ≡ ReadFault
    → Rose old.read_faults new.read_faults → IsCauseAt At fault old new
read_fault At ReadFault old new is rose = rose
read_fault At Stopped old new is rose = absurd (cc is)
read_fault At (Damaged p s stored computed) old new is rose = absurd (cc is)
read_fault At (Malformed p s) old new is rose = absurd (cc is)
read_fault At (WornOut n) old new is rose = absurd (cc is)

malformed : (At : ℕ → ℕ → Type 0) (p s : ℕ) (fault : ChipFault) (old new : Told)
    → fault ≡ Malformed p s → At p s → IsCauseAt At fault old new
malformed At p s fault old new is here = rw is here

-- it was read, and what was read of it isn't what it must be, or is
pub looks_read : {T U : Type 0} (p s : ℕ) (value : U) (result : Result T ChipFault) (old new : Told)
    → Asked {T = U} (Read p s) (Ok value) old new
    → Accounts {T = U} IsReadFault (Ok value) old new
    → IfErr result (λ fault. fault ≡ Malformed p s)
    → LooksAt (IsAt p s) result old new
looks_read p s value (Ok v) old new asked accounts fault = record {
  reads = at_asked (IsAt p s) p s (Ok value) old new (refl, refl) asked accounts.counts;
  cause = tt;
}
looks_read p s value (Err e) old new asked accounts fault = record {
  reads = at_asked (IsAt p s) p s (Ok value) old new (refl, refl) asked accounts.counts;
  cause = malformed (IsAt p s) p s e old new fault (refl, refl);
}

-- it wasn't read
pub looks_missed : {T U : Type 0} (p s : ℕ) (fault other : ChipFault) (result : Result T ChipFault)
    (old new : Told) → result ≡ Err other → other ≡ fault
    → Asked {T = U} (Read p s) (Err fault) old new
    → Accounts {T = U} IsReadFault (Err fault) old new
    → LooksAt (IsAt p s) result old new
looks_missed {T} {U} p s fault other result old new is same asked accounts = rw (is, same) (record {
  reads = at_asked {T = U} (IsAt p s) p s (Err fault) old new (refl, refl) asked accounts.counts;
  cause = read_fault (IsAt p s) fault old new accounts.cause.0 accounts.cause.1;
})

-- ---- one call after another

cause_wider : (At More : ℕ → ℕ → Type 0) (fault : ChipFault) (old mid new : Told)
    → old.read_faults ≤ mid.read_faults → ((p s : ℕ) → At p s → More p s)
    → IsCauseAt At fault mid new → IsCauseAt More fault old new
cause_wider At More ReadFault old mid new later wider rose = omega (arith, later, rose)
cause_wider At More Stopped old mid new later wider none = none
cause_wider At More (Damaged p s stored computed) old mid new later wider none = none
cause_wider At More (Malformed p s) old mid new later wider is = wider p s is
cause_wider At More (WornOut n) old mid new later wider none = none

module _ (At More : ℕ → ℕ → Type 0) (wider : (p s : ℕ) → At p s → More p s) where
  -- after such reads
  pub looks_then : {T : Type 0} (result : Result T ChipFault) (old mid new : Told)
      → ReadsAt More old mid → LooksAt At result mid new → LooksAt More result old new
  looks_then (Ok v) old mid new before looks = record {
    reads = at_then More old mid new before (at_wider At More mid new wider looks.reads);
    cause = tt;
  }
  looks_then (Err e) old mid new before looks = record {
    reads = at_then More old mid new before (at_wider At More mid new wider looks.reads);
    cause = cause_wider At More e old mid new before.counts.reads wider looks.cause;
  }

  -- where the call failed, and its fault is handed on
  pub looks_failed : {T U : Type 0} (fault other : ChipFault) (result : Result T ChipFault)
      (old mid new : Told) → result ≡ Err other → other ≡ fault
      → ReadsAt More old mid → LooksAt {T = U} At (Err fault) mid new → LooksAt More result old new
  looks_failed {T} {U} fault other result old mid new is same before looks = rw (is, same) (record {
    reads = at_then More old mid new before (at_wider At More mid new wider looks.reads);
    cause = cause_wider At More fault old mid new before.counts.reads wider looks.cause;
  })

  -- the reads of one that was done
  pub reads_then : (old mid new : Told) → ReadsAt More old mid → ReadsAt At mid new
      → ReadsAt More old new
  reads_then old mid new before reads =
      at_then More old mid new before (at_wider At More mid new wider reads)

-- ---- where they look

-- one sector, where it is one of those
pub at_one : (At : ℕ → ℕ → Type 0) (place sector : ℕ) → At place sector
    → (p s : ℕ) → IsAt place sector p s → At p s
at_one At place sector here p s is = rw (is.0, is.1) here

module _ (home place : ℕ) (own spots : List (ℕ × ℕ)) (at : place ≡ home) (same : own ≡ spots) where
  pub at_header : (p s : ℕ) → IsAt place 0 p s → IsLogRead home spots p s
  at_header p s is = inl (is.0 ∙ at, is.1)

  pub at_home : (p s : ℕ) → IsFrom place 241 p s → IsLogRead home spots p s
  at_home p s is = inr (inl (is.0 ∙ at, is.1, is.2))

  pub at_listed : (p s : ℕ) → IsListed own p s → IsLogRead home spots p s
  at_listed p s is = inr (inr (subst (λ (l : List (ℕ × ℕ)). Contains l (p, s)) same is))

  pub at_log : (p s : ℕ) → IsLogRead place own p s → IsLogRead home spots p s
  at_log p s (inl is) = at_header p s is
  at_log p s (inr (inl is)) = at_home p s is
  at_log p s (inr (inr is)) = at_listed p s is

-- where a page's log is read
pub at_page_header : (home place : ℕ) (spots : List (ℕ × ℕ)) → place ≡ home
    → (p s : ℕ) → IsAt place 0 p s → IsPageLogRead home spots p s
at_page_header home place spots at p s is = inl (is.0 ∙ at, is.1)

pub at_page_listed : (home : ℕ) (own spots : List (ℕ × ℕ)) → own ≡ spots
    → (p s : ℕ) → IsListed own p s → IsPageLogRead home spots p s
at_page_listed home own spots same p s is = inr (subst (λ (l : List (ℕ × ℕ)). Contains l (p, s)) same is)
