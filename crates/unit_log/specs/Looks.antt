-- Calls that look at sectors of a chip, and why they fail.
use Rattle.std.specs.Prelude.{ℕ, ◌≡◌, ◌⊎◌, ◌<◌, ◌≤◌, List, Result, Contains, IfErr}
use Rattle.ipl_base.specs.declared.limits.TheConstants.{SECTORS, FIRST_LOG_SECTOR}
use Rattle.chip_trait.specs.Told.{Told}
use Rattle.ipl_base.specs.declared.fault.ChipFault.{ChipFault}
use Rattle.unit_io.specs.ReadsAt.{IsAt, ReadsAt, IsCauseAt}

-- a sector of this place, from one on
abbrev pub IsFrom : ℕ → ℕ → ℕ → ℕ → Type 0
IsFrom place from p s = (p ≡ place) × (from ≤ s) × (s < SECTORS)

-- one of these spots
abbrev pub IsListed : List (ℕ × ℕ) → ℕ → ℕ → Type 0
IsListed spots p s = Contains spots (p, s)

-- where a unit's log may be read: the header and the last 15 sectors of its place, and these spots
abbrev pub IsLogRead : ℕ → List (ℕ × ℕ) → ℕ → ℕ → Type 0
IsLogRead home spots p s = IsAt home 0 p s ⊎ IsFrom home FIRST_LOG_SECTOR p s ⊎ IsListed spots p s

-- However the call ended, it added nothing but reads of these sectors. Where it failed, a read did
-- and
-- the count of these rose; or one of these sectors isn't what it must be.
pub record LooksAt {T : Type 0} (At : ℕ → ℕ → Type 0) (result : Result T ChipFault)
    (old new : Told) : Type 0 where
  pub reads : ReadsAt At old new
  pub cause : IfErr result (λ fault. IsCauseAt At fault old new)
