-- Units that can't be merged for what the chip holds.
use Rattle.std.specs.Prelude.{ℕ, ◌≡◌, ◌≢◌, ◌<◌, Some}
use Rattle.ipl_base.specs.declared.limits.TheConstants.{PAGES}
use Rattle.chip_trait.specs.Story.{Contents}
use Rattle.ipl_base.specs.declared.fault.ChipFault.{ChipFault}
use Rattle.ipl_base.specs.declared.fault.ChipFault.TheVariants.{ReadFault, Stopped, Damaged, Malformed, WornOut}
use Rattle.ipl_meaning.specs.Chart.{Chart, chart_of}
use Rattle.ipl_meaning.specs.Layout.{Layout}
use Rattle.ipl_meaning.specs.Tables.{Tables}
use Rattle.selective_merge.specs.Faults.{merge_fault}
use Rattle.selective_merge.specs.Pages.{IsBaseSpotBelow}

-- something is wrong with the unit, so that it can't be merged: a page of it doesn't read well or has no
-- room for its values, or more than 12 log sectors would be carried
abbrev pub HasFault : Contents → Layout → Tables → ℕ → Type 0
HasFault x it t u = (e : ChipFault) × (merge_fault x t (it.units u) u ≡ Some e)

-- the same, where a chart is known: contents that have it say so
abbrev pub IsStuck : Chart → Layout → Tables → ℕ → Type 0
IsStuck c it t u = (x : Contents) × (chart_of x ≡ c) × HasFault x it t u

-- there is such a unit
abbrev pub OneIsStuck : Chart → Layout → Tables → Type 0
OneIsStuck c it t = (u : ℕ) × (u < it.count) × IsStuck c it t u

-- a fault that a merge finds in what the chip holds: a base sector whose sums differ, or a sector that isn't
-- what it must be
abbrev pub IsHeldFault : ChipFault → Type 0
IsHeldFault ReadFault = ⊥
IsHeldFault Stopped = ⊥
IsHeldFault (Damaged p s stored computed) = IsBaseSpotBelow PAGES s × (stored ≢ computed)
IsHeldFault (Malformed p s) = Unit {0}
IsHeldFault (WornOut n) = ⊥
