-- Why records aren't written out, from why a part of that failed.
use Rattle.std.proofs.Common.{◌≡◌, ℕ, slice_index, subst, arith}
use Rattle.chip_trait.specs.Told.{Told, Counts, Rose}
use Rattle.ipl_base.specs.declared.fault.ChipFault.{ChipFault}
use Rattle.ipl_base.specs.declared.fault.ChipFault.TheVariants.{Stopped}
use Rattle.ipl_meaning.specs.Tables.{Places, Tables, spots_of}
use Rattle.unit_io.specs.Leads.{IsStopped}
use Rattle.selective_merge.specs.Homes.{MergeCause}
use Rattle.page_frames.specs.Causes.{WritingCause}

-- the sector wasn't written
pub stopped_cause : (after : Places) (t : Tables) (u : ℕ) (e : ChipFault) (first old new : Told)
    → Counts first old → IsStopped e old new → WritingCause after t u e first new
stopped_cause after t u e first old new counts stopped =
    rw stopped.0 (omega (arith, counts.writes, stopped.1))

-- a write failed only where its count rose
pub writing_rose : (after : Places) (t : Tables) (u : ℕ) (e : ChipFault) (old new : Told)
    → WritingCause after t u e old new → e ≡ Stopped → Rose old.write_faults new.write_faults
writing_rose after t u e old new cause is =
    subst (λ (x : ChipFault). MergeCause after (slice_index t.places.current u) (spots_of t u) x old new)
    is cause
