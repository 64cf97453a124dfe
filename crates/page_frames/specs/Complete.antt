-- When calls on pages fail, over contents that stand for a state.
use Rattle.std.specs.Prelude.{ℕ, ◌≤◌, Result}
use Rattle.ipl_base.specs.declared.limits.TheConstants.{PAGE_LEN}
use Rattle.chip_trait.specs.Told.{Told}
use Rattle.ipl_base.specs.declared.fault.ChipFault.{ChipFault}
use Rattle.ipl_model.specs.State.{State}
use Rattle.record_locks.specs.Held.{SessionSlots}
use Rattle.ipl_meaning.specs.Legible.{whole}
use Rattle.ipl_meaning.specs.Chart.{chart_of}
use Rattle.ipl_meaning.specs.Layout.{Layout}
use Rattle.ipl_meaning.specs.Mirrors.{Mirrors}
use Rattle.ipl_meaning.specs.Stands.{Shows, Says}
use Rattle.ipl_meaning.specs.Tables.{Tables}
use Rattle.ipl_meaning.specs.Values.{Values}
use Rattle.unit_io.specs.Reads.{OfContents}
use Rattle.number_set.specs.Numbers.{among}
use Rattle.selective_merge.specs.Faults.{FailsByChipAlone}
use Rattle.page_ops.specs.Pending.{fill_by}
use Rattle.page_rebuild.specs.Loaded.{loaded_pending}
use Rattle.store_laws.specs.Advances.{memory_of, MemoryFits}
use Rattle.page_frames.specs.declared.pages.Pages.{Pages}
use Rattle.page_frames.specs.Pages.{tables_in, frames_in}

-- Where the chip tells what it holds, and that with the tables, the frames and whatever sessions
-- stands for a state, the call fails only where a call of the chip failed.
abbrev pub FailsByChip : {T : Type 0} → Pages → Result T ChipFault → Told → Type 0
FailsByChip pages result told = OfContents told (λ x. (slots : SessionSlots) (it : Layout) (state : State)
    → MemoryFits told.places (chart_of x) it
    (memory_of (tables_in pages) (frames_in pages) slots) state
    → Says told.places (chart_of x) it (whole state.map) → FailsByChipAlone result)

-- where the tables mirror what the chip holds, and the page shows some values for which, with what is
-- pending there, it has room, it fails only where a call of the chip failed
abbrev pub CompletesLoad : {T : Type 0} → Tables → ℕ → ℕ → Result T ChipFault → Told → Type 0
CompletesLoad t u page result told = OfContents told (λ x. (it : Layout) (now : Values)
    → Mirrors told.places (chart_of x) it t
    → Shows (chart_of x) it.committed u (it.units u) page now
    → fill_by now (loaded_pending it (among t.active) u page) ≤ PAGE_LEN → FailsByChipAlone result)
