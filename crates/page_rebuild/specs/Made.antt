-- A page that is made anew, part by part.
use Rattle.std.specs.Prelude.{ℕ, ◌<◌, Bool, List}
use Rattle.ipl_base.specs.declared.limits.TheConstants.{PAGE_LEN}
use Rattle.ipl_base.specs.Sizes.{size_of_values}
use Rattle.ipl_format.specs.Page.{Slots}
use Rattle.ipl_format.specs.Record.{Record}
use Rattle.ipl_meaning.specs.Values.{Values}
use Rattle.page_ops.specs.Rebuilt.{with_records, IsMaking}
use Rattle.page_rebuild.specs.Parts.{ComeNext, ArePassedOn}

-- the values with all these records are more than a page holds
abbrev pub AreTooMany : (ℕ → Bool) → ℕ → List Record → Values → Type 0
AreTooMany committed page all base =
    PAGE_LEN < size_of_values (with_records committed page all base)

-- of a page that is made anew these records come next
abbrev pub AreAhead : (ℕ → Bool) → ℕ → List Record → List ℕ → Slots → Type 0
AreAhead committed page next counts now = ComeNext (IsMaking committed page) next counts now

-- These records of it were passed: it is made anew so far; or a page hasn't room for all.
abbrev pub AreRecordsPassed : (ℕ → Bool) → ℕ → List Record → List ℕ → Slots → List ℕ → Slots → Bool → Type 0
AreRecordsPassed committed page passed counts now later new room =
    ArePassedOn (IsMaking committed page) (AreTooMany committed page) passed counts now later new room
