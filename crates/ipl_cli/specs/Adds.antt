-- What the program adds to what happened to the chip.
use Rattle.std.specs.Prelude.{ℕ, ◌≡◌, Bool, true, false, ◌++◌, None, Some}
use Rattle.std.specs.Option.{option_map}
use Rattle.chip_trait.specs.Lawful.{IsLawful, AreClean}
use Rattle.chip_trait.specs.Story.{Story}
use Rattle.chip_trait.specs.Told.{Told, adds_all}
use Rattle.ipl_meaning.specs.Marks.{IsMarked}
use Rattle.unit_io.specs.Reads.{OfContents}
use Rattle.command_line.specs.declared.asked.Request.TheVariants.{Format, Run, Serial, Check, Trial, Records}
use Rattle.ipl_cli.specs.Ending.{AskedFor}

-- Whatever the chip tells and whatever it holds: what was added is lawful after any lawful events, so
-- that no sector is programmed twice between erases of its place.
pub record AddsLawful (old new : Told) : Type 0 where
  pub added : Story
  pub history : new.history ≡ option_map (adds_all added) old.history
  pub lawful : (base : Story) → IsLawful base → IsLawful (added ++ base)

-- The same of a chip on which a mark may stand, after any lawful events that leave clean what was taken for
-- clean: over a chip that tells what it holds, only sectors that a mark there says to be.
pub record AddsLawfulByMark (old new : Told) : Type 0 where
  pub added : Story
  pub history : new.history ≡ option_map (adds_all added) old.history
  pub marked : ℕ → ℕ → Bool
  pub right : OfContents old (λ x. (p s : ℕ) → marked p s ≡ true → IsMarked old.places x p s)
  pub lawful : (base : Story) → IsLawful base → AreClean (λ p s. marked p s ≡ true) base → IsLawful (added ++ base)

-- only a run over a chip that is opened asks for marks
abbrev pub AddsAsAsked : AskedFor → Told → Told → Type 0
AddsAsAsked None old new = AddsLawful old new
AddsAsAsked (Some (Format spares)) old new = AddsLawful old new
AddsAsAsked (Some (Run frames sessions numbers true closes)) old new = AddsLawful old new
AddsAsAsked (Some (Run frames sessions numbers false closes)) old new = AddsLawfulByMark old new
AddsAsAsked (Some (Serial sessions)) old new = AddsLawful old new
AddsAsAsked (Some Check) old new = AddsLawful old new
AddsAsAsked (Some Records) old new = AddsLawful old new
AddsAsAsked (Some (Trial seed count frames sessions numbers)) old new = AddsLawful old new
