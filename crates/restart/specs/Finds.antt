-- What an opening finds.
use Rattle.std.specs.Prelude.{ℕ, ◌≡◌, Bool, true, false}
use Rattle.chip_trait.specs.Told.{Told}
use Rattle.ipl_meaning.specs.Chart.{chart_of}
use Rattle.ipl_meaning.specs.Layout.{Laid}
use Rattle.ipl_meaning.specs.Mirrors.{Mirrors}
use Rattle.ipl_meaning.specs.Tables.{Tables}
use Rattle.unit_io.specs.Reads.{OfContents}
use Rattle.selective_merge.specs.Known.{KnowsPlaces}
use Rattle.ipl_meaning.specs.LaidOut.{layout_in}
use Rattle.ipl_meaning.specs.Opened.{AreOpened}
use Rattle.restart.specs.Joins.{Kept}
use Rattle.restart.specs.Collected.{AreCollected}
use Rattle.restart.specs.Opened.{HasFree, IsUnmarked, CountsMarked, CountsExactly, KnowsWhole}

-- The tables say what the chip holds, which is laid out rightly, and so they mirror it; the committed numbers that
-- live log records have are kept, exactly where they are at most as many as may be. Whether the chip tells its contents or not,
-- the tables know each of its places, and a place may be taken, however many of the spare ones are worn. What they
-- count as clean is marked; where marks count, it is exactly what is marked of whole logs, of whose units something is
-- known; and where they don't, it is nothing, and nothing is known of log sectors, whatever the chip tells.
pub record FindsStore (places : ℕ) (told : Told) (marks : Bool) (t : Tables) (fits : Bool) (numbers : Kept)
    : Type 0 where
  pub opened : OfContents told (λ x. AreOpened places (chart_of x) t)
  pub laid : OfContents told (λ x. Laid places (chart_of x) (layout_in (chart_of x) places))
  pub mirrors : OfContents told (λ x. Mirrors places (chart_of x) (layout_in (chart_of x) places) t)
  pub collected : OfContents told (λ x. AreCollected places (chart_of x) fits numbers)
  pub known : KnowsPlaces places t
  pub free : HasFree t.places
  pub marked : OfContents told (λ x. CountsMarked places x t)
  pub exact : marks ≡ true → OfContents told (λ x. CountsExactly places x t)
  pub knows : marks ≡ true → OfContents told (λ x. KnowsWhole places x t)
  pub unmarked : marks ≡ false → IsUnmarked t
