-- What a log sector adds by the tables alone, whatever the chip tells.
use Rattle.std.proofs.Common.{◌≡◌, ◌<◌, ℕ, true, false, length, Result, Err, inl, inr, sym, subst, arith}
use Rattle.chip_trait.specs.Told.{Told, Rose}
use Rattle.ipl_base.specs.declared.fault.ChipFault.{ChipFault}
use Rattle.ipl_meaning.specs.Tables.{Tables, IsCountedClean}
use Rattle.ipl_meaning.specs.TableSteps.{CountedShrink, with_next}
use Rattle.unit_io.specs.Costs.{Spends}
use Rattle.unit_io.specs.Spots.{Programs, IsSpot}
use Rattle.unit_io.specs.Steps.{Tidies}
use Rattle.unit_io.proofs.TablesLemmas.{tables_programmed}
use Rattle.selective_merge.specs.Known.{KnowsPlaces}
use Rattle.selective_merge.proofs.KnownCleanLemmas.{home_shrinks, overflow_shrinks}
use Rattle.selective_merge.specs.Spotting.{IsSpotFor}
use Rattle.page_frames.specs.Writing.{IsAfterLog}
use Rattle.page_frames.proofs.SpotLemmas.{spot_counted, spot_of_log}

module _ (places : ℕ) (t after : Tables) (u p s mask next : ℕ) (known : KnowsPlaces places t)
    (low : u < length t.places.current) where
  -- the sector was counted as clean, and isn't then
  log_shrinks : length t.places.written ≡ length t.places.current → IsAfterLog t after u p s mask next
      → CountedShrink t after p s
  log_shrinks logs (inl (home, is)) =
      rw (is, home.place, home.sector) (home_shrinks places t known u mask next low logs home.left)
  log_shrinks logs (inr (over, is)) =
      rw is (overflow_shrinks places t known u p s mask next over.first)

  -- a log sector was written to its spot
  pub logs_tidily : (T : Type 0) (result : Result T ChipFault) (old new : Told)
      → length t.places.written ≡ length t.places.current → IsAfterLog t after u p s mask next
      → Spends (Programs p (IsSpot s) true) old new → Tidies t result after old new
  logs_tidily T result old new logs is =
      tables_programmed t after p (IsSpot s) true result old new
      (λ n at. subst (IsCountedClean t p) (sym at)
      (spot_counted t u p s low
      (spot_of_log t after u p s mask next is)))
      (λ settled q n counted. log_shrinks logs is q n counted)

  -- or it wasn't, where a write failed and a number was drawn
  pub fails_tidily : (T : Type 0) (e : ChipFault) (old new : Told) → IsSpotFor t u p s
      → Rose old.write_faults new.write_faults → Spends (Programs p (IsSpot s) false) old new
      → Tidies {T = T} t (Err e) (with_next t next) old new
  fails_tidily T e old new spot rose =
      tables_programmed {T = T} t (with_next t next) p (IsSpot s) false (Err e) old new
      (λ n at. subst (IsCountedClean t p) (sym at)
      (spot_counted t u p s low spot))
      (λ settled q n counted. absurd (omega (arith, settled, rose)))
