-- One sector programmed.
use Rattle.std.proofs.Common.{◌≡◌, ◌≢◌, ℕ, List, [], false, Some, None, Result, Ok, Err, OnOk, ◌∙◌, ap}
use Rattle.std.specs.Option.{option_map}
use Rattle.chip_trait.specs.declared.event.Event.TheVariants.{Program}
use Rattle.chip_trait.specs.Story.{Contents, after}
use Rattle.chip_trait.specs.Lawful.{Clean, age}
use Rattle.chip_trait.specs.Told.{History, Told, adds}
use Rattle.chip_trait.proofs.AgeLemmas.{clean_blank, clean_closed, clean_lasting}
use Rattle.chip_trait.proofs.ClosedLemmas.{held_program}
use Rattle.ipl_base.specs.declared.fault.ChipFault.{ChipFault}
use Rattle.ipl_meaning.specs.Legible.{Legible}
use Rattle.ipl_format.specs.Sector.{Sector, sector_in}
use Rattle.ipl_format.specs.Record.{Record}
use Rattle.ipl_meaning.specs.Chart.{chart_of}
use Rattle.ipl_meaning.specs.Layout.{Layout, Laid}
use Rattle.ipl_meaning.specs.Rests.{now, EachStands, StoryRests}
use Rattle.ipl_meaning.specs.Steps.{MayLog}
use Rattle.ipl_meaning.specs.Rests.{IsUntouched}
use Rattle.ipl_meaning.specs.Marks.{KeepsMarks}
use Rattle.ipl_meaning.proofs.StoryLemmas.{asides_keep, log_sectors_keep}
use Rattle.ipl_meaning.proofs.MarkProgramLemmas.{asides_keep_marks, log_sectors_keep_marks}
use Rattle.unit_io.specs.Leads.{IsSteady, RestsWith, KeepsMap, Did}
use Rattle.unit_io.specs.Spots.{Programs, IsSpot}
use Rattle.unit_io.specs.Charts.{Charts, Gains}
use Rattle.unit_io.proofs.LeadsLemmas.{leads_did}
use Rattle.unit_io.proofs.SpotLemmas.{programs_none, programs_one}

-- a clean sector may be programmed
pub untouched : (h : History) (p s : ℕ) → age h.story p s ≡ Clean → IsUntouched h p s
untouched h p s clean = (clean_blank h.start h.story p s clean, clean_closed h.story p s clean, clean_lasting h.story p s clean)

-- what a program makes of a chart
pub programmed_chart : (p s : ℕ) (bytes : List ℕ) (sector : Sector) (x : Contents) → sector_in bytes ≡ Some sector → Gains p s sector (chart_of x) (chart_of (after (Program p s bytes) x))
programmed_chart p s bytes sector x says = held_program sector_in x [] p s bytes sector says

module _ (p s : ℕ) (bytes : List ℕ) (sector : Sector) (says : sector_in bytes ≡ Some sector) (m : Legible) (h : History) (old new : Told) (result : Result (Unit {0}) ChipFault)
    (steady : IsSteady h old) (did : Did (Program p s bytes) result old new) (rests : StoryRests old.places m h) (fresh : IsUntouched h p s) where
  -- where the story rests on the map after it too, and marks are kept
  kept : StoryRests old.places m (adds (Program p s bytes) h) → KeepsMarks old.places h (adds (Program p s bytes) h)
      → KeepsMap old.places m (Programs p (IsSpot s)) (λ done. Gains p s sector) h old result new
  kept after_it marks = leads_did (EachStands old.places m) (Programs p (IsSpot s)) h old new steady (RestsWith old.places m (λ done. Gains p s sector) h)
      (Program p s bytes) result did rests.each after_it.each (λ _. marks) (programs_one p s bytes) (programs_none p (IsSpot s) false)
      (after_it, held_program sector_in h.start h.story p s bytes sector says)

  -- in a place without a header
  pub aside_leads : now h p 0 ≡ None → s ≢ 0
      → KeepsMap old.places m (Programs p (IsSpot s)) (λ done. Gains p s sector) h old result new
  aside_leads bare other = kept (asides_keep old.places m h p s bytes sector rests fresh says bare other)
      (asides_keep_marks old.places m h p s bytes sector rests fresh says bare other)

  -- among the live sectors of its unit
  pub log_leads : (it : Layout) (u : ℕ) (records : List Record) → Laid old.places (now h) it → MayLog old.places (now h) it u p s sector records
      → KeepsMap old.places m (Programs p (IsSpot s)) (λ done. Gains p s sector) h old result new
  log_leads it u records laid may = kept (log_sectors_keep old.places m h it u p s bytes sector records rests fresh says laid may)
      (log_sectors_keep_marks old.places m h it u p s bytes sector records rests fresh says laid may)

-- what is told of the contents
pub program_tells : (p s : ℕ) (bytes : List ℕ) (sector : Sector) (old new : Told) (result : Result (Unit {0}) ChipFault) → sector_in bytes ≡ Some sector → Did (Program p s bytes) result old new
    → OnOk result (Charts (Gains p s sector) old new)
program_tells p s bytes sector old new (Ok v) says did = λ x told.
    (after (Program p s bytes) x, did.contents ∙ ap (option_map (after (Program p s bytes))) told, programmed_chart p s bytes sector x says)
program_tells p s bytes sector old new (Err e) says did = tt

-- the same call, its spot and its sector named otherwise
pub aside_renamed : (places p s t : ℕ) (sector other : Sector) (m : Legible) (h : History) (old new : Told) (result : Result (Unit {0}) ChipFault) → s ≡ t → sector ≡ other
    → KeepsMap places m (Programs p (IsSpot s)) (λ done. Gains p s sector) h old result new
    → KeepsMap places m (Programs p (IsSpot t)) (λ done. Gains p t other) h old result new
aside_renamed places p s t sector other m h old new result at is did = rw (← at, ← is) did
