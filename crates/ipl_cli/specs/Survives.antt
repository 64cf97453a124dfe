-- What a power cut leaves of a run, over a chip that tells what it holds and a script that is told.
use Rattle.std.specs.Prelude.{◌≡◌, ◌⊎◌, ◌++◌, ℕ, suc, List, Some}
use Rattle.std.specs.Option.{option_map}
use Rattle.std.specs.FinMap.{empty}
use Rattle.ipl_base.specs.Places.{units_on}
use Rattle.chip_trait.specs.Chart.{says}
use Rattle.chip_trait.specs.Story.{Story, Contents, held, said}
use Rattle.chip_trait.specs.Image.{IsNoChanceImage}
use Rattle.chip_trait.specs.Told.{Told, Unrisen, adds_all}
use Rattle.ipl_model.specs.State.{Limits, at_rest}
use Rattle.ipl_model.specs.Grammar.{commands_of}
use Rattle.ipl_model.specs.Run.{answered, map_after}
use Rattle.ipl_format.specs.Sector.{sector_in}
use Rattle.ipl_meaning.specs.Legible.{Legible, IsToldApart, of, whole}
use Rattle.ipl_meaning.specs.Chart.{chart_of}
use Rattle.ipl_meaning.specs.Stands.{StandsIn}
use Rattle.restart.specs.Events.{format_events}
use Rattle.store_laws.specs.Keeps.{limits_of}

-- The contents stand, in as many units as the limits say, for the records after r commands of the script, from the
-- records m and under these limits, or after one more: r is the greatest number of commands with whose replies the bytes begin.
-- That is said of the pages of which m is.
abbrev pub StandsAfterAnswered : ℕ → Limits → Legible → List ℕ → List ℕ → Contents → Type 0
StandsAfterAnswered places limits m script bytes y =
    let r = answered limits (at_rest m.map) (commands_of script) bytes in
    StandsIn places limits.units (chart_of y) (of m.pages (map_after limits m.map script r))
    ⊎ StandsIn places limits.units (chart_of y) (of m.pages (map_after limits m.map script (suc r)))

-- A run over a chip that held x, under these limits. There are events by which what is told
-- of its history grew, and which make of x what it holds at the end, unless a write failed. Wherever
-- among them the power is cut, within a chip operation too, what that leaves, but by chance, stands for
-- the records after the commands whose replies were said by then, or after one more.
pub record SurvivesFrom (limits : Limits) (m : Legible) (script : List ℕ) (x : Contents) (old new : Told) : Type 0 where
  pub added : Story
  pub grew : new.history ≡ option_map (adds_all added) old.history
  pub holds : Unrisen old new → new.contents ≡ Some (held x added)
  pub cut : (later e : Story) (y : Contents) → later ++ e ≡ added
      → IsNoChanceImage (says sector_in) x e y
      → StandsAfterAnswered old.places limits m script (said e) y

-- so it is of so many sessions over every chip that tells what it holds, where that stands for records in so many units, whichever pages don't read
-- well: each page is one of whose names it is said, or known not to
abbrev pub Survives : ℕ → Told → Told → Type 0
Survives sessions old new = (x : Contents) (units : ℕ) (m : Legible) (script : List ℕ) → old.contents ≡ Some x
    → StandsIn old.places units (chart_of x) m → IsToldApart m.pages → old.beside.left ≡ Some script
    → SurvivesFrom (limits_of sessions units) m script x old new

-- The same over a chip that is formatted first, with no place to spare, from the format's last barrier
-- on: whatever it held, from no records.
pub record SurvivesFormat (sessions : ℕ) (script : List ℕ) (x : Contents) (old new : Told) : Type 0 where
  pub added : Story
  pub grew : new.history ≡ option_map (adds_all added) old.history
  pub holds : Unrisen old new → new.contents ≡ Some (held x added)
  pub cut : (later e : Story) (y : Contents)
      → later ++ (e ++ format_events old.places (units_on old.places)) ≡ added
      → IsNoChanceImage (says sector_in) x (e ++ format_events old.places (units_on old.places)) y
      → StandsAfterAnswered old.places (limits_of sessions (units_on old.places)) (whole empty) script (said e) y

-- so over every chip that tells what it holds
abbrev pub SurvivesAnew : ℕ → Told → Told → Type 0
SurvivesAnew sessions old new = (x : Contents) (script : List ℕ) → old.contents ≡ Some x
    → old.beside.left ≡ Some script → SurvivesFormat sessions script x old new
