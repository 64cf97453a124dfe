-- What writing a page's records out leaves of worn places.
use Rattle.std.proofs.Common.{◌≡◌, ◌≢◌, ◌==◌, ◌&&◌, ℕ, Bool, true, false, inl, inr, refl, ◌∙◌, ap, arith, subst, sym}
use Rattle.std.proofs.lemmas.Bool.{cases_Bool, and_parts, eqb-true}
use Rattle.chip_trait.specs.Told.{Told}
use Rattle.ipl_format.specs.Sector.{Sector}
use Rattle.ipl_meaning.specs.Chart.{Chart, chart_of}
use Rattle.ipl_meaning.specs.Tables.{Places, StatusTable, Tables}
use Rattle.unit_io.specs.Charts.{Charts, Gains}
use Rattle.unit_io.specs.Costs.{ProgramsAt, Spends}
use Rattle.unit_io.proofs.CostLemmas.{spends_weaker}
use Rattle.place_taking.specs.Counts.{KeepsCounts}
use Rattle.place_taking.proofs.CountedLemmas.{keeps_counts}
use Rattle.place_taking.specs.Laws.{IsAlikeInWear, KeepsFirst}
use Rattle.place_taking.specs.Homes.{LeavesPlaces}
use Rattle.place_taking.specs.Spending.{ErasesFree, SparesUsed}
use Rattle.place_taking.specs.Wear.{TellsOfWear}
use Rattle.place_taking.proofs.HomeLemmas.{erases_leave, homes_equal}
use Rattle.place_taking.proofs.WearLemmas.{failures_wear, programs_leave_places, programs_wear_nothing, spared_places_wear}
use Rattle.selective_merge.specs.Known.{KnowsPlaces}
use Rattle.selective_merge.specs.Moving.{Holds}
use Rattle.selective_merge.proofs.HeldLemmas.{homes_used}
use Rattle.selective_merge.specs.Spotting.{IsSpotFor}
use Rattle.page_frames.specs.Writing.{IsAfterLog}
use Rattle.page_frames.proofs.SpotLemmas.{log_homes, log_status, spot_of_log}

-- ---- one sector

-- what is programmed behind the first sector of a place leaves each first sector as it is
firsts_stay : (t : Tables) (p s : ℕ) (sector : Sector) (c y : Chart) → s ≢ 0 → Gains p s sector c y
    → KeepsFirst t c y
firsts_stay t p s sector c y behind gains = elim (cases_Bool ((p == t.status.place) && (s == 0))) [
  | inl at ↦ absurd (behind (eqb-true s 0 (and_parts _ _ at).1))
  | inr apart ↦ ap (λ (k : Chart). k t.status.place 0) gains ∙ rw apart refl
]

-- a sector was programmed there
pub sectors_wear_nothing : (t after : Tables) (p s kind : ℕ) (sector : Sector) (old new : Told)
    → s ≢ 0 → IsAlikeInWear t after → Spends (ProgramsAt p 1 0 kind) old new
    → Charts (Gains p s sector) old new → TellsOfWear t after true false old new
sectors_wear_nothing t after p s kind sector old new behind alike programs gains =
    programs_wear_nothing t after true false old new alike
    (programs_leave_places t.places after.places p 1 0 kind old new alike.retired alike.homes alike.counts programs)
    (λ done x told.
    let (y, there, gained) = gains x told in
    (y, there, firsts_stay t p s sector (chart_of x) (chart_of y) behind gained))

-- or it wasn't
pub unwritten_wears : (t after : Tables) (p kind : ℕ) (old new : Told)
    → after.places ≡ t.places → Spends (ProgramsAt p 1 0 kind) old new
    → TellsOfWear t after false false old new
unwritten_wears t after p kind old new same programs =
    failures_wear t after false old new
    (programs_leave_places t.places after.places p 1 0 kind old new
    (ap (λ (d : Places). d.retired) same) (homes_equal t.places after.places same)
    (keeps_counts t.places after.places same) programs)

-- ---- a log sector

-- its spot is behind the first sector
spot_behind : (t : Tables) (u p s : ℕ) → IsSpotFor t u p s → s ≢ 0
spot_behind t u p s (inl home) none = omega (arith, home.sector, none)
spot_behind t u p s (inr over) none = omega (arith, over.within.0, none)

log_retired : (t after : Tables) (u p s mask next : ℕ) → IsAfterLog t after u p s mask next
    → after.places.retired ≡ t.places.retired
log_retired t after u p s mask next (inl (home, is)) = ap (λ (x : Tables). x.places.retired) is
log_retired t after u p s mask next (inr (over, is)) = ap (λ (x : Tables). x.places.retired) is

-- no place counts otherwise, and none that was free is taken
log_counts : (t after : Tables) (u p s mask next : ℕ) → IsAfterLog t after u p s mask next
    → KeepsCounts t.places after.places
log_counts t after u p s mask next (inl (home, is)) =
    subst (λ (x : Tables). KeepsCounts t.places x.places) (sym is) (record { counts = refl; free = λ q free. free })
log_counts t after u p s mask next (inr (over, is)) =
    subst (λ (x : Tables). KeepsCounts t.places x.places) (sym is) (record { counts = refl; free = λ q free. free })

-- it was written to its spot
pub logs_wear_nothing : (t after : Tables) (u p s mask next : ℕ) (sector : Sector) (old new : Told)
    → IsAfterLog t after u p s mask next → Spends (ProgramsAt p 1 0 5) old new
    → Charts (Gains p s sector) old new → TellsOfWear t after true false old new
logs_wear_nothing t after u p s mask next sector old new is =
    sectors_wear_nothing t after p s 5 sector old new
    (spot_behind t u p s (spot_of_log t after u p s mask next is)) (record {
      retired = log_retired t after u p s mask next is;
      homes = log_homes t after u p s mask next is;
      counts = log_counts t after u p s mask next is;
      status = ap (λ (it : StatusTable). it.place) (log_status t after u p s mask next is);
    })

-- ---- room for it

-- room was found: free places alone were written
pub room_wears : (places : ℕ) (t after : Tables) (old new : Told) → KnowsPlaces places t
    → Holds places t after → Spends (ErasesFree t.places after.places 3 false) old new
    → SparesUsed t.places old new → TellsOfWear t after true false old new
room_wears places t after old new known holds costs spares =
    spared_places_wear t after true false old new (known.used t.status.place (inr (inl refl)))
    (ap (λ (it : StatusTable). it.place) holds.status)
    (spends_weaker (ErasesFree t.places after.places 3 false)
    (LeavesPlaces t.places after.places false) old new
    (λ added. erases_leave t.places after.places 3 false added (homes_used places t known) holds.homes)
    costs) (λ done. spares)

-- none was found
pub no_room_wears : (places : ℕ) (t after : Tables) (worn_out : Bool) (old new : Told) → KnowsPlaces places t
    → Holds places t after → Spends (ErasesFree t.places after.places 3 worn_out) old new
    → TellsOfWear t after false worn_out old new
no_room_wears places t after worn_out old new known holds costs =
    failures_wear t after worn_out old new
    (spends_weaker (ErasesFree t.places after.places 3 worn_out)
    (LeavesPlaces t.places after.places worn_out) old new
    (λ added. erases_leave t.places after.places 3 worn_out added (homes_used places t known) holds.homes)
    costs)
