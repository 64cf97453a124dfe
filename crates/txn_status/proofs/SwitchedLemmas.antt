-- What a switch leaves: the parts and the header.
use Rattle.std.proofs.Common.{◌≡◌, ◌≢◌, ℕ, ◌<◌, ◌≤◌, ◌+◌, true, false, List, length, slice_index, Result, Ok, Err, IfErr, is_ok, inl, inr, sym, ◌∙◌, ap, subst, arith}
use Rattle.std.specs.Prelude.{◌⊎◌}
use Rattle.std.specs.List.{Contains}
use Rattle.chip_trait.specs.Chart.{with_sector}
use Rattle.chip_trait.specs.Lawful.{Clean, age}
use Rattle.chip_trait.specs.Story.{Story}
use Rattle.chip_trait.specs.Told.{History, Told, adds_all}
use Rattle.chip_trait.proofs.AgeLemmas.{clean_lasting}
use Rattle.ipl_base.specs.declared.fault.ChipFault.{ChipFault}
use Rattle.ipl_format.specs.Sector.{Sector}
use Rattle.ipl_meaning.specs.Legible.{Legible}
use Rattle.ipl_meaning.specs.Chart.{Chart, chart_of}
use Rattle.ipl_meaning.specs.Layout.{Layout}
use Rattle.ipl_meaning.specs.Steps.{with_status}
use Rattle.ipl_meaning.specs.Rests.{now, EachStands, StoryRests}
use Rattle.ipl_meaning.specs.Tables.{OverflowLists, Tables, StatusTable, counted_written, IsCountedClean}
use Rattle.ipl_meaning.specs.TableSteps.{IsRenewed}
use Rattle.ipl_meaning.specs.Mirrors.{Mirrors}
use Rattle.ipl_meaning.specs.Agrees.{IsTidy}
use Rattle.ipl_meaning.proofs.CarriedLemmas.{stays_untouched}
use Rattle.ipl_meaning.proofs.MirrorLemmas.{map_contains}
use Rattle.unit_io.specs.Leads.{IsSteady, IsStopped, Leads}
use Rattle.unit_io.specs.Spots.{Programs, IsSpot}
use Rattle.unit_io.specs.Charts.{Charts, Gains}
use Rattle.unit_io.proofs.SectorLemmas.{untouched}
use Rattle.unit_io.proofs.LeadsLemmas.{leads_and, leads_failed, leads_then}
use Rattle.unit_io.proofs.SpotLemmas.{programs_then, programs_wider}
use Rattle.unit_io.specs.Steps.{NoOtherEnd}
use Rattle.unit_io.proofs.StepLemmas.{outcome_written}
use Rattle.number_set.specs.Numbers.{among}
use Rattle.txn_status.specs.Status.{parts_of}
use Rattle.txn_status.specs.Adding.{HasStatus}
use Rattle.txn_status.specs.Switching.{HasParts, IsPartSpot, IsStatusSpot, IsStatusHead, IsTaken, FitsHeader, IsSwitched, IsReadyToSwitch, Switched, RestsSwitched, Switches, StepsSwitching}
use Rattle.txn_status.specs.Writing.{KeepsParts, LeadsParts, LeadsHeader, IsHeaded}
use Rattle.txn_status.proofs.SwitchLemmas.{AreLong, head_then, IsPrepared, mirrors_then, switched_then, stands_then, marked_then, worn_then}

-- ---- what is counted as clean

-- a place that was taken has no clean sector yet
not_counted : (places : ℕ) (c : Chart) (it : Layout) (t : Tables) (p s : ℕ) → Mirrors places c it t
    → IsTaken places c it t p → IsCountedClean t p s → ⊥
not_counted places c it t p s mirrors taken (small, inl (u, low, at, high)) =
    let within : u < it.count = omega (arith, low, mirrors.directory.units) in
    taken.idle.not_home u within (sym (mirrors.directory.current u within) ∙ sym at)
not_counted places c it t p s mirrors taken (small, inr (inl (first, there, high))) =
    taken.not_overflow (map_contains t.overflow.in_use p first there)
not_counted places c it t p s mirrors taken (small, inr (inr (at, high))) =
    taken.idle.not_status (sym mirrors.status.place ∙ sym at)

-- what is counted then was so before, or is one of the new place
counted_then : (t after : Tables) (p own from q s : ℕ) → IsRenewed t after p own from
    → IsCountedClean after q s → IsCountedClean t q s ⊎ ((q ≡ p) × (from ≤ s))
counted_then t after p own from q s renewed (small, inl (u, low, at, high)) = inl (
  small,
  inl (
    u,
    subst (λ (l : List ℕ). u < length l) renewed.current low,
    at ∙ ap (λ (l : List ℕ). slice_index l u) renewed.current,
    subst (λ (l : List ℕ). 241 + counted_written (slice_index l u) ≤ s) renewed.written high,
  ),
)
counted_then t after p own from q s renewed (small, inr (inl (first, there, high))) = inl (
  small,
  inr (inl (
    first,
    subst (λ (o : OverflowLists). Contains o.in_use (q, first)) renewed.overflow there,
    high,
  )),
)
counted_then t after p own from q s renewed (small, inr (inr (at, high))) =
    inr (at ∙ renewed.place, omega (arith, high, renewed.first))

-- and where it was so before, it stands elsewhere
pub counted_apart : (places : ℕ) (c : Chart) (it : Layout) (t after : Tables) (p own from : ℕ)
    → Mirrors places c it t → IsTaken places c it t p → IsRenewed t after p own from
    → (q s : ℕ) → IsCountedClean after q s
    → (IsCountedClean t q s × (q ≢ p)) ⊎ ((q ≡ p) × (from ≤ s))
counted_apart places c it t after p own from mirrors taken renewed q s counted =
    elim (counted_then t after p own from q s renewed counted) [
      | inl was ↦ inl (
        was,
        λ same. not_counted places c it t p s mirrors taken
            (subst (λ (z : ℕ). IsCountedClean t z s) same was),
      )
      | inr here ↦ inr here
    ]

-- ---- the header

-- it has what the tables have
of_header : (places : ℕ) (t : Tables) (p units erases : ℕ) (retired : List ℕ) (next : ℕ) (head : Sector)
    → FitsHeader t p units erases retired → t.next ≡ next
    → IsStatusHead places units erases retired next head
    → IsStatusHead places (length t.places.current) (slice_index t.places.erases p) t.places.retired t.next head
of_header places t p units erases retired next head fits drawn is =
    subst (λ (n : ℕ). IsStatusHead places n (slice_index t.places.erases p) t.places.retired t.next head)
    (sym fits.counts.units_are)
    (subst (λ (n : ℕ). IsStatusHead places units n t.places.retired t.next head) (sym fits.counts.erases_are)
    (subst (λ (l : List ℕ). IsStatusHead places units erases l t.next head) (sym fits.retired_are)
    (subst (λ (g : ℕ). IsStatusHead places units erases retired g head) (sym drawn) is)))

-- ---- both calls

module _ (places units erases : ℕ) (retired : List ℕ) (status : StatusTable) (next p : ℕ) (kept : List ℕ)
    (within : p < places)
    (each : AreLong kept) (most : length kept ≤ 3840) (old mid new : Told) (h : History)
    (it : Layout) (t after : Tables) (m : Legible) (steady : IsSteady h old)
    (has : HasStatus t status next) (fits : FitsHeader t p units erases retired)
    (ready : IsReadyToSwitch places h it t m p kept) (switched : IsSwitched t after p next kept) where
  abbrev Holds : Unit {0} → History → Type 0
  Holds done k = RestsSwitched places m it after p next kept k

  -- the place holds the numbers
  pub record IsKept (k : History) : Type 0 where
    pub rests : StoryRests places m k
    pub parts : HasParts p next (next + 1) kept (parts_of kept) (now h) (now k)

  -- the header has the counts of the tables
  of_tables : (head : Sector) → IsStatusHead places units erases retired next head
      → IsStatusHead places (length t.places.current) (slice_index t.places.erases p) t.places.retired
      t.next head
  of_tables head is = of_header places t p units erases retired next head fits has.next_is is

  prepared : (k : History) (head : Sector) → IsKept k → IsStatusHead places units erases retired next head
      → IsPrepared places (now h) (now k) it t p kept head
  prepared k head is is_head = record {
    mirrors = ready.agrees.mirrors;
    taken = ready.taken;
    within = within;
    may = ready.may;
    each = each;
    most = most;
    parts = subst (λ (g : ℕ). HasParts p g (g + 1) kept (parts_of kept) (now h) (now k))
        (sym has.next_is) is.parts;
    is_head = of_tables head is_head;
  }

  one : (result : Result (Unit {0}) ChipFault)
      → LeadsParts places p next (next + 1) kept old result mid
      → KeepsParts places p next (next + 1) kept (parts_of kept) m h old result mid
  one result say = say m h steady ready.rests (ready.taken.bare 0) (λ s spot. ready.clean s)

  pub parts_failed : (e f : ChipFault) → LeadsParts places p next (next + 1) kept old (Err e) mid
      → IsStopped f old mid → StepsSwitching places it after m p next kept h (Err f) old mid
  parts_failed e f say stopped =
      outcome_written (Unit {0}) (EachStands places m) (Programs p (IsStatusSpot (parts_of kept)))
      Holds NoOtherEnd h old mid (Err f)
      (leads_failed (EachStands places m) (Programs p (IsPartSpot (parts_of kept)))
      (Programs p (IsStatusSpot (parts_of kept)))
      (λ (done : Unit {0}) k. StoryRests places m k
      × HasParts p next (next + 1) kept (parts_of kept) (now h) (now k)) Holds h e f old mid
      (one (Err e) say)
      (λ a. programs_wider p (IsPartSpot (parts_of kept)) (IsStatusSpot (parts_of kept)) false false
      a (λ s is. is.1))) stopped

  module _ (say : LeadsParts places p next (next + 1) kept old (Ok tt) mid) where
    first : KeepsParts places p next (next + 1) kept (parts_of kept) m h old (Ok tt) mid
    first = one (Ok tt) say

    -- the header stands there too
    pub record IsSealed (k : History) : Type 0 where
      pub rests : StoryRests places m k
      pub head : Sector
      pub is_head : IsStatusHead places units erases retired next head
      pub before : History
      pub kept_there : IsKept before
      pub gains : Gains p 0 head (now before) (now k)

    two : (result : Result (Unit {0}) ChipFault)
        → LeadsHeader places p units erases retired next mid result new
        → Leads (EachStands places m) (Programs p (IsStatusSpot (parts_of kept)))
        (λ done k. IsSealed k) h old result new
    unfolding first
    two result seals =
        let k = adds_all first.added h in
        let there : IsKept k = record { rests = first.ends.1.0; parts = first.ends.1.1 } in
        let clean : age k.story p 0 ≡ Clean =
        first.does.others h.story p 0 (λ _ spot. omega (arith, spot.0)) (ready.clean 0) in
        leads_then (EachStands places m) (Programs p (IsPartSpot (parts_of kept)))
        (Programs p (IsSpot 0)) (Programs p (IsStatusSpot (parts_of kept)))
        (λ done then. StoryRests places m then
        × HasParts p next (next + 1) kept (parts_of kept) (now h) (now then))
        (λ done then. StoryRests places m then × IsHeaded places p units erases retired next (now k) (now then))
        (λ done then. IsSealed then) h tt old mid new result first
        (seals m k first.ends.0 first.ends.1.0 clean (λ head is_head.
        let so = prepared k head there is_head in record {
          stands = stands_then places (now h) (now k) it t p kept head so m ready.says ready.keeps;
          worn = worn_then places (now h) (now k) it t p kept head so k.story first.ends.1.0.worn
              (clean_lasting k.story p 0 clean);
          no_more = marked_then places (now h) (now k) it t p kept head so;
        }))
        (λ a b did then. programs_then p (IsPartSpot (parts_of kept)) (IsSpot 0)
        (IsStatusSpot (parts_of kept)) true (is_ok result) b a
        (λ s spot at. omega (arith, at, spot.0)) (λ s spot. spot.1) (λ s at. omega (arith, at)) did
        then)
        (λ done j is. record {
          rests = is.0;
          head = is.1.0;
          is_head = is.1.1;
          before = k;
          kept_there = there;
          gains = is.1.2;
        })

    -- the numbers are those that the tables drew
    renewed : IsSwitched t after p t.next kept
    renewed = subst (λ (g : ℕ). IsSwitched t after p g kept) (sym has.next_is) switched

    tidy_then : (a : Story) → Programs p (IsStatusSpot (parts_of kept)) true a
        → IsTidy (adds_all a h) after
    tidy_then a programs q s counted =
        elim (counted_apart places (now h) it t after p next (1 + parts_of kept)
        ready.agrees.mirrors ready.taken switched.renewed q s counted) [
          | inl was ↦ stays_untouched h a q s
              (λ base clean. programs.others base q s (λ same. absurd (was.1 same)) clean)
              (ready.agrees.tidy q s was.0)
          | inr here ↦ untouched (adds_all a h) q s
              (programs.others h.story q s (λ same spot. omega (arith, spot, here.1))
              (subst (λ (z : ℕ). age h.story z s ≡ Clean) (sym here.0) (ready.clean s)))
        ]

    rests_switched : (a : Story) → Programs p (IsStatusSpot (parts_of kept)) true a
        → IsSealed (adds_all a h) → Holds tt (adds_all a h)
    unfolding renewed
    rests_switched a programs is = record {
      head = is.head;
      is_head = subst (λ (g : ℕ).
          IsStatusHead places it.count (slice_index after.places.erases p) after.places.retired g is.head)
          has.next_is
          (head_then places t after it.count p (1 + parts_of kept) is.head
          ready.agrees.mirrors.directory.units renewed.renewed (of_tables is.head is.is_head));
      stands = record {
        rests = is.rests;
        agrees = record {
          mirrors = subst (λ (c : Chart). Mirrors places c (with_status it p is.head (among kept)) after)
              (sym is.gains)
              (mirrors_then places (now h) (now is.before) it t p kept is.head
              (prepared is.before is.head is.kept_there is.is_head) after renewed);
          tidy = tidy_then a programs;
        };
      };
    }

    pub switched_in_steps : (result : Result (Unit {0}) ChipFault)
        → LeadsHeader places p units erases retired next mid result new
        → IfErr result (λ fault. IsStopped fault old new)
        → StepsSwitching places it after m p next kept h result old new
    switched_in_steps result seals stopped =
        outcome_written (Unit {0}) (EachStands places m)
        (Programs p (IsStatusSpot (parts_of kept))) Holds NoOtherEnd h old new result
        (leads_and (EachStands places m) (Programs p (IsStatusSpot (parts_of kept)))
        (λ done k. IsSealed k) Holds h old result new
        (λ done a programs is. rests_switched a programs is) (two result seals)) stopped

-- ---- what is told of the contents

pub switches_told : (places units erases : ℕ) (retired : List ℕ) (status : StatusTable) (next p : ℕ)
    (kept : List ℕ) → p < places
    → AreLong kept → length kept ≤ 3840 → (old mid new : Told)
    → Charts (HasParts p next (next + 1) kept (parts_of kept)) old mid
    → Charts (IsHeaded places p units erases retired next) mid new
    → Charts (Switches places units erases retired status next p kept) old new
switches_told places units erases retired status next p kept within each most old mid new parts seal = λ x told.
    let (y, told_y, there) = parts x told in
    let (z, told_z, sealed) = seal y told_y in (
      z,
      told_z,
      λ it t after mirrors has fits taken may switched.
          let is : IsPrepared places (chart_of x) (chart_of y) it t p kept sealed.0 = record {
            mirrors = mirrors;
            taken = taken;
            within = within;
            may = may;
            each = each;
            most = most;
            parts = subst (λ (g : ℕ). HasParts p g (g + 1) kept (parts_of kept) (chart_of x)
                (chart_of y)) (sym has.next_is) there;
            is_head = of_header places t p units erases retired next sealed.0 fits has.next_is sealed.1;
          } in
          subst (λ (c : Chart). Switched places (chart_of x) c it after p next kept) (sym sealed.2)
          (subst (λ (g : ℕ). Switched places (chart_of x)
          (with_sector (chart_of y) p 0 sealed.0) it after p g kept) has.next_is
          (switched_then places (chart_of x) (chart_of y) it t p kept sealed.0 is after
          (subst (λ (g : ℕ). IsSwitched t after p g kept) (sym has.next_is) switched))),
    )
