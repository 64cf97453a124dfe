-- Kept numbers, programmed part by part, and the header behind them.
use Rattle.std.proofs.Common.{◌≡◌, ℕ, ◌<◌, ◌≤◌, ◌+◌, ◌==◌, ◌&&◌, true, false, List, Some, None, Result, Ok, Err, OnOk, is_ok, inl, inr, refl, sym, ◌∙◌, ap, subst, arith}
use Rattle.std.proofs.lemmas.Bool.{cases_eq, cases_Bool, and_parts, eqb-true, eq-eqb}
use Rattle.chip_trait.specs.Lawful.{Clean, age}
use Rattle.chip_trait.specs.Chart.{with_sector}
use Rattle.chip_trait.specs.Told.{History, Told, adds_all}
use Rattle.ipl_base.specs.declared.fault.ChipFault.{ChipFault}
use Rattle.ipl_base.specs.declared.limits.TheConstants.{VERSION}
use Rattle.ipl_format.specs.Sector.{Sector}
use Rattle.ipl_format.proofs.HeaderOnceLemmas.{status_headers_say_erases}
use Rattle.sector_format.specs.declared.sector.Head.{Head}
use Rattle.sector_format.specs.Decode.{sector_of}
use Rattle.sector_format.specs.Written.{written_head}
use Rattle.ipl_meaning.specs.Legible.{Legible}
use Rattle.ipl_meaning.specs.Chart.{Chart, chart_of}
use Rattle.ipl_meaning.specs.Rests.{now, EachStands, EachStandsEither, StoryRests}
use Rattle.ipl_meaning.proofs.StoryLemmas.{either_is_kept}
use Rattle.unit_io.specs.Leads.{IsSteady, KeepsMap, SwitchesMap}
use Rattle.unit_io.specs.Spots.{Programs, IsSpot}
use Rattle.unit_io.specs.Charts.{Charts, Gains}
use Rattle.unit_io.proofs.SectorLemmas.{untouched}
use Rattle.unit_io.proofs.LeadsLemmas.{leads_none, leads_then, leads_failed, leads_weaker}
use Rattle.unit_layout.specs.declared.status.StatusHeader.{StatusHeader}
use Rattle.unit_layout.specs.Header.{SpellsStatus}
use Rattle.unit_io.proofs.SpotLemmas.{programs_none, programs_then, programs_wider}
use Rattle.txn_status.specs.Commits.{commit_sector, part_of}
use Rattle.txn_status.specs.Switching.{HasParts, IsPartSpot, IsStatusHead}
use Rattle.unit_io.specs.Writing.{LeadsAside}
use Rattle.txn_status.specs.Writing.{KeepsParts, IsHeaded}

-- ---- the header

pub written_is : (head : Head) (places generation : ℕ) (header : StatusHeader) (retired payload : List ℕ)
    → head ≡ written_head 2 0 generation generation
    → SpellsStatus VERSION places header retired payload
    → IsStatusHead places header.units header.erases retired generation (sector_of head payload)
written_is head places generation header retired payload is spells =
    let written = written_head 2 0 generation generation in
    subst (λ (h : Head). IsStatusHead places header.units header.erases retired generation (sector_of h payload))
    (sym is) (record {
      kind = refl;
      generation_is = refl;
      serial = refl;
      counts = spells.spelled;
      says = status_headers_say_erases (sector_of written payload) places header.units refl spells.spelled
          ∙ spells.erases_are;
      lists = spells.retired_are;
    })

-- a header that switches a map to itself keeps it
pub header_keeps : (places : ℕ) (m : Legible) (h : History) (p units erases : ℕ) (retired : List ℕ)
    (generation : ℕ) (head : Sector) → IsStatusHead places units erases retired generation head
    → (old : Told) (result : Result (Unit {0}) ChipFault) (new : Told)
    → SwitchesMap places m m (Programs p (IsSpot 0)) (λ done. Gains p 0 head) h old result new
    → KeepsMap places m (Programs p (IsSpot 0)) (λ done. IsHeaded places p units erases retired generation)
    h old result new
header_keeps places m h p units erases retired generation head is old result new did =
    leads_weaker (EachStandsEither places m m) (EachStands places m)
    (Programs p (IsSpot 0)) (Programs p (IsSpot 0))
    (λ done k. StoryRests places m k × Gains p 0 head (now h) (now k))
    (λ done k. StoryRests places m k × IsHeaded places p units erases retired generation (now h) (now k))
    h old result new
    (λ k each. either_is_kept places m k each) (λ done a same. same)
    (λ done k held. (held.0, (head, is, held.1))) did

pub header_tells : (places p units erases : ℕ) (retired : List ℕ) (generation : ℕ) (head : Sector)
    → IsStatusHead places units erases retired generation head → (result : Result (Unit {0}) ChipFault) (old new : Told)
    → OnOk result (Charts (Gains p 0 head) old new)
    → OnOk result (Charts (IsHeaded places p units erases retired generation) old new)
header_tells places p units erases retired generation head is (Ok v) old new tells =
    λ x told. let (z, there, gains) = tells x told in (z, there, (head, is, gains))
header_tells places p units erases retired generation head is (Err e) old new tells = tt

-- ---- the parts, one after the other

parts_none : (p generation serial : ℕ) (numbers : List ℕ) (c : Chart)
    → HasParts p generation serial numbers 0 c c
parts_none p generation serial numbers c =
    record { here = λ i low. absurd (omega arith); others = λ q s apart. refl }

pub put_there : (c : Chart) (p s : ℕ) (sector : Sector) → with_sector c p s sector p s ≡ Some sector
put_there c p s sector = rw (eq-eqb p p refl, eq-eqb s s refl) refl

put_apart : (c : Chart) (p s : ℕ) (sector : Sector) (q t : ℕ) → (q ≡ p → t ≡ s → ⊥)
    → with_sector c p s sector q t ≡ c q t
put_apart c p s sector q t apart = elim (cases_Bool ((p == q) && (s == t))) [
  | inl both ↦ let (one, two) = and_parts _ _ both in
      absurd (apart (sym (eqb-true p q one)) (sym (eqb-true s t two)))
  | inr none ↦ rw none refl
]

pub parts_more : (p generation serial : ℕ) (numbers : List ℕ) (i : ℕ) (c y z : Chart)
    → HasParts p generation serial numbers i c y
    → Gains p (1 + i) (commit_sector generation (serial + i) (part_of numbers i)) y z
    → HasParts p generation serial numbers (i + 1) c z
parts_more p generation serial numbers i c y z so gains = record {
  here = λ j low. elim (cases_eq j i) [
    | inl same ↦ rw same (ap (λ (k : Chart). k p (1 + i)) gains
        ∙ put_there y p (1 + i) (commit_sector generation (serial + i) (part_of numbers i)))
    | inr other ↦ ap (λ (k : Chart). k p (1 + j)) gains
        ∙ put_apart y p (1 + i) (commit_sector generation (serial + i) (part_of numbers i)) p
        (1 + j) (λ _ at. omega (arith, at, other)) ∙ so.here j (omega (arith, low, other))
  ];
  others = λ q s apart. ap (λ (k : Chart). k q s) gains
      ∙ put_apart y p (1 + i) (commit_sector generation (serial + i) (part_of numbers i)) q s
      (λ at is. apart at (omega (arith, is)) (omega (arith, is)))
      ∙ so.others q s (λ at least most. apart at least (omega (arith, most)));
}

pub keeps_none : (places p generation serial : ℕ) (numbers : List ℕ) (m : Legible) (h : History)
    (t : Told) → IsSteady h t → StoryRests places m h
    → KeepsParts places p generation serial numbers 0 m h t (Ok tt) t
keeps_none places p generation serial numbers m h t steady rests =
    leads_none (EachStands places m) (Programs p (IsPartSpot 0))
    (λ done k. StoryRests places m k × HasParts p generation serial numbers 0 (now h) (now k))
    h t tt steady rests.each (programs_none p (IsPartSpot 0) true)
    (rests, parts_none p generation serial numbers (now h))

-- one part more
pub keeps_more : (places p generation serial : ℕ) (numbers : List ℕ) (m : Legible) (h : History)
    (total i : ℕ) → i < total → now h p 0 ≡ None
    → ((s : ℕ) → IsPartSpot total s → age h.story p s ≡ Clean)
    → (old mid new : Told) (result : Result (Unit {0}) ChipFault)
    → KeepsParts places p generation serial numbers i m h old (Ok tt) mid
    → LeadsAside places p (1 + i) (commit_sector generation (serial + i) (part_of numbers i))
    mid result new
    → KeepsParts places p generation serial numbers (i + 1) m h old result new
keeps_more places p generation serial numbers m h total i few bare clean old mid new result so one =
    let sector = commit_sector generation (serial + i) (part_of numbers i) in
    let k = adds_all so.added h in
    leads_then (EachStands places m) (Programs p (IsPartSpot i)) (Programs p (IsSpot (1 + i)))
    (Programs p (IsPartSpot (i + 1)))
    (λ done then. StoryRests places m then
    × HasParts p generation serial numbers i (now h) (now then))
    (λ done then. StoryRests places m then × Gains p (1 + i) sector (now k) (now then))
    (λ done then. StoryRests places m then
    × HasParts p generation serial numbers (i + 1) (now h) (now then))
    h tt old mid new result so
    (one m k so.ends.0 so.ends.1.0
    (so.ends.1.1.others p 0 (λ _ least most. omega (arith, least)) ∙ bare)
    (λ zero_one. omega (arith, zero_one))
    (untouched k p (1 + i) (so.does.others h.story p (1 + i) (λ _ spot. omega (arith, spot.1))
    (clean (1 + i) (omega arith, omega (arith, few))))))
    (λ a b first then. programs_then p (IsPartSpot i) (IsSpot (1 + i)) (IsPartSpot (i + 1)) true
    (is_ok result) b a (λ s in_i at. omega (arith, in_i.1, at))
    (λ s in_i. (in_i.0, omega (arith, in_i.1))) (λ s at. (omega (arith, at), omega (arith, at)))
    first then)
    (λ done j is. (
      is.0,
      parts_more p generation serial numbers i (now h) (now k) (now j)
          so.ends.1.1 is.1,
    ))

-- one part failed
pub keeps_failed : (places p generation serial : ℕ) (numbers : List ℕ) (m : Legible) (h : History)
    (i total : ℕ) (e f : ChipFault) (old new : Told) → i ≤ total
    → KeepsParts places p generation serial numbers i m h old (Err e) new
    → KeepsParts places p generation serial numbers total m h old (Err f) new
keeps_failed places p generation serial numbers m h i total e f old new few did =
    leads_failed (EachStands places m) (Programs p (IsPartSpot i)) (Programs p (IsPartSpot total))
    (λ done k. StoryRests places m k × HasParts p generation serial numbers i (now h) (now k))
    (λ done k. StoryRests places m k × HasParts p generation serial numbers total (now h) (now k))
    h e f old new did
    (λ a programs. programs_wider p (IsPartSpot i) (IsPartSpot total) false false a
    (λ s is. (is.0, omega (arith, is.1, few))) programs)

-- what is told of the contents
pub told_none : (p generation serial : ℕ) (numbers : List ℕ) (t : Told)
    → Charts (HasParts p generation serial numbers 0) t t
told_none p generation serial numbers t = λ x told.
    (x, told, parts_none p generation serial numbers (chart_of x))

pub told_more : (p generation serial : ℕ) (numbers : List ℕ) (i : ℕ) (first mid new : Told)
    → Charts (HasParts p generation serial numbers i) first mid
    → Charts (Gains p (1 + i) (commit_sector generation (serial + i) (part_of numbers i))) mid new
    → Charts (HasParts p generation serial numbers (i + 1)) first new
told_more p generation serial numbers i first mid new so one = λ x told.
    let (y, there, has) = so x told in
    let (z, there_too, gains) = one y there in (
      z,
      there_too,
      parts_more p generation serial numbers i (chart_of x) (chart_of y)
          (chart_of z) has gains,
    )
