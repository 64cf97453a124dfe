-- The log sectors of a merge, programmed one after another.
use Rattle.std.proofs.Common.{◌≡◌, ◌<◌, ◌≤◌, ◌+◌, ℕ, List, true, false, [], None, Some, ◌&&◌, eqb, Result, Ok, Err, is_ok, inl, inr, refl, sym, ◌∙◌, subst, arith}
use Rattle.std.specs.Prelude.{slice_index_or}
use Rattle.std.proofs.lemmas.Bool.{cases_Bool, cases_eq, and_parts, eqb-true, eq-eqb}
use Rattle.chip_trait.specs.Chart.{with_sector}
use Rattle.chip_trait.specs.Lawful.{Clean, age}
use Rattle.chip_trait.specs.Told.{History, Told, adds_all}
use Rattle.log_records.specs.View.{Versioned}
use Rattle.ipl_base.specs.declared.fault.ChipFault.{ChipFault}
use Rattle.ipl_format.specs.Sector.{Sector}
use Rattle.ipl_meaning.specs.Legible.{Legible}
use Rattle.ipl_meaning.specs.Chart.{Chart}
use Rattle.ipl_meaning.specs.Rests.{now, EachStands, StoryRests}
use Rattle.unit_io.specs.Charts.{Gains}
use Rattle.unit_io.specs.Leads.{IsSteady}
use Rattle.unit_io.specs.Spots.{Programs, IsSpot}
use Rattle.unit_io.proofs.SectorLemmas.{untouched}
use Rattle.unit_io.proofs.LeadsLemmas.{leads_none, leads_then, leads_failed}
use Rattle.unit_io.proofs.SpotLemmas.{programs_none, programs_then, programs_wider}
use Rattle.selective_merge.specs.Packs.{log_sector, IsLogSpotBelow, HasLogs, payload_of}
use Rattle.selective_merge.specs.Moved.{IsAside}
use Rattle.selective_merge.specs.Writing.{WritesToBare, KeepsLogs}

-- a sector that was put in, and the others
put_here : (c : Chart) (p s : ℕ) (sector : Sector) → with_sector c p s sector p s ≡ Some sector
put_here c p s sector = rw (eq-eqb p p refl, eq-eqb s s refl) refl

put_apart : (c : Chart) (p s : ℕ) (sector : Sector) (q t : ℕ) → (q ≡ p → t ≡ s → ⊥)
    → with_sector c p s sector q t ≡ c q t
put_apart c p s sector q t apart = elim (cases_Bool (eqb p q && eqb s t)) [
  | inl both ↦
      let parts = and_parts _ _ both in
      absurd (apart (sym (eqb-true _ _ parts.0)) (sym (eqb-true _ _ parts.1)))
  | inr none ↦ rw none refl
]

pub logs_none : (p u g serial : ℕ) (payloads : List Versioned) (c : Chart)
    → HasLogs p u g serial payloads 0 c c
logs_none p u g serial payloads c =
    record { here = λ i low. absurd (omega (arith, low)); others = λ q s apart. refl }

pub logs_more : (p u g serial : ℕ) (payloads : List Versioned) (k : ℕ) (c mid y : Chart)
    → HasLogs p u g serial payloads k c mid
    → Gains p (241 + k) (log_sector u g (serial + k) (slice_index_or payloads k (payload_of [])).bytes) mid y
    → HasLogs p u g serial payloads (k + 1) c y
logs_more p u g serial payloads k c mid y before gains = record {
  here = λ i low. elim (cases_eq i k) [
    | inl same ↦ rw (same, gains) (put_here mid p (241 + k) _)
    | inr other ↦ rw gains (put_apart mid p (241 + k) _ p (241 + i)
        (λ is at. omega (arith, at, other)) ∙ before.here i (omega (arith, low, other)))
  ];
  others = λ q s apart. rw gains (put_apart mid p (241 + k) _ q s
      (λ is at. apart is (omega (arith, at), omega (arith, at)))
      ∙ before.others q s (λ is at. apart is (at.0, omega (arith, at.1))));
}

-- the header is as it was
pub logs_aside : (p u g serial : ℕ) (payloads : List Versioned) (k : ℕ) (c y : Chart)
    → HasLogs p u g serial payloads k c y → IsAside p c y
logs_aside p u g serial payloads k c y logs = record {
  header = logs.others p 0 (λ same is. omega (arith, is.0));
  others = λ q s apart. logs.others q s (λ same. absurd (apart same));
}

module _ (places p u g serial : ℕ) (payloads : List Versioned) (m : Legible) (h : History) where
  pub keeps_none : (t : Told) → IsSteady h t → StoryRests places m h
      → KeepsLogs places p u g serial payloads 0 m h t (Ok tt) t
  keeps_none t steady rests =
      leads_none (EachStands places m) (Programs p (IsLogSpotBelow 0))
      (λ done k. StoryRests places m k × HasLogs p u g serial payloads 0 (now h) (now k))
      h t tt steady rests.each (programs_none p (IsLogSpotBelow 0) true)
      (rests, logs_none p u g serial payloads (now h))

  -- one log sector more
  pub keeps_more : (total i : ℕ) → i < total → now h p 0 ≡ None
      → ((s : ℕ) → IsLogSpotBelow total s → age h.story p s ≡ Clean) → (old mid new : Told)
      → (result : Result (Unit {0}) ChipFault)
      → KeepsLogs places p u g serial payloads i m h old (Ok tt) mid
      → WritesToBare places p (241 + i)
      (log_sector u g (serial + i) (slice_index_or payloads i (payload_of [])).bytes) mid result new
      → KeepsLogs places p u g serial payloads (i + 1) m h old result new
  keeps_more total i few bare clean old mid new result so one =
      let sector = log_sector u g (serial + i) (slice_index_or payloads i (payload_of [])).bytes in
      let k = adds_all so.added h in
      leads_then (EachStands places m) (Programs p (IsLogSpotBelow i))
      (Programs p (IsSpot (241 + i))) (Programs p (IsLogSpotBelow (i + 1)))
      (λ done j. StoryRests places m j × HasLogs p u g serial payloads i (now h) (now j))
      (λ done j. StoryRests places m j × Gains p (241 + i) sector (now k) (now j))
      (λ done j. StoryRests places m j × HasLogs p u g serial payloads (i + 1) (now h) (now j))
      h tt old mid new result so
      (one m k so.ends.0 so.ends.1.0
      ((logs_aside p u g serial payloads i (now h) (now k) so.ends.1.1).header ∙ bare)
      (λ zero. omega (arith, zero))
      (untouched k p (241 + i) (so.does.others h.story p (241 + i) (λ same spot. omega (arith, spot.1))
      (clean (241 + i) (omega arith, omega (arith, few))))))
      (λ a b first later. programs_then p (IsLogSpotBelow i) (IsSpot (241 + i))
      (IsLogSpotBelow (i + 1)) true (is_ok result) b a (λ s is at. omega (arith, is.1, at))
      (λ s is. (is.0, omega (arith, is.1))) (λ s at. (omega (arith, at), omega (arith, at)))
      first later)
      (λ done j is. (
        is.0,
        logs_more p u g serial payloads i (now h) (now k) (now j) so.ends.1.1 is.1,
      ))

  -- one failed
  pub keeps_failed : (i total : ℕ) (e f : ChipFault) (old new : Told) → i ≤ total
      → KeepsLogs places p u g serial payloads i m h old (Err e) new
      → KeepsLogs places p u g serial payloads total m h old (Err f) new
  keeps_failed i total e f old new few did =
      leads_failed (EachStands places m) (Programs p (IsLogSpotBelow i))
      (Programs p (IsLogSpotBelow total))
      (λ done k. StoryRests places m k × HasLogs p u g serial payloads i (now h) (now k))
      (λ done k. StoryRests places m k × HasLogs p u g serial payloads total (now h) (now k))
      h e f old new did
      (λ a did. programs_wider p (IsLogSpotBelow i) (IsLogSpotBelow total) false false a
      (λ s is. (is.0, omega (arith, is.1, few))) did)

-- ---- the clause of a call, told otherwise

-- a sector that is the same, of a chip with as many places
pub log_named : (q places p s t : ℕ) (one other : Sector) (old new : Told)
    (result : Result (Unit {0}) ChipFault) → q ≡ places → s ≡ t → one ≡ other
    → WritesToBare q p s one old result new → WritesToBare places p t other old result new
log_named q places p s t one other old new result sized at same says =
    subst (λ (z : Sector). WritesToBare places p t z old result new) same
    (subst (λ (k : ℕ). WritesToBare places p k one old result new) at
    (subst (λ (k : ℕ). WritesToBare k p s one old result new) sized says))

pub same_log : (u g serial other : ℕ) (payload bytes : List ℕ) → serial ≡ other
    → payload ≡ bytes → log_sector u g serial payload ≡ log_sector u g other bytes
same_log u g serial other payload bytes one two = rw (one, two) refl
