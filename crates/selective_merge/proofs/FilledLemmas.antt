-- What stands at a place that a merge has filled.
use Rattle.std.proofs.Common.{◌≡◌, ◌≢◌, ◌<◌, ◌≤◌, ◌+◌, ◌-◌, ◌⊎◌, ℕ, List, length, [], Some, None, slice_index, inl, inr, refl, sym, ◌∙◌, ap, arith}
use Rattle.std.specs.Prelude.{slice_index_or}
use Rattle.std.proofs.lemmas.Bool.{cases_lt}
use Rattle.ipl_base.specs.declared.limits.TheConstants.{VERSION}
use Rattle.ipl_format.specs.Sector.{Sector}
use Rattle.ipl_format.specs.Record.{Record, log_bytes}
use Rattle.ipl_meaning.specs.Chart.{Chart}
use Rattle.ipl_meaning.specs.Layout.{Layout, base_sector}
use Rattle.ipl_meaning.specs.Mirrors.{Mirrors}
use Rattle.ipl_meaning.specs.Steps.{SameBut, KeepsPages, IsIdle, ComesToNothing}
use Rattle.ipl_meaning.specs.Tables.{Tables}
use Rattle.ipl_meaning.specs.TableSteps.{taken, with_next}
use Rattle.ipl_meaning.proofs.IdleFollowLemmas.{tables_follow_idle_places, places_may_be_taken}
use Rattle.ipl_meaning.proofs.IdleLemmas.{idle_places_do_not_count}
use Rattle.ipl_meaning.proofs.MirrorLemmas.{free_places_are_idle}
use Rattle.selective_merge.specs.Merged.{packs_in, MayMerge}
use Rattle.selective_merge.specs.Packs.{log_sector, IsLogSpotBelow}
use Rattle.selective_merge.proofs.PagesLemmas.{base_or_before}
use Rattle.selective_merge.proofs.PacksLemmas.{payload_is, payloads_length}

-- the i-th log sector of these packs
abbrev pub sector_at : ℕ → ℕ → ℕ → List (List Record) → ℕ → Sector
sector_at u g serial packs i = log_sector u g (serial + i) (log_bytes VERSION (slice_index_or packs i []))

-- The place has the log sectors of these packs, and for the rest what the pages left there, which
-- are base sectors and no header; elsewhere the chart is as it was.
pub record StandsFilled (c paged y : Chart) (p u g serial : ℕ) (packs : List (List Record)) : Type 0 where
  pub log_at : (i : ℕ) → i < length packs → y p (241 + i) ≡ Some (sector_at u g serial packs i)
  pub pages_at : (s : ℕ) → ¬ IsLogSpotBelow (length packs) s → y p s ≡ paged p s
  pub there : (s : ℕ) (sector : Sector) → y p s ≡ Some sector
      → ((sector.kind ≡ 4) × (s < 241))
      ⊎ ((i : ℕ) × (i < length packs) × (s ≡ 241 + i) × (sector ≡ sector_at u g serial packs i))
  pub no_header : y p 0 ≡ None
  pub beyond : (s : ℕ) → 241 + length packs ≤ s → y p s ≡ None
  pub same_but : SameBut p c y

module _ (places : ℕ) (c y : Chart) (it : Layout) (t : Tables) (u p : ℕ) (head : Sector)
    (pieces : List ℕ) (serial : ℕ) (may : MayMerge places c y it t u p head pieces serial) where
  abbrev g : ℕ
  g = head.generation

  abbrev packs : List (List Record)
  packs = packs_in t (it.units u)

  log_at : (i : ℕ) → i < length packs → y p (241 + i) ≡ Some (sector_at u g serial packs i)
  log_at i low =
      may.filled.logs.here i (omega (arith, low, payloads_length packs))
      ∙ ap (λ (payload : List ℕ). Some (log_sector u g (serial + i) payload))
      (payload_is packs i low)

  -- elsewhere it is as the pages left it
  no_log_at : (s : ℕ) → ¬ IsLogSpotBelow (length packs) s → y p s ≡ may.filled.paged p s
  no_log_at s apart =
      may.filled.logs.others p s
      (λ same is. apart (is.0, omega (arith, is.1, payloads_length packs)))

  nothing : (sector : Sector) → Some sector ≡ None → ⊥
  nothing sector e = cc

  kind_of : (sector : Sector) (page i : ℕ) (text : List ℕ)
      → Some sector ≡ Some (base_sector VERSION u g page i text) → sector.kind ≡ 4
  kind_of sector page i text e = cc

  -- and there stands a base sector or nothing
  base_or_none : (s : ℕ) (sector : Sector) → may.filled.paged p s ≡ Some sector
      → (sector.kind ≡ 4) × (s < 241) × (1 ≤ s)
  base_or_none s sector here =
      elim (base_or_before p u g may.filled.moved.slots pieces 15 may.filled.bare may.filled.paged
      may.few may.filled.moved.has s) [
        | inl before ↦ absurd (nothing sector (sym here ∙ before ∙ may.filled.cleared.bare s))
        | inr is ↦
            let there = may.filled.moved.has.here is.0 is.1 is.2 is.3 in
            let most : slice_index pieces is.0 ≤ 16 = may.few is.0 in (
              kind_of sector is.0 is.1 _ (sym here ∙ ap (may.filled.paged p) is.4 ∙ there),
              omega (arith, is.2, is.3, is.4, most),
              omega (arith, is.4),
            )
      ]

  -- so a sector of the place is a base sector, or one of the log sectors
  there : (s : ℕ) (sector : Sector) → y p s ≡ Some sector
      → ((sector.kind ≡ 4) × (s < 241))
      ⊎ ((i : ℕ) × (i < length packs) × (s ≡ 241 + i) × (sector ≡ sector_at u g serial packs i))
  there s sector here = elim (cases_lt s 241) [
    | inl low ↦
        let is = base_or_none s sector (sym (no_log_at s (λ is. omega (arith, is.0, low))) ∙ here) in
        inl (is.0, is.1)
    | inr high ↦ elim (cases_lt s (241 + length packs)) [
      | inl within ↦
          let i : ℕ = s - 241 in
          let at : s ≡ 241 + i = omega (arith, high) in
          let some : Some sector ≡ Some (sector_at u g serial packs i) =
          sym here ∙ ap (y p) at ∙ log_at i (omega (arith, high, within)) in
          inr (i, omega (arith, high, within), at, cc some)
      | inr past ↦
          let is = base_or_none s sector
          (sym (no_log_at s (λ is. omega (arith, is.1, past))) ∙ here) in
          absurd (omega (arith, is.1, high))
    ]
  ]

  none_of : (s : ℕ) → ((sector : Sector) → y p s ≢ Some sector) → y p s ≡ None
  none_of s never = elim (y p s) as (λ o. ((sector : Sector) → o ≢ Some sector) → o ≡ None) [
    | None ↦ λ f. refl
    | Some sector ↦ λ f. absurd (f sector refl)
  ] never

  no_header : y p 0 ≡ None
  no_header = none_of 0 (λ sector here. elim (there 0 sector here) [
    | inl is ↦
        let at = base_or_none 0 sector (sym (no_log_at 0 (λ is. omega (arith, is.0))) ∙ here) in
        omega (arith, at.2)
    | inr is ↦ omega (arith, is.2)
  ])

  beyond : (s : ℕ) → 241 + length packs ≤ s → y p s ≡ None
  beyond s high = none_of s (λ sector here. elim (there s sector here) [
    | inl is ↦ omega (arith, is.1, high)
    | inr is ↦ omega (arith, is.2, is.1, high)
  ])

  same_but : SameBut p c y
  same_but q s apart =
      may.filled.logs.others q s (λ same. absurd (apart same))
      ∙ may.filled.moved.has.others q s (λ same. absurd (apart same))
      ∙ may.filled.cleared.others q s apart

  pub stands_filled : StandsFilled c may.filled.paged y p u g serial packs
  stands_filled = record {
    log_at = log_at;
    pages_at = no_log_at;
    there = there;
    no_header = no_header;
    beyond = beyond;
    same_but = same_but;
  }

  -- ---- the place counts for nothing yet

  idle : IsIdle places c it p
  idle = free_places_are_idle places c it t p may.mirrors may.free

  -- a log sector there has the new generation
  of_new : (s : ℕ) (sector : Sector) → y p s ≡ Some sector → sector.kind ≡ 5
      → sector.generation ≡ g
  of_new s sector here kind = elim (there s sector here) [
    | inl is ↦ absurd (omega (arith, kind, is.0))
    | inr is ↦ ap (λ (x : Sector). x.generation) is.3
  ]

  -- no unit has that generation
  generation_below : (v : ℕ) → v < it.count → (it.units v).head.generation < t.next
  generation_below v low =
      let chosen = (may.mirrors.laid.each v low).chosen in
      may.mirrors.numbers.above (it.units v).head.generation (
        (it.units v).home,
        0,
        (it.units v).head,
        inl (
          refl,
          chosen.within,
          chosen.here,
          (
            omega (arith, chosen.fits.0),
            omega (arith, chosen.fits.0),
          ),
        ),
        inl refl,
      )

  never : (other : Sector) → y p 0 ≡ Some other → ⊥
  never other here = nothing other (sym here ∙ no_header)

  nothing_comes : ComesToNothing places y it p
  nothing_comes = record {
    unit_header = λ v low other here is. absurd (never other here);
    status = λ other here is. absurd (never other here);
    no_live = λ v low s sector live.
        let mine : sector.generation ≡ g = of_new s sector live.here live.kind in
        let below = generation_below v low in
        omega (arith, mine, live.of_generation, below, may.new);
  }

  pub pages_filled : KeepsPages places c it y it
  pages_filled =
      (idle_places_do_not_count places c it p y may.mirrors.laid idle same_but nothing_comes).1

  -- so the tables that have it as taken mirror the chart
  pub mirrors_filled : Mirrors places y it (with_next (taken t p) g)
  mirrors_filled =
      tables_follow_idle_places places c it (taken t p) p y g
      (places_may_be_taken places c it t p may.mirrors may.within) idle
      (may.mirrors.directory.not_overflow p may.free) same_but no_header may.new
