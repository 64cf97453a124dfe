-- A log sector more.
use Rattle.std.proofs.Common.{◌≡◌, ◌≢◌, ◌⊎◌, ℕ, ◌<◌, ◌≤◌, List, [], ◌∷◌, ◌++◌, Some, None, inl, inr, refl, sym, ◌∙◌, ap, ap₂, arith}
use Rattle.std.proofs.lemmas.List.Elements.{All-contains}
use Rattle.std.proofs.lemmas.Bool.{cases_eq, eq-eqb, ne_eqb}
use Rattle.chip_trait.specs.Chart.{with_sector}
use Rattle.ipl_format.specs.Sector.{Sector}
use Rattle.ipl_format.specs.Record.{Record}
use Rattle.ipl_meaning.specs.Chart.{Chart, IsOverflow, IsLive}
use Rattle.ipl_meaning.specs.Layout.{Layout, Laid, IsEntry, IsLiveIn}
use Rattle.ipl_meaning.specs.Steps.{with_log, MayLog, entry_at}
use Rattle.ipl_meaning.specs.Found.{MentionsBelow}
use Rattle.ipl_meaning.specs.Tables.{Tables}
use Rattle.ipl_meaning.specs.Mirrors.{MirrorsNumbers}
use Rattle.ipl_meaning.proofs.PutLemmas.{new_or_old, kept, live_still, live_before}
use Rattle.ipl_meaning.proofs.MaskLemmas.{NoneStands, stands_away}
use Rattle.ipl_meaning.proofs.CounterLemmas.{log_sectors_keep_the_counter}

-- no live log sector stands where nothing checks
pub none_stands : (places : ℕ) (c : Chart) (it : Layout) (u p s : ℕ) → Laid places c it → u < it.count → c p s ≡ None → NoneStands (it.units u).log p s
none_stands places c it u p s laid low free e has = stands_away e p s (λ place number.
    let live = (All-contains (IsEntry c places u (it.units u).home (it.units u).head.generation) (it.units u).log e (laid.each u low).log.each has).live in
    let there : Some e.sector ≡ None = sym live.here ∙ ap₂ c place number ∙ free in cc there)

-- the log of the unit, and those of the others
pub log_mine : (places : ℕ) (c : Chart) (it : Layout) (u p s : ℕ) (sector : Sector) (records : List Record)
    → ((with_log it u (entry_at p s sector records)).units u).log ≡ (it.units u).log ++ entry_at p s sector records ∷ []
log_mine places c it u p s sector records = rw (eq-eqb u u refl) refl

pub log_other : (places : ℕ) (c : Chart) (it : Layout) (u p s : ℕ) (sector : Sector) (records : List Record) (v : ℕ) → v ≢ u
    → ((with_log it u (entry_at p s sector records)).units v).log ≡ (it.units v).log
log_other places c it u p s sector records v apart = rw (ne_eqb v u apart) refl

module _ (places : ℕ) (c : Chart) (it : Layout) (u p s : ℕ) (sector : Sector) (records : List Record) (may : MayLog places c it u p s sector records) where
  abbrev y : Chart
  y = with_sector c p s sector

  abbrev jt : Layout
  jt = with_log it u (entry_at p s sector records)

  no_header : s ≢ 0
  no_header none = elim may.counts [ inl at_home ↦ omega (arith, at_home.1) | inr over ↦ omega (arith, over.1) ]

  pub same_home : (v : ℕ) → (jt.units v).home ≡ (it.units v).home
  same_home v = elim (cases_eq v u) [ inl same ↦ rw (same, eq-eqb u u refl) refl | inr apart ↦ rw (ne_eqb v u apart) refl ]

  pub same_head : (v : ℕ) → (jt.units v).head ≡ (it.units v).head
  same_head v = elim (cases_eq v u) [ inl same ↦ rw (same, eq-eqb u u refl) refl | inr apart ↦ rw (ne_eqb v u apart) refl ]

  pub live_then : (v q t : ℕ) (x : Sector) → IsLiveIn c places it v q t x → IsLiveIn y places jt v q t x
  live_then v q t x live = rw (same_home v, same_head v) (live_still c p s sector may.free places v (it.units v).home (it.units v).head.generation q t x live)

  pub new_or_live : (v q t : ℕ) (x : Sector) → IsLiveIn y places jt v q t x → ((v ≡ u) × (q ≡ p) × (t ≡ s)) ⊎ IsLiveIn c places it v q t x
  new_or_live v q t x live =
      let now : IsLive y places v (it.units v).home (it.units v).head.generation q t x = rw (same_home v, same_head v) at live in
      elim (new_or_old c p s sector may.free q t x now.here) [
        | inl new ↦ inl (sym now.of_unit ∙ ap (λ (z : Sector). z.unit) (sym new.2) ∙ may.of_unit, new.0, new.1)
        | inr old ↦ inr (live_before c p s sector may.free (λ none. absurd (no_header none)) places v (it.units v).home (it.units v).head.generation q t x now old)
      ]

  pub over_then : (q : ℕ) → IsOverflow c q → IsOverflow y q
  over_then q over = (over.0, kept c p s sector may.free q 0 over.0 over.1, over.2)

  pub numbers_then : (t other : Tables) (next : ℕ) → MirrorsNumbers places c it t → t.next ≤ next → MentionsBelow next sector → other.next ≡ next → other.active ≡ t.active → MirrorsNumbers places y jt other
  numbers_then t other next was more below same active = record {
    above = rw same (log_sectors_keep_the_counter places c it u p s sector records next may below (λ n found. let low = was.above n found in omega (arith, low, more)));
    below = rw (same, active) (λ k none within. let low = was.below k none within in omega (arith, low, more));
    once = rw active was.once;
    waits = rw active was.waits;
  }
