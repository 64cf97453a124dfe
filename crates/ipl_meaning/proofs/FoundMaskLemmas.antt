-- The masks that an opening finds are those of the layout.
use Rattle.std.proofs.Common.{◌≡◌, ℕ, ◌<◌, ◌+◌, ◌*◌, ◌/◌, ◌%◌, ◌==◌, Bool, true, false, Option, Some, None, inl, inr, refl, sym, ◌∙◌, ap, ap₂, arith}
use Rattle.std.specs.List.{Contains}
use Rattle.std.proofs.lemmas.Bool.{cases_Bool}
use Rattle.ipl_format.specs.Sector.{Sector}
use Rattle.log_records.specs.Reading.{records_of}
use Rattle.ipl_meaning.specs.Chart.{Chart}
use Rattle.ipl_meaning.specs.Layout.{Entry}
use Rattle.ipl_meaning.specs.Masks.{mask_of, mask_at}
use Rattle.ipl_meaning.proofs.MaskLemmas.{StandApart, no_mask, own_mask, stands_away}
use Rattle.ipl_meaning.specs.Live.{live_in}
use Rattle.ipl_meaning.specs.LaidOut.{entry_of, entry_at, log_in}
use Rattle.ipl_meaning.proofs.SortLemmas.{sorted_has, sorted_from}
use Rattle.ipl_meaning.specs.FoundLogs.{mask_of_sector, mask_found}

-- an entry at a number stands there
record StandsBy (k : ℕ) (e : Entry) : Type 0 where
  place : e.place ≡ k / 256
  number : e.number ≡ k % 256

stands_by : (u k : ℕ) (o : Option Sector) (e : Entry) → entry_of u k o ≡ Some e
    → StandsBy k e × (mask_of_sector u o ≡ mask_of e.records)
stands_by u k None e is = absurd (cc is)
stands_by u k (Some sector) e is = go (sector.unit == u) refl is
  where
    go : (b : Bool) → (sector.unit == u) ≡ b → entry_of u k (Some sector) ≡ Some e
        → StandsBy k e × (mask_of_sector u (Some sector) ≡ mask_of e.records)
    go true own is =
        let there : Some (record { place = k / 256; number = k % 256; sector = sector; records = records_of sector.version sector.payload }) ≡ Some e =
        rw own at is in
        let same : record { place = k / 256; number = k % 256; sector = sector; records = records_of sector.version sector.payload } ≡ e = cc in (
          record { place = ap (λ (x : Entry). x.place) (sym same); number = ap (λ (x : Entry). x.number) (sym same) },
          rw own (ap (λ (x : Entry). mask_of x.records) same),
        )
    go false other is = absurd (let none : None ≡ Some e = rw other at is in cc)

none_by : (u k : ℕ) (o : Option Sector) → entry_of u k o ≡ None → mask_of_sector u o ≡ 0
none_by u k None is = refl
none_by u k (Some sector) is = elim (cases_Bool (sector.unit == u)) [
  | inl own ↦ absurd (let some : Some (record { place = k / 256; number = k % 256; sector = sector; records = records_of sector.version sector.payload }) ≡ None = rw own at is in cc)
  | inr other ↦ rw other refl
]

module _ (c : Chart) (places u : ℕ) where
  abbrev f : ℕ → Option Entry
  f = entry_at c places u

  by : (k : ℕ) (e : Entry) → f k ≡ Some e → StandsBy k e
  by k e is = (stands_by u k (live_in c places k) e is).0

  stand_apart : StandApart (log_in c places u)
  stand_apart d e in_d in_e place number =
      let from = sorted_from f (places * 256) d in_d in
      let too = sorted_from f (places * 256) e in_e in
      let a = by from.number d from.here in
      let b = by too.number e too.here in
      let one : from.number ≡ too.number = omega (arith, a.place, a.number, b.place, b.number, place, number) in
      let both : Some d ≡ Some e = sym from.here ∙ ap f one ∙ too.here in cc

  -- the mask of a spot by the log is that of the sector at its number
  pub mask_is : (p s : ℕ) → p < places → s < 256 → mask_at (log_in c places u) p s ≡ mask_found c places u (p * 256 + s)
  mask_is p s low small = go (f (p * 256 + s)) refl
    where
      go : (o : Option Entry) → f (p * 256 + s) ≡ o → mask_at (log_in c places u) p s ≡ mask_found c places u (p * 256 + s)
      go None is =
          no_mask (log_in c places u) p s (λ e has. stands_away e p s (λ place number.
          let from = sorted_from f (places * 256) e has in
          let at = by from.number e from.here in
          let one : from.number ≡ p * 256 + s = omega (arith, at.place, at.number, place, number, small) in
          let none : Some e ≡ None = sym from.here ∙ ap f one ∙ is in cc none))
          ∙ sym (none_by u (p * 256 + s) (live_in c places (p * 256 + s)) is)
      go (Some e) is =
          let has : Contains (log_in c places u) e = sorted_has f (places * 256) (p * 256 + s) e (omega (arith, low, small)) is in
          let there = stands_by u (p * 256 + s) (live_in c places (p * 256 + s)) e is in
          let place : e.place ≡ p = omega (arith, there.0.place, small) in
          let number : e.number ≡ s = omega (arith, there.0.number, small) in
          ap₂ (mask_at (log_in c places u)) (sym place) (sym number)
          ∙ own_mask (log_in c places u) e stand_apart has ∙ sym there.1
