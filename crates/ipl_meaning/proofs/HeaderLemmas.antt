-- The headers of a chart: those that are chosen are those that count.
use Rattle.std.proofs.Common.{ℕ, ◌≡◌, ◌⊎◌, inl, inr, ◌<◌, ◌≤◌, Bool, true, nat_lt, Option, Some, None, refl, sym, ◌∙◌, ap, subst, arith}
use Rattle.std.proofs.lemmas.Bool.{cases_Bool, ltb-true, lt-ltb, le-leb, eqb-true, eq-eqb, and_parts, and_from, both_ways, cond-true, cond-false}
use Rattle.std.proofs.lemmas.Option.{cond_some}
use Rattle.ipl_format.specs.Sector.{Sector}
use Rattle.ipl_meaning.specs.Chart.{Chart, IsChosen, IsDataHeader, IsStatusHeader}
use Rattle.ipl_meaning.specs.Chosen.{KeptHeader, Winner, chosen, head_of, header_in, header_at, is_header, is_data_of, is_status, current_at, units_at}
use Rattle.ipl_meaning.specs.ChosenLaws.{IsWinnerOf, CurrentsAreChosen, ChosenAreCurrent, NoneIsCurrent, StatusesAreChosen, ChosenAreStatus, NoneIsStatus}
use Rattle.ipl_meaning.proofs.ChosenLemmas.{IsBest, chosen_is_best, best_is_chosen, none_chosen}

-- where a header is kept from
pub record IsHeaderAt (c : Chart) (places p : ℕ) (head : KeptHeader) : Type 0 where
  pub within : p < places
  pub sector : Sector
  pub here : c p 0 ≡ Some sector
  pub of_kind : is_header sector ≡ true
  pub kept : head_of places sector ≡ head

header_from : (c : Chart) (places p : ℕ) (head : KeptHeader) (o : Option Sector) → c p 0 ≡ o → p < places → header_in places o ≡ Some head → IsHeaderAt c places p head
header_from c places p head None here within is = cc
header_from c places p head (Some sector) here within is =
    let parts : (is_header sector ≡ true) × (head_of places sector ≡ head) = cond_some (is_header sector) (head_of places sector) head is in
    record { within = within; sector = sector; here = here; of_kind = parts.0; kept = parts.1 }

-- a header in the table stands on the chart
pub header_there : (c : Chart) (places p : ℕ) (head : KeptHeader) → header_at c places p ≡ Some head → IsHeaderAt c places p head
header_there c places p head is = elim (cases_Bool (nat_lt p places)) [
  | inl low ↦ header_from c places p head (c p 0) refl (ltb-true p places low) (rw low at is)
  | inr high ↦ absurd (let none : None ≡ Some head = rw high at is in cc none)
]

-- one that stands on the chart is in the table
pub header_kept : (c : Chart) (places p : ℕ) (sector : Sector) → p < places → c p 0 ≡ Some sector → is_header sector ≡ true
    → header_at c places p ≡ Some (head_of places sector)
header_kept c places p sector within here kind = rw (lt-ltb p places within, here, kind) refl

-- ---- the header that fits, as a test and as a fact

module _ (c : Chart) (places : ℕ) (fits : KeptHeader → Bool) (Fits : Sector → Type 0)
    (to : (s : Sector) → fits (head_of places s) ≡ true → Fits s)
    (from : (s : Sector) → Fits s → (is_header s ≡ true) × (fits (head_of places s) ≡ true)) where
  fits_too : (q : ℕ) (other : Sector) → q < places → c q 0 ≡ Some other → Fits other
      → (header_at c places q ≡ Some (head_of places other)) × (fits (head_of places other) ≡ true)
  fits_too q other within here is = (header_kept c places q other within here (from other is).0, (from other is).1)

  pub picks_count : (winner : Winner) → chosen fits (header_at c places) places ≡ Some winner → IsWinnerOf c places Fits winner
  picks_count winner is =
      let it : IsBest fits (header_at c places) places winner = chosen_is_best fits (header_at c places) places winner is in
      let stands : IsHeaderAt c places winner.place winner.head = header_there c places winner.place winner.head it.here in
      let serial : stands.sector.serial ≡ winner.head.serial = ap (λ (h : KeptHeader). h.serial) stands.kept in
      record {
        sector = stands.sector;
        counts = record {
          within = it.within;
          here = stands.here;
          fits = to stands.sector (ap fits stands.kept ∙ it.of_kind);
          best = λ q other within here fit.
              let too = fits_too q other within here fit in
              subst (λ (n : ℕ). (other.serial < n) ⊎ ((other.serial ≡ n) × (winner.place ≤ q))) (sym serial)
              (it.best q (head_of places other) within too.0 too.1);
        };
        head = sym stands.kept;
      }

  pub counts_picked : (p : ℕ) (head : Sector) → IsChosen c places Fits p head
      → chosen fits (header_at c places) places ≡ Some (record { place = p; head = head_of places head })
  counts_picked p head it =
      let mine = fits_too p head it.within it.here it.fits in
      best_is_chosen fits (header_at c places) places (record { place = p; head = head_of places head }) (record {
        within = it.within;
        here = mine.0;
        of_kind = mine.1;
        best = λ q other within here fit.
            let stands : IsHeaderAt c places q other = header_there c places q other here in
            let serial : stands.sector.serial ≡ other.serial = ap (λ (h : KeptHeader). h.serial) stands.kept in
            subst (λ (n : ℕ). (n < head.serial) ⊎ ((n ≡ head.serial) × (p ≤ q))) serial
            (it.best q stands.sector within stands.here (to stands.sector (ap fits stands.kept ∙ fit)));
      })

  pub none_counts : chosen fits (header_at c places) places ≡ None → (p : ℕ) (head : Sector) → p < places → c p 0 ≡ Some head → Fits head → ⊥
  none_counts none p head within here is =
      let too = fits_too p head within here is in
      both_ways (fits (head_of places head)) (none_chosen fits (header_at c places) places none p (head_of places head) within too.0) too.1

-- ---- data headers

data_fits : (u places : ℕ) (s : Sector) → is_data_of u (head_of places s) ≡ true → IsDataHeader u s
data_fits u places s is = let parts = and_parts _ _ is in (eqb-true s.kind 1 parts.0, eqb-true s.unit u parts.1)

data_is : (u places : ℕ) (s : Sector) → IsDataHeader u s → (is_header s ≡ true) × (is_data_of u (head_of places s) ≡ true)
data_is u places s is = (
  and_from _ _ (le-leb 1 s.kind (omega (arith, is.0))) (le-leb s.kind 3 (omega (arith, is.0))),
  and_from _ _ (eq-eqb s.kind 1 is.0) (eq-eqb s.unit u is.1),
)

pub current_is : (c : Chart) (places u : ℕ) → u < units_at c places → current_at c places u ≡ chosen (is_data_of u) (header_at c places) places
current_is c places u low =
    cond-true (nat_lt u (units_at c places)) (chosen (is_data_of u) (header_at c places) places) None (lt-ltb u (units_at c places) low)

-- only a unit of the chip has one
pub current_low : (c : Chart) (places u : ℕ) (winner : Winner) → current_at c places u ≡ Some winner → u < units_at c places
current_low c places u winner is = elim (cases_Bool (nat_lt u (units_at c places))) [
  | inl low ↦ ltb-true u (units_at c places) low
  | inr high ↦ absurd (
      let none : None ≡ Some winner = sym (cond-false (nat_lt u (units_at c places)) (chosen (is_data_of u) (header_at c places) places) None high) ∙ is in
      cc none)
]

pub currents_are_chosen : CurrentsAreChosen
currents_are_chosen c places u winner is =
    let low = current_low c places u winner is in
    (low, picks_count c places (is_data_of u) (IsDataHeader u) (data_fits u places) (data_is u places) winner (sym (current_is c places u low) ∙ is))

pub chosen_are_current : ChosenAreCurrent
chosen_are_current c places u p head low it =
    current_is c places u low ∙ counts_picked c places (is_data_of u) (IsDataHeader u) (data_fits u places) (data_is u places) p head it

pub none_is_current : NoneIsCurrent
none_is_current c places u p head low none within here =
    none_counts c places (is_data_of u) (IsDataHeader u) (data_fits u places) (data_is u places) (sym (current_is c places u low) ∙ none) p head within here

-- ---- status headers

status_fits : (places : ℕ) (s : Sector) → is_status (head_of places s) ≡ true → IsStatusHeader s
status_fits places s is = eqb-true s.kind 2 is

status_is : (places : ℕ) (s : Sector) → IsStatusHeader s → (is_header s ≡ true) × (is_status (head_of places s) ≡ true)
status_is places s is = (
  and_from _ _ (le-leb 1 s.kind (omega (arith, is))) (le-leb s.kind 3 (omega (arith, is))),
  eq-eqb s.kind 2 is,
)

pub statuses_are_chosen : StatusesAreChosen
statuses_are_chosen c places winner is = picks_count c places is_status IsStatusHeader (status_fits places) (status_is places) winner is

pub chosen_are_status : ChosenAreStatus
chosen_are_status c places p head it = counts_picked c places is_status IsStatusHeader (status_fits places) (status_is places) p head it

pub none_is_status : NoneIsStatus
none_is_status c places p head none within here =
    none_counts c places is_status IsStatusHeader (status_fits places) (status_is places) none p head within here
