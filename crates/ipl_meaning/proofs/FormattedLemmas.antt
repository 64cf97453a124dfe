-- A formatted chip stands for the empty map.
use Rattle.std.proofs.Common.{◌≡◌, ◌≢◌, ◌⊎◌, ℕ, ◌<◌, ◌≤◌, ◌+◌, ◌*◌, [], slice_index, Some, None, inl, inr, refl, sym, ◌∙◌, ap, arith, false}
use Rattle.std.proofs.lemmas.Bool.{cases_eq, cases_lt, eq-eqb, ne_eqb, lt-ltb, le-ltb, false≢true}
use Rattle.std.proofs.lemmas.List.{get_or-replicate, get_or_past}
use Rattle.std.proofs.lemmas.List.Elements.{All-replicate}
use Rattle.std.specs.Ordering.{nat_cmp}
use Rattle.std.specs.FinMap.{empty, get-empty}
use Rattle.ipl_base.specs.Places.{KeepsUnits}
use Rattle.ipl_format.specs.Sector.{Sector}
use Rattle.ipl_format.specs.Header.{AreErases, IsCount, AreRetired}
use Rattle.ipl_base.specs.declared.limits.TheConstants.{VERSION}
use Rattle.ipl_format.specs.Page.{empty_page, page_text, value_in}
use Rattle.ipl_format.proofs.PageLemmas.{empty_pages_spell_nothing}
use Rattle.ipl_meaning.proofs.SizeLemmas.{no_size}
use Rattle.ipl_meaning.specs.Chart.{Chart, IsLive}
use Rattle.ipl_meaning.specs.Layout.{Shape, IsUnit, Layout, Laid}
use Rattle.ipl_meaning.specs.Legible.{whole}
use Rattle.ipl_meaning.specs.Stands.{Shows, Says, page_in}
use Rattle.ipl_meaning.specs.Formatted.{no_pieces, first_head, first_status, formatted}
use Rattle.ipl_meaning.specs.FirstTables.{first_layout}
use Rattle.ipl_meaning.specs.Laws.{FormattedChipsAreEmpty}

module _ (places units : ℕ) (least : 5 ≤ places) (most : places ≤ 1028) (keeps : KeepsUnits places units) where
  abbrev c : Chart
  c = formatted units

  unit_here : (p : ℕ) → p < units → c p 0 ≡ Some (first_head units p)
  unit_here p low = rw (lt-ltb p (units) low) refl

  status_here : c (units) 0 ≡ Some (first_status units)
  status_here = rw (le-ltb (units) (units) (omega arith), eq-eqb (units) (units) refl) refl

  pub header_is : (p : ℕ) (x : Sector) → c p 0 ≡ Some x → ((p < units) × (first_head units p ≡ x)) ⊎ ((p ≡ units) × (first_status units ≡ x))
  header_is p x there = elim (cases_lt p (units)) [
    | inl low ↦ inl (low, let same : Some (first_head units p) ≡ Some x = rw (lt-ltb p (units) low) at there in cc same)
    | inr high ↦ elim (cases_eq p (units)) [
      | inl at ↦ inr (at, let same : Some (first_status units) ≡ Some x = rw (le-ltb p (units) high, eq-eqb p (units) at) at there in cc same)
      | inr apart ↦ absurd (let none : None ≡ Some x = rw (le-ltb p (units) high, ne_eqb p (units) apart) at there in cc none)
    ]
  ]

  pub no_sector : (p s : ℕ) (x : Sector) → s ≢ 0 → c p s ≢ Some x
  no_sector p s x other there = let none : None ≡ Some x = rw (ne_eqb s 0 other) at there in cc none

  pub never_live : (u home generation p s : ℕ) (x : Sector) → ¬ IsLive c places u home generation p s x
  never_live u home generation p s x live = no_sector p s x (λ none. elim live.counts [ inl at_home ↦ omega (arith, at_home.1, none) | inr over ↦ omega (arith, over.1, none) ]) live.here

  abbrev shape : ℕ → Shape
  shape u = record { home = u; head = first_head units u; pieces = no_pieces; log = [] }

  abbrev it : Layout
  it = record { status = units; head = first_status units; committed = λ tid. false; count = units; units = shape }

  -- each place counts as erased once, and none is retired
  once : AreErases VERSION 1
  once = record { fits = omega arith; once = λ before. refl }

  none_retired : AreRetired VERSION places (units) []
  none_retired = record {
    rising = λ i j none before within. absurd (omega (arith, within));
    within = λ k none within. absurd (omega (arith, within));
    few = omega arith;
    spare = omega (arith, keeps.1);
    none = λ before. refl;
  }

  unit : (u : ℕ) → u < units → IsUnit c places (units) u (shape u)
  unit u low = record {
    chosen = record {
      within = omega (arith, keeps.1, low);
      here = unit_here u low;
      fits = (refl, refl);
      best = λ q other less there fits. elim (header_is q other there) [
        | inl first ↦
            let same : q ≡ u = ap (λ (z : Sector). z.unit) first.1 ∙ fits.1 in
            inr (ap (λ (z : Sector). z.serial) (sym first.1) ∙ ap (λ (n : ℕ). n + 1) same, omega (arith, same))
        | inr status ↦ absurd (omega (arith, fits.0, ap (λ (z : Sector). z.kind) status.1))
      ];
    };
    counts = record {
      carried = 0;
      erases = 1;
      bytes = refl;
      fits = omega (arith, most, keeps.1);
      fifteen = refl;
      each = All-replicate IsCount 15 0 (omega arith);
      few = omega arith;
      counted = once;
    };
    log = record {
      each = λ k none within. absurd (omega (arith, within));
      all = λ p s x live. absurd (never_live u u (u + 1) p s x live);
      rising = λ i j none before within. absurd (omega (arith, within));
      spots = [];
      few = omega arith;
      listed = λ k none within. absurd (omega (arith, within));
    };
  }

  pub laid : Laid places c it
  laid = record {
    least = least;
    most = most;
    count = keeps;
    chosen = record {
      within = omega (arith, keeps.1);
      here = status_here;
      fits = refl;
      best = λ q other less there fits. elim (header_is q other there) [
        | inl first ↦ absurd (omega (arith, fits, ap (λ (z : Sector). z.kind) first.1))
        | inr status ↦ inr (ap (λ (z : Sector). z.serial) (sym status.1), omega (arith, status.0))
      ];
    };
    counts = record { erases = 1; retired = []; bytes = refl; fits = omega (arith, most, keeps.1); counted = once; listed = none_retired };
    commits = record {
      spelled = λ s x w. absurd (no_sector _ s x (λ none. omega (arith, w.where_it_is.0, none)) w.here);
      told = λ tid is_so. absurd (cc is_so);
      all_told = λ tid w. absurd (no_sector _ w.number w.sector (λ none. omega (arith, w.is.where_it_is.0, none)) w.is.here);
    };
    marks = λ s x w. absurd (no_sector _ s x (λ none. omega (arith, w.where_it_is.0, none)) w.here);
    each = unit;
    overflows = [];
    two = omega arith;
    in_overflow = λ u low k none within. absurd (omega (arith, within));
  }

  no_count : (page : ℕ) → slice_index no_pieces page ≡ 0
  no_count page = elim (cases_lt page 15) [
    | inl low ↦ get_or-replicate 15 page 0 0 low
    | inr high ↦ get_or_past no_pieces page 0 high
  ]

  no_text : page_text VERSION empty_page ≡ []
  no_text = sym (empty_pages_spell_nothing VERSION).text

  -- an empty page shows nothing
  no_value : (slot : ℕ) → slot < 64 → value_in empty_page slot ≡ None
  unfolding empty_page
  no_value slot low = get_or-replicate 64 slot None None low

  shows : (u page : ℕ) → Shows c (λ tid. false) u (shape u) page (page_in empty u page)
  shows u page = record {
    base = empty_page;
    reads = record {
      fits = (empty_pages_spell_nothing VERSION).slots;
      cut = record {
        enough = rw no_text (omega arith);
        needed = rw (no_text, no_count page) (omega arith);
      };
      here = λ i within. absurd (omega (arith, within, no_count page));
    };
    says = λ slot low. get-empty nat_cmp (960 * u + 64 * page + slot) ∙ sym (no_value slot low);
    room =
        omega (
          arith,
          no_size (page_in empty u page)
              (λ slot. get-empty nat_cmp (960 * u + 64 * page + slot)),
        );
  }

-- its pages show no record
pub formatted_pages_are_empty : (places units : ℕ) → 5 ≤ places → places ≤ 1028 → KeepsUnits places units → Says places (formatted units) (first_layout units) (whole empty)
formatted_pages_are_empty places units least most keeps = record {
  pages = λ u page low few reads. shows places units least most keeps u page;
  rotten = λ u page base low few is reads. false≢true is;
  nowhere_else = λ n high. get-empty nat_cmp n;
}

pub formatted_chips_are_empty : FormattedChipsAreEmpty
formatted_chips_are_empty places units least most keeps = record {
  layout = first_layout units;
  laid = laid places units least most keeps;
  says = formatted_pages_are_empty places units least most keeps;
}
