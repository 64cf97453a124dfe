-- The tables of a formatted chip.
use Rattle.std.proofs.Common.{◌≡◌, ◌⊎◌, ℕ, ◌<◌, ◌≤◌, ◌+◌, ◌-◌, [], ◌++◌, replicate, get_or, Some, inl, inr, refl, ◌∙◌, arith, true, false, length-append}
use Rattle.std.specs.List.{Contains}
use Rattle.std.proofs.lemmas.Bool.{cases_lt}
use Rattle.std.proofs.lemmas.List.{get_or-replicate, get_or_append_left, length-replicate}
use Rattle.std.proofs.lemmas.List.FromFn.{length-range_with_len, get_or-range_with_len}
use Rattle.ipl_base.specs.Places.{KeepsUnits}
use Rattle.ipl_format.specs.Sector.{Sector}
use Rattle.ipl_meaning.specs.Chart.{Chart}
use Rattle.ipl_meaning.specs.Found.{IsRead, Mentions}
use Rattle.ipl_meaning.specs.Tables.{IsFree, Tables, masks_in, spots_of, masks_of, written_of, IsCountedClean}
use Rattle.ipl_meaning.specs.Mirrors.{Mirrors}
use Rattle.ipl_meaning.specs.Formatted.{first_head, first_status, formatted}
use Rattle.ipl_meaning.specs.FirstTables.{first_layout, first_tables}
use Rattle.ipl_meaning.specs.TableLaws.{FirstTablesMirror}
use Rattle.ipl_meaning.proofs.FormattedLemmas.{header_is, no_sector, laid, never_live}
use Rattle.ipl_meaning.proofs.CounterLemmas.{of_status_here}

module _ (places units : ℕ) (least : 5 ≤ places) (most : places ≤ 1028) (keeps : KeepsUnits places units) where
  abbrev c : Chart
  c = formatted units

  abbrev t : Tables
  t = first_tables places units

  -- a free place comes after the status place
  free_after : (q : ℕ) → IsFree t.places q → units < q
  free_after q free = elim (cases_lt q (units + 1)) [
    | inl low ↦ absurd (
        let taken : get_or (replicate (units + 1) true ++ replicate (places - units - 1) false) q true ≡ true =
        get_or_append_left (replicate (units + 1) true) (replicate (places - units - 1) false) true q (omega (arith, low, length-replicate (units + 1) true)) ∙ get_or-replicate (units + 1) q true true low in
        cc (taken, free))
    | inr high ↦ omega (arith, high)
  ]

  no_spots : (u : ℕ) → u < units → spots_of t u ≡ []
  no_spots u low = get_or-replicate (units) u [] [] low

  no_masks : (u : ℕ) → u < units → masks_in t.places u ≡ replicate 15 0
  no_masks u low = get_or-replicate (units) u (replicate 15 0) [] low

  no_list : (u : ℕ) → u < units → masks_of t u ≡ []
  no_list u low = get_or-replicate (units) u [] [] low

  none_listed : {X : Type 0} (x : X) → ¬ Contains [] x
  none_listed x (k, within, is) = omega (arith, within)

  none_known : (u : ℕ) → u < units → written_of t u ≡ 32
  none_known u low = get_or-replicate {A = ℕ} (units) u 32 0 low

  none_counted : (p s : ℕ) → ¬ IsCountedClean t p s
  none_counted p s (small, inl (u, less, is, first)) =
      let from : 256 ≤ s = rw (none_known u (omega (arith, less, length-range_with_len 0 (units)))) at first in omega (arith, small, from)
  none_counted p s (small, inr (inl (first, is, above))) = none_listed (p, first) is
  none_counted p s (small, inr (inr (is, above))) = omega (arith, small, above)

  -- what a header mentions
  own_only : (x : Sector) (n : ℕ) → x.kind ≤ 2 → Mentions x n → (n ≡ x.generation) ⊎ (n ≡ x.serial)
  own_only x n kind (inl own) = inl own
  own_only x n kind (inr (inl own)) = inr own
  own_only x n kind (inr (inr (inl six))) = absurd (omega (arith, kind, six.0))
  own_only x n kind (inr (inr (inr five))) = absurd (omega (arith, kind, five.0))

  header_below : (p : ℕ) (x : Sector) (n : ℕ) → c p 0 ≡ Some x → Mentions x n → n < units + 2
  header_below p x n there mentions = elim (header_is places units least most keeps p x there) [
    | inl (low, is) ↦ elim (own_only (first_head units p) n (omega arith) (rw (← is) at mentions)) [ inl own ↦ omega (arith, own, low) | inr own ↦ omega (arith, own, low) ]
    | inr (at, is) ↦ elim (own_only (first_status units) n (omega arith) (rw (← is) at mentions)) [ inl own ↦ omega (arith, own) | inr own ↦ omega (arith, own) ]
  ]

  read_below : (p s : ℕ) (x : Sector) (n : ℕ) → IsRead places c (first_layout units) p s x → Mentions x n → n < units + 2
  read_below p s x n (inl (header, low, there, fits)) mentions = header_below p x n there mentions
  read_below p s x n (inr (inl (at, w))) mentions =
      let (there, number, kind) = of_status_here c units (units + 1) s x w in
      absurd (no_sector places units least most keeps _ s x (λ none. omega (arith, number, none)) there)
  read_below p s x n (inr (inr (low, small, there, kind, inl (u, less, at, region)))) mentions = absurd (no_sector places units least most keeps p s x (λ none. omega (arith, region, none)) there)
  read_below p s x n (inr (inr (low, small, there, kind, inr (over, number)))) mentions = absurd (no_sector places units least most keeps p s x (λ none. omega (arith, number, none)) there)

  mirror : Mirrors places c (first_layout units) t
  mirror = record {
    laid = laid places units least most keeps;
    directory = record {
      units = length-range_with_len 0 (units);
      logs = length-replicate (units) 32;
      all = omega (arith, keeps.1, length-append (replicate (units + 1) true) (replicate (places - units - 1) false), length-replicate (units + 1) true, length-replicate (places - units - 1) false, keeps.1);
      counts = length-replicate places 1;
      current = λ u low. get_or-range_with_len 0 (units) u 0 low ∙ (let e : 0 + u ≡ u = omega arith in e);
      heads = length-range_with_len 1 (units);
      generation = λ u low. get_or-range_with_len 1 (units) u 0 low ∙ (let e : 1 + u ≡ u + 1 = omega arith in e);
      not_home = λ q free u low is. omega (arith, free_after q free, low, is);
      not_status = λ q free is. omega (arith, free_after q free, is);
      not_overflow = λ q free is. none_listed q is;
    };
    overflow = record {
      units = length-replicate (units) [];
      listed = λ u p s x low live. absurd (never_live places units least most keeps u u (u + 1) p s x live);
      only = λ u p s low is. absurd (none_listed (p, s) (rw (no_spots u low) at is));
      once = λ u low. rw (no_spots u low) (λ i j d before within. absurd (omega (arith, within)));
      few = λ u low. rw (no_spots u low) (omega arith);
      in_overflow = λ u p s low is. absurd (none_listed (p, s) (rw (no_spots u low) at is));
      headed = λ p is. absurd (none_listed p is);
      two = omega arith;
      apart = λ i j d before within. absurd (omega (arith, within));
    };
    status = record { place = refl; generation = refl; numbers = λ tid. (λ is_so. absurd (cc is_so), λ is. absurd (none_listed tid is)) };
    numbers = record {
      above = λ n (p, s, x, read, mentions). read_below p s x n read mentions;
      below = λ k none within. absurd (omega (arith, within));
      once = λ i j d before within. absurd (omega (arith, within));
      waits = λ k none within. absurd (omega (arith, within));
    };
    masks = record {
      units = length-replicate (units) (replicate 15 0);
      lists = length-replicate (units) [];
      sectors = λ u low. rw (no_masks u low) (length-replicate {A = ℕ} 15 0);
      home = λ u s low least most. rw (no_masks u low) (get_or-replicate {A = ℕ} 15 (s - 241) 0 0 (omega (arith, least, most)));
      elsewhere = λ u low. rw (no_list u low, no_spots u low) refl;
    };
    logs = record {
      unmarked = λ u low first. absurd (omega (arith, first, none_known u low));
      whole = λ u n low known. absurd (omega (arith, known, none_known u low));
    };
    counted_clean = λ p s is. absurd (none_counted p s is);
  }

pub first_tables_mirror : FirstTablesMirror
first_tables_mirror places units least most keeps = mirror places units least most keeps
