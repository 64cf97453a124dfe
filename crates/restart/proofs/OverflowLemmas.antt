-- The overflow lists, filled place by place.
use Rattle.std.proofs.Common.{◌≡◌, ◌<◌, ◌*◌, ℕ, zero, suc, Bool, false, cond, List, [], length, get_or, Option, Some, None, refl, sym, ◌∙◌, ap, arith}
use Rattle.ipl_meaning.specs.Chart.{Chart}
use Rattle.ipl_meaning.specs.Tables.{OverflowLists}
use Rattle.overflow.specs.Lists.{spots_in}
use Rattle.ipl_meaning.specs.First.{at, all_below}
use Rattle.ipl_meaning.specs.Chosen.{KeptHeader, Winner, header_at, current_at}
use Rattle.ipl_meaning.specs.Live.{mark_at, marks, marks_in}
use Rattle.ipl_meaning.specs.Faults.{holds_live}
use Rattle.ipl_meaning.specs.FoundLogs.{spots_below, overflow_at}
use Rattle.ipl_meaning.specs.Opened.{IsOpenedOverflow}
use Rattle.restart.specs.Notes.{Notes, IsNoted}
use Rattle.restart.specs.Shown.{ShowsHeaders, is_held}
use Rattle.restart.proofs.ListedLemmas.{spots_all}
use Rattle.restart.proofs.OpenLemmas.{held_is, to_chart}

all_alike : {A : Type 0} (f g : ℕ → Option A) (n : ℕ) → ((k : ℕ) → k < n → f k ≡ g k) → all_below f n ≡ all_below g n
all_alike f g zero same = refl
all_alike f g (suc n) same = rw (all_alike f g n (λ k low. same k (omega arith)), same n (omega arith)) refl

module _ (c : Chart) (places : ℕ) (heads : List (Option KeptHeader)) (current : List (Option Winner)) (status : Winner)
    (shows : ShowsHeaders c places heads current status) (notes : Notes) (found : OverflowLists)
    (noted : IsNoted notes found (marks (at heads) (at current) c (places * 256))) where
  abbrev of_chart : ℕ → Bool
  of_chart = holds_live (header_at c places) (marks_in c places (places * 256))

  spots_found : notes.left ≡ false → (u : ℕ) → spots_in found u ≡ spots_below (header_at c places) (current_at c places) c u (places * 256)
  spots_found none u =
      to_chart c places heads current status shows
      (λ h cur st. spots_in found u ≡ spots_below h cur c u (places * 256))
      (noted.spots none u ∙ sym (spots_all u (mark_at (at heads) (at current) c) (places * 256)))

  held_found : (p : ℕ) → is_held heads notes p ≡ of_chart p
  held_found p =
      to_chart c places heads current status shows
      (λ h cur st. is_held heads notes p ≡ holds_live h (marks h cur c (places * 256)) p)
      (held_is heads notes found (marks (at heads) (at current) c (places * 256)) noted p)

  -- the lists, as an opening finds them
  pub opened_overflow : (lists : OverflowLists) → notes.left ≡ false → length found.spots ≡ length current
      → length heads ≡ places → lists.places ≡ places → lists.spots ≡ found.spots
      → lists.in_use ≡ all_below (overflow_at (is_held heads notes)) (length heads) → IsOpenedOverflow places c lists
  opened_overflow lists none size all places_are same in_use = record {
    places_are = places_are;
    units = ap length same ∙ size ∙ shows.units_are;
    spots_are = λ u low. ap (λ (xs : List (List (ℕ × ℕ))). get_or xs u []) same ∙ spots_found none u;
    in_use_are = in_use ∙ ap (all_below (overflow_at (is_held heads notes))) all
        ∙ all_alike (overflow_at (is_held heads notes)) (overflow_at of_chart) places
        (λ p low. ap (λ (b : Bool). let o : Option (ℕ × ℕ) = cond b (Some (p, 256)) None in o) (held_found p));
  }
