-- How the tables follow a new overflow place.
use Rattle.std.proofs.Common.{◌≡◌, ◌≢◌, ◌⊎◌, ℕ, ◌<◌, ◌≤◌, List, [], ◌∷◌, ◌++◌, zero, suc, length, map, Some, None, inl, inr, refl, sym, ◌∙◌, ap, subst, arith}
use Rattle.std.specs.List.{Contains}
use Rattle.std.proofs.lemmas.List.{length-append, get_or_default}
use Rattle.std.proofs.lemmas.List.Elements.{Contains-append_left, Contains-append_cases}
use Rattle.std.proofs.lemmas.List.Quantifiers.{all_pairs_push}
use Rattle.chip_trait.specs.Chart.{with_sector}
use Rattle.ipl_format.specs.Sector.{Sector}
use Rattle.ipl_meaning.specs.Chart.{Chart}
use Rattle.ipl_meaning.specs.Layout.{Layout}
use Rattle.ipl_meaning.specs.Steps.{MayOpenOverflow}
use Rattle.ipl_meaning.specs.Found.{MentionsBelow}
use Rattle.ipl_meaning.specs.Tables.{IsFree, Tables, overflow_places, place_of, IsCountedClean}
use Rattle.ipl_meaning.specs.Mirrors.{AreApart, Mirrors}
use Rattle.ipl_meaning.specs.TableSteps.{with_overflow}
use Rattle.ipl_meaning.specs.MovingLaws.{CountedFollowOverflows, TablesFollowOverflows}
use Rattle.ipl_meaning.proofs.PutLemmas.{here, kept, live_still, mark_before}
use Rattle.ipl_meaning.proofs.SwitchLemmas.{overflow_headers_wait, live_before_overflow}
use Rattle.ipl_meaning.proofs.CounterLemmas.{headers_keep_the_counter}
use Rattle.ipl_meaning.proofs.MirrorLemmas.{map_contains}
use Rattle.ipl_meaning.proofs.ApartLemmas.{none_still, some_still}
use Rattle.ipl_meaning.proofs.KnownLogLemmas.{logs_still}

more_places : (l : List (ℕ × ℕ)) (p : ℕ) → map place_of (l ++ (p, 1) ∷ []) ≡ map place_of l ++ p ∷ []
more_places [] p = refl
more_places (o ∷ l) p = ap (λ (k : List ℕ). o.0 ∷ k) (more_places l p)

module _ (places : ℕ) (c : Chart) (it : Layout) (t : Tables) (p next : ℕ) (head : Sector) (mirrors : Mirrors places c it t) (may : MayOpenOverflow places c it p head) (low : p < places) (in_use : ¬ IsFree t.places p) (room : length t.overflow.in_use < 2)
    (more : t.next ≤ next) (below : MentionsBelow next head) (clean : (s : ℕ) → c p s ≡ None) where
  abbrev y : Chart
  y = with_sector c p 0 head

  abbrev tables : Tables
  tables = with_overflow t p next

  overflows : overflow_places tables ≡ overflow_places t ++ p ∷ []
  overflows = more_places t.overflow.in_use p

  not_overflow : ¬ Contains (overflow_places t) p
  not_overflow is = let over = (mirrors.overflow.headed p is).1 in let there = over.1 in let none = may.free in cc (there, none)

  old_or_new : (q : ℕ) → Contains (overflow_places tables) q → Contains (overflow_places t) q ⊎ (q ≡ p)
  old_or_new q is = elim (Contains-append_cases (overflow_places t) (p ∷ []) q (rw overflows at is)) [
    | inl old ↦ inl old
    | inr (zero, _, new) ↦ inr (sym new)
    | inr (suc k, within, new) ↦ absurd (omega (arith, within))
  ]

  bare_apart : (q : ℕ) (x : Sector) → c q 0 ≡ Some x → q ≢ p
  bare_apart q x there at = let none : c q 0 ≡ None = rw at may.free in cc (there, none)

  opened_counted : (q n : ℕ) → IsCountedClean tables q n → (IsCountedClean t q n ⊎ ((q ≡ p) × (1 ≤ n) × (n < 256))) × (q ≡ p → n ≢ 0)
  opened_counted q n (small, inl (v, less, is, above)) = (inl (small, inl (v, less, is, above)), λ _ none. omega (arith, above, none))
  opened_counted q n (small, inr (inl (first, is, above))) = elim (Contains-append_cases t.overflow.in_use ((p, 1) ∷ []) (q, first) is) [
    | inl old ↦ (
      inl (small, inr (inl (first, old, above))),
      λ at _. not_overflow (subst (Contains (overflow_places t)) at (map_contains t.overflow.in_use q first old)),
    )
    | inr (zero, _, new) ↦
        let place : p ≡ q = ap (λ (z : ℕ × ℕ). z.0) new in
        let number : 1 ≡ first = ap (λ (z : ℕ × ℕ). z.1) new in
        (inr (sym place, omega (arith, number, above), small), λ _ none. omega (arith, number, above, none))
    | inr (suc k, within, new) ↦ absurd (omega (arith, within))
  ]
  opened_counted q n (small, inr (inr (is, above))) = (
    inl (small, inr (inr (is, above))),
    λ at _. bare_apart it.status it.head mirrors.laid.chosen.here (sym mirrors.status.place ∙ sym is ∙ at),
  )

  counted_clean : (q n : ℕ) → IsCountedClean tables q n → y q n ≡ None
  counted_clean q n is = let (was, apart) = opened_counted q n is in
      none_still c p 0 head q n (elim was [ inl before ↦ mirrors.counted_clean q n before | inr (at, _, _) ↦ rw at (clean n) ]) apart

  overflow_opened : Mirrors places y it tables
  overflow_opened = record {
    laid = (overflow_headers_wait places c it p head mirrors.laid may).0;
    directory = let was = mirrors.directory in record {
      units = was.units;
      logs = was.logs;
      all = was.all;
      counts = was.counts;
      current = was.current;
      heads = was.heads;
      generation = was.generation;
      not_home = was.not_home;
      not_status = was.not_status;
      not_overflow = λ q free is. elim (old_or_new q is) [ inl old ↦ was.not_overflow q free old | inr at ↦ in_use (rw at at free) ];
    };
    overflow = let was = mirrors.overflow in record {
      units = was.units;
      listed = λ v q n x less live away. was.listed v q n x less (live_before_overflow places c it p head mirrors.laid may v less q n x live) away;
      only = λ v q n less is. let (away, x, live) = was.only v q n less is in (away, x, live_still c p 0 head may.free places v (it.units v).home (it.units v).head.generation q n x live);
      once = was.once;
      few = was.few;
      in_overflow = λ v q n less is. rw overflows (Contains-append_left (overflow_places t) (p ∷ []) q (was.in_overflow v q n less is));
      headed = λ q is. elim (old_or_new q is) [
        | inl old ↦ let (within, over) = was.headed q old in (within, (over.0, kept c p 0 head may.free q 0 over.0 over.1, over.2))
        | inr at ↦ rw at (low, (head, here c p 0 head may.free, may.kind))
      ];
      two = omega (arith, room, length-append t.overflow.in_use ((p, 1) ∷ []));
      apart = rw overflows (all_pairs_push AreApart (overflow_places t) p was.apart (λ k d within is. not_overflow (k, within, get_or_default (overflow_places t) k p d within ∙ is)));
    };
    status = let was = mirrors.status in record { place = was.place; generation = was.generation; numbers = was.numbers };
    numbers = let was = mirrors.numbers in record {
      above = (headers_keep_the_counter places c it p head next may.free (omega (arith, may.kind), omega (arith, may.kind)) below (λ s x there. absurd (let none = clean s in cc (there, none))) (λ n found. let low = was.above n found in omega (arith, low, more))).2 may.kind;
      below = λ k none within. let low = was.below k none within in omega (arith, low, more);
      once = was.once;
      waits = was.waits;
    };
    masks = let was = mirrors.masks in record { units = was.units; lists = was.lists; sectors = was.sectors; home = was.home; elsewhere = was.elsewhere };
    logs = logs_still c y it it (mark_before c p 0 head may.free (λ is. omega (arith, is, may.kind)) it.status it.head.generation) refl (λ v. refl) (λ v. refl)
        (λ v n less. some_still c p 0 head (it.units v).home n) t tables (λ v. refl) mirrors.logs;
    counted_clean = counted_clean;
  }

pub tables_follow_overflows : TablesFollowOverflows
tables_follow_overflows places c it t p next head mirrors may low in_use room more below clean = overflow_opened places c it t p next head mirrors may low in_use room more below clean

pub counted_follow_overflows : CountedFollowOverflows
counted_follow_overflows places c it t p next head mirrors may low in_use room more below clean = opened_counted places c it t p next head mirrors may low in_use room more below clean
