-- The tables that were filled know each place, whatever the chip tells.
use Rattle.std.proofs.Common.{◌≡◌, ◌≢◌, ◌⊎◌, inl, inr, ◌≤◌, ◌<◌, ℕ, zero, suc, Bool, true, false, ◌||◌, ◌==◌, nat_lt, List, [], length, map, get_or, Option, Some, None, refl, sym, ◌∙◌, ap, subst, arith}
use Rattle.std.specs.List.{AllPairs, Contains}
use Rattle.std.proofs.lemmas.Bool.{cases_eq, cases_Bool, eq-eqb, eqb-true, lt-ltb, and_parts, or_cases, or_left, or_right, cond-true}
use Rattle.std.proofs.lemmas.List.{get_or_default}
use Rattle.std.proofs.lemmas.Option.{same_Some}
use Rattle.ipl_base.specs.Places.{KeepsUnits}
use Rattle.ipl_meaning.specs.Mirrors.{AreApart}
use Rattle.ipl_meaning.specs.Tables.{Places, OverflowLists, StatusTable, IsFree, place_of as place_in}
use Rattle.ipl_meaning.specs.First.{at, all_below, count_below}
use Rattle.ipl_meaning.specs.Chosen.{KeptHeader, Winner, is_status, is_data_of, units_in, chosen as all_of}
use Rattle.ipl_meaning.specs.Live.{is_at, is_overflow_place}
use Rattle.ipl_meaning.specs.LaidOut.{place_of}
use Rattle.ipl_meaning.proofs.ChosenLemmas.{IsBest, chosen_is_best}
use Rattle.ipl_meaning.specs.FoundLogs.{overflow_at}
use Rattle.selective_merge.specs.Known.{IsNamed, KnowsPlaces}
use Rattle.ipl_meaning.specs.Opened.{tables_of}
use Rattle.ipl_meaning.proofs.SpotLemmas.{listed_holds, held_listed, places_apart, as_many}
use Rattle.restart.specs.Notes.{Notes}
use Rattle.restart.proofs.RetireLemmas.{AreAside}
use Rattle.restart.specs.Filled.{is_home, is_used, AreUsed, AreAdopted}
use Rattle.restart.specs.Shown.{AreChosen, is_held}

-- ---- homes

home_find : (current : ℕ → Option Winner) (n p : ℕ) → is_home current n p ≡ true
    → (u : ℕ) × (u < n) × (is_at (current u) p ≡ true)
home_find current zero p is = absurd (cc is)
home_find current (suc n) p is = elim (or_cases (is_home current n p) (is_at (current n) p) is) [
  | inl before ↦ let (u, low, there) = home_find current n p before in (u, omega (arith, low), there)
  | inr last ↦ (n, omega arith, last)
]

home_some : (current : ℕ → Option Winner) (n p u : ℕ) → u < n → is_at (current u) p ≡ true
    → is_home current n p ≡ true
home_some current zero p u low is = absurd (omega (arith, low))
home_some current (suc n) p u low is = elim (cases_eq u n) [
  | inl same ↦
      or_right (is_home current n p) (is_at (current n) p)
      (subst (λ (v : ℕ). is_at (current v) p ≡ true) same is)
  | inr other ↦ or_left (is_home current n p) (is_at (current n) p) (home_some current n p u (omega arith) is)
]

at_there : (o : Option Winner) (p : ℕ) → is_at o p ≡ true → place_of o ≡ p
at_there None p is = absurd (cc is)
at_there (Some w) p is = eqb-true w.place p is

there_at : (o : Option Winner) (w : Winner) (p : ℕ) → o ≡ Some w → w.place ≡ p → is_at o p ≡ true
there_at o w p is same = rw is (eq-eqb w.place p same)

-- an overflow place's header is of that kind
overflow_kind : (o : Option KeptHeader) → is_overflow_place o ≡ true
    → (head : KeptHeader) × (o ≡ Some head) × (head.kind ≡ 3)
overflow_kind None is = absurd (cc is)
overflow_kind (Some head) is = (head, refl, eqb-true head.kind 3 is)

-- ---- headers

module _ (heads : List (Option KeptHeader)) (current : List (Option Winner)) (winner : Winner)
    (chosen : AreChosen heads current winner) (there : (u : ℕ) → u < length current → at current u ≢ None) where
  -- the unit's header, at its place
  pub home_of : (u : ℕ) → u < length current
      → (w : Winner) × (at current u ≡ Some w) × IsBest (is_data_of u) (at heads) (length heads) w
  home_of u low = case (at current u) refl
    where
      case : (o : Option Winner) → at current u ≡ o
          → (w : Winner) × (at current u ≡ Some w) × IsBest (is_data_of u) (at heads) (length heads) w
      case None is = absurd (there u low is)
      case (Some w) is =
          let found = sym (ap (λ (cur : ℕ → Option Winner). cur u) chosen.current_are) ∙ is in
          let less : nat_lt u (units_in (at heads) (length heads)) ≡ true = lt-ltb u (units_in (at heads) (length heads)) (omega (arith, low, chosen.units_are)) in (
            w,
            is,
            chosen_is_best (is_data_of u) (at heads) (length heads) w
                (sym (cond-true (nat_lt u (units_in (at heads) (length heads))) (all_of (is_data_of u) (at heads) (length heads)) None less) ∙ found),
          )

  status_best : IsBest is_status (at heads) (length heads) winner
  status_best = chosen_is_best is_status (at heads) (length heads) winner (sym chosen.status_is)

  module _ (places : ℕ) (sized : length heads ≡ places) (notes : Notes) (d : Places) (lists : OverflowLists)
      (status : StatusTable) (most next : ℕ) (keeps : KeepsUnits places (length current))
      (used : AreUsed (is_used (at current) (length current) winner.place (is_held heads notes)) places most d.in_use)
      (adopted : AreAdopted (at current) (length current) (length current) d)
      (spots : length lists.spots ≡ length current)
      (in_use : lists.in_use ≡ all_below (overflow_at (is_held heads notes)) (length heads))
      (few : count_below (is_held heads notes) (length heads) ≤ 2) (placed : status.place ≡ winner.place) where
    abbrev held : ℕ → Bool
    held = is_held heads notes

    -- what stands at a unit's place
    record IsHome (u p : ℕ) : Type 0 where
      low : u < length current
      head : KeptHeader
      here : at heads p ≡ Some head
      kind : head.kind ≡ 1
      unit : head.unit ≡ u
      within : p < places
      at_it : is_at (at current u) p ≡ true

    home_at : (u p : ℕ) → u < length current → get_or d.current u 0 ≡ p → IsHome u p
    home_at u p low is =
        let (w, found, best) = home_of u low in
        let place : w.place ≡ p = sym (ap place_of found) ∙ sym (adopted.current_is u low) ∙ is in
        let tests = and_parts (w.head.kind == 1) (w.head.unit == u) best.of_kind in
        record {
          low = low;
          head = w.head;
          here = subst (λ (q : ℕ). at heads q ≡ Some w.head) place best.here;
          kind = eqb-true w.head.kind 1 tests.0;
          unit = eqb-true w.head.unit u tests.1;
          within = omega (arith, place, best.within, sized);
          at_it = there_at (at current u) w p found place;
        }

    home_from : (p : ℕ) → Contains d.current p → (u : ℕ) × IsHome u p
    home_from p (u, low, is) =
        let small : u < length current = omega (arith, low, adopted.units_are) in
        (u, home_at u p small (sym (get_or_default d.current u p 0 low) ∙ is))

    -- one header at a place has one kind
    two_kinds : (p a b : ℕ) (one other : KeptHeader) → at heads p ≡ Some one → at heads p ≡ Some other
        → one.kind ≡ a → other.kind ≡ b → a ≢ b → ⊥
    two_kinds p a b one other first second kind second_kind apart =
        apart (sym kind ∙ ap (λ (h : KeptHeader). h.kind) (same_Some one other (sym first ∙ second)) ∙ second_kind)

    overflow_at_place : (p : ℕ) → Contains (map place_in lists.in_use) p
        → (head : KeptHeader) × (at heads p ≡ Some head) × (head.kind ≡ 3)
    overflow_at_place p has =
        let listed = listed_holds held (length heads) lists.in_use in_use p has in
        overflow_kind (at heads p) (and_parts (is_overflow_place (at heads p)) _ listed.0).0

    no_home : (p : ℕ) → Contains (map place_in lists.in_use) p → ¬ Contains d.current p
    no_home p has home =
        let (u, it) = home_from p home in
        let (head, here, kind) = overflow_at_place p has in
        two_kinds p 1 3 it.head head it.here here it.kind kind (λ e. cc e)

    status_no_home : ¬ Contains d.current status.place
    status_no_home home =
        let (u, it) = home_from status.place home in
        two_kinds status.place 1 2 it.head winner.head it.here
        (subst (λ (q : ℕ). at heads q ≡ Some winner.head) (sym placed) status_best.here)
        it.kind (eqb-true winner.head.kind 2 status_best.of_kind) (λ e. cc e)

    status_no_overflow : ¬ Contains (map place_in lists.in_use) status.place
    status_no_overflow has =
        let (head, here, kind) = overflow_at_place status.place has in
        two_kinds status.place 3 2 head winner.head here
        (subst (λ (q : ℕ). at heads q ≡ Some winner.head) (sym placed) status_best.here)
        kind (eqb-true winner.head.kind 2 status_best.of_kind) (λ e. cc e)

    homes_apart : AllPairs AreApart d.current
    homes_apart i j x before within same =
        let p = get_or d.current i x in
        let low : i < length d.current = omega (arith, before, within) in
        let first = home_at i p (omega (arith, low, adopted.units_are)) (sym (get_or_default d.current i x 0 low)) in
        let second = home_at j p (omega (arith, within, adopted.units_are))
        (sym (get_or_default d.current j x 0 within) ∙ sym same) in
        let one : first.head ≡ second.head = same_Some first.head second.head (sym first.here ∙ second.here) in
        omega (arith, before, first.unit, second.unit, ap (λ (h : KeptHeader). h.unit) one)

    -- ---- which are in use

    in_use_is : (p : ℕ) → p < places → is_used (at current) (length current) winner.place held p ≡ true → ¬ IsFree d p
    in_use_is p low is free = let no : true ≡ false = sym is ∙ (sym (used.used_are p low) ∙ free) in cc no

    named_used : (p : ℕ) → IsNamed (tables_of d lists status next) p → ¬ IsFree d p
    named_used p (inl home) =
        let (u, it) = home_from p home in
        in_use_is p it.within
        (or_left _ _ (or_left _ _ (home_some (at current) (length current) p u it.low it.at_it)))
    named_used p (inr (inl at_status)) =
        in_use_is p (omega (arith, at_status, placed, status_best.within, sized))
        (or_left _ _ (or_right _ _ (eq-eqb winner.place p (sym (at_status ∙ placed)))))
    named_used p (inr (inr listed)) =
        let holds = listed_holds held (length heads) lists.in_use in_use p listed in
        in_use_is p (omega (arith, holds.1, sized)) (or_right _ _ holds.0)

    none_lost : (p : ℕ) → p < places → ¬ IsFree d p → IsNamed (tables_of d lists status next) p
    none_lost p low taken = elim (cases_Bool (is_used (at current) (length current) winner.place held p)) [
      | inr free ↦ absurd (taken (used.used_are p low ∙ free))
      | inl is ↦
          let home : Bool = is_home (at current) (length current) p in
          let inside : p < length heads = omega (arith, low, sized) in
          elim (or_cases (home || (winner.place == p)) (held p) is) [
            | inr holds ↦ inr (inr (held_listed held (length heads) lists.in_use in_use p inside holds))
            | inl either ↦ elim (or_cases home (winner.place == p) either) [
              | inl at_home ↦
                  let (u, small, there_it) = home_find (at current) (length current) p at_home in
                  let within : u < length d.current = omega (arith, small, adopted.units_are) in
                  let place = adopted.current_is u small ∙ at_there (at current u) p there_it in
                  inl (u, within, get_or_default d.current u p 0 within ∙ place)
              | inr at_status ↦ inr (inl (sym (placed ∙ eqb-true winner.place p at_status)))
            ]
          ]
    ]

    -- ---- once the places are retired that the status header lists

    module _ (now : Places) (listed : List ℕ) (none : d.retired ≡ []) (it : AreAside d listed now) (all_listed : lists.places ≡ places) where
      named_before : (p : ℕ) → IsNamed (tables_of now lists status next) p → IsNamed (tables_of d lists status next) p
      named_before p is = subst (λ (xs : List ℕ). Contains xs p ⊎ (p ≡ status.place) ⊎ Contains (map place_in lists.in_use) p) it.keeps.current is

      named_now : (p : ℕ) → IsNamed (tables_of d lists status next) p
          → Contains now.current p ⊎ (p ≡ status.place) ⊎ Contains (map place_in lists.in_use) p ⊎ Contains now.retired p
      named_now p (inl home) = inl (subst (λ (xs : List ℕ). Contains xs p) (sym it.keeps.current) home)
      named_now p (inr (inl at_status)) = inr (inl at_status)
      named_now p (inr (inr overflow)) = inr (inr (inl overflow))

      none_lost_now : (p : ℕ) → p < places → ¬ IsFree now p
          → Contains now.current p ⊎ (p ≡ status.place) ⊎ Contains (map place_in lists.in_use) p ⊎ Contains now.retired p
      none_lost_now p low taken = elim (cases_Bool (get_or d.in_use p true)) [
        | inl used_it ↦ named_now p (none_lost p low (λ free. let no : true ≡ false = sym used_it ∙ free in cc no))
        | inr free ↦ elim (it.either p free) [
          | inl still ↦ absurd (taken still)
          | inr retired ↦ inr (inr (inr retired))
        ]
      ]

      retired_apart : (p : ℕ) → Contains now.retired p → (¬ IsNamed (tables_of now lists status next) p) × ¬ IsFree now p
      retired_apart p has = elim (it.retired p has) [
        | inl before ↦ absurd (let low = before.1 in omega (arith, low, ap length none))
        | inr retired ↦ (λ named. named_used p (named_before p named) retired.1, λ free. (it.free p free).1 retired.0)
      ]

      pub knows_places : KnowsPlaces places (tables_of now lists status next)
      knows_places = record {
        suits = record {
          all = it.keeps.all ∙ used.all;
          units = omega (arith, ap length it.keeps.current, adopted.units_are, keeps);
          overflow = spots ∙ sym (ap length it.keeps.current ∙ adopted.units_are);
          sized = all_listed;
        };
        none_lost = none_lost_now;
        retired_apart = retired_apart;
        used = λ p named free. named_used p (named_before p named) (it.free p free).0;
        homes_apart = subst (AllPairs AreApart) (sym it.keeps.current) homes_apart;
        overflows_apart = places_apart held (length heads) lists.in_use in_use;
        no_home = λ p has home. no_home p has (subst (λ (xs : List ℕ). Contains xs p) it.keeps.current home);
        status_apart = (λ home. status_no_home (subst (λ (xs : List ℕ). Contains xs status.place) it.keeps.current home), status_no_overflow);
        two = omega (arith, as_many held (length heads) lists.in_use in_use, few);
        status_placed = omega (arith, placed, status_best.within, sized);
      }
