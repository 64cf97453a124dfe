-- The tables go on knowing each place, once a unit was moved or a place given back.
use Rattle.std.proofs.Common.{◌≡◌, ◌≢◌, ◌<◌, ◌≤◌, ◌+◌, ℕ, zero, suc, true, false, List, [], ◌∷◌, length, get_or, slice_index, slice_set, inl, inr, refl, sym, ◌∙◌, ap, subst, arith}
use Rattle.std.proofs.lemmas.Bool.{cases_lt}
use Rattle.std.proofs.lemmas.Grind.{get_or-set_at}
use Rattle.std.proofs.lemmas.List.{get_or_past, get_or-set_other, length-set, set-set}
use Rattle.std.proofs.lemmas.List.Elements.{Contains-get_or}
use Rattle.ipl_meaning.specs.Mirrors.{NoneIsLost}
use Rattle.ipl_base.specs.declared.limits.TheConstants.{LOG_SECTORS}
use Rattle.ipl_meaning.specs.Tables.{Places, IsFree, UNKNOWN_LOGS, one_more, with_use, with_erased, Tables}
use Rattle.ipl_meaning.specs.TableSteps.{IsMoved, taken, with_erases, with_next}
use Rattle.unit_directory.specs.Free.{AreNext, aside, free_count}
use Rattle.unit_directory.specs.Laws.{UsesTake}
use Rattle.unit_directory.proofs.AsideLemmas.{next_places_are_aside, next_places_leave_ready}
use Rattle.place_taking.specs.Homes.{HomesAreUsed, KeepsHomes}
use Rattle.place_taking.proofs.HomeLemmas.{homes_same, homes_then}
use Rattle.selective_merge.specs.Known.{KnowsPlaces}
use Rattle.selective_merge.specs.KnownLaws.{KnownPlacesMove}
use Rattle.selective_merge.proofs.CountLemmas.{known_places_are_ready}
use Rattle.selective_merge.proofs.KnownLemmas.{free_before, known_places_may_be_aside}
use Rattle.selective_merge.specs.Moving.{Holds, NoneIsLostBut, set_aside}

-- ---- a place given back

set_there : {X : Type 0} (l : List X) (p : ℕ) (b d : X) → p < length l → get_or l p d ≡ b
    → slice_set l p b ≡ l
set_there [] p b d low is = absurd (omega (arith, low))
set_there (x ∷ l) zero b d low is = ap (λ y. y ∷ l) (sym is)
set_there (x ∷ l) (suc p) b d low is = ap (λ k. x ∷ k) (set_there l p b d (omega (arith, low)) is)

-- but for the erase, the directory is as it was
pub given_back : (it : Places) (p : ℕ) → p < length it.in_use → IsFree it p
    → with_use (with_erased (with_use it p true) p) p false ≡ with_erased it p
given_back it p low free =
    ap (λ (l : List _). record (with_erased it p) { in_use = l })
    (set-set it.in_use p true false ∙ set_there it.in_use p false true low free)

-- the tables once numbers were drawn, and with other counts of erases
abbrev pub recounted : Tables → List ℕ → ℕ → Tables
recounted t erases next = with_next (with_erases t erases) next

-- the counts with one erase more of a place
abbrev pub erases_then : Tables → ℕ → List ℕ
erases_then t p = (with_erased t.places p).erases

pub as_many : (t : Tables) (p : ℕ) → length (erases_then t p) ≡ length t.places.erases
as_many t p = length-set t.places.erases p (one_more (slice_index t.places.erases p))

-- ---- the tables know each place still

pub knows_next : (places : ℕ) (t : Tables) (erases : List ℕ) (next : ℕ) → KnowsPlaces places t
    → KnowsPlaces places (recounted t erases next)
knows_next places t erases next known = record {
  suits = record {
    all = known.suits.all;
    units = known.suits.units;
    overflow = known.suits.overflow;
    sized = known.suits.sized;
  };
  none_lost = known.none_lost;
  used = known.used;
  retired_apart = known.retired_apart;
  homes_apart = known.homes_apart;
  overflows_apart = known.overflows_apart;
  no_home = known.no_home;
  status_apart = known.status_apart;
  two = known.two;
  status_placed = known.status_placed;
}

pub taken_but : (t : Tables) (p n places : ℕ) → KnowsPlaces places t
    → NoneIsLostBut p places (with_next (taken t p) n)
taken_but t p n places known q less other used =
    known.none_lost q less
    (λ free. used (get_or-set_other t.places.in_use p q true true other ∙ free))

pub held_back : (places : ℕ) (t after : Tables) (erases : List ℕ) (n : ℕ) → after ≡ recounted t erases n
    → KnowsPlaces places t → Holds places t after
held_back places t after erases n is known = record {
  units = ap (λ (x : Tables). length x.places.current) is;
  homes = subst (λ (x : Tables). KeepsHomes t.places x.places) (sym is)
      (homes_same t.places (recounted t erases n).places refl refl);
  active = ap (λ (x : Tables). x.active) is;
  status = ap (λ (x : Tables). x.status) is;
  known = subst (KnowsPlaces places) (sym is) (knows_next places t erases n known);
}

-- a unit that moved is known, and each other one stayed as it was
pub homes_moved : (before after : Places) (u p used : ℕ) → after.current ≡ slice_set before.current u p
    → after.written ≡ slice_set before.written u used → used ≤ LOG_SECTORS → KeepsHomes before after
homes_moved before after u p used current written few v low unknown = record {
  low = omega (arith, low, ap (λ (l : List ℕ). length l) current, length-set before.current u p);
  unknown = subst (λ (n : ℕ). UNKNOWN_LOGS ≤ n) (get_or-set_other before.written u v used 0 other) is;
  place = ap (λ (l : List ℕ). slice_index l v) current
      ∙ get_or-set_other before.current u v p 0 other;
}
  where
    is : UNKNOWN_LOGS ≤ slice_index (slice_set before.written u used) v
    is = subst (λ (l : List ℕ). UNKNOWN_LOGS ≤ slice_index l v) written unknown

    other : v ≢ u
    other same = elim (cases_lt u (length before.written)) [
      | inl there ↦
          let so = get_or-set_at before.written u v used 0 same there in omega (arith, so, is, few)
      | inr past ↦
          let none : slice_index (slice_set before.written u used) v ≡ 0 =
          get_or_past (slice_set before.written u used) v 0
          (omega (arith, past, same, length-set before.written u used)) in omega (arith, none, is)
    ]

-- the place of a unit is in use
pub home_used : (places : ℕ) (t : Tables) (u : ℕ) → KnowsPlaces places t → u < length t.places.current
    → ¬ IsFree t.places (slice_index t.places.current u)
home_used places t u known low =
    known.used (slice_index t.places.current u)
    (inl (Contains-get_or t.places.current u 0 low))

-- so is each unit's
pub homes_used : (places : ℕ) (t : Tables) → KnowsPlaces places t → HomesAreUsed t.places
homes_used places t known u = home_used places t u known

pub held_moved : KnownPlacesMove → (places : ℕ) (t after : Tables) (u p used next : ℕ)
    → KnowsPlaces places t → u < length t.places.current → p < places → IsFree t.places p
    → IsMoved (with_next (taken t p) next) after u p used → NoneIsLost places after
    → Holds places t after
held_moved moves places t after u p used next known low within free moved lost = record {
  units = ap (λ (l : List ℕ). length l) moved.current ∙ length-set t.places.current u p;
  homes = homes_moved t.places after.places u p used moved.current moved.written moved.few;
  active = moved.active;
  status = moved.status;
  known = moves places t after u p used next known low within free moved lost;
}

-- as many places are free, at least
pub more_free : (places : ℕ) (t : Tables) (after : Places) (u p : ℕ) → KnowsPlaces places t
    → u < length t.places.current → IsFree t.places p → UsesTake
    → (¬ IsFree (with_use t.places p true) (slice_index t.places.current u)
    → free_count (with_use t.places p true).in_use + 1 ≤ free_count after.in_use)
    → free_count t.places.in_use ≤ free_count after.in_use
more_free places t after u p known low free takes more =
    let one = (takes t.places p).count free in
    let rest = more (λ is. home_used places t u known low
    (free_before t p (slice_index t.places.current u) is).1) in
    omega (arith, one, rest)

-- ---- places that were set aside before

pub units_aside : (t : Tables) (worn : List ℕ) → AreNext t.places worn
    → length (set_aside t worn).places.current ≡ length t.places.current
units_aside t worn in_turn =
    ap (λ (l : List ℕ). length l) (next_places_are_aside t.places worn in_turn).current

-- of which as much is known
pub homes_aside : (t : Tables) (worn : List ℕ) → AreNext t.places worn
    → KeepsHomes t.places (aside t.places worn)
homes_aside t worn in_turn =
    let others = next_places_are_aside t.places worn in_turn in
    homes_same t.places (aside t.places worn) others.current others.written

pub known_aside : (places : ℕ) (t : Tables) (worn : List ℕ) → KnowsPlaces places t
    → AreNext t.places worn → KnowsPlaces places (set_aside t worn)
known_aside places t worn known in_turn = known_places_may_be_aside places t worn known in_turn

-- what holds of the tables without them holds of those before
pub held_aside : (places : ℕ) (t after : Tables) (worn : List ℕ) → AreNext t.places worn
    → Holds places (set_aside t worn) after → Holds places t after
held_aside places t after worn in_turn held = record {
  units = held.units ∙ units_aside t worn in_turn;
  homes = homes_then t.places (aside t.places worn) after.places (homes_aside t worn in_turn)
      held.homes;
  active = held.active;
  status = held.status;
  known = held.known;
}

-- as many are free or retired
pub as_many_aside : (places : ℕ) (t : Tables) (worn : List ℕ) → KnowsPlaces places t
    → AreNext t.places worn
    → free_count (set_aside t worn).places.in_use + length (set_aside t worn).places.retired
    ≡ free_count t.places.in_use + length t.places.retired
as_many_aside places t worn known in_turn =
    let leaves =
    next_places_leave_ready t.places worn (known_places_are_ready places t known) in_turn in
    omega (arith, leaves.fewer, leaves.more)
