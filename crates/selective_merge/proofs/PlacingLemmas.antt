-- Where a log sector goes: room that there is, and room that is made.
use Rattle.std.proofs.Common.{◌≡◌, ◌<◌, ◌≤◌, ℕ, true, false, nat_lt, [], ◌∷◌, ◌++◌, length, slice_index, Some, min, inl, inr, refl, sym, ◌∙◌, ap, subst, arith}
use Rattle.std.specs.List.{Contains}
use Rattle.std.proofs.lemmas.Bool.{eq-eqb, lt-ltb}
use Rattle.std.proofs.lemmas.List.Elements.{Contains-append_right}
use Rattle.ipl_meaning.specs.Chart.{Chart}
use Rattle.ipl_meaning.specs.Last.{carried_count}
use Rattle.ipl_format.specs.Header.{erases_said}
use Rattle.ipl_meaning.specs.Layout.{Layout, Shape}
use Rattle.ipl_meaning.specs.Mirrors.{Mirrors}
use Rattle.ipl_meaning.specs.Steps.{KeepsPages, with_unit}
use Rattle.ipl_meaning.specs.Tables.{IsFree, OverflowLists, Tables, spots_of}
use Rattle.unit_directory.proofs.AsideLemmas.{next_places_are_aside}
use Rattle.ipl_meaning.proofs.MirrorLemmas.{map_contains}
use Rattle.selective_merge.specs.Merged.{IsMergedUnit, merged_layout, merged_shape}
use Rattle.selective_merge.specs.Packs.{among}
use Rattle.selective_merge.specs.Placing.{SaysCounts, SaysErases, MayHaveMerged, IsElsewhere, IsPlaced}
use Rattle.selective_merge.specs.Spotting.{HasHomeSpot, IsHomeSpot, IsOverflowSpot, HasCleanSpot, IsLowest, MayOverflow, OpensNext}

-- ---- what is to be had

-- no overflow sector is
pub nothing_clean : (t : Tables) (u : ℕ)
    → ((p first : ℕ) → Contains t.overflow.in_use (p, first) → 256 ≤ first)
    → nat_lt (length t.overflow.in_use) 2 ≡ false → ¬ MayOverflow t u
nothing_clean t u none two (few, inl (p, s, there, low)) =
    let full = none p s there in omega (arith, full, low)
nothing_clean t u none two (few, inr less) =
    let e : true ≡ false = sym (lt-ltb (length t.overflow.in_use) 2 less) ∙ two in cc

-- the first sector of a new overflow place is one for the unit
pub new_spot : (t after : Tables) (u p s next : ℕ) → length (spots_of t u) < 16 → s ≡ 1
    → OpensNext t after p next → IsOverflowSpot after u p s
new_spot t after u p s next few one opens = record {
  first = subst (λ (o : OverflowLists). Contains o.in_use (p, s))
      (sym (ap (λ (x : Tables). x.overflow) opens.tables_are))
      (subst (λ (k : ℕ). Contains (t.overflow.in_use ++ (p, 1) ∷ []) (p, k)) (sym one)
      (Contains-append_right t.overflow.in_use ((p, 1) ∷ []) (p, 1) (0, omega arith, refl)));
  within = (omega (arith, one), omega (arith, one));
  few = subst (λ (x : Tables). length (spots_of x u) < 16) (sym opens.tables_are) few;
}

-- ---- room

room_same : (places : ℕ) (c : Chart) (it : Layout) (t : Tables) (u : ℕ) → Mirrors places c it t
    → MayHaveMerged places c c it t u t
room_same places c it t u mirrors = record {
  layout = it;
  mirrors = mirrors;
  keeps = record { shown = λ v page now low few shows. shows; no_more = λ v page base low few reads. (base, reads) };
  how = inl refl;
}

room_opened : (places : ℕ) (c y : Chart) (it : Layout) (t : Tables) (u : ℕ) (after : Tables)
    → Mirrors places y it after → KeepsPages places c it y it → MayHaveMerged places c y it t u after
room_opened places c y it t u after mirrors keeps =
    record { layout = it; mirrors = mirrors; keeps = keeps; how = inl refl }

room_merged : (places : ℕ) (c y : Chart) (it : Layout) (t : Tables) (u : ℕ) (after : Tables)
    → IsMergedUnit places c y it t u after → MayHaveMerged places c y it t u after
room_merged places c y it t u after is = record {
  layout = merged_layout t it u is.place is.head is.pieces is.serial;
  mirrors = is.mirrors;
  keeps = is.keeps;
  how = inr is;
}

-- ---- the header of a place that was free

-- that of an overflow place, or of a unit's home, wasn't
not_free_overflow : (places : ℕ) (c : Chart) (it : Layout) (t : Tables) (p s : ℕ) → Mirrors places c it t
    → Contains t.overflow.in_use (p, s) → ¬ IsFree t.places p
not_free_overflow places c it t p s mirrors has free =
    mirrors.directory.not_overflow p free (map_contains t.overflow.in_use p s has)

not_free_home : (places : ℕ) (c : Chart) (it : Layout) (t : Tables) (u p : ℕ) → Mirrors places c it t
    → u < length t.places.current → p ≡ slice_index t.places.current u → ¬ IsFree t.places p
not_free_home places c it t u p mirrors low is free =
    let few : u < it.count = omega (arith, low, mirrors.directory.units) in
    mirrors.directory.not_home p free u few (sym (is ∙ mirrors.directory.current u few))

-- the unit's new one says its erases
merged_says : (places : ℕ) (c y : Chart) (it : Layout) (t : Tables) (u : ℕ) (after : Tables) (p s : ℕ)
    → IsHomeSpot after u p s → IsMergedUnit places c y it t u after → SaysErases after p y
merged_says places c y it t u after p s spot is =
    let shape = merged_shape t (it.units u) u is.place is.head is.pieces is.serial in
    let own : (with_unit it u shape).units u ≡ shape = unit_here it u shape in
    let at : p ≡ is.place = spot.place ∙ is.mirrors.directory.current u is.low
    ∙ ap (λ (x : Shape). x.home) own in
    let there = (is.mirrors.laid.each u is.low).chosen.here in
    let headed : y is.place 0 ≡ Some is.head =
    subst (λ (x : Shape). y x.home 0 ≡ Some x.head) own there in
    subst (λ (q : ℕ). SaysErases after q y) (sym at) (ap erases_said headed ∙ is.head_is.says)
  where
    unit_here : (it : Layout) (u : ℕ) (shape : Shape) → (with_unit it u shape).units u ≡ shape
    unit_here it u shape = rw (eq-eqb u u refl) refl

-- ---- elsewhere

pub elsewhere_clean : (places : ℕ) (c : Chart) (it : Layout) (t : Tables) (u p s : ℕ)
    → IsOverflowSpot t u p s × IsLowest t p → Mirrors places c it t
    → IsElsewhere places c c it t u t p s
elsewhere_clean places c it t u p s (spot, lowest) mirrors = record {
  room = room_same places c it t u mirrors;
  overflow = λ may. record {
    spot = spot;
    clean = λ has. (refl, lowest);
    new = λ none. absurd (none (p, s, spot.first, spot.within.1));
  };
  merged = λ never. absurd (never (spot.few, inl (p, s, spot.first, spot.within.1)));
  says = λ free. absurd (not_free_overflow places c it t p s mirrors spot.first free);
  units = λ free apart. absurd (not_free_overflow places c it t p s mirrors spot.first free);
}

pub elsewhere_opened : (places : ℕ) (c y : Chart) (it : Layout) (t after : Tables)
    (u p s next : ℕ)
    → (length (spots_of t u) < 16) × (¬ HasCleanSpot t) × (length t.overflow.in_use < 2)
    → (s ≡ 1) × OpensNext t after p next
    → Mirrors places y it after → KeepsPages places c it y it → SaysCounts after p y
    → IsElsewhere places c y it t u after p s
elsewhere_opened places c y it t after u p s next (few, none, two) (one, opens) mirrors keeps says =
    record {
      room = room_opened places c y it t u after mirrors keeps;
      overflow = λ may. record {
        spot = new_spot t after u p s next few one opens;
        clean = λ has. absurd (none has);
        new = λ _. (
          (((next_places_are_aside t.places opens.worn opens.in_turn).free p).0 opens.next_free.free).0,
          one,
          (next, opens),
        );
      };
      merged = λ never. absurd (never (few, inr two));
      says = λ was. says.erases;
      units = λ was apart. says.units;
    }

pub elsewhere_merged : (places : ℕ) (c y : Chart) (it : Layout) (t after : Tables) (u p s : ℕ)
    → ¬ MayOverflow t u → IsHomeSpot after u p s → IsMergedUnit places c y it t u after
    → IsElsewhere places c y it t u after p s
elsewhere_merged places c y it t after u p s never spot is = record {
  room = room_merged places c y it t u after is;
  overflow = λ may. absurd (never may);
  merged = λ _. (is, spot);
  says = λ free. merged_says places c y it t u after p s spot is;
  units = λ free apart. absurd (apart spot.place);
}

-- ---- by the rules

pub placed_home : (places : ℕ) (c : Chart) (it : Layout) (t : Tables) (u p s : ℕ)
    → u < length t.places.current → IsHomeSpot t u p s → Mirrors places c it t
    → IsPlaced places c c it t u t p s
placed_home places c it t u p s low spot mirrors = record {
  room = room_same places c it t u mirrors;
  rules = record {
    home = λ has. (refl, spot);
    few = λ none _. absurd (none spot.left);
    overflow = λ none _ _. absurd (none spot.left);
    merged = λ none _ _. absurd (none spot.left);
  };
  says = λ free. absurd (not_free_home places c it t u p mirrors low spot.place free);
  units = λ free apart. absurd (apart spot.place);
}

module _ (places : ℕ) (c y : Chart) (it : Layout) (t after : Tables) (u p s n : ℕ)
    (full : ¬ HasHomeSpot t u)
    (count : n ≡ min 13 (carried_count (among t.active) (it.units u).log)) where
  abbrev carried : ℕ
  carried = carried_count (among t.active) (it.units u).log

  pub placed_few : n ≤ 7 → IsHomeSpot after u p s → IsMergedUnit places c y it t u after
      → IsPlaced places c y it t u after p s
  placed_few low spot is = record {
    room = room_merged places c y it t u after is;
    rules = record {
      home = λ has. absurd (full has);
      few = λ _ _. (is, spot);
      overflow = λ _ more _. absurd (omega (arith, low, count, more));
      merged = λ _ more _. absurd (omega (arith, low, count, more));
    };
    says = λ free. merged_says places c y it t u after p s spot is;
    units = λ free apart. absurd (apart spot.place);
  }

  pub placed_elsewhere : 7 < n → IsElsewhere places c y it t u after p s
      → IsPlaced places c y it t u after p s
  placed_elsewhere high is = record {
    room = is.room;
    rules = record {
      home = λ has. absurd (full has);
      few = λ _ less. absurd (omega (arith, high, count, less));
      overflow = λ _ _ may. is.overflow may;
      merged = λ _ _ never. is.merged never;
    };
    says = is.says;
    units = is.units;
  }
