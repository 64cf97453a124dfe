-- What calls spend that take free places, one after another.
use Rattle.std.proofs.Common.{◌≡◌, ◌≤◌, ◌+◌, ◌==◌, ◌||◌, ℕ, Bool, true, false, List, [], ◌∷◌, ◌++◌, length, inl, inr, refl, sym, ◌∙◌, ap, subst, arith}
use Rattle.std.specs.Prelude.{◌⊎◌}
use Rattle.std.specs.List.{AllPairs, Contains}
use Rattle.std.proofs.lemmas.Bool.{false≢true}
use Rattle.std.proofs.lemmas.List.{get_or_default}
use Rattle.std.proofs.lemmas.List.Kept.{AllPairs-cons}
use Rattle.chip_trait.specs.declared.event.Event.TheVariants.{Read, Program, Erase, Worn, Barrier, Said}
use Rattle.chip_trait.specs.Story.{Story}
use Rattle.ipl_format.specs.Header.{IsLower}
use Rattle.ipl_meaning.specs.Mirrors.{AreApart}
use Rattle.ipl_meaning.specs.Tables.{Places}
use Rattle.unit_io.specs.Costs.{Costs, erases, is_tried}
use Rattle.unit_io.proofs.CostLemmas.{barriers_joined, costs_at_most, erases_joined, kinds_joined, outside_joined, tried_joined}
use Rattle.place_taking.specs.Spending.{RetiringCosts, TriesInTurn, RetiresWorn, is_found_worn}

-- ---- which places are apart

-- a place is apart from others that rise and don't have it
pub all_apart : (p : ℕ) (places : List ℕ) → ¬ Contains places p → AllPairs IsLower places
    → AllPairs AreApart (p ∷ places)
all_apart p places without rising = AllPairs-cons AreApart p places
    (λ i d low same. without (i, low, get_or_default places i p d low ∙ sym same))
    (λ i j d before within same.
    let lower = rising i j d before within in omega (arith, lower, same))

-- ---- which places were tried or found worn

or_assoc : (a b c : Bool) → (a || (b || c)) ≡ ((a || b) || c)
or_assoc true b c = refl
or_assoc false b c = refl

pub or_left : (a b : Bool) → a ≡ true → (a || b) ≡ true
or_left true b is = refl
or_left false b is = absurd (false≢true is)

pub or_right : (a b : Bool) → b ≡ true → (a || b) ≡ true
or_right true b is = refl
or_right false b is = is

pub or_either : (a b : Bool) → (a || b) ≡ true → (a ≡ true) ⊎ (b ≡ true)
or_either true b is = inl refl
or_either false b is = inr is

pub found_joined : (later earlier : Story) (p : ℕ)
    → is_found_worn (later ++ earlier) p ≡ (is_found_worn later p || is_found_worn earlier p)
found_joined [] earlier p = refl
found_joined (Read q s ∷ later) earlier p = found_joined later earlier p
found_joined (Program q s bytes ∷ later) earlier p = found_joined later earlier p
found_joined (Erase q ∷ later) earlier p = found_joined later earlier p
found_joined (Barrier ∷ later) earlier p = found_joined later earlier p
found_joined (Worn q ∷ later) earlier p =
    ap (λ (b : Bool). (q == p) || b) (found_joined later earlier p)
    ∙ or_assoc (q == p) (is_found_worn later p) (is_found_worn earlier p)
found_joined (Said piece ∷ later) earlier p = found_joined later earlier p

pub found_later : (later earlier : Story) (p : ℕ) → is_found_worn later p ≡ true
    → is_found_worn (later ++ earlier) p ≡ true
found_later later earlier p is = found_joined later earlier p
    ∙ or_left (is_found_worn later p) (is_found_worn earlier p) is

pub found_earlier : (later earlier : Story) (p : ℕ) → is_found_worn earlier p ≡ true
    → is_found_worn (later ++ earlier) p ≡ true
found_earlier later earlier p is = found_joined later earlier p
    ∙ or_right (is_found_worn later p) (is_found_worn earlier p) is

pub found_either : (later earlier : Story) (p : ℕ) → is_found_worn (later ++ earlier) p ≡ true
    → (is_found_worn later p ≡ true) ⊎ (is_found_worn earlier p ≡ true)
found_either later earlier p is = or_either (is_found_worn later p) (is_found_worn earlier p)
    (sym (found_joined later earlier p) ∙ is)

pub tried_either : (later earlier : Story) (p : ℕ) → is_tried (later ++ earlier) p ≡ true
    → (is_tried later p ≡ true) ⊎ (is_tried earlier p ≡ true)
tried_either later earlier p is = or_either (is_tried later p) (is_tried earlier p)
    (sym (tried_joined later earlier p) ∙ is)

-- where no erase is tried, no place is
pub none_tried : (p : ℕ) (added : Story) → erases added ≤ 0 → is_tried added p ≡ true → ⊥
none_tried p [] none is = false≢true is
none_tried p (Read q s ∷ older) none is = none_tried p older none is
none_tried p (Program q s bytes ∷ older) none is = none_tried p older none is
none_tried p (Erase q ∷ older) none is = omega (arith, none)
none_tried p (Worn q ∷ older) none is = omega (arith, none)
none_tried p (Barrier ∷ older) none is = none_tried p older none is
none_tried p (Said piece ∷ older) none is = none_tried p older none is

pub none_found : (p : ℕ) (added : Story) → erases added ≤ 0 → is_found_worn added p ≡ true → ⊥
none_found p [] none is = false≢true is
none_found p (Read q s ∷ older) none is = none_found p older none is
none_found p (Program q s bytes ∷ older) none is = none_found p older none is
none_found p (Erase q ∷ older) none is = omega (arith, none)
none_found p (Worn q ∷ older) none is = omega (arith, none)
none_found p (Barrier ∷ older) none is = none_found p older none is
none_found p (Said piece ∷ older) none is = none_found p older none is

-- ---- how much

-- nothing was retired
pub retiring_of : (before after : Places) (e n b : ℕ) (kinds : List ℕ) (added : Story)
    → after.retired ≡ before.retired → Costs e n b kinds added
    → RetiringCosts before after e n b kinds added
retiring_of before after e n b kinds added same costs = record {
  erased = omega (arith, costs.erased, ap (λ (l : List ℕ). length l) same);
  programmed = costs.programmed;
  barred = costs.barred;
  only = costs.only;
}

pub retiring_then : (first mid last : Places) (e f n m a b : ℕ) (kinds : List ℕ)
    (later earlier : Story) → RetiringCosts first mid e n a kinds earlier
    → RetiringCosts mid last f m b kinds later
    → RetiringCosts first last (e + f) (n + m) (a + b) kinds (later ++ earlier)
retiring_then first mid last e f n m a b kinds later earlier one two = record {
  erased = omega (arith, erases_joined later earlier, one.erased, two.erased);
  programmed = omega (arith, outside_joined later earlier, one.programmed, two.programmed);
  barred = omega (arith, barriers_joined later earlier, one.barred, two.barred);
  only = kinds_joined kinds later earlier two.only one.only;
}

pub retiring_at_most : (before after : Places) (e f n m a b : ℕ) (few more : List ℕ)
    (added : Story) → e ≤ f → n ≤ m → a ≤ b
    → ((kind : ℕ) → Contains few kind → Contains more kind)
    → RetiringCosts before after e n a few added → RetiringCosts before after f m b more added
retiring_at_most before after e f n m a b few more added erased programmed barred wider are =
    let rest = costs_at_most (erases added) (erases added) n m a b few more added (omega arith)
    programmed barred wider (record {
      erased = omega arith;
      programmed = are.programmed;
      barred = are.barred;
      only = are.only;
    }) in record {
      erased = omega (arith, are.erased, erased);
      programmed = rest.programmed;
      barred = rest.barred;
      only = rest.only;
    }

-- ---- what is retired

-- nothing, where nothing was found worn
pub retires_none : (before after : Places) (worn_out : Bool) (added : Story)
    → after.retired ≡ before.retired → worn_out ≡ false
    → ((p : ℕ) → is_found_worn added p ≡ true → ⊥) → RetiresWorn before after worn_out added
retires_none before after worn_out added same still none = record {
  keeps = λ p has. subst (λ (l : List ℕ). Contains l p) (sym same) has;
  each = λ p has. inl (subst (λ (l : List ℕ). Contains l p) same has);
  found = λ _ p is. absurd (none p is);
  one_more = λ is. absurd (false≢true (sym still ∙ is));
}

pub retires_then : (first mid last : Places) (worn_out : Bool) (later earlier : Story)
    → RetiresWorn first mid false earlier → RetiresWorn mid last worn_out later
    → RetiresWorn first last worn_out (later ++ earlier)
retires_then first mid last worn_out later earlier one two = record {
  keeps = λ p has. two.keeps p (one.keeps p has);
  each = λ p has. elim (two.each p has) [
    | inl before ↦ elim (one.each p before) [
      | inl at_first ↦ inl at_first
      | inr is ↦ inr (found_earlier later earlier p is)
    ]
    | inr is ↦ inr (found_later later earlier p is)
  ];
  found = λ still p is. elim (found_either later earlier p is) [
    | inl now ↦ two.found still p now
    | inr before ↦ two.keeps p (one.found refl p before)
  ];
  one_more = λ is.
      let more = two.one_more is in record {
        last = more.last;
        found = found_later later earlier more.last more.found;
        apart = more.apart;
        full = more.full;
      };
}

-- events that try no erase, behind those that do
pub retires_still : (before mid after : Places) (worn_out : Bool) (later earlier : Story)
    → erases later ≤ 0 → after.retired ≡ mid.retired → worn_out ≡ false
    → RetiresWorn before mid false earlier → RetiresWorn before after worn_out (later ++ earlier)
retires_still before mid after worn_out later earlier none same still one =
    retires_then before mid after worn_out later earlier one
    (retires_none mid after worn_out later same still (λ p. none_found p later none))

pub tries_still : (before mid after : Places) (later earlier : Story) → erases later ≤ 0
    → after.retired ≡ mid.retired → TriesInTurn before mid earlier
    → TriesInTurn before after (later ++ earlier)
tries_still before mid after later earlier none same one = record {
  worn = one.worn;
  in_turn = one.in_turn;
  retired = same ∙ one.retired;
  tried = λ p is. elim (tried_either later earlier p is) [
    | inl now ↦ absurd (none_tried p later none now)
    | inr before ↦ one.tried p before
  ];
}

-- and before them
pub retires_behind : (before after : Places) (worn_out : Bool) (later earlier : Story)
    → erases earlier ≤ 0 → RetiresWorn before after worn_out later
    → RetiresWorn before after worn_out (later ++ earlier)
retires_behind before after worn_out later earlier none two =
    retires_then before before after worn_out later earlier
    (retires_none before before false earlier refl refl (λ p. none_found p earlier none)) two

pub tries_behind : (before after : Places) (later earlier : Story) → erases earlier ≤ 0
    → TriesInTurn before after later → TriesInTurn before after (later ++ earlier)
tries_behind before after later earlier none two = record {
  worn = two.worn;
  in_turn = two.in_turn;
  retired = two.retired;
  tried = λ p is. elim (tried_either later earlier p is) [
    | inl now ↦ two.tried p now
    | inr was ↦ absurd (none_tried p earlier none was)
  ];
}

-- events that try none alone
pub tries_none : (before after : Places) (added : Story) → erases added ≤ 0
    → after.retired ≡ before.retired → TriesInTurn before after added
tries_none before after added none same = record {
  worn = [];
  in_turn = tt;
  retired = same;
  tried = λ p is. absurd (none_tried p added none is);
}
