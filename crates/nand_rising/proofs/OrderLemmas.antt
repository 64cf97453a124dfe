-- Which programs are taken.
use Rattle.std.proofs.Common.{◌≡◌, ◌≢◌, ◌≤◌, ◌<◌, ℕ, ◌+◌, ◌-◌, true, false, cond, eqb, List, length, Option, Some, None, IfSome, get_or, set, replicate, Result, OnOk, ◌∙◌, ap, sym, refl, subst, arith, inl, inr, get_or-set_same, get_or-set_other}
use Rattle.std.specs.Option.{option_map}
use Rattle.std.proofs.Math.Path.{fun_ext}
use Rattle.std.proofs.lemmas.Bool.{cases_eq, cases_lt, eq-eqb, ne_eqb, cond-true, cond-false}
use Rattle.std.proofs.lemmas.Option.{same_Some}
use Rattle.bounded_vec.specs.Bounded.{Bounded, with_items}
use Rattle.chip_trait.specs.Story.{Contents, after}
use Rattle.chip_trait.specs.declared.event.Event.{Event}
use Rattle.chip_trait.specs.declared.event.Event.TheVariants.{Program, Erase, Worn}
use Rattle.nand_rising.specs.declared.place.Place.{Place}
use Rattle.nand_rising.specs.declared.place.Step.{Step}
use Rattle.nand_rising.specs.declared.place.Place.TheVariants.{Unread, Fresh, Headed}
use Rattle.nand_rising.specs.Slots.{checks, tagged, is_header, is_searched, header_of, slot_under, IsErasedFrom}
use Rattle.nand_rising.specs.Known.{IsFresh, IsHeaded}
use Rattle.nand_rising.specs.Steps.{with_slot}
use Rattle.nand_rising.specs.Order.{header_slot, next_in, none_next, next_of_each, HasRoom, HasStep, Standing, Shut, Open, Closed, MayFollow, behind, standing, StandsAs, AreStanding, GoesOn, RisingHasRoom}
use Rattle.nand_rising.proofs.SlotLemmas.{blank_no_header}
use Rattle.nand_rising.proofs.StepLemmas.{fresh_header, headed_sector, slot_low, slot_high}
use Rattle.nand_rising.proofs.KnownLemmas.{at_told, unread_at, own_program, other_program, other_erase}
use Rattle.nand_rising.proofs.CutLemmas.{header_found}

-- ---- the law

room_from : (st : Standing) (next : Option ℕ) (s : ℕ) (bytes : List ℕ) (y : ℕ → List ℕ) → checks bytes ≡ true → MayFollow s bytes st → StandsAs next y st → HasRoom next s bytes y
room_from Shut next s bytes y checked may stands = absurd may
room_from (Open n) next s bytes y checked may stands = record {
  checked = checked;
  header = λ m e first. let same : n ≡ m = cc in subst (λ (k : ℕ). is_searched (header_slot bytes k) ≡ true) same (may.0 first);
  above = λ m e some. let same : n ≡ m = cc in subst (λ (k : ℕ). k < s) same (may.1 some);
  behind = λ e. cc;
}
room_from (Closed n) next s bytes y checked may stands =
    let low : n < s = may in
    let h = stands.1.0 in
    let under : h ≤ n = stands.1.1.1 in
    let at : slot_under h s ≡ s = slot_high h s (omega arith) in
    record {
      checked = checked;
      header = λ m e first. let no = stands.0 in cc;
      above = λ m e some. let no = stands.0 in cc;
      behind = λ e. (λ first. omega arith, (h, (stands.1.1.0, λ t from below. stands.1.1.2 t (omega arith) below)));
    }

pub rising_has_room : RisingHasRoom
rising_has_room start story p s bytes next x rising stands = room_from (standing start story p) (next p) s bytes (x p) rising.0 rising.1 (stands p)

-- ---- the steps

module _ (next s : ℕ) (bytes : List ℕ) (y : ℕ → List ℕ) (some : s ≢ 0) (free : next ≤ s - 1) (checked : checks bytes ≡ true) where
  stands_open : (st : Standing) → StandsAs (Some next) y st → StandsAs (Some s) (with_slot y (s - 1) (tagged s bytes)) (behind s bytes st)
  stands_open Shut is = tt
  stands_open (Open n) is = subst (λ (k : Standing). StandsAs (Some s) (with_slot y (s - 1) (tagged s bytes)) k) (sym (cond-false _ _ _ (ne_eqb s 0 some))) refl
  stands_open (Closed n) is = let no = is.0 in absurd cc

  pub has_sector : HasStep (Some next) s bytes (record { slot = s - 1; then = Fresh s }) y
  has_sector = record {
    room = record {
      checked = checked;
      header = λ n e first. absurd (some first);
      above = λ n e other. let same : next ≡ n = cc in omega arith;
      behind = λ e. cc;
    };
    stands = stands_open;
  }

module _ (next h : ℕ) (bytes : List ℕ) (y : ℕ → List ℕ) (is : IsFresh next y) (at : h ≡ header_slot bytes next) (free : next ≤ h) (within : h < 256) (searched : is_searched h ≡ true) (long : length bytes ≡ 512) (checked : checks bytes ≡ true) where
  now_behind : IsHeaded h (h + 1) (with_slot y h (tagged 0 bytes))
  now_behind = (fresh_header next h bytes y is free within searched long checked).known.2 h h refl

  stands_closed : (st : Standing) → StandsAs (Some next) y st → StandsAs None (with_slot y h (tagged 0 bytes)) (behind 0 bytes st)
  stands_closed Shut it = tt
  stands_closed (Open n) it =
      let same : next ≡ n = cc in
      let slot : h ≡ header_slot bytes n = at ∙ ap (header_slot bytes) same in
      subst (λ (k : ℕ). StandsAs None (with_slot y h (tagged 0 bytes)) (Closed k)) slot (refl, (h, (now_behind.0, omega arith, now_behind.1)))
  stands_closed (Closed n) it = let no = it.0 in absurd cc

  pub has_header_step : HasStep (Some next) 0 bytes (record { slot = h; then = Headed h h }) y
  has_header_step = record {
    room = record {
      checked = checked;
      header = λ n e first. let same : next ≡ n = cc in subst (λ (k : ℕ). is_searched k ≡ true) (at ∙ ap (header_slot bytes) same) searched;
      above = λ n e other. absurd (other refl);
      behind = λ e. cc;
    };
    stands = stands_closed;
  }

module _ (h s slot : ℕ) (bytes : List ℕ) (y : ℕ → List ℕ) (at : slot ≡ slot_under h s) (stands : header_of y ≡ Some h) (free : IsErasedFrom slot y) (within : slot < 256) (some : s ≢ 0) (long : length bytes ≡ 512) (checked : checks bytes ≡ true) where
  -- the header isn't erased
  above_header : h < s
  above_header = elim (cases_lt h s) [
    | inl high ↦ high
    | inr low ↦
        let slot_is : slot ≡ s - 1 = at ∙ slot_low h s some low in
        let found = header_found y h stands in
        let no : true ≡ false = sym found.1.1 ∙ ap is_header (free h (omega arith) found.0) ∙ blank_no_header in cc
  ]

  still_behind : IsHeaded h (slot + 1) (with_slot y slot (tagged s bytes))
  still_behind = (headed_sector h s slot bytes y at stands free within some long checked).known.2 h slot refl

  stands_behind : (st : Standing) → StandsAs None y st → StandsAs None (with_slot y slot (tagged s bytes)) (behind s bytes st)
  stands_behind Shut it = tt
  stands_behind (Open n) it = absurd cc
  stands_behind (Closed n) it =
      let own : slot ≡ s = at ∙ slot_high h s above_header in
      let high = above_header in
      (refl, (h, (still_behind.0, omega arith, λ t from below. still_behind.1 t (omega arith) below)))

  pub has_later_step : HasStep None s bytes (record { slot = slot; then = Headed h slot }) y
  has_later_step = record {
    room = record {
      checked = checked;
      header = λ n e first. cc;
      above = λ n e other. cc;
      behind = λ e. (some, (h, (stands, subst (λ (k : ℕ). IsErasedFrom k y) at free)));
    };
    stands = stands_behind;
  }

-- ---- where there is no room

pub no_room_below : (next s : ℕ) (bytes : List ℕ) (y : ℕ → List ℕ) → s ≢ 0 → s - 1 < next → HasRoom (Some next) s bytes y → ⊥
no_room_below next s bytes y some less room = let above : next < s = room.above next refl some in omega arith

pub no_room_first : (s : ℕ) (bytes : List ℕ) (y : ℕ → List ℕ) → s ≡ 0 → HasRoom None s bytes y → ⊥
no_room_first s bytes y first room = (room.behind refl).0 first

pub no_room_written : (h s : ℕ) (bytes : List ℕ) (y : ℕ → List ℕ) → header_of y ≡ Some h → (IsErasedFrom (slot_under h s) y → ⊥) → HasRoom None s bytes y → ⊥
no_room_written h s bytes y stands written room =
    let b = room.behind refl in
    let same : b.1.0 ≡ h = same_Some b.1.0 h (sym b.1.1.0 ∙ stands) in
    written (subst (λ (k : ℕ). IsErasedFrom (slot_under k s) y) same b.1.1.1)

pub no_room_bare : (next : Option ℕ) (s : ℕ) (bytes : List ℕ) (y : ℕ → List ℕ) → next ≡ None → header_of y ≡ None → HasRoom next s bytes y → ⊥
no_room_bare next s bytes y e none room = let b = (room.behind e).1 in let no : None ≡ Some b.0 = sym none ∙ b.1.0 in cc

-- ---- from which slot on each place is free

pub next_at : (places : List Place) (p : ℕ) → next_of_each places p ≡ next_in (get_or places p Unread)
unfolding next_of_each
next_at places p = refl

pub next_here : (places : List Place) (p : ℕ) (place : Place) → p < length places → next_of_each (set places p place) p ≡ next_in place
unfolding next_of_each
next_here places p place within = ap next_in (get_or-set_same places p place Unread within)

pub next_there : (places : List Place) (p q : ℕ) (place : Place) → q ≢ p → next_of_each (set places p place) q ≡ next_of_each places q
unfolding next_of_each
next_there places p q place other = ap next_in (get_or-set_other places p q place Unread other)

-- what is found of a place changes nothing of it
pub next_found : (places : List Place) (p : ℕ) (place : Place) → p < length places → get_or places p Unread ≡ Unread → next_in place ≡ None → next_of_each (set places p place) ≡ next_of_each places
next_found places p place within before found = fun_ext (λ q. elim (cases_eq q p) [
  | inl same ↦ ap (next_of_each (set places p place)) same ∙ next_here places p place within ∙ found ∙ sym (ap (next_of_each places) same ∙ next_at places p ∙ ap next_in before)
  | inr other ↦ next_there places p q place other
])

-- ---- what may be programmed at each place goes on

-- at a place that an event leaves
stands_left : (next now : Option ℕ) (y w : ℕ → List ℕ) (st : Standing) → now ≡ next → w ≡ y → StandsAs next y st → StandsAs now w st
stands_left next now y w st e f is = subst (λ (k : Option ℕ). StandsAs k w st) (sym e) (subst (λ (v : ℕ → List ℕ). StandsAs next v st) (sym f) is)

module _ (p s : ℕ) (bytes b : List ℕ) (step : Step) (is_b : b ≡ tagged s bytes) (places : List Place) (within : p < length places) where
  programmed_goes_on : (x z : Contents) (f : ℕ → Standing) → after (Program p step.slot b) x ≡ z → HasStep (next_of_each places p) s bytes step (x p) → AreStanding (next_of_each places) x f
      → (q : ℕ) → StandsAs (next_of_each (set places p step.then) q) (z q) (cond (eqb p q) (behind s bytes (f q)) (f q))
  programmed_goes_on x z f now has stands q = elim (cases_eq p q) [
    | inl same ↦
        let slots : after (Program p step.slot b) x p ≡ with_slot (x p) step.slot (tagged s bytes) = own_program x p step.slot b ∙ ap (with_slot (x p) step.slot) is_b in
        let then : StandsAs (next_of_each (set places p step.then) p) (after (Program p step.slot b) x p) (behind s bytes (f p)) =
        stands_left (next_in step.then) (next_of_each (set places p step.then) p) (with_slot (x p) step.slot (tagged s bytes)) (after (Program p step.slot b) x p) (behind s bytes (f p)) (next_here places p step.then within) slots (has.stands (f p) (stands p)) in
        let here : StandsAs (next_of_each (set places p step.then) q) (z q) (behind s bytes (f q)) =
        subst (λ (k : ℕ). StandsAs (next_of_each (set places p step.then) k) (z k) (behind s bytes (f k))) same
        (subst (λ (w : Contents). StandsAs (next_of_each (set places p step.then) p) (w p) (behind s bytes (f p))) now then) in
        subst (λ (st : Standing). StandsAs (next_of_each (set places p step.then) q) (z q) st) (sym (cond-true _ _ _ (eq-eqb p q same))) here
    | inr other ↦
        let left : StandsAs (next_of_each (set places p step.then) q) (z q) (f q) =
        stands_left (next_of_each places q) (next_of_each (set places p step.then) q) (x q) (z q) (f q) (next_there places p q step.then (λ e. other (sym e)))
        (ap (λ (w : Contents). w q) (sym now) ∙ other_program x p step.slot q b other) (stands q) in
        subst (λ (st : Standing). StandsAs (next_of_each (set places p step.then) q) (z q) st) (sym (cond-false _ _ _ (ne_eqb p q other))) left
  ]

  pub program_goes_on : (old new : Option Contents) (now : Bounded Place) (before : Bounded Place) → before.items ≡ places → now ≡ with_items before (set before.items p step.then) → new ≡ option_map (after (Program p step.slot b)) old
      → IfSome old (λ x. HasStep (next_of_each places p) s bytes step (x p)) → GoesOn (Program p s bytes) (next_of_each places) old (next_of_each now.items) new
  program_goes_on old new now before are noted e has = λ x z f is told stands.
      let items : set places p step.then ≡ now.items = sym (ap (λ (v : Bounded Place). v.items) noted ∙ ap (λ (l : List Place). set l p step.then) are) in
      let contents : after (Program p step.slot b) x ≡ z = same_Some (after (Program p step.slot b) x) z (sym (e ∙ ap (option_map (after (Program p step.slot b))) is) ∙ told) in
      λ q. subst (λ (l : List Place). StandsAs (next_of_each l q) (z q) (cond (eqb p q) (behind s bytes (f q)) (f q))) items
      (programmed_goes_on x z f contents (at_told old (λ (y : Contents). HasStep (next_of_each places p) s bytes step (y p)) x has is) stands q)

module _ (p : ℕ) (places : List Place) (within : p < length places) where
  pub erase_goes_on : (old new : Option Contents) (now before : Bounded Place) → before.items ≡ places → now ≡ with_items before (set before.items p (Fresh 0)) → new ≡ option_map (after (Erase p)) old
      → GoesOn (Erase p) (next_of_each places) old (next_of_each now.items) new
  erase_goes_on old new now before are noted e = λ x z f is told stands.
      let items : now.items ≡ set places p (Fresh 0) = ap (λ (v : Bounded Place). v.items) noted ∙ ap (λ (l : List Place). set l p (Fresh 0)) are in
      let contents : after (Erase p) x ≡ z = same_Some (after (Erase p) x) z (sym (e ∙ ap (option_map (after (Erase p))) is) ∙ told) in
      λ q. elim (cases_eq p q) [
        | inl same ↦
            let free : next_of_each now.items q ≡ Some 0 = ap (λ (l : List Place). next_of_each l q) items ∙ subst (λ (k : ℕ). next_of_each (set places p (Fresh 0)) k ≡ Some 0) same (next_here places p (Fresh 0) within) in
            subst (λ (st : Standing). StandsAs (next_of_each now.items q) (z q) st) (sym (cond-true _ _ _ (eq-eqb p q same))) free
        | inr other ↦
            let left : StandsAs (next_of_each now.items q) (z q) (f q) =
            stands_left (next_of_each places q) (next_of_each now.items q) (x q) (z q) (f q) (ap (λ (l : List Place). next_of_each l q) items ∙ next_there places p q (Fresh 0) (λ g. other (sym g)))
            (ap (λ (w : Contents). w q) (sym contents) ∙ other_erase x p q other) (stands q) in
            subst (λ (st : Standing). StandsAs (next_of_each now.items q) (z q) st) (sym (cond-false _ _ _ (ne_eqb p q other))) left
      ]

pub worn_goes_on : (p : ℕ) (next now : ℕ → Option ℕ) (old new : Option Contents) → now ≡ next → new ≡ old → GoesOn (Worn p) next old now new
worn_goes_on p next now old new same e = λ x z f is told stands.
    let contents : x ≡ z = same_Some x z (sym is ∙ sym e ∙ told) in
    λ q. elim (cases_eq p q) [
      | inl here ↦ subst (λ (st : Standing). StandsAs (now q) (z q) st) (sym (cond-true _ _ _ (eq-eqb p q here))) tt
      | inr other ↦
          let left : StandsAs (now q) (z q) (f q) = stands_left (next q) (now q) (x q) (z q) (f q) (ap (λ (g : ℕ → Option ℕ). g q) same) (ap (λ (w : Contents). w q) (sym contents)) (stands q) in
          subst (λ (st : Standing). StandsAs (now q) (z q) st) (sym (cond-false _ _ _ (ne_eqb p q other))) left
    ]

-- of places of which nothing is known
pub next_none : (n : ℕ) → next_of_each (replicate n Unread) ≡ none_next
unfolding next_of_each
next_none n = fun_ext (λ p. ap next_in (unread_at n p))

-- behind calls that only read
pub goes_on_after_reads : {T E : Type 0} (r : Result T E) (e : Event) (next mid now : ℕ → Option ℕ) (old then new : Option Contents) → mid ≡ next → then ≡ old
    → OnOk r (GoesOn e mid then now new) → OnOk r (GoesOn e next old now new)
goes_on_after_reads r e next mid now old then new same contents goes =
    subst (λ (k : ℕ → Option ℕ). OnOk r (GoesOn e k old now new)) same (subst (λ (k : Option Contents). OnOk r (GoesOn e mid k now new)) contents goes)
