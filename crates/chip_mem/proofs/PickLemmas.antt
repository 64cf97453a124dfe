-- What picks make of the sectors that are held.
use Rattle.std.proofs.Common.{◌≡◌, inl, inr, ℕ, suc, zero, ◌+◌, ◌-◌, ◌<◌, ◌≤◌, true, cond, List, [], ◌∷◌, ◌++◌, length, reverse, take, drop, eqb, ◌&&◌, Option, Some, unwrap_or, refl, sym, ◌∙◌, ap, subst, arith}
use Rattle.std.specs.List.{All, AllPass}
use Rattle.std.proofs.Math.Path.{fun_ext}
use Rattle.std.proofs.Math.Seq.{drop-append_seam}
use Rattle.std.proofs.lemmas.Bool.{cases_Bool, and_parts, eqb-true, ltb-true, lt-ltb, le-leb}
use Rattle.std.proofs.lemmas.List.{reverse-append, length-reverse, take-append-drop, length-drop}
use Rattle.std.proofs.lemmas.List.Elements.{All-append}
use Rattle.chip_trait.specs.declared.event.Event.{Event}
use Rattle.chip_trait.specs.declared.event.Event.TheVariants.{Read, Program, Erase, Worn, Barrier, Said}
use Rattle.chip_trait.specs.Story.{Story, Contents, after, held}
use Rattle.chip_trait.specs.Image.{is_open, is_worn, may_tear, IsImage}
use Rattle.chip_mem.specs.Story.{is_inside}
use Rattle.chip_mem.specs.Picked.{first, closed_count, chosen, given, with_pick}
use Rattle.chip_mem.specs.declared.pick.Choice.TheVariants.{Old, After}
use Rattle.chip_mem.specs.declared.pick.Pick.{Pick}

-- no more than all
pub first-min : (story : Story) (n k : ℕ) → length story - k ≡ length story - n → first n story ≡ first k story
first-min story n k same = ap (λ (i : ℕ). drop i story) (sym same)

-- the first events, oldest first
pub first-reverse : (n : ℕ) (events : List Event) → first n (reverse events) ≡ reverse (take n events)
first-reverse n events =
    let later = drop n events in
    let parts : reverse events ≡ reverse later ++ reverse (take n events) = ap reverse (sym (take-append-drop n events)) ∙ reverse-append (take n events) later in
    let count : length (reverse events) - n ≡ length (reverse later) = omega (arith, length-reverse events, length-reverse later, length-drop n events) in
    ap (λ (k : ℕ). drop k (reverse events)) count ∙ ap (λ (l : List Event). drop (length (reverse later)) l) parts ∙ drop-append_seam (reverse later) (reverse (take n events))

-- an image stays one where an open sector gets any 512 bytes
pub pick_keeps_image : (start : Contents) (story : Story) (x : Contents) (p s : ℕ) (bytes : List ℕ) → may_tear story p s ≡ true → length bytes ≡ 512
    → IsImage start story x → IsImage start story (after (Program p s bytes) x)
pick_keeps_image start story x p s bytes touched fits image q t = elim (cases_Bool (eqb p q && eqb s t)) [
  | inl here ↦
      let both = and_parts _ _ here in
      let row : p ≡ q = eqb-true p q both.0 in
      let column : s ≡ t = eqb-true s t both.1 in
      rw here (inr (rw (← row, ← column) touched, fits))
  | inr elsewhere ↦ rw elsewhere (image q t)
]

-- a pick that gives bytes puts them into its sector
pub pick_gives : (start : Contents) (story : Story) (x : Contents) (pick : Pick) (bytes : List ℕ) → given start story pick ≡ Some bytes
    → after (Program pick.place pick.sector bytes) x ≡ with_pick start story x pick
pick_gives start story x pick bytes is =
    fun_ext (λ p. fun_ext (λ s. ap (λ (o : Option (List ℕ)). cond (eqb pick.place p && eqb pick.sector s) (unwrap_or o (x p s)) (x p s)) (sym is)))

-- a pick of an open sector gives what it chooses
pub given_if_open : (start : Contents) (story : Story) (pick : Pick) → pick.sector < 256 → may_tear story pick.place pick.sector ≡ true
    → given start story pick ≡ chosen start story pick.place pick.sector pick.choice
given_if_open start story pick small touched = rw (lt-ltb pick.sector 256 small, touched) refl

-- an open sector is one of the chip, and so is a worn place
within_later : (places : ℕ) (e : Event) (story : Story) → AllPass (is_inside places) (e ∷ story) → AllPass (is_inside places) story
within_later places e story inside k d within = inside (suc k) d (omega (arith, within))

open_in_story : (places : ℕ) (story : Story) (p s : ℕ) → AllPass (is_inside places) story → is_open story p s ≡ true → p < places
open_in_story places [] p s inside touched = absurd (cc)
open_in_story places (Read q t ∷ story) p s inside touched = open_in_story places story p s (within_later places (Read q t) story inside) touched
open_in_story places (Program q t bytes ∷ story) p s inside touched = elim (cases_Bool (eqb q p && eqb t s)) [
  | inl here ↦
      let there : is_inside places (Program q t bytes) ≡ true = inside 0 (Program q t bytes) (omega arith) in
      rw (← eqb-true q p (and_parts _ _ here).0) (ltb-true q places (and_parts _ _ there).0)
  | inr elsewhere ↦ open_in_story places story p s (within_later places (Program q t bytes) story inside) (rw elsewhere at touched)
]
open_in_story places (Erase q ∷ story) p s inside touched = elim (cases_Bool (eqb q p)) [
  | inl here ↦ let there : is_inside places (Erase q) ≡ true = inside 0 (Erase q) (omega arith) in rw (← eqb-true q p here) (ltb-true q places there)
  | inr elsewhere ↦ open_in_story places story p s (within_later places (Erase q) story inside) (rw elsewhere at touched)
]
open_in_story places (Worn q ∷ story) p s inside touched = open_in_story places story p s (within_later places (Worn q) story inside) touched
open_in_story places (Barrier ∷ story) p s inside touched = absurd (cc)
open_in_story places (Said piece ∷ story) p s inside touched = open_in_story places story p s (within_later places (Said piece) story inside) touched

worn_in_story : (places : ℕ) (story : Story) (p : ℕ) → AllPass (is_inside places) story → is_worn story p ≡ true → p < places
worn_in_story places [] p inside worn = absurd (cc)
worn_in_story places (Read q t ∷ story) p inside worn = worn_in_story places story p (within_later places (Read q t) story inside) worn
worn_in_story places (Program q t bytes ∷ story) p inside worn = worn_in_story places story p (within_later places (Program q t bytes) story inside) worn
worn_in_story places (Erase q ∷ story) p inside worn = worn_in_story places story p (within_later places (Erase q) story inside) worn
worn_in_story places (Worn q ∷ story) p inside worn = elim (cases_Bool (eqb q p)) [
  | inl here ↦ let there : is_inside places (Worn q) ≡ true = inside 0 (Worn q) (omega arith) in rw (← eqb-true q p here) (ltb-true q places there)
  | inr elsewhere ↦ worn_in_story places story p (within_later places (Worn q) story inside) (rw elsewhere at worn)
]
worn_in_story places (Barrier ∷ story) p inside worn = worn_in_story places story p (within_later places Barrier story inside) (and_parts _ _ worn).0
worn_in_story places (Said piece ∷ story) p inside worn = worn_in_story places story p (within_later places (Said piece) story inside) worn

torn_in_story : (places : ℕ) (story : Story) (p s : ℕ) → AllPass (is_inside places) story → may_tear story p s ≡ true → p < places
torn_in_story places story p s inside torn = elim (cases_Bool (is_open story p s)) [
  | inl touched ↦ open_in_story places story p s inside touched
  | inr closed ↦ worn_in_story places story p inside (rw closed at torn)
]

all_reversed : (P : Event → Type 0) (events : List Event) → All P events → All P (reverse events)
all_reversed P [] all = all
all_reversed P (e ∷ events) all =
    subst (λ (l : List Event). All P l) (sym (reverse-append (e ∷ []) events)) (All-append P (reverse events) (e ∷ []) (all_reversed P events (λ k d within. all (suc k) d (omega arith))) (alone (all 0 e (omega arith))))
  where
    alone : P e → All P (e ∷ [])
    alone there zero d within = there
    alone there (suc k) d within = absurd (omega arith)

pub torn_is_inside : (places : ℕ) (events : List Event) (p s : ℕ) → AllPass (is_inside places) events → may_tear (reverse events) p s ≡ true → p < places
torn_is_inside places events p s inside touched =
    let P : Event → Type 0 = λ e. is_inside places e ≡ true in
    torn_in_story places (reverse events) p s (all_reversed P events inside) touched

-- the choice of what stood at the last barrier
pub chosen_old : (start : Contents) (events : List Event) (p s n : ℕ) → n ≡ closed_count (reverse events)
    → Some (held start (reverse (take n events)) p s) ≡ chosen start (reverse events) p s Old
chosen_old start events p s n settled =
    ap (λ (story : Story). Some (held start story p s)) (sym (first-reverse n events))
    ∙ ap (λ (k : ℕ). Some (held start (first k (reverse events)) p s)) settled

-- the choice of what stood after a later event
pub chosen_after : (start : Contents) (events : List Event) (p s settled n : ℕ) → settled ≡ closed_count (reverse events) → settled ≤ n → n < length events
    → Some (held start (reverse (take (n + 1) events)) p s) ≡ chosen start (reverse events) p s (After n)
chosen_after start events p s settled n is since among =
    let later : closed_count (reverse events) ≤ n = omega arith in
    let one : n < length (reverse events) = omega (arith, length-reverse events) in
    rw (le-leb (closed_count (reverse events)) n later, lt-ltb n (length (reverse events)) one)
    (ap (λ (story : Story). Some (held start story p s)) (sym (first-reverse (n + 1) events)))

-- the first events of a history, kept as a list of so many
pub first-take : (events : List Event) (at count : ℕ) → length events - count ≡ length events - at → reverse (take count events) ≡ first at (reverse events)
first-take events at count same =
    sym (first-reverse count events) ∙ first-min (reverse events) count at (omega (arith, length-reverse events))

-- what holds of a copy of the start and of the first events of a list holds of a history
pub image_moves : (Q : List (List ℕ) → Story → Type 0) (start xs : List (List ℕ)) (events es : List Event) (at count : ℕ) → xs ≡ start → es ≡ events
    → length events - count ≡ length events - at → Q xs (reverse (take count es)) → Q start (first at (reverse events))
image_moves Q start xs events es at count copied same cut holds =
    let story : reverse (take count es) ≡ first at (reverse events) = ap (λ (l : List Event). reverse (take count l)) same ∙ first-take events at count cut in
    subst (λ (l : List (List ℕ)). Q l (first at (reverse events))) copied (subst (λ (st : Story). Q xs st) story holds)
