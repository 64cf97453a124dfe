-- What a pick gives a sector is one of its named values, or the bytes that the pick brings.
use Rattle.std.proofs.Common.{◌≡◌, inl, inr, ℕ, suc, ◌+◌, ◌-◌, ◌≤◌, Bool, true, false, List, [], ◌∷◌, length, drop, fold, eqb, leb, ltb, nat_lt, ◌&&◌, Option, Some, None, unwrap_or, refl, sym, ap, subst, arith}
use Rattle.std.proofs.lemmas.Bool.{cases_Bool, cases_lt, and_parts, eqb-true, leb-true}
use Rattle.std.proofs.lemmas.Option.{same_Some}
use Rattle.chip_trait.specs.declared.event.Event.{Event}
use Rattle.chip_trait.specs.declared.event.Event.TheVariants.{Read, Program, Erase, Worn, Barrier, Said}
use Rattle.chip_trait.specs.Story.{Story, Contents, held}
use Rattle.chip_trait.specs.Image.{may_tear, IsNamedValue, NoChance}
use Rattle.chip_trait.proofs.ImageLemmas.{held_is_named}
use Rattle.chip_mem.specs.Picked.{first, closed_count, chosen, given, with_pick, image_of, checks_by_chance, NoneByChance}
use Rattle.chip_mem.specs.declared.pick.Choice.{Choice}
use Rattle.chip_mem.specs.declared.pick.Choice.TheVariants.{Old, After, Bytes}
use Rattle.chip_mem.specs.declared.pick.Pick.{Pick}

-- all events are the first ones
first_all : (story : Story) (n : ℕ) → length story ≤ n → first n story ≡ story
first_all story n all = let none : length story - n ≡ 0 = omega arith in ap (λ (k : ℕ). drop k story) none

-- the newest event isn't among fewer
first_fewer : (x : Event) (story : Story) (n : ℕ) → n ≤ length story → first n (x ∷ story) ≡ first n story
first_fewer x story n fewer = let more : length (x ∷ story) - n ≡ suc (length story - n) = omega arith in ap (λ (k : ℕ). drop k (x ∷ story)) more

-- after all events, or after fewer
last_or_earlier : (start : Contents) (x : Event) (story : Story) (p s n : ℕ)
    → (n ≤ length story → IsNamedValue start (x ∷ story) p s (held start (first n story) p s)) → IsNamedValue start (x ∷ story) p s (held start (first n (x ∷ story)) p s)
last_or_earlier start x story p s n earlier =
    let Named : Story → Type 0 = λ st. IsNamedValue start (x ∷ story) p s (held start st p s) in
    elim (cases_lt n (length (x ∷ story))) [
      | inl below ↦ let fewer : n ≤ length story = omega arith in subst Named (sym (first_fewer x story n fewer)) (earlier fewer)
      | inr all ↦ subst Named (sym (first_all (x ∷ story) n all)) (held_is_named start (x ∷ story) p s)
    ]

-- what a sector held at the last barrier, or after any event since, is one of its named values
pub first_is_named : (start : Contents) (story : Story) (p s n : ℕ) → closed_count story ≤ n → IsNamedValue start story p s (held start (first n story) p s)
first_is_named start [] p s n since = ap (λ (st : Story). held start st p s) (first_all [] n (omega arith))
first_is_named start (Read q t ∷ story) p s n since = last_or_earlier start (Read q t) story p s n (λ fewer. first_is_named start story p s n since)
first_is_named start (Program q t bytes ∷ story) p s n since = last_or_earlier start (Program q t bytes) story p s n (λ fewer. inr (first_is_named start story p s n since))
first_is_named start (Erase q ∷ story) p s n since = last_or_earlier start (Erase q) story p s n (λ fewer. inr (first_is_named start story p s n since))
first_is_named start (Worn q ∷ story) p s n since = last_or_earlier start (Worn q) story p s n (λ fewer. first_is_named start story p s n since)
first_is_named start (Barrier ∷ story) p s n since = last_or_earlier start Barrier story p s n (λ fewer. absurd (omega arith))
first_is_named start (Said piece ∷ story) p s n since = last_or_earlier start (Said piece) story p s n (λ fewer. first_is_named start story p s n since)

-- what a choice gives has a named value, unless it is bytes of its own that check
chosen_named : (checks : List ℕ → Bool) (start : Contents) (story : Story) (p s : ℕ) (choice : Choice) (bytes : List ℕ)
    → checks_by_chance checks choice ≡ false → chosen start story p s choice ≡ Some bytes → checks bytes ≡ true → IsNamedValue start story p s bytes
chosen_named checks start story p s Old bytes none is checked =
    subst (IsNamedValue start story p s) (same_Some _ bytes is) (first_is_named start story p s (closed_count story) (omega arith))
chosen_named checks start story p s (After n) bytes none is checked = elim (cases_Bool (leb (closed_count story) n && ltb n (length story))) [
  | inl later ↦
      let since : closed_count story ≤ n = leb-true _ _ (and_parts _ _ later).0 in
      subst (IsNamedValue start story p s) (same_Some _ bytes (rw later at is)) (first_is_named start story p s (n + 1) (omega arith))
  | inr other ↦ absurd (let nothing = rw other at is in cc)
]
chosen_named checks start story p s (Bytes own) bytes none is checked = absurd (let same = same_Some own bytes is in cc)

-- what a pick gives has one too
given_named : (checks : List ℕ → Bool) (start : Contents) (story : Story) (pick : Pick) (bytes : List ℕ)
    → checks_by_chance checks pick.choice ≡ false → given start story pick ≡ Some bytes → checks bytes ≡ true → IsNamedValue start story pick.place pick.sector bytes
given_named checks start story pick bytes none is checked = elim (cases_Bool (nat_lt pick.sector 256 && may_tear story pick.place pick.sector)) [
  | inl open_there ↦ chosen_named checks start story pick.place pick.sector pick.choice bytes none (rw open_there at is) checked
  | inr closed ↦ absurd (let nothing = rw closed at is in cc)
]

-- one pick more
pick_named : (checks : List ℕ → Bool) (start : Contents) (story : Story) (x : Contents) (pick : Pick)
    → checks_by_chance checks pick.choice ≡ false → NoChance checks start story x → NoChance checks start story (with_pick start story x pick)
pick_named checks start story x pick none so_far p s = elim (cases_Bool (eqb pick.place p && eqb pick.sector s)) [
  | inl here ↦
      let both = and_parts _ _ here in
      rw here (either (given start story pick) refl (eqb-true pick.place p both.0) (eqb-true pick.sector s both.1))
  | inr elsewhere ↦ rw elsewhere (so_far p s)
]
  where
    either : (o : Option (List ℕ)) → given start story pick ≡ o → pick.place ≡ p → pick.sector ≡ s → checks (unwrap_or o (x p s)) ≡ true → IsNamedValue start story p s (unwrap_or o (x p s))
    either None is row column checked = so_far p s checked
    either (Some bytes) is row column checked = rw (← row, ← column) (given_named checks start story pick bytes none is checked)

all_named : (checks : List ℕ → Bool) (start : Contents) (story : Story) (picks : List Pick) (x : Contents)
    → NoneByChance checks picks → NoChance checks start story x → NoChance checks start story (fold (with_pick start story) x picks)
all_named checks start story [] x none so_far = so_far
all_named checks start story (pick ∷ picks) x none so_far =
    all_named checks start story picks (with_pick start story x pick) (λ k d within. none (suc k) d (omega arith))
    (pick_named checks start story x pick (none 0 pick (omega arith)) so_far)

-- in the image that picks make no sector checks by chance, but for bytes of the picks
pub image_named : (checks : List ℕ → Bool) (start : Contents) (story : Story) (picks : List Pick) → NoneByChance checks picks → NoChance checks start story (image_of start story picks)
image_named checks start story picks none =
    all_named checks start story picks (held start story) none (λ p s checked. held_is_named start story p s)
