-- What a power cut may leave of a sector, by what is open.
use Rattle.std.proofs.Common.{◌≡◌, ◌⊎◌, ℕ, Bool, true, false, List, [], ◌∷◌, eqb, ◌&&◌, ◌||◌, not, inl, inr, refl, sym, ◌∙◌, subst}
use Rattle.std.proofs.lemmas.Bool.{cases_Bool, and_parts, eqb-true, eq-eqb, ne_eqb}
use Rattle.chip_trait.specs.declared.event.Event.TheVariants.{Read, Program, Erase, Worn, Barrier, Said}
use Rattle.chip_trait.specs.Story.{Story, Contents, blank, held}
use Rattle.chip_trait.specs.Image.{is_open, is_sound, is_worn, may_tear, IsNamedValue, IsImage, IsNoChanceImage, IsQuiet, IsClosed}

-- what is held is a named value
pub held_is_named : (start : Contents) (story : Story) (p s : ℕ) → IsNamedValue start story p s (held start story p s)
held_is_named start [] p s = refl
held_is_named start (Read q t ∷ story) p s = held_is_named start story p s
held_is_named start (Program q t bytes ∷ story) p s = inl refl
held_is_named start (Erase q ∷ story) p s = inl refl
held_is_named start (Worn q ∷ story) p s = held_is_named start story p s
held_is_named start (Barrier ∷ story) p s = refl
held_is_named start (Said piece ∷ story) p s = held_is_named start story p s

pub held_is_image : (checks : List ℕ → Bool) (start : Contents) (story : Story) → IsNoChanceImage checks start story (held start story)
held_is_image checks start story = record { image = λ p s. inl (held_is_named start story p s); chance = λ p s checks_here. held_is_named start story p s }

-- a closed sector has one named value, what is held
pub named_if_closed : (start : Contents) (story : Story) (p s : ℕ) (b : List ℕ) → is_open story p s ≡ false → IsNamedValue start story p s b → b ≡ held start story p s
named_if_closed start [] p s b closed named = named
named_if_closed start (Read q t ∷ story) p s b closed named = named_if_closed start story p s b closed named
named_if_closed start (Program q t bytes ∷ story) p s b closed (inl now) = now
named_if_closed start (Program q t bytes ∷ story) p s b closed (inr before) = elim (cases_Bool (eqb q p && eqb t s)) [
  | inl here ↦ absurd (let shut = rw here at closed in cc)
  | inr elsewhere ↦ let still : is_open story p s ≡ false = rw elsewhere at closed in rw elsewhere (named_if_closed start story p s b still before)
]
named_if_closed start (Erase q ∷ story) p s b closed (inl now) = now
named_if_closed start (Erase q ∷ story) p s b closed (inr before) = elim (cases_Bool (eqb q p)) [
  | inl here ↦ absurd (let shut = rw here at closed in cc)
  | inr elsewhere ↦ let still : is_open story p s ≡ false = rw elsewhere at closed in rw elsewhere (named_if_closed start story p s b still before)
]
named_if_closed start (Worn q ∷ story) p s b closed named = named_if_closed start story p s b closed named
named_if_closed start (Barrier ∷ story) p s b closed named = named
named_if_closed start (Said piece ∷ story) p s b closed named = named_if_closed start story p s b closed named

-- so each image has there what is held
pub image_if_closed : (start : Contents) (story : Story) (x : Contents) (p s : ℕ) → is_open story p s ≡ false → is_worn story p ≡ false → IsImage start story x → x p s ≡ held start story p s
image_if_closed start story x p s closed lasting image = elim (image p s) [
  | inl named ↦ named_if_closed start story p s (x p s) closed named
  | inr torn ↦ absurd (let torn_here = rw (closed, lasting) at torn.0 in cc torn_here)
]

torn_before : (touched worn sound : Bool) → (false || (worn && not sound)) ≡ true → (touched || worn) ≡ true
torn_before true worn sound torn = refl
torn_before false true sound torn = refl
torn_before false false sound torn = torn

-- a barrier only takes images away
pub image_before_barrier : (checks : List ℕ → Bool) (start : Contents) (story : Story) (x : Contents) → IsNoChanceImage checks start (Barrier ∷ story) x → IsNoChanceImage checks start story x
image_before_barrier checks start story x is = record {
  image = λ p s. elim (is.image p s) [
    | inl named ↦ inl (subst (IsNamedValue start story p s) (sym named) (held_is_named start story p s))
    | inr torn ↦ inr (torn_before (is_open story p s) (is_worn story p) (is_sound story p) torn.0, torn.1)
  ];
  chance = λ p s checks_here. subst (IsNamedValue start story p s) (sym (is.chance p s checks_here)) (held_is_named start story p s);
}

-- a sector of a quiet story has what is held, or it is open and was blank
pub named_in_quiet : (start : Contents) (story : Story) (p s : ℕ) (b : List ℕ) → IsQuiet start story → IsNamedValue start story p s b
    → (b ≡ held start story p s) ⊎ ((is_open story p s ≡ true) × (b ≡ blank))
named_in_quiet start [] p s b quiet named = inl named
named_in_quiet start (Read q t ∷ story) p s b quiet named = named_in_quiet start story p s b quiet named
named_in_quiet start (Program q t bytes ∷ story) p s b quiet (inl now) = inl now
named_in_quiet start (Program q t bytes ∷ story) p s b quiet (inr before) =
    let earlier = named_in_quiet start story p s b quiet.3 before in
    elim (cases_Bool (eqb q p && eqb t s)) [
      | inl here ↦
          let both = and_parts _ _ here in
          let same_place : q ≡ p = eqb-true _ _ both.0 in
          let same_sector : t ≡ s = eqb-true _ _ both.1 in
          let was : held start story p s ≡ blank = rw (← same_place, ← same_sector) quiet.1 in
          rw here (elim earlier [
            | inl kept ↦ inr (refl, kept ∙ was)
            | inr lost ↦ inr (refl, lost.1)
          ])
      | inr elsewhere ↦ rw elsewhere earlier
    ]
named_in_quiet start (Erase q ∷ story) p s b quiet named = absurd quiet
named_in_quiet start (Worn q ∷ story) p s b quiet named = named_in_quiet start story p s b quiet named
named_in_quiet start (Barrier ∷ story) p s b quiet named = inl named
named_in_quiet start (Said piece ∷ story) p s b quiet named = named_in_quiet start story p s b quiet named

-- in a quiet story no header is open
pub header_closed : (start : Contents) (story : Story) (q : ℕ) → IsQuiet start story → is_open story q 0 ≡ false
header_closed start [] q quiet = refl
header_closed start (Read p t ∷ story) q quiet = header_closed start story q quiet
header_closed start (Program p t bytes ∷ story) q quiet = rw (ne_eqb t 0 quiet.0, header_closed start story q quiet.3) (never (eqb p q))
  where
    never : (a : Bool) → ((a && false) || false) ≡ false
    never true = refl
    never false = refl
header_closed start (Erase p ∷ story) q quiet = absurd quiet
header_closed start (Worn p ∷ story) q quiet = header_closed start story q quiet
header_closed start (Barrier ∷ story) q quiet = refl
header_closed start (Said piece ∷ story) q quiet = header_closed start story q quiet

-- so each image has the headers that are held, but at worn places
pub headers_in_quiet : (start : Contents) (story : Story) (x : Contents) → IsQuiet start story → IsImage start story x → (q : ℕ) → is_worn story q ≡ false → x q 0 ≡ held start story q 0
headers_in_quiet start story x quiet image q lasting = image_if_closed start story x q 0 (header_closed start story q quiet) lasting image

-- where nothing is open the story is quiet
pub closed_is_quiet : (start : Contents) (story : Story) → IsClosed story → IsQuiet start story
closed_is_quiet start [] closed = tt
closed_is_quiet start (Read q t ∷ story) closed = closed_is_quiet start story closed
closed_is_quiet start (Program q t bytes ∷ story) closed = absurd (let shut = closed q t in let here = eq-eqb q q refl in let there = eq-eqb t t refl in let false_is_true = rw (here, there) at shut in cc false_is_true)
closed_is_quiet start (Erase q ∷ story) closed = absurd (let shut = closed q 0 in let here = eq-eqb q q refl in let false_is_true = rw here at shut in cc false_is_true)
closed_is_quiet start (Worn q ∷ story) closed = closed_is_quiet start story closed
closed_is_quiet start (Barrier ∷ story) closed = tt
closed_is_quiet start (Said piece ∷ story) closed = closed_is_quiet start story closed
