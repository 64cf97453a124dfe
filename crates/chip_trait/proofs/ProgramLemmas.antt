-- A program of a blank sector adds one sector to what a power cut leaves, or adds nothing.
use Rattle.std.proofs.Common.{false, ◌≡◌, ◌⊎◌, ℕ, List, ◌∷◌, if◌then◌else◌, eqb, ◌&&◌, IsTrue, Option, Some, None, is_some, inl, inr, refl, sym, ◌∙◌, ap, ap₂, subst}
use Rattle.std.proofs.lemmas.Bool.{cases_Bool, and_parts, and_from, eqb-true, eq-eqb, cond-true}
use Rattle.std.proofs.Math.Path.{fun_ext}
use Rattle.chip_trait.specs.declared.event.Event.TheVariants.{Program}
use Rattle.chip_trait.specs.Story.{Story, Contents, blank, held}
use Rattle.chip_trait.specs.Image.{is_open, is_worn, IsNamedValue, IsNoChanceImage, IsQuiet, KeepsWorn}
use Rattle.chip_trait.specs.Chart.{says, decoded, EachMeans, with_sector, IsPartOf}
use Rattle.chip_trait.proofs.ImageLemmas.{held_is_named, named_if_closed, named_in_quiet, headers_in_quiet}

-- a sector that says something of an image has one of its named values
pub named_if_says : {S : Type 0} (decode : List ℕ → Option S) (start : Contents) (story : Story) (x : Contents) → IsNoChanceImage (says decode) start story x
    → (p s : ℕ) (sector : S) → decode (x p s) ≡ Some sector → IsNamedValue start story p s (x p s)
named_if_says decode start story x is p s sector told = is.chance p s (ap is_some told)

-- in a quiet story, an image is a part of what is held
pub part_in_quiet : {S : Type 0} (decode : List ℕ → Option S) → decode blank ≡ None → (start : Contents) (story : Story) (x : Contents) → IsQuiet start story
    → IsNoChanceImage (says decode) start story x → IsPartOf (decoded decode x) (decoded decode (held start story))
part_in_quiet decode silent start story x quiet is q t other told = elim (named_in_quiet start story q t (x q t) quiet (named_if_says decode start story x is q t other told)) [
  | inl same ↦ ap decode (sym same) ∙ told
  | inr lost ↦ absurd (let none : decode (x q t) ≡ None = ap decode lost.1 ∙ silent in cc (none, told))
]

-- with the headers that are held, where it has lost nothing at worn places
pub headers_there : {S : Type 0} (decode : List ℕ → Option S) (start : Contents) (story : Story) (x : Contents) → IsQuiet start story
    → IsNoChanceImage (says decode) start story x → KeepsWorn start story x → (q : ℕ) → decode (x q 0) ≡ decode (held start story q 0)
headers_there decode start story x quiet is whole q = elim (cases_Bool (is_worn story q)) [
  | inl worn ↦ ap decode (whole q 0 worn)
  | inr lasting ↦ ap decode (headers_in_quiet start story x quiet is.image q lasting)
]

-- whatever a power cut leaves, but by chance, that has lost nothing at worn places, has this meaning
abbrev pub EachWholeMeans : {S : Type 0} (decode : List ℕ → Option S) → ((ℕ → ℕ → Option S) → Type 0) → Contents → Story → Type 0
EachWholeMeans decode Means start story = (x : Contents) → IsNoChanceImage (says decode) start story x → KeepsWorn start story x → Means (decoded decode x)

module _ {S : Type 0} (decode : List ℕ → Option S) (silent : decode blank ≡ None) (start : Contents) (story : Story) (quiet : IsQuiet start story) (p s : ℕ) (bytes : List ℕ) (sector : S)
    (closed : is_open story p s ≡ false) (was_blank : held start story p s ≡ blank) (spelled : decode bytes ≡ Some sector) where
  -- the image as it would be without the program
  abbrev pub without : Contents → Contents
  without x q t = if eqb p q && eqb s t then blank else x q t

  blank_named : (q t : ℕ) → IsTrue (eqb p q && eqb s t) → IsNamedValue start story q t blank
  blank_named q t here =
      let both = and_parts _ _ here in
      let same_place : p ≡ q = eqb-true _ _ both.0 in
      let same_number : s ≡ t = eqb-true _ _ both.1 in
      rw (← same_place, ← same_number) (subst (IsNamedValue start story p s) was_blank (held_is_named start story p s))

  -- away from the sector, what is a named value now was one before
  named_before : (q t : ℕ) (b : List ℕ) → (eqb p q && eqb s t) ≡ false → IsNamedValue start (Program p s bytes ∷ story) q t b → IsNamedValue start story q t b
  named_before q t b elsewhere (inl now) = let held_still : b ≡ held start story q t = rw elsewhere at now in rw held_still (held_is_named start story q t)
  named_before q t b elsewhere (inr before) = before

  pub without_is_image : (x : Contents) → IsNoChanceImage (says decode) start (Program p s bytes ∷ story) x → IsNoChanceImage (says decode) start story (without x)
  without_is_image x is = record {
    image = λ q t. elim (cases_Bool (eqb p q && eqb s t)) [
      | inl here ↦ rw here (inl (blank_named q t here))
      | inr elsewhere ↦ rw elsewhere (elim (is.image q t) [
        | inl named ↦ inl (named_before q t (x q t) elsewhere named)
        | inr torn ↦ inr (rw elsewhere at torn.0, torn.1)
      ])
    ];
    chance = λ q t told. elim (cases_Bool (eqb p q && eqb s t)) [
      | inl here ↦ rw here (blank_named q t here)
      | inr elsewhere ↦ rw elsewhere (named_before q t (x q t) elsewhere (is.chance q t (rw elsewhere at told)))
    ];
  }

  pub without_is_whole : (x : Contents) → KeepsWorn start (Program p s bytes ∷ story) x → KeepsWorn start story (without x)
  without_is_whole x whole q t worn = elim (cases_Bool (eqb p q && eqb s t)) [
    | inl here ↦
        let both = and_parts _ _ here in
        let same_place : p ≡ q = eqb-true _ _ both.0 in
        let same_number : s ≡ t = eqb-true _ _ both.1 in
        rw here (sym (rw (← same_place, ← same_number) was_blank))
    | inr elsewhere ↦ rw elsewhere (let there = whole q t worn in rw elsewhere at there)
  ]

  -- at the sector there is what was programmed, or nothing that says something
  pub there : (x : Contents) → IsNoChanceImage (says decode) start (Program p s bytes ∷ story) x → (found : Option S) → decode (x p s) ≡ found → (decode (x p s) ≡ Some sector) ⊎ (decode (x p s) ≡ None)
  there x is None none = inr none
  there x is (Some other) some = elim (is.chance p s (ap is_some some)) [
    | inl now ↦ inl (ap decode (now ∙ cond-true _ _ _ (and_from _ _ (eq-eqb p p refl) (eq-eqb s s refl))) ∙ spelled)
    | inr before ↦ inr (ap decode (named_if_closed start story p s (x p s) closed before ∙ was_blank) ∙ silent)
  ]

  pub as_without : (x : Contents) → decode (x p s) ≡ None → decoded decode x ≡ decoded decode (without x)
  as_without x none = fun_ext λ q. fun_ext λ t. elim (cases_Bool (eqb p q && eqb s t)) [
    | inl here ↦
        let both = and_parts _ _ here in
        let same_place : p ≡ q = eqb-true _ _ both.0 in
        let same_number : s ≡ t = eqb-true _ _ both.1 in
        rw here (ap₂ (λ (a b : ℕ). decode (x a b)) (sym same_place) (sym same_number) ∙ none ∙ sym silent)
    | inr elsewhere ↦ rw elsewhere refl
  ]

  pub as_with : (x : Contents) → decode (x p s) ≡ Some sector → decoded decode x ≡ with_sector (decoded decode (without x)) p s sector
  as_with x some = fun_ext λ q. fun_ext λ t. elim (cases_Bool (eqb p q && eqb s t)) [
    | inl here ↦
        let both = and_parts _ _ here in
        let same_place : p ≡ q = eqb-true _ _ both.0 in
        let same_number : s ≡ t = eqb-true _ _ both.1 in
        rw here (ap₂ (λ (a b : ℕ). decode (x a b)) (sym same_place) (sym same_number) ∙ some)
    | inr elsewhere ↦ rw elsewhere refl
  ]

  module _ (Means : (ℕ → ℕ → Option S) → Type 0)
      (step : (c : ℕ → ℕ → Option S) → IsPartOf c (decoded decode (held start story)) → ((q : ℕ) → c q 0 ≡ decode (held start story q 0)) → Means c → Means (with_sector c p s sector)) where
    -- where the sector may join each part of what is held that has the meaning, the program keeps the meaning, as long as
    -- nothing is lost at worn places
    pub program_keeps : EachMeans decode Means start story → EachWholeMeans decode Means start (Program p s bytes ∷ story)
    program_keeps all x is whole =
        let earlier = without_is_image x is in
        let before = all (without x) earlier in
        elim (there x is (decode (x p s)) refl) [
          | inl some ↦ rw (as_with x some) (step _ (part_in_quiet decode silent start story (without x) quiet earlier) (headers_there decode start story (without x) quiet earlier (without_is_whole x whole)) before)
          | inr none ↦ rw (as_without x none) before
        ]
