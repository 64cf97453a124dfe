-- What a power cut loses: some of what a worn place had, and some of what a place had upon whose erase it comes.
use Rattle.std.proofs.Common.{◌≡◌, ◌≢◌, ◌⊎◌, ℕ, Bool, true, List, ◌∷◌, if◌then◌else◌, eqb, ◌||◌, false, Option, Some, None, is_some, inl, inr, refl, sym, ◌∙◌, ap}
use Rattle.std.proofs.lemmas.Bool.{cases_Bool, eq-eqb}
use Rattle.chip_trait.specs.declared.event.Event.TheVariants.{Erase, Worn}
use Rattle.chip_trait.specs.Story.{Story, Contents, blank, held}
use Rattle.chip_trait.specs.Image.{is_open, is_worn, may_tear, IsNamedValue, IsNoChanceImage, IsQuiet, KeepsWorn}
use Rattle.chip_trait.specs.Chart.{says, decoded, EachMeans, IsPartOf}
use Rattle.chip_trait.proofs.ImageLemmas.{held_is_named, named_in_quiet, headers_in_quiet}
use Rattle.chip_trait.proofs.ProgramLemmas.{EachWholeMeans, part_in_quiet, named_if_says}

module _ {S : Type 0} (decode : List ℕ → Option S) (silent : decode blank ≡ None) (start : Contents) (story : Story) (quiet : IsQuiet start story) where
  -- where such a place may lose what it has, the meaning is kept
  abbrev pub Loses : ((ℕ → ℕ → Option S) → Type 0) → (ℕ → Bool) → Type 0
  Loses Means w = (c y : ℕ → ℕ → Option S) → IsPartOf c (decoded decode (held start story)) → ((q : ℕ) → c q 0 ≡ decode (held start story q 0))
      → ((q t : ℕ) → w q ≡ false → y q t ≡ c q t)
      → ((q t : ℕ) (sector : S) → w q ≡ true → y q t ≡ Some sector → decode (held start story q t) ≡ Some sector) → Means c → Means y

  -- what a named value of a sector says, the sector says as it is held
  said_before : (q t : ℕ) (b : List ℕ) (sector : S) → IsNamedValue start story q t b → decode b ≡ Some sector → decode (held start story q t) ≡ Some sector
  said_before q t b sector named told = elim (named_in_quiet start story q t b quiet named) [
    | inl is ↦ ap decode (sym is) ∙ told
    | inr lost ↦ absurd (let none : decode b ≡ None = ap decode lost.1 ∙ silent in cc (none, told))
  ]

  module _ (w : ℕ → Bool) (covers : (q : ℕ) → is_worn story q ≡ true → w q ≡ true) where
    -- the image with nothing lost at these places
    abbrev pub put : Contents → Contents
    put x q t = if w q then held start story q t else x q t

    lasting_off : (q : ℕ) → w q ≡ false → is_worn story q ≡ false
    lasting_off q off = elim (cases_Bool (is_worn story q)) [
      | inl worn ↦ absurd (let on = covers q worn in cc (on, off))
      | inr lasting ↦ lasting
    ]

    pub put_headers : (x : Contents) → IsNoChanceImage (says decode) start story (put x) → (q : ℕ) → decode (put x q 0) ≡ decode (held start story q 0)
    put_headers x is q = elim (cases_Bool (w q)) [
      | inl on ↦ rw on refl
      | inr off ↦ ap decode (headers_in_quiet start story (put x) quiet is.image q (lasting_off q off))
    ]

    pub lose : (Means : (ℕ → ℕ → Option S) → Type 0) → Loses Means w → (x : Contents) → IsNoChanceImage (says decode) start story (put x)
        → ((q t : ℕ) (sector : S) → w q ≡ true → decode (x q t) ≡ Some sector → decode (held start story q t) ≡ Some sector)
        → Means (decoded decode (put x)) → Means (decoded decode x)
    lose Means loses x is left means =
        loses (decoded decode (put x)) (decoded decode x) (part_in_quiet decode silent start story (put x) quiet is) (put_headers x is)
        (λ q t off. rw off refl) left means

  -- what holds where nothing is lost at worn places holds of all that a power cut may leave
  pub each_by_whole : (Means : (ℕ → ℕ → Option S) → Type 0) → Loses Means (is_worn story) → EachWholeMeans decode Means start story → EachMeans decode Means start story
  each_by_whole Means loses all x is =
      let whole : IsNoChanceImage (says decode) start story (put (is_worn story) (λ q worn. worn) x) = record {
        image = λ q t. elim (cases_Bool (is_worn story q)) [
          | inl worn ↦ rw worn (inl (held_is_named start story q t))
          | inr lasting ↦ rw lasting (elim (is.image q t) [ inl named ↦ inl named | inr torn ↦ inr (rw lasting at torn.0, torn.1) ])
        ];
        chance = λ q t told. elim (cases_Bool (is_worn story q)) [
          | inl worn ↦ rw worn (held_is_named start story q t)
          | inr lasting ↦ rw lasting (is.chance q t (rw lasting at told))
        ];
      } in
      lose (is_worn story) (λ q worn. worn) Means loses x whole
      (λ q t sector worn told. said_before q t (x q t) sector (named_if_says decode start story x is q t sector told) told)
      (all _ whole (λ q t worn. rw worn refl))

  -- a place that is found worn is one more at which something may be lost
  pub worn_keeps : (Means : (ℕ → ℕ → Option S) → Type 0) (p : ℕ) → EachMeans decode Means start story → EachWholeMeans decode Means start (Worn p ∷ story)
  worn_keeps Means p all x is whole = all x (record {
    image = λ q t. elim (cases_Bool (eqb p q)) [
      | inl here ↦ inl (let there : x q t ≡ held start story q t = whole q t (rw here refl) in rw there (held_is_named start story q t))
      | inr elsewhere ↦ elim (is.image q t) [
        | inl named ↦ inl named
        | inr torn ↦ inr (rw elsewhere at torn.0, torn.1)
      ]
    ];
    chance = is.chance;
  })

  module _ (p : ℕ) where
    -- the erased place, and those that are worn
    abbrev pub lossy : ℕ → Bool
    lossy q = eqb p q || is_worn story q

    pub covers_worn : (q : ℕ) → is_worn story q ≡ true → lossy q ≡ true
    covers_worn q worn = rw worn (or_true (eqb p q))
      where
        or_true : (b : Bool) → (b || true) ≡ true
        or_true true = refl
        or_true false = refl

    named_before : (q t : ℕ) (b : List ℕ) → eqb p q ≡ false → IsNamedValue start (Erase p ∷ story) q t b → IsNamedValue start story q t b
    named_before q t b elsewhere (inl now) = let still : b ≡ held start story q t = rw elsewhere at now in rw still (held_is_named start story q t)
    named_before q t b elsewhere (inr before) = before

    apart : (q : ℕ) → lossy q ≡ false → (eqb p q ≡ false) × (is_worn story q ≡ false)
    apart q off = elim (cases_Bool (eqb p q)) [
      | inl here ↦ absurd (let on = rw here at off in cc on)
      | inr elsewhere ↦ (elsewhere, rw elsewhere at off)
    ]

    pub put_is_image : (x : Contents) → IsNoChanceImage (says decode) start (Erase p ∷ story) x → IsNoChanceImage (says decode) start story (put lossy covers_worn x)
    put_is_image x is = record {
      image = λ q t. elim (cases_Bool (lossy q)) [
        | inl on ↦ rw on (inl (held_is_named start story q t))
        | inr off ↦ rw off (elim (is.image q t) [
          | inl named ↦ inl (named_before q t (x q t) (apart q off).0 named)
          | inr torn ↦ inr (rw (apart q off).0 at torn.0, torn.1)
        ])
      ];
      chance = λ q t told. elim (cases_Bool (lossy q)) [
        | inl on ↦ rw on (held_is_named start story q t)
        | inr off ↦ rw off (named_before q t (x q t) (apart q off).0 (is.chance q t (rw off at told)))
      ];
    }

    -- such a place has some of what it had
    pub left_there : (x : Contents) → IsNoChanceImage (says decode) start (Erase p ∷ story) x → (q t : ℕ) (sector : S) → decode (x q t) ≡ Some sector → decode (held start story q t) ≡ Some sector
    left_there x is q t sector told = elim (is.chance q t (ap is_some told)) [
      | inl now ↦ elim (cases_Bool (eqb p q)) [
        | inl here ↦
            let erased : x q t ≡ blank = rw here at now in
            absurd (let none : decode (x q t) ≡ None = ap decode erased ∙ silent in cc (none, told))
        | inr elsewhere ↦ let still : x q t ≡ held start story q t = rw elsewhere at now in ap decode (sym still) ∙ told
      ]
      | inr before ↦ said_before q t (x q t) sector before told
    ]

    -- where the place may lose what it has, the erase keeps the meaning
    pub erase_keeps : (Means : (ℕ → ℕ → Option S) → Type 0) → Loses Means lossy → EachMeans decode Means start story → EachMeans decode Means start (Erase p ∷ story)
    erase_keeps Means loses all x is =
        lose lossy covers_worn Means loses x (put_is_image x is) (λ q t sector on told. left_there x is q t sector told) (all _ (put_is_image x is))
