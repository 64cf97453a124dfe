-- A program where nothing else is open leads from one chart to one other, and a barrier leaves one chart, as long as nothing
-- is lost at worn places.
use Rattle.std.proofs.Common.{◌≡◌, ◌⊎◌, ℕ, List, ◌∷◌, eqb, ◌&&◌, true, false, Option, Some, None, inl, inr, refl, ap}
use Rattle.std.proofs.lemmas.Bool.{cases_Bool}
use Rattle.std.proofs.Math.Path.{fun_ext}
use Rattle.chip_trait.specs.declared.event.Event.TheVariants.{Program, Barrier}
use Rattle.chip_trait.specs.Story.{Story, Contents, blank, held}
use Rattle.chip_trait.specs.Image.{is_worn, IsNoChanceImage, IsQuiet, IsClosed, KeepsWorn}
use Rattle.chip_trait.specs.Chart.{decoded, says, EachMeans, with_sector}
use Rattle.chip_trait.proofs.ImageLemmas.{image_if_closed}
use Rattle.chip_trait.proofs.ProgramLemmas.{EachWholeMeans, without, without_is_image, part_in_quiet, there, as_with, as_without}

module _ {S : Type 0} (decode : List ℕ → Option S) where
  -- where nothing is open there is one such image
  pub whole_if_closed : (start : Contents) (story : Story) (x : Contents) → IsClosed story → IsNoChanceImage (says decode) start story x → KeepsWorn start story x
      → decoded decode x ≡ decoded decode (held start story)
  whole_if_closed start story x closed is whole = fun_ext λ p. fun_ext λ s. elim (cases_Bool (is_worn story p)) [
    | inl worn ↦ ap decode (whole p s worn)
    | inr lasting ↦ ap decode (image_if_closed start story x p s (closed p s) lasting is.image)
  ]

  pub closed_means : (Means : (ℕ → ℕ → Option S) → Type 0) (start : Contents) (story : Story) → IsClosed story → Means (decoded decode (held start story)) → EachWholeMeans decode Means start story
  closed_means Means start story closed means x is whole = rw (whole_if_closed start story x closed is whole) means

  -- what is held after a program
  pub held_program : (start : Contents) (story : Story) (p s : ℕ) (bytes : List ℕ) (sector : S) → decode bytes ≡ Some sector
      → decoded decode (held start (Program p s bytes ∷ story)) ≡ with_sector (decoded decode (held start story)) p s sector
  held_program start story p s bytes sector spelled = fun_ext λ q. fun_ext λ t. elim (cases_Bool (eqb p q && eqb s t)) [
    | inl here ↦ rw here spelled
    | inr elsewhere ↦ rw elsewhere refl
  ]

  module _ (silent : decode blank ≡ None) (start : Contents) (story : Story) (quiet : IsQuiet start story) (closed : IsClosed story) (p s : ℕ) (bytes : List ℕ) (sector : S)
      (was_blank : held start story p s ≡ blank) (spelled : decode bytes ≡ Some sector) where
    -- with the program a power cut leaves the chart of before, or the one with the sector
    pub program_leads : (Means After : (ℕ → ℕ → Option S) → Type 0) → EachMeans decode Means start story
        → ((c : ℕ → ℕ → Option S) → ((q t : ℕ) → is_worn story q ≡ false → c q t ≡ decode (held start story q t)) → ((q t : ℕ) (other : S) → is_worn story q ≡ true → c q t ≡ Some other → decode (held start story q t) ≡ Some other) → After (with_sector c p s sector))
        → EachMeans decode (λ c. Means c ⊎ After c) start (Program p s bytes ∷ story)
    program_leads Means After all after x is =
        let without_it = without decode silent start story quiet p s bytes sector (closed p s) was_blank spelled x in
        let earlier = without_is_image decode silent start story quiet p s bytes sector (closed p s) was_blank spelled x is in
        let before = all without_it earlier in
        elim (there decode silent start story quiet p s bytes sector (closed p s) was_blank spelled x is (decode (x p s)) refl) [
          | inl some ↦ inr (rw (as_with decode silent start story quiet p s bytes sector (closed p s) was_blank spelled x some) (after (decoded decode without_it)
              (λ q t lasting. ap decode (image_if_closed start story without_it q t (closed q t) lasting earlier.image))
              (λ q t other worn told. part_in_quiet decode silent start story without_it quiet earlier q t other told)))
          | inr none ↦ inl (rw (as_without decode silent start story quiet p s bytes sector (closed p s) was_blank spelled x none) before)
        ]
