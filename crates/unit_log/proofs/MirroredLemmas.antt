-- What is read of a unit's log, where tables mirror the chip.
use Rattle.std.proofs.Common.{◌≡◌, ◌<◌, ◌≤◌, ◌+◌, ℕ, List, [], length, map, slice_index, Option, Some, None, IfSome, unwrap_or, sym, ◌∙◌, ap, ap₂, subst, arith}
use Rattle.ipl_meaning.specs.Chart.{Chart}
use Rattle.ipl_meaning.specs.Layout.{Layout}
use Rattle.ipl_meaning.specs.Tables.{Places, OverflowLists, Tables, clean_from, written_of, spots_of}
use Rattle.ipl_meaning.proofs.KnownLogLemmas.{counted_few}
use Rattle.overflow.specs.Lists.{spots_in}
use Rattle.unit_log.specs.declared.scratch.LogSector.{LogSector}
use Rattle.unit_log.specs.Kept.{kept_of, gathered, HasUnfit, HaveRisingSerials}
use Rattle.unit_log.specs.Live.{log_spots, AreMirrored, HasHead}
use Rattle.ipl_meaning.specs.Masks.{of_page}
use Rattle.unit_log.specs.Paged.{page_spots}
use Rattle.unit_log.proofs.LiveLemmas.{log_gathered, none_unfit}
use Rattle.unit_log.proofs.PagedLemmas.{page_none_unfit, page_gathered, page_count}

module _ (places place u : ℕ) (c : Chart) (it : Layout) (t : Tables) (directory : Places)
    (overflow : OverflowLists)
    (are : AreMirrored places c it t directory overflow) (low : u < length directory.current)
    (at : place ≡ slice_index directory.current u) where
  within : u < it.count
  within =
      omega (
        arith,
        low,
        are.mirrors.directory.units,
        ap
            (λ (d : Places). length d.current) are.directory_is,
      )

  current_is : place ≡ slice_index t.places.current u
  current_is = at ∙ ap (λ (d : Places). slice_index d.current u) (sym are.directory_is)

  -- the unit's header stands at its place
  pub has_head : HasHead c place u (it.units u).head (it.units u).pieces
  has_head =
      let there = are.mirrors.laid.each u within in
      let home : place ≡ (it.units u).home = current_is ∙ are.mirrors.directory.current u within in
      record {
        here = ap (λ (p : ℕ). c p 0) home ∙ there.chosen.here;
        kind = there.chosen.fits.0;
        unit = there.chosen.fits.1;
        units = it.count;
        spelled = there.counts;
      }

  module _ (next : Option ℕ) (end : ℕ) (listed : List (ℕ × ℕ)) (generation : ℕ)
      (same : generation ≡ (it.units u).head.generation)
      (some : IfSome next (λ s. s ≡ 241 + slice_index directory.written u))
      (range : IfSome next (λ s. (241 ≤ s) × (s ≤ 255)))
      (end_at : end ≡ unwrap_or next 256) (listed_is : listed ≡ spots_in overflow u) where
    -- behind those that are read at home all are known clean
    clean_then : (o : Option ℕ) → IfSome o (λ s. s ≡ 241 + slice_index directory.written u)
        → IfSome o (λ s. (241 ≤ s) × (s ≤ 255)) → end ≡ unwrap_or o 256
        → (s : ℕ) → end ≤ s → s < 256 → clean_from t u ≤ s
    clean_then (Some first) some range is s high less =
        let known : slice_index directory.written u ≡ written_of t u =
        ap (λ (d : Places). slice_index d.written u) (sym are.directory_is) in
        omega (
          arith,
          counted_few (written_of t u) (omega (arith, some, range.1, known)),
          some,
          known,
          is,
          high,
        )
    clean_then None some range is s high less = absurd (omega (arith, is, high, less))

    end_most : (o : Option ℕ) → IfSome o (λ s. (241 ≤ s) × (s ≤ 255)) → end ≡ unwrap_or o 256
        → end ≤ 256
    end_most (Some s) range is = omega (arith, range.1, is)
    end_most None range is = omega (arith, is)

    listed_here : listed ≡ spots_of t u
    listed_here = listed_is ∙ ap (λ (o : OverflowLists). spots_in o u) (sym are.overflow_is)

    spots_are : log_spots place end listed ≡ log_spots (slice_index t.places.current u) end
        (spots_of t u)
    spots_are = ap₂ (λ (p : ℕ) (l : List (ℕ × ℕ)). log_spots p end l) current_is listed_here

    -- none of them is unfit
    pub no_unfit : HasUnfit c u generation (log_spots place end listed) [] → ⊥
    no_unfit unfit =
        none_unfit places c it t u end are.mirrors within (clean_then next some range end_at)
        (end_most next range end_at)
        (subst (λ (l : List (ℕ × ℕ)). HasUnfit c u (it.units u).head.generation l []) spots_are
        (subst (λ (g : ℕ). HasUnfit c u g (log_spots place end listed) []) same unfit))

    -- and what they are gathered into is the unit's log
    pub log_read : (kept : List LogSector)
        → kept ≡ gathered c u generation (log_spots place end listed) [] → HaveRisingSerials kept
        → kept ≡ map kept_of (it.units u).log
    log_read kept is rise =
        let all = is ∙ ap (λ (g : ℕ). gathered c u g (log_spots place end listed) []) same
        ∙ ap (λ (l : List (ℕ × ℕ)). gathered c u (it.units u).head.generation l []) spots_are in
        all
        ∙ log_gathered places c it t u end are.mirrors within (clean_then next some range end_at)
        (end_most next range end_at) (subst HaveRisingSerials all rise)

  -- ---- the log sectors of a page

  module _ (page : ℕ) (spots : List (ℕ × ℕ)) (generation : ℕ)
      (same : generation ≡ (it.units u).head.generation)
      (spots_is : spots ≡ page_spots directory overflow u page) where
    abbrev own : List (ℕ × ℕ)
    own = page_spots t.places t.overflow u page

    own_is : spots ≡ own
    own_is = spots_is
        ∙ ap₂ (λ (d : Places) (o : OverflowLists). page_spots d o u page) (sym are.directory_is) (sym are.overflow_is)

    -- none of them is unfit
    pub no_unfit_page : HasUnfit c u generation spots [] → ⊥
    no_unfit_page unfit =
        page_none_unfit places c it t u page are.mirrors within
        (subst (λ (l : List (ℕ × ℕ)). HasUnfit c u (it.units u).head.generation l []) own_is
        (subst (λ (g : ℕ). HasUnfit c u g spots []) same unfit))

    -- and what they are gathered into are those of the log that have a record of the page
    pub page_read : (kept : List LogSector) → kept ≡ gathered c u generation spots [] → HaveRisingSerials kept
        → kept ≡ map kept_of (of_page page (it.units u).log)
    page_read kept is rise =
        let all = is ∙ ap (λ (g : ℕ). gathered c u g spots []) same
        ∙ ap (λ (l : List (ℕ × ℕ)). gathered c u (it.units u).head.generation l []) own_is in
        all ∙ page_gathered places c it t u page are.mirrors within (subst HaveRisingSerials all rise)

    -- as many
    pub page_size : (kept : List LogSector) → kept ≡ gathered c u generation spots [] → HaveRisingSerials kept
        → length (page_spots directory overflow u page) ≡ length (of_page page (it.units u).log)
    page_size kept is rise =
        let all = is ∙ ap (λ (g : ℕ). gathered c u g spots []) same
        ∙ ap (λ (l : List (ℕ × ℕ)). gathered c u (it.units u).head.generation l []) own_is in
        ap length (sym spots_is ∙ own_is) ∙ page_count places c it t u page are.mirrors within (subst HaveRisingSerials all rise)
