use Rattle.std.proofs.Common.{◌≡◌, ℕ, List, [], ◌∷◌, map, slice_index, inl, inr, refl, sym, ◌∙◌, ap, subst, arith}
use Rattle.std.proofs.lemmas.Result.{err_from_is_err_and}
use Rattle.ipl_meaning.specs.Chart.{chart_of}
use Rattle.overflow.specs.Lists.{pair_of, spots_in, AreWithin}
use Rattle.unit_io.proofs.ReadsAtLemmas.{at_none, at_wider}
use Rattle.unit_log.specs.Kept.{gathered, HasUnfit}
use Rattle.unit_log.specs.Live.{log_spots, HasUnitHead}
use Rattle.unit_io.specs.ReadsAt.{IsAt}
use Rattle.unit_log.specs.Looks.{IsLogRead}
use Rattle.chip_trait.specs.Told.{Told}
use Rattle.unit_io.specs.Costs.{Spends}
use Rattle.unit_log.specs.Often.{header_and_log, ReadsListed}
use Rattle.unit_log.proofs.OftenLemmas.{often_first, often_then}
use Rattle.unit_log.proofs.LooksLemmas.{at_header, at_log, looks_failed, reads_then}
use Rattle.unit_log.proofs.MirroredLemmas.{has_head, log_read, no_unfit}
use Rattle.unit_log.proofs.live.read_live.Goals as goal

pub read_sectors-requires-clause-within : goal.read_sectors-requires-clause-within
read_sectors-requires-clause-within g c =
    let spots = spots_in c.args.overflow.now c.args.unit in
    let size : c.args.overflow.now.places ≡ (g.C.Chip.told c.read_header.new.chip).places =
    omega (arith, c.requires.unit.sized, c.in_ok-head.ensures.looks.reads.counts.places) in
    subst (λ l. AreWithin (g.C.Chip.told c.read_header.new.chip).places l)
    (sym (ap (map pair_of) c.as_slice.ensures.value ∙ c.list-spots.ensures.spots))
    (subst (λ n. AreWithin n spots) size c.list-spots.ensures.within)

-- ---- reads

pub returns-in_err-head-clause-looks : goal.returns-in_err-head-clause-looks
returns-in_err-head-clause-looks g c =
    let e = err_from_is_err_and c.from_residual.result c.from_residual.ensures.1 in
    let spots = spots_in c.args.overflow.now c.args.unit in
    let home = slice_index c.args.directory.now.current c.args.unit in
    looks_failed (IsAt c.current-place.result 0) (IsLogRead home spots)
    (at_header home c.current-place.result spots spots c.current-place.ensures.place refl)
    _ e.0 _ (g.C.Chip.told c.args.chip.now) (g.C.Chip.told c.args.chip.now)
    (g.C.Chip.told c.read_header.new.chip) e.1 e.2
    (at_none (IsLogRead home spots) (g.C.Chip.told c.args.chip.now)) c.in_err-head.ensures.looks

pub returns-in_err-read_sectors-clause-looks : goal.returns-in_err-read_sectors-clause-looks
returns-in_err-read_sectors-clause-looks g c =
    let e =
    err_from_is_err_and c.from_residual-in_err-read_sectors.result
    c.from_residual-in_err-read_sectors.ensures.1 in
    let spots = spots_in c.args.overflow.now c.args.unit in
    let own = map pair_of c.as_slice.result.now in
    let home = slice_index c.args.directory.now.current c.args.unit in
    let place = c.current-place.result in
    looks_failed (IsLogRead place own) (IsLogRead home spots)
    (at_log home place own spots c.current-place.ensures.place (ap (map pair_of) c.as_slice.ensures.value ∙ c.list-spots.ensures.spots))
    _ e.0 _ (g.C.Chip.told c.args.chip.now) (g.C.Chip.told c.read_header.new.chip)
    (g.C.Chip.told c.read_sectors.new.chip) e.1 e.2
    (at_wider (IsAt place 0) (IsLogRead home spots) (g.C.Chip.told c.args.chip.now)
    (g.C.Chip.told c.read_header.new.chip)
    (at_header home place own spots c.current-place.ensures.place (ap (map pair_of) c.as_slice.ensures.value ∙ c.list-spots.ensures.spots))
    c.in_ok-head.ensures.looks.reads) c.in_err-read_sectors.ensures.looks

pub returns-clause-looks : goal.returns-clause-looks
returns-clause-looks g c =
    let spots = spots_in c.args.overflow.now c.args.unit in
    let own = map pair_of c.as_slice.result.now in
    let home = slice_index c.args.directory.now.current c.args.unit in
    let place = c.current-place.result in
    record {
      reads =
          reads_then (IsLogRead place own) (IsLogRead home spots)
          (at_log home place own spots c.current-place.ensures.place (ap (map pair_of) c.as_slice.ensures.value ∙ c.list-spots.ensures.spots))
          (g.C.Chip.told c.args.chip.now) (g.C.Chip.told c.read_header.new.chip)
          (g.C.Chip.told c.read_sectors.new.chip)
          (at_wider (IsAt place 0) (IsLogRead home spots) (g.C.Chip.told c.args.chip.now)
          (g.C.Chip.told c.read_header.new.chip)
          (at_header home place own spots c.current-place.ensures.place (ap (map pair_of) c.as_slice.ensures.value ∙ c.list-spots.ensures.spots))
          c.in_ok-head.ensures.looks.reads) c.in_ok-read_sectors.ensures.looks.reads;
      cause = tt;
    }

-- ---- what is told

pub returns-in_err-head-clause-exact : goal.returns-in_err-head-clause-exact
returns-in_err-head-clause-exact g c = λ x told it t are.
    let e = err_from_is_err_and c.from_residual.result c.from_residual.ensures.1 in
    rw e.1 (e.2
    ∙ c.in_err-head.ensures.exact x told
    (it.units c.args.unit).head (it.units c.args.unit).pieces
    (has_head _ c.current-place.result c.args.unit
    (chart_of x) it t c.args.directory.now c.args.overflow.now are c.requires.unit.unit
    c.current-place.ensures.place))

pub returns-in_err-read_sectors-clause-exact : goal.returns-in_err-read_sectors-clause-exact
returns-in_err-read_sectors-clause-exact g c = λ x told it t are.
    let e =
    err_from_is_err_and c.from_residual-in_err-read_sectors.result
    c.from_residual-in_err-read_sectors.ensures.1 in
    let head =
    c.in_ok-head.ensures.exact x told (it.units c.args.unit).head (it.units c.args.unit).pieces
    (has_head _ c.current-place.result c.args.unit
    (chart_of x) it t c.args.directory.now c.args.overflow.now are c.requires.unit.unit
    c.current-place.ensures.place) in
    let told_then = c.in_ok-head.ensures.looks.reads.contents ∙ told in
    rw e.1 (elim (c.in_err-read_sectors.ensures.gathers x told_then) [
      | inl read ↦ e.2 ∙ read
      | inr unfit ↦
          absurd (no_unfit _ c.current-place.result c.args.unit
          (chart_of x) it t c.args.directory.now c.args.overflow.now are c.requires.unit.unit
          c.current-place.ensures.place
          c.next_log.result c.unwrap_or-end.result
          (map pair_of c.as_slice.result.now) c.in_ok-head.head.generation head.0
          c.next_log.ensures.some c.next_log.ensures.in_range
          c.unwrap_or-end.ensures (ap (map pair_of) c.as_slice.ensures.value ∙ c.list-spots.ensures.spots)
          (subst (HasUnfit (chart_of x) c.args.unit c.in_ok-head.head.generation
          (log_spots c.current-place.result c.unwrap_or-end.result
          (map pair_of c.as_slice.result.now))) c.clear.ensures unfit))
    ])

pub returns-clause-exact : goal.returns-clause-exact
returns-clause-exact g c = λ x told it t are.
    let head =
    c.in_ok-head.ensures.exact x told (it.units c.args.unit).head (it.units c.args.unit).pieces
    (has_head _ c.current-place.result c.args.unit
    (chart_of x) it t c.args.directory.now c.args.overflow.now are c.requires.unit.unit
    c.current-place.ensures.place) in
    let all =
    c.in_ok-read_sectors.ensures.gathers x (c.in_ok-head.ensures.looks.reads.contents ∙ told)
    ∙ ap (gathered (chart_of x) c.args.unit c.in_ok-head.head.generation
    (log_spots c.current-place.result c.unwrap_or-end.result
    (map pair_of c.as_slice.result.now))) c.clear.ensures in
    record {
      version = head.2;
      generation = head.0;
      pieces = head.1;
      log =
          log_read _ c.current-place.result c.args.unit
          (chart_of x) it t c.args.directory.now c.args.overflow.now are c.requires.unit.unit
          c.current-place.ensures.place
          c.next_log.result c.unwrap_or-end.result
          (map pair_of c.as_slice.result.now) c.in_ok-head.head.generation head.0
          c.next_log.ensures.some c.next_log.ensures.in_range
          c.unwrap_or-end.ensures (ap (map pair_of) c.as_slice.ensures.value ∙ c.list-spots.ensures.spots)
          c.read_sectors.new.scratch all c.facts-2.ensures.rising;
    }

pub returns-clause-header : goal.returns-clause-header
returns-clause-header g c = λ x told.
    subst (λ p. HasUnitHead (chart_of x) p c.args.unit c.in_ok-head.head) c.current-place.ensures.place
    (c.in_ok-head.ensures.header x told)

-- ---- how often

pub returns-in_err-head-clause-often : goal.returns-in_err-head-clause-often
returns-in_err-head-clause-often g c =
    let place = c.current-place.result in
    let old = g.C.Chip.told c.args.chip.now in
    let new = g.C.Chip.told c.read_header.new.chip in
    let spots = spots_in c.args.overflow.now c.args.unit in
    subst (λ (p : ℕ). Spends (ReadsListed (header_and_log p spots)) old new) c.current-place.ensures.place
    (often_first ((place, 0) ∷ []) (log_spots place 256 spots) old new c.read_header.ensures.often)

-- the header, and then the rest
read_both : (place home : ℕ) (own spots : List (ℕ × ℕ)) (old mid new : Told) → place ≡ home → own ≡ spots
    → Spends (ReadsListed ((place, 0) ∷ [])) old mid → Spends (ReadsListed (log_spots place 256 own)) mid new
    → Spends (ReadsListed (header_and_log home spots)) old new
read_both place home own spots old mid new here same first second =
    subst (λ (p : ℕ). Spends (ReadsListed (header_and_log p spots)) old new) here
    (subst (λ (l : List (ℕ × ℕ)). Spends (ReadsListed (header_and_log place l)) old new) same
    (often_then ((place, 0) ∷ []) (log_spots place 256 own) old mid new first second))

pub returns-in_err-read_sectors-clause-often : goal.returns-in_err-read_sectors-clause-often
returns-in_err-read_sectors-clause-often g c =
    read_both c.current-place.result (slice_index c.args.directory.now.current c.args.unit)
    (map pair_of c.as_slice.result.now) (spots_in c.args.overflow.now c.args.unit) (g.C.Chip.told c.args.chip.now)
    (g.C.Chip.told c.read_header.new.chip) (g.C.Chip.told c.read_sectors.new.chip) c.current-place.ensures.place
    (ap (map pair_of) c.as_slice.ensures.value ∙ c.list-spots.ensures.spots) c.read_header.ensures.often
    c.read_sectors.ensures.often

pub returns-clause-often : goal.returns-clause-often
returns-clause-often g c =
    read_both c.current-place.result (slice_index c.args.directory.now.current c.args.unit)
    (map pair_of c.as_slice.result.now) (spots_in c.args.overflow.now c.args.unit) (g.C.Chip.told c.args.chip.now)
    (g.C.Chip.told c.read_header.new.chip) (g.C.Chip.told c.read_sectors.new.chip) c.current-place.ensures.place
    (ap (map pair_of) c.as_slice.ensures.value ∙ c.list-spots.ensures.spots) c.read_header.ensures.often
    c.read_sectors.ensures.often
