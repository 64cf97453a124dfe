use Rattle.std.proofs.Common.{◌≡◌, ◌+◌, length, map, slice_index, inl, inr, sym, ◌∙◌, ap, subst, arith}
use Rattle.std.proofs.lemmas.List.{length-map}
use Rattle.std.proofs.lemmas.Result.{err_from_is_err_and}
use Rattle.ipl_meaning.specs.Chart.{chart_of}
use Rattle.overflow.specs.Lists.{pair_of, AreWithin}
use Rattle.unit_io.proofs.ReadsAtLemmas.{at_none, at_wider}
use Rattle.unit_log.specs.Kept.{gathered, HasUnfit}
use Rattle.unit_io.specs.ReadsAt.{IsAt}
use Rattle.unit_log.specs.Looks.{IsListed}
use Rattle.unit_log.specs.Paged.{page_spots, IsPageLogRead}
use Rattle.unit_log.proofs.CountLemmas.{most_then, most_wider}
use Rattle.unit_log.proofs.LooksLemmas.{at_page_header, at_page_listed, looks_failed, reads_then}
use Rattle.unit_log.proofs.MirroredLemmas.{has_head, page_read, page_size, no_unfit_page}
use Rattle.unit_log.proofs.live.read_page_log.Goals as goal

pub read_listed-requires-clause-within : goal.read_listed-requires-clause-within
read_listed-requires-clause-within g c =
    let spots = page_spots c.args.directory.now c.args.overflow.now c.args.unit c.args.page in
    let size : length c.args.directory.now.in_use ≡ (g.C.Chip.told c.read_header.new.chip).places =
    omega (arith, c.requires.unit.size, c.in_ok-head.ensures.looks.reads.counts.places) in
    subst (λ l. AreWithin (g.C.Chip.told c.read_header.new.chip).places l)
    (sym (ap (map pair_of) c.as_slice.ensures.value ∙ c.page_spots-spots.ensures.spots))
    (subst (λ n. AreWithin n spots) size c.page_spots-spots.ensures.within)

-- ---- reads

pub returns-in_err-head-clause-looks : goal.returns-in_err-head-clause-looks
returns-in_err-head-clause-looks g c =
    let e = err_from_is_err_and c.from_residual.result c.from_residual.ensures.1 in
    let spots = page_spots c.args.directory.now c.args.overflow.now c.args.unit c.args.page in
    let home = slice_index c.args.directory.now.current c.args.unit in
    looks_failed (IsAt c.current-place.result 0) (IsPageLogRead home spots)
    (at_page_header home c.current-place.result spots c.current-place.ensures.place)
    _ e.0 _ (g.C.Chip.told c.args.chip.now) (g.C.Chip.told c.args.chip.now)
    (g.C.Chip.told c.read_header.new.chip) e.1 e.2
    (at_none (IsPageLogRead home spots) (g.C.Chip.told c.args.chip.now)) c.in_err-head.ensures.looks

pub returns-in_err-read_listed-clause-looks : goal.returns-in_err-read_listed-clause-looks
returns-in_err-read_listed-clause-looks g c =
    let e =
    err_from_is_err_and c.from_residual-in_err-read_listed.result
    c.from_residual-in_err-read_listed.ensures.1 in
    let spots = page_spots c.args.directory.now c.args.overflow.now c.args.unit c.args.page in
    let own = map pair_of c.as_slice.result.now in
    let home = slice_index c.args.directory.now.current c.args.unit in
    let place = c.current-place.result in
    looks_failed (IsListed own) (IsPageLogRead home spots)
    (at_page_listed home own spots (ap (map pair_of) c.as_slice.ensures.value ∙ c.page_spots-spots.ensures.spots))
    _ e.0 _ (g.C.Chip.told c.args.chip.now) (g.C.Chip.told c.read_header.new.chip)
    (g.C.Chip.told c.read_listed.new.chip) e.1 e.2
    (at_wider (IsAt place 0) (IsPageLogRead home spots) (g.C.Chip.told c.args.chip.now)
    (g.C.Chip.told c.read_header.new.chip)
    (at_page_header home place spots c.current-place.ensures.place)
    c.in_ok-head.ensures.looks.reads) c.in_err-read_listed.ensures.looks

pub returns-clause-looks : goal.returns-clause-looks
returns-clause-looks g c =
    let spots = page_spots c.args.directory.now c.args.overflow.now c.args.unit c.args.page in
    let own = map pair_of c.as_slice.result.now in
    let home = slice_index c.args.directory.now.current c.args.unit in
    let place = c.current-place.result in
    record {
      reads =
          reads_then (IsListed own) (IsPageLogRead home spots)
          (at_page_listed home own spots (ap (map pair_of) c.as_slice.ensures.value ∙ c.page_spots-spots.ensures.spots))
          (g.C.Chip.told c.args.chip.now) (g.C.Chip.told c.read_header.new.chip)
          (g.C.Chip.told c.read_listed.new.chip)
          (at_wider (IsAt place 0) (IsPageLogRead home spots) (g.C.Chip.told c.args.chip.now)
          (g.C.Chip.told c.read_header.new.chip)
          (at_page_header home place spots c.current-place.ensures.place)
          c.in_ok-head.ensures.looks.reads) c.in_ok-read_listed.ensures.looks.reads;
      cause = tt;
    }

-- ---- how many

pub returns-in_err-read_listed-clause-each : goal.returns-in_err-read_listed-clause-each
returns-in_err-read_listed-clause-each g c =
    let spots = page_spots c.args.directory.now c.args.overflow.now c.args.unit c.args.page in
    most_wider (1 + length c.as_slice.result.now) (1 + length spots) (g.C.Chip.told c.args.chip.now) (g.C.Chip.told c.read_listed.new.chip)
    (omega (arith, length-map c.as_slice.result.now pair_of, ap length (ap (map pair_of) c.as_slice.ensures.value ∙ c.page_spots-spots.ensures.spots)))
    (most_then 1 (length c.as_slice.result.now) (g.C.Chip.told c.args.chip.now) (g.C.Chip.told c.read_header.new.chip)
    (g.C.Chip.told c.read_listed.new.chip) c.read_header.ensures.one c.read_listed.ensures.each)

pub returns-clause-each : goal.returns-clause-each
returns-clause-each g c =
    let spots = page_spots c.args.directory.now c.args.overflow.now c.args.unit c.args.page in
    most_wider (1 + length c.as_slice.result.now) (1 + length spots) (g.C.Chip.told c.args.chip.now) (g.C.Chip.told c.read_listed.new.chip)
    (omega (arith, length-map c.as_slice.result.now pair_of, ap length (ap (map pair_of) c.as_slice.ensures.value ∙ c.page_spots-spots.ensures.spots)))
    (most_then 1 (length c.as_slice.result.now) (g.C.Chip.told c.args.chip.now) (g.C.Chip.told c.read_header.new.chip)
    (g.C.Chip.told c.read_listed.new.chip) c.read_header.ensures.one c.read_listed.ensures.each)

-- ---- what is told

pub returns-in_err-head-clause-exact : goal.returns-in_err-head-clause-exact
returns-in_err-head-clause-exact g c = λ x told it t are.
    let e = err_from_is_err_and c.from_residual.result c.from_residual.ensures.1 in
    rw e.1 (e.2
    ∙ c.in_err-head.ensures.exact x told
    (it.units c.args.unit).head (it.units c.args.unit).pieces
    (has_head _ c.current-place.result c.args.unit
    (chart_of x) it t c.args.directory.now c.args.overflow.now are c.requires.unit.unit
    c.current-place.ensures.place))

pub returns-in_err-read_listed-clause-exact : goal.returns-in_err-read_listed-clause-exact
returns-in_err-read_listed-clause-exact g c = λ x told it t are.
    let e =
    err_from_is_err_and c.from_residual-in_err-read_listed.result
    c.from_residual-in_err-read_listed.ensures.1 in
    let head =
    c.in_ok-head.ensures.exact x told (it.units c.args.unit).head (it.units c.args.unit).pieces
    (has_head _ c.current-place.result c.args.unit
    (chart_of x) it t c.args.directory.now c.args.overflow.now are c.requires.unit.unit
    c.current-place.ensures.place) in
    let told_then = c.in_ok-head.ensures.looks.reads.contents ∙ told in
    let own = map pair_of c.as_slice.result.now in
    rw e.1 (elim (c.in_err-read_listed.ensures.gathers x told_then) [
      | inl read ↦ e.2 ∙ read
      | inr unfit ↦
          absurd (no_unfit_page _ c.current-place.result c.args.unit
          (chart_of x) it t c.args.directory.now c.args.overflow.now are c.requires.unit.unit
          c.current-place.ensures.place
          c.args.page own c.in_ok-head.head.generation head.0
          (ap (map pair_of) c.as_slice.ensures.value ∙ c.page_spots-spots.ensures.spots)
          (subst (HasUnfit (chart_of x) c.args.unit c.in_ok-head.head.generation own) c.clear.ensures unfit))
    ])

pub returns-clause-exact : goal.returns-clause-exact
returns-clause-exact g c = λ x told it t are.
    let head =
    c.in_ok-head.ensures.exact x told (it.units c.args.unit).head (it.units c.args.unit).pieces
    (has_head _ c.current-place.result c.args.unit
    (chart_of x) it t c.args.directory.now c.args.overflow.now are c.requires.unit.unit
    c.current-place.ensures.place) in
    let own = map pair_of c.as_slice.result.now in
    let all =
    c.in_ok-read_listed.ensures.gathers x (c.in_ok-head.ensures.looks.reads.contents ∙ told)
    ∙ ap (gathered (chart_of x) c.args.unit c.in_ok-head.head.generation own) c.clear.ensures in
    record {
      version = head.2;
      generation = head.0;
      pieces = head.1;
      log =
          page_read _ c.current-place.result c.args.unit
          (chart_of x) it t c.args.directory.now c.args.overflow.now are c.requires.unit.unit
          c.current-place.ensures.place
          c.args.page own c.in_ok-head.head.generation head.0
          (ap (map pair_of) c.as_slice.ensures.value ∙ c.page_spots-spots.ensures.spots)
          c.read_listed.new.scratch all c.facts-2.ensures.rising;
    }

pub returns-clause-as_many : goal.returns-clause-as_many
returns-clause-as_many g c = λ x told it t are.
    let head =
    c.in_ok-head.ensures.exact x told (it.units c.args.unit).head (it.units c.args.unit).pieces
    (has_head _ c.current-place.result c.args.unit
    (chart_of x) it t c.args.directory.now c.args.overflow.now are c.requires.unit.unit
    c.current-place.ensures.place) in
    let own = map pair_of c.as_slice.result.now in
    let all =
    c.in_ok-read_listed.ensures.gathers x (c.in_ok-head.ensures.looks.reads.contents ∙ told)
    ∙ ap (gathered (chart_of x) c.args.unit c.in_ok-head.head.generation own) c.clear.ensures in
    page_size _ c.current-place.result c.args.unit
    (chart_of x) it t c.args.directory.now c.args.overflow.now are c.requires.unit.unit
    c.current-place.ensures.place
    c.args.page own c.in_ok-head.head.generation head.0
    (ap (map pair_of) c.as_slice.ensures.value ∙ c.page_spots-spots.ensures.spots)
    c.read_listed.new.scratch all c.facts-2.ensures.rising
