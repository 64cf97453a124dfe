use Rattle.std.proofs.Common.{Err, slice_index, ◌<◌, ◌≤◌, ◌∙◌, refl, ap, inl, subst, sym, arith}
use Rattle.std.proofs.lemmas.Result.{err_from_is_err_and}
use Rattle.ipl_meaning.specs.Chart.{Chart}
use Rattle.ipl_meaning.specs.Layout.{Layout}
use Rattle.ipl_meaning.specs.Mirrors.{Mirrors}
use Rattle.ipl_meaning.specs.Tables.{Tables}
use Rattle.overflow.specs.Lists.{spots_in}
use Rattle.unit_log.specs.Looks.{IsLogRead}
use Rattle.unit_log.specs.Kept.{records_kept}
use Rattle.selective_merge.proofs.FaultLemmas.{fault_unread}
use Rattle.unit_log.proofs.OftenLemmas.{often_first}
use Rattle.selective_merge.specs.Often.{all_of, base_of, log_of}
use Rattle.selective_merge.specs.Moving.{tables_of}
use Rattle.selective_merge.specs.Placing.{IsElsewhere, IsMergedSpot, IsPlaced, PlacesLog}
use Rattle.selective_merge.specs.Spotting.{HasHomeSpot}
use Rattle.selective_merge.proofs.CompleteLemmas.{fails_complete}
use Rattle.selective_merge.proofs.LearntLemmas.{counted, counted_by, learnt_behind, learnt_still}
use Rattle.selective_merge.proofs.LeavingLemmas.{finds_there, finds_unread}
use Rattle.selective_merge.proofs.PlacingLemmas.{placed_home, placed_few, placed_elsewhere}
use Rattle.selective_merge.proofs.RoomLemmas.{all_ok, makes_none, told_none, makes_unread, places_behind}
use Rattle.selective_merge.proofs.WholeLemmas.{told_unread}
use Rattle.selective_merge.proofs.placing.log_place.Goals as goal

pub returns-in-Some-clause-room : goal.returns-in-Some-clause-room
returns-in-Some-clause-room g c =
    let told = g.C.Chip.told c.args.chip.now in
    let t = tables_of c.args.parts.now in
    let spot = c.in-Some.spot in
    let home = λ (x : Chart) (it : Layout) (mirrors : Mirrors told.places x it t).
    placed_home told.places x it t c.args.unit spot.place spot.sector c.requires.unit c.in-Some.ensures.some
    mirrors in record {
      tells = told_none IsPlaced told.places c.args.unit t spot told home;
      steps = makes_none IsPlaced told.places c.args.unit t spot told home;
      fault = λ x told it mirrors. tt;
      spot = inl c.in-Some.ensures.some;
      finds = finds_there _ c.args.unit t spot told c.requires.known;
    }

pub returns-in_err-learn-clause-room : goal.returns-in_err-learn-clause-room
returns-in_err-learn-clause-room g c =
    let old = g.C.Chip.told c.args.chip.now in
    let new = g.C.Chip.told c.learn.new.chip in
    let t = tables_of c.args.parts.now in
    let u = c.args.unit in
    let At = IsLogRead (slice_index t.places.current u) (spots_in t.overflow u) in
    let read = c.in_err-learn.ensures in
    let fault = c.in_err-learn.field-0.0 in
    let e = err_from_is_err_and c.from_residual.result c.from_residual.ensures.1 in
    rw (e.1 ∙ ap Err e.2) (subst (λ (after : Tables). PlacesLog IsPlaced (all_of t u) u t after (Err fault) old new)
    (sym read.same) (record {
      tells = λ soft. told_unread At old.places t old new read.looks.reads;
      steps = makes_unread IsPlaced At old.places u t fault old new read.looks.reads;
      fault = λ x told it mirrors. fault_unread _ fault
          (read.learns x told it t (record { mirrors = mirrors; directory_is = refl; overflow_is = refl }));
      spot = tt;
      finds = finds_unread (all_of t u) u t fault old new c.requires.known read.looks.reads
          (often_first (log_of t u) (base_of t u) old new read.often) read.looks.cause;
    }))

pub returns-then-carried-le-MERGE_THRESHOLD-clause-room : goal.returns-then-carried-le-MERGE_THRESHOLD-clause-room
returns-then-carried-le-MERGE_THRESHOLD-clause-room g c =
    let old = g.C.Chip.told c.args.chip.now in
    let mid = g.C.Chip.told c.learn.new.chip in
    let new = g.C.Chip.told c.merged_spot.new.chip in
    let t = tables_of c.args.parts.now in
    let after = tables_of c.merged_spot.new.parts in
    let u = c.args.unit in
    let read = c.in_ok-learn.ensures in
    let count = c.packed_count-carried in
    let full : ¬ HasHomeSpot t u = λ has. omega (arith, has, c.in_default.ensures.none) in
    let low : count.result ≤ 7 = omega (arith, c.if-carried-le-MERGE_THRESHOLD.true) in
    places_behind IsMergedSpot IsPlaced (IsLogRead (slice_index t.places.current u) (spots_in t.overflow u))
    u t after old mid new read.looks.reads c.merged_spot.result (log_of t u) (base_of t u)
    (all_ok _ c.merged_spot.result (λ spot x y it told mirrors is. placed_few old.places _ y it t after u
    spot.place spot.sector count.result full
    (counted c.learn.new.parts.scratch.home (it.units u) u t.active (records_kept c.learn.new.parts.scratch.sectors) count.result
    (counted_by t (tables_of c.learn.new.parts) (records_kept c.learn.new.parts.scratch.sectors) count.result read.same
    count.ensures.count)
    (read.learns x told it t (record { mirrors = mirrors; directory_is = refl; overflow_is = refl })))
    low is.spot is.merged)) read.often
    (subst (λ (s : Tables). PlacesLog IsMergedSpot (base_of s u) u s after c.merged_spot.result mid new) read.same
    c.merged_spot.ensures)

pub returns-clause-room : goal.returns-clause-room
returns-clause-room g c =
    let old = g.C.Chip.told c.args.chip.now in
    let mid = g.C.Chip.told c.learn.new.chip in
    let new = g.C.Chip.told c.elsewhere.new.chip in
    let t = tables_of c.args.parts.now in
    let after = tables_of c.elsewhere.new.parts in
    let u = c.args.unit in
    let read = c.in_ok-learn.ensures in
    let count = c.packed_count-carried in
    let full : ¬ HasHomeSpot t u = λ has. omega (arith, has, c.in_default.ensures.none) in
    let high : 7 < count.result = omega (arith, c.if-carried-le-MERGE_THRESHOLD.false) in
    places_behind IsElsewhere IsPlaced (IsLogRead (slice_index t.places.current u) (spots_in t.overflow u))
    u t after old mid new read.looks.reads c.elsewhere.result (log_of t u) (base_of t u)
    (all_ok _ c.elsewhere.result (λ spot x y it told mirrors is. placed_elsewhere old.places _ y it t after u
    spot.place spot.sector count.result full
    (counted c.learn.new.parts.scratch.home (it.units u) u t.active (records_kept c.learn.new.parts.scratch.sectors) count.result
    (counted_by t (tables_of c.learn.new.parts) (records_kept c.learn.new.parts.scratch.sectors) count.result read.same
    count.ensures.count)
    (read.learns x told it t (record { mirrors = mirrors; directory_is = refl; overflow_is = refl })))
    high is)) read.often
    (subst (λ (s : Tables). PlacesLog IsElsewhere (base_of s u) u s after c.elsewhere.result mid new) read.same
    c.elsewhere.ensures)

pub returns-in_err-learn-clause-complete : goal.returns-in_err-learn-clause-complete
returns-in_err-learn-clause-complete g c =
    let old = g.C.Chip.told c.args.chip.now in
    fails_complete old.places (tables_of c.args.parts.now) c.args.unit c.from_residual.result old
    (returns-in_err-learn-clause-room g c).fault

pub returns-then-carried-le-MERGE_THRESHOLD-clause-complete : goal.returns-then-carried-le-MERGE_THRESHOLD-clause-complete
returns-then-carried-le-MERGE_THRESHOLD-clause-complete g c =
    let old = g.C.Chip.told c.args.chip.now in
    fails_complete old.places (tables_of c.args.parts.now) c.args.unit c.merged_spot.result old
    (returns-then-carried-le-MERGE_THRESHOLD-clause-room g c).fault

pub returns-clause-complete : goal.returns-clause-complete
returns-clause-complete g c =
    let old = g.C.Chip.told c.args.chip.now in
    fails_complete old.places (tables_of c.args.parts.now) c.args.unit c.elsewhere.result old
    (returns-clause-room g c).fault

pub merged_spot-requires-clause-learnt : goal.merged_spot-requires-clause-learnt
merged_spot-requires-clause-learnt g c =
    let read = c.in_ok-learn.ensures in
    let scratch = c.learn.new.parts.scratch in
    let count = c.packed_count-carried.ensures in
    learnt_still c.args.unit (tables_of c.learn.new.parts) (g.C.Chip.told c.learn.new.chip) scratch.home
    c.packed_count-carried.new.scratch.home (records_kept scratch.sectors) (records_kept c.packed_count-carried.new.scratch.sectors) count.home count.log
    (learnt_behind _ c.args.unit (tables_of c.args.parts.now) (tables_of c.learn.new.parts)
    (g.C.Chip.told c.args.chip.now) (g.C.Chip.told c.learn.new.chip) scratch.home (records_kept scratch.sectors) read.looks.reads
    read.same read.learns read.stands)

pub elsewhere-requires-clause-learnt : goal.elsewhere-requires-clause-learnt
elsewhere-requires-clause-learnt g c =
    let read = c.in_ok-learn.ensures in
    let scratch = c.learn.new.parts.scratch in
    let count = c.packed_count-carried.ensures in
    learnt_still c.args.unit (tables_of c.learn.new.parts) (g.C.Chip.told c.learn.new.chip) scratch.home
    c.packed_count-carried.new.scratch.home (records_kept scratch.sectors) (records_kept c.packed_count-carried.new.scratch.sectors) count.home count.log
    (learnt_behind _ c.args.unit (tables_of c.args.parts.now) (tables_of c.learn.new.parts)
    (g.C.Chip.told c.args.chip.now) (g.C.Chip.told c.learn.new.chip) scratch.home (records_kept scratch.sectors) read.looks.reads
    read.same read.learns read.stands)
