use Rattle.std.proofs.Common.{◌≡◌, ◌≢◌, ◌<◌, ◌≤◌, ◌+◌, ℕ, List, true, false, length, slice_index, Option, Result, Ok, Err, refl, sym, ◌∙◌, ap, subst, arith}
use Rattle.std.proofs.lemmas.List.{length-set}
use Rattle.std.proofs.lemmas.Result.{err_from_is_err_and}
use Rattle.chip_trait.specs.Told.{Told, Counts}
use Rattle.chip_trait.proofs.CountsLemmas.{counts_then}
use Rattle.log_records.specs.View.{Versioned}
use Rattle.ipl_base.specs.declared.fault.ChipFault.{ChipFault}
use Rattle.ipl_meaning.specs.Chart.{chart_of}
use Rattle.ipl_meaning.specs.Mirrors.{NoneIsLost}
use Rattle.ipl_meaning.specs.Rests.{now}
use Rattle.ipl_meaning.specs.Tables.{Places, IsFree, Tables, with_use, with_erased}
use Rattle.ipl_meaning.specs.TableSteps.{IsMoved, taken, with_next}
use Rattle.unit_directory.specs.Free.{free_count}
use Rattle.unit_io.specs.Charts.{Charts, IsCleared}
use Rattle.place_taking.specs.Spending.{tells_worn}
use Rattle.place_taking.specs.Takes.{IsTakenFrom, with_places}
use Rattle.place_taking.proofs.CountedLemmas.{keeps_counts, keeps_counts_then, keeps_given_back}
use Rattle.place_taking.proofs.JoinLemmas.{costs_of_filled, taken_was_free, taken_within, tidy_taken}
use Rattle.overflow.specs.Lists.{spots_in}
use Rattle.unit_log.specs.Kept.{records_kept}
use Rattle.selective_merge.specs.Faults.{IsTheFault}
use Rattle.selective_merge.specs.Known.{KnowsPlaces}
use Rattle.selective_merge.specs.Moved.{Source, IsAside, IsUnsealed}
use Rattle.selective_merge.proofs.FaultLemmas.{all_alike, fault_as, fault_not_taken}
use Rattle.selective_merge.specs.declared.parts.Parts.{Parts}
use Rattle.selective_merge.specs.Homes.{MoveCause}
use Rattle.selective_merge.specs.Merging.{RestsMerged}
use Rattle.selective_merge.specs.Moving.{source_read, tables_of, MayTakeHome, MovesHome, NoneIsLostBut, set_aside}
use Rattle.unit_log.proofs.OftenLemmas.{often_unread}
use Rattle.selective_merge.specs.Often.{base_of}
use Rattle.selective_merge.proofs.OftenLemmas.{unit_often}
use Rattle.selective_merge.specs.Packing.{masks_of_payloads}
use Rattle.selective_merge.specs.Throughout.{ChartsThroughout}
use Rattle.selective_merge.specs.Writing.{IsUnitSpot, TellsWritten}
use Rattle.selective_merge.proofs.FewLemmas.{packs_few}
use Rattle.selective_merge.proofs.SpendLemmas.{for_unit, for_nobody, for_untaken, move_not_worn}
use Rattle.selective_merge.proofs.MovingLemmas.{moved_from}
use Rattle.selective_merge.proofs.HeldLemmas.{given_back, erases_then, as_many, as_many_aside, taken_but, held_aside, held_back, held_moved, home_used, known_aside, more_free, units_aside}
use Rattle.selective_merge.proofs.MergedLemmas.{to_merge, many_packs, tells_packs, merged_before, merged_there, merged_steps, merge_failed, stays_mirrored}
use Rattle.selective_merge.proofs.CompleteLemmas.{used_then}
use Rattle.selective_merge.proofs.TakenLemmas.{WasWritten, aside_mirrors, has_counts, merged_not, moves_not, steps_not_throughout, told_not, unit_joined, unit_told, untaken_tables}
use Rattle.selective_merge.proofs.UnbrokenLemmas.{untaken_failed}
use Rattle.selective_merge.proofs.TidyLemmas.{moves_tidily, gives_back_tidily, untaken_tidily}
use Rattle.selective_merge.proofs.merging.merge_packed.Goals as goal

-- what the chip tells once the place was taken and the unit written there
written_told : (old mid new : Told) (units erases p generation serial : ℕ) (from : Source)
    (payloads : List Versioned) (result : Result (Unit {0}) ChipFault) → Counts old mid
    → Charts (IsCleared p) old mid
    → ChartsThroughout (λ done. TellsWritten mid.places units erases from p generation serial payloads) (IsAside p)
    result mid new
    → ChartsThroughout (λ done. WasWritten old.places units erases p generation serial from payloads) (IsUnsealed p)
    result old new
written_told old mid new units erases p generation serial from payloads result counts first second =
    unit_told old.places units erases p generation serial from payloads old mid new result first
    (subst (λ (q : ℕ). ChartsThroughout (λ done. TellsWritten q units erases from p generation serial payloads)
    (IsAside p) result mid new) counts.places second)

-- the tables with the place taken and numbers drawn, by what the directory is
taken_in : (t : Tables) (worn : List ℕ) (p next : ℕ) (P : Tables → Type 0) (d : Places)
    → d ≡ with_erased (with_use (set_aside t worn).places p true) p → P (with_next (with_places t d) next)
    → P (with_next (taken (set_aside t worn) p) next)
taken_in t worn p next P d is = subst (λ (e : Places). P (with_next (with_places t e) next)) is

-- given back, it is as it was with the others set aside, but for the erase
back_is : (t : Tables) (p : ℕ) (d : Places) (taken : IsTakenFrom t.places p d) (then : Places)
    → then ≡ with_use d p false → then ≡ with_erased (set_aside t taken.worn).places p
back_is t p d taken then is =
    is ∙ (ap (λ (e : Places). with_use e p false) taken.places_is
    ∙ given_back (set_aside t taken.worn).places p taken.next.within taken.next.free)

pub take_place-requires : goal.take_place-requires
take_place-requires g c = record {
  places = c.requires.ready.known.suits.all;
  ready = c.known_laws.ensures.ready _ (tables_of c.args.parts.now) c.requires.ready.known;
}

-- the place that was taken isn't where the unit stands
home_apart : (places : ℕ) (t : Tables) (u place p : ℕ) → KnowsPlaces places t
    → u < length t.places.current
    → place ≡ slice_index t.places.current u → IsFree t.places p → place ≢ p
home_apart places t u place p known low at free same =
    home_used places t u known low (subst (IsFree t.places) (sym same ∙ at) free)

-- and stands at one in use
home_at_use : (places : ℕ) (t : Tables) (u place : ℕ) → KnowsPlaces places t
    → u < length t.places.current → place ≡ slice_index t.places.current u → ¬ IsFree t.places place
home_at_use places t u place known low at free =
    home_used places t u known low (subst (IsFree t.places) at free)

pub write_unit-requires-clause-may : goal.write_unit-requires-clause-may
write_unit-requires-clause-may g c =
    let t = tables_of c.args.parts.now in
    let taken_so = c.in_ok-place.ensures.taken in
    let stands = c.requires.stands in
    let low = c.facts.ensures.within c.args.unit c.requires.ready.unit in
    let within = taken_within _ _ _ taken_so in
    let all = c.requires.ready.known.suits.all in
    let places = c.in_ok-place.ensures.accounts.counts.places in record {
      home = omega (arith, stands.place, low, all, places);
      few = stands.few;
      place = omega (arith, within, all, places);
      another = home_apart _ t c.args.unit c.args.parts.now.scratch.home.place c.in_ok-place.place c.requires.ready.known
          c.requires.ready.unit stands.place (taken_was_free _ _ _ taken_so);
    }

pub move_unit-requires : goal.move_unit-requires
move_unit-requires g c =
    let t = tables_of c.args.parts.now in
    let taken = c.in_ok-place.ensures.taken in
    let between = set_aside t taken.worn in
    let known = known_aside _ t taken.worn c.requires.ready.known taken.in_turn in
    let units = units_aside t taken.worn taken.in_turn in
    let current = ap (λ (d : Places). length d.current) taken.places_is in
    let in_use = ap (λ (d : Places). length d.in_use) taken.places_is in
    let all = length-set between.places.in_use c.in_ok-place.place true in
    subst (λ (w : Parts). MayTakeHome c.args.unit c.in_ok-place.place (tables_of w))
    (sym c.in-Ok.ensures.kept) (record {
      overflow = omega (arith, c.requires.ready.known.suits.overflow, units, current);
      sized = omega (arith, known.suits.sized, known.suits.all, in_use, all);
      unit = omega (arith, c.requires.ready.unit, units, current);
      place = omega (arith, taken.next.within, in_use, all);
      another = λ same. home_used _ between c.args.unit known (omega (arith, c.requires.ready.unit, units))
          (subst (IsFree between.places)
          (same ∙ ap (λ (d : Places). slice_index d.current c.args.unit) taken.places_is) taken.next.free);
    })

pub returns-in-Ok-clause-steps : goal.returns-in-Ok-clause-steps
returns-in-Ok-clause-steps g c = λ m it h steady rests agrees source.
    let t = tables_of c.args.parts.now in
    let after = tables_of c.move_unit.new.parts in
    let old = g.C.Chip.told c.args.chip.now in
    let places = old.places in
    let u = c.args.unit in
    let p = c.in_ok-place.place in
    let taken_so = c.in_ok-place.ensures.taken in
    let worn = taken_so.worn in
    let between = set_aside t worn in
    let drawn = c.draw-generation.result in
    let serial = c.draw-generation.new.self in
    let next = c.write_unit.new.parts.counter in
    let d = c.take_place.new.directory in
    let units = length d.current in
    let erases = slice_index d.erases p in
    let payloads = c.args.parts.now.scratch.packs.closed.items in
    let from = source_read c.args.parts.now in
    let what = to_merge places (now h) it between u p drawn serial from payloads
    payloads c.args.parts.now.active
    (records_kept c.args.parts.now.scratch.sectors) (aside_mirrors places (now h) it t worn agrees.mirrors taken_so.in_turn)
    (omega (arith, c.requires.ready.unit, units_aside t worn taken_so.in_turn)) taken_so.next.free
    (omega (arith, taken_within _ _ _ taken_so, c.requires.ready.known.suits.all)) source
    (omega (arith, c.draw-generation.ensures.drawn))
    (omega (arith, c.draw-generation.ensures.drawn, c.draw-generation.ensures.next))
    refl c.requires.packed refl refl c.args.parts.now.scratch.packs.few in
    let moved_home = subst (λ (w : Parts). MovesHome c.args.unit c.in_ok-place.place c.draw-generation.result w
    c.move_unit.new.parts) c.in-Ok.ensures.kept c.move_unit.ensures in
    let moved : IsMoved (with_next (taken between p) next) after u p (length payloads) =
    taken_in t worn p next (λ (b : Tables). IsMoved b after u p (length payloads))
    c.take_place.new.directory taken_so.places_is (moved_home.moved agrees.mirrors.overflow.apart) in
    merged_steps places m it t worn u p drawn serial (length payloads) h old
    (g.C.Chip.told c.write_unit.new.chip) (record { rests = rests; agrees = agrees }) taken_so.in_turn
    taken_so.next.free after what.low
    (many_packs places (now h) it between u p drawn serial from payloads what)
    (moved_from (taken between p) after u p (length payloads) drawn next
    (omega (
      arith,
      c.draw-generation.ensures.drawn,
      c.draw-generation.ensures.next,
      c.in-Ok.ensures.serials.draws.0,
    )) moved)
    (tells_packs places (now h) it between _ after u p drawn serial from payloads
    (masks_of_payloads 15 payloads) what refl moved_home.told taken_so.places_is refl)
    (omega (arith, c.in-Ok.ensures.serials.drawn, moved_home.counter))
    (unit_joined units erases it t between d u p drawn serial from payloads
    (has_counts between d p units erases taken_so.places_is
    (ap (λ (d : Places). length d.current) taken_so.places_is) refl) m h old (g.C.Chip.told c.take_place.new.chip)
    (g.C.Chip.told c.write_unit.new.chip) (taken_was_free _ _ _ taken_so) steady
    (record { rests = rests; agrees = agrees }) c.in_ok-place.ensures.takes
    c.in_ok-place.ensures.accounts.counts what (Ok tt) c.in-Ok.ensures.writes)

pub returns-in-Ok-clause-tells : goal.returns-in-Ok-clause-tells
returns-in-Ok-clause-tells g c = λ x told.
    let d = c.take_place.new.directory in
    let units = length d.current in
    let erases = slice_index d.erases c.in_ok-place.place in
    let payloads = c.args.parts.now.scratch.packs.closed.items in
    let (y, told_y, written) =
    written_told (g.C.Chip.told c.args.chip.now) (g.C.Chip.told c.take_place.new.chip)
    (g.C.Chip.told c.write_unit.new.chip) units erases c.in_ok-place.place
    c.draw-generation.result c.draw-generation.new.self (source_read c.args.parts.now) payloads (Ok tt)
    c.in_ok-place.ensures.accounts.counts c.in_ok-place.ensures.tells c.in-Ok.ensures.tells x told in (
      y,
      told_y,
      λ it mirrors source.
          let t = tables_of c.args.parts.now in
          let after = tables_of c.move_unit.new.parts in
          let old = g.C.Chip.told c.args.chip.now in
          let places = old.places in
          let u = c.args.unit in
          let p = c.in_ok-place.place in
          let taken_so = c.in_ok-place.ensures.taken in
          let worn = taken_so.worn in
          let between = set_aside t worn in
          let drawn = c.draw-generation.result in
          let serial = c.draw-generation.new.self in
          let next = c.write_unit.new.parts.counter in
          let from = source_read c.args.parts.now in
          let what = to_merge places (chart_of x) it between u p drawn serial from payloads
          payloads c.args.parts.now.active
          (records_kept c.args.parts.now.scratch.sectors) (aside_mirrors places (chart_of x) it t worn mirrors taken_so.in_turn)
          (omega (arith, c.requires.ready.unit, units_aside t worn taken_so.in_turn)) taken_so.next.free
          (omega (arith, taken_within _ _ _ taken_so, c.requires.ready.known.suits.all)) source
          (omega (arith, c.draw-generation.ensures.drawn))
          (omega (arith, c.draw-generation.ensures.drawn, c.draw-generation.ensures.next))
          refl c.requires.packed refl refl c.args.parts.now.scratch.packs.few in
          let moved_home = subst (λ (w : Parts). MovesHome c.args.unit c.in_ok-place.place c.draw-generation.result w
          c.move_unit.new.parts) c.in-Ok.ensures.kept c.move_unit.ensures in
          let moved : IsMoved (with_next (taken between p) next) after u p (length payloads) =
          taken_in t worn p next (λ (b : Tables). IsMoved b after u p (length payloads))
          c.take_place.new.directory taken_so.places_is (moved_home.moved mirrors.overflow.apart) in
          merged_before places it t worn u after (chart_of x) (chart_of y) taken_so.in_turn
          (merged_there places it between u p drawn serial (length payloads) after (chart_of x) (chart_of y)
          (many_packs places (chart_of x) it between u p drawn serial from payloads what)
          (moved_from (taken between p) after u p (length payloads) drawn next
          (omega (
            arith,
            c.draw-generation.ensures.drawn,
            c.draw-generation.ensures.next,
            c.in-Ok.ensures.serials.draws.0,
          )) moved)
          (tells_packs places (chart_of x) it between _ after u p drawn serial from payloads
          (masks_of_payloads 15 payloads) what refl moved_home.told taken_so.places_is refl)
          (omega (arith, c.in-Ok.ensures.serials.drawn, moved_home.counter))
          (written it between u
          (has_counts between d p units erases taken_so.places_is
          (ap (λ (d : Places). length d.current) taken_so.places_is) refl) what)),
    )

pub returns-in-Err-clause-steps : goal.returns-in-Err-clause-steps
returns-in-Err-clause-steps g c = λ m it h steady rests agrees source.
    let t = tables_of c.args.parts.now in
    let old = g.C.Chip.told c.args.chip.now in
    let places = old.places in
    let u = c.args.unit in
    let p = c.in_ok-place.place in
    let taken_so = c.in_ok-place.ensures.taken in
    let worn = taken_so.worn in
    let between = set_aside t worn in
    let next = c.write_unit.new.parts.counter in
    let d = c.take_place.new.directory in
    let units = length d.current in
    let erases = slice_index d.erases p in
    let back : c.give_back.new.self ≡ with_erased between.places p =
    back_is t p c.take_place.new.directory taken_so c.give_back.new.self
    (c.give_back.ensures ∙ ap (λ (w : Parts). with_use w.directory p false) c.in-Err.ensures.kept) in
    let is = ap (λ (w : Parts). tables_of (record w { directory = c.give_back.new.self })) c.in-Err.ensures.kept
    ∙ ap (λ (d : Places). with_next (with_places t d) next) back in
    let drawn = c.draw-generation.result in
    let serial = c.draw-generation.new.self in
    let payloads = c.args.parts.now.scratch.packs.closed.items in
    let from = source_read c.args.parts.now in
    let what = to_merge places (now h) it between u p drawn serial from payloads
    payloads c.args.parts.now.active
    (records_kept c.args.parts.now.scratch.sectors) (aside_mirrors places (now h) it t worn agrees.mirrors taken_so.in_turn)
    (omega (arith, c.requires.ready.unit, units_aside t worn taken_so.in_turn)) taken_so.next.free
    (omega (arith, taken_within _ _ _ taken_so, c.requires.ready.known.suits.all)) source
    (omega (arith, c.draw-generation.ensures.drawn))
    (omega (arith, c.draw-generation.ensures.drawn, c.draw-generation.ensures.next))
    refl c.requires.packed refl refl c.args.parts.now.scratch.packs.few in
    merge_failed places m it t worn u p drawn serial (length payloads) h old
    (g.C.Chip.told c.write_unit.new.chip) (record { rests = rests; agrees = agrees }) taken_so.in_turn
    taken_so.next.free _ (erases_then between p) next c.in-Err.fault is
    (as_many between p)
    (omega (
      arith,
      c.draw-generation.ensures.drawn,
      c.draw-generation.ensures.next,
      c.in-Err.ensures.serials.draws.0,
    ))
    (unit_joined units erases it t between d u p drawn serial from payloads
    (has_counts between d p units erases taken_so.places_is
    (ap (λ (d : Places). length d.current) taken_so.places_is) refl) m h old (g.C.Chip.told c.take_place.new.chip)
    (g.C.Chip.told c.write_unit.new.chip) (taken_was_free _ _ _ taken_so) steady
    (record { rests = rests; agrees = agrees }) c.in_ok-place.ensures.takes
    c.in_ok-place.ensures.accounts.counts what (Err c.in-Err.fault) c.in-Err.ensures.writes)

pub returns-in-Err-clause-tells : goal.returns-in-Err-clause-tells
returns-in-Err-clause-tells g c = λ soft x told.
    let d = c.take_place.new.directory in
    let units = length d.current in
    let erases = slice_index d.erases c.in_ok-place.place in
    let payloads = c.args.parts.now.scratch.packs.closed.items in
    let (y, told_y, left) =
    written_told (g.C.Chip.told c.args.chip.now) (g.C.Chip.told c.take_place.new.chip)
    (g.C.Chip.told c.write_unit.new.chip) units erases c.in_ok-place.place
    c.draw-generation.result c.draw-generation.new.self (source_read c.args.parts.now) payloads (Err c.in-Err.fault)
    c.in_ok-place.ensures.accounts.counts c.in_ok-place.ensures.tells c.in-Err.ensures.tells soft x
    told in
    let t = tables_of c.args.parts.now in
    let old = g.C.Chip.told c.args.chip.now in
    let places = old.places in
    let u = c.args.unit in
    let p = c.in_ok-place.place in
    let taken_so = c.in_ok-place.ensures.taken in
    let worn = taken_so.worn in
    let between = set_aside t worn in
    let next = c.write_unit.new.parts.counter in
    let back : c.give_back.new.self ≡ with_erased between.places p =
    back_is t p c.take_place.new.directory taken_so c.give_back.new.self
    (c.give_back.ensures ∙ ap (λ (w : Parts). with_use w.directory p false) c.in-Err.ensures.kept) in
    let is = ap (λ (w : Parts). tables_of (record w { directory = c.give_back.new.self })) c.in-Err.ensures.kept
    ∙ ap (λ (d : Places). with_next (with_places t d) next) back in (
      y,
      told_y,
      λ it mirrors. stays_mirrored _ (chart_of x) (chart_of y) it between _ (erases_then between p) p next
          taken_so.next.free is (as_many between p)
          (omega (
            arith,
            c.draw-generation.ensures.drawn,
            c.draw-generation.ensures.next,
            c.in-Err.ensures.serials.draws.0,
          )) left
          (aside_mirrors _ (chart_of x) it t worn mirrors taken_so.in_turn),
    )

pub returns-in-Ok-clause-few : goal.returns-in-Ok-clause-few
returns-in-Ok-clause-few g c =
    packs_few c.args.parts.now.active (records_kept c.args.parts.now.scratch.sectors)
    c.args.parts.now.scratch.packs.closed.items _ refl c.requires.packed
    c.args.parts.now.scratch.packs.few

pub returns-in-Err-clause-few : goal.returns-in-Err-clause-few
returns-in-Err-clause-few g c =
    packs_few c.args.parts.now.active (records_kept c.args.parts.now.scratch.sectors)
    c.args.parts.now.scratch.packs.closed.items _ refl c.requires.packed
    c.args.parts.now.scratch.packs.few

pub returns-in-Ok-clause-fault : goal.returns-in-Ok-clause-fault
returns-in-Ok-clause-fault g c = λ x told.
    let from = source_read c.args.parts.now in
    let (y, told_y, same) = c.in_ok-place.ensures.spares x told in
    let used = home_at_use _ (tables_of c.args.parts.now) c.args.unit c.args.parts.now.scratch.home.place
    c.requires.ready.known c.requires.ready.unit c.requires.stands.place in
    sym (all_alike x y from (λ s. same c.args.parts.now.scratch.home.place s used))
    ∙ c.in-Ok.ensures.fault y told_y

pub returns-in-Err-clause-fault : goal.returns-in-Err-clause-fault
returns-in-Err-clause-fault g c = λ x told.
    let from = source_read c.args.parts.now in
    let (y, told_y, same) = c.in_ok-place.ensures.spares x told in
    let used = home_at_use _ (tables_of c.args.parts.now) c.args.unit c.args.parts.now.scratch.home.place
    c.requires.ready.known c.requires.ready.unit c.requires.stands.place in
    subst (λ (o : Option ChipFault). IsTheFault o c.in-Err.fault)
    (all_alike x y from (λ s. same c.args.parts.now.scratch.home.place s used))
    (c.in-Err.ensures.fault y told_y)

pub returns-in-Ok-clause-moves : goal.returns-in-Ok-clause-moves
returns-in-Ok-clause-moves g c =
    let t = tables_of c.args.parts.now in
    let after = tables_of c.move_unit.new.parts in
    let old = g.C.Chip.told c.args.chip.now in
    let mid = g.C.Chip.told c.take_place.new.chip in
    let new = g.C.Chip.told c.write_unit.new.chip in
    let places = old.places in
    let u = c.args.unit in
    let p = c.in_ok-place.place in
    let took = c.in_ok-place.ensures in
    let wrote = c.in-Ok.ensures in
    let taken_so = took.taken in
    let worn = taken_so.worn in
    let between = set_aside t worn in
    let known = known_aside places t worn c.requires.ready.known taken_so.in_turn in
    let within : u < length between.places.current =
    omega (arith, c.requires.ready.unit, units_aside t worn taken_so.in_turn) in
    let next = c.write_unit.new.parts.counter in
    let used = length c.args.parts.now.scratch.packs.closed.items in
    let moved_home = subst (λ (w : Parts). MovesHome c.args.unit c.in_ok-place.place c.draw-generation.result w
    c.move_unit.new.parts) c.in-Ok.ensures.kept c.move_unit.ensures in
    let moved : IsMoved (with_next (taken between p) next) after u p used =
    taken_in t worn p next (λ (b : Tables). IsMoved b after u p used) c.take_place.new.directory
    taken_so.places_is (moved_home.moved c.requires.ready.known.overflows_apart) in
    let more = more_free places between after.places u p known within taken_so.next.free
    c.directory_laws.ensures.takes
    (subst (λ (d : Places). ¬ IsFree d (slice_index d.current u)
    → free_count d.in_use + 1 ≤ free_count c.move_unit.new.parts.directory.in_use)
    taken_so.places_is moved_home.free) in record {
      leaves = record {
        holds = held_aside places t after worn taken_so.in_turn
            (held_moved c.known_laws.ensures.moves places between after u p used next known within
            (omega (arith, taken_so.next.within, known.suits.all)) taken_so.next.free moved
            (subst (λ (n : ℕ). NoneIsLostBut p n (with_next (with_places t c.take_place.new.directory) next)
            → NoneIsLost n after)
            (ap (λ (d : Places). length d.in_use) taken_so.places_is
            ∙ length-set between.places.in_use p true ∙ known.suits.all) moved_home.lost
            (subst (λ (d : Places). NoneIsLostBut p places (with_next (with_places t d) next))
            (sym taken_so.places_is) (taken_but between p next places known))));
        draws = (
          omega (arith, c.draw-generation.ensures.next, wrote.serials.draws.0, moved_home.counter),
          omega (
            arith,
            c.draw-generation.ensures.next,
            wrote.serials.draws.1,
            moved_home.counter,
            c.args.parts.now.scratch.packs.few,
          ),
        );
        spares = used_then t.places p old mid new (taken_was_free _ _ _ taken_so) took.spares wrote.spends.spares;
        tidy = moves_tidily places t c.requires.ready.known worn taken_so.in_turn p after u used next
            old new c.requires.ready.unit c.facts.ensures.logs moved
            (tidy_taken t.places p (241 + used) (IsUnitSpot used) true true old mid new
            (taken_was_free _ _ _ taken_so) (λ s above spot. omega (arith, above, spot)) took.tidy wrote.spends.tidy);
        accounts = record {
          counts = counts_then old mid new took.accounts.counts wrote.spends.accounts.counts;
          cause = tt;
        };
      };
      room = omega (arith, moved_home.room, c.args.parts.now.scratch.packs.few);
      free = omega (
        arith,
        more,
        as_many_aside places t worn c.requires.ready.known taken_so.in_turn,
        ap (λ (l : List ℕ). length l) moved_home.retired,
        ap (λ (d : Places). length d.retired) taken_so.places_is,
      );
      drawn = omega (
        arith,
        wrote.serials.drawn,
        c.draw-generation.ensures.next,
        moved_home.counter,
        moved_home.room,
      );
      costs = for_unit t.places after.places p _ false old new moved_home.stands
          (costs_of_filled t.places c.take_place.new.directory after.places p 2 true false old mid new
          moved_home.retired
          moved_home.counts refl took.costs wrote.spends.costs);
      reads = unit_often t u c.args.parts.now.scratch.home.place old mid new c.requires.stands.place took.unread
          wrote.spends.reads;
    }

pub returns-in-Err-clause-moves : goal.returns-in-Err-clause-moves
returns-in-Err-clause-moves g c =
    let t = tables_of c.args.parts.now in
    let old = g.C.Chip.told c.args.chip.now in
    let mid = g.C.Chip.told c.take_place.new.chip in
    let new = g.C.Chip.told c.write_unit.new.chip in
    let places = old.places in
    let u = c.args.unit in
    let p = c.in_ok-place.place in
    let took = c.in_ok-place.ensures in
    let wrote = c.in-Err.ensures in
    let taken_so = took.taken in
    let worn = taken_so.worn in
    let between = set_aside t worn in
    let next = c.write_unit.new.parts.counter in
    let then = c.give_back.new.self in
    let back : then ≡ with_erased between.places p =
    back_is t p c.take_place.new.directory taken_so then
    (c.give_back.ensures ∙ ap (λ (w : Parts). with_use w.directory p false) c.in-Err.ensures.kept) in
    let is = ap (λ (w : Parts). tables_of (record w { directory = c.give_back.new.self })) c.in-Err.ensures.kept
    ∙ ap (λ (d : Places). with_next (with_places t d) next) back in
    let used = length c.args.parts.now.scratch.packs.closed.items in
    let worn_out = tells_worn c.in-Err.fault in record {
      leaves = record {
        holds = held_aside places t _ worn taken_so.in_turn (held_back places between _ (erases_then between p) next is
            (known_aside places t worn c.requires.ready.known taken_so.in_turn));
        draws = (
          omega (arith, c.draw-generation.ensures.next, wrote.serials.draws.0),
          omega (arith, c.draw-generation.ensures.next, wrote.serials.draws.1, c.args.parts.now.scratch.packs.few),
        );
        spares = λ held. used_then t.places p old mid new (taken_was_free _ _ _ taken_so) took.spares
            (wrote.spends.spares held);
        tidy = gives_back_tidily places t c.requires.ready.known worn taken_so.in_turn p _
            (erases_then between p) (241 + used) next old new is
            (tidy_taken t.places p (241 + used) (IsUnitSpot used) false false old mid new
            (taken_was_free _ _ _ taken_so) (λ s above spot. omega (arith, above, spot)) took.tidy wrote.spends.tidy);
        accounts = record {
          counts = counts_then old mid new took.accounts.counts wrote.spends.accounts.counts;
          cause = merged_not then (slice_index t.places.current u) (spots_in t.overflow u) c.in-Err.fault old mid
              new took.accounts.counts
              (subst (λ (q : ℕ). MoveCause q c.in-Err.fault mid new) c.requires.stands.place
              wrote.spends.accounts.cause);
        };
      };
      room = tt;
      free = omega (
        arith,
        ap (λ (d : Places). free_count d.in_use) back,
        ap (λ (d : Places). length d.retired) back,
        as_many_aside places t worn c.requires.ready.known taken_so.in_turn,
      );
      drawn = tt;
      costs = for_nobody t.places then p _ worn_out old new
          (costs_of_filled t.places c.take_place.new.directory then p 2 false worn_out old mid new
          (ap (λ (e : Places). e.retired) c.give_back.ensures
          ∙ ap (λ (w : Parts). w.directory.retired) c.in-Err.ensures.kept)
          (keeps_counts_then c.take_place.new.directory (with_use c.take_place.new.directory p false) then
          (keeps_given_back c.take_place.new.directory p)
          (keeps_counts _ then (c.give_back.ensures
          ∙ ap (λ (w : Parts). with_use w.directory p false) c.in-Err.ensures.kept)))
          (move_not_worn c.args.parts.now.scratch.home.place c.in-Err.fault mid new wrote.spends.accounts.cause)
          took.costs wrote.spends.costs);
      reads = unit_often t u c.args.parts.now.scratch.home.place old mid new c.requires.stands.place took.unread
          wrote.spends.reads;
    }

-- ---- no place was taken

pub returns-in_err-place-clause-steps : goal.returns-in_err-place-clause-steps
returns-in_err-place-clause-steps g c = λ m it h steady rests agrees source.
    let t = tables_of c.args.parts.now in
    let next = c.draw-generation.new.self in
    let old = g.C.Chip.told c.args.chip.now in
    let e = err_from_is_err_and c.from_residual.result c.from_residual.ensures.1 in
    let d = c.take_place.new.directory in
    let after = untaken_tables t d next in
    rw (e.1 ∙ ap Err e.2) (steps_not_throughout
    (λ (done : Unit {0}) k. RestsMerged old.places m (now h) it t c.args.unit after k) d m
    it t after next h c.in_err-place.field-0.0 old (g.C.Chip.told c.take_place.new.chip)
    c.in_err-place.ensures.aside refl
    (omega (arith, c.draw-generation.ensures.drawn, c.draw-generation.ensures.next)) steady rests
    agrees c.in_err-place.ensures.takes c.in_err-place.ensures.accounts.cause)

pub returns-in_err-place-clause-tells : goal.returns-in_err-place-clause-tells
returns-in_err-place-clause-tells g c =
    let t = tables_of c.args.parts.now in
    let next = c.draw-generation.new.self in
    let old = g.C.Chip.told c.args.chip.now in
    let e = err_from_is_err_and c.from_residual.result c.from_residual.ensures.1 in
    rw e.1 (λ soft. told_not old.places t _ c.take_place.new.directory next old
    (g.C.Chip.told c.take_place.new.chip) c.in_err-place.ensures.aside refl
    (omega (arith, c.draw-generation.ensures.drawn, c.draw-generation.ensures.next))
    (c.in_err-place.ensures.tells (λ is. soft (e.2 ∙ is))))

pub returns-in_err-place-clause-fault : goal.returns-in_err-place-clause-fault
returns-in_err-place-clause-fault g c = λ x told.
    let e = err_from_is_err_and c.from_residual.result c.from_residual.ensures.1 in
    rw e.1 (fault_as _ e.0 c.in_err-place.field-0.0 e.2 (fault_not_taken _ c.take_place.new.directory
    c.in_err-place.field-0.0 (g.C.Chip.told c.args.chip.now) (g.C.Chip.told c.take_place.new.chip)
    c.in_err-place.ensures.accounts.cause))

pub returns-in_err-place-clause-few : goal.returns-in_err-place-clause-few
returns-in_err-place-clause-few g c =
    packs_few c.args.parts.now.active (records_kept c.args.parts.now.scratch.sectors)
    c.args.parts.now.scratch.packs.closed.items _ refl c.requires.packed
    c.args.parts.now.scratch.packs.few

pub returns-in_err-place-clause-moves : goal.returns-in_err-place-clause-moves
returns-in_err-place-clause-moves g c =
    let t = tables_of c.args.parts.now in
    let old = g.C.Chip.told c.args.chip.now in
    let new = g.C.Chip.told c.take_place.new.chip in
    let u = c.args.unit in
    let fault = c.in_err-place.field-0.0 in
    let next = c.draw-generation.new.self in
    let d = c.take_place.new.directory in
    let took = c.in_err-place.ensures in
    let aside = took.aside in
    let e = err_from_is_err_and c.from_residual.result c.from_residual.ensures.1 in
    rw (e.1 ∙ ap Err e.2) (record {
      leaves = record {
        holds = held_aside _ t _ aside.worn aside.in_turn (held_back _ (set_aside t aside.worn) _
            (set_aside t aside.worn).places.erases next
            (ap (λ (d : Places). with_next (with_places t d) next) aside.places_is)
            (known_aside _ t aside.worn c.requires.ready.known aside.in_turn));
        draws = (
          omega (arith, c.draw-generation.ensures.next),
          omega (arith, c.draw-generation.ensures.next),
        );
        spares = λ held. absurd (held (untaken_failed d fault old new took.accounts.cause));
        tidy = untaken_tidily old.places t c.requires.ready.known d aside _ next fault old new refl
            took.tidy;
        accounts = record {
          counts = took.accounts.counts;
          cause = moves_not d (slice_index t.places.current u) (spots_in t.overflow u) fault fault old new refl
              took.accounts.cause;
        };
      };
      room = tt;
      free = omega (
        arith,
        ap (λ (d : Places). free_count d.in_use) aside.places_is,
        ap (λ (d : Places). length d.retired) aside.places_is,
        as_many_aside _ t aside.worn c.requires.ready.known aside.in_turn,
      );
      drawn = tt;
      costs = for_untaken t.places d _ fault fault old new refl took.costs;
      reads = often_unread (base_of t u) old new took.unread;
    })
