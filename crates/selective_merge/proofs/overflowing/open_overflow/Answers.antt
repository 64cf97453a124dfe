use Rattle.std.proofs.Common.{true, ◌≡◌, ◌+◌, ℕ, false, length, Err, inl, refl, sym, ◌∙◌, ap, subst, arith}
use Rattle.std.proofs.lemmas.Result.{err_from_is_err_and}
use Rattle.chip_trait.proofs.CountsLemmas.{counts_then}
use Rattle.ipl_base.specs.Calls.{IsFailedCall}
use Rattle.ipl_base.specs.declared.spot.Spot.{Spot}
use Rattle.ipl_meaning.specs.Chart.{chart_of}
use Rattle.ipl_meaning.specs.Rests.{now}
use Rattle.ipl_meaning.specs.Tables.{Places, with_use, with_erased}
use Rattle.ipl_meaning.specs.TableSteps.{taken, with_next, with_overflow}
use Rattle.unit_io.specs.Spots.{IsSpot}
use Rattle.place_taking.specs.Spending.{tells_worn}
use Rattle.place_taking.specs.Takes.{IsTakenFrom, with_places}
use Rattle.place_taking.proofs.CountedLemmas.{keeps_counts, keeps_counts_then, keeps_given_back}
use Rattle.place_taking.proofs.HomeLemmas.{homes_same, homes_then}
use Rattle.place_taking.proofs.JoinLemmas.{costs_of_filled, fills_programs, taken_was_free, taken_within, tidy_taken}
use Rattle.unit_directory.specs.Free.{aside}
use Rattle.unit_io.proofs.UnreadLemmas.{unread_then}
use Rattle.selective_merge.specs.Known.{KnowsPlaces}
use Rattle.selective_merge.specs.Moving.{tables_of, set_aside}
use Rattle.selective_merge.specs.Placing.{RestsOpened}
use Rattle.selective_merge.proofs.CompleteLemmas.{used_then}
use Rattle.selective_merge.proofs.HeldLemmas.{given_back, erases_then, held_aside, held_back, homes_aside, known_aside, units_aside}
use Rattle.selective_merge.proofs.SpendLemmas.{frees_for, frees_untaken}
use Rattle.selective_merge.proofs.OverflowLemmas.{opened_mirrors, opened_says, opened_steps, open_failed, taken_told, tables_same}
use Rattle.selective_merge.proofs.TakenLemmas.{aside_mirrors, has_counts, steps_not, told_not, untaken_tables}
use Rattle.selective_merge.proofs.UnbrokenLemmas.{untaken_failed}
use Rattle.selective_merge.proofs.TidyLemmas.{opens_tidily, gives_back_tidily, untaken_tidily}
use Rattle.selective_merge.proofs.overflowing.open_overflow.Goals as goal

pub take_place-requires : goal.take_place-requires
take_place-requires g c = record {
  places = c.requires.known.suits.all;
  ready = c.known_laws.ensures.ready _ (tables_of c.args.parts.now) c.requires.known;
}

pub write_overflow-requires : goal.write_overflow-requires
write_overflow-requires g c =
    let within = taken_within _ _ _ c.in_ok-place.ensures.taken in
    omega (arith, within, c.requires.known.suits.all, c.in_ok-place.ensures.accounts.counts.places)

pub add_place-requires-clause-place : goal.add_place-requires-clause-place
add_place-requires-clause-place g c =
    let within = taken_within _ _ _ c.in_ok-place.ensures.taken in
    omega (arith, within, c.requires.known.suits.all, c.requires.known.suits.sized)

pub returns-in-Ok-clause-opened : goal.returns-in-Ok-clause-opened
returns-in-Ok-clause-opened g c =
    let taken_so = c.in_ok-place.ensures.taken in (
      refl,
      record {
        worn = taken_so.worn;
        in_turn = taken_so.in_turn;
        next_free = taken_so.next;
        tables_are = tables_same (tables_of c.args.parts.now) _ _ _ _ _ _ taken_so.places_is
            c.add_place.ensures c.draw-generation.ensures.next;
      },
    )

pub returns-in-Ok-clause-tells : goal.returns-in-Ok-clause-tells
returns-in-Ok-clause-tells g c = λ x told.
    let t = tables_of c.args.parts.now in
    let p = c.in_ok-place.place in
    let taken_so = c.in_ok-place.ensures.taken in
    let between = set_aside t taken_so.worn in
    let drawn = c.draw-generation.result in
    let (y, told_y, opened) = taken_told p _ _ drawn (g.C.Chip.told c.args.chip.now)
    (g.C.Chip.told c.take_place.new.chip) (g.C.Chip.told c.write_overflow.new.chip)
    c.in_ok-place.ensures.tells c.in-Ok.ensures.tells x told in
    let after : _ ≡ with_overflow (taken between p) p (drawn + 1) =
    tables_same t _ _ _ _ _ _ taken_so.places_is c.add_place.ensures
    (c.draw-generation.ensures.next
    ∙ ap (λ (n : ℕ). n + 1) (sym c.draw-generation.ensures.drawn)) in (
      y,
      told_y,
      λ it mirrors.
          let there = opened_mirrors _ p _ _ drawn (chart_of x) (chart_of y) it between
          (aside_mirrors _ (chart_of x) it t taken_so.worn mirrors taken_so.in_turn)
          taken_so.next.free
          (omega (arith, taken_within _ _ _ taken_so, c.requires.known.suits.all))
          (omega (arith, c.draw-generation.ensures.drawn)) c.requires.two opened in (
            rw after there.0,
            there.1,
            opened_says p _ _ drawn (chart_of x) (chart_of y) between _ (drawn + 1)
                (has_counts between c.take_place.new.directory p c.units-units.result c.erases-erases.result
                taken_so.places_is
                (c.units-units.ensures ∙ sym (units_aside t taken_so.worn taken_so.in_turn))
                c.erases-erases.ensures) after opened,
          ),
    )

pub returns-in-Ok-clause-steps : goal.returns-in-Ok-clause-steps
returns-in-Ok-clause-steps g c = λ m it h steady rests agrees.
    let t = tables_of c.args.parts.now in
    let p = c.in_ok-place.place in
    let taken_so = c.in_ok-place.ensures.taken in
    let between = set_aside t taken_so.worn in
    let drawn = c.draw-generation.result in
    opened_steps p _ _ drawn m it t _ taken_so.worn c.take_place.new.directory h
    (g.C.Chip.told c.args.chip.now)
    (g.C.Chip.told c.take_place.new.chip) (g.C.Chip.told c.write_overflow.new.chip)
    taken_so.in_turn taken_so.next.free steady (record { rests = rests; agrees = agrees })
    c.in_ok-place.ensures.takes c.in_ok-place.ensures.accounts.counts c.in-Ok.ensures.opens Spot
    (record { place = p; sector = 1 })
    (omega (arith, taken_within _ _ _ taken_so, c.requires.known.suits.all))
    (omega (arith, c.draw-generation.ensures.drawn)) c.requires.two
    (tables_same t _ _ _ _ _ _ taken_so.places_is c.add_place.ensures
    (c.draw-generation.ensures.next
    ∙ ap (λ (n : ℕ). n + 1) (sym c.draw-generation.ensures.drawn)))
    (has_counts between c.take_place.new.directory p c.units-units.result c.erases-erases.result
    taken_so.places_is
    (c.units-units.ensures ∙ sym (units_aside t taken_so.worn taken_so.in_turn))
    c.erases-erases.ensures)

pub returns-in-Err-clause-steps : goal.returns-in-Err-clause-steps
returns-in-Err-clause-steps g c = λ m it h steady rests agrees.
    let t = tables_of c.args.parts.now in
    let p = c.in_ok-place.place in
    open_failed p _ _ c.draw-generation.result m it t _ c.take_place.new.directory h
    (g.C.Chip.told c.args.chip.now)
    (g.C.Chip.told c.take_place.new.chip) (g.C.Chip.told c.write_overflow.new.chip)
    (taken_was_free _ _ _ c.in_ok-place.ensures.taken) steady (record { rests = rests; agrees = agrees })
    c.in_ok-place.ensures.takes c.in_ok-place.ensures.accounts.counts Spot c.in-Err.fault
    c.in-Err.fault c.in-Err.ensures.accounts.cause c.in-Err.ensures.opens

pub returns-in-Err-clause-tells : goal.returns-in-Err-clause-tells
returns-in-Err-clause-tells g c = λ soft. absurd (soft c.in-Err.ensures.accounts.cause.0)

-- given back, it is as it was with the others set aside, but for the erase
back_is : (d then after : Places) (p : ℕ) → (taken : IsTakenFrom d p then) → after ≡ with_use then p false
    → after ≡ with_erased (aside d taken.worn) p
back_is d then after p taken is =
    is ∙ (ap (λ (e : Places). with_use e p false) taken.places_is
    ∙ given_back (aside d taken.worn) p taken.next.within taken.next.free)

pub returns-in-Ok-clause-costs : goal.returns-in-Ok-clause-costs
returns-in-Ok-clause-costs g c =
    let old = g.C.Chip.told c.args.chip.now in
    let mid = g.C.Chip.told c.take_place.new.chip in
    let new = g.C.Chip.told c.write_overflow.new.chip in
    let d = (tables_of c.args.parts.now).places in
    let then = c.take_place.new.directory in
    let p = c.in_ok-place.place in
    frees_for d then p true false old new
    (costs_of_filled d then then p 2 true false old mid new refl (keeps_counts then then refl) refl
    c.in_ok-place.ensures.costs (fills_programs p 1 2 3 mid new c.in-Ok.ensures.costs))

pub returns-in-Err-clause-costs : goal.returns-in-Err-clause-costs
returns-in-Err-clause-costs g c =
    let old = g.C.Chip.told c.args.chip.now in
    let mid = g.C.Chip.told c.take_place.new.chip in
    let new = g.C.Chip.told c.write_overflow.new.chip in
    let d = (tables_of c.args.parts.now).places in
    let then = c.give_back.new.self in
    let p = c.in_ok-place.place in
    let worn_out = tells_worn c.in-Err.fault in
    frees_for d then p false worn_out old new
    (costs_of_filled d c.take_place.new.directory then p 2 false worn_out old mid new
    (ap (λ (e : Places). e.retired) c.give_back.ensures)
    (keeps_counts_then c.take_place.new.directory (with_use c.take_place.new.directory p false) then
    (keeps_given_back c.take_place.new.directory p) (keeps_counts _ then c.give_back.ensures))
    (ap tells_worn c.in-Err.ensures.accounts.cause.0)
    c.in_ok-place.ensures.costs (fills_programs p 1 2 3 mid new c.in-Err.ensures.costs))

pub returns-in-Ok-clause-leaves : goal.returns-in-Ok-clause-leaves
returns-in-Ok-clause-leaves g c =
    let old = g.C.Chip.told c.args.chip.now in
    let mid = g.C.Chip.told c.take_place.new.chip in
    let new = g.C.Chip.told c.write_overflow.new.chip in
    let t = tables_of c.args.parts.now in
    let places = old.places in
    let p = c.in_ok-place.place in
    let took = c.in_ok-place.ensures in
    let wrote = c.in-Ok.ensures in
    let taken_so = took.taken in
    let worn = taken_so.worn in
    let next = c.draw-generation.new.self in
    let after = tables_same t _ _ _ _ _ _ taken_so.places_is c.add_place.ensures refl in record {
      holds = record {
        units = ap (λ (d : Places). length d.current) taken_so.places_is ∙ units_aside t worn taken_so.in_turn;
        homes = homes_then t.places (aside t.places worn) c.take_place.new.directory
            (homes_aside t worn taken_so.in_turn)
            (homes_same (aside t.places worn) c.take_place.new.directory
            (ap (λ (d : Places). d.current) taken_so.places_is)
            (ap (λ (d : Places). d.written) taken_so.places_is));
        active = refl;
        status = refl;
        known = subst (KnowsPlaces places) (sym after)
            (c.known_laws.ensures.overflows places (set_aside t worn) p next
            (known_aside places t worn c.requires.known taken_so.in_turn)
            (omega (arith, taken_within _ _ _ taken_so, c.requires.known.suits.all))
            taken_so.next.free c.requires.two);
      };
      draws = (
        omega (arith, c.draw-generation.ensures.next),
        omega (arith, c.draw-generation.ensures.next),
      );
      spares = used_then t.places p old mid new (taken_was_free _ _ _ taken_so) took.spares wrote.spares;
      tidy = opens_tidily places t c.requires.known worn taken_so.in_turn p _ next
          old new after
          (tidy_taken t.places p 1 (IsSpot 0) true true old mid new (taken_was_free _ _ _ taken_so)
          (λ s above spot. omega (arith, above, spot)) took.tidy wrote.tidy);
      accounts = record {
        counts = counts_then old mid new took.accounts.counts wrote.accounts.counts;
        cause = tt;
      };
    }

pub returns-in-Err-clause-leaves : goal.returns-in-Err-clause-leaves
returns-in-Err-clause-leaves g c =
    let old = g.C.Chip.told c.args.chip.now in
    let mid = g.C.Chip.told c.take_place.new.chip in
    let new = g.C.Chip.told c.write_overflow.new.chip in
    let t = tables_of c.args.parts.now in
    let p = c.in_ok-place.place in
    let took = c.in_ok-place.ensures in
    let wrote = c.in-Err.ensures in
    let taken_so = took.taken in
    let worn = taken_so.worn in
    let between = set_aside t worn in
    let next = c.draw-generation.new.self in
    let is = ap (λ (d : Places). with_next (with_places t d) next)
    (back_is _ _ c.give_back.new.self p taken_so c.give_back.ensures) in record {
      holds = held_aside _ t _ worn taken_so.in_turn (held_back _ between _ (erases_then between p) next is
          (known_aside _ t worn c.requires.known taken_so.in_turn));
      draws = (
        omega (arith, c.draw-generation.ensures.next),
        omega (arith, c.draw-generation.ensures.next),
      );
      spares = λ held. absurd (held (subst IsFailedCall (sym wrote.accounts.cause.0) tt));
      tidy = gives_back_tidily old.places t c.requires.known worn taken_so.in_turn p _
          (erases_then between p) 1 next old new is
          (tidy_taken t.places p 1 (IsSpot 0) false false old mid new (taken_was_free _ _ _ taken_so)
          (λ s above spot. omega (arith, above, spot)) took.tidy wrote.tidy);
      accounts = record {
        counts = counts_then old mid new took.accounts.counts wrote.accounts.counts;
        cause = inl (
          wrote.accounts.cause.0,
          omega (arith, wrote.accounts.cause.1, took.accounts.counts.writes),
        );
      };
    }

-- ---- no place was taken

pub returns-in_err-place-clause-steps : goal.returns-in_err-place-clause-steps
returns-in_err-place-clause-steps g c = λ m it h steady rests agrees.
    let t = tables_of c.args.parts.now in
    let next = c.draw-generation.new.self in
    let old = g.C.Chip.told c.args.chip.now in
    let e = err_from_is_err_and c.from_residual.result c.from_residual.ensures.1 in
    let d = c.take_place.new.directory in
    let after = untaken_tables t d next in
    rw e.1 (steps_not (λ (spot : Spot) k. RestsOpened old.places m (now h) it after spot.place k) d m it t
    after next h c.in_err-place.field-0.0 e.0 old (g.C.Chip.told c.take_place.new.chip)
    c.in_err-place.ensures.aside refl
    (omega (arith, c.draw-generation.ensures.drawn, c.draw-generation.ensures.next)) steady rests
    agrees c.in_err-place.ensures.takes)

pub returns-in_err-place-clause-tells : goal.returns-in_err-place-clause-tells
returns-in_err-place-clause-tells g c =
    let t = tables_of c.args.parts.now in
    let next = c.draw-generation.new.self in
    let old = g.C.Chip.told c.args.chip.now in
    let e = err_from_is_err_and c.from_residual.result c.from_residual.ensures.1 in
    rw e.1 (λ soft. told_not old.places t _ c.take_place.new.directory next old
    (g.C.Chip.told c.take_place.new.chip) c.in_err-place.ensures.aside refl
    (omega (arith, c.draw-generation.ensures.drawn, c.draw-generation.ensures.next))
    (c.in_err-place.ensures.tells (λ is. soft (e.2 ∙ is))))

pub returns-in_err-place-clause-costs : goal.returns-in_err-place-clause-costs
returns-in_err-place-clause-costs g c =
    let e = err_from_is_err_and c.from_residual.result c.from_residual.ensures.1 in
    rw (e.1 ∙ ap Err e.2) (frees_untaken (tables_of c.args.parts.now).places
    c.take_place.new.directory c.in_err-place.field-0.0 (g.C.Chip.told c.args.chip.now)
    (g.C.Chip.told c.take_place.new.chip) c.in_err-place.ensures.costs)

pub returns-in_err-place-clause-leaves : goal.returns-in_err-place-clause-leaves
returns-in_err-place-clause-leaves g c =
    let t = tables_of c.args.parts.now in
    let next = c.draw-generation.new.self in
    let took = c.in_err-place.ensures in
    let aside_so = took.aside in
    let fault = c.in_err-place.field-0.0 in
    let e = err_from_is_err_and c.from_residual.result c.from_residual.ensures.1 in
    rw (e.1 ∙ ap Err e.2) (record {
      holds = held_aside _ t _ aside_so.worn aside_so.in_turn (held_back _ (set_aside t aside_so.worn) _
          (set_aside t aside_so.worn).places.erases next
          (ap (λ (d : Places). with_next (with_places t d) next) aside_so.places_is)
          (known_aside _ t aside_so.worn c.requires.known aside_so.in_turn));
      draws = (
        omega (arith, c.draw-generation.ensures.next),
        omega (arith, c.draw-generation.ensures.next),
      );
      spares = λ held. absurd (held (untaken_failed c.take_place.new.directory fault
          (g.C.Chip.told c.args.chip.now) (g.C.Chip.told c.take_place.new.chip) took.accounts.cause));
      tidy = untaken_tidily (g.C.Chip.told c.args.chip.now).places t c.requires.known c.take_place.new.directory
          aside_so _ next fault (g.C.Chip.told c.args.chip.now)
          (g.C.Chip.told c.take_place.new.chip) refl took.tidy;
      accounts = record { counts = took.accounts.counts; cause = took.accounts.cause };
    })

-- ---- nothing is read

pub returns-in-Ok-clause-unread : goal.returns-in-Ok-clause-unread
returns-in-Ok-clause-unread g c =
    unread_then (g.C.Chip.told c.args.chip.now) (g.C.Chip.told c.take_place.new.chip)
    (g.C.Chip.told c.write_overflow.new.chip) c.take_place.ensures.unread c.write_overflow.ensures.unread

pub returns-in-Err-clause-unread : goal.returns-in-Err-clause-unread
returns-in-Err-clause-unread g c =
    unread_then (g.C.Chip.told c.args.chip.now) (g.C.Chip.told c.take_place.new.chip)
    (g.C.Chip.told c.write_overflow.new.chip) c.take_place.ensures.unread c.write_overflow.ensures.unread
