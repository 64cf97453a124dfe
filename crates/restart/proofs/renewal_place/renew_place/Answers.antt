use Rattle.std.proofs.Common.{◌≡◌, ◌<◌, ◌≤◌, ◌+◌, ◌∙◌, ℕ, List, length, slice_index, true, false, Result, Ok, Err, inl, inr, refl, sym, ap, subst, arith}
use Rattle.std.proofs.lemmas.List.{length-set}
use Rattle.std.proofs.lemmas.Result.{err_from_is_err_and}
use Rattle.chip_trait.specs.Told.{Told}
use Rattle.chip_trait.proofs.CountsLemmas.{counts_then}
use Rattle.ipl_base.specs.declared.fault.ChipFault.{ChipFault}
use Rattle.ipl_base.specs.declared.fault.ChipFault.TheVariants.{Stopped}
use Rattle.ipl_base.specs.declared.limits.TheConstants.{VERSION}
use Rattle.ipl_format.specs.Header.{AreRetired}
use Rattle.ipl_meaning.specs.Tables.{Places, StatusTable, with_use}
use Rattle.place_taking.specs.Counts.{KeepsCounts}
use Rattle.place_taking.proofs.CountedLemmas.{keeps_given_back}
use Rattle.place_taking.specs.Spending.{ErasesFor, tells_worn}
use Rattle.place_taking.specs.Takes.{IsTakenFrom, with_places}
use Rattle.place_taking.proofs.JoinLemmas.{costs_of_filled, taken_was_free, taken_within, tidy_taken, tidy_untaken}
use Rattle.restart.proofs.RenewLemmas.{room_switched}
use Rattle.txn_status.specs.Status.{parts_of, room_of, switched_to}
use Rattle.txn_status.specs.Switching.{IsStatusSpot, Switches, SwitchesInSteps}
use Rattle.unit_directory.specs.Free.{aside}
use Rattle.unit_directory.proofs.AsideLemmas.{next_places_are_aside}
use Rattle.unit_io.specs.Charts.{Charts, IsCleared}
use Rattle.unit_io.specs.Costs.{Spends}
use Rattle.unit_io.proofs.UnreadLemmas.{unread_then}
use Rattle.restart.specs.Renewed.{IsGivenBack}
use Rattle.restart.proofs.CostLemmas.{back_erases, untaken_erases}
use Rattle.restart.proofs.RenewalCountLemmas.{back_as_many, moved_as_many}
use Rattle.restart.proofs.RenewalKnownLemmas.{known_renewed, known_back}
use Rattle.restart.proofs.PlaceLemmas.{erases_then, erased_back, has_between, known_between, moved_to, renews_told}
use Rattle.restart.proofs.PlaceStepLemmas.{renews_in_steps, failed_in_steps, untaken_in_steps}
use Rattle.restart.proofs.TidyLemmas.{tidy_renewed, tidy_unrenewed}
use Rattle.restart.proofs.RenewalWornLemmas.{listed_then}
use Rattle.number_set.specs.Flags.{flagged}
use Rattle.restart.proofs.renewal_place.renew_place.Goals as goal

-- what a switch leaves, at the places of the first chip, with its counts, the places that it lists and
-- the number that was drawn
switch_leaves : (places q units many erases counted : ℕ) (retired listed : List ℕ)
    (generation next p : ℕ) (status : StatusTable) (kept : List ℕ) (result : Result (Unit {0}) ChipFault)
    (mid told : Told) → q ≡ places → many ≡ units → counted ≡ erases → listed ≡ retired
    → generation ≡ next → SwitchesInSteps q many counted listed status generation p kept result mid told
    → SwitchesInSteps places units erases retired status next p kept result mid told
switch_leaves places q units many erases counted retired listed generation next p status kept result mid
    told at all often same drawn says =
    subst (λ (n : ℕ). SwitchesInSteps places units erases retired status n p kept result mid told) drawn
    (subst (λ (l : List ℕ). SwitchesInSteps places units erases l status generation p kept result mid told) same
    (subst (λ (n : ℕ). SwitchesInSteps places units n listed status generation p kept result mid told) often
    (subst (λ (n : ℕ). SwitchesInSteps places n counted listed status generation p kept result mid told) all
    (subst (λ (n : ℕ). SwitchesInSteps n many counted listed status generation p kept result mid told) at says))))

-- the same of what it makes of contents
switch_tells : (places q units many erases counted : ℕ) (retired listed : List ℕ)
    (generation next p : ℕ) (status : StatusTable) (kept : List ℕ) (mid told : Told) → q ≡ places
    → many ≡ units → counted ≡ erases → listed ≡ retired → generation ≡ next
    → Charts (Switches q many counted listed status generation p kept) mid told
    → Charts (Switches places units erases retired status next p kept) mid told
switch_tells places q units many erases counted retired listed generation next p status kept mid told at
    all often same drawn says =
    subst (λ (n : ℕ). Charts (Switches places units erases retired status n p kept) mid told) drawn
    (subst (λ (l : List ℕ). Charts (Switches places units erases l status generation p kept) mid told) same
    (subst (λ (n : ℕ). Charts (Switches places units n listed status generation p kept) mid told) often
    (subst (λ (n : ℕ). Charts (Switches places n counted listed status generation p kept) mid told) all
    (subst (λ (n : ℕ). Charts (Switches n many counted listed status generation p kept) mid told) at says))))

-- the chip still has as many places as the directory
pub switch-requires-clause-listed : goal.switch-requires-clause-listed
switch-requires-clause-listed g c =
    let facts = c.facts-2.ensures in
    let mid = g.C.Chip.told c.take_place.new.chip in
    let from = c.in_ok-place.ensures.taken in
    let after = c.take_place.new.directory in
    let size : length after.in_use ≡ (g.C.Chip.told c.take_place.new.chip).places =
    omega (
      arith,
      c.requires.may.size,
      c.in_ok-place.ensures.accounts.counts.places,
      (next_places_are_aside c.args.directory.now from.worn from.in_turn).all,
      ap (λ (e : Places). length e.in_use) from.places_is,
      length-set (aside c.args.directory.now from.worn).in_use c.in_ok-place.place true,
    ) in
    let units : length after.current ≡ c.header_of-header.result.units = sym c.header_of-header.ensures.units in
    subst (λ (l : List ℕ). AreRetired VERSION mid.places c.header_of-header.result.units l) (sym c.retired-retired.ensures)
    (subst (λ (n : ℕ). AreRetired VERSION mid.places n after.retired) units
    (subst (λ (n : ℕ). AreRetired VERSION n (length after.current) after.retired) size facts.retired))

-- the place that was taken is one of the chip's
pub switch-requires-clause-place : goal.switch-requires-clause-place
switch-requires-clause-place g c =
    omega (
      arith,
      taken_within c.args.directory.now c.take_place.new.directory c.in_ok-place.place
          c.in_ok-place.ensures.taken,
      c.requires.may.size,
      c.in_ok-place.ensures.accounts.counts.places,
    )

pub give_back-requires : goal.give_back-requires
give_back-requires g c =
    let from = c.in_ok-place.ensures.taken in
    omega (
      arith,
      c.requires.may.placed,
      c.requires.may.size,
      c.place-old.ensures,
      (next_places_are_aside c.args.directory.now from.worn from.in_turn).all,
      ap (λ (e : Places). length e.in_use) from.places_is,
      length-set (aside c.args.directory.now from.worn).in_use c.in_ok-place.place true,
    )

-- ---- no place was taken

pub returns-in_err-place-clause-tells : goal.returns-in_err-place-clause-tells
returns-in_err-place-clause-tells g c =
    let e = err_from_is_err_and c.from_residual.result c.from_residual.ensures.1 in
    rw (e.1 ∙ ap Err e.2) c.in_err-place.ensures.tells

pub returns-in_err-place-clause-steps : goal.returns-in_err-place-clause-steps
returns-in_err-place-clause-steps g c =
    let old = g.C.Chip.told c.args.chip.now in
    let fault = c.in_err-place.field-0.0 in
    let e = err_from_is_err_and c.from_residual.result c.from_residual.ensures.1 in
    rw e.1 (untaken_in_steps c.args.directory.now c.args.status.now c.args.counter.now
    (flagged c.args.kept.now c.args.status.now.numbers) c.take_place.new.directory c.args.status.now c.draw-generation.new.self fault e.0 old
    (g.C.Chip.told c.take_place.new.chip) c.in_err-place.ensures.aside refl
    (omega (arith, c.draw-generation.ensures.next)) c.in_err-place.ensures.takes)

pub returns-in_err-place-clause-moves : goal.returns-in_err-place-clause-moves
returns-in_err-place-clause-moves g c =
    let e = err_from_is_err_and c.from_residual.result c.from_residual.ensures.1 in
    rw (e.1 ∙ ap Err e.2) (record {
      moved = tt;
      same = (inl c.in_err-place.ensures.aside, refl);
      room = tt;
      free = back_as_many c.args.directory.now c.take_place.new.directory c.in_err-place.field-0.0
          c.requires.may.ready (inl c.in_err-place.ensures.aside);
      drawn = tt;
      draws = (
        omega (arith, c.draw-generation.ensures.next),
        omega (arith, c.draw-generation.ensures.next),
      );
    })

pub returns-in_err-place-clause-tables : goal.returns-in_err-place-clause-tables
returns-in_err-place-clause-tables g c =
    let old = g.C.Chip.told c.args.chip.now in
    let new = g.C.Chip.told c.take_place.new.chip in
    let after = c.take_place.new.directory in
    let fault = c.in_err-place.field-0.0 in
    let e = err_from_is_err_and c.from_residual.result c.from_residual.ensures.1 in
    rw e.1 (record {
      known = λ t has known. known_back old.places t after c.args.status.now
          c.draw-generation.new.self fault
          (subst (λ (b : Places). IsGivenBack b fault after) (sym has.places_is)
          (inl c.in_err-place.ensures.aside)) (sym has.status_is) known;
      tidy = λ t has known. tidy_unrenewed old.places c.args.directory.now c.args.status.now
          c.args.counter.now after c.args.status.now c.draw-generation.new.self t has known 0 0 e.0 fault
          old new (inl c.in_err-place.ensures.aside) (sym has.status_is)
          (tidy_untaken c.args.directory.now 0 0 fault old new c.in_err-place.ensures.tidy);
    })

pub returns-in_err-place-clause-writes : goal.returns-in_err-place-clause-writes
returns-in_err-place-clause-writes g c =
    let e = err_from_is_err_and c.from_residual.result c.from_residual.ensures.1 in
    rw (e.1 ∙ ap Err e.2) (record {
      costs = untaken_erases c.args.directory.now c.take_place.new.directory
          c.args.status.now.place c.in_err-place.field-0.0 (g.C.Chip.told c.args.chip.now)
          (g.C.Chip.told c.take_place.new.chip) c.in_err-place.ensures.costs;
      unread = c.in_err-place.ensures.unread;
      accounts = record {
        counts = c.in_err-place.ensures.accounts.counts;
        cause = c.in_err-place.ensures.accounts.cause;
      };
    })

-- ---- it was written

pub returns-in-Ok-clause-moves : goal.returns-in-Ok-clause-moves
returns-in-Ok-clause-moves g c =
    let placed = c.in-Ok.ensures.moved in record {
      moved = record {
        place = c.in_ok-place.place;
        mid = c.take_place.new.directory;
        taken = c.in_ok-place.ensures.taken;
        status_is = placed.switched
            ∙ ap (λ (n : ℕ). switched_to c.args.status.now.most c.in_ok-place.place n (flagged c.args.kept.now c.args.status.now.numbers)) c.draw-generation.ensures.drawn;
        places_is = c.give_back.ensures
            ∙ ap (λ (p : ℕ). with_use c.take_place.new.directory p false) c.place-old.ensures;
      };
      same = tt;
      room = subst (λ (s : StatusTable). 191 ≤ room_of s) (sym placed.switched)
          (room_switched c.args.status.now.most c.in_ok-place.place c.draw-generation.result (flagged c.args.kept.now c.args.status.now.numbers)
          c.facts.ensures.roomy c.requires.fits);
      free = moved_as_many c.directory_laws.ensures.takes c.directory_laws.ensures.gives_back
          c.args.directory.now c.take_place.new.directory c.give_back.new.self c.in_ok-place.place
          c.args.status.now.place c.requires.may.ready c.in_ok-place.ensures.taken c.requires.may.held
          (omega (arith, c.requires.may.placed, c.requires.may.size))
          (c.give_back.ensures
          ∙ ap (λ (p : ℕ). with_use c.take_place.new.directory p false) c.place-old.ensures);
      drawn = omega (arith, placed.drawn, c.draw-generation.ensures.next);
      draws = (
        omega (arith, placed.draws, c.draw-generation.ensures.next),
        omega (arith, placed.draws, c.draw-generation.ensures.next),
      );
    }

pub returns-in-Ok-clause-tells : goal.returns-in-Ok-clause-tells
returns-in-Ok-clause-tells g c =
    let p = c.in_ok-place.place in
    let first = c.args.directory.now in
    let status = c.args.status.now in
    let next = c.args.counter.now in
    let kept = flagged c.args.kept.now c.args.status.now.numbers in
    let old = g.C.Chip.told c.args.chip.now in
    let after = c.give_back.new.self in
    let new = c.switch.new.self in
    let drawn = c.switch.new.counter in
    let from = c.in_ok-place.ensures.taken in
    let facts = next_places_are_aside first from.worn from.in_turn in
    let d = aside first from.worn in
    let low : p < old.places = omega (arith, from.next.within, facts.all, c.requires.may.size) in
    let is = moved_to p c.place-old.result d c.take_place.new.directory after status new next drawn
    kept from.places_is c.place-old.ensures c.give_back.ensures
    (c.in-Ok.ensures.moved.switched ∙ ap (λ (n : ℕ). switched_to c.args.status.now.most p n kept) c.draw-generation.ensures.drawn)
    (omega (arith, c.in-Ok.ensures.moved.drawn, c.draw-generation.ensures.next)) in
    let mid = g.C.Chip.told c.take_place.new.chip in
    let told = g.C.Chip.told c.switch.new.chip in
    renews_told c.directory_laws.ensures.takes c.directory_laws.ensures.gives_back old.places p first
    from.worn from.in_turn status next kept (facts.all ∙ c.requires.may.size) from.next.free low after new
    drawn is old mid told c.in_ok-place.ensures.tells
    (switch_tells old.places mid.places (length d.current) c.header_of-header.result.units (erases_then d p)
    c.header_of-header.result.erases d.retired c.retired-retired.result.now c.draw-generation.result next p status kept
    mid told c.in_ok-place.ensures.accounts.counts.places
    (c.header_of-header.ensures.units ∙ ap (λ (e : Places). length e.current) from.places_is)
    (c.header_of-header.ensures.erases ∙ ap (λ (e : Places). slice_index e.erases p) from.places_is)
    (c.retired-retired.ensures ∙ ap (λ (e : Places). e.retired) from.places_is)
    c.draw-generation.ensures.drawn c.in-Ok.ensures.switches)

pub returns-in-Ok-clause-lists : goal.returns-in-Ok-clause-lists
returns-in-Ok-clause-lists g c =
    let p = c.in_ok-place.place in
    listed_then (IsCleared p) p c.switch.new.self.place c.retired-retired.result.now
    c.give_back.new.self.retired (g.C.Chip.told c.args.chip.now)
    (g.C.Chip.told c.take_place.new.chip) (g.C.Chip.told c.switch.new.chip)
    (sym (ap (λ (s : StatusTable). s.place) c.in-Ok.ensures.moved.switched))
    (c.retired-retired.ensures ∙ sym (ap (λ (e : Places). e.retired) c.give_back.ensures))
    c.in_ok-place.ensures.tells c.in-Ok.ensures.lists

pub returns-in-Ok-clause-steps : goal.returns-in-Ok-clause-steps
returns-in-Ok-clause-steps g c =
    let p = c.in_ok-place.place in
    let first = c.args.directory.now in
    let status = c.args.status.now in
    let next = c.args.counter.now in
    let kept = flagged c.args.kept.now c.args.status.now.numbers in
    let old = g.C.Chip.told c.args.chip.now in
    let after = c.give_back.new.self in
    let new = c.switch.new.self in
    let drawn = c.switch.new.counter in
    let from = c.in_ok-place.ensures.taken in
    let facts = next_places_are_aside first from.worn from.in_turn in
    let d = aside first from.worn in
    let is = moved_to p c.place-old.result d c.take_place.new.directory after status new next drawn
    kept from.places_is c.place-old.ensures c.give_back.ensures
    (c.in-Ok.ensures.moved.switched ∙ ap (λ (n : ℕ). switched_to c.args.status.now.most p n kept) c.draw-generation.ensures.drawn)
    (omega (arith, c.in-Ok.ensures.moved.drawn, c.draw-generation.ensures.next)) in
    let mid = g.C.Chip.told c.take_place.new.chip in
    let told = g.C.Chip.told c.switch.new.chip in
    let counts = c.in_ok-place.ensures.accounts.counts in
    renews_in_steps c.directory_laws.ensures.takes c.directory_laws.ensures.gives_back p first
    c.take_place.new.directory from status next kept old mid told c.requires.may.size counts
    c.in_ok-place.ensures.takes after new drawn is
    (switch_leaves old.places mid.places (length d.current) c.header_of-header.result.units (erases_then d p)
    c.header_of-header.result.erases d.retired c.retired-retired.result.now c.draw-generation.result next p status kept
    (Ok tt) mid told counts.places
    (c.header_of-header.ensures.units ∙ ap (λ (e : Places). length e.current) from.places_is)
    (c.header_of-header.ensures.erases ∙ ap (λ (e : Places). slice_index e.erases p) from.places_is)
    (c.retired-retired.ensures ∙ ap (λ (e : Places). e.retired) from.places_is)
    c.draw-generation.ensures.drawn c.in-Ok.ensures.steps)

pub returns-in-Ok-clause-tables : goal.returns-in-Ok-clause-tables
returns-in-Ok-clause-tables g c =
    let p = c.in_ok-place.place in
    let first = c.args.directory.now in
    let status = c.args.status.now in
    let next = c.args.counter.now in
    let kept = flagged c.args.kept.now c.args.status.now.numbers in
    let old = g.C.Chip.told c.args.chip.now in
    let after = c.give_back.new.self in
    let new = c.switch.new.self in
    let drawn = c.switch.new.counter in
    let from = c.in_ok-place.ensures.taken in
    let facts = next_places_are_aside first from.worn from.in_turn in
    let d = aside first from.worn in
    let low : p < old.places = omega (arith, from.next.within, facts.all, c.requires.may.size) in
    let is = moved_to p c.place-old.result d c.take_place.new.directory after status new next drawn
    kept from.places_is c.place-old.ensures c.give_back.ensures
    (c.in-Ok.ensures.moved.switched ∙ ap (λ (n : ℕ). switched_to c.args.status.now.most p n kept) c.draw-generation.ensures.drawn)
    (omega (arith, c.in-Ok.ensures.moved.drawn, c.draw-generation.ensures.next)) in
    let mid = g.C.Chip.told c.take_place.new.chip in
    let told = g.C.Chip.told c.switch.new.chip in record {
      known = λ t has known. known_renewed c.directory_laws.ensures.takes c.directory_laws.ensures.gives_back old.places p d
          status next kept (facts.all ∙ c.requires.may.size) from.next.free low after new drawn is
          (with_places t d) (has_between first from.worn from.in_turn status next t has)
          (known_between first from.worn from.in_turn status next t has old.places known);
      tidy = λ t has known. tidy_renewed old.places first status next after new drawn t has known
          c.directory_laws.ensures.takes c.directory_laws.ensures.gives_back p c.take_place.new.directory from
          kept c.requires.may.size low is old told
          (tidy_taken first p (1 + parts_of kept) (IsStatusSpot (parts_of kept)) true true old mid told
          (taken_was_free first c.take_place.new.directory p from) (λ s high spot. omega (arith, high, spot))
          c.in_ok-place.ensures.tidy c.in-Ok.ensures.writes.tidy);
    }

pub returns-in-Ok-clause-writes : goal.returns-in-Ok-clause-writes
returns-in-Ok-clause-writes g c =
    let old = g.C.Chip.told c.args.chip.now in
    let mid = g.C.Chip.told c.take_place.new.chip in
    let told = g.C.Chip.told c.switch.new.chip in
    let writes = c.in-Ok.ensures.writes in record {
      costs = subst (λ (p : ℕ). Spends (ErasesFor c.args.directory.now c.give_back.new.self 3 p true false) old told)
          (sym (ap (λ (s : StatusTable). s.place) c.in-Ok.ensures.moved.switched))
          (costs_of_filled c.args.directory.now c.take_place.new.directory c.give_back.new.self
          c.in_ok-place.place 2 true false old mid told
          (ap (λ (e : Places). e.retired) c.give_back.ensures)
          (subst (KeepsCounts c.take_place.new.directory) (sym c.give_back.ensures) (keeps_given_back _ _)) refl c.in_ok-place.ensures.costs
          writes.costs);
      unread = unread_then old mid told c.in_ok-place.ensures.unread writes.unread;
      accounts = record {
        counts = counts_then old mid told c.in_ok-place.ensures.accounts.counts writes.accounts.counts;
        cause = tt;
      };
    }

-- ---- a write failed

-- the place that was taken is given back
back_again : (first between after : Places) (p : ℕ) (fault : ChipFault)
    → (from : IsTakenFrom first p between) → fault ≡ Stopped → after ≡ with_use between p false
    → IsGivenBack first fault after
back_again first between after p fault from stopped is =
    let d = aside first from.worn in inr (
      stopped,
      (
        d,
        p,
        record { worn = from.worn; in_turn = from.in_turn; places_is = refl },
        from.next,
        is ∙ ap (λ (e : Places). with_use e p false) from.places_is ∙ erased_back d p from.next.free,
      ),
    )

pub returns-in-Err-clause-moves : goal.returns-in-Err-clause-moves
returns-in-Err-clause-moves g c =
    let moved = c.in-Err.ensures.moved in
    let back : IsGivenBack c.args.directory.now c.in-Err.fault c.give_back-in-Err.new.self =
    back_again c.args.directory.now c.take_place.new.directory c.give_back-in-Err.new.self
    c.in_ok-place.place c.in-Err.fault c.in_ok-place.ensures.taken
    c.in-Err.ensures.writes.accounts.cause.0 c.give_back-in-Err.ensures in record {
      moved = tt;
      same = (back, moved.same);
      room = tt;
      free = back_as_many c.args.directory.now c.give_back-in-Err.new.self c.in-Err.fault
          c.requires.may.ready back;
      drawn = tt;
      draws = (
        omega (arith, moved.draws, c.draw-generation.ensures.next),
        omega (arith, moved.draws, c.draw-generation.ensures.next),
      );
    }

pub returns-in-Err-clause-steps : goal.returns-in-Err-clause-steps
returns-in-Err-clause-steps g c =
    let p = c.in_ok-place.place in
    let first = c.args.directory.now in
    let old = g.C.Chip.told c.args.chip.now in
    let mid = g.C.Chip.told c.take_place.new.chip in
    let told = g.C.Chip.told c.switch.new.chip in
    let from = c.in_ok-place.ensures.taken in
    let facts = next_places_are_aside first from.worn from.in_turn in
    let d = aside first from.worn in
    let counts = c.in_ok-place.ensures.accounts.counts in
    failed_in_steps c.directory_laws.ensures.takes c.directory_laws.ensures.gives_back p first
    c.take_place.new.directory from c.args.status.now c.args.counter.now (flagged c.args.kept.now c.args.status.now.numbers) old mid told
    c.requires.may.size counts c.in_ok-place.ensures.takes
    c.give_back-in-Err.new.self c.switch.new.self c.switch.new.counter c.in-Err.fault c.in-Err.fault
    (switch_leaves old.places mid.places (length d.current) c.header_of-header.result.units (erases_then d p)
    c.header_of-header.result.erases d.retired c.retired-retired.result.now c.draw-generation.result c.args.counter.now p
    c.args.status.now (flagged c.args.kept.now c.args.status.now.numbers) (Err c.in-Err.fault) mid told counts.places
    (c.header_of-header.ensures.units ∙ ap (λ (e : Places). length e.current) from.places_is)
    (c.header_of-header.ensures.erases ∙ ap (λ (e : Places). slice_index e.erases p) from.places_is)
    (c.retired-retired.ensures ∙ ap (λ (e : Places). e.retired) from.places_is)
    c.draw-generation.ensures.drawn c.in-Err.ensures.steps)

pub returns-in-Err-clause-tables : goal.returns-in-Err-clause-tables
returns-in-Err-clause-tables g c =
    let p = c.in_ok-place.place in
    let first = c.args.directory.now in
    let after = c.give_back-in-Err.new.self in
    let kept = flagged c.args.kept.now c.args.status.now.numbers in
    let fault = c.in-Err.fault in
    let old = g.C.Chip.told c.args.chip.now in
    let told = g.C.Chip.told c.switch.new.chip in
    let from = c.in_ok-place.ensures.taken in
    let same = c.in-Err.ensures.moved.same in
    let back : IsGivenBack first fault after =
    back_again first c.take_place.new.directory after p fault from
    c.in-Err.ensures.writes.accounts.cause.0 c.give_back-in-Err.ensures in record {
      known = λ t has known. known_back old.places t after c.switch.new.self c.switch.new.counter fault
          (subst (λ (b : Places). IsGivenBack b fault after) (sym has.places_is) back)
          (same ∙ sym has.status_is) known;
      tidy = λ t has known. tidy_unrenewed old.places first c.args.status.now c.args.counter.now after
          c.switch.new.self c.switch.new.counter t has known p (1 + parts_of kept) fault
          fault old told back (same ∙ sym has.status_is)
          (tidy_taken first p (1 + parts_of kept) (IsStatusSpot (parts_of kept)) false false old
          (g.C.Chip.told c.take_place.new.chip) told
          (taken_was_free first c.take_place.new.directory p from) (λ s high spot. omega (arith, high, spot))
          c.in_ok-place.ensures.tidy c.in-Err.ensures.writes.tidy);
    }

pub returns-in-Err-clause-writes : goal.returns-in-Err-clause-writes
returns-in-Err-clause-writes g c =
    let old = g.C.Chip.told c.args.chip.now in
    let mid = g.C.Chip.told c.take_place.new.chip in
    let told = g.C.Chip.told c.switch.new.chip in
    let fault = c.in-Err.fault in
    let writes = c.in-Err.ensures.writes in
    let first = c.in_ok-place.ensures.accounts.counts in
    let still : tells_worn fault ≡ false = ap tells_worn writes.accounts.cause.0 in record {
      costs = back_erases c.args.directory.now c.give_back-in-Err.new.self c.in_ok-place.place
          c.switch.new.self.place (tells_worn fault) old told
          (costs_of_filled c.args.directory.now c.take_place.new.directory c.give_back-in-Err.new.self
          c.in_ok-place.place 2 false (tells_worn fault) old mid told
          (ap (λ (e : Places). e.retired) c.give_back-in-Err.ensures)
          (subst (KeepsCounts c.take_place.new.directory) (sym c.give_back-in-Err.ensures) (keeps_given_back _ _)) still
          c.in_ok-place.ensures.costs writes.costs);
      unread = unread_then old mid told c.in_ok-place.ensures.unread writes.unread;
      accounts = record {
        counts = counts_then old mid told first writes.accounts.counts;
        cause = inl (
          writes.accounts.cause.0,
          omega (arith, first.writes, writes.accounts.cause.1),
        );
      };
    }
