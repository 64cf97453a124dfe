use Rattle.std.proofs.lemmas.Result.{err_from_is_err_and}
use Rattle.std.proofs.Common.{Ok, Err, inl, inr, refl, ◌∙◌, ap, option_map, [], ◌∷◌, true, false, arith}
use Rattle.chip_trait.specs.declared.event.Event.TheVariants.{Erase, Worn}
use Rattle.chip_trait.specs.Story.{after}
use Rattle.ipl_base.specs.declared.fault.ChipFault.TheVariants.{Stopped}
use Rattle.unit_io.proofs.PlaceLemmas.{begin_worn, begin_tells, begun_failed, begun_halted, begun_done, wears_worn, wears_done, worn_tells}
use Rattle.unit_io.proofs.PlainLemmas.{plain_then, plain_did, plain_waited}
use Rattle.unit_io.proofs.CostLemmas.{one_added, once_worn, spends_once_at_most, spends_once_then, spends_erased, spends_barred}
use Rattle.unit_io.proofs.SparesLemmas.{spares_then, spares_erased, spares_waited}
use Rattle.unit_io.proofs.SpotLemmas.{clears_worn}
use Rattle.unit_io.proofs.TidyLemmas.{tidy_broken, tidy_begun}
use Rattle.unit_io.proofs.UnreadLemmas.{unread_broken, unread_wears, unread_waited, unread_then}
use Rattle.unit_io.proofs.places.begin_unit.Goals as goal

-- ---- the erase failed

pub returns-in_err-erase-clause-keeps : goal.returns-in_err-erase-clause-keeps
returns-in_err-erase-clause-keeps g c = λ m it h steady rests laid idle.
    let e = err_from_is_err_and c.from_residual.result c.from_residual.ensures.1 in
    rw e.1 (begun_failed _ m it h c.args.place rests laid c.requires idle _ e.0 steady c.in_err-erase.ensures.did)

pub returns-in_err-erase-clause-plain : goal.returns-in_err-erase-clause-plain
returns-in_err-erase-clause-plain g c = plain_did (Erase c.args.place) (g.C.Chip.told c.args.chip.now) (g.C.Chip.told c.erase.new.chip) tt (Err Stopped) c.in_err-erase.ensures.did

pub returns-in_err-erase-clause-costs : goal.returns-in_err-erase-clause-costs
returns-in_err-erase-clause-costs g c =
    let e = err_from_is_err_and c.from_residual.result c.from_residual.ensures.1 in
    rw e.1 (spends_once_at_most c.args.place 0 1 false _ _ (omega arith) (spends_erased c.args.place (g.C.Chip.told c.args.chip.now) (g.C.Chip.told c.erase.new.chip) (Err e.0) c.in_err-erase.ensures.did))

pub returns-in_err-erase-clause-tidy : goal.returns-in_err-erase-clause-tidy
returns-in_err-erase-clause-tidy g c =
    let e = err_from_is_err_and c.from_residual.result c.from_residual.ensures.1 in
    rw e.1 (tidy_broken c.args.place e.0 (g.C.Chip.told c.args.chip.now) (g.C.Chip.told c.erase.new.chip) c.in_err-erase.ensures.did)

-- ---- the place is worn

pub returns-in-Worn-clause-keeps : goal.returns-in-Worn-clause-keeps
returns-in-Worn-clause-keeps g c = λ m it h steady rests laid idle.
    begin_worn _ m it h c.args.place rests laid c.requires idle _ steady (wears_worn c.args.place _ _ _ c.in-Worn.is c.in_ok-erase.ensures.did)

pub returns-in-Worn-clause-tells : goal.returns-in-Worn-clause-tells
returns-in-Worn-clause-tells g c = worn_tells c.args.place _ _ (wears_worn c.args.place _ _ _ c.in-Worn.is c.in_ok-erase.ensures.did)

pub returns-in-Worn-clause-plain : goal.returns-in-Worn-clause-plain
returns-in-Worn-clause-plain g c = plain_did (Worn c.args.place) (g.C.Chip.told c.args.chip.now) (g.C.Chip.told c.erase.new.chip) tt (Ok tt) (wears_worn c.args.place _ _ _ c.in-Worn.is c.in_ok-erase.ensures.did)

pub returns-in-Worn-clause-spares : goal.returns-in-Worn-clause-spares
returns-in-Worn-clause-spares g c = λ x told. (x, (wears_worn c.args.place _ _ _ c.in-Worn.is c.in_ok-erase.ensures.did).contents ∙ ap (option_map (after (Worn c.args.place))) told, λ q s apart. refl)

pub returns-in-Worn-clause-costs : goal.returns-in-Worn-clause-costs
returns-in-Worn-clause-costs g c = record {
  added = Worn c.args.place ∷ [];
  does = once_worn c.args.place 1;
  history = (wears_worn c.args.place _ _ _ c.in-Worn.is c.in_ok-erase.ensures.did).history ∙ one_added (Worn c.args.place) (g.C.Chip.told c.args.chip.now).history;
}

pub returns-in-Worn-clause-tidy : goal.returns-in-Worn-clause-tidy
returns-in-Worn-clause-tidy g c = record {
  added = Worn c.args.place ∷ [];
  does = clears_worn c.args.place;
  history = (wears_worn c.args.place _ _ _ c.in-Worn.is c.in_ok-erase.ensures.did).history ∙ one_added (Worn c.args.place) (g.C.Chip.told c.args.chip.now).history;
}

-- ---- the barrier failed

pub returns-in_err-barrier-in-Done-clause-keeps : goal.returns-in_err-barrier-in-Done-clause-keeps
returns-in_err-barrier-in-Done-clause-keeps g c = λ m it h steady rests laid idle.
    let e = err_from_is_err_and c.from_residual-in_err-barrier-in-Done.result c.from_residual-in_err-barrier-in-Done.ensures.1 in
    rw e.1 (begun_halted _ m it h c.args.place rests laid c.requires idle _ _ e.0 steady (wears_done c.args.place _ _ _ c.in-Done.is c.in_ok-erase.ensures.did) c.in_err-barrier-in-Done.ensures.did)

pub returns-in_err-barrier-in-Done-clause-plain : goal.returns-in_err-barrier-in-Done-clause-plain
returns-in_err-barrier-in-Done-clause-plain g c =
    plain_then (g.C.Chip.told c.args.chip.now) (g.C.Chip.told c.erase.new.chip) (g.C.Chip.told c.barrier.new.chip)
    (plain_did (Erase c.args.place) (g.C.Chip.told c.args.chip.now) (g.C.Chip.told c.erase.new.chip) tt (Ok tt) (wears_done c.args.place _ _ _ c.in-Done.is c.in_ok-erase.ensures.did))
    (plain_waited (g.C.Chip.told c.erase.new.chip) (g.C.Chip.told c.barrier.new.chip) (Err Stopped) c.in_err-barrier-in-Done.ensures.did)

pub returns-in_err-barrier-in-Done-clause-costs : goal.returns-in_err-barrier-in-Done-clause-costs
returns-in_err-barrier-in-Done-clause-costs g c =
    let e = err_from_is_err_and c.from_residual-in_err-barrier-in-Done.result c.from_residual-in_err-barrier-in-Done.ensures.1 in
    rw e.1 (spends_once_then c.args.place 0 0 1 0 false (g.C.Chip.told c.args.chip.now) (g.C.Chip.told c.erase.new.chip) (g.C.Chip.told c.barrier.new.chip)
    (spends_erased c.args.place _ _ (Ok tt) (wears_done c.args.place _ _ _ c.in-Done.is c.in_ok-erase.ensures.did))
    (spends_barred c.args.place 0 _ _ (Err Stopped) c.in_err-barrier-in-Done.ensures.did))

pub returns-in_err-barrier-in-Done-clause-tidy : goal.returns-in_err-barrier-in-Done-clause-tidy
returns-in_err-barrier-in-Done-clause-tidy g c =
    let e = err_from_is_err_and c.from_residual-in_err-barrier-in-Done.result c.from_residual-in_err-barrier-in-Done.ensures.1 in
    rw e.1 (tidy_begun c.args.place (g.C.Chip.told c.args.chip.now) (g.C.Chip.told c.erase.new.chip) (g.C.Chip.told c.barrier.new.chip) (Err Stopped) (wears_done c.args.place _ _ _ c.in-Done.is c.in_ok-erase.ensures.did) c.in_err-barrier-in-Done.ensures.did)

-- ---- both were done

pub returns-in_ok-barrier-in-Done-clause-keeps : goal.returns-in_ok-barrier-in-Done-clause-keeps
returns-in_ok-barrier-in-Done-clause-keeps g c = λ m it h steady rests laid idle.
    begun_done _ m it h c.args.place rests laid c.requires idle _ _ steady (wears_done c.args.place _ _ _ c.in-Done.is c.in_ok-erase.ensures.did) c.in_ok-barrier-in-Done.ensures.did

pub returns-in_ok-barrier-in-Done-clause-tells : goal.returns-in_ok-barrier-in-Done-clause-tells
returns-in_ok-barrier-in-Done-clause-tells g c = begin_tells c.args.place _ _ _ (Ok tt) (wears_done c.args.place _ _ _ c.in-Done.is c.in_ok-erase.ensures.did) c.in_ok-barrier-in-Done.ensures.did

pub returns-in_ok-barrier-in-Done-clause-plain : goal.returns-in_ok-barrier-in-Done-clause-plain
returns-in_ok-barrier-in-Done-clause-plain g c =
    plain_then (g.C.Chip.told c.args.chip.now) (g.C.Chip.told c.erase.new.chip) (g.C.Chip.told c.barrier.new.chip)
    (plain_did (Erase c.args.place) (g.C.Chip.told c.args.chip.now) (g.C.Chip.told c.erase.new.chip) tt (Ok tt) (wears_done c.args.place _ _ _ c.in-Done.is c.in_ok-erase.ensures.did))
    (plain_waited (g.C.Chip.told c.erase.new.chip) (g.C.Chip.told c.barrier.new.chip) (Ok tt) c.in_ok-barrier-in-Done.ensures.did)

pub returns-in_ok-barrier-in-Done-clause-costs : goal.returns-in_ok-barrier-in-Done-clause-costs
returns-in_ok-barrier-in-Done-clause-costs g c =
    spends_once_then c.args.place 0 0 1 0 true (g.C.Chip.told c.args.chip.now) (g.C.Chip.told c.erase.new.chip) (g.C.Chip.told c.barrier.new.chip)
    (spends_erased c.args.place _ _ (Ok tt) (wears_done c.args.place _ _ _ c.in-Done.is c.in_ok-erase.ensures.did))
    (spends_barred c.args.place 0 _ _ (Ok tt) c.in_ok-barrier-in-Done.ensures.did)

pub returns-in_ok-barrier-in-Done-clause-spares : goal.returns-in_ok-barrier-in-Done-clause-spares
returns-in_ok-barrier-in-Done-clause-spares g c =
    let old = g.C.Chip.told c.args.chip.now in
    let mid = g.C.Chip.told c.erase.new.chip in
    let new = g.C.Chip.told c.barrier.new.chip in
    spares_then c.args.place old mid new
    (spares_erased c.args.place old mid (Ok tt) (wears_done c.args.place _ old mid c.in-Done.is c.in_ok-erase.ensures.did))
    (spares_waited c.args.place mid new (Ok tt) c.in_ok-barrier-in-Done.ensures.did)

pub returns-in_ok-barrier-in-Done-clause-tidy : goal.returns-in_ok-barrier-in-Done-clause-tidy
returns-in_ok-barrier-in-Done-clause-tidy g c =
    tidy_begun c.args.place (g.C.Chip.told c.args.chip.now) (g.C.Chip.told c.erase.new.chip) (g.C.Chip.told c.barrier.new.chip) (Ok tt) (wears_done c.args.place _ _ _ c.in-Done.is c.in_ok-erase.ensures.did) c.in_ok-barrier-in-Done.ensures.did

-- ---- what was asked

pub returns-in_err-erase-clause-erases : goal.returns-in_err-erase-clause-erases
returns-in_err-erase-clause-erases g c =
    let e = err_from_is_err_and c.from_residual.result c.from_residual.ensures.1 in
    rw e.1 (inl c.in_err-erase.ensures.did)

pub returns-in-Worn-clause-erases : goal.returns-in-Worn-clause-erases
returns-in-Worn-clause-erases g c = (
  wears_worn c.args.place _ _ _ c.in-Worn.is c.in_ok-erase.ensures.did,
  c.in_ok-erase.ensures.did.rose c.in-Worn.is,
)

pub returns-in_err-barrier-in-Done-clause-erases : goal.returns-in_err-barrier-in-Done-clause-erases
returns-in_err-barrier-in-Done-clause-erases g c =
    let e = err_from_is_err_and c.from_residual-in_err-barrier-in-Done.result c.from_residual-in_err-barrier-in-Done.ensures.1 in
    rw e.1 (inr (
      g.C.Chip.told c.erase.new.chip,
      wears_done c.args.place _ _ _ c.in-Done.is c.in_ok-erase.ensures.did,
      c.in_err-barrier-in-Done.ensures.did,
    ))

pub returns-in_ok-barrier-in-Done-clause-erases : goal.returns-in_ok-barrier-in-Done-clause-erases
returns-in_ok-barrier-in-Done-clause-erases g c = (
  g.C.Chip.told c.erase.new.chip,
  wears_done c.args.place _ _ _ c.in-Done.is c.in_ok-erase.ensures.did,
  c.in_ok-barrier-in-Done.ensures.did,
)

-- ---- nothing is read

pub returns-in_err-erase-clause-unread : goal.returns-in_err-erase-clause-unread
returns-in_err-erase-clause-unread g c =
    let e = err_from_is_err_and c.from_residual.result c.from_residual.ensures.1 in
    unread_broken c.args.place e.0 (g.C.Chip.told c.args.chip.now) (g.C.Chip.told c.erase.new.chip) c.in_err-erase.ensures.did

pub returns-in-Worn-clause-unread : goal.returns-in-Worn-clause-unread
returns-in-Worn-clause-unread g c =
    unread_wears _ c.args.place (g.C.Chip.told c.args.chip.now) (g.C.Chip.told c.erase.new.chip) c.in_ok-erase.ensures.did

pub returns-in_err-barrier-in-Done-clause-unread : goal.returns-in_err-barrier-in-Done-clause-unread
returns-in_err-barrier-in-Done-clause-unread g c =
    unread_then (g.C.Chip.told c.args.chip.now) (g.C.Chip.told c.erase.new.chip) (g.C.Chip.told c.barrier.new.chip)
    (unread_wears _ c.args.place (g.C.Chip.told c.args.chip.now) (g.C.Chip.told c.erase.new.chip) c.in_ok-erase.ensures.did)
    (unread_waited (Err Stopped) (g.C.Chip.told c.erase.new.chip) (g.C.Chip.told c.barrier.new.chip) c.in_err-barrier-in-Done.ensures.did)

pub returns-in_ok-barrier-in-Done-clause-unread : goal.returns-in_ok-barrier-in-Done-clause-unread
returns-in_ok-barrier-in-Done-clause-unread g c =
    unread_then (g.C.Chip.told c.args.chip.now) (g.C.Chip.told c.erase.new.chip) (g.C.Chip.told c.barrier.new.chip)
    (unread_wears _ c.args.place (g.C.Chip.told c.args.chip.now) (g.C.Chip.told c.erase.new.chip) c.in_ok-erase.ensures.did)
    (unread_waited (Ok tt) (g.C.Chip.told c.erase.new.chip) (g.C.Chip.told c.barrier.new.chip) c.in_ok-barrier-in-Done.ensures.did)
