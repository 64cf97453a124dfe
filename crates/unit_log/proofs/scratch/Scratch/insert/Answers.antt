use Rattle.std.proofs.Common.{◌≡◌, ◌<◌, false, length, sym, ◌∙◌, ap, subst, arith}
use Rattle.bounded_vec.specs.Bounded.{Bounded}
use Rattle.unit_log.specs.declared.scratch.LogSector.{LogSector}
use Rattle.unit_log.specs.Kept.{has_serial, with_kept, rank_of, HaveRisingSerials}
use Rattle.unit_log.proofs.KeptLemmas.{items_then, length_with_kept, rising_with_kept}
use Rattle.unit_log.proofs.scratch.Scratch.insert.Goals as goal

pub invariant_of-self : goal.invariant_of-self
invariant_of-self c =
    let l = c.self.inside.sectors.items in
    let x : LogSector = record { serial = c.args.serial; payload = c.args.payload } in
    let short : length l < 31 = omega (arith, c.requires, ap length c.self.view_is) in
    let same : c.put.new.sectors.items ≡ with_kept x l =
    items_then l c.put.new.sectors.items x c.rank_of-at.result (ap (λ (v : Bounded LogSector). v.items) c.put.ensures)
    (c.rank_of-at.ensures.rank ∙ ap (rank_of c.args.serial) c.deref-2.ensures.0) in
    let none : has_serial c.args.serial l ≡ false =
    ap (has_serial c.args.serial) (sym c.deref.ensures.0) ∙ sym c.has_serial.ensures
    ∙ c.if-has_serial.false in (
      omega (arith, ap length same, length_with_kept x l, short),
      omega (arith, ap (λ (v : Bounded LogSector). v.room) c.put.ensures, c.self.invariant.1),
      subst HaveRisingSerials (sym same) (rising_with_kept x l none c.self.invariant.2),
    )

pub returns-clause-done : goal.returns-clause-done
returns-clause-done c =
    let l = c.self.inside.sectors.items in
    let x : LogSector = record { serial = c.args.serial; payload = c.args.payload } in
    items_then l c.put.new.sectors.items x c.rank_of-at.result (ap (λ (v : Bounded LogSector). v.items) c.put.ensures)
    (c.rank_of-at.ensures.rank ∙ ap (rank_of c.args.serial) c.deref-2.ensures.0)
    ∙ ap (with_kept x) c.self.view_is
