use Rattle.std.proofs.Common.{◌≡◌, ℕ, ◌+◌, ◌*◌, ◌/◌, ◌∙◌, ap, arith}
use Rattle.std.specs.List.{sum_by, range_with_len}
use Rattle.ipl_base.specs.declared.limits.TheConstants.{SLOTS}
use Rattle.serial_view.specs.Running.{run_of, room_in, fill_in}
use Rattle.serial_view.proofs.RoomLemmas.{sum_more}
use Rattle.serial_view.proofs.running.Running.fill.Goals as goal

pub loop-slot-preserved : goal.loop-slot-preserved
loop-slot-preserved c =
    let n = c.args.name in
    record {
      so_far = sum_more (λ slot. room_in (run_of c.args.self.now) n c.args.size (n / SLOTS * SLOTS + slot))
          c.loop-slot.slot c.loop-slot.total c.from-total.result c.loop-slot.invariant.so_far
          (c.from-total.ensures ∙ c.room.ensures);
      few = omega (arith, c.loop-slot.invariant.few, c.from-total.ensures, c.room.type_inv);
    }

pub returns : goal.returns
unfolding fill_in
returns c =
    let n = c.args.name in
    let all : c.loop-slot.slot ≡ SLOTS = omega (arith, c.loop-slot-test.false, c.loop-slot.auto.slot-end) in
    c.loop-slot.invariant.so_far ∙ ap (λ (k : ℕ).
    sum_by (λ slot. room_in (run_of c.args.self.now) n c.args.size (n / SLOTS * SLOTS + slot)) (range_with_len 0 k)) all
