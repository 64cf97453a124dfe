use Rattle.std.proofs.Common.{◌<◌, length, refl, ap, arith}
use Rattle.log_records.specs.View.{change_of}
use Rattle.page_ops.specs.Frames.{FrameView, pending_in, pendings_of}
use Rattle.page_ops.proofs.FillLemmas.{no_room_answered, room_answered}
use Rattle.page_ops.proofs.FrameLemmas.{fill_told, noted_frame, values_fit}
use Rattle.page_ops.proofs.SlotLemmas.{noted}
use Rattle.page_ops.proofs.frame.Frame.set_pending.Goals as goal

pub returns-then-not-fits_after-clause-exact :
    goal.returns-then-not-fits_after-clause-exact
returns-then-not-fits_after-clause-exact c =
    let p = c.self.inside in
    no_room_answered c.fits_after.ensures.1 c.if-not-fits_after.true
    (fill_told p.page p.numbers p.values c.self.invariant.own c.args.self.now c.self.view_is
    c.args.slot c.change_size.result c.args.tid (change_of c.args.change.now) c.change_size.ensures.size)

pub change_slot-requires-clause-room : goal.change_slot-requires-clause-room
change_slot-requires-clause-room c =
    let p = c.self.inside in
    omega (
      arith,
      c.fits_after.ensures.0 c.if-not-fits_after.false,
      values_fit p.page p.values c.args.slot c.change_size.result (change_of c.args.change.now)
          c.change_size.ensures.size,
    )

pub invariant_of-self : goal.invariant_of-self
invariant_of-self c =
    let p = c.self.inside in
    let within : c.args.slot < length c.change_slot.new.map =
    omega (arith, c.change_slot.ensures.page.slots, c.requires) in
    noted_frame p.page p.numbers c.give.new.self p.values c.change_slot.new.map c.args.slot
    c.args.tid (change_of c.args.change.now) c.self.invariant.own c.requires within
    c.give.ensures c.change_slot.ensures.changed
    (omega (
      arith,
      c.fits_after.ensures.0 c.if-not-fits_after.false,
      fill_told p.page p.numbers p.values c.self.invariant.own
          (record { page = p.page; pending = pendings_of p.numbers p.values }) refl c.args.slot
          c.change_size.result c.args.tid (change_of c.args.change.now) c.change_size.ensures.size,
    ))

pub returns-clause-exact : goal.returns-clause-exact
returns-clause-exact c =
    let p = c.self.inside in
    room_answered (c.fits_after.ensures.0 c.if-not-fits_after.false)
    (fill_told p.page p.numbers p.values c.self.invariant.own c.args.self.now c.self.view_is
    c.args.slot c.change_size.result c.args.tid (change_of c.args.change.now) c.change_size.ensures.size)

pub returns-clause-pending : goal.returns-clause-pending
returns-clause-pending c =
    let p = c.self.inside in
    let low : c.args.slot < length p.numbers = omega (arith, c.self.invariant.own.count, c.requires) in
    let within : c.args.slot < length c.change_slot.new.map =
    omega (arith, c.change_slot.ensures.page.slots, c.requires) in
    noted p.numbers c.give.new.self p.values c.change_slot.new.map c.args.slot c.args.tid
    (change_of c.args.change.now) (pending_in c.args.self.now)
    (λ k. ap (λ (f : FrameView). pending_in f k) c.self.view_is) low within
    c.give.ensures c.change_slot.ensures.changed
