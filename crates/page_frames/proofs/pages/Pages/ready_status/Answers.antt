use Rattle.std.proofs.Common.{◌^◌, refl}
use Rattle.page_frames.specs.declared.pages.Pages.{Pages}
use Rattle.page_frames.proofs.TableLemmas.{renew_upholds}
use Rattle.page_frames.proofs.UpholdLemmas.{upholds_none}
use Rattle.page_frames.proofs.CompleteLemmas.{renew_completes}
use Rattle.page_frames.proofs.TellLemmas.{renew_tells}
use Rattle.page_frames.proofs.pages.Pages.ready_status.Goals as goal

pub returns-then-room-gt0-clause-upholds : goal.returns-then-room-gt0-clause-upholds
returns-then-room-gt0-clause-upholds g c =
    upholds_none (2 ^ 14) c.args.self.now (g.C.Chip.told c.args.chip.now) c.requires.ready

pub returns-clause-upholds : goal.returns-clause-upholds
returns-clause-upholds g c =
    let is = c.renew.ensures in
    let pages = c.args.self.now in
    let after : Pages = record { parts = c.renew.new.parts; pool = pages.pool } in
    let told = g.C.Chip.told c.args.chip.now in
    renew_upholds pages after c.renew.result told (g.C.Chip.told c.renew.new.chip) c.requires.ready
    refl is.leaves.holds is.tells is.steps is.leaves.tidy is.spends.wears is.leaves.draws is.leaves.accounts

pub returns-clause-complete : goal.returns-clause-complete
returns-clause-complete g c =
    renew_completes c.args.self.now c.renew.result (g.C.Chip.told c.args.chip.now)
    c.renew.ensures.fails.complete

pub returns-clause-faults : goal.returns-clause-faults
returns-clause-faults g c =
    let is = c.renew.ensures in
    let pages = c.args.self.now in
    let after : Pages = record { parts = c.renew.new.parts; pool = pages.pool } in
    renew_tells pages after c.renew.result (g.C.Chip.told c.args.chip.now) (g.C.Chip.told c.renew.new.chip)
    is.leaves.holds.active is.fails.stays

pub returns-then-room-gt0-clause-framed : goal.returns-then-room-gt0-clause-framed
returns-then-room-gt0-clause-framed g c = λ u page is. is

pub returns-clause-framed : goal.returns-clause-framed
returns-clause-framed g c = λ u page is. is
