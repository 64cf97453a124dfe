use Rattle.number_set.specs.Numbers.{among}
use Rattle.unit_log.specs.Kept.{records_kept}
use Rattle.page_rebuild.proofs.TakenLemmas.{all_ahead, values_over, values_made, all_to_set, all_taken, room_told}
use Rattle.page_rebuild.proofs.taking.take_sectors.Goals as goal

pub pass_sectors-requires : goal.pass_sectors-requires
pass_sectors-requires c =
    all_ahead c.args.page (records_kept c.args.sectors.now) (among c.args.status.now.numbers)
    c.count_sectors.new.values c.args.frame.now c.committed_mut.result.now c.clear.new.map
    c.committed_mut-2.result.now c.count_sectors.ensures.values c.committed_mut.ensures.value
    c.clear.ensures.cleared c.committed_mut-2.ensures.value

pub returns-then-not-pass_sectors-clause-room : goal.returns-then-not-pass_sectors-clause-room
returns-then-not-pass_sectors-clause-room c =
    values_over c.args.page (records_kept c.args.sectors.now) (among c.args.status.now.numbers)
    c.count_sectors.new.values c.args.frame.now c.committed_mut.result.now c.clear.new.map
    c.committed_mut-2.result.now c.count_sectors.ensures.values c.committed_mut.ensures.value
    c.clear.ensures.cleared c.committed_mut-2.ensures.value c.pass_sectors.new.coming
    c.pass_sectors.new.map (among c.args.active.now) c.if-not-pass_sectors.ensures.passed

pub set_sectors-requires : goal.set_sectors-requires
set_sectors-requires c =
    all_to_set c.args.page (records_kept c.args.sectors.now) (among c.args.active.now)
    c.count_sectors.new.changes _ c.count_sectors.ensures.changes c.requires.idle

pub returns-clause-room : goal.returns-clause-room
returns-clause-room c =
    let made =
    values_made c.args.page (records_kept c.args.sectors.now) (among c.args.status.now.numbers)
    c.count_sectors.new.values c.args.frame.now c.committed_mut.result.now c.clear.new.map
    c.committed_mut-2.result.now c.count_sectors.ensures.values c.committed_mut.ensures.value
    c.clear.ensures.cleared c.committed_mut-2.ensures.value c.pass_sectors.new.coming
    c.pass_sectors.new.map c.if-not-pass_sectors.ensures.passed in
    room_told c.args.page (records_kept c.args.sectors.now) (among c.args.active.now)
    c.count_sectors.new.changes _ c.count_sectors.ensures.changes c.requires.idle
    (among c.args.status.now.numbers) c.args.frame.now made c.set_sectors.new.coming
    c.set_sectors.new.frame c.set_sectors.result c.set_sectors.ensures.set
    c.set_sectors.ensures.room

pub returns-clause-taken : goal.returns-clause-taken
returns-clause-taken c =
    let made =
    values_made c.args.page (records_kept c.args.sectors.now) (among c.args.status.now.numbers)
    c.count_sectors.new.values c.args.frame.now c.committed_mut.result.now c.clear.new.map
    c.committed_mut-2.result.now c.count_sectors.ensures.values c.committed_mut.ensures.value
    c.clear.ensures.cleared c.committed_mut-2.ensures.value c.pass_sectors.new.coming
    c.pass_sectors.new.map c.if-not-pass_sectors.ensures.passed in
    all_taken c.args.page (records_kept c.args.sectors.now) (among c.args.active.now)
    c.count_sectors.new.changes _ c.count_sectors.ensures.changes c.requires.idle
    (among c.args.status.now.numbers) c.args.frame.now made c.set_sectors.new.coming
    c.set_sectors.new.frame c.set_sectors.result c.set_sectors.ensures.set
