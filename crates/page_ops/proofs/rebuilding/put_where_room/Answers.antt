use Rattle.page_ops.proofs.RoomLemmas.{no_room}
use Rattle.page_ops.proofs.rebuilding.put_where_room.Goals as goal

pub returns-then-not-has_room-clause-full : goal.returns-then-not-has_room-clause-full
returns-then-not-has_room-clause-full c =
    no_room c.args.map.now c.args.slot c.args.value.now c.text.ensures.text.slots
    c.if-not-has_room.ensures
