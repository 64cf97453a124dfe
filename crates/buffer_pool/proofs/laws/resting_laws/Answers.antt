use Rattle.buffer_pool.proofs.HoldingLemmas.{empty_rests, may_pin_at_rest, room_at_rest}
use Rattle.buffer_pool.proofs.laws.resting_laws.Goals as goal

pub returns : goal.returns
returns c = record {
  empty = empty_rests;
  may_pin = may_pin_at_rest;
  room = room_at_rest;
}
