use Rattle.txn_status.proofs.RoomLemmas.{clean_is_room}
use Rattle.txn_status.proofs.SetLemmas.{mirrors_looks_at_the_set}
use Rattle.txn_status.proofs.laws.status_laws.Goals as goal

pub returns : goal.returns
returns c = record { set = mirrors_looks_at_the_set; room = clean_is_room }
