use Rattle.txn_status.proofs.RoomLemmas.{unclean_sound}
use Rattle.txn_status.proofs.status.Status.read_under.Goals as goal

pub invariant_of-self : goal.invariant_of-self
invariant_of-self g c = unclean_sound _ _ _ c.self.invariant c.read_commits-answer.ensures.most
    c.rises.ensures.rising c.rises.ensures.few c.read_commits-answer.ensures.few

pub invariant_of-self-in-Ok-None : goal.invariant_of-self-in-Ok-None
invariant_of-self-in-Ok-None g c = unclean_sound _ _ _ c.self.invariant c.read_commits-answer.ensures.most
    c.rises.ensures.rising c.rises.ensures.few c.read_commits-answer.ensures.few

pub invariant_of-self-in-Err : goal.invariant_of-self-in-Err
invariant_of-self-in-Err g c = unclean_sound _ _ _ c.self.invariant c.read_commits-answer.ensures.most
    c.rises.ensures.rising c.rises.ensures.few c.read_commits-answer.ensures.few
