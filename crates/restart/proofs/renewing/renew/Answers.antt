use Rattle.std.proofs.lemmas.Bool.{false≢true}
use Rattle.restart.proofs.renewing.renew.Goals as goal

pub renew_with-requires-clause-exact : goal.renew_with-requires-clause-exact
renew_with-requires-clause-exact g c = λ no. absurd (false≢true no)
