use Rattle.selective_merge.proofs.PacksLemmas.{among_test}
use Rattle.selective_merge.proofs.pages.is_committed.Goals as goal

pub returns : goal.returns
returns c =
    among_test c.is_committed.result c.args.status.now.numbers c.args.tid c.is_committed.ensures
