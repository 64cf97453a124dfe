use Rattle.std.proofs.Common.{◌∙◌, ap}
use Rattle.buffer_pool.specs.Index.{key_of}
use Rattle.buffer_pool.proofs.SoundLemmas.{told_of}
use Rattle.buffer_pool.proofs.pool.Pool.find.Goals as goal

pub returns-clause-found : goal.returns-clause-found
returns-clause-found c =
    let is = c.find.ensures ∙ ap (key_of c.self.inside.index) c.page_number.ensures in
    (told_of c.self.inside c.args.self.now c.self.invariant c.self.view_is c.args.unit c.args.page
    c.find.result c.requires is).0
