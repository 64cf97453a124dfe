use Rattle.std.proofs.Common.{IsSome, refl, sym, subst}
use Rattle.buffer_pool.specs.Index.{number_at}
use Rattle.buffer_pool.proofs.SoundLemmas.{within_index, number_stands, page_stands}
use Rattle.buffer_pool.proofs.pool.Pool.page_at.Goals as goal

pub key_at-requires : goal.key_at-requires
key_at-requires c =
    within_index c.self.inside c.args.self.now c.self.invariant c.self.view_is c.args.i c.requires

pub index-buffer-requires : goal.index-buffer-requires
index-buffer-requires c =
    let index = c.self.inside.index in
    let has = c.self.invariant.indexed.found (number_at index c.args.i) c.key_at.result
    c.key_at.ensures in
    subst IsSome (sym has.stored) refl

pub returns-clause-number : goal.returns-clause-number
returns-clause-number c =
    number_stands c.self.inside c.args.self.now c.self.invariant c.self.view_is c.args.i
    c.key_at.result c.index-buffer.result.now c.requires c.key_at.ensures c.index-buffer.ensures

pub returns-clause-page : goal.returns-clause-page
returns-clause-page c =
    (page_stands c.self.inside c.args.self.now c.self.invariant c.self.view_is c.key_at.result
    c.index-buffer.result.now c.index-buffer.ensures).0

pub returns-clause-there : goal.returns-clause-there
returns-clause-there c =
    (page_stands c.self.inside c.args.self.now c.self.invariant c.self.view_is c.key_at.result
    c.index-buffer.result.now c.index-buffer.ensures).1
