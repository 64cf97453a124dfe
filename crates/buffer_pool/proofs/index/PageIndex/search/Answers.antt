use Rattle.std.proofs.Common.{rules}
use Rattle.std.proofs.lemmas.List.Sorted.{answers_always}
use Rattle.buffer_pool.proofs.IndexLemmas.{searched}
use Rattle.buffer_pool.proofs.index.PageIndex.search.Goals as goal

-- the closure gives an entry's number, and the slice is the entries
pub returns : goal.returns
returns c =
    let facts = c.binary_search_by_key.ensures in
    let by_number = facts.position (λ e. e.0) (answers_always _ _ _ (λ f a r g called. search rules)) in
    rw (← c.self.view_is, ← c.as_slice.ensures.value)
    (searched c.as_slice.result.now (rw c.as_slice.ensures.value c.self.invariant) c.args.number
    c.binary_search_by_key.result facts.bound by_number)
