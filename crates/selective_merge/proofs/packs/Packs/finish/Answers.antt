use Rattle.std.proofs.Common.{◌≡◌, length}
use Rattle.selective_merge.proofs.CarryLemmas.{finished_none, finished_some, finished_full}
use Rattle.selective_merge.proofs.RecordTestLemmas.{empty_is, some_is, on_true_by, on_false_by}
use Rattle.selective_merge.proofs.packs.Packs.finish.Goals as goal

pub returns-then-is_empty-clause-done : goal.returns-then-is_empty-clause-done
returns-then-is_empty-clause-done c = λ full spelled.
    let none : length c.args.self.now.last.bytes ≡ 0 =
    empty_is _ _ _ c.is_empty.ensures c.if-is_empty.true c.bytes.ensures.value in
    finished_none c.args.self.now.closed.items full c.args.self.now.last spelled none

pub returns-clause-done : goal.returns-clause-done
returns-clause-done c = λ full spelled.
    on_true_by c.close.result _ _ (λ is. finished_some c.args.self.now.closed.items _ full
    c.args.self.now.last spelled (some_is _ _ _ c.is_empty.ensures c.if-is_empty.false
    c.bytes.ensures.value) is) c.close.ensures.closed

pub returns-clause-full : goal.returns-clause-full
returns-clause-full c = λ full spelled.
    on_false_by c.close.result _ _ (λ is. finished_full c.args.self.now.closed.items full
    c.args.self.now.last spelled (some_is _ _ _ c.is_empty.ensures c.if-is_empty.false
    c.bytes.ensures.value) is) c.close.ensures.full
