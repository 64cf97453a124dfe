use Rattle.script_store.proofs.DoneLemmas.{any_done, on_ok_is_if}
use Rattle.script_store.proofs.WorkLemmas.{syntax_does}
use Rattle.script_store.proofs.store.ScriptStore.answer.Goals as goal

pub returns-in-Begin-clause-does : goal.returns-in-Begin-clause-does
returns-in-Begin-clause-does g c = rw c.in-Begin.is c.begin.ensures

pub returns-in-Begin-clause-done : goal.returns-in-Begin-clause-done
returns-in-Begin-clause-done g c = rw c.in-Begin.is (any_done c.begin.result)

pub returns-in-Get-clause-does : goal.returns-in-Get-clause-does
returns-in-Get-clause-does g c = rw c.in-Get.is c.get.ensures.does

pub returns-in-Get-clause-done : goal.returns-in-Get-clause-done
returns-in-Get-clause-done g c = rw c.in-Get.is c.get.ensures.done

pub returns-in-Share-clause-does : goal.returns-in-Share-clause-does
returns-in-Share-clause-does g c = rw c.in-Share.is c.share.ensures.does

pub returns-in-Share-clause-done : goal.returns-in-Share-clause-done
returns-in-Share-clause-done g c = rw c.in-Share.is c.share.ensures.done

pub returns-in-Put-clause-does : goal.returns-in-Put-clause-does
returns-in-Put-clause-does g c = rw c.in-Put.is c.put.ensures

pub returns-in-Put-clause-done : goal.returns-in-Put-clause-done
returns-in-Put-clause-done g c = rw c.in-Put.is (any_done c.put.result)

pub returns-in-Del-clause-does : goal.returns-in-Del-clause-does
returns-in-Del-clause-does g c = rw c.in-Del.is c.del.ensures

pub returns-in-Del-clause-done : goal.returns-in-Del-clause-done
returns-in-Del-clause-done g c = rw c.in-Del.is (any_done c.del.result)

pub returns-in-Commit-clause-does : goal.returns-in-Commit-clause-does
returns-in-Commit-clause-does g c = rw c.in-Commit.is c.commit.ensures

pub returns-in-Commit-clause-done : goal.returns-in-Commit-clause-done
returns-in-Commit-clause-done g c = rw c.in-Commit.is (any_done c.commit.result)

pub returns-in-Batch-clause-does : goal.returns-in-Batch-clause-does
returns-in-Batch-clause-does g c = rw c.in-Batch.is c.commit_all.ensures

pub returns-in-Batch-clause-done : goal.returns-in-Batch-clause-done
returns-in-Batch-clause-done g c = rw c.in-Batch.is (any_done c.commit_all.result)

pub returns-in-Abort-clause-does : goal.returns-in-Abort-clause-does
returns-in-Abort-clause-does g c = rw c.in-Abort.is c.abort.ensures

pub returns-in-Abort-clause-done : goal.returns-in-Abort-clause-done
returns-in-Abort-clause-done g c = rw c.in-Abort.is (any_done c.abort.result)

pub returns-in-Merge-clause-does : goal.returns-in-Merge-clause-does
returns-in-Merge-clause-does g c = rw c.in-Merge.is c.merge.ensures.does

pub returns-in-Merge-clause-done : goal.returns-in-Merge-clause-done
returns-in-Merge-clause-done g c = rw c.in-Merge.is c.merge.ensures.done

pub returns-in-Restart-clause-does : goal.returns-in-Restart-clause-does
returns-in-Restart-clause-does g c = rw c.in-Restart.is c.restart.ensures.does

pub returns-in-Restart-clause-done : goal.returns-in-Restart-clause-done
returns-in-Restart-clause-done g c = rw c.in-Restart.is (on_ok_is_if _ c.restart.result c.restart.ensures.done)

pub returns-in-Syntax-clause-does : goal.returns-in-Syntax-clause-does
returns-in-Syntax-clause-does g c =
    rw c.in-Syntax.is (λ known. syntax_does known c.args.self.now (g.C.Chip.told c.args.chip.now) c.requires.runs)

pub returns-in-Syntax-clause-done : goal.returns-in-Syntax-clause-done
returns-in-Syntax-clause-done g c = rw c.in-Syntax.is tt
