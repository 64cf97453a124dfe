use Rattle.keys_example.proofs.StayLemmas.{session_stays, key_stays}
use Rattle.keys_example.proofs.serving.command_done.Goals as goal

pub returns-in-Begin : goal.returns-in-Begin
returns-in-Begin g c = session_stays c.begin.result c.begin.ensures.calls

pub returns-in-Put : goal.returns-in-Put
returns-in-Put g c = key_stays c.put.ensures.calls

pub returns-in-Del : goal.returns-in-Del
returns-in-Del g c = key_stays c.del.ensures.calls

pub returns-in-Commit : goal.returns-in-Commit
returns-in-Commit g c = session_stays c.commit.result c.commit.ensures.calls

pub returns-in-Abort : goal.returns-in-Abort
returns-in-Abort g c = session_stays c.abort.result c.abort.ensures.calls
