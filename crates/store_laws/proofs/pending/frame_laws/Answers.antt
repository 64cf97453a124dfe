use Rattle.store_laws.proofs.FrameLemmas.{frames_tell, begins_keep_frames, writes_keep_frames, log_sectors_keep_frames, merges_keep_frames, other_steps_keep_frames}
use Rattle.store_laws.proofs.FrameEndLemmas.{commits_keep_frames, aborts_keep_frames}
use Rattle.store_laws.proofs.pending.frame_laws.Goals as goal

pub returns-clause-tells : goal.returns-clause-tells
returns-clause-tells c = frames_tell

pub returns-clause-begins : goal.returns-clause-begins
returns-clause-begins c = begins_keep_frames

pub returns-clause-writes : goal.returns-clause-writes
returns-clause-writes c = writes_keep_frames

pub returns-clause-log_sectors : goal.returns-clause-log_sectors
returns-clause-log_sectors c = log_sectors_keep_frames

pub returns-clause-merges : goal.returns-clause-merges
returns-clause-merges c = merges_keep_frames

pub returns-clause-other_steps : goal.returns-clause-other_steps
returns-clause-other_steps c = other_steps_keep_frames

pub returns-clause-commits : goal.returns-clause-commits
returns-clause-commits c = commits_keep_frames

pub returns-clause-aborts : goal.returns-clause-aborts
returns-clause-aborts c = aborts_keep_frames
