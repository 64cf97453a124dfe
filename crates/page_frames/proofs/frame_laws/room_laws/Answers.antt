use Rattle.page_frames.proofs.FrameRoomLemmas.{puts_by_peaks_have_room}
use Rattle.page_frames.proofs.frame_laws.room_laws.Goals as goal

pub returns : goal.returns
returns c = puts_by_peaks_have_room
