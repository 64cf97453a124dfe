use Rattle.sector_format.proofs.ListLemmas.{put_copied}
use Rattle.sector_format.proofs.encoding.copy_payload.Goals as goal

pub returns : goal.returns
returns c = put_copied 32 _ c.args.out.now c.copy_from_slice.new.self c.args.payload.now c.copy_from_slice.ensures.after
