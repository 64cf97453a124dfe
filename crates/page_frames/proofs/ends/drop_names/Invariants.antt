use Rattle.std.proofs.Common.{take, map}
use Rattle.store_laws.specs.Frames.{IsAbortedFrame}
use Rattle.page_frames.specs.Views.{frames_of}
use Rattle.page_frames.specs.Changes.{KeepsPool}
use Rattle.store_laws.specs.NamedFrames.{NamedFramesChange}
use Rattle.page_frames.proofs.ends.drop_names.Given as goal

-- the frames of the names so far
abbrev pub invariant-loop-name : goal.invariant-loop-name
invariant-loop-name l =
    NamedFramesChange (IsAbortedFrame l.tid) (map (λ n. n.0) (take l.name-index l.names)) (frames_of l.fn.pool)
    (frames_of l.pool)
    × KeepsPool l.fn.pool l.pool
