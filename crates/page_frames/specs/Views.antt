-- The frames of a pool, as the condition of a store sees them.
use Rattle.std.specs.Option.{option_map}
use Rattle.buffer_pool.specs.declared.pool.Buffer.{Buffer}
use Rattle.buffer_pool.specs.Pools.{PoolView}
use Rattle.buffer_pool.specs.Laws.{buffer_of}
use Rattle.store_laws.specs.Frames.{PageFrame, Frames}
use Rattle.store_laws.specs.Views.{frame_of}

-- the frame of a buffer's page: what the buffer has in its frame, and its records
abbrev pub frame_in : Buffer → PageFrame
frame_in b = frame_of b.frame b.log

-- the frame of each page that is in one
abbrev pub frames_of : PoolView → Frames
frames_of p u page = option_map frame_in (buffer_of p.buffers u page)
