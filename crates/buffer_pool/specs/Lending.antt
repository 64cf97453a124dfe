-- What a pool ends as, where a `&mut` to a part of a buffer is returned.
use Rattle.std.specs.Prelude.{ℕ, List, slice_set}
use Rattle.std.specs.Option.{option_map}
use Rattle.std.specs.Borrow.{Lends, MutBor, Fml}
use Rattle.ipl_format.specs.Record.{Record}
use Rattle.slab.specs.Slab.{Slab, get}
use Rattle.page_ops.specs.Frames.{FrameView}
use Rattle.page_ops.specs.contracts.frame.Frame.{the_row as frame_row}
use Rattle.mem_log_sector.specs.contracts.mem_log.MemLog.{the_row as log_row}
use Rattle.buffer_pool.specs.declared.pool.Buffer.{Buffer}
use Rattle.buffer_pool.specs.contracts.pool.Pool.{the_row}
use Rattle.buffer_pool.specs.Pools.{PoolView, with_buffers}

-- the buffers with the one under a key changed
abbrev pub changed_at : Slab Buffer → ℕ → (Buffer → Buffer) → Slab Buffer
changed_at buffers key change =
    record buffers { slots = slice_set buffers.slots key (option_map change (get buffers key)) }

-- the buffer with another frame, and with other records
abbrev pub with_frame : FrameView → Buffer → Buffer
with_frame frame buffer = record buffer { frame = frame }

abbrev pub with_log : List Record → Buffer → Buffer
with_log log buffer = record buffer { log = log }

-- the frame of the buffer under the key is what is written last through the result
abbrev pub LendsFrame : MutBor PoolView → ℕ → MutBor FrameView → Fml
LendsFrame p key r = Lends the_row frame_row p r
    (λ frame. with_buffers p.now (changed_at p.now.buffers key (with_frame frame)))

-- its records are
abbrev pub LendsLog : MutBor PoolView → ℕ → MutBor (List Record) → Fml
LendsLog p key r = Lends the_row log_row p r
    (λ log. with_buffers p.now (changed_at p.now.buffers key (with_log log)))
