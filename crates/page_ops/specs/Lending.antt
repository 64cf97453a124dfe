-- What a frame ends as, where its page is lent.
use Rattle.std.specs.Borrow.{Lends, MutBor, Fml}
use Rattle.ipl_format.specs.Page.{Slots}
use Rattle.page_text.specs.contracts.map.PageMap.{the_row as page_row}
use Rattle.page_ops.specs.contracts.frame.Frame.{the_row}
use Rattle.page_ops.specs.Frames.{FrameView, with_page}

-- the frame has the page that is written last through the result, and its pending changes stay
abbrev pub LendsPage : MutBor FrameView → MutBor Slots → Fml
LendsPage f page = Lends the_row page_row f page (with_page f.now)
