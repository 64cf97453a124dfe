-- Pages in frames over the tables of a chip, as contracts see them, and what their calls leave.
use Rattle.std.specs.Prelude.{ℕ, ◌≡◌, ◌⊎◌, ◌≤◌, ◌<◌, ◌+◌, [], length, IsSome, Some, Result, Ok, Err, OnOk, is_ok}
use Rattle.std.specs.Option.{option_map}
use Rattle.chip_trait.specs.Told.{Told}
use Rattle.ipl_base.specs.declared.fault.ChipFault.{ChipFault}
use Rattle.ipl_meaning.specs.Chart.{chart_of}
use Rattle.ipl_meaning.specs.Layout.{Layout}
use Rattle.ipl_meaning.specs.Mirrors.{Mirrors}
use Rattle.ipl_meaning.specs.Tables.{Places, Tables}
use Rattle.unit_io.specs.Reads.{OfContents}
use Rattle.slab.specs.Slab.{slab_len}
use Rattle.buffer_pool.specs.Holding.{IsAtRest, KeepsPins}
use Rattle.buffer_pool.specs.Uses.{CountsNoOther, IsUsedFirst, IsUsedLast, UsesPage}
use Rattle.place_taking.specs.Spending.{is_worn_out}
use Rattle.place_taking.specs.Wear.{TellsOfWear}
use Rattle.selective_merge.specs.Known.{KnowsPlaces}
use Rattle.selective_merge.specs.Moving.{tables_of}
use Rattle.restart.specs.Passes.{RenewCause}
use Rattle.unit_io.specs.Accounts.{Accounts}
use Rattle.unit_io.specs.Steps.{Tidies}
use Rattle.store_laws.specs.Advances.{KeepsState}
use Rattle.store_laws.specs.Frames.{PageFrame, Frames, with_frame_at, with_frame_log}
use Rattle.number_set.specs.Numbers.{among}
use Rattle.page_ops.specs.Frames.{FrameView}
use Rattle.page_rebuild.specs.Loaded.{IsLoaded}
use Rattle.store_laws.specs.Views.{frame_of}
use Rattle.page_frames.specs.Views.{frames_of}
use Rattle.page_frames.specs.declared.pages.Pages.{Pages}

-- ---- what is seen

abbrev pub tables_in : Pages → Tables
tables_in pages = tables_of pages.parts

abbrev pub frames_in : Pages → Frames
frames_in pages = frames_of pages.pool

-- the page is in a frame
abbrev pub IsFramed : Pages → ℕ → ℕ → Type 0
IsFramed pages u page = IsSome (frames_in pages u page)

-- a page of one of the chip's units
pub record IsPageOf (pages : Pages) (u page : ℕ) : Type 0 where
  pub unit : u < length pages.parts.directory.current
  pub few : page < 15

-- pages that are in frames stay in them
abbrev pub KeepsFramed : Pages → Pages → Type 0
KeepsFramed old new = (u page : ℕ) → IsFramed old u page → IsFramed new u page

-- a frame is free
abbrev pub HasFreeFrame : Pages → Type 0
HasFreeFrame pages = slab_len pages.pool.buffers < pages.pool.limit

-- Where the page is in a frame or a frame is free, pages that are in frames stay in them. A page that
-- leaves its frame isn't held, and of such pages none was used longer ago. No use of another page is
-- counted.
pub record KeepsFramedFor (u page : ℕ) (old new : Pages) : Type 0 where
  pub stay : (IsFramed old u page ⊎ HasFreeFrame old) → KeepsFramed old new
  pub leaves : (v q : ℕ) → IsFramed old v q → ¬ IsFramed new v q → IsUsedFirst old.pool v q
  pub uses : CountsNoOther u page old.pool new.pool

-- Done, the page is in a frame, as the one used last; and however it ends, other pages stay in their frames but
-- for one that may have had to leave its.
pub record FramesPage {T E : Type 0} (u page : ℕ) (result : Result T E) (old new : Pages) : Type 0 where
  pub framed : OnOk result (IsFramed new u page)
  pub used : OnOk result (IsUsedLast new.pool u page)
  pub stays : KeepsFramedFor u page old new

-- a use of a page in a frame is counted, and nothing else changes
pub record OnlyUses (u page : ℕ) (old new : Pages) : Type 0 where
  pub parts : new.parts ≡ old.parts
  pub pool : UsesPage old.pool new.pool u page

-- the page is in a frame, with no records in memory
abbrev pub IsCleanFrame : Pages → ℕ → ℕ → Type 0
IsCleanFrame pages u page = (f : PageFrame) × (frames_in pages u page ≡ Some f) × (f.log ≡ [])

-- the page's frame, where it had one, has the same values
abbrev pub KeepsValues : ℕ → ℕ → Pages → Pages → Type 0
KeepsValues u page old new = (f : PageFrame) → frames_in old u page ≡ Some f
    → (g : PageFrame) × (frames_in new u page ≡ Some g) × (g.values ≡ f.values)

-- ---- what always holds between calls

-- The tables know each place, pages in frames are of their units, and fewer pages are held than there are
-- frames.
pub record ArePagesReady (places : ℕ) (pages : Pages) : Type 0 where
  pub known : KnowsPlaces places (tables_in pages)
  pub within : (u page : ℕ) (f : PageFrame) → frames_in pages u page ≡ Some f
      → u < length pages.parts.directory.current
  pub rest : IsAtRest pages.pool

-- ---- causes

-- why a call fails, whatever the chip tells: a read or a write failed, or more places are worn than are
-- spare, by the directory then, and its count rose; or a sector isn't what it must be, and where it is
-- damaged it is a base sector whose sums differ
abbrev pub PageCause : Places → ChipFault → Told → Told → Type 0
PageCause = RenewCause

-- ---- what each call keeps

-- A call that keeps each state for which tables and frames stand, however it ends. Whatever the chip
-- tells: its events are lawful by the tables, what is retired besides was found worn, a unit whose place
-- was erased is known, there are as many units, as many committed numbers have room, the same sessions are
-- open, the same pages are held, at most so many numbers were drawn, and a fault has its cause.
pub record Upholds {T : Type 0} (most : ℕ) (old : Pages) (before : Told) (result : Result T ChipFault)
    (new : Pages) (after : Told) : Type 0 where
  pub keeps : KeepsState (tables_in old) (frames_in old) before result
      (tables_in new) (frames_in new) after
  pub tidy : Tidies (tables_in old) result (tables_in new) before after
  pub wears : TellsOfWear (tables_in old) (tables_in new) (is_ok result) (is_worn_out result) before after
  pub ready : ArePagesReady before.places new
  pub units : length new.parts.directory.current ≡ length old.parts.directory.current
  pub room : new.parts.status.most ≡ old.parts.status.most
  pub active : new.parts.active ≡ old.parts.active
  pub pins : KeepsPins old.pool new.pool
  pub least : old.parts.counter ≤ new.parts.counter
  pub drawn : new.parts.counter ≤ old.parts.counter + most
  pub accounts : Accounts (PageCause new.parts.directory) result before after

-- ---- frames after a call

-- the records of the page that were in memory are written out
abbrev pub emptied : Frames → ℕ → ℕ → Frames
emptied frames u page =
    with_frame_at frames u page (option_map (λ f. with_frame_log f []) (frames u page))

-- and where the call failed the frames are as they were
abbrev pub frames_after : {T E : Type 0} → Result T E → Frames → ℕ → ℕ → Frames
frames_after (Ok v) frames u page = emptied frames u page
frames_after (Err e) frames u page = frames

-- The page's frame was written, with no records in memory. Done, it has what the chip says of the page,
-- where the tables mirror that.
pub record LoadsFrame {T E : Type 0} (result : Result T E) (told : Told) (t : Tables) (u page : ℕ)
    (old new : Frames) : Type 0 where
  pub view : FrameView
  pub frames : new ≡ with_frame_at old u page (Some (frame_of view []))
  pub loaded : OnOk result (OfContents told (λ x. (it : Layout) → Mirrors told.places (chart_of x) it t
      → IsLoaded (chart_of x) it (among t.active) u page view))

-- the page is in a frame that was free, with no records in memory; or the frames are as they were
-- where the call failed
abbrev pub BringsPage : {T E : Type 0} → Result T E → ℕ → ℕ → Frames → Frames → Type 0
BringsPage (Ok v) u page old new =
    (f : PageFrame) × (f.log ≡ []) × (new ≡ with_frame_at old u page (Some f))
BringsPage (Err e) u page old new = new ≡ old
