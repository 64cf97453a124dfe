-- What is read beyond the headers, by these: what that takes, and what is found.
use Rattle.std.specs.Prelude.{ℕ, ◌≡◌, ◌<◌, ◌≤◌, ◌*◌, ◌^◌, Bool, true, false, length, Some}
use Rattle.chip_trait.specs.Told.{Told}
use Rattle.ipl_base.specs.Places.{KeepsUnits}
use Rattle.ipl_meaning.specs.Chart.{chart_of}
use Rattle.unit_io.specs.Reads.{OfContents}
use Rattle.txn_status.specs.ReadingIn.{status_in}
use Rattle.ipl_meaning.specs.First.{at, count_below}
use Rattle.ipl_meaning.specs.Chosen.{Winner, units_told}
use Rattle.ipl_meaning.specs.Live.{marks as live_marks}
use Rattle.restart.specs.declared.collecting.Gathered.{Gathered}
use Rattle.restart.specs.declared.findings.Aim.{Aim}
use Rattle.restart.specs.declared.findings.Findings.{Findings}
use Rattle.restart.specs.declared.findings.Heads.{Heads}
use Rattle.restart.specs.Bytes.{IsRestWhole}
use Rattle.restart.specs.Notes.{NotesHaveRoom, AreSized, AreInUse, IsNoted}
use Rattle.restart.specs.Masked.{NoneNamed, mask_by, IsMasked}
use Rattle.restart.specs.Joins.{kept_of}
use Rattle.restart.specs.Collected.{numbers_below, AreKept}
use Rattle.restart.specs.Counted.{NoneKnown, AreHomes, AreReadLogs, mark_for}
use Rattle.restart.specs.Shown.{is_held, number_by}

-- the headers are of a chip of so many places, and those that count are of as many units as the status header says, and
-- as may be kept there
pub record HaveHeaders (places : ℕ) (told : Told) (headers : Heads) (status : Winner) : Type 0 where
  pub size : places ≡ told.places
  pub heads : length headers.all.now ≡ places
  pub keeps : KeepsUnits places (length headers.current.now)
  pub winner : status.place < places
  pub units : length headers.current.now ≡ units_told places (Some status)

-- before log sectors are read: there is room for what is noted and listed, the directory has so many units, no log
-- sector at home names a page, and the flags of numbers were made for the status
pub record AreUnread (places : ℕ) (heads : Heads) (it : Findings) : Type 0 where
  pub noted : NotesHaveRoom places it.noted.now
  pub overflow : it.overflow.now.places ≡ places
  pub units : length it.directory.now.current ≡ length heads.current.now
  pub blank : NoneNamed (length heads.current.now) it.directory.now
  pub flags : it.numbers.now.room ≡ it.status.now.most

-- Of what the chip holds: the greatest number, the committed numbers, the live log sectors with the pages that they
-- name, what the close mark says of log sectors where marks count, and the status are found, and what was read is whole.
pub record FindsRest (places : ℕ) (told : Told) (marks : Bool) (heads : Heads) (winner : Winner) (all : Gathered)
    (it : Findings) : Type 0 where
  pub number : OfContents told (λ x. all.greatest
      ≡ number_by (chart_of x) (at heads.all.now) (at heads.current.now) (Some winner) places)
  pub collected : OfContents told (λ x. AreKept (numbers_below it.status.now.numbers
      (at heads.all.now) (at heads.current.now) (chart_of x) (places * 256)) all.fits (kept_of it.status.now.numbers it.numbers.now))
  pub noted : OfContents told (λ x. IsNoted it.noted.now it.overflow.now
      (live_marks (at heads.all.now) (at heads.current.now) (chart_of x) (places * 256)))
  pub masked : OfContents told (λ x. IsMasked (at heads.all.now) (at heads.current.now)
      (mask_by (at heads.all.now) (at heads.current.now) (chart_of x)) (places * 256)
      it.directory.now it.overflow.now)
  pub logs : OfContents told (λ x. AreHomes (at heads.all.now) (at heads.current.now)
      → AreReadLogs x (mark_for marks (chart_of x) (Some winner)) (at heads.current.now)
      (length heads.current.now) (places * 256) it.directory.now)
  pub status : OfContents told (λ x. it.status.now
      ≡ status_in it.status.now.most (chart_of x) winner.place winner.head.generation)
  pub whole : OfContents told (λ x. IsRestWhole x places heads.all.now heads.current.now winner)

-- Whatever the chip tells: nothing is known of log sectors where marks don't count, no sector of the status place is
-- known clean, numbers are left where some will be drawn, at most two overflow places hold live log sectors, these are
-- in use, and all is of so many places.
pub record FillsTables (places : ℕ) (heads : Heads) (winner : Winner) (aim : Aim) (greatest : ℕ) (it : Findings)
    : Type 0 where
  pub unmarked : aim.marks ≡ false → NoneKnown (length heads.current.now) it.directory.now
  pub placed : it.status.now.place ≡ winner.place
  pub unclean : it.status.now.first ≡ 256
  pub left : aim.draws ≡ true → greatest < 2 ^ 63
  pub two : count_below (is_held heads.all.now it.noted.now) (length heads.all.now) ≤ 2
  pub in_use : AreInUse heads.all.now it.noted.now it.overflow.now
  pub sized : AreSized (length heads.current.now) places it.noted.now it.overflow.now
