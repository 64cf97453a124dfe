use Rattle.std.proofs.Common.{◌≡◌, ◌≤◌, ℕ, List, slice_index, false, Ok, Err, inr, refl, ◌∙◌, ap, arith}
use Rattle.std.proofs.lemmas.Result.{err_from_is_err_and}
use Rattle.ipl_meaning.specs.Chart.{chart_of}
use Rattle.chip_trait.specs.Told.{Told}
use Rattle.chip_trait.proofs.CountsLemmas.{counts_then}
use Rattle.unit_io.specs.Charts.{Spares}
use Rattle.unit_io.specs.Costs.{ProgramsAt, Spends}
use Rattle.unit_log.specs.Often.{ReadsListed}
use Rattle.unit_log.proofs.OftenLemmas.{often_before}
use Rattle.selective_merge.specs.Often.{page_sectors}
use Rattle.selective_merge.specs.Pages.{IsFew}
use Rattle.selective_merge.proofs.OftenLemmas.{page_often}
use Rattle.unit_io.specs.ReadsAt.{ReadsAt}
use Rattle.unit_io.proofs.CostLemmas.{spends_at_most}
use Rattle.selective_merge.specs.Homes.{from_home, MoveCause}
use Rattle.selective_merge.specs.Writing.{WritesPlace}
use Rattle.selective_merge.proofs.PlaceLemmas.{page_unmoved, stopped_unmoved}
use Rattle.selective_merge.proofs.PageMoveLemmas.{page_unread, page_moves, page_tells}
use Rattle.selective_merge.proofs.SpendLemmas.{spends_read, programs_behind}
use Rattle.selective_merge.proofs.ThroughoutLemmas.{page_asked_at}
use Rattle.selective_merge.proofs.UnbrokenLemmas.{unless_stopped}
use Rattle.unit_io.proofs.SparesLemmas.{spares_none, spares_behind}
use Rattle.selective_merge.specs.Faults.{page_fault_from}
use Rattle.ipl_base.specs.declared.fault.ChipFault.{ChipFault}
use Rattle.ipl_base.specs.declared.fault.ChipFault.TheVariants.{Malformed}
use Rattle.selective_merge.proofs.FaultLemmas.{fault_as, page_told, page_fine, page_full, tells_written}
use Rattle.selective_merge.proofs.MoveLemmas.{aside_none}
use Rattle.selective_merge.proofs.PageLemmas.{rebased_fits}
use Rattle.unit_io.specs.Spots.{IsPieceSpot}
use Rattle.selective_merge.proofs.TidyLemmas.{tidy_read, tidy_behind}
use Rattle.selective_merge.proofs.pages.move_page.Goals as goal

pub returns-in_err-read_page-clause-moves : goal.returns-in_err-read_page-clause-moves
returns-in_err-read_page-clause-moves g c =
    let old = g.C.Chip.told c.args.chip.now in
    let new = g.C.Chip.told c.read_page.new.chip in
    let from = from_home c.args.home.now c.args.status.now.numbers c.args.log.now in
    let e = err_from_is_err_and c.from_residual.result c.from_residual.ensures.1 in
    rw e.1 (page_unread old.places from c.args.place c.args.head.now.generation c.args.page e.0
    old new (page_asked_at {T = Unit {0}} from.place c.args.page c.from-count.result
    (Err c.in_err-read_page.field-0.0) old new
    c.in_err-read_page.ensures.reads.asks c.in_err-read_page.ensures.reads.accounts.counts))

pub returns-clause-moves : goal.returns-clause-moves
returns-clause-moves g c =
    let old = g.C.Chip.told c.args.chip.now in
    let mid = g.C.Chip.told c.read_page.new.chip in
    let late = g.C.Chip.told c.program_page.new.chip in
    let from = from_home c.args.home.now c.args.status.now.numbers c.args.log.now in
    let read = c.in_ok-read_page.ensures.reads in
    page_moves old.places from c.args.place c.args.head.now.generation c.args.page
    c.read_page.new.into c.make_anew.new.slots c.in-Some.ensures.makes.fits
    c.in-Some.ensures.makes.rebased old mid late
    (page_asked_at {T = Unit {0}} from.place c.args.page c.from-count.result (Ok tt) old mid read.asks
    read.accounts.counts) _ c.from-count.ensures c.args.head.now.unit c.requires.unit read.holds
    c.program_page.result c.program_page.ensures.keeps
    read.accounts.counts.places c.program_page.ensures.writes.accounts.cause

pub returns-clause-tells : goal.returns-clause-tells
returns-clause-tells g c =
    let old = g.C.Chip.told c.args.chip.now in
    let mid = g.C.Chip.told c.read_page.new.chip in
    let late = g.C.Chip.told c.program_page.new.chip in
    let from = from_home c.args.home.now c.args.status.now.numbers c.args.log.now in
    let read = c.in_ok-read_page.ensures.reads in
    page_tells old.places from c.args.place c.args.head.now.generation c.args.page
    c.read_page.new.into c.make_anew.new.slots c.in-Some.ensures.makes.fits
    c.in-Some.ensures.makes.rebased old mid late
    (page_asked_at {T = Unit {0}} from.place c.args.page c.from-count.result (Ok tt) old mid read.asks
    read.accounts.counts) _ c.from-count.ensures c.args.head.now.unit c.requires.unit read.holds
    c.program_page.result c.program_page.ensures.adds.tells c.program_page.ensures.writes.accounts.cause

pub returns-in_err-read_page-clause-fault : goal.returns-in_err-read_page-clause-fault
returns-in_err-read_page-clause-fault g c = λ x told.
    let from = from_home c.args.home.now c.args.status.now.numbers c.args.log.now in
    let e = err_from_is_err_and c.from_residual.result c.from_residual.ensures.1 in
    rw e.1 (fault_as _ e.0 c.in_err-read_page.field-0.0 e.2
    (page_told x from c.args.page c.from-count.result c.in_err-read_page.field-0.0
    c.from-count.ensures (c.in_err-read_page.ensures.reads.exact x told)))

pub returns-clause-fault : goal.returns-clause-fault
returns-clause-fault g c = λ x told.
    let from = from_home c.args.home.now c.args.status.now.numbers c.args.log.now in
    tells_written (page_fault_from x from c.args.page) (g.C.Chip.told c.read_page.new.chip)
    (g.C.Chip.told c.program_page.new.chip) c.program_page.result
    (page_fine x from c.args.page c.from-count.result c.read_page.new.into c.from-count.ensures
    (c.in_ok-read_page.ensures.reads.holds x told)
    (rebased_fits from.committed from.records c.args.page c.read_page.new.into c.make_anew.new.slots
    c.in-Some.ensures.makes.rebased c.in-Some.ensures.makes.fits))
    c.program_page.ensures.writes.accounts.cause

-- ---- no room

pub returns-in_default-clause-moves : goal.returns-in_default-clause-moves
returns-in_default-clause-moves g c =
    let old = g.C.Chip.told c.args.chip.now in
    let new = g.C.Chip.told c.read_page.new.chip in
    let from = from_home c.args.home.now c.args.status.now.numbers c.args.log.now in
    let read = c.in_ok-read_page.ensures.reads in
    page_unread old.places from c.args.place c.args.head.now.generation c.args.page
    (Malformed from.place 0) old new (page_asked_at {T = Unit {0}} from.place c.args.page
    c.from-count.result (Ok tt) old new read.asks read.accounts.counts)

pub returns-in_default-clause-tells : goal.returns-in_default-clause-tells
returns-in_default-clause-tells g c =
    let old = g.C.Chip.told c.args.chip.now in
    let new = g.C.Chip.told c.read_page.new.chip in
    let read = c.in_ok-read_page.ensures.reads in
    λ soft x told. (
      x,
      (page_asked_at {T = Unit {0}} c.args.home.now.place c.args.page c.from-count.result (Ok tt)
          old new read.asks read.accounts.counts).contents ∙ told,
      aside_none c.args.place (chart_of x),
    )

pub returns-in_default-clause-fault : goal.returns-in_default-clause-fault
returns-in_default-clause-fault g c = λ x told alone.
    page_full x (from_home c.args.home.now c.args.status.now.numbers c.args.log.now) c.args.page
    c.from-count.result c.read_page.new.into c.from-count.ensures
    (c.in_ok-read_page.ensures.reads.holds x told) c.in_default.ensures.makes.full

-- ---- what is spent

-- a page has few pieces
few_pieces : (pieces : List ℕ) (page n : ℕ) → IsFew pieces → n ≡ slice_index pieces page → n ≤ 16
few_pieces pieces page n few is =
    let most : slice_index pieces page ≤ 16 = few page in omega (arith, most, is)

-- nothing, where the page isn't moved
unmoved : (At : ℕ → ℕ → Type 0) (place p page : ℕ) (fault : ChipFault) (old new : Told) → ReadsAt At old new
    → Spends (ReadsListed (page_sectors place page)) old new → MoveCause place fault old new
    → WritesPlace {T = ℕ} p (ProgramsAt p 16 0 4) (IsPieceSpot page 16) (page_sectors place page) (MoveCause place)
    (Err fault) old new
unmoved At place p page fault old new reads often cause = record {
  spares = λ held. spares_none p old new reads.contents;
  costs = spends_at_most p 0 16 0 0 4 old new (omega arith) (omega arith) (spends_read At p 4 old new reads);
  tidy = tidy_read At p (IsPieceSpot page 16) false old new reads;
  reads = often;
  accounts = record { counts = reads.counts; cause = cause };
}

pub returns-in_err-read_page-clause-spends : goal.returns-in_err-read_page-clause-spends
returns-in_err-read_page-clause-spends g c =
    let old = g.C.Chip.told c.args.chip.now in
    let new = g.C.Chip.told c.read_page.new.chip in
    let home = c.args.home.now.place in
    let fault = c.in_err-read_page.field-0.0 in
    let unread = c.in_err-read_page.ensures.reads in
    let e = err_from_is_err_and c.from_residual.result c.from_residual.ensures.1 in
    rw (e.1 ∙ ap Err e.2) (unmoved _ home c.args.place c.args.page fault old new
    (page_asked_at {T = Unit {0}} home c.args.page c.from-count.result (Err fault) old new unread.asks
    unread.accounts.counts)
    (page_often {T = Unit {0}} home c.args.page c.from-count.result (Err fault) old new
    (few_pieces c.args.home.now.pieces c.args.page c.from-count.result c.requires.few c.from-count.ensures)
    unread.asks)
    (page_unmoved home c.args.page fault old new c.requires.page unread.accounts.cause))

pub returns-in_default-clause-spends : goal.returns-in_default-clause-spends
returns-in_default-clause-spends g c =
    let old = g.C.Chip.told c.args.chip.now in
    let new = g.C.Chip.told c.read_page.new.chip in
    let home = c.args.home.now.place in
    let read = c.in_ok-read_page.ensures.reads in
    unmoved _ home c.args.place c.args.page (Malformed home 0) old new
    (page_asked_at {T = Unit {0}} home c.args.page c.from-count.result (Ok tt) old new read.asks
    read.accounts.counts)
    (page_often {T = Unit {0}} home c.args.page c.from-count.result (Ok tt) old new
    (few_pieces c.args.home.now.pieces c.args.page c.from-count.result c.requires.few c.from-count.ensures)
    read.asks) (refl, inr refl)

pub returns-clause-spends : goal.returns-clause-spends
returns-clause-spends g c =
    let old = g.C.Chip.told c.args.chip.now in
    let mid = g.C.Chip.told c.read_page.new.chip in
    let new = g.C.Chip.told c.program_page.new.chip in
    let home = c.args.home.now.place in
    let p = c.args.place in
    let read = c.in_ok-read_page.ensures.reads in
    let wrote = c.program_page.ensures in
    let reads = page_asked_at {T = Unit {0}} home c.args.page c.from-count.result (Ok tt) old mid read.asks
    read.accounts.counts in record {
      spares = unless_stopped (Spares p old new) c.program_page.result mid new wrote.writes.accounts.cause
          (spares_behind p old mid new c.program_page.result (spares_none p old mid reads.contents)
          wrote.adds.spares);
      costs = programs_behind _ p 16 4 old mid new reads wrote.writes.costs;
      tidy = tidy_behind _ p (IsPieceSpot c.args.page 16) _ old mid new reads wrote.writes.tidy;
      reads = often_before (page_sectors home c.args.page) old mid new
          (page_often {T = Unit {0}} home c.args.page c.from-count.result (Ok tt) old mid
          (few_pieces c.args.home.now.pieces c.args.page c.from-count.result c.requires.few c.from-count.ensures)
          read.asks) wrote.writes.unread;
      accounts = record {
        counts = counts_then old mid new read.accounts.counts wrote.writes.accounts.counts;
        cause = stopped_unmoved home c.program_page.result old mid new read.accounts.counts wrote.writes.accounts.cause;
      };
    }
