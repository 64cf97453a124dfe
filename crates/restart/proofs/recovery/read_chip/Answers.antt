use Rattle.std.proofs.Common.{Bool, Option, [], false, ◌≡◌, ◌<◌, ◌∙◌, ◌+◌, ◌*◌, ℕ, List, Some, take, get_or, refl, ap, arith, Ok, length, true, sym, subst}
use Rattle.std.proofs.lemmas.List.{length-take-le}
use Rattle.ipl_meaning.specs.Chart.{chart_of}
use Rattle.ipl_meaning.specs.First.{at, all_below, count_below}
use Rattle.ipl_meaning.specs.FoundLogs.{overflow_at}
use Rattle.ipl_meaning.proofs.TellsLemmas.{tells_again}
use Rattle.ipl_meaning.proofs.OpenedLemmas.{opened_tables_mirror}
use Rattle.unit_layout.specs.Retired.{may_be_retired}
use Rattle.restart.specs.Kept.{retired_of}
use Rattle.restart.specs.Shown.{ShowsHeaders, is_held}
use Rattle.restart.proofs.LookLemmas.{reads_then, told_for, cause_in, looks_again, looks_done, looks_for, looks_in, looks_many}
use Rattle.txn_status.specs.ReadingIn.{numbers_at}
use Rattle.restart.specs.Looks.{numbers_in}
use Rattle.restart.proofs.CommitLemmas.{opened_status}
use Rattle.restart.proofs.OpenLemmas.{AreFound, are_found, shows_found, status_low, current_low, are_homes, all_tells, used_of, opened, has_free, read_bytes, laid}
use Rattle.restart.proofs.CountLemmas.{counted_of, header_kinds}
use Rattle.restart.proofs.SpentLemmas.{header_unspent, tells_unspent, headers_tell_first, failed_bytes}
use Rattle.restart.proofs.InUseLemmas.{none_left, used_in_use}
use Rattle.restart.proofs.OverflowLemmas.{opened_overflow}
use Rattle.restart.proofs.KnownLemmas.{knows_places}
use Rattle.restart.proofs.FillLemmas.{used_still, adopted_then}
use Rattle.restart.proofs.RetireLemmas.{AreAside, all_aside, listed_within}
use Rattle.restart.proofs.OpenedMaskLemmas.{opened_masks}
use Rattle.restart.specs.Joins.{kept_of}
use Rattle.restart.proofs.OpenedNumbersLemmas.{all_collected}
use Rattle.restart.proofs.CleanLemmas.{unmarked, counts_marked, counts_exactly, knows_whole}
use Rattle.restart.specs.Counted.{IsReadLog, AreReadLogs, mark_for}
use Rattle.restart.proofs.CountedLogLemmas.{read_opened}
use Rattle.ipl_meaning.specs.Opened.{IsOpenedLog, AreOpened, tables_of}
use Rattle.ipl_meaning.specs.Marked.{last_close_mark}
use Rattle.ipl_meaning.specs.Layout.{Laid}
use Rattle.ipl_meaning.specs.Mirrors.{Mirrors}
use Rattle.ipl_meaning.specs.LaidOut.{layout_in}
use Rattle.unit_io.specs.Reads.{OfContents}
use Rattle.restart.proofs.OnceLemmas.{headers_alone, all_once, status_unlogged}
use Rattle.ipl_meaning.specs.Tables.{OverflowLists, Tables}
use Rattle.selective_merge.specs.Known.{KnowsPlaces}
use Rattle.ipl_meaning.specs.Chosen.{KeptHeader, Winner}
use Rattle.restart.specs.Collected.{AreCollected}
use Rattle.restart.specs.Filled.{is_used, AreUsed, AreAdopted}
use Rattle.restart.specs.Opened.{HasFree, IsUnmarked, CountsMarked, CountsExactly, KnowsWhole}
use Rattle.restart.proofs.recovery.read_chip.Given.{Over}
use Rattle.restart.proofs.recovery.read_chip.Goals as goal

-- ---- the calls

pub adopt_all-requires-clause-within : goal.adopt_all-requires-clause-within
adopt_all-requires-clause-within g c = λ u winner is.
    let heads = c.read_headers.new.heads in
    let table = c.read_headers.new.table in
    let found = are_found c.args.geometry.places c.units.result heads table c.in_ok-winner.winner c.read_headers.new.kept c.units.ensures (c.read_headers.ensures.size ∙ c.requires.scratch.table) c.in_ok-winner.ensures.counts in
    let low = current_low heads (take c.units.result table) c.in_ok-winner.winner found.chosen u winner is in
    omega (arith, low, c.requires.tables.directory)

pub read_rest-requires-clause-headers : goal.read_rest-requires-clause-headers
read_rest-requires-clause-headers g c =
    let places = c.args.geometry.places in
    let heads = c.read_headers.new.heads in
    let table = c.read_headers.new.table in
    let current = take c.units.result table in
    let winner = c.in_ok-winner.winner in
    let counts = c.in_ok-winner.ensures.counts in
    let all = c.read_headers.ensures.size ∙ c.requires.scratch.table in
    let found = are_found places c.units.result heads table winner c.read_headers.new.kept c.units.ensures all counts in
    let low = status_low heads current winner found.chosen in record {
      size = c.requires.scratch.size ∙ sym c.read_headers.ensures.looks.only.reads.counts.places;
      heads = omega arith;
      keeps = found.keeps;
      winner = omega (arith, low);
      units = length-take-le c.units.result table (omega (arith, c.units.ensures, all, counts.keeps.1)) ∙ c.units.ensures;
    }

pub read_rest-requires-clause-tables : goal.read_rest-requires-clause-tables
read_rest-requires-clause-tables g c = record {
  noted = c.requires.tables.noted;
  overflow = c.requires.tables.overflow;
  units = c.adopt_all.ensures.adopted.units_are;
  blank = c.adopt_all.ensures.blank;
  flags = c.requires.tables.flags;
}

pub fill_places-requires-clause-status : goal.fill_places-requires-clause-status
fill_places-requires-clause-status g c =
    let heads = c.read_headers.new.heads in
    let table = c.read_headers.new.table in
    let found = are_found c.args.geometry.places c.units.result heads table c.in_ok-winner.winner c.read_headers.new.kept c.units.ensures (c.read_headers.ensures.size ∙ c.requires.scratch.table) c.in_ok-winner.ensures.counts in
    let low = status_low heads (take c.units.result table) c.in_ok-winner.winner found.chosen in
    let all = c.adopt_all.ensures.used.all in
    let same = ap length c.read_rest.ensures.memory.homes.in_use in
    omega (arith, low, all, same, c.requires.tables.directory)

pub retire_listed-requires-clause-listed : goal.retire_listed-requires-clause-listed
retire_listed-requires-clause-listed g c =
    let heads = c.read_headers.new.heads in
    let table = c.read_headers.new.table in
    let current = take c.units.result table in
    let kept = c.read_headers.new.kept in
    let found = are_found c.args.geometry.places c.units.result heads table c.in_ok-winner.winner kept c.units.ensures (c.read_headers.ensures.size ∙ c.requires.scratch.table) c.in_ok-winner.ensures.counts in
    let used = c.fill_places.ensures.used (at current) (length current) (used_still c.read_rest.ensures.memory.homes (used_of (omega arith) c.adopt_all.ensures.used)) in
    let adopted = adopted_then (at current) (length current) (length current) c.read_rest.ensures.memory.homes c.fill_places.ensures.same c.adopt_all.ensures.adopted in
    let all : c.args.geometry.places ≡ length c.fill_places.new.directory.in_use = omega (arith, used.all) in
    subst (λ (n : ℕ). may_be_retired n (length c.fill_places.new.directory.current) (retired_of kept) ≡ true) all
    (subst (λ (n : ℕ). may_be_retired c.args.geometry.places n (retired_of kept) ≡ true) (sym adopted.units_are) found.listed)

-- ---- faults

pub returns-in_err-winner-clause-looks : goal.returns-in_err-winner-clause-looks
returns-in_err-winner-clause-looks g c = record {
  only = looks_in c.args.findings.now.status.now.most (numbers_in c.args.geometry.places) c.args.aim.draws c.from_residual.result
      (looks_for c.args.aim.draws c.from_residual.result
      (looks_again c.read_headers.result c.from_residual.result c.read_headers.ensures.looks.only c.in_err-winner.was c.from_residual.ensures.1));
  once = headers_alone (g.C.Chip.told c.args.chip.now) (g.C.Chip.told c.read_headers.new.chip) c.read_headers.ensures.looks.once;
}

pub returns-in_err-gathered-clause-looks : goal.returns-in_err-gathered-clause-looks
returns-in_err-gathered-clause-looks g c =
    let heads = c.read_headers.new.heads in
    let table = c.read_headers.new.table in
    let found = are_found c.args.geometry.places c.units.result heads table c.in_ok-winner.winner c.read_headers.new.kept c.units.ensures (c.read_headers.ensures.size ∙ c.requires.scratch.table) c.in_ok-winner.ensures.counts in record {
      only = looks_many c.args.findings.now.status.now.most (λ ch. numbers_at ch (Some c.in_ok-winner.winner)) (numbers_in c.args.geometry.places)
          c.args.aim.draws c.args.aim.draws c.read_rest.result c.from_residual-in_err-gathered.result c.read_headers.ensures.looks.only.reads
          (λ x told. ap (numbers_at (chart_of x)) (shows_found (chart_of x) c.args.geometry.places c.units.result heads table
          c.in_ok-winner.winner c.units.ensures (c.in_ok-winner.ensures.shown x told)).status_is)
          (λ e none. none) c.read_rest.ensures.looks c.in_err-gathered.was c.from_residual-in_err-gathered.ensures.1;
      once = all_once (g.C.Chip.told c.args.chip.now) (g.C.Chip.told c.read_headers.new.chip)
          (g.C.Chip.told c.read_rest.new.chip) c.read_headers.ensures.looks.once
          (c.read_rest.ensures.once (status_unlogged (at heads) (at (take c.units.result table)) (length heads) c.in_ok-winner.winner found.chosen.status_is));
    }

pub returns-clause-looks : goal.returns-clause-looks
returns-clause-looks g c =
    let heads = c.read_headers.new.heads in
    let table = c.read_headers.new.table in
    let found = are_found c.args.geometry.places c.units.result heads table c.in_ok-winner.winner c.read_headers.new.kept c.units.ensures (c.read_headers.ensures.size ∙ c.requires.scratch.table) c.in_ok-winner.ensures.counts in record {
      only = looks_done _ (reads_then c.read_headers.ensures.looks.only.reads c.read_rest.ensures.looks.reads);
      once = all_once (g.C.Chip.told c.args.chip.now) (g.C.Chip.told c.read_headers.new.chip)
          (g.C.Chip.told c.read_rest.new.chip) c.read_headers.ensures.looks.once
          (c.read_rest.ensures.once (status_unlogged (at heads) (at (take c.units.result table)) (length heads) c.in_ok-winner.winner found.chosen.status_is));
    }

pub returns-in_err-gathered-clause-fault : goal.returns-in_err-gathered-clause-fault
returns-in_err-gathered-clause-fault g c = λ x told.
    let places = c.args.geometry.places in
    let heads = c.read_headers.new.heads in
    let table = c.read_headers.new.table in
    let shows = shows_found (chart_of x) places c.units.result heads table c.in_ok-winner.winner c.units.ensures (c.in_ok-winner.ensures.shown x told) in
    tells_again c.from_residual-in_err-gathered.result c.read_rest.result _ _ c.in_err-gathered.was c.from_residual-in_err-gathered.ensures.1
    (all_tells (chart_of x) places heads (take c.units.result table) c.in_ok-winner.winner shows c.args.aim.draws c.read_rest.result
    (omega arith) (omega arith) (c.in_ok-winner.ensures.fault x told) (c.read_rest.ensures.fault x (c.read_headers.ensures.looks.only.reads.contents ∙ told)))

pub returns-clause-fault : goal.returns-clause-fault
returns-clause-fault g c = λ x told.
    let places = c.args.geometry.places in
    let heads = c.read_headers.new.heads in
    let table = c.read_headers.new.table in
    let shows = shows_found (chart_of x) places c.units.result heads table c.in_ok-winner.winner c.units.ensures (c.in_ok-winner.ensures.shown x told) in
    all_tells (chart_of x) places heads (take c.units.result table) c.in_ok-winner.winner shows c.args.aim.draws (Ok (tt {0}))
    (omega arith) (omega arith) (c.in_ok-winner.ensures.fault x told) (c.in_ok-gathered.ensures.fault x (c.read_headers.ensures.looks.only.reads.contents ∙ told))

-- ---- what was found

-- the headers that were found, and those that count
abbrev heads : (g : Over) (c : goal.After-facts-2 g) → List (Option KeptHeader)
heads g c = c.read_headers.new.heads

abbrev current : (g : Over) (c : goal.After-facts-2 g) → List (Option Winner)
current g c = take c.units.result c.read_headers.new.table

-- the places that the status header lists as retired
abbrev listed : (g : Over) (c : goal.After-facts-2 g) → List ℕ
listed g c = retired_of c.read_headers.new.kept

-- the tables then
abbrev made : (g : Over) (c : goal.After-facts-2 g) → Tables
made g c = tables_of c.retire_listed.new.directory c.use_places.new.self c.read_rest.new.findings.status.now
    (c.in_ok-gathered.gathered.greatest + 1)

count : (g : Over) (c : goal.After-facts-2 g) → AreFound c.args.geometry.places (heads g c) (current g c)
    c.in_ok-winner.winner c.read_headers.new.kept
count g c = are_found c.args.geometry.places c.units.result (heads g c) c.read_headers.new.table
    c.in_ok-winner.winner c.read_headers.new.kept
    c.units.ensures (c.read_headers.ensures.size ∙ c.requires.scratch.table) c.in_ok-winner.ensures.counts

within : (g : Over) (c : goal.After-facts-2 g) → (u : ℕ) (winner : Winner) → at (current g c) u ≡ Some winner
    → winner.place < c.args.geometry.places
within g c u winner is =
    let low = current_low (heads g c) (current g c) c.in_ok-winner.winner (count g c).chosen u winner is in
    omega (arith, low)

used : (g : Over) (c : goal.After-facts-2 g) → AreUsed
    (is_used (at (current g c)) (length (current g c)) c.in_ok-winner.winner.place
    (is_held (heads g c) c.read_rest.new.findings.noted.now)) c.args.geometry.places
    (length (current g c) + 1 + count_below (is_held (heads g c) c.read_rest.new.findings.noted.now) (length (heads g c)))
    c.fill_places.new.directory.in_use
used g c = used_of {n = c.args.geometry.places} (omega arith)
    (c.fill_places.ensures.used (at (current g c)) (length (current g c))
    (used_still c.read_rest.ensures.memory.homes (used_of (omega arith) c.adopt_all.ensures.used)))

adopted : (g : Over) (c : goal.After-facts-2 g) → AreAdopted (at (current g c)) (length (current g c))
    (length (current g c)) c.fill_places.new.directory
adopted g c = adopted_then (at (current g c)) (length (current g c)) (length (current g c))
    c.read_rest.ensures.memory.homes c.fill_places.ensures.same c.adopt_all.ensures.adopted

none : (g : Over) (c : goal.After-facts-2 g) → c.fill_places.new.directory.retired ≡ []
none g c = c.fill_places.ensures.same.retired ∙ (c.read_rest.ensures.memory.homes.retired ∙ c.adopt_all.ensures.none)

aside : (g : Over) (c : goal.After-facts-2 g) → AreAside c.fill_places.new.directory (listed g c)
    c.retire_listed.new.directory
aside g c = subst (AreAside c.fill_places.new.directory (listed g c)) (sym c.retire_listed.ensures)
    (all_aside c.fill_places.new.directory (listed g c))

-- the overflow places that hold live log sectors are in use, with no sector known clean; the lists are as they were
in_use : (g : Over) (c : goal.After-facts-2 g) → c.use_places.new.self.in_use
    ≡ all_below (overflow_at (is_held (heads g c) c.read_rest.new.findings.noted.now)) (length (heads g c))
in_use g c =
    let fills = c.in_ok-gathered.ensures.filled in
    ap (λ (it : OverflowLists). it.in_use) c.use_places.ensures
    ∙ used_in_use (heads g c) c.read_rest.new.findings.noted.now c.read_rest.new.findings.overflow.now fills.in_use fills.two

same_spots : (g : Over) (c : goal.After-facts-2 g) → c.use_places.new.self.spots ≡ c.read_rest.new.findings.overflow.now.spots
same_spots g c = ap (λ (it : OverflowLists). it.spots) c.use_places.ensures

same_masks : (g : Over) (c : goal.After-facts-2 g) → c.use_places.new.self.masks ≡ c.read_rest.new.findings.overflow.now.masks
same_masks g c = ap (λ (it : OverflowLists). it.masks) c.use_places.ensures

same_places : (g : Over) (c : goal.After-facts-2 g) → c.use_places.new.self.places ≡ c.read_rest.new.findings.overflow.now.places
same_places g c = ap (λ (it : OverflowLists). it.places) c.use_places.ensures

-- by what the chip holds
shows : (g : Over) (c : goal.After-facts-2 g) → OfContents (g.C.Chip.told c.args.chip.now)
    (λ x. ShowsHeaders (chart_of x) c.args.geometry.places (heads g c) (current g c) c.in_ok-winner.winner)
shows g c = λ x told. shows_found (chart_of x) c.args.geometry.places c.units.result (heads g c)
    c.read_headers.new.table c.in_ok-winner.winner c.units.ensures (c.in_ok-winner.ensures.shown x told)

laid_out : (g : Over) (c : goal.After-facts-2 g) → OfContents (g.C.Chip.told c.args.chip.now)
    (λ x. Laid c.args.geometry.places (chart_of x) (layout_in (chart_of x) c.args.geometry.places))
laid_out g c = λ x told.
    let told_then = c.read_headers.ensures.looks.only.reads.contents ∙ told in
    laid c.args.aim.draws x c.args.geometry.places (heads g c) (current g c) c.in_ok-winner.winner (shows g c x told)
    (c.in_ok-winner.ensures.whole x told)
    (c.in_ok-gathered.ensures.found.whole x told_then)
    (all_tells (chart_of x) c.args.geometry.places (heads g c) (current g c) c.in_ok-winner.winner (shows g c x told)
    c.args.aim.draws (Ok (tt {0}))
    (omega arith) (omega arith) (c.in_ok-winner.ensures.fault x told) (c.in_ok-gathered.ensures.fault x told_then))

read_logs : (g : Over) (c : goal.After-facts-2 g) → OfContents (g.C.Chip.told c.args.chip.now)
    (λ x. AreReadLogs x (mark_for c.args.aim.marks (chart_of x) (Some c.in_ok-winner.winner)) (at (current g c))
    (length (current g c)) (c.args.geometry.places * 256) c.read_rest.new.findings.directory.now)
read_logs g c = λ x told.
    c.in_ok-gathered.ensures.found.logs x (c.read_headers.ensures.looks.only.reads.contents ∙ told)
    (are_homes (heads g c) (current g c) c.in_ok-winner.winner (count g c).chosen)

all_opened : (g : Over) (c : goal.After-facts-2 g) → OfContents (g.C.Chip.told c.args.chip.now)
    (λ x. AreOpened c.args.geometry.places (chart_of x) (made g c))
all_opened g c = λ x told.
    let told_then = c.read_headers.ensures.looks.only.reads.contents ∙ told in
    let places = c.args.geometry.places in
    let winner = c.in_ok-winner.winner in
    let filled = c.fill_places.new.directory in
    let now = c.retire_listed.new.directory in
    let lists = c.use_places.new.self in
    let rest = c.in_ok-gathered.ensures.found in
    let sized = c.in_ok-gathered.ensures.filled.sized in
    let keeps = (aside g c).keeps in
    let overflow = opened_overflow (chart_of x) places (heads g c) (current g c) winner (shows g c x told)
    c.read_rest.new.findings.noted.now c.read_rest.new.findings.overflow.now (rest.noted x told_then) lists
    (none_left (heads g c) c.read_rest.new.findings.noted.now c.read_rest.new.findings.overflow.now
    c.in_ok-gathered.ensures.filled.in_use c.in_ok-gathered.ensures.filled.two)
    sized.listed_units (omega arith) (same_places g c ∙ sized.listed_places) (same_spots g c)
    (in_use g c) in record {
      directory = opened (chart_of x) places (heads g c) (current g c) winner (shows g c x told)
          c.read_rest.new.findings.noted.now c.read_rest.new.findings.overflow.now (rest.noted x told_then) filled now (listed g c)
          c.read_headers.new.kept
          (length (current g c) + 1 + count_below (is_held (heads g c) c.read_rest.new.findings.noted.now) (length (heads g c)))
          (c.in_ok-gathered.gathered.greatest + 1) c.in_ok-gathered.gathered.greatest
          (used g c) (adopted g c) (counted_of (omega arith) c.fill_places.ensures.counted) (none g c)
          (header_kinds x) c.retire_listed.ensures refl (c.in_ok-winner.ensures.sector x told)
          (listed_within places (length (current g c)) (listed g c) (count g c).listed) (rest.number x told_then) refl
          (λ u low. subst (λ (ws : List ℕ). IsOpenedLog places (chart_of x) u (get_or ws u 0))
          (sym c.fill_places.ensures.same.written)
          (read_opened x places c.args.aim.marks (at (current g c)) (Some winner) u _ (shows g c x told).current_are
          (shows g c x told).status_is (within g c u)
          (read_logs g c x told u (omega (arith, low, (shows g c x told).units_are)))));
      overflow = overflow;
      masks = opened_masks (chart_of x) places (heads g c) (current g c) winner (shows g c x told) (count g c).chosen
          (count g c).there (omega arith)
          c.read_rest.new.findings.directory.now now c.read_rest.new.findings.overflow.now lists c.facts.ensures c.facts-2.ensures
          (ap length keeps.current ∙ (adopted g c).units_are)
          (ap length (same_spots g c) ∙ sized.listed_units)
          (keeps.masks ∙ c.fill_places.ensures.same.masks) (same_masks g c) (same_spots g c)
          overflow.spots_are
          (rest.masked x told_then);
      status = opened_status (chart_of x) places winner c.read_rest.new.findings.status.now (shows g c x told).status_is
          (laid_out g c x told) (rest.status x told_then);
      active = refl;
    }

mirrors : (g : Over) (c : goal.After-facts-2 g) → OfContents (g.C.Chip.told c.args.chip.now)
    (λ x. Mirrors c.args.geometry.places (chart_of x) (layout_in (chart_of x) c.args.geometry.places) (made g c))
mirrors g c = λ x told. opened_tables_mirror c.args.geometry.places (chart_of x) _ (all_opened g c x told)
    (laid_out g c x told)

collected : (g : Over) (c : goal.After-facts-2 g) → OfContents (g.C.Chip.told c.args.chip.now)
    (λ x. AreCollected c.args.geometry.places (chart_of x) c.in_ok-gathered.gathered.fits (kept_of c.read_rest.new.findings.status.now.numbers c.read_rest.new.findings.numbers.now))
collected g c = λ x told.
    all_collected (chart_of x) c.args.geometry.places (heads g c) (current g c) c.in_ok-winner.winner (shows g c x told)
    c.read_rest.new.findings.status.now.numbers (mirrors g c x told).status.numbers c.in_ok-gathered.gathered.fits
    (kept_of c.read_rest.new.findings.status.now.numbers c.read_rest.new.findings.numbers.now)
    (c.in_ok-gathered.ensures.found.collected x (c.read_headers.ensures.looks.only.reads.contents ∙ told))

-- whether told or not
known : (g : Over) (c : goal.After-facts-2 g) → KnowsPlaces c.args.geometry.places (made g c)
known g c =
    let fills = c.in_ok-gathered.ensures.filled in
    knows_places (heads g c) (current g c) c.in_ok-winner.winner (count g c).chosen (count g c).there
    c.args.geometry.places (omega arith) c.read_rest.new.findings.noted.now
    c.fill_places.new.directory c.use_places.new.self c.read_rest.new.findings.status.now _ _ (count g c).keeps (used g c)
    (adopted g c)
    (ap length (same_spots g c) ∙ fills.sized.listed_units) (in_use g c) fills.two
    fills.placed
    c.retire_listed.new.directory (listed g c) (none g c) (aside g c)
    (same_places g c ∙ fills.sized.listed_places)

free : (g : Over) (c : goal.After-facts-2 g) → HasFree c.retire_listed.new.directory
free g c =
    has_free (heads g c) (current g c) c.in_ok-winner.winner c.read_rest.new.findings.noted.now c.fill_places.new.directory
    c.retire_listed.new.directory (listed g c) c.args.geometry.places
    (count_below (is_held (heads g c) c.read_rest.new.findings.noted.now) (length (heads g c))) (count g c).keeps
    c.in_ok-gathered.ensures.filled.two (within g c)
    ((count g c).there 0 (omega (arith, (count g c).keeps.0))) (used g c) (adopted g c) (none g c)
    c.retire_listed.ensures

-- they are as they were read
logs_made : (g : Over) (c : goal.After-facts-2 g) → OfContents (g.C.Chip.told c.args.chip.now)
    (λ x. AreReadLogs x (mark_for c.args.aim.marks (chart_of x) (Some c.in_ok-winner.winner)) (at (current g c))
    (length (current g c)) (c.args.geometry.places * 256) c.retire_listed.new.directory)
logs_made g c = λ x told u low.
    subst (λ (ws : List ℕ). IsReadLog x (mark_for c.args.aim.marks (chart_of x) (Some c.in_ok-winner.winner)) u
    (at (current g c) u) (c.args.geometry.places * 256) (get_or ws u 0))
    (sym ((aside g c).keeps.written ∙ c.fill_places.ensures.same.written)) (read_logs g c x told u low)

marked : (g : Over) (c : goal.After-facts-2 g) → OfContents (g.C.Chip.told c.args.chip.now)
    (λ x. CountsMarked c.args.geometry.places x (made g c))
marked g c = λ x told.
    let winner = c.in_ok-winner.winner in
    let keeps = (aside g c).keeps in
    counts_marked x c.args.geometry.places c.args.aim.marks (heads g c) (current g c) winner c.retire_listed.new.directory
    c.use_places.new.self c.read_rest.new.findings.status.now
    (c.in_ok-gathered.gathered.greatest + 1) (shows g c x told) (laid_out g c x told)
    (logs_made g c x told)
    (λ u low. ap (λ (xs : List ℕ). get_or xs u 0) keeps.current ∙ (adopted g c).current_is u low)
    (ap length keeps.current ∙ (adopted g c).units_are) (within g c)
    (is_held (heads g c) c.read_rest.new.findings.noted.now) (length (heads g c)) (in_use g c)
    c.in_ok-gathered.ensures.filled.unclean

-- where marks count, they are what the close mark says
logs_marked : (g : Over) (c : goal.After-facts-2 g) → c.args.aim.marks ≡ true → OfContents (g.C.Chip.told c.args.chip.now)
    (λ x. AreReadLogs x (last_close_mark (chart_of x) (Some c.in_ok-winner.winner)) (at (current g c))
    (length (current g c)) (c.args.geometry.places * 256) c.retire_listed.new.directory)
logs_marked g c = λ on x told.
    subst (λ (marks : Bool). AreReadLogs x (mark_for marks (chart_of x) (Some c.in_ok-winner.winner)) (at (current g c))
    (length (current g c)) (c.args.geometry.places * 256) c.retire_listed.new.directory) on (logs_made g c x told)

knows : (g : Over) (c : goal.After-facts-2 g) → c.args.aim.marks ≡ true → OfContents (g.C.Chip.told c.args.chip.now)
    (λ x. KnowsWhole c.args.geometry.places x (made g c))
knows g c = λ on x told.
    knows_whole x c.args.geometry.places (heads g c) (current g c) c.in_ok-winner.winner c.retire_listed.new.directory
    c.use_places.new.self c.read_rest.new.findings.status.now
    (c.in_ok-gathered.gathered.greatest + 1) (shows g c x told) (laid_out g c x told) (logs_marked g c on x told)
    (λ u low. ap (λ (xs : List ℕ). get_or xs u 0) (aside g c).keeps.current ∙ (adopted g c).current_is u low)

exact : (g : Over) (c : goal.After-facts-2 g) → c.args.aim.marks ≡ true → OfContents (g.C.Chip.told c.args.chip.now)
    (λ x. CountsExactly c.args.geometry.places x (made g c))
exact g c = λ on x told.
    let winner = c.in_ok-winner.winner in
    let keeps = (aside g c).keeps in
    counts_exactly x c.args.geometry.places (heads g c) (current g c) winner c.retire_listed.new.directory
    c.use_places.new.self c.read_rest.new.findings.status.now
    (c.in_ok-gathered.gathered.greatest + 1) (shows g c x told) (laid_out g c x told)
    (logs_marked g c on x told)
    (λ u low. ap (λ (xs : List ℕ). get_or xs u 0) keeps.current ∙ (adopted g c).current_is u low)
    (ap length keeps.current ∙ (adopted g c).units_are) (within g c)
    (is_held (heads g c) c.read_rest.new.findings.noted.now) (length (heads g c)) (in_use g c)
    c.in_ok-gathered.ensures.filled.unclean

none_marked : (g : Over) (c : goal.After-facts-2 g) → c.args.aim.marks ≡ false → IsUnmarked (made g c)
none_marked g c = λ off.
    let keeps = (aside g c).keeps in
    let fills = c.in_ok-gathered.ensures.filled in
    unmarked c.retire_listed.new.directory c.use_places.new.self c.read_rest.new.findings.status.now
    (c.in_ok-gathered.gathered.greatest + 1)
    (is_held (heads g c) c.read_rest.new.findings.noted.now) (length (heads g c))
    (λ u low. ap (λ (ws : List ℕ). get_or ws u 0) (keeps.written ∙ c.fill_places.ensures.same.written)
    ∙ fills.unmarked off u (omega (arith, low, ap length keeps.current, (adopted g c).units_are)))
    (in_use g c) fills.unclean

pub returns-clause-found : goal.returns-clause-found
returns-clause-found g c = record {
  opened = all_opened g c;
  laid = laid_out g c;
  mirrors = mirrors g c;
  collected = collected g c;
  known = known g c;
  free = free g c;
  marked = marked g c;
  exact = exact g c;
  knows = knows g c;
  unmarked = none_marked g c;
}

pub returns-clause-left : goal.returns-clause-left
returns-clause-left g c = c.in_ok-gathered.ensures.filled.left

-- ---- the memory

pub returns-in_err-winner-clause-memory : goal.returns-in_err-winner-clause-memory
returns-in_err-winner-clause-memory g c = record {
  size = c.requires.tables.directory;
  table = c.read_headers.ensures.size;
  room = (c.requires.tables.noted, c.requires.tables.overflow);
  numbers = record { most = refl; flags = refl };
  references = record {
    noted = refl;
    directory = refl;
    overflow = refl;
    status = refl;
    numbers = refl;
  };
}

pub returns-in_err-gathered-clause-memory : goal.returns-in_err-gathered-clause-memory
returns-in_err-gathered-clause-memory g c = record {
  size = ap length c.read_rest.ensures.memory.homes.in_use ∙
      (c.adopt_all.ensures.used.all ∙ c.requires.tables.directory);
  table = c.read_headers.ensures.size;
  room = c.read_rest.ensures.memory.room;
  numbers = record { most = c.read_rest.ensures.memory.numbers.most; flags = c.read_rest.ensures.memory.numbers.flags };
  references = record {
    noted = c.read_rest.ensures.memory.references.noted;
    directory = c.read_rest.ensures.memory.references.directory;
    overflow = c.read_rest.ensures.memory.references.overflow;
    status = c.read_rest.ensures.memory.references.status;
    numbers = c.read_rest.ensures.memory.references.numbers;
  };
}

pub returns-clause-memory : goal.returns-clause-memory
returns-clause-memory g c =
    let current = take c.units.result c.read_headers.new.table in
    let filled = c.fill_places.new.directory in
    let listed = retired_of c.read_headers.new.kept in
    let used = c.fill_places.ensures.used (at current) (length current)
    (used_still c.read_rest.ensures.memory.homes (used_of (omega arith) c.adopt_all.ensures.used)) in
    let keeps = (subst (AreAside filled listed) (sym c.retire_listed.ensures) (all_aside filled listed)).keeps in
    record {
      size = omega (arith, keeps.all, used.all);
      table = c.read_headers.ensures.size;
      room = (c.read_rest.ensures.memory.room.0, (same_places g c) ∙ c.read_rest.ensures.memory.room.1);
      numbers = record { most = c.read_rest.ensures.memory.numbers.most; flags = c.read_rest.ensures.memory.numbers.flags };
      references = record {
        noted = c.read_rest.ensures.memory.references.noted;
        directory = c.read_rest.ensures.memory.references.directory;
        overflow = c.read_rest.ensures.memory.references.overflow;
        status = c.read_rest.ensures.memory.references.status;
        numbers = c.read_rest.ensures.memory.references.numbers;
      };
    }

-- ---- what was read

pub returns-in_err-winner-clause-bytes : goal.returns-in_err-winner-clause-bytes
returns-in_err-winner-clause-bytes g c =
    let old = g.C.Chip.told c.args.chip.now in
    let exit = c.from_residual.ensures.1 in
    failed_bytes {most = c.args.findings.now.status.now.most} {numbers = numbers_in c.args.geometry.places} c.args.aim.draws c.args.geometry.places c.from_residual.result _ old old (g.C.Chip.told c.read_headers.new.chip) exit
    (cause_in c.args.findings.now.status.now.most (numbers_in c.args.geometry.places) c.args.aim.draws (told_for c.args.aim.draws _ _ _ c.in_err-winner.ensures.looks.only.cause))
    (λ x told. headers_tell_first c.args.aim.draws (chart_of x) c.args.geometry.places c.from_residual.result _ (omega arith) (omega arith) exit (c.in_err-winner.ensures.fault x told))
    (λ is x told. absurd (tells_unspent _ _ (header_unspent (chart_of x) c.args.geometry.places) (c.in_err-winner.ensures.fault x told) is))

pub returns-in_err-gathered-clause-bytes : goal.returns-in_err-gathered-clause-bytes
returns-in_err-gathered-clause-bytes g c =
    let old = g.C.Chip.told c.args.chip.now in
    let mid = g.C.Chip.told c.read_headers.new.chip in
    let places = c.args.geometry.places in
    let heads = c.read_headers.new.heads in
    let table = c.read_headers.new.table in
    failed_bytes {most = c.args.findings.now.status.now.most} {numbers = λ ch. numbers_at ch (Some c.in_ok-winner.winner)} c.args.aim.draws places c.from_residual-in_err-gathered.result _ old mid (g.C.Chip.told c.read_rest.new.chip) c.from_residual-in_err-gathered.ensures.1
    c.in_err-gathered.ensures.looks.cause (returns-in_err-gathered-clause-fault g c)
    (λ is x told. read_bytes x places heads (take c.units.result table) c.in_ok-winner.winner
    (shows_found (chart_of x) places c.units.result heads table c.in_ok-winner.winner c.units.ensures (c.in_ok-winner.ensures.shown x told))
    (c.in_ok-winner.ensures.whole x told) (c.in_err-gathered.ensures.spent is x (c.read_headers.ensures.looks.only.reads.contents ∙ told)))

pub returns-clause-bytes : goal.returns-clause-bytes
returns-clause-bytes g c = λ x told.
    let places = c.args.geometry.places in
    let heads = c.read_headers.new.heads in
    let table = c.read_headers.new.table in
    read_bytes x places heads (take c.units.result table) c.in_ok-winner.winner
    (shows_found (chart_of x) places c.units.result heads table c.in_ok-winner.winner c.units.ensures (c.in_ok-winner.ensures.shown x told))
    (c.in_ok-winner.ensures.whole x told) (c.in_ok-gathered.ensures.found.whole x (c.read_headers.ensures.looks.only.reads.contents ∙ told))
