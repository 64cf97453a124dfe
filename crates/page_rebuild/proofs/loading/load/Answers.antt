use Rattle.std.proofs.Common.{Err, ◌+◌, length, inl, ◌∙◌, arith}
use Rattle.unit_log.specs.Paged.{page_spots, IsPageLogRead}
use Rattle.unit_log.proofs.CountLemmas.{most_then, most_wider}
use Rattle.unit_io.proofs.MapLemmas.{reads_keep_tables}
use Rattle.page_rebuild.specs.Loaded.{IsLoadRead}
use Rattle.page_rebuild.proofs.ReadLemmas.{within, both_read, log_read, few_at, log_allowed, both_allowed, rebuilt_cause, ok_then, ok_always}
use Rattle.page_rebuild.proofs.LoadedLemmas.{count_is, known_by, known_as, page_of_map}
use Rattle.page_rebuild.proofs.loading.load.Goals as goal

-- ---- the log isn't read

pub returns-in-Err-clause-fault : goal.returns-in-Err-clause-fault
returns-in-Err-clause-fault g c = λ x told it t are other.
    absurd (other (c.in-Err.ensures.exact x told it t are.mirrored))

pub returns-in-Err-clause-looks : goal.returns-in-Err-clause-looks
returns-in-Err-clause-looks g c =
    let reads = c.read_page_log.ensures.looks.reads in
    record {
      allowed = λ x told it t are. log_allowed are c.requires.unit c.args.page reads;
      count = tt;
      reads = log_read (page_spots c.args.directory.now c.args.overflow.now c.args.unit c.args.page)
          c.args.page reads;
      cause = inl c.in-Err.ensures.looks.cause;
    }

pub returns-in-Err-clause-keeps : goal.returns-in-Err-clause-keeps
returns-in-Err-clause-keeps g c = λ m it t h steady rests agrees.
    reads_keep_tables {T = Unit {0}} (IsPageLogRead _ _) _ m it t h (Err c.in-Err.fault)
    (g.C.Chip.told c.args.chip.now) (g.C.Chip.told c.read_page_log.new.chip) steady rests agrees
    c.read_page_log.ensures.looks.reads

-- ---- the log is read, and the page is made anew by it

pub returns-clause-fault : goal.returns-clause-fault
returns-clause-fault g c = λ x told it t are.
    c.rebuild.ensures.fault x (c.read_page_log.ensures.looks.reads.contents ∙ told) it
    (known_as c.sectors.ensures.sectors
    (known_by are c.requires.unit c.current-place.ensures.place c.args.page (c.in-Ok.ensures.exact x told it t are.mirrored)))

pub returns-clause-loads : goal.returns-clause-loads
returns-clause-loads g c =
    ok_then c.rebuild.result c.rebuild.ensures.loads (λ loads x told it t are.
    loads x (c.read_page_log.ensures.looks.reads.contents ∙ told) it
    (known_as c.sectors.ensures.sectors
    (known_by are c.requires.unit c.current-place.ensures.place c.args.page (c.in-Ok.ensures.exact x told it t are.mirrored))))

pub returns-clause-stands : goal.returns-clause-stands
returns-clause-stands g c =
    ok_then c.rebuild.result (returns-clause-loads g c) (λ loads x told it t are m stands reads.
    page_of_map are.mirrored.mirrors.laid (within are c.requires.unit) c.requires.page stands reads (loads x told it t are))

pub returns-clause-looks : goal.returns-clause-looks
returns-clause-looks g c =
    let old = g.C.Chip.told c.args.chip.now in
    let mid = g.C.Chip.told c.read_page_log.new.chip in
    let new = g.C.Chip.told c.rebuild.new.chip in
    let page = c.args.page in
    let spots = page_spots c.args.directory.now c.args.overflow.now c.args.unit page in
    let log = c.read_page_log.ensures.looks.reads in
    let base = c.rebuild.ensures.looks in
    record {
      allowed = λ x told it t are. both_allowed are c.requires.unit page c.current-place.ensures.place
          (count_is are c.requires.unit c.current-place.ensures.place page
          (c.in-Ok.ensures.exact x told it t are.mirrored)) log base.reads;
      count = ok_always c.rebuild.result (λ x told it t are.
          most_wider (1 + length spots + 16) _ old new
          (omega (arith, c.in-Ok.ensures.as_many x told it t are.mirrored))
          (most_then (1 + length spots) 16 old mid new c.read_page_log.ensures.each base.count));
      reads = both_read spots page c.current-place.ensures.place
          (few_at c.in-Ok.header.pieces page c.in-Ok.ensures.few) log base.reads;
      cause = rebuilt_cause _ _ page spots old mid new c.current-place.ensures.place c.rebuild.result
          log.counts base.cause;
    }

pub returns-clause-keeps : goal.returns-clause-keeps
returns-clause-keeps g c = λ m it t h steady rests agrees.
    reads_keep_tables (IsLoadRead _ _ c.args.page) _ m it t h c.rebuild.result
    (g.C.Chip.told c.args.chip.now) (g.C.Chip.told c.rebuild.new.chip) steady rests agrees
    (returns-clause-looks g c).reads
