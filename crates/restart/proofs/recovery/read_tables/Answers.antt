use Rattle.std.proofs.Common.{◌∙◌, ◌+◌, ◌≡◌, ℕ, Bool, true, None, Err, rules, sym, subst}
use Rattle.ipl_meaning.specs.Chart.{chart_of}
use Rattle.ipl_meaning.specs.Faults.{TellsImageFault, first_fault}
use Rattle.ipl_meaning.specs.OpeningLaws.{IsByteChart}
use Rattle.ipl_meaning.specs.Opened.{tables_of}
use Rattle.restart.specs.Bytes.{ReadsBytes}
use Rattle.restart.specs.Joins.{kept_of}
use Rattle.restart.specs.Finds.{FindsStore}
use Rattle.restart.specs.Looks.{HasCauseIn, numbers_in}
use Rattle.restart.proofs.LookLemmas.{looks_done}
use Rattle.restart.proofs.recovery.read_tables.Goals.{in-Ok, in-Err}
use Rattle.restart.proofs.recovery.read_tables.Goals as goal

pub returns-clause-found : goal.returns-clause-found
returns-clause-found g c =
    elim c.match-read_chip.branch [
      | in-Ok w ↦
          let now = c.read_chip.new.findings in
          let told = g.C.Chip.told c.args.chip.now in
          let size = c.scratch.view_is ∙ c.requires.scratch in
          let found = subst (λ (n : ℕ). FindsStore n told c.args.marks
          (tables_of now.directory.now now.overflow.now now.status.now (w.in-Ok.all.greatest + 1)) w.in-Ok.all.fits (kept_of now.status.now.numbers now.numbers.now)) size w.in-Ok.ensures.found in
          -- the counter is the number after the greatest
          let ended = subst (λ (k : ℕ). FindsStore told.places told c.args.marks
          (tables_of now.directory.now now.overflow.now now.status.now k) w.in-Ok.all.fits (kept_of now.status.now.numbers now.numbers.now)) (sym w.at-parts.ensures) found in
          rw (w.result-is, w.parts-is) (search rules)
      | in-Err w ↦ rw w.result-is (search rules)
    ]

pub returns-clause-fault : goal.returns-clause-fault
returns-clause-fault g c = λ x told.
    let size = c.scratch.view_is ∙ c.requires.scratch in
    elim c.match-read_chip.branch [
      | in-Ok w ↦ rw w.result-is (subst (λ (n : ℕ). first_fault (chart_of x) n ≡ None) size (w.in-Ok.ensures.fault x told))
      | in-Err w ↦ rw w.result-is (subst (λ (n : ℕ). TellsImageFault {T = Bool} (first_fault (chart_of x) n) (Err w.in-Err.fault)) size (w.in-Err.ensures.fault x told))
    ]

pub returns-clause-bytes : goal.returns-clause-bytes
returns-clause-bytes g c =
    let size = c.scratch.view_is ∙ c.requires.scratch in
    let old = g.C.Chip.told c.args.chip.now in
    elim c.match-read_chip.branch [
      | in-Ok w ↦ rw w.result-is (λ x told. subst (λ (n : ℕ). IsByteChart n (chart_of x)) size (w.in-Ok.ensures.bytes x told))
      | in-Err w ↦ rw w.result-is (subst (λ (n : ℕ). ReadsBytes {T = Bool} n old (Err w.in-Err.fault)) size w.in-Err.ensures.bytes)
    ]

pub returns-clause-looks : goal.returns-clause-looks
returns-clause-looks g c =
    let size = c.scratch.view_is ∙ c.requires.scratch in
    let old = g.C.Chip.told c.args.chip.now in
    let new = g.C.Chip.told c.read_chip.new.chip in
    elim c.match-read_chip.branch [
      | in-Ok w ↦ rw w.result-is (record {
        only = looks_done _ w.in-Ok.ensures.looks.only.reads;
        once = w.in-Ok.ensures.looks.once;
      })
      | in-Err w ↦ rw w.result-is (record {
        only = record {
          reads = w.in-Err.ensures.looks.only.reads;
          cause = subst (λ (n : ℕ). HasCauseIn c.args.parts.now.status.most (numbers_in n) true w.in-Err.fault old new) size
              w.in-Err.ensures.looks.only.cause;
        };
        once = w.in-Err.ensures.looks.once;
      })
    ]
