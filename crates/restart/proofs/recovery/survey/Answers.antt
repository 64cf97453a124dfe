use Rattle.std.proofs.Common.{◌∙◌, ◌+◌, ◌≡◌, ℕ, false, None, Err, rules, subst}
use Rattle.ipl_meaning.specs.Chart.{chart_of}
use Rattle.ipl_meaning.specs.Layout.{Laid}
use Rattle.ipl_meaning.specs.Mirrors.{Mirrors}
use Rattle.selective_merge.specs.Known.{KnowsPlaces}
use Rattle.ipl_meaning.specs.Faults.{TellsImageFault, shape_fault, greatest_found}
use Rattle.ipl_meaning.specs.LaidOut.{layout_in}
use Rattle.ipl_meaning.specs.OpeningLaws.{IsByteChart}
use Rattle.ipl_meaning.specs.Opened.{tables_of}
use Rattle.unit_io.specs.ReadsAt.{Anywhere}
use Rattle.restart.specs.Looks.{LooksOnce, HasCauseIn, numbers_in}
use Rattle.restart.proofs.LookLemmas.{looks_done}
use Rattle.restart.proofs.recovery.survey.Goals.{in-Ok, in-Err}
use Rattle.restart.proofs.recovery.survey.Goals as goal

pub returns-clause-fault : goal.returns-clause-fault
returns-clause-fault g c = λ x told.
    let size = c.scratch.view_is ∙ c.requires.scratch in
    elim c.match-read_chip.branch [
      | in-Ok w ↦ rw w.result-is (subst (λ (n : ℕ). shape_fault (chart_of x) n ≡ None) size (w.in-Ok.ensures.fault x told))
      | in-Err w ↦ rw w.result-is (subst (λ (n : ℕ). TellsImageFault {T = Unit {0}} (shape_fault (chart_of x) n) (Err w.in-Err.fault)) size (w.in-Err.ensures.fault x told))
    ]

pub returns-clause-laid : goal.returns-clause-laid
returns-clause-laid g c =
    let size = c.scratch.view_is ∙ c.requires.scratch in
    elim c.match-read_chip.branch [
      | in-Ok w ↦ rw w.result-is (λ x told. subst (λ (n : ℕ). Laid n (chart_of x) (layout_in (chart_of x) n)) size (w.in-Ok.ensures.found.laid x told))
      | in-Err w ↦ rw w.result-is (search rules)
    ]

pub returns-clause-mirrors : goal.returns-clause-mirrors
returns-clause-mirrors g c =
    let now = c.read_chip.new.findings in
    let size = c.scratch.view_is ∙ c.requires.scratch in
    elim c.match-read_chip.branch [
      | in-Ok w ↦ rw w.result-is (λ x told.
          let found = w.in-Ok.ensures.found in
          let mirrors = subst (λ (k : ℕ). Mirrors c.scratch.inside.geometry.places (chart_of x) (layout_in (chart_of x) c.scratch.inside.geometry.places)
          (tables_of now.directory.now now.overflow.now now.status.now k)) (found.opened x told).directory.number (found.mirrors x told) in
          let ended = subst (λ (n : ℕ). Mirrors n (chart_of x) (layout_in (chart_of x) n)
          (tables_of now.directory.now now.overflow.now now.status.now (greatest_found (chart_of x) n + 1))) size mirrors in
          search rules)
      | in-Err w ↦ rw w.result-is (search rules)
    ]

pub returns-clause-bytes : goal.returns-clause-bytes
returns-clause-bytes g c =
    let size = c.scratch.view_is ∙ c.requires.scratch in
    elim c.match-read_chip.branch [
      | in-Ok w ↦ rw w.result-is (λ x told. subst (λ (n : ℕ). IsByteChart n (chart_of x)) size (w.in-Ok.ensures.bytes x told))
      | in-Err w ↦ rw w.result-is (search rules)
    ]

pub returns-clause-known : goal.returns-clause-known
returns-clause-known g c =
    let now = c.read_chip.new.findings in
    let size = c.scratch.view_is ∙ c.requires.scratch in
    elim c.match-read_chip.branch [
      | in-Ok w ↦ rw w.result-is (
          let known = subst (λ (n : ℕ). KnowsPlaces n
          (tables_of now.directory.now now.overflow.now now.status.now (w.in-Ok.field-0.greatest + 1))) size w.in-Ok.ensures.found.known in
          (w.in-Ok.field-0.greatest + 1, search rules))
      | in-Err w ↦ rw w.result-is (search rules)
    ]

pub returns-clause-looks : goal.returns-clause-looks
returns-clause-looks g c =
    let size = c.scratch.view_is ∙ c.requires.scratch in
    let old = g.C.Chip.told c.args.chip.now in
    let new = g.C.Chip.told c.read_chip.new.chip in
    elim c.match-read_chip.branch [
      | in-Ok w ↦ rw w.result-is (record {
        only = looks_done _ w.in-Ok.ensures.looks.only.reads;
        once = w.in-Ok.ensures.looks.once;
      })
      | in-Err w ↦ rw w.result-is (subst (λ (n : ℕ). LooksOnce {T = Unit {0}} Anywhere
          (HasCauseIn c.args.status.now.most (numbers_in n) false) (Err w.in-Err.fault) old new) size (record {
            only = record { reads = w.in-Err.ensures.looks.only.reads; cause = w.in-Err.ensures.looks.only.cause };
            once = w.in-Err.ensures.looks.once;
          }))
    ]
