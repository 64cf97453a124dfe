use Rattle.std.proofs.Common.{List, ap, ◌∙◌, subst}
use Rattle.ipl_format.specs.Record.{Record}
use Rattle.unit_io.specs.Reads.{OfContents}
use Rattle.unit_log.specs.declared.scratch.LogSector.{LogSector}
use Rattle.unit_log.specs.Kept.{records_kept}
use Rattle.selective_merge.specs.Faults.{pages_fault, TellsTheFault}
use Rattle.selective_merge.specs.Homes.{from_home}
use Rattle.selective_merge.specs.Moved.{IsAside, HasMoved}
use Rattle.selective_merge.specs.Throughout.{ChartsThroughout}
use Rattle.selective_merge.specs.Writing.{MovesPages}
use Rattle.selective_merge.proofs.places.move_read.Goals as goal

pub returns-clause-moves : goal.returns-clause-moves
returns-clause-moves g c =
    subst (λ (l : List Record). MovesPages (g.C.Chip.told c.args.chip.now).places
    (from_home c.args.home.now c.args.status.now.numbers l) c.args.place c.args.head.now.generation
    (g.C.Chip.told c.args.chip.now) c.move_pages.result (g.C.Chip.told c.move_pages.new.chip))
    (c.of-log.ensures ∙ ap (λ (s : List LogSector). records_kept s) c.sectors.ensures.sectors) c.move_pages.ensures.moves

pub returns-clause-tells : goal.returns-clause-tells
returns-clause-tells g c =
    subst (λ (l : List Record). ChartsThroughout
    (λ pieces. HasMoved (from_home c.args.home.now c.args.status.now.numbers l) c.args.place
    c.args.head.now.generation pieces 15)
    (IsAside c.args.place) c.move_pages.result (g.C.Chip.told c.args.chip.now) (g.C.Chip.told c.move_pages.new.chip))
    (c.of-log.ensures ∙ ap (λ (s : List LogSector). records_kept s) c.sectors.ensures.sectors) c.move_pages.ensures.tells

pub returns-clause-fault : goal.returns-clause-fault
returns-clause-fault g c =
    subst (λ (l : List Record). OfContents (g.C.Chip.told c.args.chip.now) (λ x. TellsTheFault
    (pages_fault x (from_home c.args.home.now c.args.status.now.numbers l)) c.move_pages.result))
    (c.of-log.ensures ∙ ap (λ (s : List LogSector). records_kept s) c.sectors.ensures.sectors) c.move_pages.ensures.fault
