use Rattle.std.proofs.Common.{◌<◌, List, length, ap, ◌∙◌, subst}
use Rattle.ipl_format.specs.Record.{Record}
use Rattle.unit_log.specs.declared.scratch.LogSector.{LogSector}
use Rattle.selective_merge.specs.Packs.{packs_of}
use Rattle.unit_log.specs.Kept.{records_kept}
use Rattle.selective_merge.specs.Moving.{tables_of}
use Rattle.selective_merge.proofs.UnitMergeLemmas.{merged_by, merged_not}
use Rattle.selective_merge.proofs.merging.merge_learnt.Goals as goal

pub returns-then-not-pack_carried : goal.returns-then-not-pack_carried
returns-then-not-pack_carried g c =
    merged_not c.args.unit (tables_of c.args.parts.now) c.args.parts.now.scratch.home (records_kept c.args.parts.now.scratch.sectors)
    (g.C.Chip.told c.args.chip.now) c.requires.learnt c.requires.ready.known
    (subst (λ (l : List Record). 12 < length (packs_of c.args.parts.now.active l))
    (c.of-log.ensures ∙ ap (λ (s : List LogSector). records_kept s) c.sectors.ensures.sectors)
    c.if-not-pack_carried.ensures.full)

pub returns : goal.returns
returns g c =
    let did = c.merge_packed.ensures in
    merged_by c.args.unit (tables_of c.args.parts.now) c.args.parts.now.scratch.home (records_kept c.args.parts.now.scratch.sectors)
    (g.C.Chip.told c.args.chip.now) c.requires.learnt (tables_of c.merge_packed.new.parts) c.merge_packed.result
    (g.C.Chip.told c.merge_packed.new.chip) did.steps did.tells did.fault did.few did.moves
