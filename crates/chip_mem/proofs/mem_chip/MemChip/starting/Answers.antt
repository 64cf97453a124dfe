use Rattle.std.proofs.Common.{sym, ◌∙◌, refl, ap}
use Rattle.chip_mem.specs.Sectors.{contents_of}
use Rattle.chip_mem.proofs.NewLemmas.{starts}
use Rattle.chip_mem.proofs.StoryLemmas.{replayed_at_first}
use Rattle.chip_mem.proofs.mem_chip.MemChip.starting.Goals as goal

pub invariant_of-result-clause-replayed : goal.invariant_of-result-clause-replayed
invariant_of-result-clause-replayed c =
    let copied = c.in_ok-copy_sectors.ensures.items ∙ c.deref.ensures.value in
    replayed_at_first c.in_ok-copy_sectors.field-0.items c.args.sectors.items c.in_ok-with_capacity.field-0.items c.in_ok-with_capacity.ensures.items (sym copied)

pub returns-clause-told : goal.returns-clause-told
returns-clause-told c =
    let copied = c.in_ok-copy_sectors.ensures.items ∙ c.deref.ensures.value in
    starts c.args.places c.new.result c.in_ok-copy_sectors.field-0.items c.args.sectors.items c.in_ok-with_capacity.field-0.items (contents_of c.args.sectors.items) (ap contents_of copied) refl c.in_ok-with_capacity.ensures.items c.new.ensures
