use Rattle.chip_mem.proofs.NewLemmas.{plain_starts_erased}
use Rattle.chip_mem.proofs.plain_chip.PlainChip.new.Goals as goal

pub returns : goal.returns
returns c = plain_starts_erased c.args.places _ c.in_ok-none_written.field-0.items c.in_ok-erased_sectors.field-0.items
    c.in_ok-none_written.ensures
