use Rattle.unit_io.proofs.HeldLemmas.{sound_pages_are_held, held_pages_read_well}
use Rattle.unit_io.proofs.ReadsLemmas.{page_reads_of}
use Rattle.unit_io.proofs.laws.page_laws.Goals as goal

pub returns : goal.returns
returns c = record { sound = sound_pages_are_held; well = held_pages_read_well; reads = page_reads_of }
