-- The chart of contents.
use Rattle.ipl_format.proofs.SectorOnceLemmas.{sectors_spell_once}
use Rattle.ipl_meaning.specs.OpeningLaws.{WholeSectorsMakeByteCharts}

pub whole_sectors_make_byte_charts : WholeSectorsMakeByteCharts
whole_sectors_make_byte_charts x places whole p s sector low within read is = let it = whole p s low within read in (sectors_spell_once (x p s) sector it.size it.bytes is).0.bytes
