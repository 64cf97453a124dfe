use Rattle.ipl_meaning.proofs.ContentsLemmas.{whole_sectors_make_byte_charts}
use Rattle.ipl_meaning.proofs.FormatFaultLemmas.{formatted_chips_have_no_fault}
use Rattle.ipl_meaning.proofs.LaidLemmas.{laid_has_no_fault, laid_has_no_shape_fault, laid_is_fine_or_spent, laid_says_its_units}
use Rattle.ipl_meaning.proofs.NoFaultLemmas.{no_fault_is_laid, no_fault_is_fresh, no_shape_fault_is_laid}
use Rattle.ipl_meaning.proofs.openings.opening_laws.Goals as goal

pub returns : goal.returns
returns c = record { contents = whole_sectors_make_byte_charts; laid = no_fault_is_laid; fresh = no_fault_is_fresh; no_fault = laid_has_no_fault; fine_or_spent = laid_is_fine_or_spent; units = laid_says_its_units; formatted = formatted_chips_have_no_fault; shape = no_shape_fault_is_laid; no_shape_fault = laid_has_no_shape_fault }
