use Rattle.ipl_meaning.proofs.AgreeLemmas.{programs_agree, barriers_agree, reads_agree, says_agree, erases_agree, worns_agree}
use Rattle.ipl_meaning.proofs.laws.agreeing_laws.Goals as goal

pub returns : goal.returns
returns c = record {
  programs = programs_agree;
  barriers = barriers_agree;
  reads = reads_agree;
  says = says_agree;
  erases = erases_agree;
  worns = worns_agree;
}
