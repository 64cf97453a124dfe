use Rattle.ipl_meaning.proofs.CauseLemmas.{faults_are_caused}
use Rattle.ipl_meaning.proofs.FaultLemmas.{not_formatted_is_exact, missing_is_least, bad_logs_are_first}
use Rattle.ipl_meaning.proofs.openings.fault_laws.Goals as goal

pub returns : goal.returns
returns c = record { causes = faults_are_caused; not_formatted = not_formatted_is_exact; missing = missing_is_least; logs = bad_logs_are_first }
