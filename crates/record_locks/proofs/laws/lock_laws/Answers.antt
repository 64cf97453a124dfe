use Rattle.record_locks.proofs.SameLemmas.{alike, refuse_as, peaks_are}
use Rattle.record_locks.proofs.KeepLemmas.{keeps_names, keeps_peaks}
use Rattle.record_locks.proofs.BatchLemmas.{batches_refuse, batches_keep_names, batches_keep_peaks, calls_keep_slots}
use Rattle.record_locks.proofs.laws.lock_laws.Goals as goal

pub returns-clause-names : goal.returns-clause-names
returns-clause-names c = alike

pub returns-clause-refusals : goal.returns-clause-refusals
returns-clause-refusals c = refuse_as

pub returns-clause-calls : goal.returns-clause-calls
returns-clause-calls c = keeps_names

pub returns-clause-peaks : goal.returns-clause-peaks
returns-clause-peaks c = peaks_are

pub returns-clause-keeps : goal.returns-clause-keeps
returns-clause-keeps c = keeps_peaks

pub returns-clause-batches : goal.returns-clause-batches
returns-clause-batches c = batches_refuse

pub returns-clause-closes : goal.returns-clause-closes
returns-clause-closes c = batches_keep_names

pub returns-clause-leaves : goal.returns-clause-leaves
returns-clause-leaves c = batches_keep_peaks

pub returns-clause-slots : goal.returns-clause-slots
returns-clause-slots c = calls_keep_slots
