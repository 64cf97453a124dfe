use Rattle.store_laws.proofs.KeepLemmas.{leads_are_work, keepers_look_up}
use Rattle.store_laws.proofs.KeptLemmas.{kept_frames_tell}
use Rattle.store_laws.proofs.FaultLemmas.{opened_stores_keep, idle_faults_are_work, idle_faults_look_up, faults_that_leave_down}
use Rattle.store_laws.proofs.laws.keeping_laws.Goals as goal

pub returns : goal.returns
returns c = record {
  work = leads_are_work;
  looks_up = keepers_look_up;
  tells = kept_frames_tell;
  opened = opened_stores_keep;
  idle = idle_faults_are_work;
  idle_looks = idle_faults_look_up;
  down = faults_that_leave_down;
}
