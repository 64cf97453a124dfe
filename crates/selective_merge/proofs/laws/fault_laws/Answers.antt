use Rattle.selective_merge.proofs.FaultLemmas.{mergeable_units_have_no_fault, faults_are_of_the_place, said_units_are_mergeable, merge_faults_are_of_the_unit}
use Rattle.selective_merge.proofs.laws.fault_laws.Goals as goal

pub returns-clause-none : goal.returns-clause-none
returns-clause-none c = mergeable_units_have_no_fault

pub returns-clause-place : goal.returns-clause-place
returns-clause-place c = faults_are_of_the_place

pub returns-clause-said : goal.returns-clause-said
returns-clause-said c = said_units_are_mergeable

pub returns-clause-unit : goal.returns-clause-unit
returns-clause-unit c = merge_faults_are_of_the_unit
