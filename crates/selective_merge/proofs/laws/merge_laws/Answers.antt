use Rattle.selective_merge.proofs.MergedMaskLemmas.{packs_are_told}
use Rattle.selective_merge.proofs.MergeLemmas.{filled_places_are_ready, stands_after_filling, tables_follow_filling, merges_keep_the_last}
use Rattle.selective_merge.proofs.OnceLemmas.{merges_read_once}
use Rattle.selective_merge.proofs.laws.merge_laws.Goals as goal

pub returns-clause-ready : goal.returns-clause-ready
returns-clause-ready c = filled_places_are_ready

pub returns-clause-stands : goal.returns-clause-stands
returns-clause-stands c = stands_after_filling

pub returns-clause-tables : goal.returns-clause-tables
returns-clause-tables c = tables_follow_filling

pub returns-clause-last : goal.returns-clause-last
returns-clause-last c = merges_keep_the_last

pub returns-clause-told : goal.returns-clause-told
returns-clause-told c = packs_are_told

pub returns-clause-once : goal.returns-clause-once
returns-clause-once c = merges_read_once
