use Rattle.std.proofs.Common.{ap, refl, Option, List, [], ◌∷◌, ℕ}
use Rattle.std.specs.Option.{option_map_or}
use Rattle.std.specs.FinMap.{get}
use Rattle.ipl_model.specs.Refusals.{early_tests, page_full}
use Rattle.ipl_model.proofs.RefusalLemmas.{first_of-append}
use Rattle.ipl_model.proofs.SeenLemmas.{get-with_writes}
use Rattle.ipl_model.proofs.RuleBatchLemmas.{batches_name_once, batches_write, batches_keep}
use Rattle.ipl_model.proofs.rules.rule_laws.Goals as goal

pub returns-clause-refusals : goal.returns-clause-refusals
returns-clause-refusals c = λ limits state m s n bytes. record { begins = refl; gets = refl; shares = refl; puts = refl; dels = refl; ends = refl }

pub returns-clause-parts : goal.returns-clause-parts
returns-clause-parts c = λ limits state s n bytes. first_of-append (early_tests limits state s n bytes) (page_full state n bytes ∷ [])

pub returns-clause-sees : goal.returns-clause-sees
returns-clause-sees c = λ state s n change is. ap (λ (o : Option (Option (List ℕ))). option_map_or (λ c. c) o (get state.map n)) is

pub returns-clause-commits : goal.returns-clause-commits
returns-clause-commits c = get-with_writes

pub returns-clause-once : goal.returns-clause-once
returns-clause-once c = batches_name_once

pub returns-clause-batches : goal.returns-clause-batches
returns-clause-batches c = batches_write

pub returns-clause-keeps : goal.returns-clause-keeps
returns-clause-keeps c = batches_keep
