use Rattle.number_set.proofs.NumberLemmas.{numbers_are_a_union, there_already, rising_with_numbers, length_with_numbers, with_numbers_grow, rising_lists_are_one}
use Rattle.number_set.proofs.AmongLemmas.{among_is_contains, also_is_a_union}
use Rattle.number_set.proofs.laws.number_laws.Goals as goal

pub returns-clause-union : goal.returns-clause-union
returns-clause-union c = numbers_are_a_union

pub returns-clause-there : goal.returns-clause-there
returns-clause-there c = λ numbers n. there_already n numbers

pub returns-clause-rising : goal.returns-clause-rising
returns-clause-rising c = rising_with_numbers

pub returns-clause-few : goal.returns-clause-few
returns-clause-few c = λ more numbers.
    (length_with_numbers more numbers, with_numbers_grow more numbers)

pub returns-clause-one : goal.returns-clause-one
returns-clause-one c = rising_lists_are_one

pub returns-clause-among : goal.returns-clause-among
returns-clause-among c = among_is_contains

pub returns-clause-also : goal.returns-clause-also
returns-clause-also c = also_is_a_union
