use Rattle.std.proofs.Common.{◌∙◌, List, ℕ, Ok, Err, subst}
use Rattle.std.specs.List.Sorted.{IsBinarySearchResult}
use Rattle.std.specs.Ordering.{nat_cmp}
use Rattle.unit_directory.proofs.RetiredLemmas.{found_there, missed_there}
use Rattle.unit_directory.proofs.lists.insert_place.Goals as goal

pub returns-in-Err : goal.returns-in-Err
returns-in-Err c =
    let p = c.args.place in
    c.insert.ensures.items
    ∙ missed_there c.args.places.now.items p c.in-Err.at c.requires.rising
    (subst (λ (xs : List ℕ). IsBinarySearchResult (λ y. nat_cmp y p) xs (Err c.in-Err.at))
    c.as_slice.ensures.value c.in-Err.ensures.position)

pub returns-in_default : goal.returns-in_default
returns-in_default c =
    let p = c.args.place in
    found_there c.args.places.now.items p c.in_default.field-0 c.requires.rising
    (subst (λ (xs : List ℕ). IsBinarySearchResult (λ y. nat_cmp y p) xs (Ok c.in_default.field-0))
    c.as_slice.ensures.value c.in_default.ensures.position)
