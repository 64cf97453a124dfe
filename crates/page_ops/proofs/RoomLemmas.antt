-- Room in a page for one more value.
use Rattle.std.proofs.Common.{◌≡◌, ◌≤◌, ◌<◌, ℕ, false, List, length, set, Option, Some, ◌∙◌, inl, inr, arith}
use Rattle.std.specs.Prelude.{◌↔◌, IsTrue}
use Rattle.std.proofs.lemmas.Bool.{cases_lt, false≢true}
use Rattle.std.proofs.lemmas.List.{length-set}
use Rattle.ipl_base.specs.declared.limits.TheConstants.{PAGE_LEN, VERSION}
use Rattle.ipl_base.specs.Sizes.{size_of_values}
use Rattle.ipl_format.specs.Page.{Slots, IsPage, page_text, value_in}
use Rattle.ipl_meaning.proofs.SizeLemmas.{texts_have_sizes}

-- where the values have room the text has
pub text_fits : (page : Slots) (slot : ℕ) (value : Option (List ℕ)) → IsPage VERSION page
    → size_of_values (value_in (set page slot value)) ≤ PAGE_LEN
    → length (page_text VERSION (set page slot value)) ≤ PAGE_LEN
text_fits page slot value is room =
    let slots : length (set page slot value) ≡ 64 = length-set page slot value ∙ is.slots in
    omega (arith, room, texts_have_sizes (set page slot value) slots)

-- where the text has no room for a value, the values with it are more than a page holds
pub no_room : (page : Slots) (slot : ℕ) (value : List ℕ) → IsPage VERSION page
    → (IsTrue false ↔ (length (page_text VERSION (set page slot (Some value))) ≤ PAGE_LEN))
    → PAGE_LEN < size_of_values (value_in (set page slot (Some value)))
no_room page slot value is tells =
    let now : Slots = set page slot (Some value) in
    let slots : length now ≡ 64 = length-set page slot (Some value) ∙ is.slots in
    elim (cases_lt PAGE_LEN (length (page_text VERSION now))) [
      | inl less ↦ omega (arith, less, texts_have_sizes now slots)
      | inr most ↦ absurd (false≢true (tells.1 most))
    ]
