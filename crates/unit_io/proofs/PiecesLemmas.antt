-- The pieces of a page, read one after another.
use Rattle.std.proofs.Common.{◌≡◌, ◌+◌, ℕ, List, ◌++◌, ◌∙◌, ap, add-one}
use Rattle.ipl_format.specs.Place.{base_sector_of}
use Rattle.ipl_meaning.specs.Chart.{Chart}
use Rattle.unit_io.specs.Faults.{payload_of, text_below}

-- one piece more
pub text_more : (c : Chart) (place page n : ℕ) (before after : List ℕ) → before ≡ text_below c place page n
    → after ≡ before ++ payload_of (c place (base_sector_of page n)) → after ≡ text_below c place page (n + 1)
text_more c place page n before after is then = rw (add-one n) (then ∙ ap (λ (t : List ℕ). t ++ payload_of (c place (base_sector_of page n))) is)
