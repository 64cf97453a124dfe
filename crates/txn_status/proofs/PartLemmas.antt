-- The sector of a part of numbers.
use Rattle.std.proofs.Common.{◌≡◌, ℕ, List, ◌∙◌, ap}
use Rattle.sector_format.specs.declared.sector.Head.{Head}
use Rattle.sector_format.specs.Decode.{sector_of}
use Rattle.sector_format.specs.Written.{written_head}
use Rattle.txn_status.specs.Commits.{commit_bytes, commit_sector}

pub same_sector : (head : Head) (payload : List ℕ) (generation serial : ℕ) (numbers : List ℕ)
    → head ≡ written_head 6 0 generation serial
    → payload ≡ commit_bytes numbers → sector_of head payload ≡ commit_sector generation serial
    numbers
same_sector head payload generation serial numbers is bytes =
    ap (λ (z : Head). sector_of z payload) is
    ∙ ap (λ (b : List ℕ). sector_of (written_head 6 0 generation serial) b) bytes
