use Rattle.std.proofs.Common.{rules, ◌≡◌}
use Rattle.chip_trait.specs.Story.{blank}
use Rattle.sector_format.proofs.DecodeLemmas.{erased_says_nothing}
use Rattle.sector_format.proofs.decoding.decode.Goals as goal

pub returns-then-is_erased-clause-sector : goal.returns-then-is_erased-clause-sector
returns-then-is_erased-clause-sector c =
    let erased : c.args.bytes.now ≡ blank = search rules in
    erased_says_nothing c.args.bytes.now erased
