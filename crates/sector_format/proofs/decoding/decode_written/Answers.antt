use Rattle.std.proofs.Common.{rules, ◌≡◌, ◌≢◌, true, false}
use Rattle.ipl_format.specs.Sector.{is_formed, stored_sum, computed_sum}
use Rattle.sector_format.proofs.DecodeLemmas.{bad_says_nothing, strange_says_nothing, formed_is_said, formed_is_short}
use Rattle.sector_format.proofs.decoding.decode_written.Goals as goal

pub returns-then-stored-computed-clause-sector : goal.returns-then-stored-computed-clause-sector
returns-then-stored-computed-clause-sector c =
    let apart : stored_sum c.args.bytes.now ≢ computed_sum c.args.bytes.now = search rules in
    bad_says_nothing c.args.bytes.now apart

pub returns-then-not-is_formed-clause-sector : goal.returns-then-not-is_formed-clause-sector
returns-then-not-is_formed-clause-sector c =
    let strange : is_formed c.args.bytes.now ≡ false = search rules in
    strange_says_nothing c.args.bytes.now strange

pub returns-clause-sector : goal.returns-clause-sector
returns-clause-sector c =
    let formed : is_formed c.args.bytes.now ≡ true = search rules in
    let sums : stored_sum c.args.bytes.now ≡ computed_sum c.args.bytes.now = search rules in
    formed_is_said c.args.bytes.now c.head_in.result c.used_length.result formed sums c.head_in.ensures c.used_length.ensures

pub returns-clause-decoded : goal.returns-clause-decoded
returns-clause-decoded c =
    let formed : is_formed c.args.bytes.now ≡ true = search rules in
    formed_is_short c.args.bytes.now c.used_length.result formed c.used_length.ensures
