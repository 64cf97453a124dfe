use Rattle.std.proofs.Common.{arith}
use Rattle.log_records.proofs.RecordLemmas.{front_facts}
use Rattle.log_records.proofs.reading.first_page.Goals as goal

pub returns-clause-within : goal.returns-clause-within
returns-clause-within c =
    let facts = front_facts c.args.version c.args.bytes.now c.requires in
    let low = facts.page in omega (arith, low, c.from.ensures)
