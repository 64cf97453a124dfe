use Rattle.std.proofs.Common.{◌≡◌, ◌<◌, ◌++◌, ◌+◌, ℕ, List, length, get_or, drop, sym, ◌∙◌, ap}
use Rattle.std.proofs.lemmas.List.{drop_more}
use Rattle.log_records.specs.Reading.{records_of}
use Rattle.unit_log.specs.declared.scratch.LogSector.{LogSector}
use Rattle.unit_log.specs.Kept.{records_kept}
use Rattle.txn_status.specs.Status.{keeps_of}
use Rattle.restart.proofs.JoinLemmas.{left_part, left_full}
use Rattle.restart.proofs.joining.add_sectors.Goals as goal

-- the sector at hand, and those behind it
step : (sectors : List LogSector) (i : ℕ) (item : LogSector) → i < length sectors
    → item ≡ get_or sectors i item
    → records_kept (drop i sectors) ≡ records_of item.payload.version item.payload.bytes ++ records_kept (drop (i + 1) sectors)
step sectors i item low is =
    ap records_kept (drop_more sectors i item low)
    ∙ ap (λ (z : LogSector). records_of z.payload.version z.payload.bytes ++ records_kept (drop (i + 1) sectors)) (sym is)

pub returns-then-not-add_payload-clause-full : goal.returns-then-not-add_payload-clause-full
returns-then-not-add_payload-clause-full c =
    let sectors = c.args.sectors.now in
    let i = c.loop-sector.sector-index in
    let item : LogSector = c.sector-item.result in
    left_full c.args.status.now.numbers (records_kept (drop i sectors)) (records_of item.payload.version item.payload.bytes)
    (records_kept (drop (i + 1) sectors)) (records_kept sectors) c.loop-sector.kept c.args.kept.now
    (step sectors i item c.loop-sector-test.true c.sector-item.is) c.loop-sector.invariant
    (keeps_of c.args.status.now.most) c.if-not-add_payload.ensures.full

pub loop-sector-preserved : goal.loop-sector-preserved
loop-sector-preserved c =
    let sectors = c.args.sectors.now in
    let i = c.loop-sector.sector-index in
    let item : LogSector = c.sector-item.result in
    left_part c.args.status.now.numbers (records_kept (drop i sectors)) (records_of item.payload.version item.payload.bytes)
    (records_kept (drop (i + 1) sectors)) (records_kept sectors) c.loop-sector.kept c.args.kept.now
    (step sectors i item c.loop-sector-test.true c.sector-item.is) c.loop-sector.invariant
    c.add_payload.new.kept c.if-not-add_payload.ensures.joined
    c.add_payload.ensures.most c.add_payload.ensures.room c.add_payload.ensures.exact
