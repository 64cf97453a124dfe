use Rattle.std.proofs.Common.{◌≡◌, ◌≤◌, ◌+◌, ◌++◌, length, arith, sym, ◌∙◌, ap, subst}
use Rattle.std.proofs.lemmas.Bool.{ne_eqb, eq-eqb}
use Rattle.ipl_base.specs.declared.limits.TheConstants.{PAYLOAD_LEN}
use Rattle.ipl_format.specs.Record.{IsLogPayload, record_bytes}
use Rattle.log_records.specs.View.{Versioned, record_of}
use Rattle.log_records.proofs.RecordsLemmas.{records_list}
use Rattle.mem_log_sector.proofs.MemLemmas.{read, kept_none, kept_other, kept_own, next_fits, done_as_it_fits}
use Rattle.mem_log_sector.proofs.mem_log.others.Goals as goal

pub loop-record-init : goal.loop-record-init
loop-record-init c =
    let p = c.args.payload.now in
    let list = subst (IsLogPayload p.version) c.bytes.ensures.value c.bytes.ensures.list in
    let fits : length p.bytes ≤ PAYLOAD_LEN =
    omega (arith, c.bytes.ensures.fits, ap length c.bytes.ensures.value) in
    let items = read c.records-record-items.result in
    let same = ap read c.into_iter-record-iterator.ensures.into_iter_gives
    ∙ sym (records_list p.version items p.bytes c.records-record-items.ensures) in
    kept_none c.args.tid p c.into_iter-record-iterator.result c.empty-kept.result list fits same
    (ap (λ (k : Versioned). k.version) c.empty-kept.ensures)
    (ap (λ (k : Versioned). k.bytes) c.empty-kept.ensures)

pub loop-record-preserved-then-record-tid : goal.loop-record-preserved-then-record-tid
loop-record-preserved-then-record-tid c =
    let l = c.loop-record in
    let r = record_of c.in-Some.record in
    let step = c.in-Some.ensures.steps in
    let fits = next_fits c.args.tid c.args.payload.now l.kept l.record-iterator c.next.new.self r
    l.invariant step in
    let added = done_as_it_fits c.put.result
    (length l.kept.bytes + length (record_bytes l.kept.version r) ≤ PAYLOAD_LEN)
    (c.put.new.payload
    ≡ record { version = l.kept.version; bytes = l.kept.bytes ++ record_bytes l.kept.version r })
    c.put.ensures.fits fits c.put.ensures.added in
    kept_other c.args.tid c.args.payload.now l.kept l.record-iterator c.next.new.self r
    l.invariant step c.put.new.payload (ne_eqb _ _ c.if-record-tid.true) added

pub loop-record-preserved : goal.loop-record-preserved
loop-record-preserved c =
    let l = c.loop-record in
    kept_own c.args.tid c.args.payload.now l.kept l.record-iterator c.next.new.self
    (record_of c.in-Some.record) l.invariant c.in-Some.ensures.steps (eq-eqb _ _ c.if-record-tid.false)
