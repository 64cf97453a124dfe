use Rattle.std.proofs.Common.{◌≡◌, ◌≤◌, ◌+◌, length, arith, sym, ◌∙◌, ap, subst}
use Rattle.ipl_base.specs.declared.limits.TheConstants.{PAYLOAD_LEN}
use Rattle.ipl_format.specs.Record.{IsLogPayload, IsRecord, record_bytes}
use Rattle.ipl_format.proofs.RecordLemmas.{records_have_sizes}
use Rattle.ipl_meaning.specs.Last.{size_of_all}
use Rattle.log_records.specs.View.{record_of}
use Rattle.mem_log_sector.proofs.MemLemmas.{size_of_payload, pushed_then}
use Rattle.mem_log_sector.proofs.mem_log.MemLog.push.Goals as goal

pub returns-clause-fits : goal.returns-clause-fits
returns-clause-fits c =
    let r = record_of c.args.rec.now in
    let before = c.self.inside.payload in
    let fits = c.put-pushed.ensures.fits in
    let list = subst (IsLogPayload before.version) c.bytes.ensures.value c.bytes.ensures.list in
    let size : size_of_all c.args.self.now ≡ length before.bytes =
    ap size_of_all (sym c.self.view_is) ∙ sym (size_of_payload before.version before.bytes list) in (
      λ pushed.
          let low : length before.bytes + length (record_bytes before.version r) ≤ PAYLOAD_LEN =
          fits.0 pushed in omega (arith, low, size, records_have_sizes before.version r),
      λ low. fits.1 (omega (arith, low, size, records_have_sizes before.version r)),
    )

pub returns-clause-pushed : goal.returns-clause-pushed
returns-clause-pushed c =
    let before = c.self.inside.payload in
    let r = record_of c.args.rec.now in
    let list = subst (IsLogPayload before.version) c.bytes.ensures.value c.bytes.ensures.list in
    let valid = subst (λ (v : _). IsRecord v r) (sym c.self.invariant) c.valid.ensures in
    pushed_then c.put-pushed.result before c.put-pushed.new.payload c.args.self.now r
    c.put-pushed.ensures.added list valid (sym c.self.view_is)
