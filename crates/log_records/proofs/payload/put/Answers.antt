use Rattle.std.proofs.Common.{ap, sym, subst, arith, length, length-append}
use Rattle.ipl_format.specs.Record.{IsLogPayload, record_bytes}
use Rattle.log_records.specs.View.{record_of}
use Rattle.log_records.proofs.ListLemmas.{put_list}
use Rattle.log_records.proofs.payload.put.Goals as goal

pub invariant_of-payload : goal.invariant_of-payload
invariant_of-payload c =
    let old = c.payload.inside.bytes.items in
    let version = c.payload.inside.version in
    let r = record_of c.args.logged.now in (
      omega (
        arith,
        ap length c.extend_with.ensures,
        length-append old (record_bytes version r),
        c.entry_len.ensures.len,
      ),
      subst (IsLogPayload version) (sym c.extend_with.ensures)
          (put_list version old r c.payload.invariant.1 c.valid.ensures),
    )
