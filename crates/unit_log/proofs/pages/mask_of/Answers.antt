use Rattle.std.proofs.Common.{bit_or, sym, ◌∙◌, ap, subst, arith}
use Rattle.std.specs.List.{All}
use Rattle.std.proofs.lemmas.Nat.{one_shl}
use Rattle.ipl_base.specs.declared.limits.TheConstants.{VERSION}
use Rattle.ipl_format.specs.Record.{IsRecord}
use Rattle.ipl_meaning.specs.Masks.{mask_after}
use Rattle.log_records.specs.Reading.{records_of}
use Rattle.log_records.specs.View.{Versioned, record_of}
use Rattle.ipl_format.proofs.RecordLemmas.{all_stay}
use Rattle.log_records.proofs.RecordsLemmas.{records_list}
use Rattle.unit_log.proofs.ChooseLemmas.{later_valid, first_valid, mask_step}
use Rattle.unit_log.proofs.pages.mask_of.Goals as goal

pub loop-logged-init : goal.loop-logged-init
loop-logged-init c =
    let read = λ (p : Versioned). records_of p.version p.bytes in
    let items = read c.records-logged-items.result in
    let payload = c.args.payload.now in
    let gives = ap read c.into_iter-logged-iterator.ensures.into_iter_gives in
    let spells = c.records-logged-items.ensures in
    record {
      left = ap (mask_after 0)
          (gives ∙ sym (records_list payload.version items payload.bytes spells));
      valid = subst (All (IsRecord VERSION)) (sym gives)
          (all_stay payload.version items spells.valid);
    }

pub loop-logged-preserved : goal.loop-logged-preserved
loop-logged-preserved c =
    let r = record_of c.in-Some.logged in
    let left =
    records_of c.loop-logged.logged-iterator.version c.loop-logged.logged-iterator.bytes in
    let after = records_of c.next.new.self.version c.next.new.self.bytes in
    let valid = first_valid left after r c.loop-logged.invariant.valid c.in-Some.ensures.steps in
    record {
      left = mask_step left after r c.loop-logged.mask _ _ c.in-Some.ensures.steps
          (ap (bit_or c.loop-logged.mask) (one_shl r.page 16 (omega (arith, valid.page))))
          c.loop-logged.invariant.left;
      valid = later_valid left after r c.loop-logged.invariant.valid c.in-Some.ensures.steps;
    }
