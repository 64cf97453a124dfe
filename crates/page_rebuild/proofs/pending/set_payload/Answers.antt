use Rattle.std.proofs.Common.{[], ◌∷◌, sym, ◌∙◌, ap, subst}
use Rattle.std.specs.List.{All}
use Rattle.ipl_base.specs.declared.limits.TheConstants.{VERSION}
use Rattle.ipl_format.specs.Record.{IsRecord}
use Rattle.ipl_format.proofs.RecordLemmas.{all_stay}
use Rattle.log_records.specs.Reading.{records_of}
use Rattle.log_records.specs.View.{record_of, Versioned}
use Rattle.log_records.proofs.RecordsLemmas.{records_list}
use Rattle.number_set.specs.Numbers.{among}
use Rattle.page_rebuild.specs.Pended.{IsSetting, IsTooFull}
use Rattle.page_rebuild.proofs.CountLemmas.{later_valid}
use Rattle.page_rebuild.proofs.PartLemmas.{goes_at_first, next_part, goes_part, stops_part}
use Rattle.page_rebuild.proofs.pending.set_payload.Goals as goal

pub loop-logged-init : goal.loop-logged-init
loop-logged-init c =
    let gives =
    ap (λ (p : Versioned). records_of p.version p.bytes)
    c.into_iter-logged-iterator.ensures.into_iter_gives in
    let spells = c.records-logged-items.ensures in
    let payload = c.args.payload.now in
    let items = c.records-logged-items.result in
    let it = c.into_iter-logged-iterator.result in
    record {
      left = goes_at_first (IsSetting (among c.args.active.now) c.args.page)
          (records_of payload.version payload.bytes) (records_of it.version it.bytes)
          c.args.coming.now c.args.frame.now
          (records_list payload.version (records_of items.version items.bytes) payload.bytes spells
          ∙ sym gives);
      valid = subst (All (IsRecord VERSION)) (sym gives) (all_stay _ _ spells.valid);
    }

pub set_record-requires-clause-next : goal.set_record-requires-clause-next
set_record-requires-clause-next c =
    let r = record_of c.in-Some.logged in
    let left = records_of c.loop-logged.logged-iterator.version c.loop-logged.logged-iterator.bytes in
    let after = records_of c.next.new.self.version c.next.new.self.bytes in
    next_part (IsSetting (among c.args.active.now) c.args.page)
    (records_of c.args.payload.now.version c.args.payload.now.bytes) left
    c.loop-logged.invariant.left (r ∷ []) after c.in-Some.ensures.steps c.requires

pub loop-logged-preserved : goal.loop-logged-preserved
loop-logged-preserved c =
    let r = record_of c.in-Some.logged in
    let left = records_of c.loop-logged.logged-iterator.version c.loop-logged.logged-iterator.bytes in
    let after = records_of c.next.new.self.version c.next.new.self.bytes in
    record {
      left = goes_part (IsSetting (among c.args.active.now) c.args.page)
          (records_of c.args.payload.now.version c.args.payload.now.bytes) left
          c.loop-logged.invariant.left (r ∷ []) after c.in-Some.ensures.steps
          c.set_record.new.coming c.set_record.new.frame c.if-not-set_record.ensures;
      valid = later_valid left after r c.loop-logged.invariant.valid c.in-Some.ensures.steps;
    }

pub returns-then-not-set_record : goal.returns-then-not-set_record
returns-then-not-set_record c =
    let r = record_of c.in-Some.logged in
    let left = records_of c.loop-logged.logged-iterator.version c.loop-logged.logged-iterator.bytes in
    let after = records_of c.next.new.self.version c.next.new.self.bytes in
    stops_part (IsSetting (among c.args.active.now) c.args.page)
    (records_of c.args.payload.now.version c.args.payload.now.bytes) left
    c.loop-logged.invariant.left (r ∷ []) after c.in-Some.ensures.steps
    (IsTooFull (among c.args.active.now) c.args.page) c.if-not-set_record.ensures
