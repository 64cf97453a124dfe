use Rattle.std.proofs.Common.{[], ◌∷◌, length, refl, sym, ◌∙◌, ap, subst, arith}
use Rattle.std.specs.List.{All}
use Rattle.ipl_base.specs.declared.limits.TheConstants.{VERSION}
use Rattle.ipl_format.specs.Record.{IsRecord}
use Rattle.ipl_format.proofs.RecordLemmas.{all_stay}
use Rattle.log_records.specs.Reading.{records_of}
use Rattle.log_records.specs.View.{record_of, Versioned}
use Rattle.log_records.proofs.RecordsLemmas.{records_list}
use Rattle.number_set.specs.Numbers.{among}
use Rattle.page_rebuild.proofs.CountLemmas.{left_at_first, left_part, room_left, few_records, first_valid, later_valid}
use Rattle.page_rebuild.proofs.counting.count_payload.Goals as goal

pub loop-logged-init : goal.loop-logged-init
loop-logged-init c =
    let gives =
    ap (λ (p : Versioned). records_of p.version p.bytes)
    c.into_iter-logged-iterator.ensures.into_iter_gives in
    let spells = c.records-logged-items.ensures in
    let payload = c.args.payload.now in
    let items = c.records-logged-items.result in
    let it = c.into_iter-logged-iterator.result in
    let same =
    gives
    ∙ sym (records_list payload.version (records_of items.version items.bytes) payload.bytes spells) in
    record {
      values = left_at_first (among c.args.status.now.numbers) c.args.page
          (records_of it.version it.bytes) (records_of payload.version payload.bytes)
          c.args.values.now c.args.values.now same refl;
      changes = left_at_first (among c.args.active.now) c.args.page
          (records_of it.version it.bytes) (records_of payload.version payload.bytes)
          c.args.changes.now c.args.changes.now same refl;
      valid = subst (All (IsRecord VERSION)) (sym gives) (all_stay _ _ spells.valid);
      few = few_records payload.version payload.bytes (records_of items.version items.bytes) spells
          (omega (arith, c.bytes.ensures.fits, ap length c.bytes.ensures.value));
    }

pub count_value-requires-clause-room : goal.count_value-requires-clause-room
count_value-requires-clause-room c =
    let r = record_of c.in-Some.logged in
    let left = records_of c.loop-logged.logged-iterator.version c.loop-logged.logged-iterator.bytes in
    let after = records_of c.next.new.self.version c.next.new.self.bytes in
    let low = (first_valid left after r c.loop-logged.invariant.valid c.in-Some.ensures.steps).slot in
    room_left (among c.args.status.now.numbers) c.args.page c.loop-logged.invariant.values after r
    r.slot low c.in-Some.ensures.steps (c.requires.few_values r.slot low)
    c.loop-logged.invariant.few

pub count_change-requires-clause-room : goal.count_change-requires-clause-room
count_change-requires-clause-room c =
    let r = record_of c.in-Some.logged in
    let left = records_of c.loop-logged.logged-iterator.version c.loop-logged.logged-iterator.bytes in
    let after = records_of c.next.new.self.version c.next.new.self.bytes in
    let low = (first_valid left after r c.loop-logged.invariant.valid c.in-Some.ensures.steps).slot in
    room_left (among c.args.active.now) c.args.page c.loop-logged.invariant.changes after r
    r.slot low c.in-Some.ensures.steps (c.requires.few_changes r.slot low)
    c.loop-logged.invariant.few

pub loop-logged-preserved : goal.loop-logged-preserved
loop-logged-preserved c =
    let r = record_of c.in-Some.logged in
    let left = records_of c.loop-logged.logged-iterator.version c.loop-logged.logged-iterator.bytes in
    let after = records_of c.next.new.self.version c.next.new.self.bytes in
    record {
      values = left_part (among c.args.status.now.numbers) c.args.page
          c.loop-logged.invariant.values (r ∷ []) after c.count_value.new.values
          c.in-Some.ensures.steps c.count_value.ensures;
      changes = left_part (among c.args.active.now) c.args.page
          c.loop-logged.invariant.changes (r ∷ []) after c.count_change.new.changes
          c.in-Some.ensures.steps c.count_change.ensures;
      valid = later_valid left after r c.loop-logged.invariant.valid c.in-Some.ensures.steps;
      few = c.loop-logged.invariant.few;
    }
