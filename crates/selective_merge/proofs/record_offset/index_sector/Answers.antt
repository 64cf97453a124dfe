use Rattle.std.proofs.Common.{◌≡◌, ◌≤◌, ◌+◌, ◌-◌, ◌++◌, ◌∷◌, [], ℕ, true, false, List, length, drop, sym, ◌∙◌, ap, subst, refl, arith, length-append, length-drop, append-nil}
use Rattle.std.proofs.lemmas.List.{take_rest}
use Rattle.bounded_vec.specs.Bounded.{Bounded}
use Rattle.ipl_format.specs.Record.{size_in}
use Rattle.log_records.specs.Reading.{has_record}
use Rattle.selective_merge.specs.declared.record_offset.RecordOffset.{RecordOffset}
use Rattle.selective_merge.proofs.RecordOffsetLemmas.{index_next, step_none}
use Rattle.selective_merge.proofs.record_offset.index_sector.Goals as goal

pub loop-turn-preserved : goal.loop-turn-preserved
loop-turn-preserved c =
    let so = c.loop-turn.invariant in
    let v = c.args.version in
    let s = c.args.sector in
    let bytes = c.args.bytes.now in
    let at = c.loop-turn.at in
    let turn = c.loop-turn.turn in
    let there : has_record v (drop at bytes) ≡ true =
    sym (subst (λ (l : List ℕ). c.has_record.result ≡ has_record v l) (take_rest bytes at) c.has_record.ensures)
    ∙ c.if-not-has_record.false in
    let long : c.first_len-at.result ≡ 12 + size_in v (drop at bytes) =
    subst (λ (l : List ℕ). c.first_len-at.result ≡ 12 + size_in v l) (take_rest bytes at) c.first_len-at.ensures.size in
    let within : c.first_len-at.result ≤ length (drop at bytes) =
    subst (λ (l : List ℕ). c.first_len-at.result ≤ length l) (take_rest bytes at) c.first_len-at.ensures.within in
    record {
      same = index_next v s at turn c.first_len-at.result bytes c.loop-turn.offsets.items
          c.push.new.self.items _ c.loop-turn-test.true there long (ap (λ (v : Bounded RecordOffset). v.items) c.push.ensures) so.same;
      low = omega (arith, within, length-drop at bytes, so.low);
      few = omega (
        arith,
        so.few,
        long,
        ap (λ (v : Bounded RecordOffset). length v.items) c.push.ensures,
        length-append c.loop-turn.offsets.items (record { sector = s; at = at } ∷ []),
      );
      room = ap (λ (v : Bounded RecordOffset). v.room) c.push.ensures ∙ so.room;
      end = refl;
    }

pub returns-then-not-has_record-clause-items : goal.returns-then-not-has_record-clause-items
returns-then-not-has_record-clause-items c =
    let so = c.loop-turn.invariant in
    let v = c.args.version in
    let s = c.args.sector in
    let bytes = c.args.bytes.now in
    let at = c.loop-turn.at in
    let turn = c.loop-turn.turn in
    let none : has_record v (drop at bytes) ≡ false =
    sym (subst (λ (l : List ℕ). c.has_record.result ≡ has_record v l) (take_rest bytes at) c.has_record.ensures)
    ∙ c.if-not-has_record.true in
    sym (append-nil c.loop-turn.offsets.items)
    ∙ ap (λ (l : List RecordOffset). c.loop-turn.offsets.items ++ l)
    (sym (step_none (length bytes - turn) v s at bytes none)) ∙ so.same
