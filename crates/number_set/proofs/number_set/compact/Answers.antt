use Rattle.std.proofs.Common.{◌≡◌, ◌+◌, ℕ, List, ◌<◌, length, take, drop, get_or, set, arith, ap, sym, ◌∙◌, length-set}
use Rattle.bounded_vec.specs.Bounded.{Bounded, with_items}
use Rattle.bounded_vec.proofs.WriteLemmas.{written}
use Rattle.number_set.specs.Flags.{has_flag}
use Rattle.number_set.proofs.GatherLemmas.{front_kept, back_kept, back_left, next_left}
use Rattle.number_set.proofs.number_set.compact.Goals.{then-has, else-has}
use Rattle.number_set.proofs.number_set.compact.Goals as goal

pub loop-i-preserved : goal.loop-i-preserved
loop-i-preserved c =
    let so = c.loop-i.invariant in
    let f = has_flag c.args.flags.now.bytes in
    let old = c.args.items.now.items in
    let now = c.loop-i.items.items in
    let kept = c.loop-i.kept in
    let i = c.loop-i.i in
    let low : i < length old = omega (arith, c.loop-i-test.true, so.end) in
    elim c.if-has.branch [
      | then-has w ↦
          let x : ℕ = get_or w.deref.result.now i 0 in
          let put : c.if-has.items ≡ with_items c.loop-i.items (set now kept x) =
          w.items-is ∙ written c.loop-i.items w.deref_mut.result.now kept x w.deref_mut.ensures.value in
          let new : c.if-has.items.items ≡ set now kept x = ap (λ (v : Bounded ℕ). v.items) put in
          let item : x ≡ get_or now i 0 = ap (λ (l : List ℕ). get_or l i 0) w.deref.ensures.0 in record {
            few = omega (arith, so.few, w.kept-is);
            size = ap length new ∙ length-set now kept x ∙ so.size;
            end = so.end;
            front = front_kept f old now kept i low so.size so.few so.front so.back c.if-has.items.items x
                c.if-has.kept new item w.kept-is (sym c.has.ensures ∙ w.if-has.true);
            back = back_kept f old now kept i low so.size so.few so.front so.back c.if-has.items.items x
                new;
            room = ap (λ (v : Bounded ℕ). v.room) put ∙ so.room;
          }
      | else-has w ↦
          let same : c.if-has.items.items ≡ now =
          ap (λ (v : Bounded ℕ). v.items) w.items-is in record {
            few = omega (arith, so.few, w.kept-is);
            size = ap length same ∙ so.size;
            end = so.end;
            front = ap (λ (k : ℕ). take k c.if-has.items.items) w.kept-is ∙ ap (take kept) same ∙ so.front
                ∙ sym (next_left f old i low (sym c.has.ensures ∙ w.if-has.false));
            back = ap (λ (l : List ℕ). drop (i + 1) l) same
                ∙ back_left f old now kept i low so.size so.few so.front so.back;
            room = ap (λ (v : Bounded ℕ). v.room) w.items-is ∙ so.room;
          }
    ]
