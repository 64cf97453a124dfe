use Rattle.std.proofs.Common.{◌≡◌, ◌<◌, ℕ, ◌∙◌, length, sym, ap, subst, arith}
use Rattle.bounded_vec.specs.Bounded.{Bounded}
use Rattle.number_set.specs.contracts.number_set.NumberSet.{the_view}
use Rattle.number_set.specs.Numbers.{Numbers, with_list, with_number, AreRising}
use Rattle.number_set.proofs.NumberLemmas.{rising_with_number, length_with_number}
use Rattle.number_set.proofs.SearchLemmas.{found_same, missed}
use Rattle.number_set.proofs.number_set.NumberSet.add.Goals as goal

-- the set isn't full, in terms of its fields
fits : (old now : Numbers) → old ≡ now → length now.list < now.most → length old.list < old.most
fits old now same less = subst (λ (v : Numbers). length v.list < v.most) (sym same) less

pub invariant_of-self : goal.invariant_of-self
invariant_of-self c =
    let old : Numbers = record { list = c.self.inside.items.items; most = c.self.inside.items.room } in
    let n = c.args.number in
    let (rise, few) = c.self.invariant in
    let same = missed old.list c.deref.result.now n c.in-Err.at c.deref.ensures.0 rise c.in-Err.ensures.position in
    let now = ap (λ (v : Bounded ℕ). v.items) c.insert.ensures ∙ same in (
      subst AreRising (sym now) (rising_with_number n old.list rise),
      omega (
        arith,
        fits old c.args.self.now c.self.view_is c.requires,
        ap length now,
        ap (λ (v : Bounded ℕ). v.room) c.insert.ensures,
        length_with_number n old.list,
      ),
    )

pub returns-in-Err : goal.returns-in-Err
returns-in-Err c =
    let old : Numbers = record { list = c.self.inside.items.items; most = c.self.inside.items.room } in
    let n = c.args.number in
    let same = missed old.list c.deref.result.now n c.in-Err.at c.deref.ensures.0 c.self.invariant.0 c.in-Err.ensures.position in
    subst (λ (v : Numbers). the_view record { items = c.insert.new.self } ≡ with_list v
    (with_number n v.list)) c.self.view_is
    (ap (λ (v : Bounded ℕ). the_view (record { items = v })) c.insert.ensures
    ∙ ap (with_list old) same)

pub insert-requires-clause-room : goal.insert-requires-clause-room
insert-requires-clause-room c =
    let old : Numbers = record { list = c.self.inside.items.items; most = c.self.inside.items.room } in
    fits old c.args.self.now c.self.view_is c.requires

pub returns-in_default : goal.returns-in_default
returns-in_default c =
    let old : Numbers = record { list = c.self.inside.items.items; most = c.self.inside.items.room } in
    let n = c.args.number in
    let same = found_same old.list c.deref.result.now n c.in_default.field-0 c.deref.ensures.0 c.self.invariant.0 c.in_default.ensures.position in
    subst (λ (v : Numbers). v ≡ with_list v (with_number n v.list)) c.self.view_is
    (ap (with_list old) same)
