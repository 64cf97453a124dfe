use Rattle.std.proofs.Common.{◌<◌, length, get_or, refl, sym, ◌∙◌, ap, arith}
use Rattle.std.proofs.lemmas.List.Elements.{Contains-get_or}
use Rattle.std.proofs.lemmas.Option.{none-some}
use Rattle.record_locks.specs.Held.{SessionSlots, number_of}
use Rattle.buffer_pool.proofs.HoldingLemmas.{nothing_keeps, both_keep}
use Rattle.ipl_store.proofs.FramedLemmas.{applied_next}
use Rattle.ipl_store.proofs.transactions.Transactions.apply_all.Goals.{in-Some, in_default}
use Rattle.ipl_store.proofs.transactions.Transactions.apply_all.Goals as goal

pub loop-s-init : goal.loop-s-init
loop-s-init c = (refl, nothing_keeps c.args.self.now.pages.pool, refl, refl)

pub number-requires : goal.number-requires
number-requires c =
    let numbers = c.args.numbers.now in
    let within : c.loop-s.s-index < length numbers = omega (arith, c.loop-s-test.true) in
    let low = (c.requires.opens (get_or numbers c.loop-s.s-index 0)
    (Contains-get_or numbers c.loop-s.s-index 0 within)).low in
    omega (arith, low, ap (λ (slots : SessionSlots). length slots) c.loop-s.invariant.3)

pub written-requires : goal.written-requires
written-requires c =
    let numbers = c.args.numbers.now in
    let within : c.loop-s.s-index < length numbers = omega (arith, c.loop-s-test.true) in
    let low = (c.requires.opens (get_or numbers c.loop-s.s-index 0)
    (Contains-get_or numbers c.loop-s.s-index 0 within)).low in
    omega (arith, low, ap (λ (slots : SessionSlots). length slots) c.loop-s.invariant.3)

pub loop-s-preserved : goal.loop-s-preserved
loop-s-preserved c =
    let old = c.args.self.now in
    let numbers = c.args.numbers.now in
    let l = c.loop-s in
    let (applied, pins, parts, sessions) = l.invariant in
    let within : l.s-index < length numbers = omega (arith, c.loop-s-test.true) in
    let s = get_or numbers l.s-index 0 in
    elim c.match-number.branch [
      | in-Some w ↦
          rw w.self-is (
            applied_next old.sessions l.self.sessions numbers l.s-index w.in-Some.tid
                w.written.result.now _ _ _ sessions within (sym c.number.ensures ∙ w.in-Some.is)
                w.written.ensures.names applied w.apply_names.ensures.applied,
            both_keep old.pages.pool l.self.pages.pool w.apply_names.new.pool pins
                w.apply_names.ensures.pool.pins,
            parts,
            sessions,
          )
      | in_default w ↦
          let opens = c.requires.opens s (Contains-get_or numbers l.s-index 0 within) in
          absurd (none-some opens.number (sym w.in_default.is ∙ c.number.ensures
          ∙ ap (λ (slots : SessionSlots). number_of slots s) sessions ∙ opens.number_is))
    ]
