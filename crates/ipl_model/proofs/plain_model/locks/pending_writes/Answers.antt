use Rattle.std.proofs.Common.{◌≡◌, ◌<◌, ◌-◌, suc, ◌++◌, [], map, length, ◌∙◌, ap, sym, arith, List}
use Rattle.std.specs.Option.{option_map_or}
use Rattle.std.proofs.lemmas.List.{length-map}
use Rattle.ipl_model.specs.State as rules
use Rattle.ipl_model.specs.Plain.{slot_of}
use Rattle.ipl_model.proofs.RuleSlotLemmas.{writes_next, writes_from}
use Rattle.ipl_model.proofs.SlotLemmas.{slot_read}
use Rattle.ipl_model.proofs.plain_model.locks.pending_writes.Goals as goal

pub loop-left-preserved : goal.loop-left-preserved
loop-left-preserved c =
    let slots = map slot_of c.args.sessions.now in
    let i = c.loop-left.left - 1 in
    let o = slot_of c.index-sessions-left.result in
    let below : i < length c.args.sessions.now = omega arith in
    let within : i < length slots = omega (arith, length-map c.args.sessions.now slot_of) in
    let next : suc i ≡ c.loop-left.left = omega arith in
    record {
      within = omega arith;
      so_far = c.in_ok-append_slot.ensures
          ∙ ap (λ (ws : List rules.Write). option_map_or (λ session. session.writes) o [] ++ ws) (c.loop-left.invariant.so_far ∙ ap (λ k. writes_from k slots) (sym next))
          ∙ sym (writes_next i slots o within (slot_read c.args.sessions.now i c.index-sessions-left.result below c.index-sessions-left.is));
    }
