use Rattle.std.proofs.Common.{◌≡◌, ◌<◌, inl, inr, ℕ, None, map, length, get_or, ◌∙◌, ap, arith, rules}
use Rattle.std.proofs.lemmas.Bool.{cases_lt}
use Rattle.std.proofs.lemmas.List.{get_or-map}
use Rattle.ipl_model.specs.Plain.{slot_of}
use Rattle.ipl_model.proofs.RuleSlotLemmas.{opened_none}
use Rattle.ipl_model.proofs.SlotLemmas.{past_slots}
use Rattle.ipl_model.proofs.plain_model.closed.Goals as goal

pub returns-clause-none : goal.returns-clause-none
returns-clause-none c = opened_none (map slot_of c.from_fn.result) at
  where
    long : length c.from_fn.result ≡ 32
    long = c.from_fn.ensures.items.long

    none : (q : ℕ) → q < 32 → get_or c.from_fn.result q None ≡ None
    none q lt = let called = c.from_fn.ensures.items.at q None lt in search (rules, called)

    at : (q : ℕ) → get_or (map slot_of c.from_fn.result) q None ≡ None
    at q = elim (cases_lt q 32) [
      | inl lt ↦ let within : q < length c.from_fn.result = omega (arith, long) in get_or-map slot_of c.from_fn.result q None None within ∙ ap slot_of (none q lt)
      | inr le ↦ past_slots c.from_fn.result q (omega (arith, long))
    ]
