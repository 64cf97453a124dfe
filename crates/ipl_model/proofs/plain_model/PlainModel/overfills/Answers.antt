use Rattle.std.proofs.Common.{◌∷◌, ◌/◌, nat_lt, ℕ, List, Option, Some, ◌∙◌, ap}
use Rattle.ipl_base.specs.declared.limits.TheConstants.{PAGE_LEN, SLOTS, VALUE_LEN}
use Rattle.ipl_model.specs.State as rules
use Rattle.ipl_model.specs.Peaks.{peaks_of, fill_with}
use Rattle.ipl_model.specs.declared.plain_model.log.Write as plain
use Rattle.ipl_model.specs.Plain.{state_of, newest_first, records_of}
use Rattle.ipl_model.proofs.PeakLemmas.{of_is}
use Rattle.ipl_model.proofs.plain_model.PlainModel.overfills.Goals as goal

pub returns : goal.returns
unfolding state_of
returns c =
    let older = rules.pending_writes (state_of c.args.self.now) in
    let page = c.args.name / SLOTS in
    let is = of_is c.of.result c.args.bytes.now VALUE_LEN c.of.ensures.some c.of.ensures.none c.requires in
    ap (nat_lt PAGE_LEN) (c.fill.ensures
    ∙ ap (λ (ws : List rules.Write). fill_with (peaks_of ws) (records_of c.deref.result.now) page)
    (ap newest_first c.deref-2.ensures.value ∙ c.in_ok-all.ensures ∙ ap (λ (v : Option (List ℕ)). (c.args.name, v) ∷ older) is)
    ∙ ap (λ (log : List plain.Write). fill_with (peaks_of ((c.args.name, Some c.args.bytes.now) ∷ older)) (records_of log) page) c.deref.ensures.value)
