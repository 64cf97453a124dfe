-- A list of all names.
use Rattle.std.proofs.Common.{◌≡◌, ◌<◌, ℕ, ◌+◌, ◌-◌, Bool, false, cond, ◌||◌, nat_le, [], ◌∷◌, ◌++◌, map, Some, None, ap, ◌∙◌, arith}
use Rattle.std.proofs.lemmas.Bool.Decides.{nat_tests}
use Rattle.std.proofs.lemmas.List.{map-append}
use Rattle.std.specs.Option.{option_map_or}
use Rattle.ipl_base.specs.declared.fault.Refusal.{Refusal}
use Rattle.ipl_base.specs.declared.fault.Refusal.TheVariants.{BadName}
use Rattle.ipl_model.specs.State.{State, Limits}
use Rattle.ipl_model.specs.Operations.{rows, rows_from}
use Rattle.ipl_model.specs.declared.command.Command.TheVariants as command
use Rattle.ipl_model.specs.declared.reply.Reply.TheVariants as reply
use Rattle.ipl_model.specs.Step.{Stepped, step, accepted, row_reply}
use Rattle.ipl_model.specs.Text.{reply_text}
use Rattle.script_run.specs.TrialLaws.{RecordsAreListed}

accepted_list : (limits : Limits) (state : State) (last : ℕ) → 0 < limits.names → last < limits.names
    → step limits state (command.List 0 last) ≡ accepted state (command.List 0 last)
accepted_list limits state last some within =
    let a : nat_le limits.names 0 ≡ false = grind (arith, nat_tests) in
    let b : nat_le limits.names last ≡ false = grind (arith, nat_tests) in
    let answer = λ (t : Bool).
    option_map_or (λ (r : Refusal). (state, reply.Refused r ∷ [])) (cond t (Some BadName) None)
    (accepted state (command.List 0 last)) in
    ap (λ (t : Bool). answer (t || nat_le limits.names last)) a ∙ ap answer b

pub records_are_listed : RecordsAreListed
records_are_listed limits state some =
    let last = limits.names - 1 in
    let count : last + 1 - 0 ≡ limits.names = omega (arith, some) in
    let lines = λ (n : ℕ). map reply_text (map row_reply (rows_from state.map 0 n)) in
    ap (λ (p : Stepped). map reply_text p.1) (accepted_list limits state last some (omega (arith, some)))
    ∙ map-append reply_text (map row_reply (rows state.map 0 last)) (reply.End ∷ [])
    ∙ ap (λ (n : ℕ). lines n ++ reply_text reply.End ∷ []) count
