use Rattle.std.proofs.Common.{Option, [], ◌∷◌, refl, ◌∙◌, ap}
use Rattle.std.specs.FinMap.{get, get-empty}
use Rattle.std.specs.Option.{option_map_or}
use Rattle.std.specs.Prelude.{is_some}
use Rattle.std.specs.Ordering.{nat_cmp}
use Rattle.ipl_base.specs.declared.fault.Refusal.{Refusal}
use Rattle.ipl_model.specs.State.{writes_of}
use Rattle.ipl_model.proofs.SeenLemmas.{get-with_writes}
use Rattle.ipl_model.specs.declared.command.Command.TheVariants as command
use Rattle.ipl_model.specs.declared.reply.Reply.TheVariants as reply
use Rattle.ipl_model.specs.Step.{accepted}
use Rattle.ipl_model.proofs.laws_of_sessions.session_laws.Goals as goal

pub returns-clause-restart : goal.returns-clause-restart
returns-clause-restart c limits state s = ap is_some (get-empty nat_cmp s)

pub returns-clause-records : goal.returns-clause-records
returns-clause-records c limits state = refl

pub returns-clause-commit : goal.returns-clause-commit
returns-clause-commit c limits state s n passes =
    ap (λ (o : Option Refusal). get (option_map_or (λ refusal. (state, reply.Refused refusal ∷ [])) o (accepted state (command.Commit s))).0.map n) passes
    ∙ get-with_writes (writes_of state s) state.map n
