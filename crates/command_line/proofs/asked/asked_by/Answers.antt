use Rattle.std.proofs.Common.{◌≡◌, ◌∙◌, subst, inl, inr, true, map, Ok}
use Rattle.std.specs.String.{string_bytes}
use Rattle.clap.specs.Words.{App, is_simple_and_free, FailsBy, HasKind, HasMatchesOf, fault_of, subcommand_rows_of, kind_of}
use Rattle.command_line.proofs.AskedLemmas.{asked_when, refused_when, simple_ipl, free_ipl}
use Rattle.command_line.proofs.asked.asked_by.Goals as goal

pub returns-in-Ok : goal.returns-in-Ok
returns-in-Ok c =
    let words = map (λ s. string_bytes s) c.args.words.now in
    let kinds = subst (λ (a : App). is_simple_and_free a ≡ true → FailsBy (fault_of a words) (Ok c.in-Ok.matches)) c.in_ok-command.ensures c.in-Ok.ensures.kinds in
    let found = subst (λ (a : App). HasMatchesOf a words c.in-Ok.matches) c.in_ok-command.ensures c.in-Ok.ensures.matches in
    c.found.ensures ∙ asked_when words (subcommand_rows_of c.in-Ok.matches) (kinds free_ipl) (found simple_ipl).1

pub returns : goal.returns
returns c =
    let words = map (λ s. string_bytes s) c.args.words.now in
    let kinds = subst (λ (a : App). is_simple_and_free a ≡ true → HasKind (fault_of a words) c.in-Err.error) c.in_ok-command.ensures c.in-Err.ensures.kinds in
    elim (kinds free_ipl) [
      | inl memory ↦ absurd (c.in_default.not-OutOfMemory (c.kind.ensures ∙ memory))
      | inr among ↦ refused_when words (kind_of c.in-Err.error) among
    ]
