use Rattle.std.proofs.Common.{◌≡◌, ◌∙◌, ap, ap₂, codes, true}
use Rattle.std.proofs.lemmas.Result.{IfOk-weaker}
use Rattle.clap.specs.Words.{App, app_of, new_app, with_subcommand}
use Rattle.clap.specs.Simple.{Shape, app_of_fields, on_top}
use Rattle.command_line.specs.Ipl.{bare, ipl_command}
use Rattle.command_line.proofs.command.ipl.Goals as goal

-- each step of the chain, from the new command on
pub returns : goal.returns
unfolding ipl_command
returns c =
    let named : app_of c.no_binary_name.result ≡ on_top (λ s. record s { no_binary_name = true }) (new_app (codes "ipl")) =
    ap app_of_fields c.no_binary_name.ensures ∙ ap (on_top (λ (s : Shape). record s { no_binary_name = true })) c.new.ensures.app in
    let base : app_of c.disable_version_flag.result ≡ on_top bare (new_app (codes "ipl")) =
    ap app_of_fields c.disable_version_flag.ensures
    ∙ ap (on_top (λ (s : Shape). record s { disable_version_flag = true })) (ap app_of_fields c.disable_help_subcommand.ensures
    ∙ ap (on_top (λ (s : Shape). record s { disable_help_subcommand = true })) (ap app_of_fields c.disable_help_flag.ensures
    ∙ ap (on_top (λ (s : Shape). record s { disable_help_flag = true })) named)) in
    let top = λ (a : App). a.top in
    let first = c.in_ok-subcommand.ensures.shape c.in_ok-format_part.ensures.local
    ∙ ap₂ with_subcommand base (ap top c.in_ok-format_part.ensures.app) in
    let second = c.in_ok-subcommand-2.ensures.shape c.in_ok-run_part.ensures.local
    ∙ ap₂ with_subcommand first (ap top c.in_ok-run_part.ensures.app) in
    let third = c.in_ok-subcommand-3.ensures.shape c.in_ok-serial_part.ensures.local
    ∙ ap₂ with_subcommand second (ap top c.in_ok-serial_part.ensures.app) in
    let fourth = c.in_ok-subcommand-4.ensures.shape c.in_ok-trial_part.ensures.local
    ∙ ap₂ with_subcommand third (ap top c.in_ok-trial_part.ensures.app) in
    let fifth = c.in_ok-subcommand-5.ensures.shape c.in_ok-check_part.ensures.local
    ∙ ap₂ with_subcommand fourth (ap top c.in_ok-check_part.ensures.app) in
    IfOk-weaker c.subcommand-6.result _ _ (λ r h. h.shape c.in_ok-list_part.ensures.local
    ∙ ap₂ with_subcommand fifth (ap top c.in_ok-list_part.ensures.app)) c.subcommand-6.ensures
