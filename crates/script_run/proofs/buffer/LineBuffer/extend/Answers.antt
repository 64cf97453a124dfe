use Rattle.std.proofs.Common.{◌≡◌, ℕ, arith, take, ◌++◌, ◌∙◌, ap, List}
use Rattle.std.specs.List.{fold}
use Rattle.std.proofs.lemmas.Grind.{common_steps}
use Rattle.std.proofs.lemmas.List.{take_min}
use Rattle.script_run.specs.Lines.{kept}
use Rattle.script_run.proofs.LineLemmas.{kept_all}
use Rattle.script_run.proofs.buffer.LineBuffer.extend.Goals as goal

pub returns : goal.returns
returns c =
    let held = c.self.inside.bytes.items in
    let bytes = c.args.bytes.now in
    let extended : c.try_extend_from_slice.new.self.items ≡ held ++ take c.min-count.result bytes = grind (arith, common_steps) in
    extended ∙ ap (λ (n : ℕ). held ++ take n bytes) c.min-count.ensures ∙ ap (λ (l : List ℕ). held ++ l) (take_min c.remaining_capacity.result bytes)
    ∙ kept_all c.remaining_capacity.result held bytes (omega (arith, c.remaining_capacity.ensures)) ∙ ap (λ (l : List ℕ). fold kept l bytes) c.self.view_is
