use Rattle.std.proofs.Common.{◌≡◌, length}
use Rattle.std.specs.List.{slice_split}
use Rattle.ipl_model.specs.Grammar.{is_space, sessions_of}
use Rattle.script_text.proofs.Words.{named_with}
use Rattle.script_text.proofs.line.sessions.Given as goal

-- those named so far, and the words that are left
abbrev pub invariant-loop-i : goal.invariant-loop-i
invariant-loop-i l = record {
  so_far : sessions_of (slice_split is_space l.words) ≡ named_with l.named (slice_split is_space l.line);
  count : length l.named ≡ l._i;
}
