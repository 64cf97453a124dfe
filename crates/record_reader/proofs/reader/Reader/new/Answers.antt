use Rattle.std.proofs.Common.{◌∙◌, ◌≤◌, false, length, ap, sym, arith}
use Rattle.std.proofs.lemmas.List.{length-replicate}
use Rattle.ipl_meaning.specs.Tables.{OverflowLists, Places, StatusTable}
use Rattle.record_reader.proofs.reader.Reader.new.Goals as goal

pub returns-clause-made : goal.returns-clause-made
returns-clause-made c = record {
  scratch = c.in_ok-scratch.ensures;
  directory = ap (λ (d : Places). length d.in_use) c.in_ok-directory.ensures ∙ length-replicate _ _;
  overflow = ap (λ (o : OverflowLists). o.places) c.in_ok-overflow.ensures;
  kept = c.in_ok-kept.ensures.room ∙ sym (ap (λ (s : StatusTable). s.most) c.in_ok-status.ensures);
}

pub returns-clause-room : goal.returns-clause-room
returns-clause-room c = ap (λ (s : StatusTable). s.most) c.in_ok-status.ensures
