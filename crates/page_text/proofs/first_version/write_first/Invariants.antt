use Rattle.page_text.proofs.WriteLemmas.{Written}
use Rattle.page_text.proofs.first_version.write_first.Given as goal

abbrev pub invariant-loop-slot : goal.invariant-loop-slot
invariant-loop-slot l = Written 1 l.map l.initial.out l.slot l.out l.end
