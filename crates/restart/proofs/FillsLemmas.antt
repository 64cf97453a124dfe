-- The same tables are filled, step by step.
use Rattle.std.proofs.Common.{◌∙◌}
use Rattle.restart.specs.declared.findings.Findings.{Findings}
use Rattle.restart.specs.LogSpots.{SameReferences, StillFills}

pub same_then : {old mid new : Findings} → SameReferences old mid → SameReferences mid new → SameReferences old new
same_then first second = record {
  noted = second.noted ∙ first.noted;
  directory = second.directory ∙ first.directory;
  overflow = second.overflow ∙ first.overflow;
  status = second.status ∙ first.status;
  numbers = second.numbers ∙ first.numbers;
}

pub still_then : {old mid new : Findings} → StillFills old mid → StillFills mid new → StillFills old new
still_then first second = record {
  references = same_then first.references second.references;
  status = second.status ∙ first.status;
  flags = second.flags ∙ first.flags;
}
