use Rattle.std.proofs.Common.{◌∙◌, ℕ, None, refl, sym, subst}
use Rattle.record_reader.specs.declared.reader.Reader.{Reader}
use Rattle.record_reader.specs.Reading.{IsMadeFor}
use Rattle.record_reader.proofs.PageLemmas.{looked_over}
use Rattle.record_reader.proofs.reader.Reader.open.Given.{Over}
use Rattle.record_reader.proofs.reader.Reader.open.Goals as goal

-- what it is then
abbrev then : (g : Over) (c : goal.After-survey g) → Reader
then g c = record {
  scratch = c.survey.new.scratch;
  kept = c.survey.new.numbers;
  directory = c.survey.new.directory;
  overflow = c.survey.new.overflow;
  status = c.survey.new.status;
  log = c.args.self.now.log;
  frame = c.args.self.now.frame;
  held = None;
}

made : (g : Over) (c : goal.After-survey g) → IsMadeFor (g.C.Chip.told c.args.chip.now).places (then g c)
made g c = record {
  scratch = c.survey.ensures.sized.0 ∙ c.requires.made.scratch;
  directory = c.survey.ensures.sized.1 ∙ c.requires.made.directory;
  overflow = c.survey.ensures.sized.2 ∙ c.requires.made.overflow;
  kept = c.survey.ensures.room.1 ∙ (c.requires.made.kept ∙ sym c.survey.ensures.room.0);
}

pub returns-clause-made : goal.returns-clause-made
returns-clause-made g c =
    subst (λ (n : ℕ). IsMadeFor n (then g c)) (sym c.survey.ensures.looks.only.reads.counts.places) (made g c)

pub returns-clause-reads : goal.returns-clause-reads
returns-clause-reads g c =
    looked_over c.survey.result (g.C.Chip.told c.args.chip.now) (g.C.Chip.told c.survey.new.chip) (then g c)
    c.survey.ensures.looks.only.reads.counts c.survey.ensures.looks.only.reads.contents refl (made g c)
    c.survey.ensures.known c.survey.ensures.mirrors
