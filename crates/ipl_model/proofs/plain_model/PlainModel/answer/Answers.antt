use Rattle.std.proofs.Common.{sym, subst, List, ℕ}
use Rattle.ipl_model.specs.declared.command.Command.{Command}
use Rattle.ipl_model.specs.declared.command.Command.TheVariants.{Put, Batch}
use Rattle.ipl_model.specs.Plain.{IsStep}
use Rattle.ipl_model.proofs.plain_model.PlainModel.answer.Goals as goal

pub returns-in-Share : goal.returns-in-Share
returns-in-Share c = subst (λ (command : Command). IsStep c.args.self.now command c.share.new.self c.share.result) (sym c.in-Share.is) c.share.ensures

pub returns-in-Put : goal.returns-in-Put
returns-in-Put c =
    subst (λ (command : Command). IsStep c.args.self.now command c.put.new.self c.put.result) (sym c.in-Put.is)
    (subst (λ (bytes : List ℕ). IsStep c.args.self.now (Put c.in-Put.s c.in-Put.name bytes) c.put.new.self c.put.result) c.bytes.ensures.value c.put.ensures)

pub returns-in-Del : goal.returns-in-Del
returns-in-Del c = subst (λ (command : Command). IsStep c.args.self.now command c.del.new.self c.del.result) (sym c.in-Del.is) c.del.ensures

pub returns-in-Batch : goal.returns-in-Batch
returns-in-Batch c =
    subst (λ (command : Command). IsStep c.args.self.now command c.batch.new.self c.batch.result) (sym c.in-Batch.is)
    (subst (λ (numbers : List ℕ). IsStep c.args.self.now (Batch numbers) c.batch.new.self c.batch.result) c.numbers.ensures.value c.batch.ensures)
