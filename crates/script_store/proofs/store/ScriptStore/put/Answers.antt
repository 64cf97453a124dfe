use Rattle.std.proofs.Common.{Result, List, ℕ, sym, subst}
use Rattle.ipl_model.specs.declared.command.Command.TheVariants as command
use Rattle.ipl_model.specs.declared.reply.Reply.{Reply}
use Rattle.store_trait.specs.declared.fault.Fault.{Fault}
use Rattle.store_laws.specs.Keeps.{all_pages}
use Rattle.script_store.specs.Keeps.{DoesCommand}
use Rattle.script_store.proofs.PutLemmas.{put_does, put_is_up}
use Rattle.script_store.proofs.store.ScriptStore.put.Goals as goal

pub reply_of-requires : goal.reply_of-requires
reply_of-requires g c = record {
  up = put_is_up all_pages c.args.s c.args.n c.bytes.result.now c.args.self.now (record { store = c.put.new.self })
      (g.C.Chip.told c.args.chip.now) (g.C.Chip.told c.put.new.chip) c.requires.runs c.put.result
      c.put.ensures.calls;
}

pub returns : goal.returns
returns g c = λ known.
    let before = g.C.Chip.told c.args.chip.now in
    let after = g.C.Chip.told c.put.new.chip in
    subst (λ (bytes : List ℕ). DoesCommand known (command.Put c.args.s c.args.n bytes) c.args.self.now before
    c.reply_of.result (record { store = c.put.new.self }) after) c.bytes.ensures.value
    (subst (λ (r : Result Reply Fault). DoesCommand known (command.Put c.args.s c.args.n c.bytes.result.now)
    c.args.self.now before r
    (record { store = c.put.new.self }) after) (sym c.reply_of.ensures)
    (put_does known c.args.s c.args.n c.bytes.result.now c.args.self.now
    (record { store = c.put.new.self }) before after c.requires.runs c.put.result
    c.put.ensures.calls c.put.ensures.steps))
