use Rattle.std.proofs.Common.{◌≡◌, ℕ, List, ◌++◌, [], sym, ◌∙◌, ap, subst, arith}
use Rattle.std.proofs.lemmas.List.{length-take}
use Rattle.ipl_model.specs.declared.command.Command.{Command}
use Rattle.ipl_model.specs.Grammar.{line_of, commands_in}
use Rattle.script_run.proofs.ReadLemmas.{grew_none, grew_then, read_none, read_then, too_many}
use Rattle.script_run.specs.View.{IsReading, HasReadAll}
use Rattle.script_run.proofs.GatherLemmas.{reads_none, reads_then, reading_start}
use Rattle.script_run.proofs.gathering.read_commands.Goals as goal

pub loop-total-init : goal.loop-total-init
loop-total-init g c =
    let t = g.D.Chip.told c.args.desk.now in record {
      reads = reads_none t;
      goes = λ script left.
          subst (λ (cs : List Command). IsReading script cs c.new-line.result t) (sym c.new-commands.ensures.items)
          (subst (λ (l : List ℕ). IsReading script [] l t) (sym c.new-line.ensures) (reading_start script t left));
      bytes = grew_none t.beside.script_bytes;
      read = read_none t;
      few = omega arith;
    }

pub returns-then-count-eq0-clause-all : goal.returns-then-count-eq0-clause-all
returns-then-count-eq0-clause-all g c = λ script left.
    let new = c.take_next.new in
    let ends = c.in_ok-count.ensures.ends c.if-count-eq0.true script (c.loop-total.invariant.goes script left) in
    let last = ap (λ (l : List ℕ). new.commands.items ++ commands_in (line_of l)) c.bytes.ensures in
    subst (λ (cs : List Command). HasReadAll script cs (g.D.Chip.told new.desk))
    (sym (c.in_ok-take_line.ensures ∙ last)) ends

pub loop-total-preserved : goal.loop-total-preserved
loop-total-preserved g c =
    let was = c.loop-total.invariant in
    let o = c.in_ok-count.ensures in
    let count = c.in_ok-count.count in
    let old = g.D.Chip.told c.args.desk.now in
    let mid = g.D.Chip.told c.loop-total.desk in
    let new = g.D.Chip.told c.take_next.new.desk in
    record {
      reads = reads_then old mid new was.reads c.take_next.ensures.reads;
      goes = λ script left. o.goes script (was.goes script left);
      bytes = grew_then old.beside.script_bytes mid.beside.script_bytes new.beside.script_bytes c.loop-total.total
          count was.bytes o.read.bytes;
      read = read_then old mid new c.loop-total.total count was.read o.read.read;
      few =
          let few = o.read.few in
          omega (arith, few, length-take c.min-most.result c.loop-total.piece, c.loop-total-test.true);
    }

pub returns-clause-cause : goal.returns-clause-cause
returns-clause-cause g c =
    let at = g.D.Chip.told in
    let was = c.loop-total.invariant in
    let all : c.loop-total.total ≡ 4294967295 = omega (arith, was.few, c.loop-total-test.false) in
    too_many (at c.args.desk.now) (at c.loop-total.desk) c.loop-total.total all was.bytes was.read
