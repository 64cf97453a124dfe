use Rattle.std.proofs.Common.{◌∙◌, ℕ, List, length, ap, sym, arith, length-set}
use Rattle.std.specs.Prelude.{slice_index}
use Rattle.ipl_meaning.specs.Tables.{Places}
use Rattle.unit_directory.specs.Directory.{with_erases_of}
use Rattle.restart.specs.Filled.{erases_by, with_counts}
use Rattle.restart.proofs.TableLemmas.{item_at}
use Rattle.restart.proofs.CountLemmas.{counts_more}
use Rattle.restart.proofs.filling.count_erases.Goals as goal

pub loop-place-preserved : goal.loop-place-preserved
loop-place-preserved c =
    let place = c.loop-place.place in
    let so_far = c.loop-place.invariant in
    let before = c.loop-place.directory in
    let is = c.set_erases.ensures in
    let here = item_at c.args.heads.now place c.index-heads-place.result (omega arith) c.index-heads-place.is in
    record {
      counts = ap (λ (d : Places). length d.erases) is ∙ length-set before.erases place c.erases_of.result ∙ so_far.counts;
      erases_are = λ p low. ap (λ (d : Places). slice_index d.erases p) is
          ∙ counts_more c.args.heads.now place c.erases_of.result before.erases (omega arith) so_far.erases_are
          (c.erases_of.ensures ∙ ap erases_by (sym here)) p low;
      same = is ∙ ap (λ (d : Places). with_erases_of d place c.erases_of.result) so_far.same
          ∙ ap (λ (l : List ℕ). with_counts c.args.directory.now l) (sym (ap (λ (d : Places). d.erases) is));
    }
