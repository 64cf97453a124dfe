use Rattle.std.proofs.Common.{◌<◌, List, length, slice_index, sym, ◌∙◌, ap, arith}
use Rattle.std.proofs.lemmas.Result.{err_from_is_err_and}
use Rattle.ipl_meaning.specs.Tables.{Places}
use Rattle.unit_log.specs.declared.scratch.LogSector.{LogSector}
use Rattle.unit_log.specs.Kept.{records_kept}
use Rattle.selective_merge.proofs.LogLemmas.{kept_records}
use Rattle.selective_merge.proofs.learning.learn.Goals as goal

pub returns-in_err-head-clause-learns : goal.returns-in_err-head-clause-learns
returns-in_err-head-clause-learns g c = λ x told it t are.
    let e = err_from_is_err_and c.from_residual.result c.from_residual.ensures.1 in
    rw e.1 (e.2 ∙ c.in_err-head.ensures.exact x told it t are)

pub returns-clause-learns : goal.returns-clause-learns
returns-clause-learns g c = λ x told it t are.
    let u = c.args.unit in
    let low : u < it.count =
    omega (
      arith,
      c.requires.unit,
      are.mirrors.directory.units,
      ap (λ (d : Places). length d.current) are.directory_is,
    ) in
    let live = c.in_ok-head.ensures.exact x told it t are in
    let log = (are.mirrors.laid.each u low).log in
    let at = c.home_at-scratch.ensures in record {
      place = at.place ∙ (c.current-place.ensures.place
          ∙ (ap (λ (d : Places). slice_index d.current u) (sym are.directory_is)
          ∙ are.mirrors.directory.current u low));
      version = at.version ∙ live.version;
      unit = at.unit;
      generation = at.generation ∙ live.generation;
      pieces = at.pieces ∙ live.pieces;
      log_is = ap (λ (l : List LogSector). records_kept l) live.log
          ∙ kept_records (it.units u).log (λ i d within. (log.each i d within).records);
    }
