use Rattle.std.proofs.Common.{List, map, sym, ◌∙◌, ap, subst, refl, arith, length}
use Rattle.std.specs.List.{All}
use Rattle.ipl_base.specs.declared.limits.TheConstants.{VERSION}
use Rattle.ipl_format.specs.Record.{IsRecord}
use Rattle.selective_merge.specs.declared.record_offset.RecordOffset.{RecordOffset}
use Rattle.selective_merge.specs.Logs.{located, IsOffset}
use Rattle.selective_merge.proofs.RecordOffsetLemmas.{all_are, all_located, all_valid}
use Rattle.selective_merge.proofs.log.Log.of.Goals as goal

pub invariant_of-result : goal.invariant_of-result
invariant_of-result c =
    let sectors = c.args.sectors.now in
    let same = c.as_slice.ensures.value ∙ c.index.ensures.items in record {
      each = subst (All (IsOffset sectors)) (sym same) (all_are sectors 0 sectors refl);
      valid = subst (λ (ps : List RecordOffset). All (IsRecord VERSION) (map (located sectors) ps)) (sym same)
          (subst (All (IsRecord VERSION)) (sym (all_located sectors 0 sectors refl))
          (all_valid sectors c.index.ensures.spelled 0 sectors refl));
      few = omega (arith, c.index.ensures.few, ap (λ (l : List RecordOffset). length l) c.as_slice.ensures.value);
    }

pub returns : goal.returns
returns c =
    let sectors = c.args.sectors.now in
    ap (map (located sectors)) (c.as_slice.ensures.value ∙ c.index.ensures.items) ∙ all_located sectors 0 sectors refl
