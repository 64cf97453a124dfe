use Rattle.std.proofs.Common.{ℕ, List, slice_set, take, ◌∙◌, ap, arith}
use Rattle.std.proofs.lemmas.List.{take_all}
use Rattle.log_records.specs.View.{Versioned}
use Rattle.ipl_meaning.specs.Masks.{mask_of}
use Rattle.selective_merge.specs.Packing.{masks_of_payloads}
use Rattle.selective_merge.proofs.PackedMaskLemmas.{read, one_more_mask}
use Rattle.selective_merge.proofs.packs.masks_of.Goals as goal

pub loop-i-preserved : goal.loop-i-preserved
loop-i-preserved c =
    let i = c.loop-i.i in
    let payloads : List Versioned = c.args.payloads.now in
    record {
      done =
          ap (λ (l : List ℕ). slice_set l i c.mask_of.result) c.loop-i.invariant.done
          ∙ ap (slice_set (masks_of_payloads 15 (take i payloads)) i) (c.mask_of.ensures ∙ ap (λ (l : Versioned). mask_of (read l)) c.index-payloads-i.is)
          ∙ one_more_mask 15 i payloads c.index-payloads-i.result (omega (arith, c.loop-i-test.true, c.requires)) c.loop-i-test.true;
    }

pub returns : goal.returns
returns c =
    c.loop-i.invariant.done
    ∙ ap (masks_of_payloads 15) (take_all c.loop-i.i c.args.payloads.now (omega (arith, c.loop-i-test.false)))
