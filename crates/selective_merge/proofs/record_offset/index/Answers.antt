use Rattle.std.proofs.Common.{◌≡◌, ◌<◌, ◌+◌, ℕ, List, get_or, inl, inr, length, subst, refl, ◌∙◌, arith}
use Rattle.std.proofs.lemmas.Bool.{cases_lt}
use Rattle.std.proofs.lemmas.List.{get_or_default}
use Rattle.ipl_format.specs.Record.{IsLogPayload}
use Rattle.unit_log.specs.declared.scratch.LogSector.{LogSector}
use Rattle.selective_merge.specs.Logs.{sector_at}
use Rattle.selective_merge.proofs.RecordOffsetLemmas.{index_more, none}
use Rattle.selective_merge.proofs.record_offset.index.Goals as goal

-- the payload of one sector is a list, and so is each of those up to it
up_to : (sectors : List LogSector) (k : ℕ) (x : LogSector) (bs : List ℕ) → k < length sectors
    → bs ≡ (get_or sectors k x).payload.bytes → IsLogPayload (get_or sectors k x).payload.version bs
    → ((j : ℕ) → j < k → IsLogPayload (sector_at sectors j).payload.version (sector_at sectors j).payload.bytes)
    → (j : ℕ) → j < k + 1 → IsLogPayload (sector_at sectors j).payload.version (sector_at sectors j).payload.bytes
up_to sectors k x bs low bytes list before j less = elim (cases_lt j k) [
  | inl earlier ↦ before j earlier
  | inr later ↦
      let here : k ≡ j = omega (arith, less, later) in
      let same : get_or sectors k x ≡ sector_at sectors k = get_or_default sectors k x none low in
      subst (λ (i : ℕ). IsLogPayload (sector_at sectors i).payload.version (sector_at sectors i).payload.bytes) here
      (subst (λ (y : LogSector). IsLogPayload y.payload.version y.payload.bytes) same
      (subst (IsLogPayload (get_or sectors k x).payload.version) bytes list))
]

pub loop-k-preserved : goal.loop-k-preserved
loop-k-preserved c =
    let so = c.loop-k.invariant in
    let sectors = c.args.sectors.now in
    let k = c.loop-k.k in
    let low : k < length sectors = omega (arith, c.loop-k-test.true) in
    record {
      same = index_more sectors k c.index-sectors-k.result c.version.result c.bytes.result.now
          c.loop-k.offsets.items c.index_sector.new.offsets.items _ low c.version.ensures c.bytes.ensures.value
          c.index_sector.ensures.items so.same;
      few = omega (arith, so.few, c.index_sector.ensures.few);
      room = c.index_sector.ensures.room ∙ so.room;
      end = refl;
      spelled = up_to sectors k c.index-sectors-k.result c.bytes.result.now low c.bytes.ensures.value
          c.bytes.ensures.list so.spelled;
    }
