use Rattle.std.proofs.Common.{arith, inl, inr, refl, sym}
use Rattle.page_text.proofs.indexing.record_end.Goals as goal
use Rattle.page_text.proofs.indexing.record_end.Goals.{then-at-end-via-then-at-end, then-at-end-via-else-at-end+then-bytes-at}

pub returns-then-at-end-clause-some : goal.returns-then-at-end-clause-some
returns-then-at-end-clause-some c = inl (
  elim c.then-at-end.branch [
    | then-at-end-via-then-at-end w ↦ λ b. absurd (omega (arith, w.if-at-end.true, b.0))
    | then-at-end-via-else-at-end+then-bytes-at w ↦ λ b. w.if-bytes-at.true b.1
  ],
  refl,
)

pub returns-then-has_record-clause-some : goal.returns-then-has_record-clause-some
returns-then-has_record-clause-some c = inr (
  (c.if-at-end.false, c.if-bytes-at.false),
  sym c.if-has_record.ensures,
  let h = c.value_len.ensures.len in omega (arith, h),
)
