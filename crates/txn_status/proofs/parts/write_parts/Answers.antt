use Rattle.std.proofs.Common.{◌≡◌, ◌<◌, ◌+◌, ℕ, true, false, List, Result, Ok, Err, subst, arith, ap, ◌∙◌}
use Rattle.std.proofs.lemmas.Result.{err_from_is_err_and}
use Rattle.chip_trait.specs.Told.{Told}
use Rattle.chip_trait.proofs.CountsLemmas.{counts_none, counts_then}
use Rattle.ipl_base.specs.declared.fault.ChipFault.{ChipFault}
use Rattle.ipl_format.specs.Sector.{Sector}
use Rattle.unit_io.specs.Charts.{Charts, Gains}
use Rattle.number_set.specs.Flags.{flagged}
use Rattle.txn_status.specs.Commits.{commit_sector, part_of}
use Rattle.txn_status.specs.Status.{parts_of}
use Rattle.unit_io.specs.Writing.{LeadsAside}
use Rattle.txn_status.specs.Writing.{KeepsParts}
use Rattle.txn_status.proofs.KeptLemmas.{keeps_none, keeps_more, keeps_failed, told_none, told_more}
use Rattle.unit_io.specs.Costs.{ProgramsAt}
use Rattle.unit_io.proofs.CostLemmas.{spends_none, spends_at_then, spends_at_most, nothing_at}
use Rattle.unit_io.proofs.UnreadLemmas.{unread_none, unread_then}
use Rattle.txn_status.proofs.TidyLemmas.{tidy_parts_none, tidy_parts_more, tidy_parts}
use Rattle.txn_status.proofs.parts.write_parts.Goals as goal

-- the sector that was programmed is the next part
next_part : (generation a b : ℕ) (xs ys : List ℕ) (noted part : Sector) → noted ≡ part
    → part ≡ commit_sector generation a xs → a ≡ b → xs ≡ ys
    → noted ≡ commit_sector generation b ys
next_part generation a b xs ys noted part is_part is same also_same =
    is_part ∙ is ∙ ap (λ (n : ℕ). commit_sector generation n xs) same
    ∙ ap (λ (l : List ℕ). commit_sector generation b l) also_same

-- what its call says, of a chip with as many places as at first
next_leads : (q places p s : ℕ) (own sector : Sector) (mid new : Told)
    (result : Result (Unit {0}) ChipFault) → q ≡ places → own ≡ sector
    → LeadsAside q p s own mid result new → LeadsAside places p s sector mid result new
next_leads q places p s own sector mid new result at same says =
    subst (λ (z : Sector). LeadsAside places p s z mid result new) same
    (subst (λ (n : ℕ). LeadsAside n p s own mid result new) at says)

pub loop-i-init : goal.loop-i-init
loop-i-init g c =
    let told = g.C.Chip.told c.args.chip.now in record {
      keeps = λ m h steady rests bare clean.
          keeps_none told.places c.args.place c.args.generation c.args.counter.now
          (flagged c.args.kept.now c.args.numbers.now.list) m h told steady rests;
      tells = told_none c.args.place c.args.generation c.args.counter.now (flagged c.args.kept.now c.args.numbers.now.list) told;
      costs = spends_none (ProgramsAt c.args.place 0 0 6) told (nothing_at c.args.place 0 0 6);
      tidy = tidy_parts_none c.args.place told;
      unread = unread_none told;
      counts = counts_none told;
      drawn = omega arith;
    }

pub loop-i-preserved : goal.loop-i-preserved
loop-i-preserved g c =
    let so = c.loop-i.invariant in
    let w = c.in_ok-prepare_commit.ensures in
    let i = c.loop-i.i in
    let numbers = flagged c.args.kept.now c.args.numbers.now.list in
    let old = g.C.Chip.told c.args.chip.now in
    let mid = g.C.Chip.told c.loop-i.chip in
    let new = g.C.Chip.told c.prepare_commit.new.chip in
    let low : i < parts_of numbers =
    omega (arith, c.part_count-count.ensures.parts, c.loop-i-test.true) in
    let same = next_part c.args.generation _ (c.args.counter.now + i) _ (part_of numbers i) _ _
    c.noted.ensures.same c.of-part.ensures (c.draw-serial.ensures.drawn ∙ so.drawn) (c.as_slice.ensures.value ∙ c.part_of-own.ensures) in record {
      keeps = λ m h steady rests bare clean.
          keeps_more old.places c.args.place c.args.generation c.args.counter.now numbers m h
          (parts_of numbers) i low bare clean old mid new (Ok tt) (so.keeps m h steady rests bare clean)
          (next_leads mid.places old.places c.args.place (1 + i) _ _ mid new (Ok tt)
          so.counts.places same w.aside);
      tells = told_more c.args.place c.args.generation c.args.counter.now numbers i old mid new
          so.tells (subst (λ (z : Sector). Charts (Gains c.args.place (1 + i) z) mid new) same
          w.tells);
      costs = spends_at_then c.args.place i 1 0 0 6 old mid new so.costs w.writes.costs;
      tidy = tidy_parts_more c.args.place i true old mid new so.tidy w.writes.tidy;
      unread = unread_then old mid new so.unread w.writes.unread;
      counts = counts_then old mid new so.counts w.writes.accounts.counts;
      drawn = omega (arith, c.draw-serial.ensures.next, so.drawn);
    }

pub returns-in_err-prepare_commit-clause-keeps : goal.returns-in_err-prepare_commit-clause-keeps
returns-in_err-prepare_commit-clause-keeps g c = λ m h steady rests bare clean.
    let so = c.loop-i.invariant in
    let i = c.loop-i.i in
    let numbers = flagged c.args.kept.now c.args.numbers.now.list in
    let old = g.C.Chip.told c.args.chip.now in
    let mid = g.C.Chip.told c.loop-i.chip in
    let new = g.C.Chip.told c.prepare_commit.new.chip in
    let fault = c.in_err-prepare_commit.field-0.0 in
    let low : i < parts_of numbers =
    omega (arith, c.part_count-count.ensures.parts, c.loop-i-test.true) in
    let same = next_part c.args.generation _ (c.args.counter.now + i) _ (part_of numbers i) _ _
    c.noted.ensures.same c.of-part.ensures (c.draw-serial.ensures.drawn ∙ so.drawn) (c.as_slice.ensures.value ∙ c.part_of-own.ensures) in
    let e = err_from_is_err_and c.from_residual.result c.from_residual.ensures.1 in
    rw e.1 (keeps_failed old.places c.args.place c.args.generation c.args.counter.now numbers m h
    (i + 1) (parts_of numbers) fault e.0 old new (omega (arith, low))
    (keeps_more old.places c.args.place c.args.generation c.args.counter.now numbers m h
    (parts_of numbers) i low bare clean old mid new (Err fault) (so.keeps m h steady rests bare clean)
    (next_leads mid.places old.places c.args.place (1 + i) _ _ mid new (Err fault)
    so.counts.places same c.in_err-prepare_commit.ensures.aside)))

pub returns-clause-keeps : goal.returns-clause-keeps
returns-clause-keeps g c = λ m h steady rests bare clean.
    let done : c.loop-i.i ≡ parts_of (flagged c.args.kept.now c.args.numbers.now.list) =
    omega (arith, c.part_count-count.ensures.parts) in
    subst (λ (n : ℕ). KeepsParts (g.C.Chip.told c.args.chip.now).places c.args.place
    c.args.generation c.args.counter.now (flagged c.args.kept.now c.args.numbers.now.list) n m h
    (g.C.Chip.told c.args.chip.now) (Ok tt) (g.C.Chip.told c.loop-i.chip)) done (c.loop-i.invariant.keeps m h steady rests bare clean)

pub returns-in_err-prepare_commit-clause-writes : goal.returns-in_err-prepare_commit-clause-writes
returns-in_err-prepare_commit-clause-writes g c =
    let so = c.loop-i.invariant in
    let w = c.in_err-prepare_commit.ensures.writes in
    let place = c.args.place in
    let i = c.loop-i.i in
    let parts = parts_of (flagged c.args.kept.now c.args.numbers.now.list) in
    let old = g.C.Chip.told c.args.chip.now in
    let mid = g.C.Chip.told c.loop-i.chip in
    let new = g.C.Chip.told c.prepare_commit.new.chip in
    let low : i < parts =
    omega (arith, c.part_count-count.ensures.parts, c.loop-i-test.true) in
    let few : i < 64 = omega (arith, c.part_count-count.ensures.few, c.loop-i-test.true) in
    let e = err_from_is_err_and c.from_residual.result c.from_residual.ensures.1 in
    rw (e.1 ∙ ap Err e.2) (record {
      costs = spends_at_most place (i + 1) 64 0 0 6 old new (omega (arith, few)) (omega arith)
          (spends_at_then place i 1 0 0 6 old mid new so.costs w.costs);
      tidy = tidy_parts place (i + 1) parts false false old new (omega (arith, low))
          (tidy_parts_more place i false old mid new so.tidy w.tidy);
      unread = unread_then old mid new so.unread w.unread;
      accounts = record {
        counts = counts_then old mid new so.counts w.accounts.counts;
        cause = (w.accounts.cause.0, omega (arith, so.counts.writes, w.accounts.cause.1));
      };
    })

pub returns-clause-writes : goal.returns-clause-writes
returns-clause-writes g c =
    let so = c.loop-i.invariant in record {
      costs = spends_at_most c.args.place c.loop-i.i 64 0 0 6 _ _
          (omega (arith, c.part_count-count.ensures.few)) (omega arith) so.costs;
      tidy = tidy_parts c.args.place c.loop-i.i (parts_of (flagged c.args.kept.now c.args.numbers.now.list)) true true _ _
          (omega (arith, c.part_count-count.ensures.parts)) so.tidy;
      unread = so.unread;
      accounts = record { counts = so.counts; cause = tt };
    }
