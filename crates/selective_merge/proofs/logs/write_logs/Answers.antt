use Rattle.std.proofs.Common.{◌≡◌, ◌<◌, ◌+◌, ℕ, true, false, [], length, Ok, Err, subst, sym, arith, refl, ◌∙◌, ap}
use Rattle.std.specs.Prelude.{slice_index_or}
use Rattle.std.proofs.lemmas.List.{get_or_read}
use Rattle.std.proofs.lemmas.Result.{err_from_is_err_and}
use Rattle.chip_trait.proofs.CountsLemmas.{counts_none, counts_then}
use Rattle.ipl_base.specs.Calls.{IsFailedCall}
use Rattle.log_records.specs.View.{Versioned}
use Rattle.ipl_format.specs.Sector.{Sector}
use Rattle.unit_io.specs.Charts.{Charts, Gains}
use Rattle.unit_io.specs.Costs.{ProgramsAt}
use Rattle.unit_io.proofs.CostLemmas.{nothing_at, spends_at_most, spends_at_then, spends_none}
use Rattle.unit_io.proofs.UnreadLemmas.{unread_none, unread_then}
use Rattle.unit_log.proofs.OftenLemmas.{often_unread}
use Rattle.selective_merge.specs.Packs.{log_sector, IsLogSpotBelow, HasLogs, payload_of}
use Rattle.selective_merge.specs.Writing.{KeepsLogs}
use Rattle.selective_merge.proofs.ThroughoutLemmas.{charts_none, charts_then}
use Rattle.selective_merge.proofs.WriteLemmas.{logs_none, logs_more, keeps_none, keeps_more, keeps_failed, log_named, same_log}
use Rattle.unit_io.proofs.SparesLemmas.{spares_none, spares_then}
use Rattle.selective_merge.proofs.TidyLemmas.{tidy_none, tidy_log_more, tidy_logs}
use Rattle.selective_merge.proofs.logs.write_logs.Goals as goal

pub loop-i-init : goal.loop-i-init
loop-i-init g c =
    let told = g.C.Chip.told c.args.chip.now in
    let head = c.args.head.now in
    let payloads = c.args.payloads.now in record {
      keeps = λ m h steady rests bare clean.
          keeps_none told.places c.args.place head.unit head.generation c.args.counter.now payloads
          m h told steady rests;
      tells = charts_none
          (HasLogs c.args.place head.unit head.generation c.args.counter.now payloads 0) told
          (logs_none c.args.place head.unit head.generation c.args.counter.now payloads);
      costs = spends_none (ProgramsAt c.args.place 0 0 5) told (nothing_at c.args.place 0 0 5);
      tidy = tidy_none c.args.place (IsLogSpotBelow 0) true told;
      unread = unread_none told;
      counts = counts_none told;
      spares = spares_none c.args.place told told refl;
      drawn = omega arith;
    }

pub loop-i-preserved : goal.loop-i-preserved
loop-i-preserved g c =
    let so = c.loop-i.invariant in
    let says = c.in_ok-write_log.ensures in
    let i = c.loop-i.i in
    let p = c.args.place in
    let head = c.args.head.now in
    let serial = c.args.counter.now in
    let payloads = c.args.payloads.now in
    let old = g.C.Chip.told c.args.chip.now in
    let mid = g.C.Chip.told c.loop-i.chip in
    let new = g.C.Chip.told c.write_log.new.chip in
    let low : i < length payloads = omega arith in
    let same = same_log head.unit head.generation _ (serial + i) _ (slice_index_or payloads i (payload_of [])).bytes
    so.drawn
    (ap (λ (z : Versioned). z.bytes)
    (get_or_read payloads _ _ low c.index-payloads-i.is (payload_of []))) in record {
      keeps = λ m h steady rests bare clean.
          keeps_more old.places p head.unit head.generation serial payloads m h (length payloads) i
          low bare clean old mid new (Ok tt) (so.keeps m h steady rests bare clean)
          (log_named mid.places old.places p _ _ _ _ mid new (Ok tt) so.counts.places refl same
          says.writes);
      tells = charts_then (HasLogs p head.unit head.generation serial payloads i)
          (Gains p (241 + i) (log_sector head.unit head.generation (serial + i)
          (slice_index_or payloads i (payload_of [])).bytes))
          (HasLogs p head.unit head.generation serial payloads (i + 1)) old mid new so.tells
          (subst (λ (z : Sector). Charts (Gains p (241 + i) z) mid new) same says.tells)
          (λ x y z one two. logs_more p head.unit head.generation serial payloads i x y z one two);
      costs = spends_at_then p i 1 0 0 5 old mid new so.costs says.costs;
      tidy = tidy_log_more p i true old mid new so.tidy says.tidy;
      unread = unread_then old mid new so.unread says.unread;
      counts = counts_then old mid new so.counts says.accounts.counts;
      spares = spares_then p old mid new so.spares says.spares;
      drawn = omega (arith, so.drawn, says.drawn);
    }

pub returns-in_err-write_log-clause-writes : goal.returns-in_err-write_log-clause-writes
returns-in_err-write_log-clause-writes g c = λ m h steady rests bare clean.
    let so = c.loop-i.invariant in
    let i = c.loop-i.i in
    let p = c.args.place in
    let head = c.args.head.now in
    let serial = c.args.counter.now in
    let payloads = c.args.payloads.now in
    let old = g.C.Chip.told c.args.chip.now in
    let mid = g.C.Chip.told c.loop-i.chip in
    let new = g.C.Chip.told c.write_log.new.chip in
    let fault = c.in_err-write_log.field-0.0 in
    let low : i < length payloads = omega arith in
    let same = same_log head.unit head.generation _ (serial + i) _ (slice_index_or payloads i (payload_of [])).bytes
    so.drawn
    (ap (λ (z : Versioned). z.bytes)
    (get_or_read payloads _ _ low c.index-payloads-i.is (payload_of []))) in
    let e = err_from_is_err_and c.from_residual.result c.from_residual.ensures.1 in
    rw e.1 (keeps_failed old.places p head.unit head.generation serial payloads m h (i + 1)
    (length payloads) fault e.0 old new (omega (arith, low))
    (keeps_more old.places p head.unit head.generation serial payloads m h (length payloads) i
    low bare clean old mid new (Err fault) (so.keeps m h steady rests bare clean)
    (log_named mid.places old.places p _ _ _ _ mid new (Err fault) so.counts.places refl same
    c.in_err-write_log.ensures.writes)))

pub returns-clause-writes : goal.returns-clause-writes
returns-clause-writes g c = λ m h steady rests bare clean.
    let head = c.args.head.now in
    let done : c.loop-i.i ≡ length c.args.payloads.now = omega arith in
    subst (λ (n : ℕ). KeepsLogs (g.C.Chip.told c.args.chip.now).places c.args.place head.unit
    head.generation c.args.counter.now c.args.payloads.now n m h
    (g.C.Chip.told c.args.chip.now) (Ok tt) (g.C.Chip.told c.loop-i.chip)) done (c.loop-i.invariant.keeps m h steady rests bare clean)

pub returns-in_err-write_log-clause-serials : goal.returns-in_err-write_log-clause-serials
returns-in_err-write_log-clause-serials g c =
    let so = c.loop-i.invariant in
    let says = c.in_err-write_log.ensures in
    let low : c.loop-i.i < length c.args.payloads.now = omega arith in
    let e = err_from_is_err_and c.from_residual.result c.from_residual.ensures.1 in
    rw e.1 (record {
      drawn = tt;
      draws = (omega (arith, so.drawn, says.drawn), omega (arith, so.drawn, says.drawn, low));
    })

pub returns-clause-serials : goal.returns-clause-serials
returns-clause-serials g c =
    let so = c.loop-i.invariant in
    let done : c.loop-i.i ≡ length c.args.payloads.now = omega arith in record {
      drawn = omega (arith, so.drawn, done);
      draws = (omega (arith, so.drawn), omega (arith, so.drawn, done));
    }

pub returns-in_err-write_log-clause-spends : goal.returns-in_err-write_log-clause-spends
returns-in_err-write_log-clause-spends g c =
    let old = g.C.Chip.told c.args.chip.now in
    let mid = g.C.Chip.told c.loop-i.chip in
    let new = g.C.Chip.told c.write_log.new.chip in
    let p = c.args.place in
    let n = length c.args.payloads.now in
    let i = c.loop-i.i in
    let so = c.loop-i.invariant in
    let says = c.in_err-write_log.ensures in
    let stopped = says.accounts.cause in
    let low : i < n = omega arith in
    let e = err_from_is_err_and c.from_residual.result c.from_residual.ensures.1 in
    rw (e.1 ∙ ap Err e.2) (record {
      spares = λ held. absurd (held (subst IsFailedCall (sym stopped.0) tt));
      costs = spends_at_most p (i + 1) n 0 0 5 old new (omega (arith, low)) (omega arith)
          (spends_at_then p i 1 0 0 5 old mid new so.costs says.costs);
      tidy = tidy_logs p (i + 1) n false false old new (omega (arith, low))
          (tidy_log_more p i false old mid new so.tidy says.tidy);
      reads = often_unread [] old new (unread_then old mid new so.unread says.unread);
      accounts = record {
        counts = counts_then old mid new so.counts says.accounts.counts;
        cause = (stopped.0, omega (arith, stopped.1, so.counts.writes));
      };
    })

pub returns-clause-spends : goal.returns-clause-spends
returns-clause-spends g c =
    let old = g.C.Chip.told c.args.chip.now in
    let new = g.C.Chip.told c.loop-i.chip in
    let n = length c.args.payloads.now in
    let i = c.loop-i.i in
    let so = c.loop-i.invariant in
    let done : i ≡ n = omega arith in record {
      spares = so.spares;
      costs = spends_at_most c.args.place i n 0 0 5 old new (omega (arith, done)) (omega arith) so.costs;
      tidy = tidy_logs c.args.place i n true true old new (omega (arith, done)) so.tidy;
      reads = often_unread [] old new so.unread;
      accounts = record { counts = so.counts; cause = tt };
    }
