use Rattle.std.proofs.Common.{ℕ, ◌≡◌, ◌+◌, ◌∙◌, [], length, true, false, Ok, Err, refl, sym, ap, subst, arith}
use Rattle.std.proofs.lemmas.Bool.{false≢true}
use Rattle.std.proofs.lemmas.Result.{err_from_is_err_and}
use Rattle.chip_trait.proofs.CountsLemmas.{counts_then}
use Rattle.ipl_base.specs.declared.fault.ChipFault.{ChipFault}
use Rattle.ipl_base.specs.declared.fault.ImageFault.TheVariants.{Chip}
use Rattle.ipl_meaning.specs.Chart.{chart_of}
use Rattle.ipl_meaning.specs.TableSteps.{without_marks}
use Rattle.selective_merge.specs.Known.{KnowsPlaces}
use Rattle.ipl_meaning.specs.LaidOut.{layout_in}
use Rattle.selective_merge.specs.Moving.{tables_of}
use Rattle.unit_io.specs.Costs.{Spends}
use Rattle.unit_io.specs.ReadsAt.{Anywhere}
use Rattle.unit_io.proofs.CostLemmas.{spends_reads}
use Rattle.unit_io.proofs.UnreadLemmas.{once_alone, once_then_unread}
use Rattle.place_taking.proofs.CountedLemmas.{keeps_counts}
use Rattle.place_taking.proofs.HomeLemmas.{homes_same}
use Rattle.place_taking.specs.Spending.{tells_worn}
use Rattle.restart.specs.Securing.{knows_logs, waits_for}
use Rattle.restart.specs.Recovers.{HasOpened, ErasesOpening, ErasesWaiting, LeavesOpened, RecoversInSteps, tells_wear}
use Rattle.restart.specs.Passes.{TellsChart, FitTogether, KeepsAll, RenewCause, RenewsTold, KeepsInSteps, FailsAsRenewal, CompletesRenewal}
use Rattle.restart.proofs.CostLemmas.{erases_more, waiting_alone, waiting_then, waiting_ended, waiting_then_renewed, reads_then_wait}
use Rattle.restart.proofs.RecoverLemmas.{no_room_is_no_call, of_parts, opened_parts, reading_cause, reading_not_worn, renewing_cause, opens_told, opens_done, fault_looks, sound_looks, reads_recover, securing_failed, recovers_done, recovers_failed, tidies_settled, tidies_renewed, tidies_ended}
use Rattle.restart.proofs.CompleteLemmas.{mergeable_but, call_failed, reading_failed, stopped_failed}
use Rattle.restart.proofs.FaultLemmas.{opening_fault}
use Rattle.txn_status.specs.Status.{keeps_of}
use Rattle.restart.specs.Joins.{kept_of}
use Rattle.restart.proofs.FoundLemmas.{all_kept, once_where_fit, unread_first}
use Rattle.restart.proofs.SecuringLemmas.{forgotten, homes_forgotten, no_waits, none_known, unknown_logs, wait_contents, wait_unread, wait_costs, known_ended, none_marked}
use Rattle.restart.proofs.TidyLemmas.{tidies_nothing, tidies_opened}
use Rattle.restart.proofs.CountedMarkLemmas.{takes_marks}
use Rattle.restart.proofs.recovering.recover.Goals as goal

-- as many numbers have room from the first table to the last, and the flags were made for these
same_limit : {flags kept was most now : ℕ} → flags ≡ kept → kept ≡ was → most ≡ was → now ≡ most → keeps_of flags ≡ keeps_of now
same_limit read made still last = ap keeps_of (read ∙ made ∙ sym still ∙ sym last)

-- ---- it was only read

pub returns-in_err-found-clause-tells : goal.returns-in_err-found-clause-tells
returns-in_err-found-clause-tells g c = λ x told.
    let old = g.C.Chip.told c.args.chip.now in
    let e = err_from_is_err_and c.from_residual.result c.from_residual.ensures.1 in
    rw (e.1 ∙ ap Err e.2) (λ unfailed. opens_told c.args.parts.now.status.most old.places x
    c.in_err-found.field-0.0 old (g.C.Chip.told c.read_tables.new.chip)
    (c.in_err-found.ensures.fault x told) c.in_err-found.ensures.looks.only.cause unfailed)

pub returns-in_err-found-clause-steps : goal.returns-in_err-found-clause-steps
returns-in_err-found-clause-steps g c =
    let old = g.C.Chip.told c.args.chip.now in
    let e = err_from_is_err_and c.from_residual.result c.from_residual.ensures.1 in
    rw (e.1 ∙ ap Err e.2) (reads_recover c.args.marks old.places old (g.C.Chip.told c.read_tables.new.chip)
    (of_parts c.read_tables.new.parts.directory c.read_tables.new.parts.overflow c.read_tables.new.parts.status
    c.read_tables.new.parts.counter c.read_tables.new.parts.active) c.in_err-found.field-0.0
    c.read_tables.ensures.looks.only.reads)

pub returns-in_err-found-clause-fails : goal.returns-in_err-found-clause-fails
returns-in_err-found-clause-fails g c =
    let old = g.C.Chip.told c.args.chip.now in
    let mid = g.C.Chip.told c.read_tables.new.chip in
    let fault = c.in_err-found.field-0.0 in
    let says = c.in_err-found.ensures in
    let e = err_from_is_err_and c.from_residual.result c.from_residual.ensures.1 in
    rw (e.1 ∙ ap Err e.2) (record {
      looks = λ x told first is. (
        c.read_tables.ensures.looks.only.reads,
        fault_looks c.args.parts.now.status.most old.places x fault first old mid (says.fault x told) says.looks.only.cause is,
      );
      complete = λ x told m some none pages all fit. reading_failed c.args.parts.now.status.most old.places (chart_of x) fault old mid
          (says.fault x told) says.looks.only.cause none;
      bytes = λ x told. says.bytes x told;
      unwritten = λ many. c.read_tables.ensures.looks.only.reads;
    })

pub returns-in_err-found-clause-leaves : goal.returns-in_err-found-clause-leaves
returns-in_err-found-clause-leaves g c =
    let old = g.C.Chip.told c.args.chip.now in
    let mid = g.C.Chip.told c.read_tables.new.chip in
    let fault = c.in_err-found.field-0.0 in
    let looks = c.in_err-found.ensures.looks in
    let after = of_parts c.read_tables.new.parts.directory c.read_tables.new.parts.overflow c.read_tables.new.parts.status
    c.read_tables.new.parts.counter c.read_tables.new.parts.active in
    let e = err_from_is_err_and c.from_residual.result c.from_residual.ensures.1 in
    rw (e.1 ∙ ap Err e.2) (record {
      holds = tt;
      number = tt;
      left = tt;
      marked = tt;
      tidy = tidies_nothing Anywhere c.args.marks old.places fault after old mid looks.only.reads;
      accounts = record {
        counts = looks.only.reads.counts;
        cause = reading_cause c.args.parts.now.status.most after.status.most after.places fault old mid c.read_tables.ensures.room.0 looks.only.cause;
      };
    })

pub returns-in_err-found-clause-spends : goal.returns-in_err-found-clause-spends
returns-in_err-found-clause-spends g c =
    let old = g.C.Chip.told c.args.chip.now in
    let mid = g.C.Chip.told c.read_tables.new.chip in
    let after = c.read_tables.new.parts.directory in
    let found = forgotten after in
    let fault = c.in_err-found.field-0.0 in
    let still : tells_wear fault ≡ false =
    reading_not_worn c.args.parts.now.status.most fault old mid c.in_err-found.ensures.looks.only.cause in
    let e = err_from_is_err_and c.from_residual.result c.from_residual.ensures.1 in
    rw (e.1 ∙ ap Err e.2) (record {
      costs = record {
        found = found;
        erases = subst (λ (waits : ℕ). Spends (ErasesWaiting found after (length after.current + 1) waits
            (tells_wear fault)) old mid) (sym (no_waits after))
            (waiting_alone found after (length after.current + 1) 0 (tells_wear fault) old mid refl still
            (homes_forgotten after) (record { counts = refl; free = λ p free. free }) (spends_reads Anywhere [] old mid c.read_tables.ensures.looks.only.reads));
        unmarked = λ off. unknown_logs found (none_known after);
        finds = λ is. absurd (false≢true (sym still ∙ is));
        units = λ is. absurd (false≢true (sym still ∙ is));
      };
      once = λ x told fit. once_alone Anywhere old mid c.read_tables.ensures.looks.once;
      renewed = tt;
    })

-- ---- the barrier failed

pub returns-in_err-secure_marks-clause-tells : goal.returns-in_err-secure_marks-clause-tells
returns-in_err-secure_marks-clause-tells g c = λ x told.
    let e = err_from_is_err_and c.from_residual-in_err-secure_marks.result
    c.from_residual-in_err-secure_marks.ensures.1 in
    rw (e.1 ∙ ap Err e.2) (λ unfailed. absurd (unfailed (stopped_failed
    c.in_err-secure_marks.field-0.0 (g.C.Chip.told c.read_tables.new.chip)
    (g.C.Chip.told c.secure_marks.new.chip) c.in_err-secure_marks.ensures.accounts.cause)))

pub returns-in_err-secure_marks-clause-steps : goal.returns-in_err-secure_marks-clause-steps
returns-in_err-secure_marks-clause-steps g c =
    let old = g.C.Chip.told c.args.chip.now in
    let active = c.read_tables.new.parts.active in
    let directory = c.read_tables.new.parts.directory in
    let overflow = c.read_tables.new.parts.overflow in
    let status = c.read_tables.new.parts.status in
    let counter = c.read_tables.new.parts.counter in
    let t = of_parts directory overflow status counter active in
    let e = err_from_is_err_and c.from_residual-in_err-secure_marks.result
    c.from_residual-in_err-secure_marks.ensures.1 in
    rw (e.1 ∙ ap Err e.2) (securing_failed c.args.marks old.places t old
    (g.C.Chip.told c.read_tables.new.chip) (g.C.Chip.told c.secure_marks.new.chip)
    c.read_tables.ensures.looks.only.reads
    (record {
      none = λ off. (c.in_ok-found.ensures.found.unmarked off).none;
      marked = c.in_ok-found.ensures.found.marked;
    })
    (λ x told. opened_parts old.places (chart_of x) directory overflow status counter active
    (c.read_tables.ensures.active ∙ c.requires.active) (c.in_ok-found.ensures.found.opened x told) (c.in_ok-found.ensures.found.mirrors x told))
    t c.in_err-secure_marks.field-0.0 c.in_err-secure_marks.ensures.waits
    c.in_err-secure_marks.ensures.accounts.cause)

pub returns-in_err-secure_marks-clause-fails : goal.returns-in_err-secure_marks-clause-fails
returns-in_err-secure_marks-clause-fails g c =
    let old = g.C.Chip.told c.args.chip.now in
    let mid = g.C.Chip.told c.read_tables.new.chip in
    let settled = g.C.Chip.told c.secure_marks.new.chip in
    let fault = c.in_err-secure_marks.field-0.0 in
    let e = err_from_is_err_and c.from_residual-in_err-secure_marks.result
    c.from_residual-in_err-secure_marks.ensures.1 in
    rw (e.1 ∙ ap Err e.2) (record {
      looks = sound_looks old.places old (Err (Chip fault)) settled c.in_ok-found.ensures.fault;
      complete = λ x told m some none says all fit. stopped_failed fault mid settled
          c.in_err-secure_marks.ensures.accounts.cause;
      bytes = λ x told no_read no_stop roomy why. c.in_ok-found.ensures.bytes x told;
      unwritten = λ many. absurd (no_room_is_no_call fault many);
    })

pub returns-in_err-secure_marks-clause-leaves : goal.returns-in_err-secure_marks-clause-leaves
returns-in_err-secure_marks-clause-leaves g c =
    let old = g.C.Chip.told c.args.chip.now in
    let mid = g.C.Chip.told c.read_tables.new.chip in
    let settled = g.C.Chip.told c.secure_marks.new.chip in
    let t = of_parts c.read_tables.new.parts.directory c.read_tables.new.parts.overflow c.read_tables.new.parts.status
    c.read_tables.new.parts.counter c.read_tables.new.parts.active in
    let fault = c.in_err-secure_marks.field-0.0 in
    let reads = c.read_tables.ensures.looks.only.reads in
    let stopped = c.in_err-secure_marks.ensures.accounts in
    let e = err_from_is_err_and c.from_residual-in_err-secure_marks.result
    c.from_residual-in_err-secure_marks.ensures.1 in
    rw (e.1 ∙ ap Err e.2) (record {
      holds = tt;
      number = tt;
      left = tt;
      tidy = tidies_opened c.args.marks old.places t t (Err fault) (Err (Chip fault)) old settled
          (record {
            none = λ off. (c.in_ok-found.ensures.found.unmarked off).none;
            marked = c.in_ok-found.ensures.found.marked;
          }) refl
          (tidies_settled t old mid settled reads (Err fault) c.in_err-secure_marks.ensures.waits);
      marked = tt;
      accounts = record {
        counts = counts_then old mid settled reads.counts stopped.counts;
        cause = renewing_cause t.status.most t.places fault old mid settled reads.counts
            (subst (λ (f : ChipFault). RenewCause t.places f mid settled) (sym stopped.cause.0)
            stopped.cause.1);
      };
    })

pub returns-in_err-secure_marks-clause-spends : goal.returns-in_err-secure_marks-clause-spends
returns-in_err-secure_marks-clause-spends g c =
    let old = g.C.Chip.told c.args.chip.now in
    let mid = g.C.Chip.told c.read_tables.new.chip in
    let settled = g.C.Chip.told c.secure_marks.new.chip in
    let found = c.read_tables.new.parts.directory in
    let fault = c.in_err-secure_marks.field-0.0 in
    let still : tells_worn fault ≡ false =
    ap tells_worn c.in_err-secure_marks.ensures.accounts.cause.0 in
    let e = err_from_is_err_and c.from_residual-in_err-secure_marks.result
    c.from_residual-in_err-secure_marks.ensures.1 in
    rw (e.1 ∙ ap Err e.2) (record {
      costs = record {
        found = found;
        erases = waiting_alone found found (length found.current + 1) (waits_for found)
            (tells_worn fault) old settled refl still (homes_same found found refl refl)
            (keeps_counts found found refl)
            (reads_then_wait Anywhere (waits_for found) old mid settled c.read_tables.ensures.looks.only.reads
            (wait_costs found (Err fault) mid settled c.in_err-secure_marks.ensures.waits));
        unmarked = λ off. unknown_logs found (c.in_ok-found.ensures.found.unmarked off).unknown;
        finds = λ is. absurd (false≢true (sym still ∙ is));
        units = λ is. absurd (false≢true (sym still ∙ is));
      };
      once = λ x told fit. once_then_unread Anywhere old mid settled c.read_tables.ensures.looks.once
          (wait_unread (knows_logs found) c.secure_marks.result mid settled c.secure_marks.ensures.waits);
      renewed = tt;
    })

-- ---- the renewal

pub renew_with-requires-clause-exact : goal.renew_with-requires-clause-exact
renew_with-requires-clause-exact g c =
    let old = g.C.Chip.told c.args.chip.now in
    let mid = g.C.Chip.told c.read_tables.new.chip in
    let settled = g.C.Chip.told c.secure_marks.new.chip in
    let reads = c.read_tables.ensures.looks.only.reads in
    let active = c.read_tables.new.parts.active in
    let t = of_parts c.read_tables.new.parts.directory c.read_tables.new.parts.overflow c.read_tables.new.parts.status
    c.read_tables.new.parts.counter active in
    let kept = kept_of c.read_tables.new.parts.status.numbers c.read_tables.new.numbers in
    subst (λ n. c.in_ok-found.found ≡ true → KeepsAll n t kept.list settled)
    (sym (c.secure_marks.ensures.accounts.counts.places ∙ reads.counts.places))
    (all_kept old.places t c.in_ok-found.found kept old settled
    (wait_contents (knows_logs c.read_tables.new.parts.directory) mid settled
    c.in_ok-secure_marks.ensures.waits ∙ reads.contents)
    c.in_ok-found.ensures.found.collected
    (λ x told. (opened_parts old.places (chart_of x) c.read_tables.new.parts.directory c.read_tables.new.parts.overflow
    c.read_tables.new.parts.status c.read_tables.new.parts.counter active (c.read_tables.ensures.active ∙ c.requires.active)
    (c.in_ok-found.ensures.found.opened x told) (c.in_ok-found.ensures.found.mirrors x told)).1.laid))

pub returns-in_err-renew_with-clause-steps : goal.returns-in_err-renew_with-clause-steps
returns-in_err-renew_with-clause-steps g c =
    let old = g.C.Chip.told c.args.chip.now in
    let mid = g.C.Chip.told c.read_tables.new.chip in
    let settled = g.C.Chip.told c.secure_marks.new.chip in
    let new = g.C.Chip.told c.renew_with.new.chip in
    let active = c.read_tables.new.parts.active in
    let directory = c.read_tables.new.parts.directory in
    let overflow = c.read_tables.new.parts.overflow in
    let status = c.read_tables.new.parts.status in
    let counter = c.read_tables.new.parts.counter in
    let t = of_parts directory overflow status counter active in
    let after = tables_of c.renew_with.new.parts in
    let fault = c.in_err-renew_with.field-0.0 in
    let counts = c.secure_marks.ensures.accounts.counts in
    let e = err_from_is_err_and c.from_residual-in_err-renew_with.result
    c.from_residual-in_err-renew_with.ensures.1 in
    rw (e.1 ∙ ap Err e.2) (recovers_failed c.args.marks old.places t old mid settled
    c.read_tables.ensures.looks.only.reads
    (record {
      none = λ off. (c.in_ok-found.ensures.found.unmarked off).none;
      marked = c.in_ok-found.ensures.found.marked;
    })
    (λ x told. opened_parts old.places (chart_of x) directory overflow status counter active
    (c.read_tables.ensures.active ∙ c.requires.active) (c.in_ok-found.ensures.found.opened x told) (c.in_ok-found.ensures.found.mirrors x told))
    c.in_ok-secure_marks.ensures.waits after new fault counts
    (subst (λ n. KeepsInSteps n t after settled (Err fault) new)
    (counts.places ∙ c.read_tables.ensures.looks.only.reads.counts.places)
    c.in_err-renew_with.ensures.renews.steps))

pub returns-in_err-renew_with-clause-tells : goal.returns-in_err-renew_with-clause-tells
returns-in_err-renew_with-clause-tells g c = λ x told.
    let old = g.C.Chip.told c.args.chip.now in
    let mid = g.C.Chip.told c.read_tables.new.chip in
    let settled = g.C.Chip.told c.secure_marks.new.chip in
    let active = c.read_tables.new.parts.active in
    let t = of_parts c.read_tables.new.parts.directory c.read_tables.new.parts.overflow c.read_tables.new.parts.status
    c.read_tables.new.parts.counter active in
    let fault = c.in_err-renew_with.field-0.0 in
    let reads = c.read_tables.ensures.looks.only.reads in
    let e = err_from_is_err_and c.from_residual-in_err-renew_with.result
    c.from_residual-in_err-renew_with.ensures.1 in
    let it = layout_in (chart_of x) old.places in
    let parts = opened_parts old.places (chart_of x) c.read_tables.new.parts.directory
    c.read_tables.new.parts.overflow c.read_tables.new.parts.status c.read_tables.new.parts.counter active (c.read_tables.ensures.active ∙ c.requires.active)
    (c.in_ok-found.ensures.found.opened x told) (c.in_ok-found.ensures.found.mirrors x told) in
    rw (e.1 ∙ ap Err e.2) (λ unfailed. opening_fault old.places x t fault (c.read_tables.ensures.active ∙ c.requires.active)
    parts.1.status (c.in_ok-found.ensures.fault x told)
    (subst (λ n. FailsAsRenewal n t (Err fault) settled)
    (c.secure_marks.ensures.accounts.counts.places ∙ reads.counts.places)
    c.in_err-renew_with.ensures.renews.fails.fault x
    (wait_contents (knows_logs c.read_tables.new.parts.directory) mid settled
    c.in_ok-secure_marks.ensures.waits ∙ reads.contents ∙ told) it parts.1
    (λ failed. unfailed (call_failed fault failed))))

pub returns-in_err-renew_with-clause-fails : goal.returns-in_err-renew_with-clause-fails
returns-in_err-renew_with-clause-fails g c =
    let old = g.C.Chip.told c.args.chip.now in
    let mid = g.C.Chip.told c.read_tables.new.chip in
    let settled = g.C.Chip.told c.secure_marks.new.chip in
    let new = g.C.Chip.told c.renew_with.new.chip in
    let active = c.read_tables.new.parts.active in
    let t = of_parts c.read_tables.new.parts.directory c.read_tables.new.parts.overflow c.read_tables.new.parts.status
    c.read_tables.new.parts.counter active in
    let fault = c.in_err-renew_with.field-0.0 in
    let reads = c.read_tables.ensures.looks.only.reads in
    let found = c.in_ok-found.ensures.found in
    let e = err_from_is_err_and c.from_residual-in_err-renew_with.result
    c.from_residual-in_err-renew_with.ensures.1 in
    rw (e.1 ∙ ap Err e.2) (record {
      looks = sound_looks old.places old (Err (Chip fault)) new c.in_ok-found.ensures.fault;
      complete = λ x told m some none says all fit.
          let it = layout_in (chart_of x) old.places in
          let parts = opened_parts old.places (chart_of x) c.read_tables.new.parts.directory
          c.read_tables.new.parts.overflow c.read_tables.new.parts.status c.read_tables.new.parts.counter active (c.read_tables.ensures.active ∙ c.requires.active)
          (found.opened x told) (found.mirrors x told) in
          call_failed fault
          (subst (λ n. CompletesRenewal n t (Err fault) settled)
          (c.secure_marks.ensures.accounts.counts.places ∙ reads.counts.places)
          c.in_err-renew_with.ensures.renews.fails.complete x
          (wait_contents (knows_logs c.read_tables.new.parts.directory) mid settled
          c.in_ok-secure_marks.ensures.waits ∙ reads.contents ∙ told) it parts.1
          some (mergeable_but old.places (chart_of x) it m some t says all (c.read_tables.ensures.active ∙ c.requires.active))
          (subst (λ (most : ℕ). FitTogether most it some) (sym c.read_tables.ensures.room.0) fit));
      bytes = λ x told no_read no_stop roomy why. c.in_ok-found.ensures.bytes x told;
      unwritten = λ many. absurd (no_room_is_no_call fault many);
    })

pub returns-in_err-renew_with-clause-leaves : goal.returns-in_err-renew_with-clause-leaves
returns-in_err-renew_with-clause-leaves g c =
    let old = g.C.Chip.told c.args.chip.now in
    let mid = g.C.Chip.told c.read_tables.new.chip in
    let settled = g.C.Chip.told c.secure_marks.new.chip in
    let new = g.C.Chip.told c.renew_with.new.chip in
    let t = of_parts c.read_tables.new.parts.directory c.read_tables.new.parts.overflow c.read_tables.new.parts.status
    c.read_tables.new.parts.counter c.read_tables.new.parts.active in
    let after = tables_of c.renew_with.new.parts in
    let fault = c.in_err-renew_with.field-0.0 in
    let reads = c.read_tables.ensures.looks.only.reads in
    let waited = c.secure_marks.ensures.accounts.counts in
    let leaves = c.in_err-renew_with.ensures.renews.leaves in
    let counts = counts_then old mid settled reads.counts waited in
    let e = err_from_is_err_and c.from_residual-in_err-renew_with.result
    c.from_residual-in_err-renew_with.ensures.1 in
    rw (e.1 ∙ ap Err e.2) (record {
      holds = tt;
      number = tt;
      left = tt;
      tidy = tidies_opened c.args.marks old.places t after (Err fault) (Err (Chip fault)) old new
          (record {
            none = λ off. (c.in_ok-found.ensures.found.unmarked off).none;
            marked = c.in_ok-found.ensures.found.marked;
          }) refl
          (tidies_renewed t old mid settled reads waited c.in_ok-secure_marks.ensures.waits after
          (Err fault) new leaves.tidy);
      marked = tt;
      accounts = record {
        counts = counts_then old settled new counts leaves.accounts.counts;
        cause = renewing_cause after.status.most after.places fault old settled new counts leaves.accounts.cause;
      };
    })

pub returns-in_err-renew_with-clause-spends : goal.returns-in_err-renew_with-clause-spends
returns-in_err-renew_with-clause-spends g c =
    let old = g.C.Chip.told c.args.chip.now in
    let mid = g.C.Chip.told c.read_tables.new.chip in
    let settled = g.C.Chip.told c.secure_marks.new.chip in
    let new = g.C.Chip.told c.renew_with.new.chip in
    let found = c.read_tables.new.parts.directory in
    let after = c.renew_with.new.parts.directory in
    let fault = c.in_err-renew_with.field-0.0 in
    let units = c.in_err-renew_with.ensures.renews.leaves.holds.units in
    let e = err_from_is_err_and c.from_residual-in_err-renew_with.result
    c.from_residual-in_err-renew_with.ensures.1 in
    rw (e.1 ∙ ap Err e.2) (record {
      costs = record {
        found = found;
        erases = waiting_then found after (length after.current + 1) (waits_for found)
            (tells_worn fault) old settled new
            (reads_then_wait Anywhere (waits_for found) old mid settled c.read_tables.ensures.looks.only.reads
            (wait_costs found (Ok tt) mid settled c.in_ok-secure_marks.ensures.waits))
            (erases_more found after (length found.current + 1) (length after.current + 1)
            (tells_worn fault) settled new (omega (arith, units))
            c.in_err-renew_with.ensures.renews.spends.costs);
        unmarked = λ off. unknown_logs found (c.in_ok-found.ensures.found.unmarked off).unknown;
        finds = λ is x told. (c.in_ok-found.ensures.found.opened x told).directory.retired;
        units = λ is x told. units ∙ (c.in_ok-found.ensures.found.mirrors x told).directory.units;
      };
      once = once_where_fit c.renew_with.new.parts.status.most old.places c.in_ok-found.found
          (kept_of c.read_tables.new.parts.status.numbers c.read_tables.new.numbers) old mid new
          (same_limit c.read_tables.ensures.room.1 c.requires.room c.read_tables.ensures.room.0 c.in_err-renew_with.ensures.renews.leaves.holds.most)
          c.read_tables.ensures.looks.once
          (unread_first c.in_ok-found.found mid settled new
          (wait_unread (knows_logs found) (Ok tt) mid settled c.in_ok-secure_marks.ensures.waits)
          c.renew_with.ensures.unread) c.in_ok-found.ensures.found.collected;
      renewed = tt;
    })

pub returns-clause-tells : goal.returns-clause-tells
returns-clause-tells g c = λ x told.
    let old = g.C.Chip.told c.args.chip.now in
    let mid = g.C.Chip.told c.read_tables.new.chip in
    let settled = g.C.Chip.told c.secure_marks.new.chip in
    let new = g.C.Chip.told c.renew_with.new.chip in
    let active = c.read_tables.new.parts.active in
    let directory = c.read_tables.new.parts.directory in
    let t = of_parts directory c.read_tables.new.parts.overflow c.read_tables.new.parts.status c.read_tables.new.parts.counter
    active in
    let after = tables_of c.renew_with.new.parts in
    let reads = c.read_tables.ensures.looks.only.reads in
    let parts = opened_parts old.places (chart_of x) directory
    c.read_tables.new.parts.overflow c.read_tables.new.parts.status c.read_tables.new.parts.counter active (c.read_tables.ensures.active ∙ c.requires.active)
    (c.in_ok-found.ensures.found.opened x told) (c.in_ok-found.ensures.found.mirrors x told) in
    let renews : RenewsTold old.places t after settled (Ok tt) new =
    subst (λ n. RenewsTold n t after settled (Ok tt) new)
    (c.secure_marks.ensures.accounts.counts.places ∙ reads.counts.places)
    c.in_ok-renew_with.ensures.renews.tells in
    let (y, there, any) = renews x
    (wait_contents (knows_logs directory) mid settled c.in_ok-secure_marks.ensures.waits
    ∙ reads.contents ∙ told) in
    subst (λ d. TellsChart (HasOpened old.places (chart_of x)
    (of_parts d after.overflow after.status after.next after.active)) new)
    (sym c.end_marks.ensures)
    (opens_done old.places (chart_of x) t after new (c.in_ok-found.ensures.fault x told)
    parts.1.laid (y, there, any (layout_in (chart_of x) old.places) parts.1))

pub returns-clause-steps : goal.returns-clause-steps
returns-clause-steps g c =
    let old = g.C.Chip.told c.args.chip.now in
    let mid = g.C.Chip.told c.read_tables.new.chip in
    let settled = g.C.Chip.told c.secure_marks.new.chip in
    let new = g.C.Chip.told c.renew_with.new.chip in
    let active = c.read_tables.new.parts.active in
    let directory = c.read_tables.new.parts.directory in
    let overflow = c.read_tables.new.parts.overflow in
    let status = c.read_tables.new.parts.status in
    let counter = c.read_tables.new.parts.counter in
    let t = of_parts directory overflow status counter active in
    let after = tables_of c.renew_with.new.parts in
    subst (λ d. RecoversInSteps c.args.marks old.places old (Ok tt)
    (of_parts d after.overflow after.status after.next after.active) new) (sym c.end_marks.ensures)
    (recovers_done c.args.marks old.places t old mid settled c.read_tables.ensures.looks.only.reads
    (record {
      none = λ off. (c.in_ok-found.ensures.found.unmarked off).none;
      marked = c.in_ok-found.ensures.found.marked;
    })
    (λ x told. opened_parts old.places (chart_of x) directory overflow status counter active
    (c.read_tables.ensures.active ∙ c.requires.active) (c.in_ok-found.ensures.found.opened x told) (c.in_ok-found.ensures.found.mirrors x told))
    c.in_ok-secure_marks.ensures.waits after new
    (subst (λ n. KeepsInSteps n t after settled (Ok tt) new)
    (c.secure_marks.ensures.accounts.counts.places ∙ c.read_tables.ensures.looks.only.reads.counts.places)
    c.in_ok-renew_with.ensures.renews.steps))

pub returns-clause-fails : goal.returns-clause-fails
returns-clause-fails g c =
    let old = g.C.Chip.told c.args.chip.now in record {
      looks = sound_looks old.places old (Ok tt) (g.C.Chip.told c.renew_with.new.chip)
          c.in_ok-found.ensures.fault;
      complete = λ x told m some none says all fit. tt;
      bytes = λ x told. c.in_ok-found.ensures.bytes x told;
      unwritten = tt;
    }

pub returns-clause-leaves : goal.returns-clause-leaves
returns-clause-leaves g c =
    let old = g.C.Chip.told c.args.chip.now in
    let mid = g.C.Chip.told c.read_tables.new.chip in
    let settled = g.C.Chip.told c.secure_marks.new.chip in
    let new = g.C.Chip.told c.renew_with.new.chip in
    let t = of_parts c.read_tables.new.parts.directory c.read_tables.new.parts.overflow c.read_tables.new.parts.status
    c.read_tables.new.parts.counter c.read_tables.new.parts.active in
    let after = tables_of c.renew_with.new.parts in
    let reads = c.read_tables.ensures.looks.only.reads in
    let waited = c.secure_marks.ensures.accounts.counts in
    let found = c.in_ok-found.ensures in
    let leaves = c.in_ok-renew_with.ensures.renews.leaves in
    subst (λ d. LeavesOpened c.args.marks
    (of_parts d after.overflow after.status after.next after.active) (Ok tt) old new)
    (sym c.end_marks.ensures)
    (record {
      holds = record {
        active = leaves.holds.active ∙ (c.read_tables.ensures.active ∙ c.requires.active);
        known = known_ended old.places after
            (subst (λ n. KnowsPlaces n after) (waited.places ∙ reads.counts.places) leaves.holds.known);
        room = leaves.holds.ends;
        ended = none_marked after.places;
      };
      number = λ x told.
          let number = (found.found.opened x told).directory.number in
          (omega (arith, number, leaves.draws), omega (arith, number, leaves.draws));
      left = omega (arith, found.left, leaves.draws);
      tidy = tidies_opened c.args.marks old.places t (without_marks after) (Ok tt) (Ok tt) old new
          (record { none = λ off. (found.found.unmarked off).none; marked = found.found.marked }) refl
          (tidies_ended t after old new
          (tidies_renewed t old mid settled reads waited c.in_ok-secure_marks.ensures.waits after (Ok tt)
          new leaves.tidy));
      marked = takes_marks c.args.marks old.places c.in_ok-found.found
          (kept_of c.read_tables.new.parts.status.numbers c.read_tables.new.numbers) t after old
          (same_limit c.read_tables.ensures.room.1 c.requires.room c.read_tables.ensures.room.0 leaves.holds.most)
          found.found.exact found.found.knows found.found.collected
          (λ x told. (found.found.opened x told).status.first_is) found.found.laid
          (λ x told. leaves.holds.units ∙ (found.found.mirrors x told).directory.units)
          (λ u low unknown. (c.in_ok-renew_with.ensures.renews.spends.costs.does.places.homes u low unknown).0)
          c.in_ok-renew_with.ensures.logs;
      accounts = record {
        counts = counts_then old settled new (counts_then old mid settled reads.counts waited)
            leaves.accounts.counts;
        cause = tt;
      };
    })

pub returns-clause-spends : goal.returns-clause-spends
returns-clause-spends g c =
    let old = g.C.Chip.told c.args.chip.now in
    let mid = g.C.Chip.told c.read_tables.new.chip in
    let settled = g.C.Chip.told c.secure_marks.new.chip in
    let new = g.C.Chip.told c.renew_with.new.chip in
    let found = c.read_tables.new.parts.directory in
    let after = c.renew_with.new.parts.directory in
    let units = c.in_ok-renew_with.ensures.renews.leaves.holds.units in
    let waits = reads_then_wait Anywhere (waits_for found) old mid settled
    c.read_tables.ensures.looks.only.reads
    (wait_costs found (Ok tt) mid settled c.in_ok-secure_marks.ensures.waits) in record {
      costs = subst (λ d. ErasesOpening c.args.marks old.places (Ok tt) d old new)
          (sym c.end_marks.ensures)
          (record {
            found = found;
            erases = waiting_ended found after (length after.current + 1) (waits_for found) old new
                (waiting_then found after (length after.current + 1) (waits_for found) false old settled
                new waits
                (erases_more found after (length found.current + 1) (length after.current + 1) false
                settled new (omega (arith, units)) c.in_ok-renew_with.ensures.renews.spends.costs));
            unmarked = λ off. unknown_logs found (c.in_ok-found.ensures.found.unmarked off).unknown;
            finds = λ is x told. (c.in_ok-found.ensures.found.opened x told).directory.retired;
            units = λ is x told. units ∙ (c.in_ok-found.ensures.found.mirrors x told).directory.units;
          });
      once = once_where_fit c.renew_with.new.parts.status.most old.places c.in_ok-found.found
          (kept_of c.read_tables.new.parts.status.numbers c.read_tables.new.numbers) old mid new
          (same_limit c.read_tables.ensures.room.1 c.requires.room c.read_tables.ensures.room.0 c.in_ok-renew_with.ensures.renews.leaves.holds.most)
          c.read_tables.ensures.looks.once
          (unread_first c.in_ok-found.found mid settled new
          (wait_unread (knows_logs found) (Ok tt) mid settled c.in_ok-secure_marks.ensures.waits)
          c.renew_with.ensures.unread) c.in_ok-found.ensures.found.collected;
      renewed = waiting_then_renewed (waits_for found) c.renew_with.new.parts.status.place old settled
          new waits c.in_ok-renew_with.ensures.renews.spends.renewed;
    }
