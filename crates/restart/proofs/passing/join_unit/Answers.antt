use Rattle.std.proofs.Common.{◌≡◌, ◌<◌, ◌≤◌, ◌∙◌, Bool, true, false, IsTrue, List, Err, length, refl, sym, ap, subst, arith}
use Rattle.std.specs.Prelude.{◌↔◌}
use Rattle.std.specs.Bool.{OnTrue, OnFalse}
use Rattle.std.proofs.lemmas.Bool.{le-leb, lt-leb}
use Rattle.std.proofs.lemmas.Result.{err_from_is_err_and}
use Rattle.ipl_base.specs.Calls.{IsFailedCall}
use Rattle.ipl_format.specs.Record.{Record}
use Rattle.ipl_meaning.specs.Layout.{Shape, records_of}
use Rattle.ipl_meaning.specs.Tables.{StatusTable}
use Rattle.number_set.specs.Flags.{Flags, has_flag, flagged}
use Rattle.number_set.proofs.FlagLemmas.{flagged_rise}
use Rattle.selective_merge.specs.Moving.{tables_of}
use Rattle.unit_log.specs.Kept.{records_kept}
use Rattle.txn_status.specs.Status.{keeps_of}
use Rattle.restart.specs.Joins.{joined}
use Rattle.restart.specs.Passing.{IsJoined}
use Rattle.restart.proofs.JoinLemmas.{too_many}
use Rattle.restart.proofs.UnitLemmas.{records_are_logged}
use Rattle.restart.proofs.WalkLemmas.{walks_read, walks_unread}
use Rattle.restart.proofs.passing.join_unit.Goals as goal

pub returns-in_err-read_live-clause-joins : goal.returns-in_err-read_live-clause-joins
returns-in_err-read_live-clause-joins g c = λ x told it mirrors.
    let e = err_from_is_err_and c.from_residual.result c.from_residual.ensures.1 in
    rw (e.1 ∙ ap Err e.2) (subst IsFailedCall (sym (c.in_err-read_live.ensures.exact x told it
    (tables_of c.args.parts.now)
    (record { mirrors = mirrors; directory_is = refl; overflow_is = refl }))) tt)

-- whether they are few enough, and what is kept then
joins_so : (status : StatusTable) (it : Shape) (kept next : Flags) (records : List Record) (fits : Bool)
    → records ≡ records_of it.log
    → (IsTrue fits ↔ (length (joined status.numbers records (flagged kept status.numbers)) ≤ keeps_of status.most))
    → OnTrue fits (flagged next status.numbers ≡ joined status.numbers records (flagged kept status.numbers))
    → OnFalse fits (next ≡ kept) → IsJoined status it (flagged kept status.numbers) (flagged next status.numbers) fits
joins_so status it kept next records true are few made same = (
  le-leb _ _ (subst (λ (rs : List Record). length (joined status.numbers rs (flagged kept status.numbers)) ≤ keeps_of status.most) are
      (few.0 refl)),
  made ∙ ap (λ (rs : List Record). joined status.numbers rs (flagged kept status.numbers)) are,
)
joins_so status it kept next records false are few made same = (
  lt-leb _ _ (subst (λ (rs : List Record). keeps_of status.most < length (joined status.numbers rs (flagged kept status.numbers))) are
      (too_many (keeps_of status.most) false _ few refl)),
  ap (λ (k : Flags). flagged k status.numbers) same,
)

pub returns-clause-joins : goal.returns-clause-joins
returns-clause-joins g c = λ x told it mirrors.
    let unit = c.args.unit in
    let within : unit < it.count = omega (arith, c.requires.unit, mirrors.directory.units) in
    let live = c.in_ok-read_live.ensures.exact x told it (tables_of c.args.parts.now)
    (record { mirrors = mirrors; directory_is = refl; overflow_is = refl }) in
    let log = (it.units unit).log in
    joins_so c.args.parts.now.status (it.units unit) c.args.kept.now c.join.new.self
    (records_kept c.sectors.result.now) c.join.result
    (ap records_kept (c.sectors.ensures.sectors ∙ live.log)
    ∙ records_are_logged _ (g.C.Chip.told c.args.chip.now).places unit (it.units unit).home
    (it.units unit).head.generation log (mirrors.laid.each unit within).log.each)
    (c.join.ensures.fits c.requires.exact) c.join.ensures.joined c.join.ensures.same

pub returns-in_err-read_live-clause-walks : goal.returns-in_err-read_live-clause-walks
returns-in_err-read_live-clause-walks g c = λ turns.
    let looks = c.in_err-read_live.ensures.looks in
    let e = err_from_is_err_and c.from_residual.result c.from_residual.ensures.1 in
    rw (e.1 ∙ ap Err e.2) (walks_unread _ turns (tables_of c.args.parts.now) c.in_err-read_live.field-0.0
    (g.C.Chip.told c.args.chip.now) (g.C.Chip.told c.read_live.new.chip) c.requires.known looks.reads
    looks.cause)

pub returns-clause-walks : goal.returns-clause-walks
returns-clause-walks g c = λ turns.
    walks_read _ c.join.result turns (tables_of c.args.parts.now) (g.C.Chip.told c.args.chip.now)
    (g.C.Chip.told c.read_live.new.chip) c.requires.known c.read_live.ensures.looks.reads

pub returns-in_err-read_live-clause-rising : goal.returns-in_err-read_live-clause-rising
returns-in_err-read_live-clause-rising g c =
    flagged_rise (has_flag c.args.kept.now.bytes) 0 c.args.parts.now.status.numbers c.facts.ensures.rising

pub returns-clause-rising : goal.returns-clause-rising
returns-clause-rising g c =
    flagged_rise (has_flag c.args.kept.now.bytes) 0 c.args.parts.now.status.numbers c.facts.ensures.rising
