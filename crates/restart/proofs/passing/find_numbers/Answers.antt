use Rattle.std.proofs.Common.{◌≡◌, ◌<◌, ◌≤◌, ◌-◌, ◌∙◌, ℕ, Bool, length, false, Ok, Err, refl, sym, ap, subst, arith}
use Rattle.std.proofs.lemmas.Result.{err_from_is_err_and}
use Rattle.std.proofs.lemmas.Bool.{OnTrue_from, false≢true}
use Rattle.chip_trait.proofs.CountsLemmas.{counts_none}
use Rattle.ipl_meaning.specs.Chart.{chart_of}
use Rattle.ipl_meaning.specs.Mirrors.{Mirrors}
use Rattle.number_set.specs.Flags.{has_flag, flagged}
use Rattle.number_set.proofs.FlagLemmas.{flagged_rise}
use Rattle.ipl_meaning.specs.Tables.{StatusTable}
use Rattle.selective_merge.specs.Known.{KnowsPlaces}
use Rattle.selective_merge.specs.Moving.{tables_of}
use Rattle.unit_io.specs.Costs.{Spends}
use Rattle.unit_io.specs.Unread.{ReadsNothing}
use Rattle.unit_io.proofs.MapLemmas.{nothing_keeps}
use Rattle.unit_io.proofs.UnreadLemmas.{unread_none}
use Rattle.txn_status.specs.Status.{keeps_of}
use Rattle.restart.specs.Passes.{HasFound, KeepsInSteps}
use Rattle.restart.specs.Passing.{Begins, OnAnswer}
use Rattle.restart.specs.Turns.{ended_below}
use Rattle.restart.proofs.CompleteLemmas.{fault_completes}
use Rattle.restart.proofs.CostLemmas.{erases_more, erases_none}
use Rattle.restart.proofs.FoundLemmas.{passed_all}
use Rattle.restart.proofs.PassLemmas.{begins}
use Rattle.restart.proofs.RenewalKnownLemmas.{held_same}
use Rattle.restart.proofs.TellingLemmas.{goes_on_same}
use Rattle.restart.proofs.TidyLemmas.{tidies_none}
use Rattle.restart.proofs.TurnLemmas.{ended_most}
use Rattle.restart.proofs.WalkLemmas.{leaves_most, left_then, walks_answered, walks_failed, walks_none, walks_then}
use Rattle.restart.proofs.passing.find_numbers.Goals as goal

-- ---- they are found

pub returns-then-found-clause-passes : goal.returns-then-found-clause-passes
returns-then-found-clause-passes g c = λ places x it same is mirrors.
    passed_all places x it (tables_of c.args.parts.now) mirrors (flagged c.args.kept.now c.args.parts.now.status.numbers)
    (flagged_rise (has_flag c.args.kept.now.bytes) 0 c.args.parts.now.status.numbers c.facts.ensures.rising)
    (subst (λ (most : ℕ). length (flagged c.args.kept.now c.args.parts.now.status.numbers) ≤ keeps_of most) c.requires.room
    (c.flags.ensures.few c.args.parts.now.status.numbers))
    (c.requires.exact c.if-found.true x is it
    (subst (λ n. Mirrors n (chart_of x) it (tables_of c.args.parts.now)) (sym same) mirrors))
    (g.C.Chip.told c.args.chip.now) is

pub returns-then-found-clause-goes_on : goal.returns-then-found-clause-goes_on
returns-then-found-clause-goes_on g c =
    let told = g.C.Chip.told c.args.chip.now in goes_on_same (Ok tt) told told refl

pub returns-then-found-clause-steps : goal.returns-then-found-clause-steps
returns-then-found-clause-steps g c = λ places same m it h steady rests agrees.
    nothing_keeps places m (tables_of c.args.parts.now) h (g.C.Chip.told c.args.chip.now) steady
    rests

pub returns-then-found-clause-unread : goal.returns-then-found-clause-unread
returns-then-found-clause-unread g c =
    let told = g.C.Chip.told c.args.chip.now in
    OnTrue_from c.args.found (Spends ReadsNothing told told) (λ is. unread_none told)

pub returns-then-found-clause-fails : goal.returns-then-found-clause-fails
returns-then-found-clause-fails g c = record {
  fault = λ x told it mirrors. tt;
  stays = λ x told it mirrors. tt;
  complete = λ x told it mirrors some all fit. tt;
}

pub returns-then-found-clause-leaves : goal.returns-then-found-clause-leaves
returns-then-found-clause-leaves g c =
    let told = g.C.Chip.told c.args.chip.now in
    let t = tables_of c.args.parts.now in record {
      holds = held_same told.places t c.requires.known;
      draws = (omega arith, omega arith);
      costs = erases_more t.places t.places 0 (length t.places.current) false told told (omega arith)
          (erases_none t.places told);
      tidy = tidies_none t told;
      accounts = record { counts = counts_none told; cause = tt };
    }

-- ---- pass by pass

pub passes-init : goal.passes-init
passes-init g c =
    let t = tables_of c.args.parts.now in
    let told = g.C.Chip.told c.args.chip.now in record {
      begins = λ places x it same is mirrors. begins places x it t c.none-turns.result told same is mirrors
          c.none-turns.ensures.open;
      walks = walks_none tt c.none-turns.result t told c.requires.known;
      left = omega (arith, c.requires.left, c.facts-2.ensures.units, c.facts-2.ensures.places);
      room = refl;
    }

pub try_pass-requires-clause-known : goal.try_pass-requires-clause-known
try_pass-requires-clause-known g c =
    let so = c.passes.invariant.walks.leaves in
    subst (λ (q : ℕ). KnowsPlaces q (tables_of c.passes.parts)) (sym so.accounts.counts.places) so.holds.known

pub try_pass-requires-clause-held : goal.try_pass-requires-clause-held
try_pass-requires-clause-held g c = c.passes.invariant.walks.held c.none-turns.ensures.held

pub passes-smaller : goal.passes-smaller
passes-smaller g c =
    let n = length c.passes.parts.directory.current in
    let before = c.passes.turns in
    let ended = c.try_pass.new.turns in
    let grows : ended_below before n < ended_below ended n =
    c.in_ok-try_pass.ensures.grows c.if-not-branch.true in
    let most = ended_most ended n in
    let units : length c.try_pass.new.parts.directory.current ≡ n =
    c.in_ok-try_pass.ensures.walks.leaves.holds.units in
    let smaller : n - ended_below ended n < n - ended_below before n = omega (arith, grows, most) in
    subst (λ (k : ℕ). k - ended_below ended k < n - ended_below before n) (sym units) smaller

pub passes-preserved : goal.passes-preserved
passes-preserved g c =
    let so = c.passes.invariant in
    let t = tables_of c.args.parts.now in
    let old = g.C.Chip.told c.args.chip.now in
    let mid = g.C.Chip.told c.passes.chip in
    let new = g.C.Chip.told c.try_pass.new.chip in
    let between = tables_of c.passes.parts in
    let after = tables_of c.try_pass.new.parts in
    let first = c.none-turns.result in
    let before = c.passes.turns in
    let ended = c.try_pass.new.turns in
    let tried = c.in_ok-try_pass.ensures in record {
      begins = λ places x it same is mirrors.
          subst (λ (b : Bool). OnAnswer b (HasFound places (chart_of x) it t (flagged c.try_pass.new.kept c.try_pass.new.parts.status.numbers) new after)
          (Begins places x it t ended new after)) c.if-not-branch.true
          (tried.tries places x it t (so.begins places x it same is mirrors));
      walks = walks_then {S = Unit {0}} tt first before ended t between after old mid new (Ok tt) so.walks
          (walks_answered c.in_ok-try_pass.field-0 tt before ended between after mid new tried.walks);
      left = left_then {T = Bool} before ended between after (Ok c.in_ok-try_pass.field-0) mid new tried.walks so.left;
      room = tried.room ∙ so.room;
    }

pub returns-clause-passes : goal.returns-clause-passes
returns-clause-passes g c = λ places x it same is mirrors.
    let t = tables_of c.args.parts.now in
    let new = g.C.Chip.told c.try_pass.new.chip in
    let after = tables_of c.try_pass.new.parts in
    subst (λ (b : Bool). OnAnswer b (HasFound places (chart_of x) it t (flagged c.try_pass.new.kept c.try_pass.new.parts.status.numbers) new after)
    (Begins places x it t c.try_pass.new.turns new after)) c.if-not-branch.false
    (c.in_ok-try_pass.ensures.tries places x it t (c.passes.invariant.begins places x it same is mirrors))

pub returns-clause-steps : goal.returns-clause-steps
returns-clause-steps g c = λ places same.
    let old = g.C.Chip.told c.args.chip.now in
    let mid = g.C.Chip.told c.passes.chip in
    let new = g.C.Chip.told c.try_pass.new.chip in
    let t = tables_of c.args.parts.now in
    let between = tables_of c.passes.parts in
    let after = tables_of c.try_pass.new.parts in
    let before = c.passes.turns in
    let ended = c.try_pass.new.turns in
    let all = walks_then {S = Unit {0}} {T = Unit {0}} tt c.none-turns.result before ended t between after old
    mid new (Ok tt) c.passes.invariant.walks
    (walks_answered c.in_ok-try_pass.field-0 tt before ended between after mid new c.in_ok-try_pass.ensures.walks) in
    subst (λ (q : ℕ). KeepsInSteps q t after old (Ok tt) new) same all.steps

pub returns-clause-leaves : goal.returns-clause-leaves
returns-clause-leaves g c =
    let old = g.C.Chip.told c.args.chip.now in
    let mid = g.C.Chip.told c.passes.chip in
    let new = g.C.Chip.told c.try_pass.new.chip in
    let t = tables_of c.args.parts.now in
    let between = tables_of c.passes.parts in
    let after = tables_of c.try_pass.new.parts in
    let before = c.passes.turns in
    let ended = c.try_pass.new.turns in
    leaves_most c.none-turns.result ended t after (Ok tt) old new
    (omega (arith, c.facts-2.ensures.units, c.facts-2.ensures.places))
    (walks_then {S = Unit {0}} {T = Unit {0}} tt c.none-turns.result before ended t between after old mid new
    (Ok tt) c.passes.invariant.walks
    (walks_answered c.in_ok-try_pass.field-0 tt before ended between after mid new c.in_ok-try_pass.ensures.walks))

pub returns-in_err-try_pass-clause-passes : goal.returns-in_err-try_pass-clause-passes
returns-in_err-try_pass-clause-passes g c = λ places x it same is mirrors.
    let so = c.passes.invariant in
    let e = err_from_is_err_and c.from_residual.result c.from_residual.ensures.1 in
    rw (e.1 ∙ ap Err e.2) ((c.in_err-try_pass.ensures.tries places x it (tables_of c.args.parts.now)
    (so.begins places x it same is mirrors)).1)

pub returns-in_err-try_pass-clause-fails : goal.returns-in_err-try_pass-clause-fails
returns-in_err-try_pass-clause-fails g c =
    let so = c.passes.invariant in
    let t = tables_of c.args.parts.now in
    let old = g.C.Chip.told c.args.chip.now in
    let tries = c.in_err-try_pass.ensures.tries old.places in
    let e = err_from_is_err_and c.from_residual.result c.from_residual.ensures.1 in
    rw (e.1 ∙ ap Err e.2) (record {
      fault = λ x told it mirrors unfailed.
          ((tries x it t (so.begins old.places x it refl told mirrors)).0 unfailed).is;
      stays = λ x told it mirrors. (tries x it t (so.begins old.places x it refl told mirrors)).0;
      complete = fault_completes old.places t (Err c.in_err-try_pass.field-0.0) old (λ x told it mirrors unfailed.
          ((tries x it t (so.begins old.places x it refl told mirrors)).0 unfailed).is);
    })

pub returns-in_err-try_pass-clause-goes_on : goal.returns-in_err-try_pass-clause-goes_on
returns-in_err-try_pass-clause-goes_on g c =
    let old = g.C.Chip.told c.args.chip.now in
    let mid = g.C.Chip.told c.passes.chip in
    let new = g.C.Chip.told c.try_pass.new.chip in
    let t = tables_of c.args.parts.now in
    let between = tables_of c.passes.parts in
    let after = tables_of c.try_pass.new.parts in
    let before = c.passes.turns in
    let ended = c.try_pass.new.turns in
    let fault = c.in_err-try_pass.field-0.0 in
    let all = walks_then {S = Unit {0}} {T = Unit {0}} tt c.none-turns.result before ended t between after old
    mid new (Err fault) c.passes.invariant.walks
    (walks_failed {S = Bool} {T = Unit {0}} fault before ended between after mid new c.in_err-try_pass.ensures.walks) in
    let e = err_from_is_err_and c.from_residual.result c.from_residual.ensures.1 in
    rw (e.1 ∙ ap Err e.2) all.goes_on

pub returns-in_err-try_pass-clause-steps : goal.returns-in_err-try_pass-clause-steps
returns-in_err-try_pass-clause-steps g c = λ places same.
    let old = g.C.Chip.told c.args.chip.now in
    let mid = g.C.Chip.told c.passes.chip in
    let new = g.C.Chip.told c.try_pass.new.chip in
    let t = tables_of c.args.parts.now in
    let between = tables_of c.passes.parts in
    let after = tables_of c.try_pass.new.parts in
    let before = c.passes.turns in
    let ended = c.try_pass.new.turns in
    let fault = c.in_err-try_pass.field-0.0 in
    let all = walks_then {S = Unit {0}} {T = Unit {0}} tt c.none-turns.result before ended t between after old
    mid new (Err fault) c.passes.invariant.walks
    (walks_failed {S = Bool} {T = Unit {0}} fault before ended between after mid new c.in_err-try_pass.ensures.walks) in
    let e = err_from_is_err_and c.from_residual.result c.from_residual.ensures.1 in
    rw (e.1 ∙ ap Err e.2) (subst (λ (q : ℕ). KeepsInSteps q t after old (Err fault) new) same all.steps)

pub returns-in_err-try_pass-clause-leaves : goal.returns-in_err-try_pass-clause-leaves
returns-in_err-try_pass-clause-leaves g c =
    let old = g.C.Chip.told c.args.chip.now in
    let mid = g.C.Chip.told c.passes.chip in
    let new = g.C.Chip.told c.try_pass.new.chip in
    let t = tables_of c.args.parts.now in
    let between = tables_of c.passes.parts in
    let after = tables_of c.try_pass.new.parts in
    let before = c.passes.turns in
    let ended = c.try_pass.new.turns in
    let fault = c.in_err-try_pass.field-0.0 in
    let all = walks_then {S = Unit {0}} {T = Unit {0}} tt c.none-turns.result before ended t between after old
    mid new (Err fault) c.passes.invariant.walks
    (walks_failed {S = Bool} {T = Unit {0}} fault before ended between after mid new c.in_err-try_pass.ensures.walks) in
    let e = err_from_is_err_and c.from_residual.result c.from_residual.ensures.1 in
    rw (e.1 ∙ ap Err e.2) (leaves_most c.none-turns.result ended t after (Err fault) old new
    (omega (arith, c.facts-2.ensures.units, c.facts-2.ensures.places)) all)

pub returns-clause-same : goal.returns-clause-same
returns-clause-same g c = λ is. absurd (false≢true (sym c.if-found.false ∙ is))

pub try_pass-requires-clause-room : goal.try_pass-requires-clause-room
try_pass-requires-clause-room g c = c.passes.invariant.room ∙ c.requires.room
    ∙ sym (ap (λ (s : StatusTable). s.most) c.passes.invariant.walks.leaves.holds.status)

pub returns-in_err-try_pass-clause-room : goal.returns-in_err-try_pass-clause-room
returns-in_err-try_pass-clause-room g c = c.try_pass.ensures.room ∙ c.passes.invariant.room

pub returns-clause-room : goal.returns-clause-room
returns-clause-room g c = c.try_pass.ensures.room ∙ c.passes.invariant.room
