use Rattle.std.proofs.Common.{false, ◌≡◌, ◌^◌, ℕ, List, Result, Ok, Err, IfErr, is_ok, sym, ◌∙◌, ap, subst, arith}
use Rattle.std.proofs.lemmas.Result.{err_from_is_err_and}
use Rattle.std.proofs.lemmas.List.Elements.{All-from_get_or}
use Rattle.chip_trait.specs.Told.{Counts, Told}
use Rattle.chip_trait.proofs.CountsLemmas.{counts_then}
use Rattle.ipl_base.specs.declared.fault.ChipFault.{ChipFault}
use Rattle.ipl_base.specs.declared.limits.TheConstants.{VERSION}
use Rattle.ipl_format.specs.Commit.{IsLong}
use Rattle.ipl_format.specs.Header.{AreRetired, IsWithin}
use Rattle.ipl_meaning.specs.Tables.{StatusTable}
use Rattle.number_set.specs.Flags.{Flags, has_flag, flagged, flagged_from}
use Rattle.number_set.proofs.FlagLemmas.{flagged_all}
use Rattle.unit_io.specs.Costs.{ProgramsAt}
use Rattle.unit_io.specs.Leads.{IsStopped}
use Rattle.unit_io.specs.Spots.{IsSpot}
use Rattle.unit_io.specs.Charts.{Charts}
use Rattle.unit_io.proofs.UnreadLemmas.{unread_then}
use Rattle.place_taking.specs.Fills.{FillsAt}
use Rattle.place_taking.proofs.JoinLemmas.{fills_at_most, fills_programs, fills_then}
use Rattle.txn_status.specs.Status.{parts_of}
use Rattle.txn_status.specs.Switching.{HasParts, IsPartSpot, IsStatusSpot}
use Rattle.unit_io.specs.Writing.{OnlyPrograms}
use Rattle.txn_status.specs.Writing.{LeadsParts, LeadsHeader, IsHeaded}
use Rattle.txn_status.proofs.RoomLemmas.{keeps_few}
use Rattle.txn_status.proofs.ListedLemmas.{lists_told}
use Rattle.txn_status.proofs.SwitchLemmas.{AreLong}
use Rattle.txn_status.proofs.SwitchedLemmas.{parts_failed, switched_in_steps, switches_told}
use Rattle.txn_status.proofs.TidyLemmas.{tidy_parts_only, tidy_switched}
use Rattle.txn_status.proofs.status.Status.switch.Goals as goal

-- why it failed, told from the beginning on
stopped_then : (result : Result (Unit {0}) ChipFault) (old mid new : Told) → Counts old mid
    → IfErr result (λ fault. IsStopped fault mid new) → IfErr result (λ fault. IsStopped fault old new)
stopped_then (Ok done) old mid new counts cause = tt
stopped_then (Err e) old mid new counts cause = (cause.0, omega (arith, counts.writes, cause.1))

-- the clause of the header's call, at the places of the first chip
header_leads : (places q p units erases : ℕ) (retired : List ℕ) (next : ℕ) (mid new : Told) (result : Result (Unit {0}) ChipFault)
    → q ≡ places → LeadsHeader q p units erases retired next mid result new
    → LeadsHeader places p units erases retired next mid result new
header_leads places q p units erases retired next mid new result at says =
    subst (λ (z : ℕ). LeadsHeader z p units erases retired next mid result new) at says

-- the parts were programmed, and the header or some of it
programs_switched : (p n : ℕ) (result : Result (Unit {0}) ChipFault) (old mid new : Told)
    → OnlyPrograms {T = Unit {0}} (ProgramsAt p 64 0 6) p (IsPartSpot n) (Ok tt) old mid
    → OnlyPrograms (ProgramsAt p 1 2 2) p (IsSpot 0) result mid new
    → OnlyPrograms (FillsAt p 2) p (IsStatusSpot n) result old new
programs_switched p n result old mid new first then = record {
  costs = fills_then p 0 2 old mid new (fills_programs p 64 0 6 old mid first.costs)
      (fills_programs p 1 2 2 mid new then.costs);
  tidy = tidy_switched p n (is_ok result) old mid new first.tidy then.tidy;
  unread = unread_then old mid new first.unread then.unread;
  accounts = record {
    counts = counts_then old mid new first.accounts.counts then.accounts.counts;
    cause = stopped_then result old mid new first.accounts.counts then.accounts.cause;
  };
}

abbrev write_failed : ChipFault → Result (Unit {0}) ChipFault
write_failed e = Err e

abbrev all_done : Result (Unit {0}) ChipFault
all_done = Ok tt

-- they fill as many sectors
same_parts : (flags : Flags) (it that : StatusTable) → it ≡ that
    → parts_of (flagged flags it.numbers) ≡ parts_of (flagged flags that.numbers)
same_parts flags it that same = ap (λ (s : StatusTable). parts_of (flagged flags s.numbers)) same

-- numbers of 64 bits that have a flag are of 64 bits
long_flagged : (bytes xs numbers : List ℕ) → xs ≡ numbers → AreLong xs
    → AreLong (flagged_from (has_flag bytes) 0 numbers)
long_flagged bytes xs numbers same each = subst (λ (l : List ℕ). AreLong (flagged_from (has_flag bytes) 0 l)) same
    (flagged_all IsLong (has_flag bytes) 0 xs each)

-- the chip still has as many places
pub seal_status-requires-clause-listed : goal.seal_status-requires-clause-listed
seal_status-requires-clause-listed g c =
    subst (λ (n : ℕ). AreRetired VERSION n c.args.header.now.units c.args.retired.now)
    (sym c.in_ok-write_parts.ensures.writes.accounts.counts.places) c.requires.listed

pub returns-in_err-write_parts-clause-steps : goal.returns-in_err-write_parts-clause-steps
returns-in_err-write_parts-clause-steps g c = λ h it t after m steady has fits ready switched.
    let kept = flagged c.args.kept.now c.args.self.now.numbers in
    let same : c.self.inside.numbers.list ≡ c.args.self.now.numbers =
    ap (λ (s : StatusTable). s.numbers) c.self.view_is in
    let old = g.C.Chip.told c.args.chip.now in
    let mid = g.C.Chip.told c.write_parts.new.chip in
    let next = c.args.generation in
    let each : AreLong kept =
    long_flagged c.args.kept.now.bytes c.self.inside.numbers.list c.args.self.now.numbers same
    (All-from_get_or IsLong c.self.inside.numbers.list 0 (λ i within. c.fit.ensures i within)) in
    let fault = c.in_err-write_parts.field-0.0 in
    let parts = c.in_err-write_parts.ensures in
    let says = subst (λ (z : ℕ). LeadsParts old.places c.args.place next z kept old (Err fault) mid)
    c.requires.last (subst (λ (l : List ℕ). LeadsParts old.places c.args.place next c.args.counter.now
    (flagged c.args.kept.now l) old (Err fault) mid) same parts.keeps) in
    let e = err_from_is_err_and c.from_residual.result c.from_residual.ensures.1 in
    let stopped : IsStopped e.0 old mid =
    (e.2 ∙ parts.writes.accounts.cause.0, parts.writes.accounts.cause.1) in
    rw e.1 (parts_failed old.places c.args.header.now.units c.args.header.now.erases c.args.retired.now c.args.self.now next c.args.place kept
    c.requires.place each (keeps_few c.args.self.now.most kept c.requires.fits) old mid mid h it t after m steady has fits ready switched fault e.0 says stopped)

pub returns-in_err-seal_status-clause-steps : goal.returns-in_err-seal_status-clause-steps
returns-in_err-seal_status-clause-steps g c = λ h it t after m steady has fits ready switched.
    let kept = flagged c.args.kept.now c.args.self.now.numbers in
    let same : c.self.inside.numbers.list ≡ c.args.self.now.numbers =
    ap (λ (s : StatusTable). s.numbers) c.self.view_is in
    let old = g.C.Chip.told c.args.chip.now in
    let mid = g.C.Chip.told c.write_parts.new.chip in
    let new = g.C.Chip.told c.seal_status.new.chip in
    let next = c.args.generation in
    let each : AreLong kept =
    long_flagged c.args.kept.now.bytes c.self.inside.numbers.list c.args.self.now.numbers same
    (All-from_get_or IsLong c.self.inside.numbers.list 0 (λ i within. c.fit.ensures i within)) in
    let fault = c.in_err-seal_status.field-0.0 in
    let parts = c.in_ok-write_parts.ensures in
    let seals = c.in_err-seal_status.ensures in
    let says = subst (λ (z : ℕ). LeadsParts old.places c.args.place next z kept old (Ok tt) mid)
    c.requires.last (subst (λ (l : List ℕ). LeadsParts old.places c.args.place next c.args.counter.now
    (flagged c.args.kept.now l) old (Ok tt) mid) same parts.keeps) in
    let header = header_leads old.places _ c.args.place c.args.header.now.units c.args.header.now.erases c.args.retired.now next mid new (Err fault)
    parts.writes.accounts.counts.places seals.keeps in
    let stopped : IsStopped fault old new = (
      seals.writes.accounts.cause.0,
      omega (arith, parts.writes.accounts.counts.writes, seals.writes.accounts.cause.1),
    ) in
    let e = err_from_is_err_and c.from_residual-in_err-seal_status.result
    c.from_residual-in_err-seal_status.ensures.1 in
    rw (e.1 ∙ ap Err e.2) (switched_in_steps old.places c.args.header.now.units c.args.header.now.erases c.args.retired.now c.args.self.now next
    c.args.place kept c.requires.place each (keeps_few c.args.self.now.most kept c.requires.fits) old mid new h it t after m steady has fits ready switched says
    (Err fault) header stopped)

pub returns-clause-steps : goal.returns-clause-steps
returns-clause-steps g c = λ h it t after m steady has fits ready switched.
    let kept = flagged c.args.kept.now c.args.self.now.numbers in
    let same : c.self.inside.numbers.list ≡ c.args.self.now.numbers =
    ap (λ (s : StatusTable). s.numbers) c.self.view_is in
    let old = g.C.Chip.told c.args.chip.now in
    let mid = g.C.Chip.told c.write_parts.new.chip in
    let new = g.C.Chip.told c.seal_status.new.chip in
    let next = c.args.generation in
    let each : AreLong kept =
    long_flagged c.args.kept.now.bytes c.self.inside.numbers.list c.args.self.now.numbers same
    (All-from_get_or IsLong c.self.inside.numbers.list 0 (λ i within. c.fit.ensures i within)) in
    let parts = c.in_ok-write_parts.ensures in
    let says = subst (λ (z : ℕ). LeadsParts old.places c.args.place next z kept old (Ok tt) mid)
    c.requires.last (subst (λ (l : List ℕ). LeadsParts old.places c.args.place next c.args.counter.now
    (flagged c.args.kept.now l) old (Ok tt) mid) same parts.keeps) in
    let header = header_leads old.places _ c.args.place c.args.header.now.units c.args.header.now.erases c.args.retired.now next mid new (Ok tt)
    parts.writes.accounts.counts.places c.in_ok-seal_status.ensures.keeps in
    switched_in_steps old.places c.args.header.now.units c.args.header.now.erases c.args.retired.now c.args.self.now next c.args.place kept
    c.requires.place each (keeps_few c.args.self.now.most kept c.requires.fits) old mid new h it t after m steady has fits ready switched says (Ok tt) header tt

pub returns-clause-switches : goal.returns-clause-switches
returns-clause-switches g c =
    let kept = flagged c.args.kept.now c.args.self.now.numbers in
    let same : c.self.inside.numbers.list ≡ c.args.self.now.numbers =
    ap (λ (s : StatusTable). s.numbers) c.self.view_is in
    let old = g.C.Chip.told c.args.chip.now in
    let mid = g.C.Chip.told c.write_parts.new.chip in
    let new = g.C.Chip.told c.seal_status.new.chip in
    let next = c.args.generation in
    let place = c.args.place in
    let each : AreLong kept =
    long_flagged c.args.kept.now.bytes c.self.inside.numbers.list c.args.self.now.numbers same
    (All-from_get_or IsLong c.self.inside.numbers.list 0 (λ i within. c.fit.ensures i within)) in
    let parts = subst (λ (z : ℕ). Charts (HasParts place next z kept (parts_of kept)) old mid)
    c.requires.last (subst (λ (l : List ℕ). Charts (HasParts place next c.args.counter.now
    (flagged c.args.kept.now l) (parts_of (flagged c.args.kept.now l))) old mid) same
    c.in_ok-write_parts.ensures.tells) in
    let header = c.args.header.now in
    let seal = subst (λ (n : ℕ). Charts (IsHeaded n place header.units header.erases c.args.retired.now next) mid new)
    c.in_ok-write_parts.ensures.writes.accounts.counts.places c.in_ok-seal_status.ensures.tells in
    switches_told old.places c.args.header.now.units c.args.header.now.erases c.args.retired.now c.args.self.now next place kept c.requires.place each
    (keeps_few c.args.self.now.most kept c.requires.fits) old mid new parts seal

pub returns-clause-lists : goal.returns-clause-lists
returns-clause-lists g c =
    let old = g.C.Chip.told c.args.chip.now in
    let mid = g.C.Chip.told c.write_parts.new.chip in
    let new = g.C.Chip.told c.seal_status.new.chip in
    let header = c.args.header.now in
    let retired = c.args.retired.now in
    let small = All-from_get_or (IsWithin (2 ^ 32)) retired 0
    (λ i within. omega (arith, c.type_inv.retired i)) in
    lists_told mid.places c.args.place header.units header.erases retired c.args.generation
    (flagged c.args.kept.now c.self.inside.numbers.list)
    (parts_of (flagged c.args.kept.now c.self.inside.numbers.list)) old mid new small
    (_, c.in_ok-write_parts.ensures.tells) c.in_ok-seal_status.ensures.tells

pub returns-in_err-write_parts-clause-writes : goal.returns-in_err-write_parts-clause-writes
returns-in_err-write_parts-clause-writes g c =
    let place = c.args.place in
    let w = c.in_err-write_parts.ensures.writes in
    let old = g.C.Chip.told c.args.chip.now in
    let mid = g.C.Chip.told c.write_parts.new.chip in
    let e = err_from_is_err_and c.from_residual.result c.from_residual.ensures.1 in
    rw (e.1 ∙ ap Err e.2) (subst (λ (n : ℕ). OnlyPrograms (FillsAt place 2) place (IsStatusSpot n)
    (write_failed c.in_err-write_parts.field-0.0) old mid) (same_parts c.args.kept.now _ _ c.self.view_is) (record {
      costs = fills_at_most place 0 2 old mid (omega arith)
          (fills_programs place 64 0 6 old mid w.costs);
      tidy = tidy_parts_only place (parts_of (flagged c.args.kept.now c.self.inside.numbers.list)) false false old mid w.tidy;
      unread = w.unread;
      accounts = w.accounts;
    }))

pub returns-in_err-seal_status-clause-writes : goal.returns-in_err-seal_status-clause-writes
returns-in_err-seal_status-clause-writes g c =
    let e = err_from_is_err_and c.from_residual-in_err-seal_status.result
    c.from_residual-in_err-seal_status.ensures.1 in
    rw (e.1 ∙ ap Err e.2) (subst (λ (n : ℕ). OnlyPrograms (FillsAt c.args.place 2) c.args.place (IsStatusSpot n)
    (write_failed c.in_err-seal_status.field-0.0) (g.C.Chip.told c.args.chip.now)
    (g.C.Chip.told c.seal_status.new.chip)) (same_parts c.args.kept.now _ _ c.self.view_is) (programs_switched c.args.place (parts_of (flagged c.args.kept.now c.self.inside.numbers.list))
    (Err c.in_err-seal_status.field-0.0) (g.C.Chip.told c.args.chip.now)
    (g.C.Chip.told c.write_parts.new.chip) (g.C.Chip.told c.seal_status.new.chip)
    c.in_ok-write_parts.ensures.writes c.in_err-seal_status.ensures.writes))

pub returns-clause-writes : goal.returns-clause-writes
returns-clause-writes g c =
    subst (λ (n : ℕ). OnlyPrograms (FillsAt c.args.place 2) c.args.place (IsStatusSpot n)
    all_done (g.C.Chip.told c.args.chip.now) (g.C.Chip.told c.seal_status.new.chip))
    (same_parts c.args.kept.now _ _ c.self.view_is)
    (programs_switched c.args.place (parts_of (flagged c.args.kept.now c.self.inside.numbers.list)) (Ok tt)
    (g.C.Chip.told c.args.chip.now) (g.C.Chip.told c.write_parts.new.chip)
    (g.C.Chip.told c.seal_status.new.chip)
    c.in_ok-write_parts.ensures.writes c.in_ok-seal_status.ensures.writes)
