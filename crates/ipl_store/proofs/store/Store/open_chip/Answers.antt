use Rattle.std.proofs.Common.{◌≡◌, ℕ, length, true, false, Result, Ok, Err, refl, sym, ◌∙◌, subst}
use Rattle.std.proofs.lemmas.Result.{err_from_is_err_and}
use Rattle.ipl_base.specs.Places.{KeepsUnits}
use Rattle.ipl_base.specs.declared.fault.ImageFault.{ImageFault}
use Rattle.restart.specs.Looks.{AreTooMany, numbers_in}
use Rattle.restart.specs.Recovers.{CompletesOpening}
use Rattle.ipl_store.specs.declared.store.Store.{Store}
use Rattle.ipl_store.specs.Calls.{memory_of_store, IsMade}
use Rattle.ipl_store.specs.Openings.{IsJustOpened}
use Rattle.ipl_store.proofs.FitLemmas.{never_many}
use Rattle.ipl_store.proofs.OpeningLemmas.{recovered, made_recovered, fresh_sound, fresh_opens, fresh_restarts}
use Rattle.ipl_store.proofs.store.Store.open_chip.Given.{Over}
use Rattle.ipl_store.proofs.store.Store.open_chip.Goals as goal

-- ---- it wasn't opened

pub returns-in_err-recovered-clause-sound : goal.returns-in_err-recovered-clause-sound
returns-in_err-recovered-clause-sound g c =
    let places = (g.C.Chip.told c.args.chip.now).places in
    let closed = c.forget.new.self in
    let made = c.forget.ensures.made places c.requires.sound.made in record {
      made = made_recovered places closed c.recover-recovered.new.parts
          c.recover-recovered.new.kept c.recover-recovered.new.scratch closed.units closed.down made
          c.recover-recovered.ensures.sized c.recover-recovered.ensures.room made.units;
      order = λ up.
          let no : true ≡ false = sym c.forget.ensures.down.0 ∙ up in absurd (cc no);
      count = λ up.
          let no : true ≡ false = sym c.forget.ensures.down.0 ∙ up in absurd (cc no);
    }

pub recover-recovered-requires-clause-room : goal.recover-recovered-requires-clause-room
recover-recovered-requires-clause-room g c =
    let made = c.forget.ensures.made (g.C.Chip.told c.args.chip.now).places c.requires.sound.made in
    made.room

pub returns-in_err-recovered-clause-opens : goal.returns-in_err-recovered-clause-opens
returns-in_err-recovered-clause-opens g c =
    let e = err_from_is_err_and c.from_residual.result c.from_residual.ensures.1 in
    rw e.1 (c.forget.ensures.down.0, c.forget.ensures.units)

pub returns-in_err-recovered-clause-tries : goal.returns-in_err-recovered-clause-tries
returns-in_err-recovered-clause-tries g c =
    let places = (g.C.Chip.told c.args.chip.now).places in
    let says = c.in_err-recovered.ensures in
    let old = g.C.Chip.told c.args.chip.now in
    let e = err_from_is_err_and c.from_residual.result c.from_residual.ensures.1 in
    rw (e.1, e.2) (record {
      tells = says.tells;
      steps = says.steps;
      looks = says.fails.looks;
      complete = subst (λ (n : ℕ). CompletesOpening n places (Err c.in_err-recovered.field-0.0) old) (sym says.room.0) says.fails.complete;
      unwritten = says.fails.unwritten;
      bytes = says.fails.bytes;
      tidy = says.leaves.tidy;
      marked = says.leaves.marked;
      costs = says.spends.costs;
      renewed = says.spends.renewed;
      accounts = says.leaves.accounts;
      all = says.sized.1;
      units = subst (λ (n : ℕ). KeepsUnits n
          (length c.recover-recovered.new.parts.directory.current)) says.sized.1
          c.facts-2.ensures.units;
    })

pub returns-in_err-recovered-clause-room : goal.returns-in_err-recovered-clause-room
returns-in_err-recovered-clause-room g c =
    let e = err_from_is_err_and c.from_residual.result c.from_residual.ensures.1 in
    let most = c.recover-recovered.ensures.room.0 ∙ c.forget.ensures.numbers in
    rw (e.1, e.2) (λ x told it state fits is. never_many it c.args.self.now.transactions.pages.parts.status told
    fits.mirrors.laid fits.mirrors.status.numbers c.facts.ensures
    (subst (λ (n : ℕ). AreTooMany n (numbers_in (g.C.Chip.told c.args.chip.now).places) (g.C.Chip.told c.args.chip.now)) most
    (c.in_err-recovered.ensures.leaves.accounts.cause.many is)))

-- ---- it was

-- as many units may be kept as its tables have
counted : (g : Over) (c : goal.After-self-2-1 g)
    → KeepsUnits (g.C.Chip.told c.args.chip.now).places c.units-self.result
counted g c = rw c.units-self.ensures (subst (λ (n : ℕ). KeepsUnits n
    (length c.recover-recovered.new.parts.directory.current)) c.recover-recovered.ensures.sized.1
    c.facts-2.ensures.units)

-- the store then
abbrev opened : (g : Over) (c : goal.After-self-2-1 g) → Store
opened g c = recovered c.forget.new.self c.recover-recovered.new.parts c.recover-recovered.new.kept
    c.recover-recovered.new.scratch c.units-self.result false

made : (g : Over) (c : goal.After-self-2-1 g)
    → IsMade (g.C.Chip.told c.args.chip.now).places (opened g c)
made g c =
    let places = (g.C.Chip.told c.args.chip.now).places in
    made_recovered places c.forget.new.self c.recover-recovered.new.parts
    c.recover-recovered.new.kept c.recover-recovered.new.scratch c.units-self.result false
    (c.forget.ensures.made places c.requires.sound.made) c.recover-recovered.ensures.sized
    c.recover-recovered.ensures.room (counted g c)

fresh : (g : Over) (c : goal.After-self-2-1 g) → IsJustOpened (opened g c)
fresh g c = record { up = refl; unclosed = c.forget.ensures.down.1; idle = c.forget.ensures.idle; empty = c.forget.ensures.empty }

pub returns-clause-sound : goal.returns-clause-sound
returns-clause-sound g c =
    fresh_sound (g.C.Chip.told c.args.chip.now).places (opened g c) (made g c) (fresh g c) c.forget.ensures.few
    c.in_ok-recovered.ensures.leaves.holds (sym c.units-self.ensures)

pub returns-clause-opens : goal.returns-clause-opens
returns-clause-opens g c =
    let old = g.C.Chip.told c.args.chip.now in
    let says = c.in_ok-recovered.ensures in
    fresh_opens old.places (opened g c) (made g c) (fresh g c) c.forget.ensures.few says.leaves.holds (sym c.units-self.ensures)
    c.args.marks old
    (g.C.Chip.told c.recover-recovered.new.chip) says.tells says.steps says.leaves.number says.leaves.left

pub returns-clause-tries : goal.returns-clause-tries
returns-clause-tries g c =
    let says = c.in_ok-recovered.ensures in
    let old = g.C.Chip.told c.args.chip.now in record {
      tells = says.tells;
      steps = says.steps;
      looks = says.fails.looks;
      complete = subst (λ (n : ℕ). CompletesOpening n old.places (Ok tt) old) (sym says.room.0) says.fails.complete;
      unwritten = says.fails.unwritten;
      bytes = says.fails.bytes;
      tidy = says.leaves.tidy;
      marked = says.leaves.marked;
      costs = says.spends.costs;
      renewed = says.spends.renewed;
      accounts = says.leaves.accounts;
      all = says.sized.1;
      units = subst (λ (n : ℕ). KeepsUnits n
          (length c.recover-recovered.new.parts.directory.current)) says.sized.1
          c.facts-2.ensures.units;
    }

pub returns-clause-leads : goal.returns-clause-leads
returns-clause-leads g c = λ unmarked.
    let old = g.C.Chip.told c.args.chip.now in
    fresh_restarts old.places (opened g c) (made g c) (fresh g c) c.forget.ensures.few c.in_ok-recovered.ensures.leaves.holds
    (sym c.units-self.ensures) c.args.marks unmarked (memory_of_store c.args.self.now) old
    (g.C.Chip.told c.recover-recovered.new.chip) refl c.in_ok-recovered.ensures.tells
    c.in_ok-recovered.ensures.steps
