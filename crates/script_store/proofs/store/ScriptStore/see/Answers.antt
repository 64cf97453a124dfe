use Rattle.std.proofs.Common.{Bor, List, ℕ, Option, option_map, Result, OnOk, sym, subst}
use Rattle.ipl_base.specs.Places.{home_of}
use Rattle.ipl_base.specs.declared.fault.StoreFault.{StoreFault}
use Rattle.page_frames.specs.Pages.{IsFramed}
use Rattle.ipl_store.specs.Calls.{get_fault}
use Rattle.ipl_store.specs.Shown.{IsSeen}
use Rattle.script_store.proofs.SeeLemmas.{found_calls, failed_calls}
use Rattle.script_store.proofs.store.ScriptStore.see.Goals as goal

pub returns-in-Ok-clause-calls : goal.returns-in-Ok-clause-calls
returns-in-Ok-clause-calls g c =
    let store = c.args.self.now.store in
    found_calls (option_map (λ (b : Bor (List ℕ)). b.now)) (get_fault store c.args.s c.args.n)
    (λ state. state) 14 store (g.C.Chip.told c.args.chip.now) c.get.result
    c.in-Ok.found c.copied.result c.get.follows.lender-at-none
    (g.C.Chip.told c.get.new.chip) c.in-Ok.is c.copied.ensures
    c.get.follows.holds-at-none.calls

pub returns-in-Ok-clause-seen : goal.returns-in-Ok-clause-seen
returns-in-Ok-clause-seen g c =
    subst (IsSeen c.args.s c.args.n c.args.self.now.store (g.C.Chip.told c.args.chip.now))
    (sym c.copied.ensures) c.in-Ok.ensures.seen.seen

pub returns-in-Err-clause-calls : goal.returns-in-Err-clause-calls
returns-in-Err-clause-calls g c =
    let store = c.args.self.now.store in
    failed_calls (option_map (λ (b : Bor (List ℕ)). b.now)) (get_fault store c.args.s c.args.n)
    (λ state. state) 14 store (g.C.Chip.told c.args.chip.now) c.get.result
    c.in-Err.fault c.get.follows.lender-at-none (g.C.Chip.told c.get.new.chip)
    c.in-Err.is c.get.follows.holds-at-none.calls

pub returns-in-Ok-clause-framed : goal.returns-in-Ok-clause-framed
returns-in-Ok-clause-framed g c =
    subst (λ (r : Result (Option (Bor (List ℕ))) StoreFault). OnOk r (IsFramed c.get.follows.lender-at-none.transactions.pages
    (home_of c.args.n).unit (home_of c.args.n).page)) c.in-Ok.is c.get.follows.holds-at-none.framed
