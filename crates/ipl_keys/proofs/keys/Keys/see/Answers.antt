use Rattle.std.proofs.Common.{Bor, List, ℕ, option_map, sym}
use Rattle.ipl_store.specs.Calls.{get_fault}
use Rattle.ipl_keys.proofs.ReadLemmas.{found_as, failed_as, page_reads}
use Rattle.ipl_keys.proofs.keys.Keys.see.Goals as goal

pub returns-in-Ok-clause-calls : goal.returns-in-Ok-clause-calls
returns-in-Ok-clause-calls g c =
    let store = c.args.self.now.store in
    found_as (get_fault store c.args.s c.args.n) (λ state. state) 14 store
    (g.C.Chip.told c.args.chip.now) c.get.result c.in-Ok.found c.copy.result
    c.get.follows.lender-at-none (g.C.Chip.told c.get.new.chip) c.in-Ok.is
    c.get.follows.holds-at-none.calls

pub returns-in-Err-clause-calls : goal.returns-in-Err-clause-calls
returns-in-Err-clause-calls g c =
    let store = c.args.self.now.store in
    failed_as (get_fault store c.args.s c.args.n) (λ state. state) 14 store
    (g.C.Chip.told c.args.chip.now) c.get.result c.in-Err.fault c.get.follows.lender-at-none
    (g.C.Chip.told c.get.new.chip) c.in-Err.is c.get.follows.holds-at-none.calls

pub returns-in-Ok-clause-seen : goal.returns-in-Ok-clause-seen
returns-in-Ok-clause-seen g c =
    let store = c.args.self.now.store in record {
      reads = page_reads (get_fault store c.args.s c.args.n) (λ state. state) 14 c.args.n store
          c.get.follows.lender-at-none (g.C.Chip.told c.args.chip.now) (g.C.Chip.told c.get.new.chip) c.get.result
          c.in-Ok.found c.in-Ok.is c.get.follows.holds-at-none.calls c.get.follows.holds-at-none.framed;
      found = option_map (λ (b : Bor (List ℕ)). b.now) c.in-Ok.found;
      seen = c.in-Ok.ensures.seen.seen;
      is = sym c.copy.ensures.front;
    }
