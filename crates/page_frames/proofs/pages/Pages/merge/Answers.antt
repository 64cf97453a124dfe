use Rattle.std.proofs.Common.{slice_index, refl}
use Rattle.overflow.specs.Lists.{spots_in}
use Rattle.place_taking.specs.Spending.{SparesUsed}
use Rattle.selective_merge.specs.Moving.{tables_of}
use Rattle.selective_merge.proofs.UnbrokenLemmas.{tidies_settled, where_done}
use Rattle.page_frames.proofs.TableLemmas.{merge_upholds, merge_wears}
use Rattle.page_frames.proofs.CompleteLemmas.{merge_completes}
use Rattle.page_frames.proofs.TellLemmas.{MovesMerged, merged_tells, merged_tells_surely}
use Rattle.page_frames.specs.declared.pages.Pages.{Pages}
use Rattle.page_frames.specs.Pages.{tables_in}
use Rattle.selective_merge.proofs.CompleteLemmas.{merge_fails_so}
use Rattle.page_frames.proofs.pages.Pages.merge.Goals as goal

pub returns-clause-works : goal.returns-clause-works
returns-clause-works g c =
    let is = c.merge.ensures in
    let leaves = is.moves.leaves in
    let pages = c.args.self.now in
    let after : Pages = record { parts = c.merge.new.parts; pool = pages.pool } in
    let old = g.C.Chip.told c.args.chip.now in
    let new = g.C.Chip.told c.merge.new.chip in
    let place = slice_index c.merge.new.parts.directory.current c.args.unit in
    let moves : MovesMerged c.args.unit place pages after c.merge.result old new = record {
      active = leaves.holds.active;
      sized = leaves.accounts.counts.places;
      fault = is.fault;
      tells = is.tells;
      costs = is.moves.costs;
    } in record {
      upholds = merge_upholds c.args.unit pages after c.merge.result
          old new c.requires.ready refl leaves.holds is.tells is.steps
          (tidies_settled (tables_in pages) (tables_of c.merge.new.parts) c.merge.result old new leaves.tidy)
          (merge_wears old.places place
          (tables_in pages) (tables_of c.merge.new.parts) c.merge.result old new
          c.requires.ready.known leaves.holds
          (where_done (SparesUsed (tables_in pages).places old new) c.merge.result leaves.spares) is.moves.costs)
          leaves.draws
          (slice_index pages.parts.directory.current c.args.unit)
          (spots_in pages.parts.overflow c.args.unit) leaves.accounts;
      complete = merge_completes c.args.unit pages c.merge.result old c.requires.unit is.complete;
      faults = merged_tells c.args.unit place pages after c.merge.result old new
          (g.met.C.Chip.consistent c.args.chip.now) (g.met.C.Chip.consistent c.merge.new.chip)
          c.requires.ready.known c.requires.unit moves;
      surely = merged_tells_surely c.args.unit place pages after c.merge.result old new c.requires.unit moves;
    }

pub returns-clause-framed : goal.returns-clause-framed
returns-clause-framed g c = λ u page is. is

pub returns-clause-exact : goal.returns-clause-exact
returns-clause-exact g c =
    let told = g.C.Chip.told c.args.chip.now in
    merge_fails_so told.places (tables_in c.args.self.now) c.args.unit c.merge.result told
    c.merge.ensures.fault

pub returns-clause-room : goal.returns-clause-room
returns-clause-room g c = c.merge.ensures.moves.room

pub returns-clause-costs : goal.returns-clause-costs
returns-clause-costs g c = c.merge.ensures.moves.costs
