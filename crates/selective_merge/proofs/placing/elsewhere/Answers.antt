use Rattle.std.proofs.Common.{[], inr}
use Rattle.unit_log.proofs.OftenLemmas.{often_none}
use Rattle.selective_merge.specs.Often.{base_of}
use Rattle.ipl_meaning.specs.Chart.{Chart}
use Rattle.ipl_meaning.specs.Layout.{Layout}
use Rattle.ipl_meaning.specs.Mirrors.{Mirrors}
use Rattle.unit_io.specs.ReadsAt.{Anywhere}
use Rattle.unit_io.proofs.ReadsAtLemmas.{at_none}
use Rattle.selective_merge.specs.Moving.{tables_of}
use Rattle.selective_merge.specs.Placing.{IsElsewhere, IsMergedSpot}
use Rattle.selective_merge.proofs.PlacingLemmas.{new_spot, elsewhere_clean, elsewhere_opened, elsewhere_merged}
use Rattle.selective_merge.proofs.LeavingLemmas.{finds_opened, finds_there}
use Rattle.selective_merge.proofs.RoomLemmas.{all_ok, if_ok, makes_none, told_none, makes_by_opening, places_behind, told_by_opening}
use Rattle.selective_merge.proofs.TakenLemmas.{opened_alone}
use Rattle.selective_merge.proofs.placing.elsewhere.Goals as goal

pub returns-in-Clean : goal.returns-in-Clean
returns-in-Clean g c =
    let told = g.C.Chip.told c.args.chip.now in
    let t = tables_of c.args.parts.now in
    let spot = c.in-Clean.spot in
    let clean = λ (x : Chart) (it : Layout) (mirrors : Mirrors told.places x it t).
    elsewhere_clean told.places x it t c.args.unit spot.place spot.sector c.in-Clean.ensures mirrors in record {
      tells = told_none IsElsewhere told.places c.args.unit t spot told clean;
      steps = makes_none IsElsewhere told.places c.args.unit t spot told clean;
      fault = λ x told it mirrors. tt;
      spot = inr c.in-Clean.ensures.0;
      finds = finds_there _ c.args.unit t spot told c.requires.ready.known;
    }

pub returns-in-NewPlace : goal.returns-in-NewPlace
returns-in-NewPlace g c =
    let old = g.C.Chip.told c.args.chip.now in
    let new = g.C.Chip.told c.open_overflow.new.chip in
    let t = tables_of c.args.parts.now in
    let after = tables_of c.open_overflow.new.parts in
    let u = c.args.unit in
    let opens = c.open_overflow.ensures in
    let result = c.open_overflow.result in
    let there = if_ok _ _ result
    (λ spot opened x y it mirrors keeps says. elsewhere_opened old.places x y it t after u spot.place spot.sector _
    c.in-NewPlace.ensures opened mirrors keeps says) opens.opened in record {
      tells = told_by_opening IsElsewhere old.places u t after old new result opens.tells there;
      steps = makes_by_opening IsElsewhere old.places u t after old new result opens.steps there;
      fault = λ x told it mirrors. opened_alone _ c.open_overflow.new.parts.directory old new result
          opens.leaves.accounts.cause;
      spot = if_ok _ _ result (λ spot opened. inr (new_spot t after u spot.place spot.sector _
          c.in-NewPlace.ensures.0 opened.0 opened.1)) opens.opened;
      finds = finds_opened _ u t after result old new opens.leaves opens.costs opens.unread;
    }

pub returns-in-Nothing : goal.returns-in-Nothing
returns-in-Nothing g c =
    let old = g.C.Chip.told c.args.chip.now in
    let t = tables_of c.args.parts.now in
    let after = tables_of c.merged_spot.new.parts in
    places_behind IsMergedSpot IsElsewhere Anywhere c.args.unit t after old old
    (g.C.Chip.told c.merged_spot.new.chip) (at_none Anywhere old) c.merged_spot.result [] (base_of t c.args.unit)
    (all_ok _ c.merged_spot.result (λ spot x y it told mirrors is. elsewhere_merged old.places _ y it t after
    c.args.unit spot.place spot.sector c.in-Nothing.ensures is.spot is.merged)) (often_none old) c.merged_spot.ensures
