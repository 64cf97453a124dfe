use Rattle.std.proofs.Common.{◌∙◌, refl, ap, arith}
use Rattle.ipl_meaning.specs.Tables.{Places, with_mask}
use Rattle.selective_merge.specs.Moving.{tables_of}
use Rattle.page_frames.proofs.SpotLemmas.{after_home, after_overflow, elsewhere_unused, elsewhere_within}
use Rattle.page_frames.proofs.records.use_spot.Goals as goal

pub add-requires-clause-few : goal.add-requires-clause-few
add-requires-clause-few c =
    (elsewhere_within (tables_of c.args.parts.now) c.args.unit c.args.spot.place c.args.spot.sector
    c.requires.spot (c.if-is_home.ensures.other refl) c.facts.ensures).0

pub add-requires-clause-place : goal.add-requires-clause-place
add-requires-clause-place c =
    (elsewhere_within (tables_of c.args.parts.now) c.args.unit c.args.spot.place c.args.spot.sector
    c.requires.spot (c.if-is_home.ensures.other refl) c.facts.ensures).1

pub add-requires-clause-sector : goal.add-requires-clause-sector
add-requires-clause-sector c =
    (elsewhere_within (tables_of c.args.parts.now) c.args.unit c.args.spot.place c.args.spot.sector
    c.requires.spot (c.if-is_home.ensures.other refl) c.facts.ensures).2

pub add-requires-clause-clean : goal.add-requires-clause-clean
add-requires-clause-clean c =
    elsewhere_unused (tables_of c.args.parts.now) c.args.unit c.args.spot.place c.args.spot.sector
    c.requires.spot (c.if-is_home.ensures.other refl)

pub returns-else-is_home : goal.returns-else-is_home
returns-else-is_home c =
    after_overflow (tables_of c.args.parts.now) _ c.args.unit c.args.spot.place c.args.spot.sector c.args.mask
    c.overflow_laws.ensures.adds c.requires.spot (c.if-is_home.ensures.other refl)
    c.requires.known.overflows_apart c.add.ensures refl refl refl refl

pub set_mask-requires-clause-least : goal.set_mask-requires-clause-least
set_mask-requires-clause-least c =
    let home = c.if-is_home.ensures.home refl in omega (arith, home.sector)

pub set_mask-requires-clause-most : goal.set_mask-requires-clause-most
set_mask-requires-clause-most c =
    let home = c.if-is_home.ensures.home refl in omega (arith, home.sector, home.left)

pub returns-then-is_home : goal.returns-then-is_home
returns-then-is_home c =
    let t = tables_of c.args.parts.now in
    after_home t _ c.args.unit c.args.spot.place c.args.spot.sector c.args.mask
    (c.if-is_home.ensures.home refl)
    (ap (λ (d : Places). record {
      places = d;
      overflow = t.overflow;
      status = t.status;
      next = t.next;
      active = t.active;
    }) (c.set_mask.ensures
    ∙ ap (λ (d : Places). with_mask d c.args.unit c.args.spot.sector c.args.mask) c.used_log.ensures))
