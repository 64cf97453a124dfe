use Rattle.ipl_meaning.specs.Rests.{EachStandsEither}
use Rattle.ipl_meaning.proofs.MarkProgramLemmas.{programs_keep_marks}
use Rattle.unit_io.specs.Leads.{RestsWith, RestsAdded}
use Rattle.unit_io.specs.Spots.{Programs, IsSpot}
use Rattle.unit_io.specs.Charts.{Gains}
use Rattle.unit_io.proofs.LeadsLemmas.{leads_sound, leads_weaker, count_nothing, nothing_is_unused}
use Rattle.unit_io.proofs.SealLemmas.{added_gains}
use Rattle.unit_io.proofs.WritingLemmas.{only_of_kind}
use Rattle.unit_io.proofs.commits.add_commit.Goals as goal

pub returns-clause-leads : goal.returns-clause-leads
returns-clause-leads g c = λ m n h steady rests closed fresh stands worn no_more.
    let p = c.args.spot.place in
    let s = c.args.spot.sector in
    let old = g.C.Chip.told c.args.chip.now in
    let Spots = Programs p (IsSpot s) in
    leads_weaker (EachStandsEither old.places m n) (EachStandsEither old.places m n) Spots Spots
    (λ done k. RestsAdded old.places n p s _ h k) (RestsWith old.places n (λ done. Gains p s _) h) h old _ _
    (λ k is. is) (λ done a is. is) (λ v k is. (is.rests, added_gains p s _ h k is.added))
    (leads_sound (EachStandsEither old.places m n) Spots (λ done k. RestsAdded old.places n p s _ h k) h old _ _ (nothing_is_unused h)
    (c.add_sector.ensures.leads count_nothing m n h steady rests closed fresh stands worn
    (λ _ bytes says. programs_keep_marks _ m h p s bytes _ rests closed fresh says worn no_more)))

pub returns-clause-writes : goal.returns-clause-writes
returns-clause-writes g c =
    only_of_kind c.args.spot.place 1 1 _ 6 (IsSpot c.args.spot.sector) _ _ _ c.requires.kind c.add_sector.ensures.writes
