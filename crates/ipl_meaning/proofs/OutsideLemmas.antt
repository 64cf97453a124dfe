-- What stands outside a chip does not count.
use Rattle.std.proofs.Common.{ℕ, ◌<◌, ◌≤◌, Bool, inl, inr, sym, ◌∙◌, arith, get_or, slice_index}
use Rattle.std.proofs.lemmas.List.Elements.{All-get_or}
use Rattle.ipl_format.specs.Sector.{Sector}
use Rattle.ipl_format.specs.Header.{IsCount}
use Rattle.ipl_meaning.specs.Chart.{Chart, IsChosen, IsDataHeader, IsStatusHeader, IsLive}
use Rattle.ipl_meaning.specs.Layout.{Shape, IsUnit, IsCommitSector, IsStatus, IsMark}
use Rattle.ipl_meaning.specs.Steps.{SameWithin}
use Rattle.ipl_meaning.specs.Laws.{OutsideDoesNotCount}

module _ (places : ℕ) (c y : Chart) (same : SameWithin places c y) where
  chosen_same : (Fits : Sector → Type 0) (p : ℕ) (head : Sector) → IsChosen c places Fits p head → IsChosen y places Fits p head
  chosen_same Fits p head chosen = record {
    within = chosen.within;
    here = same p 0 chosen.within (omega arith) ∙ chosen.here;
    fits = chosen.fits;
    best = λ q other low there fits. chosen.best q other low (sym (same q 0 low (omega arith)) ∙ there) fits;
  }

  pub live_forth : (u home generation p s : ℕ) (x : Sector) → IsLive c places u home generation p s x → IsLive y places u home generation p s x
  live_forth u home generation p s x live = record {
    here = same p s live.within.0 live.within.1 ∙ live.here;
    kind = live.kind;
    of_unit = live.of_unit;
    of_generation = live.of_generation;
    within = live.within;
    counts = elim live.counts [ inl at_home ↦ inl at_home | inr over ↦ inr ((over.0.0, same p 0 live.within.0 (omega arith) ∙ over.0.1, over.0.2), over.1) ];
  }

  pub live_back : (u home generation p s : ℕ) (x : Sector) → IsLive y places u home generation p s x → IsLive c places u home generation p s x
  live_back u home generation p s x live = record {
    here = sym (same p s live.within.0 live.within.1) ∙ live.here;
    kind = live.kind;
    of_unit = live.of_unit;
    of_generation = live.of_generation;
    within = live.within;
    counts = elim live.counts [ inl at_home ↦ inl at_home | inr over ↦ inr ((over.0.0, sym (same p 0 live.within.0 (omega arith)) ∙ over.0.1, over.0.2), over.1) ];
  }

  unit_same : (count u : ℕ) (it : Shape) → IsUnit c places count u it → IsUnit y places count u it
  unit_same count u it unit = record {
    chosen = chosen_same (IsDataHeader u) it.home it.head unit.chosen;
    counts = unit.counts;
    log = let log = unit.log in record {
      each = λ k none low. let e = get_or it.log k none in let was = log.each k none low in record { live = live_forth u it.home it.head.generation e.place e.number e.sector was.live; records = was.records };
      all = λ p s x live. log.all p s x (live_back u it.home it.head.generation p s x live);
      rising = log.rising;
      spots = log.spots;
      few = log.few;
      listed = log.listed;
    };
  }

  module _ (status generation : ℕ) (low : status < places) where
    commit_forth : (s : ℕ) (x : Sector) → IsCommitSector c status generation s x → IsCommitSector y status generation s x
    commit_forth s x w = record { here = same status s low w.where_it_is.1 ∙ w.here; kind = w.kind; of_generation = w.of_generation; where_it_is = w.where_it_is }

    pub commit_back : (s : ℕ) (x : Sector) → IsCommitSector y status generation s x → IsCommitSector c status generation s x
    commit_back s x w = record { here = sym (same status s low w.where_it_is.1) ∙ w.here; kind = w.kind; of_generation = w.of_generation; where_it_is = w.where_it_is }

    pub mark_back : (s : ℕ) (x : Sector) → IsMark y status generation s x → IsMark c status generation s x
    mark_back s x w = record { here = sym (same status s low w.where_it_is.1) ∙ w.here; kind = w.kind; of_generation = w.of_generation; where_it_is = w.where_it_is }

    status_same : (committed : ℕ → Bool) → IsStatus c status generation committed → IsStatus y status generation committed
    status_same committed was = record {
      spelled = λ s x w. was.spelled s x (commit_back s x w);
      told = λ tid is_so. let w = was.told tid is_so in record { number = w.number; sector = w.sector; is = commit_forth w.number w.sector w.is; numbers = w.numbers; spelled = w.spelled; has = w.has };
      all_told = λ tid w. was.all_told tid (record { number = w.number; sector = w.sector; is = commit_back w.number w.sector w.is; numbers = w.numbers; spelled = w.spelled; has = w.has });
    }

pub outside_does_not_count : OutsideDoesNotCount
outside_does_not_count places c it y laid same = (
  record {
    least = laid.least;
    most = laid.most;
    count = laid.count;
    chosen = chosen_same places c y same IsStatusHeader it.status it.head laid.chosen;
    counts = laid.counts;
    commits = status_same places c y same it.status it.head.generation laid.chosen.within it.committed laid.commits;
    marks = λ s x w. laid.marks s x (mark_back places c y same it.status it.head.generation laid.chosen.within s x w);
    each = λ u low. unit_same places c y same it.count u (it.units u) (laid.each u low);
    overflows = laid.overflows;
    two = laid.two;
    in_overflow = laid.in_overflow;
  },
  record {
    shown = λ u page now low few was. let r = was.reads in let unit = laid.each u low in
        let most : slice_index (it.units u).pieces page ≤ 16 = All-get_or IsCount (it.units u).pieces page 0 (omega (arith, few, unit.counts.fifteen)) unit.counts.each in
        record {
          base = was.base;
          reads = record { fits = r.fits; cut = r.cut; here = λ i within. same (it.units u).home _ unit.chosen.within (omega (arith, few, within, most)) ∙ r.here i within };
          says = was.says;
          room = was.room;
        };
    no_more = λ u page base low few r. let unit = laid.each u low in
        let most : slice_index (it.units u).pieces page ≤ 16 = All-get_or IsCount (it.units u).pieces page 0 (omega (arith, few, unit.counts.fifteen)) unit.counts.each in
        (base, record { fits = r.fits; cut = r.cut; here = λ i within. sym (same (it.units u).home _ unit.chosen.within (omega (arith, few, within, most))) ∙ r.here i within });
  },
)
