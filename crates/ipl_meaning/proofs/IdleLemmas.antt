-- A place at which nothing counts may change.
use Rattle.std.proofs.Common.{◌≡◌, ℕ, Some, None, eqb, true, false, ◌<◌, refl, inl, inr, sym, ◌∙◌, List, All, get_or, Bool}
use Rattle.std.proofs.lemmas.Bool.{cases_Bool, eqb-true, eq-eqb}
use Rattle.ipl_format.specs.Sector.{Sector}
use Rattle.ipl_meaning.specs.Chart.{Chart, Beats, IsChosen, IsDataHeader, IsStatusHeader, IsLive}
use Rattle.ipl_meaning.specs.Layout.{Shape, Entry, IsEntry, IsUnit, IsCommitSector, IsStatus, IsMark, Layout, Laid}
use Rattle.ipl_meaning.specs.Steps.{SameOff, KeepsPages, IsIdle, ComesToNothing}
use Rattle.ipl_meaning.specs.Laws.{IdlePlacesDoNotCount}

module _ (w : ℕ → Bool) (c y : Chart) (same : SameOff w c y) where
  -- a header that counts goes on counting where none at these places beats it
  chosen_still : (places : ℕ) (Fits : Sector → Type 0) (home : ℕ) (head : Sector) → w home ≡ false → IsChosen c places Fits home head
      → ((q : ℕ) (other : Sector) → w q ≡ true → q < places → y q 0 ≡ Some other → Fits other → Beats head home other q) → IsChosen y places Fits home head
  chosen_still places Fits home head away chosen beaten = record {
    within = chosen.within;
    here = same home 0 away ∙ chosen.here;
    fits = chosen.fits;
    best = λ q other low there fits. elim (cases_Bool (w q)) [
      | inl at ↦ beaten q other at low there fits
      | inr apart ↦ chosen.best q other low (sym (same q 0 apart) ∙ there) fits
    ];
  }

  -- a sector counts in the one chart as in the other, away from them
  live_forth : (places u home generation q s : ℕ) (sector : Sector) → w q ≡ false → IsLive c places u home generation q s sector → IsLive y places u home generation q s sector
  live_forth places u home generation q s sector away live = record {
    here = same q s away ∙ live.here;
    kind = live.kind;
    of_unit = live.of_unit;
    of_generation = live.of_generation;
    within = live.within;
    counts = elim live.counts [ inl at_home ↦ inl at_home | inr over ↦ inr ((over.0.0, same q 0 away ∙ over.0.1, over.0.2), over.1) ];
  }

  live_back : (places u home generation q s : ℕ) (sector : Sector) → w q ≡ false → IsLive y places u home generation q s sector → IsLive c places u home generation q s sector
  live_back places u home generation q s sector away live = record {
    here = sym (same q s away) ∙ live.here;
    kind = live.kind;
    of_unit = live.of_unit;
    of_generation = live.of_generation;
    within = live.within;
    counts = elim live.counts [ inl at_home ↦ inl at_home | inr over ↦ inr ((over.0.0, sym (same q 0 away) ∙ over.0.1, over.0.2), over.1) ];
  }

  module _ (places u : ℕ) (it : Shape) (away : w it.home ≡ false) (none : (q s : ℕ) (sector : Sector) → w q ≡ true → ¬ IsLive c places u it.home it.head.generation q s sector)
      (nothing : (q s : ℕ) (sector : Sector) → w q ≡ true → ¬ IsLive y places u it.home it.head.generation q s sector) where
    not_there : (e : Entry) → IsEntry c places u it.home it.head.generation e → w e.place ≡ false
    not_there e was = elim (cases_Bool (w e.place)) [ inl at ↦ absurd (none e.place e.number e.sector at was.live) | inr off ↦ off ]

    entries_still : (log : List Entry) → All (IsEntry c places u it.home it.head.generation) log → All (IsEntry y places u it.home it.head.generation) log
    entries_still log each = λ k d low. let e = get_or log k d in let was = each k d low in
        record { live = live_forth places u it.home it.head.generation e.place e.number e.sector (not_there e was) was.live; records = was.records }

    unit_still : (count : ℕ) → ((q : ℕ) (head : Sector) → w q ≡ true → q < places → y q 0 ≡ Some head → IsDataHeader u head → Beats it.head it.home head q) → IsUnit c places count u it → IsUnit y places count u it
    unit_still count beaten unit = record {
      chosen = chosen_still places (IsDataHeader u) it.home it.head away unit.chosen beaten;
      counts = unit.counts;
      log = let log = unit.log in record {
        each = entries_still it.log log.each;
        all = λ q s sector live. elim (cases_Bool (w q)) [
          | inl at ↦ absurd (nothing q s sector at live)
          | inr apart ↦ log.all q s sector (live_back places u it.home it.head.generation q s sector apart live)
        ];
        rising = log.rising;
        spots = log.spots;
        few = log.few;
        listed = log.listed;
      };
    }

  module _ (status generation : ℕ) (away : w status ≡ false) where
    commit_forth : (s : ℕ) (sector : Sector) → IsCommitSector c status generation s sector → IsCommitSector y status generation s sector
    commit_forth s sector is = record { here = same status s away ∙ is.here; kind = is.kind; of_generation = is.of_generation; where_it_is = is.where_it_is }

    commit_back : (s : ℕ) (sector : Sector) → IsCommitSector y status generation s sector → IsCommitSector c status generation s sector
    commit_back s sector is = record { here = sym (same status s away) ∙ is.here; kind = is.kind; of_generation = is.of_generation; where_it_is = is.where_it_is }

    pub mark_back : (s : ℕ) (sector : Sector) → IsMark y status generation s sector → IsMark c status generation s sector
    mark_back s sector is = record { here = sym (same status s away) ∙ is.here; kind = is.kind; of_generation = is.of_generation; where_it_is = is.where_it_is }

    status_still : (committed : ℕ → Bool) → IsStatus c status generation committed → IsStatus y status generation committed
    status_still committed was = record {
      spelled = λ s sector is. was.spelled s sector (commit_back s sector is);
      told = λ tid is_so. let is = was.told tid is_so in record { number = is.number; sector = is.sector; is = commit_forth is.number is.sector is.is; numbers = is.numbers; spelled = is.spelled; has = is.has };
      all_told = λ tid is. was.all_told tid (record { number = is.number; sector = is.sector; is = commit_back is.number is.sector is.is; numbers = is.numbers; spelled = is.spelled; has = is.has });
    }

  -- where all these places are idle
  module _ (places : ℕ) (it : Layout) (laid : Laid places c it) (idle : (q : ℕ) → w q ≡ true → IsIdle places c it q)
      (nothing : (q : ℕ) → w q ≡ true → q < places → ComesToNothing places y it q) where
    status_off : w it.status ≡ false
    status_off = elim (cases_Bool (w it.status)) [ inl at ↦ absurd ((idle it.status at).not_status refl) | inr off ↦ off ]

    home_off : (u : ℕ) → u < it.count → w (it.units u).home ≡ false
    home_off u low = elim (cases_Bool (w (it.units u).home)) [ inl at ↦ absurd ((idle (it.units u).home at).not_home u low refl) | inr off ↦ off ]

    pub these_do_not_count : Laid places y it × KeepsPages places c it y it
    these_do_not_count = (
      record {
        least = laid.least;
        most = laid.most;
        count = laid.count;
        chosen = chosen_still places IsStatusHeader it.status it.head status_off laid.chosen (λ q other at low there fits. (nothing q at low).status other there fits);
        counts = laid.counts;
        commits = status_still it.status it.head.generation status_off it.committed laid.commits;
        marks = λ s sector is. laid.marks s sector (mark_back it.status it.head.generation status_off s sector is);
        each = λ u low. unit_still places u (it.units u) (home_off u low) (λ q s sector at live. (idle q at).no_live u low s sector live)
            (λ q s sector at live. (nothing q at live.within.0).no_live u low s sector live)
            it.count (λ q head at within there fits. (nothing q at within).unit_header u low head there fits) (laid.each u low);
        overflows = laid.overflows;
        two = laid.two;
        in_overflow = laid.in_overflow;
      },
      record {
        shown = λ u page now low few was. let r = was.reads in record {
          base = was.base;
          reads = record { fits = r.fits; cut = r.cut; here = λ i within. same (it.units u).home _ (home_off u low) ∙ r.here i within };
          says = was.says;
          room = was.room;
        };
        no_more = λ u page base low few r. (base, record { fits = r.fits; cut = r.cut; here = λ i within. sym (same (it.units u).home _ (home_off u low)) ∙ r.here i within });
      },
    )

pub idle_places_do_not_count : IdlePlacesDoNotCount
idle_places_do_not_count places c it p y laid idle same nothing =
    let at : (q : ℕ) → eqb p q ≡ true → p ≡ q = λ q is. eqb-true p q is in
    these_do_not_count (eqb p) c y (λ q s off. same q s (λ is. let on : eqb p q ≡ true = eq-eqb p q (sym is) in cc (on, off))) places it laid
    (λ q is. rw (← at q is) idle) (λ q is within. rw (← at q is) nothing)

-- a place without a header is idle, whatever is put there but a header
module _ (places : ℕ) (c : Chart) (it : Layout) (p : ℕ) (laid : Laid places c it) (bare : c p 0 ≡ None) where
  pub bare_is_idle : IsIdle places c it p
  bare_is_idle = record {
    not_status = λ is. let head_there = laid.chosen.here in let none : c it.status 0 ≡ None = rw is bare in cc (head_there, none);
    not_home = λ u low is. let head_there = (laid.each u low).chosen.here in let none : c (it.units u).home 0 ≡ None = rw is bare in cc (head_there, none);
    no_live = λ u low s sector live. elim live.counts [
      | inl at_home ↦ let head_there = (laid.each u low).chosen.here in let none : c (it.units u).home 0 ≡ None = rw (← at_home.0) bare in cc (head_there, none)
      | inr over ↦ let there = over.0.1 in cc (there, bare)
    ];
  }

  pub bare_comes_to_nothing : (y : Chart) → y p 0 ≡ None → ComesToNothing places y it p
  bare_comes_to_nothing y none = record {
    unit_header = λ u low head there. absurd (cc (there, none));
    status = λ head there. absurd (cc (there, none));
    no_live = λ u low s sector live. elim live.counts [
      | inl at_home ↦ bare_is_idle.not_home u low (sym at_home.0)
      | inr over ↦ let there = over.0.1 in cc (there, none)
    ];
  }
