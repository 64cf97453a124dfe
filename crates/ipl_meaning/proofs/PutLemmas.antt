-- A chart with one sector put in where there was none.
use Rattle.std.proofs.Common.{◌≡◌, ◌≢◌, ◌⊎◌, ℕ, ◌<◌, Bool, Some, None, List, inl, inr, refl, sym, ◌∙◌, ap, All, eqb, ◌&&◌, arith}
use Rattle.std.proofs.lemmas.Bool.{cases_Bool, and_parts, and_from, eqb-true, eq-eqb, cond-true}
use Rattle.std.proofs.lemmas.List.Elements.{All-weaker}
use Rattle.chip_trait.specs.Chart.{with_sector}
use Rattle.ipl_format.specs.Sector.{Sector}
use Rattle.ipl_meaning.specs.Chart.{Chart, IsChosen, IsDataHeader, IsOverflow, IsLive}
use Rattle.ipl_format.specs.Page.{Slots}
use Rattle.ipl_meaning.specs.Values.{Values}
use Rattle.ipl_meaning.specs.Layout.{Shape, Entry, IsEntry, IsLog, IsUnit, IsCommitSector, IsCommitted, IsStatus, IsMark, AreMarks, Layout, ReadsWell}
use Rattle.ipl_meaning.specs.Stands.{Shows}
use Rattle.ipl_meaning.specs.Steps.{KeepsPages}

-- a chart that has all that c has shows the pages that c shows
pub shows_more : (c y : Chart) → ((p s : ℕ) (x : Sector) → c p s ≡ Some x → y p s ≡ Some x) → (committed : ℕ → Bool) (u : ℕ) (it : Shape) (page : ℕ) (now : Values) → Shows c committed u it page now → Shows y committed u it page now
shows_more c y more committed u it page now was = let r = was.reads in record {
  base = was.base;
  reads = record { fits = r.fits; cut = r.cut; here = λ i low. more _ _ _ (r.here i low) };
  says = was.says;
  room = was.room;
}

module _ (c : Chart) (p s : ℕ) (sector : Sector) (free : c p s ≡ None) where
  abbrev y : Chart
  y = with_sector c p s sector

  pub new_or_old : (q t : ℕ) (x : Sector) → y q t ≡ Some x → ((q ≡ p) × (t ≡ s) × (sector ≡ x)) ⊎ (c q t ≡ Some x)
  new_or_old q t x now = elim (cases_Bool (eqb p q && eqb s t)) [
    | inl here ↦
        let both = and_parts _ _ here in
        inl (sym (eqb-true _ _ both.0), sym (eqb-true _ _ both.1), let at : Some sector ≡ Some x = rw here at now in cc)
    | inr elsewhere ↦ inr (rw elsewhere at now)
  ]

  pub here : y p s ≡ Some sector
  here = cond-true _ _ _ (and_from _ _ (eq-eqb p p refl) (eq-eqb s s refl))

  pub kept : (q t : ℕ) (x : Sector) → c q t ≡ Some x → y q t ≡ Some x
  kept q t x was = elim (cases_Bool (eqb p q && eqb s t)) [
    | inl at ↦
        let both = and_parts _ _ at in
        let same_place : q ≡ p = sym (eqb-true _ _ both.0) in
        let same_number : t ≡ s = sym (eqb-true _ _ both.1) in
        let none : c q t ≡ None = rw (same_place, same_number) free in
        absurd (cc (was, none))
    | inr elsewhere ↦ rw elsewhere was
  ]

  -- a page reads well where it did so before
  pub reads_before : sector.kind ≢ 4 → (u : ℕ) (it : Shape) (page : ℕ) (base : Slots) → ReadsWell y u it page base → ReadsWell c u it page base
  reads_before other u it page base is = record {
    fits = is.fits;
    cut = is.cut;
    here = λ i within. elim (new_or_old it.home _ _ (is.here i within)) [
      | inl new ↦ absurd (other (ap (λ (x : Sector). x.kind) new.2))
      | inr old ↦ old
    ];
  }

  -- the pages are shown as before, and no more read well
  pub pages_still : (places : ℕ) (it : Layout) → sector.kind ≢ 4 → KeepsPages places c it y it
  pages_still places it other = record {
    shown = λ u page now low few was. shows_more c y kept it.committed u (it.units u) page now was;
    no_more = λ u page base low few is. (base, reads_before other u (it.units u) page base is);
  }

  -- a header that counts goes on counting where the new sector is no header of the kind
  pub chosen_still : (places : ℕ) (Fits : Sector → Type 0) (home : ℕ) (head : Sector) → (s ≡ 0 → ¬ Fits sector) → IsChosen c places Fits home head → IsChosen y places Fits home head
  chosen_still places Fits home head unfit chosen = record {
    within = chosen.within;
    here = kept home 0 head chosen.here;
    fits = chosen.fits;
    best = λ q other low there fits. elim (new_or_old q 0 other there) [
      | inl new ↦ absurd (unfit (sym new.1) (rw new.2 fits))
      | inr old ↦ chosen.best q other low old fits
    ];
  }

  -- a new header that is of the kind, and beats all others, counts
  pub chosen_new : (places : ℕ) (Fits : Sector → Type 0) → s ≡ 0 → p < places → Fits sector → ((q : ℕ) (other : Sector) → q < places → c q 0 ≡ Some other → Fits other → other.serial < sector.serial) → IsChosen y places Fits p sector
  chosen_new places Fits header within fits newest = record {
    within = within;
    here = rw (← header) here;
    fits = fits;
    best = λ q other low there it_fits. elim (new_or_old q 0 other there) [
      | inl new ↦ inr (ap (λ (z : Sector). z.serial) (sym new.2), omega (arith, new.0))
      | inr old ↦ inl (newest q other low old it_fits)
    ];
  }

  pub live_still : (places u home generation q t : ℕ) (x : Sector) → IsLive c places u home generation q t x → IsLive y places u home generation q t x
  live_still places u home generation q t x live = record {
    here = kept q t x live.here;
    kind = live.kind;
    of_unit = live.of_unit;
    of_generation = live.of_generation;
    within = live.within;
    counts = elim live.counts [ inl at_home ↦ inl at_home | inr over ↦ inr ((over.0.0, kept q 0 _ over.0.1, over.0.2), over.1) ];
  }

  pub entries_still : (places u home generation : ℕ) (log : List Entry) → All (IsEntry c places u home generation) log → All (IsEntry y places u home generation) log
  entries_still places u home generation log each =
      All-weaker _ _ (λ (e : Entry) (was : IsEntry c places u home generation e). let now : IsEntry y places u home generation e = record { live = live_still places u home generation e.place e.number e.sector was.live; records = was.records } in now) log each

  module _ (no_overflow : s ≡ 0 → sector.kind ≢ 3) where
    overflow_before : (q : ℕ) → IsOverflow y q → IsOverflow c q
    overflow_before q over = elim (new_or_old q 0 over.0 over.1) [
      | inl new ↦ absurd (no_overflow (sym new.1) (ap (λ (z : Sector). z.kind) new.2 ∙ over.2))
      | inr old ↦ (over.0, old, over.2)
    ]

    pub live_before : (places u home generation q t : ℕ) (x : Sector) → IsLive y places u home generation q t x → c q t ≡ Some x → IsLive c places u home generation q t x
    live_before places u home generation q t x live was = record {
      here = was;
      kind = live.kind;
      of_unit = live.of_unit;
      of_generation = live.of_generation;
      within = live.within;
      counts = elim live.counts [ inl at_home ↦ inl at_home | inr over ↦ inr (overflow_before q over.0, over.1) ];
    }

    -- where the new sector is no log sector of the unit, what is live was live
    pub live_back : (places u home generation : ℕ) → (sector.kind ≡ 5 → sector.unit ≢ u) → (q t : ℕ) (x : Sector) → IsLive y places u home generation q t x → IsLive c places u home generation q t x
    live_back places u home generation unlike q t x live = elim (new_or_old q t x live.here) [
      | inl new ↦ absurd (unlike (ap (λ (z : Sector). z.kind) new.2 ∙ live.kind) (ap (λ (z : Sector). z.unit) new.2 ∙ live.of_unit))
      | inr old ↦ live_before places u home generation q t x live old
    ]

  -- a log of whose unit nothing new is live
  pub log_still : (places u home generation : ℕ) (log : List Entry) → ((q t : ℕ) (x : Sector) → IsLive y places u home generation q t x → IsLive c places u home generation q t x)
      → IsLog c places u home generation log → IsLog y places u home generation log
  log_still places u home generation log back was = record {
    each = entries_still places u home generation log was.each;
    all = λ q t x live. was.all q t x (back q t x live);
    rising = was.rising;
    spots = was.spots;
    few = was.few;
    listed = was.listed;
  }

  -- a unit of which the new sector is neither the header nor a live sector
  pub unit_still : (places count u : ℕ) (it : Shape) → (s ≡ 0 → ¬ IsDataHeader u sector) → ((q t : ℕ) (x : Sector) → IsLive y places u it.home it.head.generation q t x → IsLive c places u it.home it.head.generation q t x)
      → IsUnit c places count u it → IsUnit y places count u it
  unit_still places count u it unfit back unit = record {
    chosen = chosen_still places (IsDataHeader u) it.home it.head unfit unit.chosen;
    counts = unit.counts;
    log = log_still places u it.home it.head.generation it.log back unit.log;
  }

  pub commit_sector_still : (status generation t : ℕ) (x : Sector) → IsCommitSector c status generation t x → IsCommitSector y status generation t x
  commit_sector_still status generation t x w = record { here = kept status t x w.here; kind = w.kind; of_generation = w.of_generation; where_it_is = w.where_it_is }

  pub committed_still : (status generation tid : ℕ) → IsCommitted c status generation tid → IsCommitted y status generation tid
  committed_still status generation tid w = record { number = w.number; sector = w.sector; is = commit_sector_still status generation w.number w.sector w.is; numbers = w.numbers; spelled = w.spelled; has = w.has }

  pub mark_still : (status generation t : ℕ) (x : Sector) → IsMark c status generation t x → IsMark y status generation t x
  mark_still status generation t x w = record { here = kept status t x w.here; kind = w.kind; of_generation = w.of_generation; where_it_is = w.where_it_is }

  -- a status place that gets no new mark
  module _ (unmarked : sector.kind ≢ 7) (status generation : ℕ) where
    pub mark_before : (t : ℕ) (x : Sector) → IsMark y status generation t x → IsMark c status generation t x
    mark_before t x w = record {
      here = elim (new_or_old status t x w.here) [ inl new ↦ absurd (unmarked (ap (λ (z : Sector). z.kind) new.2 ∙ w.kind)) | inr old ↦ old ];
      kind = w.kind;
      of_generation = w.of_generation;
      where_it_is = w.where_it_is;
    }

    pub marks_still : (count : ℕ) → AreMarks c status generation count → AreMarks y status generation count
    marks_still count was t x w = was t x (mark_before t x w)

  -- a status place that gets no new commit sector
  module _ (other : sector.kind ≢ 6) (status generation : ℕ) where
    pub commit_sector_before : (t : ℕ) (x : Sector) → IsCommitSector y status generation t x → IsCommitSector c status generation t x
    commit_sector_before t x w = record {
      here = elim (new_or_old status t x w.here) [ inl new ↦ absurd (other (ap (λ (z : Sector). z.kind) new.2 ∙ w.kind)) | inr old ↦ old ];
      kind = w.kind;
      of_generation = w.of_generation;
      where_it_is = w.where_it_is;
    }

    pub status_still : (committed : ℕ → Bool) → IsStatus c status generation committed → IsStatus y status generation committed
    status_still committed was = record {
      spelled = λ t x w. was.spelled t x (commit_sector_before t x w);
      told = λ tid is_so. committed_still status generation tid (was.told tid is_so);
      all_told = λ tid w. was.all_told tid (record { number = w.number; sector = w.sector; is = commit_sector_before w.number w.sector w.is; numbers = w.numbers; spelled = w.spelled; has = w.has });
    }
