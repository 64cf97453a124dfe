-- A chart that has lost some sectors, but no header, has the same units at the same places.
use Rattle.std.proofs.Common.{◌≡◌, ℕ, ◌<◌, ◌≤◌, Option, Some, None, inl, inr, refl, sym, ◌∙◌, ap, subst, List, Bool, true, false}
use Rattle.std.proofs.lemmas.Bool.{cases_Bool}
use Rattle.ipl_format.specs.Sector.{Sector}
use Rattle.ipl_format.specs.Record.{Record}
use Rattle.ipl_format.proofs.HeaderOnceLemmas.{status_headers_spell_once}
use Rattle.ipl_meaning.specs.Chart.{Chart, IsChosen, IsDataHeader, IsStatusHeader}
use Rattle.ipl_meaning.specs.Layout.{IsCommitted, IsMark, Layout, Laid, IsLiveIn}
use Rattle.ipl_meaning.specs.Steps.{IsPart, SameOff, LeftAt, KeepsPages, IsIdle, ComesToNothing, MayLog}
use Rattle.ipl_meaning.specs.Laws.{LossesDoNotCount}
use Rattle.ipl_meaning.proofs.OnceLemmas.{chosen_once}
use Rattle.ipl_meaning.proofs.IdleLemmas.{these_do_not_count}

module _ (places : ℕ) (c h : Chart) (part : IsPart c h) (jt it : Layout) (less : Laid places c jt) (whole : Laid places h it) where
  chosen_there : (Fits : Sector → Type 0) (p : ℕ) (head : Sector) → IsChosen c places Fits p head → IsChosen h places Fits p head
  chosen_there Fits p head chosen = record {
    within = chosen.within;
    here = part.each p 0 head chosen.here;
    fits = chosen.fits;
    best = λ q other low there fits. chosen.best q other low (part.headers q ∙ there) fits;
  }

  pub same_status : (jt.status ≡ it.status) × (jt.head ≡ it.head)
  same_status = chosen_once h places IsStatusHeader _ _ _ _ (chosen_there IsStatusHeader jt.status jt.head less.chosen) whole.chosen

  -- the status header says how many units there are
  pub same_count : jt.count ≡ it.count
  same_count =
      let mine = rw same_status.1 at less.counts in
      (status_headers_spell_once it.head.version places it.head.payload jt.count it.count less.most mine whole.counts).same_units

  -- a unit of the part is one of the whole
  unit_there : (u : ℕ) → u < jt.count → u < it.count
  unit_there u low = rw same_count at low

  same_unit : (u : ℕ) → u < jt.count → ((jt.units u).home ≡ (it.units u).home) × ((jt.units u).head ≡ (it.units u).head)
  same_unit u low = chosen_once h places (IsDataHeader u) _ _ _ _ (chosen_there (IsDataHeader u) (jt.units u).home (jt.units u).head (less.each u low).chosen) (whole.each u (unit_there u low)).chosen

  -- what is live in the part is live in the whole
  live_there : (u : ℕ) → u < jt.count → (p s : ℕ) (sector : Sector) → IsLiveIn c places jt u p s sector → IsLiveIn h places it u p s sector
  live_there u low p s sector live = let unit = same_unit u low in record {
    here = part.each p s sector live.here;
    kind = live.kind;
    of_unit = live.of_unit;
    of_generation = live.of_generation ∙ ap (λ (z : Sector). z.generation) unit.1;
    within = live.within;
    counts = elim live.counts [ inl at_home ↦ inl (at_home.0 ∙ unit.0, at_home.1) | inr over ↦ inr ((over.0.0, part.each p 0 _ over.0.1, over.0.2), over.1) ];
  }

  committed_there : (tid : ℕ) → it.committed tid ≡ false → jt.committed tid ≡ false
  committed_there tid none = elim (cases_Bool (jt.committed tid)) [
    | inl is_so ↦
        let w = less.commits.told tid is_so in
        let told : IsCommitted h it.status it.head.generation tid = record {
          number = w.number;
          sector = w.sector;
          is = record {
            here = ap (λ (x : ℕ). h x w.number) (sym same_status.0) ∙ part.each jt.status w.number w.sector w.is.here;
            kind = w.is.kind;
            of_generation = w.is.of_generation ∙ ap (λ (z : Sector). z.generation) same_status.1;
            where_it_is = w.is.where_it_is;
          };
          numbers = w.numbers;
          spelled = w.spelled;
          has = w.has;
        } in
        let true_there = whole.commits.all_told tid told in absurd (cc)
    | inr is_not ↦ is_not
  ]

  -- a mark of the part is one of the whole
  pub mark_there : (s : ℕ) (mark : Sector) → IsMark c jt.status jt.head.generation s mark → IsMark h it.status it.head.generation s mark
  mark_there s mark w = record {
    here = ap (λ (x : ℕ). h x s) (sym same_status.0) ∙ part.each jt.status s mark w.here;
    kind = w.kind;
    of_generation = w.of_generation ∙ ap (λ (z : Sector). z.generation) same_status.1;
    where_it_is = w.where_it_is;
  }

  none_there : (p s : ℕ) → h p s ≡ None → c p s ≡ None
  none_there p s nothing = from (c p s) refl
    where
      from : (found : Option Sector) → c p s ≡ found → c p s ≡ None
      from None is = is
      from (Some x) is = absurd (let there = part.each p s x is in cc (there, nothing))

  -- what is idle in the whole is idle in the part
  pub idle_there : (p : ℕ) → IsIdle places h it p → IsIdle places c jt p
  idle_there p idle = record {
    not_status = λ is. idle.not_status (sym same_status.0 ∙ is);
    not_home = λ u low is. idle.not_home u (unit_there u low) (sym (same_unit u low).0 ∙ is);
    no_live = λ u low s sector live. idle.no_live u (unit_there u low) s sector (live_there u low p s sector live);
  }

  -- nothing that an idle place has, or had, comes to count
  pub nothing_left : (p : ℕ) (y : Chart) → IsIdle places h it p → ((s : ℕ) (sector : Sector) → y p s ≡ Some sector → h p s ≡ Some sector) → p < places → ComesToNothing places y jt p
  nothing_left p y idle some within = record {
    unit_header = λ u low head there fits.
        let beats = (whole.each u (unit_there u low)).chosen.best p head within (some 0 head there) fits in
        rw ((same_unit u low).0, (same_unit u low).1) beats;
    status = λ head there fits. rw (same_status.0, same_status.1) (whole.chosen.best p head within (some 0 head there) fits);
    no_live = λ u low s sector live.
        let there : IsLiveIn h places it u p s sector = record {
          here = some s sector live.here;
          kind = live.kind;
          of_unit = live.of_unit;
          of_generation = live.of_generation ∙ ap (λ (z : Sector). z.generation) (same_unit u low).1;
          within = live.within;
          counts = elim live.counts [ inl at_home ↦ inl (at_home.0 ∙ (same_unit u low).0, at_home.1) | inr over ↦ inr ((over.0.0, some 0 _ over.0.1, over.0.2), over.1) ];
        } in
        idle.no_live u (unit_there u low) s sector there;
  }

  -- a log sector that may join the whole may join the part
  pub may_log_there : (u p s : ℕ) (sector : Sector) (records : List Record) → MayLog places h it u p s sector records → MayLog places c jt u p s sector records
  may_log_there u p s sector records may = let low = rw (← same_count) at may.unit in let unit = same_unit u low in record {
    unit = low;
    free = none_there p s may.free;
    kind = may.kind;
    of_unit = may.of_unit;
    of_generation = may.of_generation ∙ ap (λ (z : Sector). z.generation) (sym unit.1);
    within = may.within;
    counts = elim may.counts [ inl at_home ↦ inl (at_home.0 ∙ sym unit.0, at_home.1) | inr over ↦ inr ((over.0.0, part.headers p ∙ over.0.1, over.0.2), over.1) ];
    spelled = may.spelled;
    waits = λ k none within. committed_there _ (may.waits k none within);
    last = λ q t other live. may.last q t other (live_there u low q t other live);
    unmarked = λ at s mark w has.
        let behind = may.unmarked (at ∙ unit.0) s mark (mark_there s mark w) has in
        subst (λ (head : Sector). mark.serial ≤ head.serial) (sym unit.1) behind;
    spots = may.spots;
    few = may.few;
    listed = λ q t other live away. may.listed q t other (live_there u low q t other live) (λ at_home. away (at_home ∙ sym unit.0));
    listed_here = λ away. may.listed_here (λ at_home. away (at_home ∙ sym unit.0));
    overflows = may.overflows;
    two = may.two;
    in_overflow = λ v q t other low live away. may.in_overflow v q t other (unit_there v low) (live_there v low q t other live) (λ at_home. away (at_home ∙ sym (same_unit v low).0));
    in_overflow_here = λ away. may.in_overflow_here (λ at_home. away (at_home ∙ sym unit.0));
  }

pub losses_do_not_count : LossesDoNotCount
losses_do_not_count places h c y it jt w whole less part idle same left =
    these_do_not_count w c y same places jt less (λ q on. idle_there places c h part jt it less whole q (idle q on))
    (λ q on within. nothing_left places c h part jt it less whole q y (idle q on) (λ s sector there. left q s sector on there) within)

itself : (c : Chart) → IsPart c c
itself c = record { each = λ p s sector there. there; headers = λ p. refl }

-- a place is idle in each layout of a chart, or in none
pub idle_once : (places : ℕ) (c : Chart) (it jt : Layout) → Laid places c it → Laid places c jt → (p : ℕ) → IsIdle places c it p → IsIdle places c jt p
idle_once places c it jt laid other p idle = idle_there places c c (itself c) jt it other laid p idle

-- the same layout, with nothing lost but at idle places
pub still_laid : (places : ℕ) (c y : Chart) (it : Layout) (w : ℕ → Bool) → Laid places c it → ((q : ℕ) → w q ≡ true → IsIdle places c it q) → SameOff w c y → LeftAt w c y
    → Laid places y it × KeepsPages places c it y it
still_laid places c y it w laid idle same left = losses_do_not_count places c c y it it w laid laid (itself c) idle same left

-- an idle place stays so where nothing changes there, and the units and the status stay where they are
pub idle_still : (places : ℕ) (c y : Chart) (it jt : Layout) (q : ℕ) → ((s : ℕ) → y q s ≡ c q s) → jt.status ≡ it.status
    → jt.count ≡ it.count → ((u : ℕ) → u < jt.count → ((jt.units u).home ≡ (it.units u).home) × ((jt.units u).head ≡ (it.units u).head)) → IsIdle places c it q → IsIdle places y jt q
idle_still places c y it jt q same status count units idle = record {
  not_status = λ is. idle.not_status (sym status ∙ is);
  not_home = λ u low is. idle.not_home u (rw count at low) (sym (units u low).0 ∙ is);
  no_live = λ u low s sector live. idle.no_live u (rw count at low) s sector (record {
    here = sym (same s) ∙ live.here;
    kind = live.kind;
    of_unit = live.of_unit;
    of_generation = live.of_generation ∙ ap (λ (z : Sector). z.generation) (units u low).1;
    within = live.within;
    counts = elim live.counts [ inl at_home ↦ inl (at_home.0 ∙ (units u low).0, at_home.1) | inr over ↦ inr ((over.0.0, sym (same 0) ∙ over.0.1, over.0.2), over.1) ];
  });
}
