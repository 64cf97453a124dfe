-- The close mark that counts, and its units, as they are found and as they are meant.
use Rattle.std.proofs.Common.{ℕ, zero, suc, ◌≡◌, ◌⊎◌, inl, inr, ⊎_elim, ◌+◌, ◌<◌, ◌≤◌, true, nat_lt, Option, Some, None, refl, sym, ◌∙◌, ap, ap₂, subst, arith, add-one, max}
use Rattle.std.proofs.lemmas.Bool.{cases_eq, cases_Bool, ltb-true, ltb-false, lt-ltb, leb-true, le-leb, eq-eqb, eqb-true, and_parts, and_from}
use Rattle.std.proofs.lemmas.Option.{same_Some}
use Rattle.ipl_format.specs.Sector.{Sector}
use Rattle.ipl_format.specs.Mark.{has_unit}
use Rattle.ipl_meaning.specs.Chart.{Chart}
use Rattle.ipl_meaning.specs.Layout.{Layout, Laid, IsMark}
use Rattle.ipl_meaning.specs.Marks.{IsLastMark, IsMarkedUnit}
use Rattle.ipl_meaning.specs.Chosen.{Winner, head_of, current_at, status_at}
use Rattle.ipl_meaning.specs.Live.{sectors, is_close_mark, commit_at, noted_at}
use Rattle.ipl_meaning.specs.LiveLaws.{IsStatusNote}
use Rattle.ipl_meaning.specs.Marked.{close_mark_at, later_close_mark, best_below, best_close_mark, serial_of, commit_serial, is_no_older, last_close_mark, is_marked_by}
use Rattle.ipl_meaning.specs.MarkedLaws.{LastMarksAreTold, MarkedUnitsAreTold}
use Rattle.ipl_meaning.proofs.FirstLemmas.{greatest_step}
use Rattle.ipl_meaning.proofs.BelowLemmas.{each-le, greatest_from}
use Rattle.ipl_meaning.proofs.LiveLemmas.{sectors_are, kept_from, kept_to, commit_from, commit_to, note_from, note_to}
use Rattle.ipl_meaning.proofs.NumberLemmas.{status_is, home_is}

-- ---- one step on

pub best_step : (f : ℕ → Option Sector) (n : ℕ) → best_below f (n + 1) ≡ later_close_mark (best_below f n) (f n)
best_step f n = rw add-one refl

pub commit_serial_step : (c : Chart) (status : Option Winner) (n : ℕ)
    → commit_serial c status (n + 1) ≡ max (commit_serial c status n) (serial_of (commit_at c status n))
commit_serial_step c status n = greatest_step 0 (λ s. serial_of (commit_at c status s)) n

-- ---- the best of several

-- the greatest serial, and on a tie the lowest number
record IsBest (f : ℕ → Option Sector) (n s : ℕ) (mark : Sector) : Type 0 where
  within : s < n
  here : f s ≡ Some mark
  best : (t : ℕ) (other : Sector) → t < n → f t ≡ Some other → (other.serial < mark.serial) ⊎ ((other.serial ≡ mark.serial) × (s ≤ t))

none_later : (o h : Option Sector) → later_close_mark o h ≡ None → (o ≡ None) × (h ≡ None)
none_later None None e = (refl, refl)
none_later None (Some mark) e = cc
none_later (Some best) None e = cc
none_later (Some best) (Some mark) e = elim (cases_Bool (nat_lt best.serial mark.serial)) [
  | inl more ↦ absurd (let some : Some mark ≡ None = rw more at e in cc some)
  | inr less ↦ absurd (let some : Some best ≡ None = rw less at e in cc some)
]

none_best : (f : ℕ → Option Sector) (n : ℕ) → best_below f n ≡ None → (t : ℕ) → t < n → f t ≡ None
none_best f zero e t low = absurd (omega arith)
none_best f (suc n) e t low =
    let parts = none_later (best_below f n) (f n) e in
    elim (cases_eq t n) [
      | inl same ↦ ap f same ∙ parts.1
      | inr apart ↦ none_best f n parts.0 t (omega arith)
    ]

-- the one before stays, and the new one doesn't beat it
keeps : (f : ℕ → Option Sector) (n s : ℕ) (best : Sector) → IsBest f n s best → ((other : Sector) → f n ≡ Some other → other.serial ≤ best.serial)
    → IsBest f (suc n) s best
keeps f n s best it last = record {
  within = omega (arith, it.within);
  here = it.here;
  best = λ t other low there. elim (cases_eq t n) [
    | inl same ↦
        let no_more : other.serial ≤ best.serial = last other (ap f (sym same) ∙ there) in
        let before : s < n = it.within in
        elim (cases_eq other.serial best.serial) [
          | inl tie ↦ inr (tie, omega arith)
          | inr apart ↦ inl (omega arith)
        ]
    | inr apart ↦ it.best t other (omega arith) there
  ];
}

-- the new one beats all
beats : (f : ℕ → Option Sector) (n : ℕ) (mark : Sector) → f n ≡ Some mark
    → ((t : ℕ) (other : Sector) → t < n → f t ≡ Some other → other.serial < mark.serial) → IsBest f (suc n) n mark
beats f n mark here all = record {
  within = omega arith;
  here = here;
  best = λ t other low there. elim (cases_eq t n) [
    | inl same ↦ inr (ap (λ (s : Sector). s.serial) (same_Some other mark (sym there ∙ (ap f same ∙ here))), omega arith)
    | inr apart ↦ inl (all t other (omega arith) there)
  ];
}

-- it stands somewhere
abbrev StandsBest : (ℕ → Option Sector) → ℕ → Sector → Type 0
StandsBest f n mark = (s : ℕ) × IsBest f n s mark

best_after : (f : ℕ → Option Sector) (n : ℕ) (mark : Sector) (o h : Option Sector) → best_below f n ≡ o → f n ≡ h
    → ((best : Sector) → o ≡ Some best → StandsBest f n best) → later_close_mark o h ≡ Some mark → StandsBest f (suc n) mark
best_after f n mark None None before at below is = cc
best_after f n mark None (Some new) before at below is =
    subst (StandsBest f (suc n)) (same_Some new mark is) (
      n,
      beats f n new at (λ t other low there.
          absurd (let none : None ≡ Some other = sym (none_best f n before t low) ∙ there in cc none)),
    )
best_after f n mark (Some best) None before at below is =
    let (s, it) = below best refl in
    subst (StandsBest f (suc n)) (same_Some best mark is)
    (s, keeps f n s best it (λ other there. absurd (let none : None ≡ Some other = sym at ∙ there in cc none)))
best_after f n mark (Some best) (Some new) before at below is =
    let (s, it) = below best refl in
    elim (cases_Bool (nat_lt best.serial new.serial)) [
      | inl more ↦
          let greater : best.serial < new.serial = ltb-true best.serial new.serial more in
          subst (StandsBest f (suc n)) (same_Some new mark (rw more at is)) (
            n,
            beats f n new at (λ t other low there.
                ⊎_elim (λ less. omega (arith, less, greater)) (λ tie. omega (arith, tie.0, greater)) (it.best t other low there)),
          )
      | inr less ↦
          subst (StandsBest f (suc n)) (same_Some best mark (rw less at is)) (
            s,
            keeps f n s best it (λ other there.
                subst (λ (x : Sector). x.serial ≤ best.serial) (same_Some new other (sym at ∙ there)) (ltb-false best.serial new.serial less)),
          )
    ]

best_from : (f : ℕ → Option Sector) (n : ℕ) (mark : Sector) → best_below f n ≡ Some mark → StandsBest f n mark
best_from f zero mark e = cc
best_from f (suc n) mark e = best_after f n mark (best_below f n) (f n) refl refl (best_from f n) e

-- there is one best at most
best_to : (f : ℕ → Option Sector) (n s : ℕ) (mark : Sector) → IsBest f n s mark → best_below f n ≡ Some mark
best_to f n s mark it = go (best_below f n) refl
  where
    go : (o : Option Sector) → best_below f n ≡ o → o ≡ Some mark
    go None e = absurd (let none : None ≡ Some mark = sym (none_best f n e s it.within) ∙ it.here in cc none)
    go (Some other) e =
        let (t, that) = best_from f n other e in
        let one = it.best t other that.within that.here in
        let two = that.best s mark it.within it.here in
        let same : t ≡ s = ⊎_elim (λ less. absurd (⊎_elim (λ more. omega (arith, less, more)) (λ tie. omega (arith, less, tie.0)) two))
        (λ tie. ⊎_elim (λ more. absurd (omega (arith, tie.0, more))) (λ other_tie. omega (arith, tie.1, other_tie.1)) two) one in
        sym that.here ∙ (ap f same ∙ it.here)

-- ---- close marks

close_from : (c : Chart) (status : Winner) (s : ℕ) (mark : Sector) → s < 256 → close_mark_at c (Some status) s ≡ Some mark
    → IsMark c status.place status.head.generation s mark
close_from c status s mark low is =
    let parts = kept_from is_close_mark (noted_at c (Some status) s) mark is in
    go (note_from c status s mark low parts.0) (eqb-true mark.kind 7 parts.1)
  where
    go : IsStatusNote c status s mark → mark.kind ≡ 7 → IsMark c status.place status.head.generation s mark
    go (inl commit) kind = absurd (omega (arith, kind, commit.kind))
    go (inr close) kind = close

close_to : (c : Chart) (status : Winner) (s : ℕ) (mark : Sector) → IsMark c status.place status.head.generation s mark
    → close_mark_at c (Some status) s ≡ Some mark
close_to c status s mark it =
    kept_to is_close_mark (noted_at c (Some status) s) mark (note_to c status s mark (inr it)) (eq-eqb mark.kind 7 it.kind)

-- ---- on a chart that is laid out

module _ (c : Chart) (places : ℕ) (it : Layout) (laid : Laid places c it) where
  abbrev status : Winner
  status = record { place = it.status; head = head_of places it.head }

  abbrev closes : ℕ → Option Sector
  closes = close_mark_at c (Some status)

  -- the serial of a commit sector, 0 where there is none
  abbrev serials : ℕ → ℕ
  serials s = serial_of (commit_at c (Some status) s)

  abbrev greatest : ℕ
  greatest = commit_serial c (Some status) sectors

  last_from : (mark : Sector) → last_close_mark c (Some status) ≡ Some mark → (s : ℕ) × IsLastMark c it s mark
  last_from mark is =
      let parts = kept_from (is_no_older greatest) (best_close_mark c (Some status) sectors) mark is in
      let (s, best) = best_from closes sectors mark parts.0 in
      let above : greatest ≤ mark.serial = leb-true greatest mark.serial parts.1 in (
        s,
        record {
          is = close_from c status s mark (omega (arith, best.within, sectors_are)) best.here;
          last = λ t other of_it. best.best t other (omega (arith, of_it.where_it_is, sectors_are)) (close_to c status t other of_it);
          ends = λ t sector of_it.
              let among : serials t ≤ greatest = each-le 0 serials sectors t (omega (arith, of_it.where_it_is, sectors_are)) in
              let own : serials t ≡ sector.serial = ap serial_of (commit_to c status t sector of_it) in
              omega (arith, among, own, above);
        },
      )

  -- no commit sector's serial is above the mark's
  not_above : (s t : ℕ) (mark : Sector) (o : Option Sector) → IsLastMark c it s mark → t < 256 → commit_at c (Some status) t ≡ o
      → serial_of o ≤ mark.serial
  not_above s t mark None last low is = omega arith
  not_above s t mark (Some sector) last low is = last.ends t sector (commit_from c status t sector low is)

  all_below : (s : ℕ) (mark : Sector) → IsLastMark c it s mark → greatest ≤ mark.serial
  all_below s mark last = elim (greatest_from 0 serials sectors) [
    | inl none ↦ omega (arith, none)
    | inr one ↦
        let low = not_above s one.0 mark (commit_at c (Some status) one.0) last (omega (arith, one.1, sectors_are)) refl in
        omega (arith, one.2, low)
  ]

  last_to : (s : ℕ) (mark : Sector) → IsLastMark c it s mark → last_close_mark c (Some status) ≡ Some mark
  last_to s mark last =
      kept_to (is_no_older greatest) (best_close_mark c (Some status) sectors) mark
      (best_to closes sectors s mark (record {
        within = let within = last.is.where_it_is in omega (arith, within, sectors_are);
        here = close_to c status s mark last.is;
        best = λ t other low here. last.last t other (close_from c status t other (omega (arith, low, sectors_are)) here);
      }))
      (le-leb greatest mark.serial (all_below s mark last))

  -- ---- its units

  module _ (u : ℕ) (low : u < it.count) where
    abbrev home : Winner
    home = record { place = (it.units u).home; head = head_of places (it.units u).head }

    marked_from : (o : Option Sector) → last_close_mark c (Some status) ≡ o → is_marked_by o u (Some home) ≡ true → IsMarkedUnit c it u
    marked_from None at is = absurd (cc is)
    marked_from (Some mark) at is =
        let parts = and_parts (has_unit mark.payload u) (nat_lt (it.units u).head.serial mark.serial) is in
        let (s, last) = last_from mark at in
        record { number = s; mark = mark; counts = last; has = parts.0; behind = ltb-true (it.units u).head.serial mark.serial parts.1 }

    marked_to : IsMarkedUnit c it u → is_marked_by (last_close_mark c (Some status)) u (Some home) ≡ true
    marked_to marked =
        ap (λ (o : Option Sector). is_marked_by o u (Some home)) (last_to marked.number marked.mark marked.counts)
        ∙ and_from _ _ marked.has (lt-ltb (it.units u).head.serial marked.mark.serial marked.behind)

    -- by what is found
    pub marked_here : is_marked_by (last_close_mark c (status_at c places)) u (current_at c places u)
        ≡ is_marked_by (last_close_mark c (Some status)) u (Some home)
    marked_here = ap₂ (λ (o h : Option Winner). is_marked_by (last_close_mark c o) u h) (status_is c places it laid) (home_is c places it laid u low)

pub last_marks_are_told : LastMarksAreTold
last_marks_are_told c places it mark laid =
    let same = ap (last_close_mark c) (status_is c places it laid) in (
      λ is. last_from c places it laid mark (sym same ∙ is),
      λ last. same ∙ last_to c places it laid last.0 mark last.1,
    )

pub marked_units_are_told : MarkedUnitsAreTold
marked_units_are_told c places it u laid low =
    let same = marked_here c places it laid u low in (
      λ is. marked_from c places it laid u low (last_close_mark c (Some (status c places it laid))) refl (sym same ∙ is),
      λ marked. same ∙ marked_to c places it laid u low marked,
    )
